use Rattle.graph.specs.Chain.{stops, goes_on, ends}
use Rattle.graph.proofs.reach_verdict.Goals as goal

pub returns-in_err-rule_14 : goal.returns-in_err-rule_14
returns-in_err-rule_14 c = stops _ c.in_err-rule_14.ensures c.from_residual.ensures.1

pub returns : goal.returns
returns c = goes_on _ c.in_ok-rule_14.ensures (ends c.rule_15.ensures)
