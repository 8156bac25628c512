use Rattle.graph.specs.Chain.{stops, goes_on, ends}
use Rattle.kernel.specs.Call.{start_stage}
use Rattle.kernel.proofs.start_stage.Goals as goal

pub returns-in_err-rule : goal.returns-in_err-rule
unfolding start_stage
returns-in_err-rule c = stops _ c.in_err-rule.ensures c.from_residual.ensures.1

pub returns : goal.returns
unfolding start_stage
returns c = goes_on _ c.in_ok-rule.ensures (ends c.rule-2.ensures)
