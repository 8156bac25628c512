use Rattle.workflow.specs.declared.refusal.Refusal.{Refusal}
use Rattle.graph.specs.Chain.{stops, goes_on, rule_passed}
use Rattle.graph.specs.Verdict.{verdict}
use Rattle.graph.proofs.validate.Goals as goal

pub returns-in_err-rule_20 : goal.returns-in_err-rule_20
unfolding verdict
returns-in_err-rule_20 c = stops _ c.in_err-rule_20.ensures c.from_residual.ensures.1

pub invariant_of-formed_verdict : goal.invariant_of-formed_verdict
invariant_of-formed_verdict c = record { formed = rule_passed Refusal.Form c.in_ok-rule_20.ensures }

pub returns : goal.returns
unfolding verdict
returns c = goes_on _ c.in_ok-rule_20.ensures c.formed_verdict.ensures
