use mathlib.Core.Path.{◌∙◌, ap}
use Rattle.workflow.specs.declared.refusal.Refusal.{Refusal}
use Rattle.graph.specs.Chain.{stops, goes_on, ends}
use Rattle.graph.specs.Verdict.{rule}
use Rattle.kernel.specs.Call.{next_stage}
use Rattle.kernel.proofs.next_stage.Goals as goal

pub returns-in_err-rule : goal.returns-in_err-rule
unfolding next_stage
returns-in_err-rule c = stops _ c.in_err-rule.ensures c.from_residual.ensures.1

pub returns-in_err-rule-2 : goal.returns-in_err-rule-2
unfolding next_stage
returns-in_err-rule-2 c =
    goes_on _ c.in_ok-rule.ensures
    (stops _ (c.in_err-rule-2.ensures ∙ ap (rule Refusal.Inconsistent) c.consistent.ensures) c.from_residual-in_err-rule-2.ensures.1)

pub returns : goal.returns
unfolding next_stage
returns c =
    goes_on _ c.in_ok-rule.ensures
    (goes_on _ (c.in_ok-rule-2.ensures ∙ ap (rule Refusal.Inconsistent) c.consistent.ensures)
    (ends (c.rule-3.ensures ∙ ap (rule Refusal.OutOfSequence) c.is_next.ensures)))
