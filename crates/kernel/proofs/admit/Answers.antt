use mathlib.Core.Path.{◌∙◌, ap}
use Rattle.workflow.specs.declared.refusal.Refusal.{Refusal}
use Rattle.graph.specs.Chain.{stops, goes_on, ends}
use Rattle.graph.specs.Verdict.{rule}
use Rattle.kernel.specs.Call.{admission}
use Rattle.kernel.proofs.admit.Goals as goal

pub returns-in_err-validate : goal.returns-in_err-validate
unfolding admission
returns-in_err-validate c = stops _ c.in_err-validate.ensures c.from_residual.ensures.1

pub returns-in_err-rule : goal.returns-in_err-rule
unfolding admission
returns-in_err-rule c =
    goes_on _ c.in_ok-validate.ensures
    (stops _ (c.in_err-rule.ensures ∙ ap (rule Refusal.EventUnfit) c.event_fits.ensures) c.from_residual-in_err-rule.ensures.1)

pub returns-in-Some : goal.returns-in-Some
unfolding admission
returns-in-Some c =
    goes_on _ c.in_ok-validate.ensures
    (goes_on _ (c.in_ok-rule.ensures ∙ ap (rule Refusal.EventUnfit) c.event_fits.ensures)
    (ends (simp c.in-Some.is c.next_stage.ensures)))

pub returns-in-None : goal.returns-in-None
unfolding admission
returns-in-None c =
    goes_on _ c.in_ok-validate.ensures
    (goes_on _ (c.in_ok-rule.ensures ∙ ap (rule Refusal.EventUnfit) c.event_fits.ensures)
    (ends (simp c.in-None.is c.start_stage.ensures)))
