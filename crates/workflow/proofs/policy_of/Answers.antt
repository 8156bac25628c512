use Rattle.std.proofs.Common.{rules, ◌≡◌, ◌∙◌}
use Rattle.workflow.specs.View.{no_action}
use native.Mathlib.Omega.{arith}
use Rattle.laws.specs.Rows.{at_span, past_span}
use Rattle.workflow.specs.Lookup.{policy_of}
use Rattle.workflow.proofs.policy_of.Goals as goal

pub returns-then-n-capped : goal.returns-then-n-capped
unfolding policy_of
returns-then-n-capped c = at_span _ _ _ _ (omega arith) c.action_at.ensures

pub returns-else-n-capped : goal.returns-else-n-capped
unfolding policy_of
returns-else-n-capped c =
    let e : c.default.result ≡ no_action = search rules in
    e ∙ past_span _ _ _ _ (omega arith)
