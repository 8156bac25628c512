use Rattle.std.specs.Prelude.{Ok, is_err}
use Rattle.workflow.specs.Layout as layout
use Rattle.workflow.specs.View.{workflow, at}
use Rattle.graph.specs.RulesLaws.{Walking}
use Rattle.graph.specs.Verdict.{action_verdict, actions_verdict}
use Rattle.graph.proofs.rules.Formed.actions_verdict.Given as goal

-- the rows of action i start at `from`, and the first broken verdict from i on is the whole answer
abbrev pub invariant-loop-action : goal.invariant-loop-action
invariant-loop-action l = Walking (λ a. is_err (action_verdict (workflow l.w) l.c a)) (λ _ a. action_verdict (workflow l.w) l.c a) (Ok tt) l.w layout.declared_action l.k (at l.w layout.action_count) l.from l.action (actions_verdict (workflow l.w) l.c)
