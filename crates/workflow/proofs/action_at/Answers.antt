use Rattle.std.proofs.Common.{rules}
use borrow.Author.Tests.{le-ltb, lt-ltb}
use Rattle.workflow.specs.View.{action_at}
use Rattle.laws.specs.Bool.{when◌then◌else◌}
use Rattle.workflow.proofs.action_at.Goals as goal

pub returns-then-i-lt-ACTIONS : goal.returns-then-i-lt-ACTIONS
unfolding action_at when◌then◌else◌
returns-then-i-lt-ACTIONS c = simp (lt-ltb _ _ c.if-i-lt-ACTIONS.true)

pub returns-else-i-lt-ACTIONS : goal.returns-else-i-lt-ACTIONS
unfolding action_at when◌then◌else◌
returns-else-i-lt-ACTIONS c = rw (le-ltb _ _ c.if-i-lt-ACTIONS.false) (search rules)
