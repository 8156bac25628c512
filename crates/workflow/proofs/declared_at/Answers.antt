use Rattle.std.proofs.Common.{rules}
use borrow.Author.Tests.{le-ltb, lt-ltb}
use Rattle.workflow.specs.View.{declared_at}
use Rattle.laws.specs.Bool.{when◌then◌else◌}
use Rattle.workflow.proofs.declared_at.Goals as goal

pub returns-then-i-lt-DECLARED : goal.returns-then-i-lt-DECLARED
unfolding declared_at when◌then◌else◌
returns-then-i-lt-DECLARED c = simp (lt-ltb _ _ c.if-i-lt-DECLARED.true)

pub returns-else-i-lt-DECLARED : goal.returns-else-i-lt-DECLARED
unfolding declared_at when◌then◌else◌
returns-else-i-lt-DECLARED c = rw (le-ltb _ _ c.if-i-lt-DECLARED.false) (search rules)
