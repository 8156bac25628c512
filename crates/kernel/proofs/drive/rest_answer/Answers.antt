use Rattle.kernel.specs.DriveLaws.{rest_answer}
use Rattle.laws.specs.Bool.{when◌then◌else◌}
use borrow.Author.Tests.{le-ltb, lt-ltb}
use Rattle.kernel.proofs.drive.rest_answer.Goals as goal

pub returns-then-limits-order_count : goal.returns-then-limits-order_count
unfolding rest_answer when◌then◌else◌
returns-then-limits-order_count c = simp (← c.order_count.ensures, lt-ltb _ _ c.if-limits-order_count.true)

pub returns-then-from-operations : goal.returns-then-from-operations
unfolding rest_answer when◌then◌else◌
returns-then-from-operations c = simp (← c.order_count.ensures, le-ltb _ _ c.if-limits-order_count.false, lt-ltb _ _ (rw c.from.ensures at c.if-from-operations.true))

pub returns : goal.returns
unfolding rest_answer when◌then◌else◌
returns c = simp (← c.order_count.ensures, le-ltb _ _ c.if-limits-order_count.false, le-ltb _ _ (rw c.from.ensures at c.if-from-operations.false))
