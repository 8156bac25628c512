use native.Mathlib.Omega.{arith}
use Rattle.kernel.specs.Cost.{takes_small}
use Rattle.kernel.specs.DriveLaws.{entries_small, round_of}
use Rattle.kernel.proofs.drive.take_and_enter.Goals as goal

pub overflow_add-result : goal.overflow_add-result
overflow_add-result c = omega (arith, takes_small c.take-taken.result.ending, entries_small c.take-taken.result.next, c.takes.ensures, c.entries.ensures)

pub returns : goal.returns
unfolding round_of
returns c = simp (← c.take-taken.ensures, ← c.enter-entered.ensures, ← c.takes.ensures, ← c.entries.ensures)
