use Rattle.std.proofs.Common.{length}
use Rattle.codec.proofs.NumbersLoops.{Sizing}
use Rattle.codec.proofs.numbers.numbers_size.Given as goal

abbrev pub invariant-loop-x : goal.invariant-loop-x
invariant-loop-x g l = Sizing (g.T.Unsigned.as_numbers l.xs) 0 (length l.xs) l.x-index l.size
