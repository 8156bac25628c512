use Rattle.std.proofs.Common.{length}
use Rattle.codec.proofs.NumbersLoops.{Appending}
use Rattle.codec.proofs.numbers.write_numbers.Given as goal

abbrev pub invariant-loop-x : goal.invariant-loop-x
invariant-loop-x g l = Appending l.initial.out l.at (g.T.Unsigned.as_numbers l.xs) 0 (length l.xs) l.x-index l.place l.out
