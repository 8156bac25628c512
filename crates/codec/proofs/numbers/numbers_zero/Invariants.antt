use Rattle.std.proofs.Common.{get_or, length}
use Rattle.laws.specs.Zeros.{Dirt}
use Rattle.codec.specs.Stages.{all_zero}
use Rattle.codec.proofs.numbers.numbers_zero.Given as goal

abbrev pub invariant-loop-x : goal.invariant-loop-x
invariant-loop-x g l =
    let u = g.T.Unsigned in
    Dirt (λ j. get_or (u.as_numbers l.xs) j 0) (length l.xs) l.x-index (u.as_number l.dirt) (all_zero (u.as_numbers l.xs))
