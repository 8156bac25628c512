use mathlib.Core.Path.{ap, sym, ◌∙◌}
use lib.ListN.{length}
use Rattle.std.proofs.Common.{ℕ, bit_or}
use Rattle.laws.specs.Zeros.{dirt_more, dirt_end}
use Rattle.codec.proofs.NumbersLoops.{zeros_start}
use Rattle.codec.proofs.numbers.numbers_zero.Goals as goal

pub narrowed-dirt-requires : goal.narrowed-dirt-requires
narrowed-dirt-requires g c = g.met.T.Unsigned.some

pub loop-x-init : goal.loop-x-init
loop-x-init g c =
    let xs = c.args.xs.now in
    zeros_start (g.T.Unsigned.as_numbers xs) (length xs) (g.met.T.Unsigned.as_long xs) c.narrowed-dirt.ensures

pub loop-x-preserved : goal.loop-x-preserved
loop-x-preserved g c =
    let n = ap g.T.Unsigned.as_number c.x-item.is ∙ sym (g.met.T.Unsigned.each c.args.xs.now c.loop-x.x-index c.x-item.result c.loop-x-test.true) in
    rw (c.joined-dirt.ensures ∙ ap (λ (x : ℕ). bit_or (g.T.Unsigned.as_number c.loop-x.dirt) x) n) (dirt_more c.loop-x.invariant c.loop-x-test.true)

pub returns : goal.returns
returns g c = rw c.widened.ensures (dirt_end c.loop-x.invariant c.loop-x-test.false)
