use mathlib.Core.Path.{ap, sym, ◌∙◌}
use Prim.Native.Nat.{ℕ}
use native.Mathlib.Omega.{arith}
use lib.ListN.{length}
use Rattle.codec.specs.Leb.{leb128}
use Rattle.codec.proofs.NumbersLoops.{part_all, sizing_start, sizing_more, sizing_end}
use Rattle.codec.proofs.numbers.numbers_size.Goals as goal

pub loop-x-init : goal.loop-x-init
loop-x-init g c = sizing_start (omega arith)

pub overflow_add-size : goal.overflow_add-size
overflow_add-size g c =
    let u = g.met.T.Unsigned in
    let xs = c.args.xs.now in
    let n = c.widened.ensures ∙ ap g.T.Unsigned.as_number c.x-item.is ∙ sym (u.each xs c.loop-x.x-index c.x-item.result c.loop-x-test.true) in
    let more = sizing_more c.loop-x.invariant (c.number_size-size.ensures ∙ ap (λ (x : ℕ). length (leb128 x)) n) c.loop-x-test.true (omega (arith, u.as_long xs)) in
    omega (arith, more.few, more.high, c.requires)

pub loop-x-preserved : goal.loop-x-preserved
loop-x-preserved g c =
    let u = g.met.T.Unsigned in
    let xs = c.args.xs.now in
    let n = c.widened.ensures ∙ ap g.T.Unsigned.as_number c.x-item.is ∙ sym (u.each xs c.loop-x.x-index c.x-item.result c.loop-x-test.true) in
    sizing_more c.loop-x.invariant (c.number_size-size.ensures ∙ ap (λ (x : ℕ). length (leb128 x)) n) c.loop-x-test.true (omega (arith, u.as_long xs))

pub returns : goal.returns
returns g c =
    let u = g.met.T.Unsigned in
    let xs = c.args.xs.now in
    rw (part_all (g.T.Unsigned.as_numbers xs) (length xs) (u.as_long xs)) at (sizing_end c.loop-x.invariant c.loop-x-test.false)
