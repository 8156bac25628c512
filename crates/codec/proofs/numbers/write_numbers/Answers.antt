use mathlib.Core.Path.{ap, sym, ◌∙◌}
use Prim.Native.Nat.{ℕ}
use native.Mathlib.Omega.{arith}
use lib.ListN.{length}
use Rattle.codec.specs.Leb.{leb128}
use Rattle.codec.proofs.NumbersLoops.{part_all, appending_start, appending_room, appending_more, appending_place, appending_end}
use Rattle.codec.proofs.numbers.write_numbers.Goals as goal

pub loop-x-init : goal.loop-x-init
loop-x-init g c =
    let xs = c.args.xs.now in
    appending_start (omega arith) (rw (part_all (g.T.Unsigned.as_numbers xs) (length xs) (g.met.T.Unsigned.as_long xs)) c.requires)

pub write_number-place-requires : goal.write_number-place-requires
write_number-place-requires g c =
    let u = g.met.T.Unsigned in
    let xs = c.args.xs.now in
    let n = c.widened.ensures ∙ ap g.T.Unsigned.as_number c.x-item.is ∙ sym (u.each xs c.loop-x.x-index c.x-item.result c.loop-x-test.true) in
    let room = appending_room c.loop-x.invariant c.loop-x-test.true (omega (arith, u.as_long xs)) in
    omega (arith, room, ap (λ (x : ℕ). length (leb128 x)) n)

pub loop-x-preserved : goal.loop-x-preserved
loop-x-preserved g c =
    let u = g.met.T.Unsigned in
    let xs = c.args.xs.now in
    let n = c.widened.ensures ∙ ap g.T.Unsigned.as_number c.x-item.is ∙ sym (u.each xs c.loop-x.x-index c.x-item.result c.loop-x-test.true) in
    appending_more c.loop-x.invariant c.loop-x-test.true (omega (arith, u.as_long xs)) n c.write_number-place.ensures.value c.write_number-place.ensures.out_after

pub returns : goal.returns
returns g c =
    let xs = c.args.xs.now in
    let all = part_all (g.T.Unsigned.as_numbers xs) (length xs) (g.met.T.Unsigned.as_long xs) in
    record { value = rw all at (appending_place c.loop-x.invariant c.loop-x-test.false); out_after = rw all at (appending_end c.loop-x.invariant c.loop-x-test.false) }
