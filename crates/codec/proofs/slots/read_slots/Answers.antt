use mathlib.Core.Path.{refl, ◌∙◌}
use Prim.Native.Nat.{suc, ◌+◌, ◌^◌}
use native.Mathlib.Omega.{arith}
use Rattle.codec.specs.Numbers.{part}
use Rattle.codec.proofs.Parts.{part_long}
use Rattle.codec.proofs.PartLaws.{put_long, part_zero}
use Rattle.codec.proofs.StoredLaws.{at_got, at_bad, bad_place, bad_stored}
use Rattle.codec.proofs.SlotsLoops.{read_start, read_long, read_zero, read_room, read_bad, read_more, read_place, read_stored}
use Rattle.codec.proofs.slots.read_slots.Goals as goal

pub loop-n-init : goal.loop-n-init
loop-n-init c =
    let a = c.args in
    read_start (2 ^ 64) a.one.before a.one.after a.k a.bytes.now a.out.now 0 a.start (omega (arith, c.requires.0)) c.requires.1

pub end-end-requires : goal.end-end-requires
end-end-requires c = omega (arith, read_room c.loop-n.invariant c.loop-n-test.true, read_long c.loop-n.invariant, c.well_formed)

pub offset_bounds-out-first : goal.offset_bounds-out-first
offset_bounds-out-first c = omega (arith, read_room c.loop-n.invariant c.loop-n-test.true, read_long c.loop-n.invariant, c.well_formed)

pub slice_bounds-read-end : goal.slice_bounds-read-end
slice_bounds-read-end c = omega (arith, read_room c.loop-n.invariant c.loop-n-test.true, c.end-end.ensures)

pub read-requires : goal.read-requires
unfolding part
read-requires c =
    let i = c.loop-n.invariant in
    let out = c.loop-n.out in
    let room = read_room i c.loop-n-test.true in
    let w = c.args.one.before + suc c.args.one.after in
    rw c.end-end.ensures (part_long out c.loop-n.first w room, part_zero out c.loop-n.first (c.loop-n.first + w) (omega arith) room (read_zero i))

pub returns-in_err-at : goal.returns-in_err-at
unfolding part
returns-in_err-at c =
    let i = c.loop-n.invariant in
    let e = c.in_err-at.ensures in
    let b = read_bad i c.loop-n-test.true (at_bad e.value refl) in
    let room = read_room i c.loop-n-test.true in
    record { value = c.from_residual.ensures ∙ bad_place b; stored = bad_stored b (put_long c.loop-n.out _ _ (omega (arith, c.end-end.ensures)) (omega (arith, room, c.end-end.ensures)) c.read.new.out e.stored.long ∙ read_long i) }

pub loop-n-preserved : goal.loop-n-preserved
unfolding part
loop-n-preserved c =
    let e = c.in_ok-at.ensures in
    let f = c.end-end.ensures in
    rw f (read_more c.loop-n.invariant c.loop-n-test.true (at_got e.value refl) (rw f at e.stored))

pub returns : goal.returns
returns c = record { value = read_place c.loop-n.invariant c.loop-n-test.false; stored = read_stored c.loop-n.invariant c.loop-n-test.false }
