use Rattle.std.proofs.Common.{◌^◌, arith}
use Rattle.codec.proofs.SlotsLoops.{all_of, write_start, write_wide, write_room, write_more, write_place, write_end}
use Rattle.codec.proofs.slots.write_slots.Goals as goal

pub loop-slot-init : goal.loop-slot-init
loop-slot-init c =
    let a = c.args in
    let e = c.slots_of-slot-items.ensures in
    rw c.into_iter-slot-iterator.ensures.into_iter_gives
    (e.positive, tt, write_start (2 ^ 64) a.xs.now (all_of a.one.before a.one.after a.k a.xs.now c.requires.in_bounds e.rest e.size e.positive) e.rest c.requires.fits)

pub write-place-requires : goal.write-place-requires
write-place-requires c =
    let s = c.in-Some.ensures.steps in
    let i = c.loop-slot.invariant.2 in record { wide = write_wide i _ _ s.0 s.1.0 s.1.1; fits = write_room i _ _ s.0 s.1.0 s.1.1 }

pub loop-slot-preserved : goal.loop-slot-preserved
loop-slot-preserved c =
    let s = c.in-Some.ensures.steps in
    let e = c.write-place.ensures in
    (omega (arith, s.0, c.loop-slot.invariant.0), tt, write_more c.loop-slot.invariant.2 _ _ s.0 s.1.0 s.1.1 e.value e.out_after)

pub returns : goal.returns
returns c =
    let n = c.in-None.ensures.steps.1.0 in
    let i = c.loop-slot.invariant.2 in record { value = write_place i n; out_after = write_end i n }
