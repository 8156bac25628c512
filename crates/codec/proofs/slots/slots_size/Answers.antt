use Rattle.std.proofs.Common.{◌^◌, arith}
use Rattle.codec.proofs.SlotsLoops.{all_of, count_start, count_wide, count_short, count_more, count_end}
use Rattle.codec.proofs.slots.slots_size.Goals as goal

pub loop-slot-init : goal.loop-slot-init
loop-slot-init c =
    let a = c.args in
    let e = c.slots_of-slot-items.ensures in
    rw c.into_iter-slot-iterator.ensures.into_iter_gives
    (e.positive, tt, count_start (2 ^ 64) a.xs.now (all_of a.one.before a.one.after a.k a.xs.now c.requires.0 e.rest e.size e.positive) e.rest c.requires.0)

pub size-size-requires : goal.size-size-requires
size-size-requires c =
    let s = c.in-Some.ensures.steps in
    let i = c.loop-slot.invariant.2 in (count_wide i _ _ s.0 s.1.0 s.1.1, omega (arith, count_short i _ _ s.0 s.1.0 s.1.1, c.requires.1))

pub overflow_add-size : goal.overflow_add-size
overflow_add-size c =
    let s = c.in-Some.ensures.steps in
    omega (arith, (count_more c.loop-slot.invariant.2 _ _ s.0 s.1.0 s.1.1 c.size-size.ensures).few, c.requires.1)

pub loop-slot-preserved : goal.loop-slot-preserved
loop-slot-preserved c =
    let s = c.in-Some.ensures.steps in
    (omega (arith, s.0, c.loop-slot.invariant.0), tt, count_more c.loop-slot.invariant.2 _ _ s.0 s.1.0 s.1.1 c.size-size.ensures)

pub returns : goal.returns
returns c = count_end c.loop-slot.invariant.2 c.in-None.ensures.steps.1.0
