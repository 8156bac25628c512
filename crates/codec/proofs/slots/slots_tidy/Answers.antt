use Rattle.std.proofs.Common.{ap, ◌^◌, arith}
use mathlib.Core.Bool.{not}
use Rattle.codec.specs.Slots.{slots}
use Rattle.codec.proofs.SlotsLoops.{all_of, test_stop, test_more, test_end}
use Rattle.codec.proofs.slots.slots_tidy.Goals as goal

pub loop-slot-init : goal.loop-slot-init
loop-slot-init c =
    let a = c.args in
    let e = c.slots_of-slot-items.ensures in
    rw c.into_iter-slot-iterator.ensures.into_iter_gives
    (e.positive, tt, record { many = a.k; left = all_of a.one.before a.one.after a.k a.xs.now c.requires e.rest e.size e.positive; is = ap (slots (2 ^ 64) a.one.before a.one.after a.k).tidy e.rest })

pub returns-then-not-tidy : goal.returns-then-not-tidy
returns-then-not-tidy c =
    let s = c.in-Some.ensures.steps in
    test_stop c.loop-slot.invariant.2 _ _ s.0 s.1.0 s.1.1 c.tidy.ensures (ap not c.if-not-tidy.true)

pub loop-slot-preserved : goal.loop-slot-preserved
loop-slot-preserved c =
    let s = c.in-Some.ensures.steps in
    (omega (arith, s.0, c.loop-slot.invariant.0), tt, test_more c.loop-slot.invariant.2 _ _ s.0 s.1.0 s.1.1 c.tidy.ensures (ap not c.if-not-tidy.false))

pub returns : goal.returns
returns c = test_end c.loop-slot.invariant.2 c.in-None.ensures.steps.1.0
