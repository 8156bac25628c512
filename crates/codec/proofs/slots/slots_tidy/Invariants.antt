use Prim.Native.Nat.{suc, ◌+◌, ◌*◌, ◌^◌}
use Rattle.std.specs.Slice.Iter.{chunks_exact_rest, chunks_exact_size}
use Rattle.codec.specs.Numbers.{part}
use Rattle.codec.specs.Slots.{slots}
use Rattle.codec.proofs.SlotsLoops.{TestingSlots}
use Rattle.codec.proofs.slots.slots_tidy.Given as goal

abbrev pub invariant-loop-slot : goal.invariant-loop-slot
invariant-loop-slot l =
    (goal.iterator-loop-slot).can_next l.slot-iterator
    × (goal.iterator-loop-slot).is_finite l.slot-iterator
    × TestingSlots (2 ^ 64) l.one.before l.one.after ((slots (2 ^ 64) l.one.before l.one.after l.k).tidy (part l.xs 0 ((l.one.before + suc l.one.after) * l.k))) (chunks_exact_rest l.slot-iterator) (chunks_exact_size l.slot-iterator)
