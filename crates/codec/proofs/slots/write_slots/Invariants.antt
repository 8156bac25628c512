use Prim.Native.Nat.{suc, ◌+◌, ◌*◌, ◌^◌}
use Rattle.std.specs.Slice.Iter.{chunks_exact_rest, chunks_exact_size}
use Rattle.codec.specs.Numbers.{bytes_of, part}
use Rattle.codec.specs.Slots.{slots}
use Rattle.codec.proofs.SlotsLoops.{WritingSlots}
use Rattle.codec.proofs.slots.write_slots.Given as goal

abbrev pub invariant-loop-slot : goal.invariant-loop-slot
invariant-loop-slot l =
    (goal.iterator-loop-slot).can_next l.slot-iterator
    × (goal.iterator-loop-slot).is_finite l.slot-iterator
    × WritingSlots (2 ^ 64) l.one.before l.one.after (bytes_of ((slots (2 ^ 64) l.one.before l.one.after l.k).fields (part l.xs 0 ((l.one.before + suc l.one.after) * l.k)))) l.initial.out l.at (chunks_exact_rest l.slot-iterator) (chunks_exact_size l.slot-iterator) l.place l.out
