use Prim.Native.Nat.{suc, ◌+◌, ◌*◌, ◌^◌}
use Rattle.std.specs.Prelude.{length}
use Rattle.std.specs.Slice.Iter.{chunks_exact_rest, chunks_exact_size}
use Rattle.codec.specs.Numbers.{bytes_of, part}
use Rattle.codec.specs.Slots.{slots}
use Rattle.codec.proofs.SlotsLoops.{CountingSlots}
use Rattle.codec.proofs.slots.slots_size.Given as goal

abbrev pub invariant-loop-slot : goal.invariant-loop-slot
invariant-loop-slot l =
    (goal.iterator-loop-slot).can_next l.slot-iterator
    × (goal.iterator-loop-slot).is_finite l.slot-iterator
    × CountingSlots (2 ^ 64) l.one.before l.one.after (bytes_of ((slots (2 ^ 64) l.one.before l.one.after l.k).fields (part l.xs 0 ((l.one.before + suc l.one.after) * l.k)))) (length l.xs) (chunks_exact_rest l.slot-iterator) (chunks_exact_size l.slot-iterator) l.size
