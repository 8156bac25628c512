use Prim.Native.Nat.{◌^◌}
use Rattle.codec.specs.Slots.{slots}
use Rattle.codec.proofs.SlotsLoops.{ReadingSlots}
use Rattle.codec.proofs.slots.read_slots.Given as goal

abbrev pub invariant-loop-n : goal.invariant-loop-n
invariant-loop-n l = ReadingSlots (2 ^ 64) l.one.before l.one.after l.k l.bytes ((slots (2 ^ 64) l.one.before l.one.after l.k).read l.bytes l.start) l.initial.out 0 l.at l.first l._n l.out
