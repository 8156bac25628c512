use Prim.Native.Nat.{◌^◌}
use native.Mathlib.Omega.{arith}
use Rattle.codec.proofs.SlotSteps.{unused_size, used_size, here_few}
use Rattle.codec.proofs.slots.Slot.size.Goals as goal

pub returns-then-lead-eq0 : goal.returns-then-lead-eq0
returns-then-lead-eq0 c =
    let a = c.args in
    unused_size (2 ^ 64) a.self.before a.self.after a.xs.now c.requires.0 c.if-lead-eq0.true

pub overflow_add-result : goal.overflow_add-result
overflow_add-result c =
    let a = c.args in
    omega (arith, used_size (2 ^ 64) a.self.before a.self.after a.xs.now c.requires.0 c.if-lead-eq0.false, here_few (2 ^ 64) a.self.before a.self.after a.xs.now c.requires.0, c.requires, c.numbers_size.ensures, c.number_size.ensures)

pub overflow_add-result-2 : goal.overflow_add-result-2
overflow_add-result-2 c =
    let a = c.args in
    omega (arith, used_size (2 ^ 64) a.self.before a.self.after a.xs.now c.requires.0 c.if-lead-eq0.false, here_few (2 ^ 64) a.self.before a.self.after a.xs.now c.requires.0, c.requires, c.numbers_size-2.ensures, c.numbers_size.ensures, c.number_size.ensures)

pub returns : goal.returns
returns c =
    let a = c.args in
    rw (c.numbers_size-2.ensures, c.numbers_size.ensures, c.number_size.ensures) (used_size (2 ^ 64) a.self.before a.self.after a.xs.now c.requires.0 c.if-lead-eq0.false)
