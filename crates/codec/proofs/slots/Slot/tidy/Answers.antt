use mathlib.Core.Path.{sym, ◌∙◌}
use Prim.Native.Nat.{◌^◌}
use borrow.Author.Tests.{ne_eqb}
use native.Mathlib.Omega.{arith}
use Rattle.codec.proofs.SlotSteps.{unused_tidy, used_tidy}
use Rattle.codec.proofs.slots.Slot.tidy.Goals as goal

pub returns-then-xs-self-ne0 : goal.returns-then-xs-self-ne0
returns-then-xs-self-ne0 c =
    let a = c.args in
    let known = c.type_inv.xs in
    rw (ne_eqb _ _ c.if-xs-self-ne0.true) (sym (used_tidy (2 ^ 64) a.self.before a.self.after a.xs.now c.requires (λ i. omega (arith, known i)) c.if-xs-self-ne0.true))

pub returns-else-xs-self-ne0 : goal.returns-else-xs-self-ne0
returns-else-xs-self-ne0 c =
    let a = c.args in
    let known = c.type_inv.xs in
    c.numbers_zero.ensures ∙ sym (unused_tidy (2 ^ 64) a.self.before a.self.after a.xs.now c.requires (λ i. omega (arith, known i)) c.if-xs-self-ne0.false)
