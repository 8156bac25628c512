use mathlib.Core.Path.{◌≡◌, refl, ◌∙◌}
use Prim.Native.Nat.{ℕ, ◌+◌, ◌^◌}
use native.Mathlib.Omega.{arith}
use mathlib.Core.List.{List, ◌++◌}
use lib.ListN.{length, length-set, drop, set}
use Rattle.std.proofs.Math.Seq.{length-take-le}
use Rattle.codec.specs.Numbers.{numbers_at, part}
use Rattle.codec.specs.Stored.{place_of, Stored}
use Rattle.codec.proofs.NumbersLaws.{numbers_long}
use Rattle.codec.proofs.PartLaws.{length_part, part_stored, front_long, front_stored}
use Rattle.codec.proofs.StoredLaws.{at_got, at_bad, value_got, value_bad, bad_place, bad_stored, got_place}
use Rattle.codec.proofs.SlotSteps.{no_lead, unused_read, unused_stored, used_bad, used_place, used_stored}
use Rattle.codec.proofs.slots.Slot.read.Goals as goal

pub returns-in_err-number : goal.returns-in_err-number
returns-in_err-number c =
    let a = c.args in
    let b = no_lead (2 ^ 64) a.self.before a.self.after a.bytes.now a.start (value_bad c.in_err-number.ensures refl) in
    record { value = c.from_residual.ensures ∙ bad_place b; stored = bad_stored b refl }

pub returns-then-number-eq0 : goal.returns-then-number-eq0
returns-then-number-eq0 c =
    let a = c.args in
    let g = value_got c.in_ok-number.ensures refl in
    let z = c.if-number-eq0.true in record {
      value = got_place (unused_read (2 ^ 64) a.self.before a.self.after a.bytes.now a.start g z);
      stored = unused_stored (2 ^ 64) a.self.before a.self.after a.bytes.now a.start g z c.requires.1 (omega (arith, c.requires.0));
    }

pub returns-in_err-behind : goal.returns-in_err-behind
returns-in_err-behind c =
    let a = c.args in
    let out = a.out.now in
    let g = value_got c.in_ok-number.ensures refl in
    let t = length-take-le a.self.before out (omega (arith, c.requires.0)) in
    let e = c.in_err-behind.ensures in
    let b = used_bad (2 ^ 64) a.self.before a.self.after a.bytes.now a.start g c.if-number-eq0.false (at_bad (rw t at e.value) refl) in
    record { value = c.from_residual-in_err-behind.ensures ∙ bad_place b; stored = bad_stored b (front_long out a.self.before (omega (arith, c.requires.0)) c.read_numbers.new.out e.stored.long) }

pub returns : goal.returns
unfolding part
returns c =
    let a = c.args in
    let out = a.out.now in
    let before = a.self.before in
    let after = a.self.after in
    let g = value_got c.in_ok-number.ensures refl in
    let t = length-take-le before out (omega (arith, c.requires.0)) in
    let e = c.in_ok-behind.ensures in
    let f = at_got (rw t at e.value) refl in
    let s₁ = front_stored {l = out} before (omega (arith, c.requires.0)) (λ ns p h. let n = numbers_long (2 ^ 64) a.bytes.now before c.in_ok-number.number.next ns p h in omega arith) (rw t at e.stored) in
    let l₂ : List ℕ = set (c.read_numbers.new.out ++ drop before out) before c.in_ok-number.number.value in
    let r = c.read_numbers-2.ensures in
    let v : c.read_numbers-2.result ≡ place_of (numbers_at (2 ^ 64) (length (part l₂ (before + 1) (length l₂))) a.bytes.now c.in_ok-behind.behind) = r.value in
    let s₂ : Stored (numbers_at (2 ^ 64) (length (part l₂ (before + 1) (length l₂))) a.bytes.now c.in_ok-behind.behind) (part l₂ (before + 1) (length l₂)) 0 c.read_numbers-2.new.out = r.stored in
    let n : length l₂ ≡ length out = length-set _ _ _ ∙ s₁.long in
    let m : length (part l₂ (before + 1) (length l₂)) ≡ after = length_part l₂ (before + 1) (length l₂) (omega arith) ∙ omega (arith, n, c.requires.0) in
    let s₃ = part_stored l₂ (before + 1) (length l₂) (omega (arith, n, c.requires.0)) (omega arith) (λ ns p h. let k = numbers_long (2 ^ 64) a.bytes.now after c.in_ok-behind.behind ns p h in omega (arith, n, c.requires.0)) (rw m at s₂) in
    record {
      value = (rw m at v) ∙ used_place (2 ^ 64) before after a.bytes.now a.start g c.if-number-eq0.false f.is;
      stored = used_stored (2 ^ 64) before after a.bytes.now a.start g c.if-number-eq0.false f.is c.requires.0 (s₁.is f.value _ f.is) s₃;
    }
