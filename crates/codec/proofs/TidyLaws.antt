-- What isn't used of tidy numbers is zero.
use Rattle.std.specs.Prelude.{◌≡◌, refl, true, List, [], ◌∷◌, take, drop}
use Rattle.std.proofs.Math.Path.{sym, ap}
use Rattle.std.proofs.Common.{◌∙◌}
use Prim.Native.Nat.{ℕ, zero, suc, ◌+◌, ◌*◌, ◌-◌, ◌≤◌, ◌<◌}
use Rattle.std.proofs.Math.Nat.{mul-suc}
use native.Mathlib.Omega.{arith}
use Rattle.std.proofs.Math.ListN.{get_or}
use Rattle.std.proofs.Math.Seq.{get_or-take, get_or-drop}
use borrow.Author.Tests.{eqb-true, eq-eqb, leb-true}
use Rattle.laws.specs.Bool.{when◌then◌else◌, both}
use Rattle.laws.specs.Every.{every}
use Rattle.codec.specs.Stages.{column, beside, all_zero}
use Rattle.codec.specs.Slots.{slot, slots}

zero_at : (xs : List ℕ) (i : ℕ) → all_zero xs ≡ true → get_or xs i 0 ≡ 0
unfolding every
zero_at [] i h = refl
zero_at (x ∷ xs) zero h = eqb-true x 0 (both _ _ h).0
zero_at (x ∷ xs) (suc i) h = zero_at xs i (both _ _ h).1

-- OF A COLUMN, the slots from the count on.
module _ (top room used : ℕ) (ns : List ℕ) (tidy : (column top room used).tidy ns ≡ true) where
  pub column_low : used ≤ room
  unfolding column
  column_low = leb-true used room (both _ _ (both _ _ tidy).1).0

  pub column_zero : (i : ℕ) → used ≤ i → get_or ns i 0 ≡ 0
  unfolding column
  column_zero i h =
      let z = (both _ _ (both _ _ (both _ _ tidy).1).1).1 in
      let e : used + (i - used) ≡ i = omega arith in
      ap (λ (k : ℕ). get_or ns k 0) (sym e) ∙ sym (get_or-drop used ns (i - used) 0) ∙ zero_at (drop used ns) (i - used) z

-- OF SLOTS, one whose lead is 0.
module _ (top before after : ℕ) where
  slot_zero : (ns : List ℕ) → (slot top before after).tidy ns ≡ true → get_or ns before 0 ≡ 0 → (j : ℕ) → get_or ns j 0 ≡ 0
  unfolding slot when◌then◌else◌
  slot_zero ns h z j = zero_at ns j (rw (eq-eqb (get_or ns before 0) 0 z) at (both _ _ (both _ _ h).1).1)

  pub slots_zero : (k : ℕ) (ns : List ℕ) → (slots top before after k).tidy ns ≡ true → (n : ℕ) → n < k → get_or ns ((before + suc after) * n + before) 0 ≡ 0 → (j : ℕ) → j < before + suc after → get_or ns ((before + suc after) * n + j) 0 ≡ 0
  unfolding slots beside slot
  slots_zero zero ns h n l z j s = absurd (omega arith)
  slots_zero (suc k) ns h zero l z j s =
      let w = before + suc after in
      let a = get_or-take w ns before 0 (omega arith) in
      let b = get_or-take w ns j 0 s in
      let e : w * 0 + before ≡ before = omega arith in
      let f : w * 0 + j ≡ j = omega arith in
      rw f (sym b ∙ slot_zero (take w ns) (both _ _ h).0 (a ∙ rw e at z) j)
  slots_zero (suc k) ns h (suc n) l z j s =
      let w = before + suc after in
      let m = mul-suc w n in
      let a = get_or-drop w ns (w * n + before) 0 in
      let b = get_or-drop w ns (w * n + j) 0 in
      let e : w * suc n + before ≡ w + (w * n + before) = omega arith in
      let f : w * suc n + j ≡ w + (w * n + j) = omega arith in
      rw f (sym b ∙ slots_zero k (drop w ns) (both _ _ h).1 n (omega arith) (a ∙ rw e at z) j s)
