-- Looking along rows for the first that passes.
use Rattle.std.specs.Prelude.{◌≡◌, refl, Bool, List, [], ◌∷◌}
use Rattle.std.proofs.Math.Path.{sym, ap}
use Rattle.std.proofs.Common.{◌∙◌, arith}
use Rattle.std.proofs.Math.Bool.{true, false}
use Prim.Native.Nat.{ℕ, zero, suc, ◌+◌, ◌≤◌, ◌<◌}
use Rattle.laws.specs.Bool.{when◌then◌else◌}
use Rattle.laws.specs.Rows.{span, span_more, span_none}

-- v of the first element that passes p and of its place, counted from i; or e where none does
unfoldable pub first : {A B : Type 0} → (A → Bool) → (ℕ → A → B) → B → ℕ → List A → B
first p v e i [] = e
first p v e i (x ∷ xs) = when p x then v i x else first p v e (i + 1) xs

-- Some element passes.
abbrev pub some : {A : Type 0} → (A → Bool) → List A → Bool
some p xs = first p (λ _ _. true) false 0 xs

-- A loop from 0 to k over the rows that f reads: at i, the whole answer w is what is left to find.
pub record Seek {A B : Type 0} (p : A → Bool) (v : ℕ → A → B) (e : B) (f : ℕ → A) (k i : ℕ) (w : B) : Type 0 where
  pub left : first p v e i (span f i k) ≡ w

pub seek_start : {A B : Type 0} {p : A → Bool} {v : ℕ → A → B} {e : B} {f : ℕ → A} {k : ℕ} → Seek p v e f k 0 (first p v e 0 (span f 0 k))
seek_start = record { left = refl }

module _ {A B : Type 0} {p : A → Bool} {v : ℕ → A → B} {e : B} {f : ℕ → A} {k i : ℕ} {w : B} (inv : Seek p v e f k i w) where
  -- nothing is left
  pub seek_end : k ≤ i → e ≡ w
  unfolding first
  seek_end h = sym (rw (span_none f i k h)) ∙ inv.left

  -- the element at i, with the value b of its test
  pub seek_hit : {b : Bool} {x : A} → i < k → x ≡ f i → b ≡ p x → b ≡ true → v i x ≡ w
  unfolding first when◌then◌else◌
  seek_hit {b} {x} h s q r =
      let t : p (f i) ≡ true = cc in
      ap (v i) s ∙ sym (rw (span_more f i k h, t)) ∙ inv.left

  pub seek_miss : {b : Bool} {x : A} → i < k → x ≡ f i → b ≡ p x → b ≡ false → Seek p v e f k (i + 1) w
  unfolding first when◌then◌else◌
  seek_miss h s q r =
      let t : p (f i) ≡ false = cc in
      record { left = sym (rw (span_more f i k h, t)) ∙ inv.left }

-- Two readers whose elements pass alike and give the same find the same.
module _ {A C B : Type 0} (p : A → Bool) (v : ℕ → A → B) (f : ℕ → A) (q : C → Bool) (u : ℕ → C → B) (g : ℕ → C) (e : B) (k : ℕ)
    (alike : (j : ℕ) → j < k → p (f j) ≡ q (g j)) (same : (i j : ℕ) → j < k → v i (f j) ≡ u i (g j)) where
  same_from : (m i : ℕ) → k ≡ i + m → first p v e i (span f i k) ≡ first q u e i (span g i k)
  unfolding first
  same_from zero i h = rw (span_none f i k (omega arith), span_none g i k (omega arith))
  same_from (suc m) i h = rw (span_more f i k (omega arith), span_more g i k (omega arith), alike i (omega arith), same i i (omega arith), same_from m (i + 1) (omega arith))

  pub first_same : first p v e 0 (span f 0 k) ≡ first q u e 0 (span g 0 k)
  first_same = same_from k 0 (omega arith)
