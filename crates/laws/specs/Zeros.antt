-- Zeros in a loop: the digits of all numbers of a range together.
use Rattle.std.specs.Prelude.{◌≡◌, refl, Bool, true, false, ℕ, ◌+◌, ◌≤◌, ◌<◌, eqb}
use Rattle.std.proofs.Common.{◌∙◌, ap₂, arith, eqb-true}
use Rattle.std.specs.Int.Bits.{bit_or, or_add_and, or_zero_l}
use Rattle.std.proofs.lemmas.Nat.{and_le_l, and_le_r}
use Rattle.std.proofs.lemmas.Bool.{eqb-false}
use Rattle.laws.specs.Bool.{◌and◌, and_true, and_left}
use Rattle.laws.specs.Rows.{span, span_more, span_none}
use Rattle.laws.specs.Every.{every}

pub or_none : (a b : ℕ) → eqb (bit_or a b) 0 ≡ (eqb a 0 and eqb b 0)
unfolding ◌and◌
or_none a b = go (eqb (bit_or a b) 0) (eqb a 0) (eqb b 0) refl refl refl
  where
    go : (x y z : Bool) → eqb (bit_or a b) 0 ≡ x → eqb a 0 ≡ y → eqb b 0 ≡ z → x ≡ (y and z)
    go true true true e p q = refl
    go true true false e p q = absurd (eqb-false b 0 q (omega (arith, eqb-true (bit_or a b) 0 e, or_add_and a b, and_le_l a b)))
    go true false z e p q = absurd (eqb-false a 0 p (omega (arith, eqb-true (bit_or a b) 0 e, or_add_and a b, and_le_r a b)))
    go false true true e p q = absurd (eqb-false (bit_or a b) 0 e (ap₂ bit_or (eqb-true a 0 p) (eqb-true b 0 q) ∙ or_zero_l 0))
    go false true false e p q = refl
    go false false z e p q = refl

abbrev zeros : (ℕ → ℕ) → (i k : ℕ) → Bool
zeros f i k = every (λ x. eqb x 0) (span f i k)

-- A loop from i to k over the numbers that f reads, with d the digits seen: the whole answer w is what is left to test.
pub record Dirt (f : ℕ → ℕ) (k i d : ℕ) (w : Bool) : Type 0 where
  pub left : (eqb d 0 and zeros f i k) ≡ w

pub dirt_start : {f : ℕ → ℕ} {k i : ℕ} → Dirt f k i 0 (zeros f i k)
unfolding ◌and◌
dirt_start = record { left = refl }

module _ {f : ℕ → ℕ} {k i d : ℕ} {w : Bool} (inv : Dirt f k i d w) where
  pub dirt_more : i < k → Dirt f k (i + 1) (bit_or d (f i)) w
  unfolding every
  dirt_more h = record { left = rw (or_none d (f i), ← and_left) (rw (span_more f i k h) at inv.left) }

  pub dirt_end : k ≤ i → eqb d 0 ≡ w
  unfolding every
  dirt_end h = and_true (eqb d 0) ∙ (rw (span_none f i k h) at inv.left)
