-- The lowest number that passes.
use Rattle.std.specs.Prelude.{◌≡◌, Bool, true, false, eqb, Option, Some, None}
use Rattle.std.proofs.Common.{◌∙◌, ap, arith, eqb-true}
use Prim.Native.Nat.{ℕ, zero, suc, ◌+◌, ◌≤◌, ◌<◌}
use Rattle.std.proofs.lemmas.Bool.{eqb-false}
use Rattle.laws.specs.Bool.{when◌then◌else◌, split}
use Rattle.laws.specs.Rows.{span, span_more, span_none}
use Rattle.laws.specs.First.{first}

-- the lowest number below the count that passes
abbrev pub lowest : (count : ℕ) → (passes : ℕ → Bool) → Option ℕ
lowest count passes = first passes (λ _ number. Some number) None 0 (span (λ number. number) 0 count)

-- What is found passes, and nothing below it does; what is not found does not pass.
pub data Least (k : ℕ) (p : ℕ → Bool) (i : ℕ) : Option ℕ → Type 0 where
  is_least : (z : ℕ) → z < k → p z ≡ true → ((n : ℕ) → i ≤ n → n < z → p n ≡ false) → Least k p i (Some z)
  is_none : ((n : ℕ) → i ≤ n → n < k → p n ≡ false) → Least k p i None

module _ (k : ℕ) (p : ℕ → Bool) where
  -- what fails at i and from i + 1 on fails from i on
  from_next : (i m n : ℕ) → p i ≡ false → ((j : ℕ) → i + 1 ≤ j → j < m → p j ≡ false) → i ≤ n → n < m → p n ≡ false
  from_next i m n h f a b = split (eqb n i) (λ e. ap p (eqb-true n i e) ∙ h) (λ e. let d : n ≡ i → ⊥ = eqb-false n i e in f n (omega arith) b)

  down : (i : ℕ) {x : Option ℕ} → p i ≡ false → Least k p (i + 1) x → Least k p i x
  down i h (is_least z b t f) = is_least z b t (λ n a c. from_next i z n h f a c)
  down i h (is_none f) = is_none (λ n a b. from_next i k n h f a b)

  least_from : (m i : ℕ) → k ≡ i + m → Least k p i (first p (λ _ n. Some n) None i (span (λ n. n) i k))
  unfolding first when◌then◌else◌
  least_from zero i e = rw (span_none (λ n. n) i k (omega arith)) (is_none (λ n a b. absurd (omega arith)))
  least_from (suc m) i e =
      rw (span_more (λ n. n) i k (omega arith))
      (split (p i) (λ h. rw h (is_least i (omega arith) h (λ n a b. absurd (omega arith)))) (λ h. rw h (down i h (least_from m (i + 1) (omega arith)))))

  pub least : Least k p 0 (lowest k p)
  least = least_from k 0 (omega arith)

  none_of : {x : Option ℕ} → Least k p 0 x → x ≡ None → (n : ℕ) → n < k → p n ≡ false
  none_of (is_least z a t f) e n b = let w : ◌≡◌ {A = ℕ} 0 1 = cc in absurd (omega arith)
  none_of (is_none f) e n b = f n (omega arith) b

  pub lowest_none : lowest k p ≡ None → (n : ℕ) → n < k → p n ≡ false
  lowest_none e n b = none_of least e n b
