-- All elements pass.
use Rattle.std.specs.Prelude.{◌≡◌, refl, Bool, true, false, not}
use mathlib.Core.List.{List, [], ◌∷◌, ◌++◌}
use Prim.Native.Nat.{ℕ, zero, suc, ◌+◌}
use Rattle.std.proofs.Common.{arith}
use Rattle.laws.specs.Bool.{when◌then◌else◌, ◌and◌, split, both, join}
use Rattle.laws.specs.Rows.{span, span_more, span_none}
use Rattle.laws.specs.First.{first}
use Rattle.laws.specs.Shift.{remove_at}

unfoldable pub every : {A : Type 0} → (A → Bool) → List A → Bool
every p [] = true
every p (x ∷ xs) = p x and every p xs

-- All numbers below k pass.
abbrev pub below : ℕ → (ℕ → Bool) → Bool
below k p = every p (span (λ n. n) 0 k)

-- As a search for one that does not, with e behind it.
pub every_then : {A : Type 0} (p : A → Bool) (e : Bool) (i : ℕ) (xs : List A) → first (λ x. not (p x)) (λ _ _. false) e i xs ≡ every p xs and e
unfolding every first ◌and◌ when◌then◌else◌
every_then p e i [] = refl
every_then p e i (x ∷ xs) = split (p x) (λ h. rw h (every_then p e (i + 1) xs)) (λ h. rw h)

-- After a list, and without one element.
module _ {A : Type 0} (p : A → Bool) where
  pub every_append : (xs ys : List A) → every p xs ≡ true → every p ys ≡ true → every p (xs ++ ys) ≡ true
  unfolding every
  every_append [] ys e g = g
  every_append (x ∷ xs) ys e g = let b = both _ _ e in join _ _ b.0 (every_append xs ys b.1 g)

  pub every_remove : (i : ℕ) (xs : List A) → every p xs ≡ true → every p (remove_at i xs) ≡ true
  unfolding every remove_at
  every_remove i [] e = e
  every_remove zero (x ∷ xs) e = (both _ _ e).1
  every_remove (suc i) (x ∷ xs) e = let b = both _ _ e in join _ _ b.0 (every_remove i xs b.1)

-- The rows that f reads pass where their places do.
pub every_rows : {A : Type 0} (p : A → Bool) (f : ℕ → A) (k : ℕ) → every p (span f 0 k) ≡ every (λ j. p (f j)) (span (λ j. j) 0 k)
unfolding every
every_rows p f k = from k 0 (omega arith)
  where
    from : (m i : ℕ) → k ≡ i + m → every p (span f i k) ≡ every (λ j. p (f j)) (span (λ j. j) i k)
    from zero i e = rw (span_none f i k (omega arith), span_none (λ j. j) i k (omega arith))
    from (suc m) i e = rw (span_more f i k (omega arith), span_more (λ j. j) i k (omega arith), from m (i + 1) (omega arith))
