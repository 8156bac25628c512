-- Leaving out one element of an array: those after it stand one lower, and z fills the last place.
use Rattle.std.specs.Prelude.{◌≡◌, take, drop}
use Rattle.std.proofs.Math.Path.{ap}
use Rattle.std.proofs.Common.{length-append}
use mathlib.Core.List.{List, [], ◌∷◌, ◌++◌}
use Prim.Native.Nat.{ℕ, zero, suc, ◌≤◌, ◌<◌}
use native.Mathlib.Omega.{arith}
use Rattle.std.proofs.Math.ListN.{length}
use Rattle.std.proofs.Math.Seq.{take-append-le, drop-append-le}

-- xs with the element at i left out
unfoldable pub remove_at : {A : Type 0} → ℕ → List A → List A
remove_at i [] = []
remove_at zero (x ∷ xs) = xs
remove_at (suc i) (x ∷ xs) = x ∷ remove_at i xs

unfoldable pub without : {A : Type 0} → A → List A → ℕ → List A
without z xs i = remove_at i xs ++ (z ∷ [])

-- An array that uses its first places.
module _ {A : Type 0} (z : A) where
  pub take_without : (xs : List A) (i k : ℕ) → i ≤ k → k < length xs → take k (without z xs i) ≡ remove_at i (take (suc k) xs)
  unfolding without remove_at
  take_without [] i k h g = absurd (omega arith)
  take_without (x ∷ xs) zero k h g = take-append-le k xs (z ∷ []) (omega arith)
  take_without (x ∷ xs) (suc i) zero h g = absurd (omega arith)
  take_without (x ∷ xs) (suc i) (suc k) h g = ap {B = List A} (λ r. x ∷ r) (take_without xs i k (omega arith) (omega arith))

  pub drop_without : (xs : List A) (i k : ℕ) → i ≤ k → k < length xs → drop k (without z xs i) ≡ drop (suc k) xs ++ (z ∷ [])
  unfolding without remove_at
  drop_without [] i k h g = absurd (omega arith)
  drop_without (x ∷ xs) zero k h g = drop-append-le k xs (z ∷ []) (omega arith)
  drop_without (x ∷ xs) (suc i) zero h g = absurd (omega arith)
  drop_without (x ∷ xs) (suc i) (suc k) h g = drop_without xs i k (omega arith) (omega arith)

-- Where one goes and one comes, the list is as long as before.
pub length_without : {A : Type 0} (z : A) (xs : List A) (i : ℕ) → i < length xs → length (without z xs i) ≡ length xs
unfolding without remove_at
length_without z [] i h = absurd (omega arith)
length_without z (x ∷ xs) zero h = simp length-append (omega arith)
length_without z (x ∷ xs) (suc i) h = ap suc (length_without z xs i (omega arith))
