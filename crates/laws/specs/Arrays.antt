-- Arrays: past the end nothing is read and nothing is written; slots that fit their places.
use Rattle.std.specs.Prelude.{◌≡◌, Bool, true, List, [], ◌∷◌, map, ℕ, zero, suc, ◌≤◌, ◌<◌, length, get_or, set, replicate}
use Rattle.std.proofs.Common.{sym, ◌∙◌, arith, length-set}
use Rattle.std.proofs.Math.ListN.{get_or-eq_default}
use Rattle.std.proofs.lemmas.List.{length-map, length-replicate, get_or-replicate}

-- A struct's field holds an array as the list of its elements' forms.
pub length_field : (A B : Type 0) (f : A → B) (l : List A) (n : ℕ) → length (map f l) ≡ n → length l ≡ n
length_field A B f l n e = sym (length-map l f) ∙ e

module _ (A : Type 0) (l : List A) (n i : ℕ) (long : length l ≡ n) (past : n ≤ i) where
  above : length l ≤ i
  above = omega arith

  pub past_getD : (d : A) → d ≡ get_or l i d
  past_getD d = sym (get_or-eq_default l d above)

-- Slots: an array of m, each of which fits its place.
pub record Slots {A : Type 0} (m : ℕ) (fits : ℕ → A → Bool) (none : A) (xs : List A) : Type 0 where
  pub long : length xs ≡ m
  pub each : (n : ℕ) → n < m → fits n (get_or xs n none) ≡ true

-- What holds at every place holds after a change at one.
at_set : {A : Type 0} (P : ℕ → A → Type 0) (xs : List A) (n : ℕ) (x d : A) → ((k : ℕ) → P k (get_or xs k d)) → P n x → (k : ℕ) → P k (get_or (set xs n x) k d)
at_set P [] n x d h p k = h k
at_set P (y ∷ ys) zero x d h p zero = p
at_set P (y ∷ ys) zero x d h p (suc k) = h (suc k)
at_set P (y ∷ ys) (suc n) x d h p zero = h zero
at_set P (y ∷ ys) (suc n) x d h p (suc k) = at_set (λ i. P (suc i)) ys n x d (λ i. h (suc i)) p k

module _ {A : Type 0} {m : ℕ} {fits : ℕ → A → Bool} {none : A} where
  pub slots_set : {xs : List A} (n : ℕ) (x : A) → fits n x ≡ true → Slots m fits none xs → Slots m fits none (set xs n x)
  slots_set {xs} n x h t =
      record {
        long = length-set xs n x ∙ t.long;
        each = at_set (λ k y. k < m → fits k y ≡ true) xs n x none t.each (λ _. h);
      }

  pub slots_none : ((n : ℕ) → fits n none ≡ true) → Slots m fits none (replicate m none)
  slots_none h = record { long = length-replicate m none; each = λ n g. rw (get_or-replicate m n none none g) (h n) }
