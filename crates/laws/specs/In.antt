-- Elements of a list, and what a test of the whole list says of each.
use Rattle.std.specs.Prelude.{◌≡◌, refl, Bool, true, false, ◌⊎◌, ℕ, zero, suc, ◌+◌, ◌≤◌, ◌<◌, eqb}
use Rattle.std.proofs.Common.{sym, inl, inr, ⊎_elim, arith, eqb-true}
use Rattle.std.proofs.lemmas.Bool.{false≢true, eqb-false}
use mathlib.Core.List.{List, [], ◌∷◌}
use Rattle.laws.specs.Bool.{when◌then◌else◌, split, both, join}
use Rattle.laws.specs.Rows.{span, span_more, span_none}
use Rattle.laws.specs.First.{first, some}
use Rattle.laws.specs.Every.{every, below}

pub data In {A : Type 0} (x : A) : List A → Type 0 where
  head : {xs : List A} → In x (x ∷ xs)
  tail : {y : A} {xs : List A} → In x xs → In x (y ∷ xs)

pub nowhere : {A : Type 0} {x : A} → In x [] → ⊥
nowhere = elim [ ]

pub in_cons : {A : Type 0} {x y : A} {xs : List A} → In x (y ∷ xs) → (x ≡ y) ⊎ (In x xs)
in_cons head = inl refl
in_cons (tail i) = inr i

pub every_in : {A : Type 0} (p : A → Bool) {x : A} {xs : List A} → every p xs ≡ true → In x xs → p x ≡ true
unfolding every
every_in p e head = (both _ _ e).0
every_in p e (tail i) = every_in p (both _ _ e).1 i

pub in_every : {A : Type 0} (p : A → Bool) (xs : List A) → ((x : A) → In x xs → p x ≡ true) → every p xs ≡ true
unfolding every
in_every p [] h = refl
in_every p (x ∷ xs) h = join _ _ (h x head) (in_every p xs (λ y i. h y (tail i)))

-- The rows of a range, and its numbers.
pub in_span : {A : Type 0} (f : ℕ → A) (m i k n : ℕ) → k ≡ i + m → i ≤ n → n < k → In (f n) (span f i k)
in_span f zero i k n e a b = absurd (omega arith)
in_span f (suc m) i k n e a b =
    rw (span_more f i k (omega arith))
    (split (eqb n i) (λ q. rw (eqb-true n i q) head) (λ q. let d : n ≡ i → ⊥ = eqb-false n i q in tail (in_span f m (i + 1) k n (omega arith) (omega arith) b)))

pub span_in : (m i k n : ℕ) → k ≡ i + m → In n (span (λ x. x) i k) → n < k
span_in zero i k n e p = absurd (nowhere (rw (span_none (λ x. x) i k (omega arith)) at p))
span_in (suc m) i k n e p =
    ⊎_elim (λ (q : n ≡ i). omega arith) (λ q. span_in m (i + 1) k n (omega arith) q) (in_cons (rw (span_more (λ x. x) i k (omega arith)) at p))

module _ (k : ℕ) (p : ℕ → Bool) where
  pub below_at : below k p ≡ true → (n : ℕ) → n < k → p n ≡ true
  below_at e n h = every_in p e (in_span (λ n. n) k 0 k n (omega arith) (omega arith) h)

  pub at_below : ((n : ℕ) → n < k → p n ≡ true) → below k p ≡ true
  at_below h = in_every p (span (λ n. n) 0 k) (λ n i. h n (span_in k 0 k n (omega arith) i))

-- What `first` gives: the value of an element that passes, or the default where none does.
pub data Hit {A B : Type 0} (p : A → Bool) (v : ℕ → A → B) (e : B) (xs : List A) : B → Type 0 where
  hit : (j : ℕ) (x : A) → In x xs → p x ≡ true → Hit p v e xs (v j x)
  miss : ((x : A) → In x xs → p x ≡ false) → Hit p v e xs e

module _ {A B : Type 0} (p : A → Bool) (v : ℕ → A → B) (e : B) where
  later : (y : A) (xs : List A) {w : B} → p y ≡ false → Hit p v e xs w → Hit p v e (y ∷ xs) w
  later y xs h (hit j x i t) = hit j x (tail i) t
  later y xs h (miss f) = miss (λ x i. at_or_after x i)
    where
      at_or_after : (x : A) → In x (y ∷ xs) → p x ≡ false
      at_or_after x head = h
      at_or_after x (tail i) = f x i

  pub hits : (i : ℕ) (xs : List A) → Hit p v e xs (first p v e i xs)
  unfolding first when◌then◌else◌
  hits i [] = miss (λ x i. absurd (nowhere i))
  hits i (x ∷ xs) = split (p x) (λ h. rw h (hit i x head h)) (λ h. rw h (later x xs h (hits (i + 1) xs)))

-- Some element passes, or none.
pub record Some {A : Type 0} (p : A → Bool) (xs : List A) : Type 0 where
  pub it : A
  pub there : In it xs
  pub passes : p it ≡ true

module _ {A : Type 0} (p : A → Bool) (xs : List A) where
  found_by : {b : Bool} → Hit p (λ _ _. true) false xs b → b ≡ true → Some p xs
  found_by (hit j x i t) e = record { it = x; there = i; passes = t }
  found_by (miss f) e = absurd (false≢true e)

  pub some_found : some p xs ≡ true → Some p xs
  some_found e = found_by (hits p (λ _ _. true) false 0 xs) e

  none_by : {b : Bool} → Hit p (λ _ _. true) false xs b → b ≡ false → (x : A) → In x xs → p x ≡ false
  none_by (hit j x i t) e = absurd (false≢true (sym e))
  none_by (miss f) e = f

  pub none_found : some p xs ≡ false → (x : A) → In x xs → p x ≡ false
  none_found e = none_by (hits p (λ _ _. true) false 0 xs) e
