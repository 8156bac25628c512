-- Rows read one by one: the list of what a reader gives for a range of places.
use Rattle.std.specs.Prelude.{◌≡◌, List, [], ◌∷◌, get_or, length, take}
use Rattle.std.proofs.Math.Path.{refl, ap, sym}
use Rattle.std.proofs.Common.{◌∙◌}
use Prim.Native.Nat.{ℕ, zero, suc, ◌+◌, ◌-◌, ◌≤◌, ◌<◌, min}
use native.Mathlib.Omega.{arith}
use Rattle.std.proofs.Math.ListN.{get_or-eq_default}

-- f i, f (i + 1), .., k of them
unfoldable pub rows : {A : Type 0} → (ℕ → A) → (i k : ℕ) → List A
rows f i zero = []
rows f i (suc k) = f i ∷ rows f (i + 1) k

-- f i, .., f (k - 1)
unfoldable pub span : {A : Type 0} → (ℕ → A) → (i k : ℕ) → List A
span f i k = rows f i (k - i)

module _ {A : Type 0} (f : ℕ → A) where
  pub span_more : (i k : ℕ) → i < k → span f i k ≡ f i ∷ span f (i + 1) k
  unfolding span rows
  span_more i k h =
      let e : k - i ≡ suc (k - (i + 1)) = omega arith in
      rw e

  pub span_none : (i k : ℕ) → k ≤ i → span f i k ≡ []
  unfolding span rows
  span_none i k h =
      let e : k - i ≡ 0 = omega arith in
      rw e

  pub length_rows : (i k : ℕ) → length (rows f i k) ≡ k
  unfolding rows
  length_rows i zero = refl
  length_rows i (suc k) = ap suc (length_rows (i + 1) k)

  pub get_d_rows : (i k n : ℕ) (d : A) → n < k → get_or (rows f i k) n d ≡ f (i + n)
  unfolding rows
  get_d_rows i zero n d h = absurd (omega arith)
  get_d_rows i (suc k) zero d h = ap f (omega arith)
  get_d_rows i (suc k) (suc n) d h =
      let e : i + suc n ≡ i + 1 + n = omega arith in
      rw e (get_d_rows (i + 1) k n d (omega arith))

  pub length_span : (k : ℕ) → length (span f 0 k) ≡ k
  unfolding span
  length_span k = rw length_rows (omega arith)

  -- x, read at n, is the element at n; past the end there is only the default
  pub at_span : (k n : ℕ) (d : A) {x : A} → n < k → x ≡ f n → x ≡ get_or (span f 0 k) n d
  unfolding span
  at_span k n d h e =
      let z : 0 + n ≡ n = omega arith in
      e ∙ sym (rw z at (get_d_rows 0 (k - 0) n d (omega arith)))

  pub past_span : (k n : ℕ) (d : A) → k ≤ n → d ≡ get_or (span f 0 k) n d
  past_span k n d h =
      let e = length_span k in
      sym (get_or-eq_default (span f 0 k) d (omega arith))

-- The first k elements of a list of length n are its rows.
shifted : {A : Type 0} (x d : A) (l : List A) (i k : ℕ) → rows (λ n. get_or (x ∷ l) n d) (suc i) k ≡ rows (λ n. get_or l n d) i k
unfolding rows
shifted x d l i zero = refl
shifted x d l i (suc k) =
    let e : suc i + 1 ≡ suc (i + 1) = omega arith in
    rw e (ap (λ r. get_or l i d ∷ r) (shifted x d l (i + 1) k))

take_rows : {A : Type 0} (d : A) (l : List A) (k : ℕ) → take k l ≡ rows (λ n. get_or l n d) 0 (min (length l) k)
unfolding rows
take_rows d [] zero = refl
take_rows d [] (suc k) =
    let e : min 0 (suc k) ≡ 0 = omega arith in
    rw e
take_rows d (x ∷ l) zero =
    let e : min (length (x ∷ l)) 0 ≡ 0 = omega arith in
    rw e
take_rows d (x ∷ l) (suc k) =
    let e : min (suc (length l)) (suc k) ≡ suc (min (length l) k) = omega arith in
    rw e (ap (λ r. x ∷ r) (take_rows d l k ∙ sym (shifted x d l 0 (min (length l) k))))

-- A list of length n is its n rows.
all_rows : {A : Type 0} (d : A) (l : List A) → rows (λ i. get_or l i d) 0 (length l) ≡ l
unfolding rows
all_rows d [] = refl
all_rows d (x ∷ l) = ap (λ r. x ∷ r) (shifted x d l 0 (length l) ∙ all_rows d l)

pub rows_all : {A : Type 0} (d : A) (l : List A) (n : ℕ) → length l ≡ n → rows (λ i. get_or l i d) 0 n ≡ l
rows_all d l n h = rw h at (all_rows d l)

pub take_span : {A : Type 0} (d : A) (l : List A) (n k : ℕ) → length l ≡ n → take k l ≡ span (λ i. get_or l i d) 0 (min n k)
unfolding span
take_span d l n k h =
    let e : min n k - 0 ≡ min (length l) k = omega arith in
    rw e (take_rows d l k)
