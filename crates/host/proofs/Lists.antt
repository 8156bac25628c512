-- Laws of lists: rows of numbers in a row, and what holds of all elements.
use Rattle.std.specs.Prelude.{◌≡◌, Bool, true, replicate}
use Rattle.std.proofs.Math.Path.{refl}
use Rattle.std.proofs.Common.{◌∙◌, ap, length-append, get_or-append-add}
use mathlib.Core.List.{List, [], ◌∷◌, ◌++◌, flat_map, append_assoc}
use Prim.Native.Nat.{ℕ, zero, suc, ◌+◌, ◌*◌, ◌-◌, ◌≤◌, ◌<◌}
use Rattle.std.proofs.Math.Nat.{mul-suc}
use native.Mathlib.Omega.{arith}
use Rattle.std.proofs.Math.ListN.{length, get_or, get_or-append}
use Rattle.std.proofs.lemmas.List.{length-replicate}
use Rattle.laws.specs.Bool.{both, join}
use Rattle.laws.specs.Rows.{rows, span, rows_all}
use Rattle.laws.specs.Every.{every}
use Rattle.laws.specs.All.{All}
use Rattle.laws.specs.Listing.{padded}

-- ALL ELEMENTS.
module _ {A : Type 0} (P : A → Type 0) where
  pub all_at : (xs : List A) → All P xs → (i : ℕ) (d : A) → i < length xs → P (get_or xs i d)
  all_at [] a i d h = absurd (omega arith)
  all_at (x ∷ xs) a zero d h = a.0
  all_at (x ∷ xs) a (suc i) d h = all_at xs a.1 i d (omega arith)

  all_rows : (f : ℕ → A) (i k m : ℕ) → i + k ≡ m → ((n : ℕ) → n < m → P (f n)) → All P (rows f i k)
  unfolding rows
  all_rows f i zero m e h = tt
  all_rows f i (suc k) m e h = (h i (omega arith), all_rows f (i + 1) k m (omega arith) h)

  pub all_span : (f : ℕ → A) (k : ℕ) → ((n : ℕ) → n < k → P (f n)) → All P (span f 0 k)
  unfolding span
  all_span f k h = all_rows f 0 (k - 0) k (omega arith) h

-- A test of every element, and what it says of each.
module _ {A : Type 0} (p : A → Bool) (P : A → Type 0) where
  pub every_all : ((x : A) → p x ≡ true → P x) → (xs : List A) → every p xs ≡ true → All P xs
  unfolding every
  every_all f [] e = tt
  every_all f (x ∷ xs) e = let b = both _ _ e in (f x b.0, every_all f xs b.1)

  pub all_every : ((x : A) → P x → p x ≡ true) → (xs : List A) → All P xs → every p xs ≡ true
  unfolding every
  all_every f [] a = refl
  all_every f (x ∷ xs) a = join _ _ (f x a.0) (all_every f xs a.1)

-- A LIST READ ELEMENT BY ELEMENT.
rows_same : {A : Type 0} (f g : ℕ → A) (i k m : ℕ) → i + k ≡ m → ((n : ℕ) → n < m → f n ≡ g n) → rows f i k ≡ rows g i k
unfolding rows
rows_same f g i zero m e h = refl
rows_same {A} f g i (suc k) m e h = rw (h i (omega arith)) (ap {B = List A} (λ l. g i ∷ l) (rows_same f g (i + 1) k m (omega arith) h))

pub span_list : {A : Type 0} (f : ℕ → A) (d : A) (l : List A) (n : ℕ) → length l ≡ n → ((i : ℕ) → i < n → f i ≡ get_or l i d) → span f 0 n ≡ l
unfolding span
span_list f d l n e h =
    let z : n - 0 ≡ n = omega arith in
    rw z (rows_same f (λ i. get_or l i d) 0 n n (omega arith) h ∙ rows_all d l n e)

-- A LIST IN ITS ARRAY, filled up with a default.
pub getD_replicate_same : {A : Type 0} (d : A) (n i : ℕ) → get_or (replicate n d) i d ≡ d
getD_replicate_same d zero i = refl
getD_replicate_same d (suc n) zero = refl
getD_replicate_same d (suc n) (suc i) = getD_replicate_same d n i

module _ {A : Type 0} (d : A) (xs : List A) where
  pub length_padded : (size : ℕ) → length xs ≤ size → length (padded size d xs) ≡ size
  unfolding padded
  length_padded size h = simp (length-append, length-replicate) (omega arith)

  pub padded_at : (size i : ℕ) → i < length xs → get_or (padded size d xs) i d ≡ get_or xs i d
  unfolding padded
  padded_at size i h = get_or-append xs (replicate (size - length xs) d) d i h

  pub padded_past : (size i : ℕ) → length xs ≤ i → get_or (padded size d xs) i d ≡ d
  unfolding padded
  padded_past size i h =
      let e : i ≡ length xs + (i - length xs) = omega arith in
      rw e (get_or-append-add xs (replicate (size - length xs) d) (i - length xs) d ∙ getD_replicate_same d (size - length xs) (i - length xs))

-- ROWS OF NUMBERS, each of a width, with numbers in front of them and behind them.
module _ {A : Type 0} (f : A → List ℕ) (w : ℕ) (wide : (x : A) → length (f x) ≡ w) (rest : List ℕ) (d : A) (j : ℕ) (inside : j < w) where
  flat_at : (xs : List A) (i : ℕ) → i < length xs → get_or (flat_map f xs ++ rest) (w * i + j) 0 ≡ get_or (f (get_or xs i d)) j 0
  unfolding flat_map
  flat_at [] i h = absurd (omega arith)
  flat_at (x ∷ xs) zero h =
      let e : w * 0 + j ≡ j = omega arith in
      let n = wide x in
      let g : j < length (f x) = omega arith in
      rw (e, append_assoc) (get_or-append (f x) (flat_map f xs ++ rest) 0 j g)
  flat_at (x ∷ xs) (suc i) h =
      let n = wide x in
      let e : w * suc i + j ≡ length (f x) + (w * i + j) = rw (mul-suc w i) (omega arith) in
      rw (e, append_assoc) (get_or-append-add (f x) (flat_map f xs ++ rest) (w * i + j) 0 ∙ flat_at xs i (omega arith))

  pub row_at : (front : List ℕ) (a : ℕ) (xs : List A) (i p : ℕ) → length front ≡ a → p ≡ a + w * i + j → i < length xs → get_or (front ++ (flat_map f xs ++ rest)) p 0 ≡ get_or (f (get_or xs i d)) j 0
  row_at front a xs i p long place h =
      let e : p ≡ length front + (w * i + j) = place ∙ rw long (omega arith) in
      rw e (get_or-append-add front (flat_map f xs ++ rest) (w * i + j) 0 ∙ flat_at xs i h)

-- RANGES JOINED: rows of numbers one behind the other are one range.
module _ (r : List ℕ) where
  pub rows_append : (i j k n : ℕ) → n ≡ i + j → rows (λ m. get_or r m 0) i j ++ rows (λ m. get_or r m 0) n k ≡ rows (λ m. get_or r m 0) i (j + k)
  unfolding rows
  rows_append i zero k n e =
      let p : n ≡ i = omega arith in
      let q : 0 + k ≡ k = omega arith in
      rw (p, q)
  rows_append i (suc j) k n e =
      let q : suc j + k ≡ suc (j + k) = omega arith in
      rw q (ap {B = List ℕ} (λ l. get_or r i 0 ∷ l) (rows_append (i + 1) j k n (omega arith)))

  pub flat_rows : {A : Type 0} (g : A → List ℕ) (h : ℕ → A) (a w m : ℕ) → ((i : ℕ) → i < m → g (h i) ≡ rows (λ n. get_or r n 0) (a + w * i) w) → (s k : ℕ) → s + k ≡ m → flat_map g (rows h s k) ≡ rows (λ n. get_or r n 0) (a + w * s) (w * k)
  unfolding flat_map rows
  flat_rows g h a w m f s zero e =
      let z : w * 0 ≡ 0 = omega arith in
      rw z
  flat_rows g h a w m f s (suc k) e =
      let u : s + 1 ≡ suc s = omega arith in
      let p : a + w * (s + 1) ≡ a + w * s + w = rw (u, mul-suc w s) (omega arith) in
      let q : w * suc k ≡ w + w * k = rw (mul-suc w k) (omega arith) in
      rw (f s (omega arith), flat_rows g h a w m f (s + 1) k (omega arith), q) (rows_append (a + w * s) w (w * k) (a + w * (s + 1)) p)
