-- Writing into a list: ys stand in xs from a place on, and all else stays.
use Rattle.std.specs.Prelude.{◌≡◌, refl, get_or, set}
use Rattle.std.proofs.Common.{sym, ◌∙◌, mul-suc, add-one, take-append-drop, drop_of_length-le, take_all, take-suc}
use Rattle.std.proofs.Math.Path.{ap}
use mathlib.Core.List.{List, [], ◌∷◌, ◌++◌, flat_map, append_assoc, append-nil}
use Prim.Native.Nat.{ℕ, zero, suc, ◌+◌, ◌*◌, ◌-◌, ◌≤◌, ◌<◌}
use native.Mathlib.Omega.{arith}
use Rattle.std.proofs.Math.ListN.{length, take, drop, length-append, length-drop}
use Rattle.std.proofs.Math.Seq.{length-take-le, take_at, drop-append-add, drop-drop}
use Rattle.std.proofs.lemmas.List.{set_split}
use Rattle.laws.specs.Rows.{rows, span, length_span}

unfoldable pub splice : {A : Type 0} → List A → (at : ℕ) → List A → List A
splice xs at ys = take at xs ++ ys ++ drop (at + length ys) xs

module _ {A : Type 0} (xs : List A) (at : ℕ) where
  pub splice_none : splice xs at [] ≡ xs
  unfolding splice
  splice_none =
      let e : at + 0 ≡ at = omega arith in
      rw (e, append-nil) (take-append-drop at xs)

  pub splice_one : (a : A) → at < length xs → set xs at a ≡ splice xs at (a ∷ [])
  unfolding splice
  splice_one a h =
      let e : at + 1 ≡ suc at = omega arith in
      rw (e, append_assoc) (set_split xs at a h)

  pub length_splice : (ys : List A) → at + length ys ≤ length xs → length (splice xs at ys) ≡ length xs
  unfolding splice
  length_splice ys h =
      let t = length-take-le at xs (omega arith) in
      simp (length-append, length-drop, t) (omega arith)

  -- what is written behind ys is written with them
  pub splice_more : (ys zs : List A) (n : ℕ) → n ≡ at + length ys → n + length zs ≤ length xs → splice (splice xs at ys) n zs ≡ splice xs at (ys ++ zs)
  unfolding splice
  splice_more ys zs n e h =
      let t = length-take-le at xs (omega arith) in
      let p : length (take at xs ++ ys) ≡ n = simp (length-append, t) (sym e) in
      let front : take n (take at xs ++ ys ++ drop (at + length ys) xs) ≡ take at xs ++ ys = take_at (take at xs ++ ys) _ n p in
      let k : n + length zs ≡ length (take at xs ++ ys) + length zs = omega arith in
      let m : at + length ys + length zs ≡ at + length (ys ++ zs) = rw length-append (omega arith) in
      let back : drop (n + length zs) (take at xs ++ ys ++ drop (at + length ys) xs) ≡ drop (at + length (ys ++ zs)) xs =
      rw k (drop-append-add (take at xs ++ ys) _ (length zs) ∙ drop-drop (length zs) (at + length ys) xs ∙ ap (λ j. drop j xs) m) in
      rw (front, back) (ap (λ (l : List A). l ++ drop (at + length (ys ++ zs)) xs) (append_assoc (take at xs) ys zs))

-- A whole list written over another of its length.
pub splice_all : {A : Type 0} (xs ys : List A) → length ys ≡ length xs → splice xs 0 ys ≡ ys
unfolding splice
splice_all xs ys e =
    let g : length xs ≤ 0 + length ys = omega arith in
    rw (drop_of_length-le xs g) (append-nil ys)

-- AN ARRAY FILLED. A loop over i sets the element at i to f i: those before i are f's.
rows_last : {A : Type 0} (f : ℕ → A) (i k : ℕ) → rows f i (suc k) ≡ rows f i k ++ (f (i + k) ∷ [])
unfolding rows
rows_last f i zero =
    let e : i + 0 ≡ i = omega arith in
    rw e
rows_last {A} f i (suc k) =
    let e : i + suc k ≡ i + 1 + k = omega arith in
    rw e (ap {B = List A} (λ r. f i ∷ r) (rows_last f (i + 1) k))

span_last : {A : Type 0} (f : ℕ → A) (k : ℕ) → span f 0 (k + 1) ≡ span f 0 k ++ (f k ∷ [])
unfolding span
span_last f k =
    let e : k + 1 - 0 ≡ suc (k - 0) = omega arith in
    let z : k - 0 ≡ k = omega arith in
    let s : 0 + k ≡ k = omega arith in
    rw e (rows_last f 0 (k - 0) ∙ rw (z, s))

pub record Filled {A : Type 0} (f : ℕ → A) (n i : ℕ) (l₀ l : List A) : Type 0 where
  pub so_far : l ≡ splice l₀ 0 (span f 0 i)
  pub long : length l₀ ≡ n
  pub low : i ≤ n

pub fill_start : {A : Type 0} {f : ℕ → A} {n : ℕ} {l : List A} → length l ≡ n → Filled f n 0 l l
unfolding span rows
fill_start {A} {f} {n} {l} e = record { so_far = sym (splice_none l 0); long = e; low = omega arith }

module _ {A : Type 0} {f : ℕ → A} {n i : ℕ} {l₀ l : List A} (inv : Filled f n i l₀ l) where
  pub fill_next : {x : A} → x ≡ f i → i < n → Filled f n (i + 1) l₀ (set l i x)
  fill_next {x} e h =
      let g = inv.long in
      let s = length_span f i in
      let m : 0 + length (span f 0 i) ≤ length l₀ = omega arith in
      let w : length l ≡ length l₀ = rw inv.so_far (length_splice l₀ 0 (span f 0 i) m) in
      record {
        so_far = splice_one l i x (omega arith) ∙ rw (inv.so_far, e, span_last f i) (splice_more l₀ 0 (span f 0 i) (f i ∷ []) i (omega arith) (omega arith));
        long = g;
        low = omega arith;
      }

  pub fill_end : n ≤ i → l ≡ span f 0 n
  fill_end h =
      let g = inv.long in
      let b = inv.low in
      let s = length_span f n in
      let e : i ≡ n = omega arith in
      (rw e at inv.so_far) ∙ splice_all l₀ (span f 0 n) (omega arith)

-- ROWS WRITTEN. A loop over i writes the numbers of row i, w of them, behind those of the rows before it.
module _ {A B : Type 0} (f : A → List B) (w : ℕ) (wide : (x : A) → length (f x) ≡ w) where
  pub length_flat : (xs : List A) → length (flat_map f xs) ≡ w * length xs
  unfolding flat_map
  length_flat [] = omega arith
  length_flat (x ∷ xs) =
      let a = wide x in
      let b = length_flat xs in
      rw (length-append, mul-suc) (omega arith)

flat_append : {A B : Type 0} (f : A → List B) (xs : List A) (x : A) → flat_map f (xs ++ (x ∷ [])) ≡ flat_map f xs ++ f x
unfolding flat_map
flat_append f [] x = append-nil (f x)
flat_append f (y ∷ xs) x = rw (flat_append f xs x) (sym (append_assoc (f y) (flat_map f xs) (f x)))

-- Rows of one number each.
pub flat_ones : {A : Type 0} (xs : List A) → flat_map (λ x. x ∷ []) xs ≡ xs
unfolding flat_map
flat_ones [] = refl
flat_ones {A} (x ∷ xs) = ap {B = List A} (λ r. x ∷ r) (flat_ones xs)

pub record Written {A B : Type 0} (f : A → List B) (w : ℕ) (xs : List A) (at i : ℕ) (l₀ l : List B) : Type 0 where
  pub so_far : l ≡ splice l₀ at (flat_map f (take i xs))
  pub wide : (x : A) → length (f x) ≡ w
  pub long : length l ≡ length l₀

pub write_start : {A B : Type 0} {f : A → List B} {w : ℕ} {xs : List A} {at : ℕ} {l : List B} → ((x : A) → length (f x) ≡ w) → Written f w xs at 0 l l
unfolding flat_map
write_start {A} {B} {f} {w} {xs} {at} {l} e = record { so_far = sym (splice_none l at); wide = e; long = refl }

module _ {A B : Type 0} {f : A → List B} {w : ℕ} {xs : List A} {at i : ℕ} {l₀ l : List B} (inv : Written f w xs at i l₀ l) where
  pub write_next : (d : A) {k : ℕ} {l' : List B} → k ≡ at + w * i → i < length xs → k + w ≤ length l₀ → l' ≡ splice l k (f (get_or xs i d)) → Written f w xs at (i + 1) l₀ l'
  write_next d {k} {l'} place h room e =
      let wide = inv.wide (get_or xs i d) in
      let t = length-take-le i xs (omega arith) in
      let g : length (flat_map f (take i xs)) ≡ w * i = length_flat f w inv.wide (take i xs) ∙ rw t in
      let s : splice l k (f (get_or xs i d)) ≡ splice l₀ at (flat_map f (take (i + 1) xs)) =
      rw (inv.so_far, add-one, take-suc xs i d h, flat_append) (splice_more l₀ at (flat_map f (take i xs)) (f (get_or xs i d)) k (omega arith) (omega arith)) in
      let n = inv.long in
      record { so_far = e ∙ s; wide = inv.wide; long = rw e (length_splice l k (f (get_or xs i d)) (omega arith) ∙ n) }

  pub write_end : length xs ≤ i → l ≡ splice l₀ at (flat_map f xs)
  write_end h = rw (take_all i xs h) at inv.so_far
