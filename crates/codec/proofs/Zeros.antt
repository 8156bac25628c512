-- Lists of zeros, and lists that are zero from a place on.
use Rattle.std.specs.Prelude.{◌≡◌, refl, true, List, [], ◌∷◌, ◌++◌, ℕ, zero, suc, ◌+◌, ◌-◌, ◌≤◌, take}
use Rattle.std.proofs.Common.{sym, ap, ◌∙◌, append_assoc, drop-drop, eqb-true}
use native.Mathlib.Omega.{arith}
use Rattle.std.proofs.Math.ListN.{length, drop, replicate, length-append, length-replicate}
use Rattle.std.proofs.lemmas.List.{drop-replicate, replicate-append-replicate}
use Rattle.std.proofs.Math.Seq.{take_at, drop_at, length-take-le}
use Rattle.laws.specs.Bool.{◌and◌, both}
use Rattle.laws.specs.Every.{every}
use Rattle.laws.specs.Listing.{padded}
use Rattle.laws.specs.Splice.{splice, length_splice}
use Rattle.codec.specs.Stages.{all_zero}
use Rattle.codec.specs.Stored.{ZeroFrom}

pub all_zeros : (n : ℕ) → all_zero (replicate n 0) ≡ true
unfolding every ◌and◌
all_zeros zero = refl
all_zeros (suc n) = all_zeros n

pub zeros : (xs : List ℕ) → all_zero xs ≡ true → xs ≡ replicate (length xs) 0
unfolding every
zeros [] h = refl
zeros (x ∷ xs) h =
    let b = both _ _ h in
    let z = eqb-true x 0 b.0 in
    rw z (ap (λ (r : List ℕ). 0 ∷ r) (zeros xs b.1))

-- A LIST FILLED UP with zeros.
module _ (room : ℕ) (xs : List ℕ) (low : length xs ≤ room) where
  pub padded_long : length (padded room 0 xs) ≡ room
  unfolding padded
  padded_long = let z = length-replicate {A = ℕ} (room - length xs) 0 in rw length-append (omega arith)

  module _ (k : ℕ) (long : length xs ≡ k) where
    pub take_padded : take k (padded room 0 xs) ≡ xs
    unfolding padded
    take_padded = take_at xs (replicate (room - length xs) 0) k long

    pub drop_padded : drop k (padded room 0 xs) ≡ replicate (room - length xs) 0
    unfolding padded
    drop_padded = drop_at xs (replicate (room - length xs) 0) k long

three : (xs ys : List ℕ) (k n : ℕ) → xs ++ (ys ++ replicate k 0) ++ replicate n 0 ≡ xs ++ ys ++ replicate (k + n) 0
three xs ys k n =
    rw (← append_assoc xs ys (replicate k 0)) (append_assoc (xs ++ ys) (replicate k 0) (replicate n 0) ∙ ap (λ (zs : List ℕ). xs ++ ys ++ zs) (replicate-append-replicate k n 0))

-- ZERO FROM A PLACE ON. So it is from any later place; behind what is written there; and zeros written there change nothing.
module _ (l : List ℕ) (i : ℕ) (zero_from : ZeroFrom i l) where
  zero_later : (k : ℕ) → ZeroFrom (i + k) l
  zero_later k =
      let e : length l - i - k ≡ length l - (i + k) = omega arith in
      sym (drop-drop k i l) ∙ rw zero_from (drop-replicate k (length l - i) 0 ∙ rw e)

  pub zero_behind : (xs : List ℕ) → i + length xs ≤ length l → ZeroFrom (i + length xs) (splice l i xs)
  unfolding splice
  zero_behind xs h =
      let t = length-take-le i l (omega arith) in
      let n : length (take i l ++ xs) ≡ i + length xs = rw (length-append, t) in
      let s : length (take i l ++ xs ++ drop (i + length xs) l) ≡ length l = length_splice l i xs h in
      drop_at (take i l ++ xs) (drop (i + length xs) l) (i + length xs) n ∙ rw s (zero_later (length xs))

  pub splice_padded : (room : ℕ) (xs : List ℕ) → length xs ≤ room → i + room ≤ length l → splice l i (padded room 0 xs) ≡ splice l i xs
  unfolding splice padded
  splice_padded room xs low h =
      let z = length-replicate {A = ℕ} (room - length xs) 0 in
      let n : i + length (xs ++ replicate (room - length xs) 0) ≡ i + room = rw length-append (omega arith) in
      let m : room - length xs + (length l - (i + room)) ≡ length l - (i + length xs) = omega arith in
      rw (n, zero_later room, zero_later (length xs), ← m) (three (take i l) xs (room - length xs) (length l - (i + room)))
