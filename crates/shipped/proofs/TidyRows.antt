-- Numbers that stand one behind the other, and rows of them, are tidy in the shapes that bytes have.
use Rattle.std.specs.Prelude.{◌≡◌, Bool, true, eqb, get_or, drop}
use Rattle.std.proofs.Math.Path.{refl}
use Rattle.std.proofs.Common.{◌∙◌, take_at, drop_at, eq-eqb, le-leb, eqb-true}
use mathlib.Core.List.{List, [], ◌∷◌, ◌++◌, flat_map}
use Prim.Native.Nat.{ℕ, zero, suc, ◌+◌, ◌*◌, ◌≤◌, ◌<◌}
use Rattle.std.proofs.Math.Nat.{mul-suc}
use native.Mathlib.Omega.{arith}
use Rattle.std.proofs.Math.Dec.{ltb}
use Rattle.std.proofs.Math.ListN.{length, drop_of_length-le}
use Rattle.std.proofs.Math.Seq.{drop-append-add}
use Rattle.laws.specs.Bool.{◌and◌, split, both, join, if_true, if_false}
use Rattle.laws.specs.All.{All}
use Rattle.laws.specs.Every.{every, every_append}
use Rattle.laws.specs.Splice.{length_flat}
use Rattle.codec.specs.Numbers.{all_below}
use Rattle.codec.specs.Stages.{Shape, Stage, numbers, column, beside, widths, staged, all_zero}
use Rattle.codec.specs.Slots.{slot, slots}
use Rattle.codec.proofs.Parts.{every_take}

-- All of two lists pass: so do those of each.
pub every_parts : {A : Type 0} (p : A → Bool) (xs ys : List A) → every p (xs ++ ys) ≡ true → (every p xs ≡ true) × (every p ys ≡ true)
unfolding every
every_parts p [] ys h = (refl, h)
every_parts p (x ∷ xs) ys h =
    let b = both _ _ h in
    let c = every_parts p xs ys b.1 in
    (join _ _ b.0 c.0, c.1)

-- ONE BEHIND THE OTHER.
beside_tidy : (one : Shape) (more : List ℕ → Shape) (width : ℕ) (xs rest : List ℕ) → length xs ≡ one.width → one.tidy xs ≡ true → (more xs).tidy rest ≡ true → (beside one more width).tidy (xs ++ rest) ≡ true
unfolding beside
beside_tidy one more width xs rest n t u = rw (take_at xs rest one.width n, drop_at xs rest one.width n) (join _ _ t u)

pub stage_tidy : (stage : Stage) (stages : List Stage) (seen xs rest : List ℕ) → length xs ≡ (stage.shape seen).width → (stage.shape seen).tidy xs ≡ true → (staged stages (seen ++ xs)).tidy rest ≡ true → (staged (stage ∷ stages) seen).tidy (xs ++ rest) ≡ true
unfolding staged
stage_tidy stage stages seen xs rest n t u = beside_tidy (stage.shape seen) (λ ns. staged stages (seen ++ ns)) (widths stages) xs rest n t u

pub no_stage_tidy : (seen : List ℕ) → (staged [] seen).tidy [] ≡ true
unfolding staged numbers every ◌and◌
no_stage_tidy seen = refl

-- SINGLE NUMBERS.
pub numbers_tidy : (top k : ℕ) (xs : List ℕ) → length xs ≡ k → all_below top xs ≡ true → (numbers top k).tidy xs ≡ true
unfolding numbers
numbers_tidy top k xs n h = join _ _ (eq-eqb (length xs) k n) h

-- ROWS, each of w numbers.
pub rows_zero : {A : Type 0} (f : A → List ℕ) (xs : List A) → All (λ (x : A). all_zero (f x) ≡ true) xs → all_zero (flat_map f xs) ≡ true
unfolding flat_map every
rows_zero f [] h = refl
rows_zero f (x ∷ xs) h = every_append (λ n. eqb n 0) (f x) (flat_map f xs) h.0 (rows_zero f xs h.1)

module _ {A : Type 0} (f : A → List ℕ) (w : ℕ) (wide : (x : A) → length (f x) ≡ w) where
  -- behind the first k rows
  flat_drop : (k : ℕ) (xs : List A) → drop (w * k) (flat_map f xs) ≡ flat_map f (drop k xs)
  unfolding flat_map
  flat_drop zero xs = let e : w * 0 ≡ 0 = omega arith in rw e
  flat_drop (suc k) [] = let h : 0 ≤ w * suc k = omega arith in drop_of_length-le [] h
  flat_drop (suc k) (x ∷ xs) =
      let n = wide x in
      let e : w * suc k ≡ length (f x) + w * k = rw mul-suc (omega arith) in
      rw e (drop-append-add (f x) (flat_map f xs) (w * k) ∙ flat_drop k xs)

  -- A column of rows, of which the first are used.
  pub rows_column : (top room count : ℕ) (xs : List A) → w * length xs ≡ room → w * count ≤ room → all_below top (flat_map f xs) ≡ true → all_zero (flat_map f (drop count xs)) ≡ true → (column top room (w * count)).tidy (flat_map f xs) ≡ true
  unfolding column
  rows_column top room count xs n low below blank =
      join _ _ (eq-eqb _ room (length_flat f w wide xs ∙ n))
      (join _ _ (le-leb (w * count) room low) (join _ _ (every_take (λ m. ltb m top) (w * count) (flat_map f xs) below) (rw (flat_drop count xs) blank)))

  -- Slots, each of which is zero where its lead is.
  module _ (top before after : ℕ) (is : w ≡ before + suc after) (d : A) where
    row_slot : (x : A) → all_below top (f x) ≡ true → (get_or (f x) before 0 ≡ 0 → all_zero (f x) ≡ true) → (slot top before after).tidy (f x) ≡ true
    unfolding slot
    row_slot x below blank =
        join _ _ (eq-eqb _ _ (wide x ∙ is))
        (join _ _ below (split (eqb (get_or (f x) before 0) 0) (λ z. if_true _ _ _ z ∙ blank (eqb-true _ 0 z)) (λ z. if_false _ _ _ z)))

    pub rows_slots : (n : ℕ) (xs : List A) → length xs ≡ n → all_below top (flat_map f xs) ≡ true → ((i : ℕ) → i < n → get_or (f (get_or xs i d)) before 0 ≡ 0 → all_zero (f (get_or xs i d)) ≡ true) → (slots top before after n).tidy (flat_map f xs) ≡ true
    unfolding slots flat_map slot numbers every ◌and◌
    rows_slots zero [] n below blank = refl
    rows_slots zero (x ∷ xs) n below blank = absurd (omega arith)
    rows_slots (suc k) [] n below blank = absurd (omega arith)
    rows_slots (suc k) (x ∷ xs) n below blank =
        let b = every_parts (λ m. ltb m top) (f x) (flat_map f xs) below in
        beside_tidy (slot top before after) (λ _. slots top before after k) ((before + suc after) * k) (f x) (flat_map f xs) (wide x ∙ is) (row_slot x b.0 (blank 0 (omega arith)))
        (rows_slots k xs (omega arith) b.1 (λ i h. blank (suc i) (omega arith)))
