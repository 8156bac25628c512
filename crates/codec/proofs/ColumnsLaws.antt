-- Columns and stages, both ways: what is written is read back, and only what is written is read.
use Rattle.std.specs.Prelude.{◌≡◌, ℕ, ◌+◌, ◌*◌, ◌-◌, ◌^◌, ◌≤◌, ltb, take, drop}
use Rattle.std.proofs.Math.Path.{refl}
use Rattle.std.proofs.Common.{◌∙◌, arith, mul-suc, length-append, take-append-drop, length-take-le}
use Rattle.std.proofs.Math.Bool.{true}
use mathlib.Core.List.{List, [], ◌∷◌, ◌++◌, flat_map}
use Rattle.std.proofs.Math.ListN.{length, length-take, length-drop}
use borrow.Author.Tests.{ltb-false, le-ltb, leb-true, le-leb, eqb-true, eq-eqb}
use Rattle.laws.specs.Bool.{when◌then◌else◌, split, both, join}
use Rattle.laws.specs.Listing.{padded}
use Rattle.laws.specs.All.{All}
use Rattle.codec.specs.declared.columns.Column.{Column}
use Rattle.codec.specs.Read.{Read, got, bad, onward}
use Rattle.codec.specs.Numbers.{bytes_of, numbers_at, all_below}
use Rattle.codec.specs.Stages.{Shape, numbers, column, beside, total, columns, Stage, widths, staged, all_zero}
use Rattle.codec.specs.Exact.{Bytes, IsRead, Exact}
use Rattle.codec.proofs.ExactLaws.{not_bad, beside_exact}
use Rattle.codec.proofs.LebLaws.{leb_few}
use Rattle.codec.proofs.NumbersLaws.{numbers_exact}
use Rattle.codec.proofs.Zeros.{all_zeros, zeros, padded_long, take_padded, drop_padded}

-- ONE COLUMN.
module _ (top room used : ℕ) where
  -- What a tidy column is.
  pub record TidyColumn (ns : List ℕ) : Type 0 where
    pub long : length ns ≡ room
    pub low : used ≤ room
    pub below : all_below top (take used ns) ≡ true
    pub blank : all_zero (drop used ns) ≡ true

  pub tidy_column : (ns : List ℕ) → (column top room used).tidy ns ≡ true → TidyColumn ns
  unfolding column
  tidy_column ns h =
      let a = both _ _ h in
      let b = both _ _ a.1 in
      let c = both _ _ b.1 in
      record { long = eqb-true (length ns) room a.0; low = leb-true used room b.0; below = c.0; blank = c.1 }

  column_tidy : (ns : List ℕ) → TidyColumn ns → (column top room used).tidy ns ≡ true
  unfolding column
  column_tidy ns t = join _ _ (eq-eqb (length ns) room t.long) (join _ _ (le-leb used room t.low) (join _ _ t.below t.blank))

  used_long : (ns : List ℕ) → TidyColumn ns → length (take used ns) ≡ used
  used_long ns t = let n = t.long in let l = t.low in length-take-le used ns (omega arith)

  filled_up : (ns : List ℕ) → TidyColumn ns → padded room 0 (take used ns) ≡ ns
  unfolding padded
  filled_up ns t =
      let n = t.long in
      let d = length-drop used ns in
      let e : room - length (take used ns) ≡ length (drop used ns) = rw (used_long ns t) (omega arith) in
      rw (e, ← zeros (drop used ns) t.blank) (take-append-drop used ns)

  -- A column is read as its numbers are.
  pub column_read : (bytes : List ℕ) (at : ℕ) → used ≤ room → (column top room used).read bytes at ≡ onward (numbers_at top used bytes at) (λ ns p. got (padded room 0 ns) p)
  unfolding column when◌then◌else◌
  column_read bytes at low = rw (le-ltb room used low)

  module _ (small : top ≤ 2 ^ 64) where
    back : (bytes rest ns : List ℕ) (at : ℕ) → TidyColumn ns → drop at bytes ≡ bytes_of (take used ns) ++ rest → (column top room used).read bytes at ≡ got ns (at + length (bytes_of (take used ns)))
    unfolding onward numbers
    back bytes rest ns at t e =
        let h : (numbers top used).tidy (take used ns) ≡ true = join _ _ (eq-eqb (length (take used ns)) used (used_long ns t)) t.below in
        let i : numbers_at top used bytes at ≡ got (take used ns) (at + length (bytes_of (take used ns))) = (numbers_exact top used small).back bytes rest (take used ns) at h e in
        column_read bytes at t.low ∙ rw (i, filled_up ns t)

    module _ (bytes ns : List ℕ) (at next : ℕ) (good : Bytes bytes) where
      by_numbers : used ≤ room → (r : Read (List ℕ)) → numbers_at top used bytes at ≡ r → onward r (λ ms p. got (padded room 0 ms) p) ≡ got ns next → IsRead (column top room used) bytes at ns next
      unfolding onward numbers column
      by_numbers low bad f e = not_bad e
      by_numbers low (got ms p) f e =
          let x : padded room 0 ms ≡ ns = cc in
          let y : p ≡ next = cc in
          let i : IsRead (numbers top used) bytes at ms p = (numbers_exact top used small).only bytes ms at p good f in
          let b = both _ _ i.tidy in
          let n = eqb-true (length ms) used b.0 in
          let a = take_padded room ms (omega arith) used n in
          let d = drop_padded room ms (omega arith) used n in
          record {
            tidy = rw (← x) (column_tidy (padded room 0 ms) (record { long = padded_long room ms (omega arith); low = low; below = rw a b.1; blank = rw d (all_zeros (room - length ms)) }));
            there = rw (← x, ← y, a) i.there;
            place = rw (← x, ← y, a) i.place;
          }

      only : (column top room used).read bytes at ≡ got ns next → IsRead (column top room used) bytes at ns next
      unfolding column when◌then◌else◌
      only e =
          split (ltb room used) (λ t. not_bad (rw t at e))
          (λ t. by_numbers (ltb-false room used t) (numbers_at top used bytes at) refl (rw t at e))

    pub column_exact : Exact (column top room used)
    unfolding column
    column_exact =
        record {
          long = λ ns h. (tidy_column ns h).long;
          few = λ ns h. let n = length-take used ns in omega arith;
          back = λ bytes rest ns at h e. back bytes rest ns at (tidy_column ns h) e;
          only = only;
        }

-- COLUMNS one behind the other.
pub columns_width : (top : ℕ) (plan : List Column) → (columns top plan).width ≡ total plan
unfolding columns total numbers beside column
columns_width top [] = refl
columns_width top (one ∷ more) = refl

pub columns_exact : (top : ℕ) (plan : List Column) → top ≤ 2 ^ 64 → Exact (columns top plan)
unfolding columns
columns_exact top [] small = numbers_exact 0 0 (omega arith)
columns_exact top (one ∷ more) small =
    beside_exact (column top one.room one.used) (λ _. columns top more) (total more) (column_exact top one.room one.used small) (λ _. columns_exact top more small) (λ _. columns_width top more)

-- HOW MANY BYTES: at most ten a number.
pub bytes_few : (ns : List ℕ) → length (bytes_of ns) ≤ 10 * length ns
unfolding flat_map
bytes_few [] = omega arith
bytes_few (n ∷ ns) = let a = leb_few n in let b = bytes_few ns in rw (length-append, mul-suc) (omega arith)

pub exact_few : (shape : Shape) → Exact shape → (ns : List ℕ) → length ns ≡ shape.width → length (bytes_of (shape.fields ns)) ≤ 10 * shape.width
exact_few shape exact ns h = let a = bytes_few (shape.fields ns) in let b = exact.few ns h in omega arith

-- STAGES. Each is exact and as wide as its room, whatever stands before it; so they are together.
pub record StageExact (stage : Stage) : Type 0 where
  pub exact : (seen : List ℕ) → Exact (stage.shape seen)
  pub wide : (seen : List ℕ) → (stage.shape seen).width ≡ stage.room

pub staged_width : (stages : List Stage) (seen : List ℕ) → All StageExact stages → (staged stages seen).width ≡ widths stages
unfolding staged widths numbers beside
staged_width [] seen all = refl
staged_width (stage ∷ stages) seen all = let w = all.0.wide seen in omega arith

pub staged_exact : (stages : List Stage) (seen : List ℕ) → All StageExact stages → Exact (staged stages seen)
unfolding staged
staged_exact [] seen all = numbers_exact 0 0 (omega arith)
staged_exact (stage ∷ stages) seen all =
    beside_exact (stage.shape seen) (λ ns. staged stages (seen ++ ns)) (widths stages) (all.0.exact seen) (λ ns. staged_exact stages (seen ++ ns) all.1) (λ ns. staged_width stages (seen ++ ns) all.1)
