-- The numbers of a sheet that can be written have 32 bits.
use Rattle.std.specs.Prelude.{◌≡◌, true, ℕ, suc, ◌^◌, ◌<◌, ltb, length, take, drop}
use Rattle.std.proofs.Math.Path.{refl}
use mathlib.Core.List.{List, [], ◌∷◌}
use Rattle.std.proofs.Common.{arith, take-append-drop}
use borrow.Author.Tests.{ltb-true, lt-ltb, eqb-true}
use Rattle.laws.specs.Bool.{both, join}
use Rattle.laws.specs.Every.{every, every_append}
use Rattle.laws.specs.All.{All}
use Rattle.host.specs.Fits.{Number}
use Rattle.host.proofs.Lists.{every_all}
use Rattle.codec.specs.declared.columns.Column.{Column}
use Rattle.codec.specs.Numbers.{all_below}
use Rattle.codec.specs.Stages.{all_zero, numbers, column, beside, columns, staged}
use Rattle.codec.proofs.ColumnsLaws.{tidy_column}
use Rattle.in_bytes.specs.Sheet.{plan, sheet}

module _ (top : ℕ) (some : 0 < top) where
  halves_below : (k : ℕ) (ns : List ℕ) → all_below top (take k ns) ≡ true → all_below top (drop k ns) ≡ true → all_below top ns ≡ true
  halves_below k ns a b = rw (take-append-drop k ns) at (every_append (λ n. ltb n top) (take k ns) (drop k ns) a b)

  zeros_below : (ns : List ℕ) → all_zero ns ≡ true → all_below top ns ≡ true
  unfolding every
  zeros_below [] z = refl
  zeros_below (n ∷ ns) z =
      let b = both _ _ z in
      let e = eqb-true n 0 b.0 in
      join _ _ (lt-ltb n top (omega arith)) (zeros_below ns b.1)

  none_below : (ns : List ℕ) → (numbers 0 0).tidy ns ≡ true → all_below top ns ≡ true
  unfolding numbers every
  none_below [] t = refl
  none_below (n ∷ ns) t = let e = eqb-true (suc (length ns)) 0 (both _ _ t).0 in absurd (omega arith)

  columns_below : (plan : List Column) (ns : List ℕ) → (columns top plan).tidy ns ≡ true → all_below top ns ≡ true
  unfolding columns beside column
  columns_below [] ns t = none_below ns t
  columns_below (one ∷ more) ns t =
      let b = both _ _ t in
      let c = tidy_column top one.room one.used (take one.room ns) b.0 in
      halves_below one.room ns (halves_below one.used (take one.room ns) c.below (zeros_below _ c.blank)) (columns_below more (drop one.room ns) b.1)

pub sheet_below : (ns : List ℕ) → sheet.tidy ns ≡ true → All Number ns
unfolding sheet staged beside numbers
sheet_below ns t =
    let a = both _ _ t in
    let b = both _ _ a.1 in
    every_all (λ n. ltb n (2 ^ 32)) Number (λ n h. ltb-true n (2 ^ 32) h) ns
    (halves_below (2 ^ 32) (omega arith) 9 ns (both _ _ a.0).1
    (halves_below (2 ^ 32) (omega arith) (columns (2 ^ 32) (plan (take 9 ns))).width (drop 9 ns) (columns_below (2 ^ 32) (omega arith) (plan (take 9 ns)) _ b.0) (none_below (2 ^ 32) (omega arith) _ b.1)))
