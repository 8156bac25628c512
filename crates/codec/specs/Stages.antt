-- A value of several stages: its numbers stand in a list of a fixed length, and those that are used stand in the bytes. What a stage uses hangs on the numbers of the stages before it.
use Rattle.std.specs.Prelude.{Bool, List, [], ◌∷◌, ◌++◌, ℕ, ◌+◌, ltb, leb, eqb, length, take, drop}
use Rattle.laws.specs.Bool.{when◌then◌else◌, ◌and◌}
use Rattle.laws.specs.Every.{every}
use Rattle.laws.specs.Listing.{padded}
use Rattle.codec.specs.declared.columns.Column.{Column}
use Rattle.codec.specs.Read.{Read, got, bad, onward}
use Rattle.codec.specs.Numbers.{numbers_at, all_below}

abbrev pub all_zero : List ℕ → Bool
all_zero numbers = every (λ n. eqb n 0) numbers

-- THE SHAPE of a list of numbers: how many they are; how they are read; which of them stand in the bytes; and whether the others are such that they needn't.
pub record Shape : Type 0 where
  pub width : ℕ
  pub read : List ℕ → (at : ℕ) → Read (List ℕ)
  pub fields : List ℕ → List ℕ
  pub tidy : List ℕ → Bool

-- Numbers below top, all of them used.
unfoldable pub numbers : (top k : ℕ) → Shape
numbers top k = record { width = k; read = numbers_at top k; fields = λ ns. ns; tidy = λ ns. eqb (length ns) k and all_below top ns }

-- A column: the first of its slots are used, as many as a count says, and the others are zero. A count above its room is bad.
unfoldable pub column : (top room used : ℕ) → Shape
column top room used =
    record {
      width = room;
      read = λ bytes at. when ltb room used then bad else onward (numbers_at top used bytes at) (λ ns p. got (padded room 0 ns) p);
      fields = take used;
      tidy = λ ns. eqb (length ns) room and leb used room and all_below top (take used ns) and all_zero (drop used ns);
    }

-- One shape behind another, which hangs on the numbers of the first.
unfoldable pub beside : Shape → (List ℕ → Shape) → (width : ℕ) → Shape
beside one more width =
    record {
      width = one.width + width;
      read = λ bytes at. onward (one.read bytes at) (λ ns p. onward ((more ns).read bytes p) (λ ms q. got (ns ++ ms) q));
      fields = λ ns. one.fields (take one.width ns) ++ (more (take one.width ns)).fields (drop one.width ns);
      tidy = λ ns. one.tidy (take one.width ns) and (more (take one.width ns)).tidy (drop one.width ns);
    }

-- Columns one behind the other, with a room and a count for each.
unfoldable pub total : List Column → ℕ
total [] = 0
total (one ∷ more) = one.room + total more

unfoldable pub columns : (top : ℕ) → List Column → Shape
columns top [] = numbers 0 0
columns top (one ∷ more) = beside (column top one.room one.used) (λ _. columns top more) (total more)

-- A STAGE, by the numbers of the stages before it; and several.
pub record Stage : Type 0 where
  pub room : ℕ
  pub shape : (seen : List ℕ) → Shape

unfoldable pub widths : List Stage → ℕ
widths [] = 0
widths (stage ∷ stages) = stage.room + widths stages

unfoldable pub staged : List Stage → (seen : List ℕ) → Shape
staged [] seen = numbers 0 0
staged (stage ∷ stages) seen = beside (stage.shape seen) (λ ns. staged stages (seen ++ ns)) (widths stages)
