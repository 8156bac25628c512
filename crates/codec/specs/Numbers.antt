-- Numbers one behind the other.
use Rattle.std.specs.Prelude.{Bool, ℕ, zero, suc, ◌-◌, ltb, take, drop}
use mathlib.Core.List.{List, [], ◌∷◌, flat_map}
use Rattle.laws.specs.Every.{every}
use Rattle.codec.specs.Read.{Read, got, onward, tested}
use Rattle.codec.specs.Leb.{leb128, number_at}

-- THE WRITER.
abbrev pub bytes_of : List ℕ → List ℕ
bytes_of numbers = flat_map leb128 numbers

-- THE READER. A number below top, and k of them.
abbrev pub number_below : (top : ℕ) → List ℕ → (at : ℕ) → Read ℕ
number_below top bytes at = tested (λ n. ltb n top) (number_at bytes at)

unfoldable pub numbers_at : (top k : ℕ) → List ℕ → (at : ℕ) → Read (List ℕ)
numbers_at top zero bytes at = got [] at
numbers_at top (suc k) bytes at = onward (number_below top bytes at) (λ n p. onward (numbers_at top k bytes p) (λ ns q. got (n ∷ ns) q))

-- Which numbers it gives.
abbrev pub all_below : (top : ℕ) → List ℕ → Bool
all_below top numbers = every (λ n. ltb n top) numbers

-- The numbers of a list from a place up to another.
unfoldable pub part : List ℕ → (first end : ℕ) → List ℕ
part numbers first end = take (end - first) (drop first numbers)
