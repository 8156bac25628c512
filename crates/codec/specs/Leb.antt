-- A number as bytes: unsigned LEB128 (DWARF 5, 7.6) in its shortest form, at most ten groups.
use Rattle.std.specs.Prelude.{List, [], ◌∷◌, ℕ, zero, suc, ◌+◌, ◌*◌, ◌-◌, ◌/◌, ◌%◌, ◌^◌, ltb, eqb, drop}
use Rattle.laws.specs.Bool.{when◌then◌else◌}
use Rattle.codec.specs.Read.{Read, got, bad, onward}

-- THE WRITER. Groups of seven bits, the lowest first; 128 is added to each but the last. At most k of them.
unfoldable pub groups : (k n : ℕ) → List ℕ
groups zero n = []
groups (suc k) n = when ltb n 128 then n ∷ [] else (n % 128 + 128) ∷ groups k (n / 128)

unfoldable pub leb128 : ℕ → List ℕ
leb128 n = groups 10 n

-- THE READER. The number at the beginning of bytes, and how many of them it takes. They are bad where they are cut, where a last group of 0 makes the number longer than its
-- shortest form, and where there are more than k groups.
unfoldable pub parse : (k : ℕ) → List ℕ → Read ℕ
parse zero bytes = bad
parse (suc k) [] = bad
parse (suc k) (b ∷ bytes) =
    when ltb b 128 then got b 1 else
    onward (parse k bytes) (λ n size. when eqb n 0 then bad else got (b - 128 + 128 * n) (suc size))

-- The number at a place of bytes, of 64 bits: the tenth group is at most 1.
unfoldable pub number_at : List ℕ → (at : ℕ) → Read ℕ
number_at bytes at = onward (parse 10 (drop at bytes)) (λ n size. when ltb n (2 ^ 64) then got n (at + size) else bad)
