-- The groups behind the first one.
use Rattle.std.specs.Prelude.{List, ℕ, ◌+◌, ◌*◌, ◌^◌, ltb, eqb, drop}
use Rattle.laws.specs.Bool.{when◌then◌else◌}
use Rattle.codec.specs.Read.{Read, got, bad, onward}
use Rattle.codec.specs.Leb.{parse}

-- Bits below a scale, and above them the number that was read at a place; it is not 0.
unfoldable pub above : (low scale at : ℕ) → Read ℕ → Read ℕ
above low scale at read = onward read (λ n size. when eqb n 0 then bad else when ltb (low + scale * n) (2 ^ 64) then got (low + scale * n) (at + size) else bad)

-- The number whose seven lowest bits are low and whose other groups begin at a place.
unfoldable pub followed : (low : ℕ) → List ℕ → (at : ℕ) → Read ℕ
followed low bytes at = above low 128 at (parse 9 (drop at bytes))
