-- What the functions that read into a lent list answer, and what they leave in it.
use Rattle.std.specs.Prelude.{◌≡◌, Option, Some, None, List, ℕ, ◌-◌, length, drop, replicate}
use Rattle.laws.specs.Splice.{splice}
use Rattle.codec.specs.declared.number.Number.{Number}
use Rattle.codec.specs.Read.{Read, got, bad}

-- A number and the place behind it; the place behind what was read.
unfoldable pub number_of : Read ℕ → Option Number
number_of (got value next) = Some (record { value = value; next = next })
number_of bad = None

unfoldable pub place_of : {A : Type 0} → Read A → Option ℕ
place_of (got x next) = Some next
place_of bad = None

-- Where a reader stands after a number: behind it, or where it stood if the bytes are bad.
abbrev pub behind : Option Number → ℕ → ℕ
behind (Some number) at = number.next
behind None at = at

-- What was read stands in the list from a place on, and all else stayed. Of bad bytes nothing is promised: who lends the list doesn't hand it on.
pub record Stored (read : Read (List ℕ)) (before : List ℕ) (first : ℕ) (after : List ℕ) : Type 0 where
  pub is : (numbers : List ℕ) (next : ℕ) → read ≡ got numbers next → after ≡ splice before first numbers
  pub long : length after ≡ length before

-- The list is zero from a place on.
abbrev pub ZeroFrom : (first : ℕ) → List ℕ → Type 0
ZeroFrom first list = drop first list ≡ replicate (length list - first) 0
