-- Both ways: what is written is read back, and only what is written is read. And no more of a list's numbers stand in the bytes than it has.
use Rattle.std.specs.Prelude.{◌≡◌, true, ℕ, ◌+◌, ◌≤◌, ◌<◌, get_or}
use mathlib.Core.List.{List, ◌++◌}
use Rattle.std.proofs.Math.ListN.{length, drop}
use Rattle.codec.specs.Read.{got}
use Rattle.codec.specs.Numbers.{bytes_of}
use Rattle.codec.specs.Stages.{Shape}

-- The bytes of a list are bytes.
pub record Bytes (bytes : List ℕ) : Type 0 where
  pub each : (i : ℕ) → get_or bytes i 0 < 256

-- A list of numbers was read from a place up to the next: it is tidy, and what stands there are the bytes of its fields.
pub record IsRead (shape : Shape) (bytes : List ℕ) (at : ℕ) (ns : List ℕ) (next : ℕ) : Type 0 where
  pub tidy : shape.tidy ns ≡ true
  pub there : drop at bytes ≡ bytes_of (shape.fields ns) ++ drop next bytes
  pub place : next ≡ at + length (bytes_of (shape.fields ns))

pub record Exact (shape : Shape) : Type 0 where
  pub long : (ns : List ℕ) → shape.tidy ns ≡ true → length ns ≡ shape.width
  pub few : (ns : List ℕ) → length ns ≡ shape.width → length (shape.fields ns) ≤ shape.width
  pub back : (bytes rest ns : List ℕ) (at : ℕ) → shape.tidy ns ≡ true → drop at bytes ≡ bytes_of (shape.fields ns) ++ rest → shape.read bytes at ≡ got ns (at + length (bytes_of (shape.fields ns)))
  pub only : (bytes ns : List ℕ) (at next : ℕ) → Bytes bytes → shape.read bytes at ≡ got ns next → IsRead shape bytes at ns next
