-- What reading a call leaves in the lent lists of its sheet, its call and its run.
use Rattle.std.specs.Prelude.{◌≡◌, List, ◌++◌, ℕ, ◌+◌, take, drop}
use Rattle.laws.specs.Splice.{splice}
use Rattle.host.specs.Layout.{record_length, call_has_record}
use Rattle.codec.specs.Read.{Read, got}
use Rattle.in_bytes.specs.Call.{sheet_in, without_sheet, run_in, numbers_in}

-- Behind the sheet stand the mark, the run's numbers, and what else a call has.
pub record RestStored (read : Read (List ℕ)) (before after given : List ℕ) : Type 0 where
  pub call : (ns : List ℕ) (next : ℕ) → read ≡ got ns next → after ≡ splice before call_has_record (take 1 ns ++ drop (1 + record_length) ns)
  pub run : (ns : List ℕ) (next : ℕ) → read ≡ got ns next → given ≡ take record_length (drop 1 ns)

pub record CallStored (read : Read (List ℕ)) (sheet call given : List ℕ) : Type 0 where
  pub sheet_is : (ns : List ℕ) (next : ℕ) → read ≡ got ns next → sheet ≡ sheet_in ns
  pub call_is : (ns : List ℕ) (next : ℕ) → read ≡ got ns next → call ≡ numbers_in (without_sheet ns)
  pub run_is : (ns : List ℕ) (next : ℕ) → read ≡ got ns next → given ≡ run_in (without_sheet ns)

-- A call without its sheet.
pub record OnStored (read : Read (List ℕ)) (call given : List ℕ) : Type 0 where
  pub call_is : (ns : List ℕ) (next : ℕ) → read ≡ got ns next → call ≡ numbers_in ns
  pub run_is : (ns : List ℕ) (next : ℕ) → read ≡ got ns next → given ≡ run_in ns
