-- Demand 3 of what is shipped: the list of calls of the exported function `kuxhoveza_transition`, as a host makes them, on one lent sheet (document 01, "The list of
-- demand 3").
-- A reader needs of other files: what the function ensures, `receipt` and `answered` (host, Host); the layout's lengths, `Lent` (host, HostLaws); how numbers are
-- read, `call_of` and `record_of` (host, Read) and `answer_of_numbers` (host, ReadAnswer); and the claim, `Demand3` (demand3, Demand3).
use Rattle.std.specs.Prelude.{◌≡◌, Bool, true, false, List, [], ◌∷◌, ◌++◌, ℕ, length, take, drop, eqb}
use Rattle.laws.specs.Bool.{when◌then◌else◌, ◌and◌}
use Rattle.kernel.specs.declared.Call.{Call}
use Rattle.kernel.specs.Call.{given_record}
use Rattle.demand3.specs.Demand3.{Entry}
use Rattle.host.specs.Layout.{written, answer_kind, answer_record, answer_length}
use Rattle.host.specs.Read.{at, has_record, record_of, call_of}
use Rattle.host.specs.ReadAnswer.{answer_of_numbers}
use Rattle.host.specs.Host.{receipt, answered}
use Rattle.host.specs.Host.{Lent}

-- ONE CALL of the function: the length that is passed for the sheet; the numbers of the call, the run record and the buffer that are lent to it; the number that it
-- returns; and the buffer after it.
pub record Made : Type 0 where
  pub sheet_size : ℕ
  pub call : List ℕ
  pub given : List ℕ
  pub buffer : List ℕ
  pub returned : ℕ
  pub after : List ℕ

-- A call that returns 0 is answered, at the beginning of its buffer; one that returns another number has no answer.
abbrev pub is_answered : Made → Bool
is_answered made = eqb made.returned written

abbrev pub answer_in : (buffer : List ℕ) → List ℕ
answer_in buffer = take answer_length buffer

-- A call is accepted if it answers with a next record, which is kind 1. The record's numbers are the end of the answer's.
abbrev pub is_accepted : Made → Bool
is_accepted made = is_answered made and eqb (at (answer_in made.after) answer_kind) 1

abbrev pub record_in : (buffer : List ℕ) → List ℕ
record_in buffer = drop answer_record (answer_in buffer)

-- THE RECORD THAT STANDS: that of the last accepted answer, and none before the first. A want or a refusal leaves it standing, and so does a call without answer.
-- Calls are listed newest first.
pub data Standing : Type 0 where
  nothing : Standing
  numbers : List ℕ → Standing

unfoldable pub standing : List Made → Standing
standing [] = nothing
standing (made ∷ before) = when is_accepted made then numbers (record_in made.after) else standing before

-- Each call gets the record that stands, and says that it does. Where none stands it says so, and what is lent as a record is any.
abbrev pub Gets : Standing → Made → Type 0
Gets nothing made = has_record made.call ≡ false
Gets (numbers stand) made = (has_record made.call ≡ true) × (made.given ≡ stand)

-- THE LIST. Each call gets the record that stands, and comes to what the function ensures.
pub record Follows (sheet : List ℕ) (made : Made) (before : List Made) : Type 0 where
  pub gets : Gets (standing before) made
  pub returned_is : made.returned ≡ receipt made.sheet_size made.call made.given (length made.buffer)
  pub after_is : made.after ≡ answered sheet made.sheet_size made.call made.given made.buffer

-- What a call lends has the lengths of the layout.
abbrev pub RightLengths : Made → Type 0
RightLengths made = Lent made.sheet_size (length made.call) (length made.given) (length made.buffer)

unfoldable pub Ran : (sheet : List ℕ) → List Made → Type 0
Ran sheet [] = Unit {0}
Ran sheet (made ∷ before) = Follows sheet made before × Ran sheet before

-- WHAT A HOST READS of it: of each answered call the call, the record that it was given and the answer.
abbrev pub entry : Made → Entry
entry made =
    record {
      call = call_of made.call;
      given = given_record (has_record made.call) (record_of made.given);
      said = answer_of_numbers (answer_in made.after);
    }

unfoldable pub entries : List Made → List Entry
entries [] = []
entries (made ∷ before) = when is_answered made then entry made ∷ entries before else entries before

-- The answered calls, oldest first.
unfoldable pub calls : List Made → List Call
calls [] = []
calls (made ∷ before) = when is_answered made then calls before ++ (call_of made.call ∷ []) else calls before
