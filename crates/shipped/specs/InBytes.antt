-- Demand 3 in bytes: the list of calls of the exported function `kuxhoveza_call`, as a host makes them, on one sheet that can be written, so that it is tidy (docs/BYTES.md).
-- A reader needs of other files: what the function ensures, `decide`, `call_bytes`, `returned` and `left` (bytes, Boundary); the bytes of numbers, `bytes_of` and `numbers_at`
-- (codec, Numbers), and of a sheet, a run, a call and an answer (bytes, Sheet, Run, Call, Answer); how numbers are read, `call_of` and `record_of` (host, Read) and
-- `answer_of_numbers` (host, ReadAnswer); and the claim, `Demand3` (demand3, Demand3).
use Rattle.std.specs.Prelude.{◌≡◌, Bool, true, false, ◌⊎◌, List, [], ◌∷◌, ◌++◌, ℕ, ◌+◌, ◌*◌, ◌/◌, ◌%◌, ◌^◌, ◌≤◌, ◌<◌, ltb, eqb, length, take, drop}
use Rattle.laws.specs.Bool.{when◌then◌else◌}
use Rattle.laws.specs.Listing.{padded}
use Rattle.kernel.specs.Call.{Accepted, next, given_record}
use Rattle.demand3.specs.Demand3.{Entry}
use Rattle.host.specs.Layout as layout
use Rattle.host.specs.Read.{at, has_record, record_of, call_of, record_fits, call_fits}
use Rattle.host.specs.ReadAnswer.{answer_of_numbers}
use Rattle.codec.specs.Read.{Read, got, bad, onward}
use Rattle.codec.specs.Numbers.{bytes_of, numbers_at, all_below}
use Rattle.in_bytes.specs.Sheet.{sheet as sheet_shape}
use Rattle.in_bytes.specs.Run.{run as run_shape}
use Rattle.in_bytes.specs.Call.{call as call_shape, without_sheet, run_in, numbers_in}
use Rattle.in_bytes.specs.Answer.{answer as answer_shape}
use Rattle.in_bytes.specs.Boundary.{bad_bytes, short, Decided, said, unread, decide, Outcome, call_bytes, returned as returned_by, left, Of64Bits}

-- ONE CALL of the function: the bytes and the buffer that are lent to it; the number that it returns; and the buffer after it.
pub record Made : Type 0 where
  pub bytes : List ℕ
  pub buffer : List ℕ
  pub returned : ℕ
  pub after : List ℕ

abbrev pub came_to : Made → Outcome
came_to made = call_bytes made.bytes (length made.buffer)

-- ITS ANSWER, in numbers. Bad bytes (31) have none; and where the bytes of an answer don't fit the buffer (32), there is none either. A refusal has no bytes.
unfoldable pub told_in : (room : ℕ) → Decided → Decided
told_in room (said ns) =
    when eqb (at ns layout.answer_kind) 3 then said ns else
    when ltb room (length (bytes_of ((answer_shape (at ns layout.answer_kind)).fields ns))) then unread else said ns
told_in room unread = unread

abbrev pub answer_to : Made → Decided
answer_to made = told_in (length made.buffer) (decide made.bytes)

-- A call is accepted if it answers with a next record, which is kind 1.
unfoldable pub accepts : Decided → Bool
accepts (said ns) = eqb (at ns layout.answer_kind) 1
accepts unread = false

abbrev pub is_accepted : Made → Bool
is_accepted made = accepts (answer_to made)

-- The bytes of an answer are the first in the buffer, as many as the high half of the returned number says.
abbrev pub answer_in : Made → List ℕ
answer_in made = take (made.returned / 2 ^ 32) made.after

-- THE RUN IN THE BYTES of an accepted answer stands last: behind 13 numbers, five for each note and two for each ending.
unfoldable pub behind : List ℕ → Read (List ℕ) → List ℕ
behind bytes (got ns place) = drop place bytes
behind bytes bad = []

abbrev pub run_in_answer : (bytes : List ℕ) → List ℕ
run_in_answer bytes =
    behind bytes
    (onward (numbers_at (2 ^ 64) layout.answer_notes bytes 0)
    (λ ns place. numbers_at (2 ^ 64) (layout.note_width * at ns layout.answer_noted + layout.ending_width * at ns layout.answer_ended) bytes place))

-- THE RUN THAT STANDS, as bytes: that of the last accepted answer, and none before the first. A want or a refusal leaves it standing, and so does a call without answer.
-- Calls are listed newest first.
pub data Standing : Type 0 where
  nothing : Standing
  run_bytes : List ℕ → Standing

unfoldable pub standing : List Made → Standing
standing [] = nothing
standing (made ∷ before) = when is_accepted made then run_bytes (run_in_answer (answer_in made)) else standing before

abbrev pub given_bytes : Standing → List ℕ
given_bytes nothing = 0 ∷ []
given_bytes (run_bytes bytes) = 1 ∷ bytes

-- A CALL'S BYTES: seven numbers; the sheet; 0, or 1 and the bytes of the run that stands, as they stood in the answer; and for the event and the mapping answers any bytes.
pub record Gets (sheet : List ℕ) (stand : Standing) (bytes : List ℕ) : Type 0 where
  pub limits : List ℕ
  pub rest : List ℕ
  pub seven : length limits ≡ 7
  pub small : all_below (2 ^ 64) limits ≡ true
  pub are : bytes ≡ bytes_of limits ++ bytes_of (sheet_shape.fields sheet) ++ given_bytes stand ++ rest

-- THE LIST. Each call gets the run that stands, and comes to what the function ensures.
pub record Follows (sheet : List ℕ) (made : Made) (before : List Made) : Type 0 where
  pub gets : Gets sheet (standing before) made.bytes
  pub returned_is : made.returned ≡ returned_by (came_to made)
  pub after_is : made.after ≡ left (came_to made) made.buffer
  pub of_64_bits : Of64Bits (decide made.bytes)

unfoldable pub Ran : (sheet : List ℕ) → List Made → Type 0
Ran sheet [] = Unit {0}
Ran sheet (made ∷ before) = Follows sheet made before × Ran sheet before

-- WHAT A HOST READS of it: of each answered call the call, the record that it was given and the answer.
unfoldable pub numbers_of : Read (List ℕ) → List ℕ
numbers_of (got ns place) = ns
numbers_of bad = []

abbrev pub call_numbers : Made → List ℕ
call_numbers made = without_sheet (numbers_of (call_shape.read made.bytes 0))

abbrev pub entry : Made → (answer : List ℕ) → Entry
entry made answer =
    record {
      call = call_of (numbers_in (call_numbers made));
      given = given_record (has_record (numbers_in (call_numbers made))) (record_of (run_in (call_numbers made)));
      said = answer_of_numbers answer;
    }

unfoldable pub with_entry : Made → Decided → List Entry → List Entry
with_entry made (said ns) entries = entry made ns ∷ entries
with_entry made unread entries = entries

unfoldable pub entries : List Made → List Entry
entries [] = []
entries (made ∷ before) = with_entry made (answer_to made) (entries before)

-- BESIDE DEMAND 3, of every call: the low half of the returned number tells that there is no answer, or which refusal it is, or that its bytes are in the buffer.
abbrev pub number : Made → ℕ
number made = made.returned % 2 ^ 32

pub record Tells (made : Made) : Type 0 where
  pub none : answer_to made ≡ unread → (number made ≡ bad_bytes) ⊎ (number made ≡ short)
  pub refusal : (ns : List ℕ) → answer_to made ≡ said ns → at ns layout.answer_kind ≡ 3 → (number made ≡ at ns layout.answer_refusal_number) × (0 < number made) × (number made < bad_bytes)
  pub written : (ns : List ℕ) → answer_to made ≡ said ns → (at ns layout.answer_kind ≡ 3 → ⊥) → number made ≡ layout.written

-- Of a call that is answered with a next record or a want, with ns the numbers of its answer: its bytes, read as an answer, are these numbers.
abbrev pub ReadsBack : Made → Type 0
ReadsBack made = (ns : List ℕ) → answer_to made ≡ said ns → (at ns layout.answer_kind ≡ 3 → ⊥) → (answer_shape (at ns layout.answer_kind)).read (answer_in made) 0 ≡ got ns (length (answer_in made))

-- Of an accepted call the run's bytes in them, read as a run, are the numbers of the answer's record, and fit.
pub record RunBack (made : Made) (ns : List ℕ) : Type 0 where
  pub accepted : Accepted
  pub is_next : answer_of_numbers ns ≡ next accepted
  pub run : run_shape.read (run_in_answer (answer_in made)) 0 ≡ got (drop layout.answer_record ns) (length (run_in_answer (answer_in made)))
  pub fits : record_fits (drop layout.answer_record ns) ≡ true
  pub same : record_of (drop layout.answer_record ns) ≡ accepted.state

pub record Kept (made : Made) : Type 0 where
  pub answer : ReadsBack made
  pub run : (ns : List ℕ) → answer_to made ≡ said ns → at ns layout.answer_kind ≡ 1 → RunBack made ns

-- And of a call whose numbers behind the run are those of an event, a count of mapping answers and these, each such that its field can hold it.
abbrev pub mark_of : Standing → ℕ
mark_of nothing = 0
mark_of (run_bytes bytes) = 1

pub record Right (stand : Standing) (limits rest : List ℕ) : Type 0 where
  pub event : List ℕ
  pub count : ℕ
  pub answers : List ℕ
  pub are : rest ≡ bytes_of event ++ (bytes_of (count ∷ []) ++ bytes_of answers)
  pub event_long : length event ≡ layout.event_length
  pub event_below : all_below (2 ^ 64) event ≡ true
  pub few : count ≤ layout.mappings
  pub answers_long : length answers ≡ layout.mapping_width * count
  pub answers_below : all_below (2 ^ 64) answers ≡ true
  pub fit : call_fits (limits ++ (mark_of stand ∷ (event ++ (count ∷ padded (layout.mapping_width * layout.mappings) 0 answers)))) ≡ true
