-- What the exported functions return and leave (docs/BYTES.md).
use Rattle.std.specs.Prelude.{◌≡◌, Bool, true, false, not, List, ℕ, ◌+◌, ◌*◌, ◌^◌, ltb, eqb, length}
use Rattle.laws.specs.Bool.{when◌then◌else◌}
use Rattle.laws.specs.Splice.{splice}
use Rattle.workflow.specs.Layout.{numbers as sheet_length}
use Rattle.workflow.specs.Refusal.{number}
use Rattle.workflow.specs.declared.refusal.Refusal.{Refusal}
use Rattle.host.specs.Layout as layout
use Rattle.host.specs.Read.{at, narrow, record_fits}
use Rattle.host.specs.Write.{decision_numbers}
use Rattle.host.specs.Host.{receipt, decided}
use Rattle.codec.specs.Read.{Read, got, bad}
use Rattle.codec.specs.Numbers.{bytes_of, all_below}
use Rattle.codec.specs.Stages.{Shape}
use Rattle.in_bytes.specs.Sheet.{sheet}
use Rattle.in_bytes.specs.Run.{run}
use Rattle.in_bytes.specs.Event.{event, event_fits}
use Rattle.in_bytes.specs.Call.{call, call_on, sheet_in, without_sheet, run_in, numbers_in}
use Rattle.in_bytes.specs.Answer.{answer}

-- The refusals of bytes, and the item of a refusal that names none.
abbrev pub bad_bytes : ℕ
bad_bytes = number Refusal.BadBytes

abbrev pub short : ℕ
short = number Refusal.ShortBuffer

abbrev pub bad_form : ℕ
bad_form = number Refusal.Form

abbrev pub bad_run : ℕ
bad_run = number Refusal.Inconsistent

abbrev pub no_item : ℕ
no_item = 255

-- WHAT COMES OF IT: what is written at the beginning of the lent array, and its size as it is told; or a number with an item, and nothing is written.
pub data Outcome : Type 0 where
  done : (size : ℕ) → List ℕ → Outcome
  refused : (number item : ℕ) → Outcome

-- The number that is returned has both in its 64 bits.
unfoldable pub packed : (number rest : ℕ) → ℕ
packed number rest = narrow number + 2 ^ 32 * narrow rest

unfoldable pub returned : Outcome → ℕ
returned (done size contents) = packed layout.written size
returned (refused number item) = packed number item

unfoldable pub left : Outcome → List ℕ → List ℕ
left (done size contents) array = splice array 0 contents
left (refused number item) array = array

-- A WRITE. Room is the buffer's length.
unfoldable pub into : (room : ℕ) → List ℕ → Outcome
into room bytes = when ltb room (length bytes) then refused short no_item else done (length bytes) bytes

unfoldable pub write_sheet : (ns : List ℕ) (room : ℕ) → Outcome
write_sheet ns room =
    when not (eqb (length ns) sheet_length) then refused layout.bad_sheet_length 0 else
    when not (sheet.tidy ns) then refused bad_form no_item else into room (bytes_of (sheet.fields ns))

unfoldable pub write_run : (ns : List ℕ) (room : ℕ) → Outcome
write_run ns room =
    when not (eqb (length ns) layout.record_length) then refused layout.bad_record_length 0 else
    when not (record_fits ns) then refused layout.bad_record 0 else
    when not (run.tidy ns) then refused bad_run no_item else into room (bytes_of (run.fields ns))

unfoldable pub write_event : (ns : List ℕ) (room : ℕ) → Outcome
write_event ns room =
    when not (eqb (length ns) layout.event_length) then refused layout.bad_call_length 0 else
    when not (event_fits ns) then refused layout.bad_call 0 else into room (bytes_of (event.fields ns))

-- A READ: all the bytes, and numbers that pass a test.
unfoldable pub ended : (size : ℕ) → Read (List ℕ) → Read (List ℕ)
ended size (got ns next) = when eqb next size then got ns next else bad
ended size bad = bad

abbrev pub whole : Shape → List ℕ → Read (List ℕ)
whole shape bytes = ended (length bytes) (shape.read bytes 0)

unfoldable pub taken : (fits : List ℕ → Bool) → Read (List ℕ) → Outcome
taken fits (got ns next) = when fits ns then done 0 ns else refused bad_bytes no_item
taken fits bad = refused bad_bytes no_item

unfoldable pub read_sheet : (bytes : List ℕ) (size : ℕ) → Outcome
read_sheet bytes size = when not (eqb size sheet_length) then refused layout.bad_sheet_length 0 else taken (λ _. true) (whole sheet bytes)

unfoldable pub read_run : (bytes : List ℕ) (size : ℕ) → Outcome
read_run bytes size = when not (eqb size layout.record_length) then refused layout.bad_record_length 0 else taken record_fits (whole run bytes)

unfoldable pub read_event : (bytes : List ℕ) (size : ℕ) → Outcome
read_event bytes size = when not (eqb size layout.event_length) then refused layout.bad_call_length 0 else taken event_fits (whole event bytes)

-- A CALL. The numbers of its answer; or the bytes are bad: also where they give a number that its field can't hold.
pub data Decided : Type 0 where
  said : List ℕ → Decided
  unread : Decided

unfoldable pub on_numbers : (sheet call given : List ℕ) → Decided
on_numbers sheet call given =
    when eqb (receipt sheet_length call given layout.answer_length) layout.written then said (decision_numbers (decided sheet call given)) else unread

unfoldable pub decide : (bytes : List ℕ) → Decided
decide bytes = by_parts (whole call bytes)
  where
    by_parts : Read (List ℕ) → Decided
    by_parts (got ns next) = on_numbers (sheet_in ns) (numbers_in (without_sheet ns)) (run_in (without_sheet ns))
    by_parts bad = unread

-- on a sheet in numbers
unfoldable pub decide_on : (sheet bytes : List ℕ) → Decided
decide_on sheet bytes = by_parts (whole call_on bytes)
  where
    by_parts : Read (List ℕ) → Decided
    by_parts (got ns next) = on_numbers sheet (numbers_in ns) (run_in ns)
    by_parts bad = unread

-- What is told of it: a refusal has no bytes.
unfoldable pub told : (room : ℕ) → Decided → Outcome
told room (said ns) =
    when eqb (at ns layout.answer_kind) 3 then refused (at ns layout.answer_refusal_number) (at ns layout.answer_refusal_item) else
    into room (bytes_of ((answer (at ns layout.answer_kind)).fields ns))
told room unread = refused bad_bytes no_item

abbrev pub call_bytes : (bytes : List ℕ) (room : ℕ) → Outcome
call_bytes bytes room = told room (decide bytes)

unfoldable pub call_bytes_on : (sheet : List ℕ) (size : ℕ) (bytes : List ℕ) (room : ℕ) → Outcome
call_bytes_on sheet size bytes room = when not (eqb size sheet_length) then refused layout.bad_sheet_length 0 else told room (decide_on sheet bytes)

-- The numbers fill a lent array, where there are any.
unfoldable pub is_said : Decided → Bool
is_said (said ns) = true
is_said unread = false

unfoldable pub said_in : Decided → List ℕ → List ℕ
said_in (said ns) array = ns
said_in unread array = array

-- The numbers of an answer have 64 bits, so that what is written of them reads back.
pub record Of64Bits (decided : Decided) : Type 0 where
  pub each : (ns : List ℕ) → decided ≡ said ns → all_below (2 ^ 64) ns ≡ true
