-- A call as bytes (docs/BYTES.md): ceilings and limits; the sheet; 0, or 1 and the run; the event; the mapping answers after their count.
use Rattle.std.specs.Prelude.{List, [], ◌∷◌, ◌++◌, ℕ, suc, ◌+◌, ◌*◌, ◌^◌, eqb, get_or, take, drop}
use Rattle.laws.specs.Bool.{when◌then◌else◌}
use Rattle.workflow.specs.Layout.{numbers as sheet_length}
use Rattle.host.specs.Layout as layout
use Rattle.codec.specs.Stages.{Shape, numbers, column, Stage, staged}
use Rattle.in_bytes.specs.Sheet.{sheet}
use Rattle.in_bytes.specs.Run.{run}

-- WHAT STANDS BEHIND THE SHEET. A number below 2 says whether a run follows; where none does, its numbers are zero.
abbrev pub mark : Stage
mark = record { room = 1; shape = λ _. numbers 2 1 }

abbrev pub given_shape : (mark : ℕ) → Shape
given_shape mark = when eqb mark 1 then run else column (2 ^ 64) layout.record_length 0

abbrev pub given : Stage
given = record { room = layout.record_length; shape = λ seen. given_shape (get_or seen 0 0) }

abbrev pub event_numbers : Stage
event_numbers = record { room = layout.event_length; shape = λ _. numbers (2 ^ 64) layout.event_length }

-- at most 2 answers
abbrev pub answered : Stage
answered = record { room = 1; shape = λ _. numbers (suc layout.mappings) 1 }

abbrev pub answers : Stage
answers =
    record {
      room = layout.mapping_width * layout.mappings;
      shape = λ seen. column (2 ^ 64) (layout.mapping_width * layout.mappings) (layout.mapping_width * get_or seen (1 + layout.record_length + layout.event_length) 0);
    }

unfoldable pub rest : Shape
rest = staged (mark ∷ given ∷ event_numbers ∷ answered ∷ answers ∷ []) []

-- THE CALL, and the call without its sheet.
abbrev pub limits : Stage
limits = record { room = layout.call_has_record; shape = λ _. numbers (2 ^ 64) layout.call_has_record }

abbrev pub the_sheet : Stage
the_sheet = record { room = sheet_length; shape = λ _. sheet }

abbrev pub the_rest : Stage
the_rest = record { room = 1 + layout.record_length + layout.event_length + 1 + layout.mapping_width * layout.mappings; shape = λ _. rest }

unfoldable pub call : Shape
call = staged (limits ∷ the_sheet ∷ the_rest ∷ []) []

unfoldable pub call_on : Shape
call_on = staged (limits ∷ the_rest ∷ []) []

-- ITS PARTS: the sheet's numbers; and of a call without them those of the run and, as the number form has them, of the call.
unfoldable pub sheet_in : List ℕ → List ℕ
sheet_in ns = take sheet_length (drop layout.call_has_record ns)

unfoldable pub without_sheet : List ℕ → List ℕ
without_sheet ns = take layout.call_has_record ns ++ drop (layout.call_has_record + sheet_length) ns

unfoldable pub run_in : List ℕ → List ℕ
run_in ns = take layout.record_length (drop layout.call_sequence ns)

unfoldable pub numbers_in : List ℕ → List ℕ
numbers_in ns = take layout.call_sequence ns ++ drop (layout.call_sequence + layout.record_length) ns
