-- What the exported functions answer.
use Rattle.std.specs.Prelude.{◌≡◌, not, List, [], ◌∷◌, ℕ, ◌^◌, ◌≤◌, ◌<◌, length, get_or, ltb, eqb, Ok, Err}
use Rattle.laws.specs.Bool.{when◌then◌else◌, ◌and◌}
use Rattle.laws.specs.Splice.{splice}
use Rattle.workflow.specs.Layout.{numbers as sheet_length}
use Rattle.workflow.specs.View.{workflow}
use Rattle.workflow.specs.Refusal.{number}
use Rattle.graph.specs.declared.Ceilings.{Ceilings}
use Rattle.graph.specs.Verdict.{verdict, Verdict}
use Rattle.kernel.specs.declared.Decision.{Decision}
use Rattle.kernel.specs.Call.{given_record, transition}
use Rattle.kernel.specs.Decision.{decision_of}
use Rattle.host.specs.Layout.{written, short_buffer, bad_call, bad_record, bad_sheet_length, bad_call_length, bad_record_length, call_length, record_length, answer_length, verdict_length}
use Rattle.host.specs.Read.{has_record, record_of, call_of, record_fits, call_fits}
use Rattle.host.specs.Write.{decision_numbers}

-- A CALL. What is returned: first by the lengths of the lent arrays, with room the buffer's, before a number is read; then by the numbers. The record's are
-- tested only where one goes with the call.
unfoldable pub receipt : (sheet_size : ℕ) (call given : List ℕ) (room : ℕ) → ℕ
receipt sheet_size call given room =
    when not (eqb sheet_size sheet_length) then bad_sheet_length else
    when not (eqb (length call) call_length) then bad_call_length else
    when not (eqb (length given) record_length) then bad_record_length else
    when ltb room answer_length then short_buffer else
    when not (call_fits call) then bad_call else
    when has_record call and not (record_fits given) then bad_record else written

-- What is lent has the layout's lengths.
pub record Lent (sheet_size call_size given_size room : ℕ) : Type 0 where
  pub sheet : sheet_size ≡ sheet_length
  pub call : call_size ≡ call_length
  pub given : given_size ≡ record_length
  pub roomy : answer_length ≤ room

unfoldable pub decided : (sheet call given : List ℕ) → Decision
decided sheet call given = decision_of (transition (workflow sheet) (given_record (has_record call) (record_of given)) (call_of call))

-- The buffer: the answer stands at its beginning, or it is as it was.
unfoldable pub answered : (sheet : List ℕ) (sheet_size : ℕ) (call given buffer : List ℕ) → List ℕ
answered sheet sheet_size call given buffer =
    when eqb (receipt sheet_size call given (length buffer)) written then splice buffer 0 (decision_numbers (decided sheet call given)) else buffer

-- An answer's numbers are as many as the layout says, and each has 64 bits.
pub record Full (numbers : List ℕ) : Type 0 where
  pub long : length numbers ≡ answer_length
  pub each : (n : ℕ) → get_or numbers n 0 < 2 ^ 64

-- A VERDICT: the refusal's number and its item, or 0 and 0.
unfoldable pub verdict_receipt : (sheet_size room : ℕ) → ℕ
verdict_receipt sheet_size room =
    when not (eqb sheet_size sheet_length) then bad_sheet_length else
    when ltb room verdict_length then short_buffer else written

unfoldable pub verdict_numbers : Verdict → List ℕ
verdict_numbers (Ok tt) = 0 ∷ 0 ∷ []
verdict_numbers (Err broken) = number broken.refusal ∷ broken.item ∷ []

unfoldable pub judged : (sheet : List ℕ) (sheet_size : ℕ) → Ceilings → (buffer : List ℕ) → List ℕ
judged sheet sheet_size ceilings buffer =
    when eqb (verdict_receipt sheet_size (length buffer)) written then splice buffer 0 (verdict_numbers (verdict (workflow sheet) ceilings)) else buffer
