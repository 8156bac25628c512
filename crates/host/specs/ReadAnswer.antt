-- How a host reads the numbers of a written answer (docs/NUMBERS.md): as they stand.
use Rattle.std.specs.Prelude.{List, ℕ, ◌+◌, drop, eqb, Option, Some, None}
use Rattle.laws.specs.Bool.{when◌then◌else◌}
use Rattle.laws.specs.Rows.{span}
use Rattle.workflow.specs.Refusal.{refusal_of}
use Rattle.model.specs.declared.answer.ScheduleActivity.{ScheduleActivity}
use Rattle.model.specs.declared.answer.RetryActivity.{RetryActivity}
use Rattle.model.specs.declared.answer.Order.{Order}
use Rattle.model.specs.declared.answer.Reason.{Reason}
use Rattle.model.specs.declared.answer.Noted.{Noted}
use Rattle.model.specs.declared.answer.Note.{Note}
use Rattle.model.specs.declared.answer.Ended.{Ended}
use Rattle.model.specs.declared.answer.Ending.{Ending}
use Rattle.model.specs.declared.answer.Field.{Field}
use Rattle.kernel.specs.Call.{Accepted, Answer, next, wants, refused}
use Rattle.host.specs.Layout as layout
use Rattle.host.specs.Layout.{note_place, ending_place}
use Rattle.host.specs.Read.{at, record_of}

-- The order: none, a schedule, a retry.
abbrev pub params_from : (has handle : ℕ) → Option ℕ
params_from has handle = when eqb has 0 then None else Some handle

abbrev pub schedule_from : List ℕ → ScheduleActivity
schedule_from numbers =
    record {
      node = at numbers layout.answer_order_node;
      visit = at numbers layout.answer_order_visit;
      action = at numbers layout.answer_order_action;
      attempt = at numbers layout.answer_order_attempt;
      not_before = at numbers layout.answer_order_not_before;
      input = at numbers layout.answer_order_input;
      params = params_from (at numbers layout.answer_order_has_params) (at numbers layout.answer_order_params);
    }

abbrev pub retry_from : List ℕ → RetryActivity
retry_from numbers =
    record {
      node = at numbers layout.answer_order_node;
      visit = at numbers layout.answer_order_visit;
      attempt = at numbers layout.answer_order_attempt;
      not_before = at numbers layout.answer_order_not_before;
    }

unfoldable pub order_from : List ℕ → Option Order
order_from numbers =
    when eqb (at numbers layout.answer_order) 0 then None else
    when eqb (at numbers layout.answer_order) 1 then Some (Order.Schedule (schedule_from numbers)) else Some (Order.Retry (retry_from numbers))

-- A note: its code says which it is, and what its values are.
abbrev pub reason_from : (number : ℕ) → Reason
reason_from number =
    when eqb number 1 then Reason.Mismatch else
    when eqb number 2 then Reason.NotUnknown else Reason.Undeclared

unfoldable pub noted_from : (code a b c : ℕ) → Noted
noted_from code a b c =
    when eqb code 1 then Noted.Ignored a else
    when eqb code 2 then Noted.Stale a b c else
    when eqb code 3 then Noted.NotApplicable a b (reason_from c) else
    when eqb code 4 then Noted.Overflow a else
    when eqb code 5 then Noted.Unrouted a b else
    when eqb code 6 then Noted.Unknown a b c else
    when eqb code 7 then Noted.Stuck a b c else
    when eqb code 8 then Noted.Retry a else Noted.Exhausted a b

unfoldable pub note_from : List ℕ → ℕ → Note
note_from numbers index =
    record {
      node = at numbers (note_place index + 1);
      noted = noted_from (at numbers (note_place index)) (at numbers (note_place index + 2)) (at numbers (note_place index + 3)) (at numbers (note_place index + 4));
    }

-- An ending.
abbrev pub ended_from : (number : ℕ) → Ended
ended_from number =
    when eqb number 1 then Ended.Routed else
    when eqb number 2 then Ended.Unrouted else
    when eqb number 3 then Ended.Overflow else
    when eqb number 4 then Ended.Ignored else Ended.LeftOver

unfoldable pub ending_from : List ℕ → ℕ → Ending
ending_from numbers index = record { sequence = at numbers (ending_place index); ending = ended_from (at numbers (ending_place index + 1)) }

-- The field of a want.
abbrev pub field_from : (number : ℕ) → Field
field_from number =
    when eqb number 0 then Field.Input else
    when eqb number 1 then Field.Params else Field.Output

-- A next record, with as many notes and endings as their counts say; a want; a refusal.
unfoldable pub accepted_from : List ℕ → Accepted
accepted_from numbers =
    record {
      state = record_of (drop layout.answer_record numbers);
      order = order_from numbers;
      notes = span (note_from numbers) 0 (at numbers layout.answer_noted);
      endings = span (ending_from numbers) 0 (at numbers layout.answer_ended);
      microsteps = at numbers layout.answer_microsteps;
    }

unfoldable pub answer_of_numbers : List ℕ → Answer
answer_of_numbers numbers =
    when eqb (at numbers layout.answer_kind) 1 then next (accepted_from numbers) else
    when eqb (at numbers layout.answer_kind) 2 then
    wants (at numbers layout.answer_want_node) (field_from (at numbers layout.answer_want_field)) (at numbers layout.answer_want_from) (record_of (drop layout.answer_record numbers))
    else refused (refusal_of (at numbers layout.answer_refusal_number)) (at numbers layout.answer_refusal_item)
