-- The number and the values of each case of an answer, as document 01 lists them (docs/NUMBERS.md: where each stands).
use Rattle.std.specs.Prelude.{List, [], ◌∷◌, ℕ, Option, Some, None}
use Rattle.workflow.specs.Refusal.{number}
use Rattle.model.specs.declared.Output.{Output}
use Rattle.model.specs.declared.ErrorInfo.{ErrorInfo}
use Rattle.model.specs.declared.answer.Order.{Order}
use Rattle.model.specs.declared.answer.Reason.{Reason}
use Rattle.model.specs.declared.answer.Noted.{Noted}
use Rattle.model.specs.declared.answer.Note.{Note}
use Rattle.model.specs.declared.answer.Ended.{Ended}
use Rattle.model.specs.declared.answer.Ending.{Ending}
use Rattle.model.specs.declared.answer.Field.{Field}
use Rattle.model.specs.declared.answer.Answer.{Answer}

-- An output: nothing, a handle, an error.
unfoldable pub output_numbers : Output → List ℕ
output_numbers Output.Nothing = 0 ∷ 0 ∷ 0 ∷ 0 ∷ []
output_numbers (Output.Handle handle) = 1 ∷ handle ∷ 0 ∷ 0 ∷ []
output_numbers (Output.Error error) = 2 ∷ error.code ∷ error.node ∷ error.detail ∷ []

-- The error that a stuck invocation keeps.
unfoldable pub kept_numbers : Option ErrorInfo → List ℕ
kept_numbers None = 0 ∷ 0 ∷ 0 ∷ 0 ∷ []
kept_numbers (Some error) = 1 ∷ error.code ∷ error.node ∷ error.detail ∷ []

unfoldable pub params_numbers : Option ℕ → List ℕ
params_numbers None = 0 ∷ 0 ∷ []
params_numbers (Some handle) = 1 ∷ handle ∷ []

-- The order: none, a schedule, a retry; then node, visit, action, attempt, not before, input, params.
unfoldable pub order_numbers : Option Order → List ℕ
order_numbers None = 0 ∷ 0 ∷ 0 ∷ 0 ∷ 0 ∷ 0 ∷ 0 ∷ 0 ∷ 0 ∷ []
order_numbers (Some (Order.Schedule schedule)) =
    1 ∷ schedule.node ∷ schedule.visit ∷ schedule.action ∷ schedule.attempt ∷ schedule.not_before ∷ schedule.input ∷ params_numbers schedule.params
order_numbers (Some (Order.Retry retry)) = 2 ∷ retry.node ∷ retry.visit ∷ 0 ∷ retry.attempt ∷ retry.not_before ∷ 0 ∷ 0 ∷ 0 ∷ []

-- Why a resolution doesn't apply.
abbrev pub reason_number : Reason → ℕ
reason_number Reason.Mismatch = 1
reason_number Reason.NotUnknown = 2
reason_number Reason.Undeclared = 3

-- A note: its code, its node, and the code's values a, b and c.
abbrev pub noted_numbers : (node : ℕ) → Noted → List ℕ
noted_numbers node (Noted.Ignored kind) = 1 ∷ node ∷ kind ∷ 0 ∷ 0 ∷ []
noted_numbers node (Noted.Stale named visit attempt) = 2 ∷ node ∷ named ∷ visit ∷ attempt ∷ []
noted_numbers node (Noted.NotApplicable named visit reason) = 3 ∷ node ∷ named ∷ visit ∷ reason_number reason ∷ []
noted_numbers node (Noted.Overflow event_id) = 4 ∷ node ∷ event_id ∷ 0 ∷ 0 ∷ []
noted_numbers node (Noted.Unrouted event_id outcome) = 5 ∷ node ∷ event_id ∷ outcome ∷ 0 ∷ []
noted_numbers node (Noted.Unknown visit attempt status) = 6 ∷ node ∷ visit ∷ attempt ∷ status ∷ []
noted_numbers node (Noted.Stuck visit attempt code) = 7 ∷ node ∷ visit ∷ attempt ∷ code ∷ []
noted_numbers node (Noted.Retry attempt) = 8 ∷ node ∷ attempt ∷ 0 ∷ 0 ∷ []
noted_numbers node (Noted.Exhausted outcome limit) = 9 ∷ node ∷ outcome ∷ limit ∷ 0 ∷ []

unfoldable pub note_numbers : Note → List ℕ
note_numbers note = noted_numbers note.node note.noted

-- An ending: the signal's sequence number, and how it ended.
abbrev pub ended_number : Ended → ℕ
ended_number Ended.Routed = 1
ended_number Ended.Unrouted = 2
ended_number Ended.Overflow = 3
ended_number Ended.Ignored = 4
ended_number Ended.LeftOver = 5

unfoldable pub ending_numbers : Ending → List ℕ
ending_numbers ending = ending.sequence ∷ ended_number ending.ending ∷ []

-- The field of a want.
abbrev pub field_number : Field → ℕ
field_number Field.Input = 0
field_number Field.Params = 1
field_number Field.Output = 2

-- The answer: a next record, with microsteps and order; a want, with node, field and the node come from; a refusal, with number and item.
unfoldable pub answer_numbers : Answer → List ℕ
answer_numbers (Answer.Next order microsteps) = 1 ∷ microsteps ∷ order_numbers order
answer_numbers (Answer.Wants node field from) = 2 ∷ node ∷ field_number field ∷ from ∷ 0 ∷ 0 ∷ 0 ∷ 0 ∷ 0 ∷ 0 ∷ 0 ∷ []
answer_numbers (Answer.Refused refusal item) = 3 ∷ number refusal ∷ item ∷ 0 ∷ 0 ∷ 0 ∷ 0 ∷ 0 ∷ 0 ∷ 0 ∷ 0 ∷ []
