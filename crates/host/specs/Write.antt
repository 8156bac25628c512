-- How a run record, an event and an answer stand as numbers (docs/NUMBERS.md).
use Rattle.std.specs.Prelude.{Bool, ℕ, Option, Some, None, replicate}
use mathlib.Core.List.{List, [], ◌∷◌, ◌++◌, flat_map}
use Rattle.laws.specs.Bool.{when◌then◌else◌}
use Rattle.model.specs.declared.BufferedSignal.{BufferedSignal}
use Rattle.model.specs.declared.Visits.{Visits}
use Rattle.model.specs.declared.Streak.{Streak}
use Rattle.model.specs.declared.NodeResult.{NodeResult}
use Rattle.model.specs.declared.State.{State}
use Rattle.model.specs.declared.answer.Note.{Note}
use Rattle.model.specs.declared.answer.Ending.{Ending}
use Rattle.model.specs.declared.answer.Answer.{Answer}
use Rattle.model.specs.declared.event.Event.{Event}
use Rattle.kernel.specs.declared.Decision.{Decision}
use Rattle.host.specs.Layout.{record_length, note_width, ending_width}
use Rattle.model.specs.Answers.{output_numbers, kept_numbers, note_numbers, ending_numbers, answer_numbers}

-- Rows.
unfoldable pub signal_numbers : BufferedSignal → List ℕ
signal_numbers signal = signal.sequence ∷ signal.event_id ∷ signal.signal ∷ signal.outcome ∷ signal.«data» ∷ []

unfoldable pub visits_numbers : Visits → List ℕ
visits_numbers visits = visits.count ∷ []

unfoldable pub streak_numbers : Streak → List ℕ
streak_numbers streak = streak.outcome ∷ streak.count ∷ []

unfoldable pub result_numbers : NodeResult → List ℕ
result_numbers result = result.visit ∷ result.outcome ∷ output_numbers result.output

-- a row that is not there is zeros
abbrev pub option_numbers : {A : Type 0} → (A → List ℕ) → (width : ℕ) → Option A → List ℕ
option_numbers numbers width None = replicate width 0
option_numbers numbers width (Some row) = numbers row

abbrev pub note_row : Option Note → List ℕ
note_row = option_numbers note_numbers note_width

abbrev pub ending_row : Option Ending → List ℕ
ending_row = option_numbers ending_numbers ending_width

-- THE RUN RECORD.
unfoldable pub scalar_numbers : State → List ℕ
scalar_numbers state =
    state.status ∷ state.input ∷ state.activations ∷ state.last_sequence ∷ state.last_accepted_at ∷ state.position.node ∷ state.position.visit
    ∷ state.invocation.phase ∷ state.invocation.node ∷ state.invocation.visit ∷ state.invocation.action ∷ state.invocation.attempt ∷ state.invocation.input ∷ []

-- up to the rows
unfoldable pub head_numbers : State → List ℕ
head_numbers state = scalar_numbers state ++ kept_numbers state.invocation.error ++ output_numbers state.result.output ++ (state.signal_count ∷ [])

unfoldable pub record_numbers : State → List ℕ
record_numbers state =
    head_numbers state ++ flat_map signal_numbers state.signals ++ flat_map visits_numbers state.visits
    ++ flat_map streak_numbers state.streaks ++ flat_map result_numbers state.results

-- THE EVENT: the numbers of a call from its sequence on. A mark is 1 or 0.
abbrev pub marked : Bool → ℕ
marked is = when is then 1 else 0

unfoldable pub event_numbers : Event → List ℕ
event_numbers event =
    event.sequence ∷ event.accepted_at ∷ event.event_id ∷ event.kind ∷ event.input ∷ event.signal ∷ event.outcome ∷ event.«data» ∷ event.node
    ∷ event.visit ∷ event.attempt ∷ event.status ∷ event.output ∷ marked event.has_error ∷ event.code ∷ event.detail ∷ marked event.retryable
    ∷ event.delay ∷ event.resolution ∷ []

-- THE ANSWER. A refusal has no record.
unfoldable pub state_numbers : Answer → State → List ℕ
state_numbers (Answer.Next order microsteps) state = record_numbers state
state_numbers (Answer.Wants node field from) state = record_numbers state
state_numbers (Answer.Refused refusal item) state = replicate record_length 0

unfoldable pub decision_numbers : Decision → List ℕ
decision_numbers decision =
    answer_numbers decision.answer ++ (decision.notes.count ∷ decision.endings.count ∷ [])
    ++ flat_map note_row decision.notes.rows ++ flat_map ending_row decision.endings.rows ++ state_numbers decision.answer decision.state
