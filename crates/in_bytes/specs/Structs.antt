-- A run record and an event as bytes, by their structs (docs/BYTES.md).
use Rattle.std.specs.Prelude.{not, ℕ, eqb, drop}
use mathlib.Core.List.{List, [], ◌∷◌, ◌++◌, flat_map}
use Rattle.laws.specs.Bool.{when◌then◌else◌}
use Rattle.model.specs.declared.Output.{Output}
use Rattle.model.specs.declared.Streak.{Streak}
use Rattle.model.specs.declared.NodeResult.{NodeResult}
use Rattle.model.specs.declared.State.{State}
use Rattle.model.specs.declared.event.Event.{Event}
use Rattle.model.specs.Answers.{output_numbers}
use Rattle.model.specs.Store.{stored}
use Rattle.host.specs.Layout as layout
use Rattle.host.specs.Read.{at, record_fits}
use Rattle.host.specs.Write.{signal_numbers, visits_numbers, head_numbers, record_numbers, event_numbers}
use Rattle.codec.specs.Numbers.{bytes_of}
use Rattle.in_bytes.specs.Run.{run}
use Rattle.in_bytes.specs.Event.{event_fits}
use Rattle.in_bytes.specs.Boundary.{bad_run, no_item, Outcome, refused, into}

-- THE NUMBERS OF A RUN that stand in its bytes.

-- A streak: its count, and behind a count that isn't 0 its outcome.
unfoldable pub streak_fields : Streak → List ℕ
streak_fields streak = when eqb streak.count 0 then 0 ∷ [] else streak.count ∷ streak.outcome ∷ []

-- A node's result: the tag of its output, which is the first of the output's four numbers; and behind a tag that isn't 0 its visit, its outcome and the other three.
abbrev pub tag : Output → ℕ
tag output = at (output_numbers output) 0

unfoldable pub result_fields : NodeResult → List ℕ
result_fields result =
    when eqb (tag result.output) 0 then 0 ∷ [] else
    tag result.output ∷ result.visit ∷ result.outcome ∷ drop 1 (output_numbers result.output)

-- The run: its single numbers; the signals that the store lists, in order of arrival; of all nodes the visits, then the streaks, then the results.
unfoldable pub state_fields : State → List ℕ
state_fields state =
    head_numbers state ++ flat_map signal_numbers (stored state) ++ flat_map visits_numbers state.visits
    ++ flat_map streak_fields state.streaks ++ flat_map result_fields state.results

-- WHAT COMES OF A WRITE. Room is the buffer's length. A number that its field can't hold is no run and no event.
unfoldable pub of_state : State → (room : ℕ) → Outcome
of_state state room =
    when not (record_fits (record_numbers state)) then refused layout.bad_record 0 else
    when not (run.tidy (record_numbers state)) then refused bad_run no_item else into room (bytes_of (state_fields state))

unfoldable pub of_event : Event → (room : ℕ) → Outcome
of_event event room =
    when not (event_fits (event_numbers event)) then refused layout.bad_call 0 else into room (bytes_of (event_numbers event))
