-- The run check: `consistent` and `owned_by` of snapshot.rs, and what document 01 adds.
use Rattle.std.specs.Prelude.{Bool, true, false, not, ℕ, get_or, ltb, leb, eqb, Option, Some, None}
use Rattle.laws.specs.Bool.{when◌then◌else◌, ◌and◌, ◌or◌}
use Rattle.laws.specs.Every.{below}
use Rattle.workflow.specs.Code.{none, activity, await_signal}
use Rattle.workflow.specs.Layout.{node_room}
use Rattle.model.specs.Code.{largest, running, waiting, needs_intervention, run_completed, run_failed, scheduled, unknown, stuck}
use Rattle.workflow.specs.declared.Node.{Node}
use Rattle.workflow.specs.View.{Workflow}
use Rattle.workflow.specs.Lookup.{is_0_2, node_of, limit_of}
use Rattle.model.specs.declared.Output.{Output}
use Rattle.model.specs.declared.ErrorInfo.{ErrorInfo}
use Rattle.model.specs.declared.Streak.{Streak}
use Rattle.model.specs.declared.NodeResult.{NodeResult}
use Rattle.model.specs.declared.Position.{Position}
use Rattle.model.specs.declared.InvocationState.{InvocationState}
use Rattle.model.specs.declared.State.{State}
use Rattle.model.specs.Record.{no_node_result, visits_of, streak_of, is_terminal}
use Rattle.model.specs.Store.{leaves_over, store_fits}

-- UNUSED SLOTS are all zero.
-- A used result has an output; an unused one is all zero.
abbrev pub result_unused : Output → Bool
result_unused Output.Nothing = true
result_unused (Output.Handle handle) = false
result_unused (Output.Error error) = false

abbrev pub result_zero : NodeResult → Bool
result_zero result = result_unused result.output and eqb result.visit 0 and eqb result.outcome 0

abbrev pub result_fits : NodeResult → Bool
result_fits result = not (result_unused result.output) or result_zero result

abbrev pub streak_zero : Streak → Bool
streak_zero streak = eqb streak.outcome 0 and eqb streak.count 0

-- A streak is one that the node's loop limits allow: its outcome has a limit, and its count is from 1 to the limit.
abbrev pub allows : Option ℕ → (count : ℕ) → Bool
allows (Some limit) count = leb count limit
allows None count = false

abbrev pub streak_fits : Workflow → (node : ℕ) → Streak → Bool
streak_fits sheet node streak =
    when eqb streak.count 0 then eqb streak.outcome 0 else allows (limit_of sheet node streak.outcome) streak.count

-- The slots of a node, of the sheet or not. (`results` are the original's `State.nodes`.)
abbrev pub slot_fits : Workflow → State → (node : ℕ) → Bool
slot_fits sheet state node =
    let result = get_or state.results node no_node_result in
    when ltb node sheet.node_count
    then result_fits result and streak_fits sheet node (streak_of state node)
    else eqb (visits_of state node).count 0 and result_zero result and streak_zero (streak_of state node)

-- The slots of every node.
unfoldable pub slots_fit : Workflow → State → Bool
slots_fit sheet state = below node_room (slot_fits sheet state)

-- THE COUNTERS: the sequence and the time in milliseconds (`last_accepted_at_ms`).
unfoldable pub counters_fit : State → Bool
counters_fit state = leb state.last_sequence largest and leb state.last_accepted_at largest

-- WHERE THE RUN STANDS.
abbrev pub is_no_position : Position → Bool
is_no_position position = eqb position.node none and eqb position.visit 0

abbrev pub keeps_error : Option ErrorInfo → Bool
keeps_error None = false
keeps_error (Some error) = true

-- No invocation. (Its `input` is the original's `input_digest`.)
abbrev pub is_no_invocation : InvocationState → Bool
is_no_invocation invocation =
    eqb invocation.phase 0
    and eqb invocation.node none
    and eqb invocation.visit 0
    and eqb invocation.action 0
    and eqb invocation.attempt 0
    and eqb invocation.input 0
    and not (keeps_error invocation.error)

-- A terminal state carries the result of its status.
abbrev pub result_of_status : (status : ℕ) → Output → Bool
result_of_status status Output.Nothing = false
result_of_status status (Output.Handle handle) = eqb status run_completed
result_of_status status (Output.Error error) = eqb status run_failed

abbrev pub terminal_fits : State → Bool
terminal_fits state =
    is_no_position state.position and is_no_invocation state.invocation and result_of_status state.status state.result.output

-- The invocation belongs to the activation where the run stands; exactly a stuck one keeps an error.
abbrev pub owned_by : InvocationState → Position → (action : ℕ) → Bool
owned_by invocation position action =
    eqb invocation.node position.node
    and eqb invocation.visit position.visit
    and eqb invocation.action action
    and ltb 0 invocation.attempt
    and (when keeps_error invocation.error then eqb invocation.phase stuck else not (eqb invocation.phase stuck))

-- A running state has a scheduled invocation, one that needs intervention an unknown or, in format 2, a stuck one. (`phase` is the original's `InvocationState.state`.)
abbrev pub phase_fits : Workflow → (status phase : ℕ) → Bool
phase_fits sheet status phase =
    eqb status running and eqb phase scheduled
    or eqb status needs_intervention and (eqb phase unknown or eqb phase stuck and is_0_2 sheet)

abbrev pub waits : Node → State → Bool
waits node state = eqb node.kind await_signal and is_no_invocation state.invocation

abbrev pub works : Workflow → Node → State → Bool
works sheet node state =
    eqb node.kind activity
    and phase_fits sheet state.status state.invocation.phase
    and owned_by state.invocation state.position node.action

abbrev pub live_fits : Workflow → State → Bool
live_fits sheet state =
    result_unused state.result.output
    and ltb state.position.node sheet.node_count
    and ltb 0 state.position.visit
    and eqb (visits_of state state.position.node).count state.position.visit
    and (
    when eqb state.status waiting
    then waits (node_of sheet state.position.node) state
    else works sheet (node_of sheet state.position.node) state
    )

unfoldable pub stands : Workflow → State → Bool
stands sheet state = when is_terminal state.status then terminal_fits state else live_fits sheet state

-- THE RUN CHECK: counters, store, slots, where the run stands, and that an ended run holds no signal (document 02, T-02).
unfoldable pub consistent : Workflow → State → Bool
consistent sheet state =
    counters_fit state and store_fits state and slots_fit sheet state and stands sheet state and not (leaves_over state.status state.signal_count)
