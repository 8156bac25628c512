-- The step rules of document 01, as moves: each takes the run record and hands the next one back, with at most one note, one ending and one order.
use Rattle.std.specs.Prelude.{ℕ, Option, Some, None, Result, Ok, Err, ◌+◌, get_or, ltb, leb, eqb}
use Rattle.laws.specs.Bool.{when◌then◌else◌, ◌and◌}
use Rattle.workflow.specs.Code.{none, received, exhausted, activity, await_signal, complete}
use Rattle.model.specs.Code.{largest, largest_attempt, running, waiting, run_completed, run_failed, scheduled, value, fault, error_code}
use Rattle.workflow.specs.View.{Workflow}
use Rattle.workflow.specs.Lookup.{is_0_2, node_slots, node_of, route_of, limit_of}
use Rattle.workflow.specs.declared.refusal.Refusal.{Refusal}
use Rattle.model.specs.declared.ErrorCode.{ErrorCode}
use Rattle.model.specs.declared.ErrorInfo.{ErrorInfo}
use Rattle.model.specs.declared.Output.{Output}
use Rattle.model.specs.declared.BufferedSignal.{BufferedSignal}
use Rattle.model.specs.declared.Streak.{Streak}
use Rattle.model.specs.declared.Position.{Position}
use Rattle.model.specs.declared.InvocationState.{InvocationState}
use Rattle.model.specs.declared.State.{State}
use Rattle.model.specs.declared.event.Event.{Event}
use Rattle.model.specs.declared.event.Mapping.{Mapping}
use Rattle.model.specs.declared.event.Mappings.{Mappings}
use Rattle.model.specs.declared.event.NoValue.{NoValue}
use Rattle.model.specs.declared.event.NoValue.TheVariants.{Fault, Unencodable, Lacking}
use Rattle.model.specs.declared.answer.Order.{Order}
use Rattle.model.specs.declared.answer.Noted.{Noted}
use Rattle.model.specs.declared.answer.Ended.{Ended}
use Rattle.model.specs.declared.answer.Field.{Field}
use Rattle.model.specs.declared.moves.Next.{Next}
use Rattle.model.specs.declared.moves.Next.TheVariants.{Rest, Enter, Consume, Wants, Refuse}
use Rattle.model.specs.declared.moves.Move.{Move}
use Rattle.model.specs.Record.{no_streak, no_invocation, visits_of, streak_of, with_visits, with_streak, with_result, placed, finished}

-- WHAT A MOVE SAYS.
-- nothing but the record and what comes next
abbrev pub still : State → Next → Move
still state next = record { state = state; next = next; note = None; ending = None; order = None; read = 0 }

abbrev pub noting : (node : ℕ) → Noted → Move → Move
noting node noted move =
    record {
      state = move.state;
      next = move.next;
      note = Some (record { node = node; noted = noted });
      ending = move.ending;
      order = move.order;
      read = move.read;
    }

abbrev pub ending : (sequence : ℕ) → Ended → Move → Move
ending sequence how move =
    record {
      state = move.state;
      next = move.next;
      note = move.note;
      ending = Some (record { sequence = sequence; ending = how });
      order = move.order;
      read = move.read;
    }

abbrev pub ordering : Order → Move → Move
ordering order move = record { state = move.state; next = move.next; note = move.note; ending = move.ending; order = Some order; read = move.read }

abbrev pub reading : (read : ℕ) → Move → Move
reading read move = record { state = move.state; next = move.next; note = move.note; ending = move.ending; order = move.order; read = read }

-- SMALL WORDS.
abbrev pub error : (code node detail : ℕ) → ErrorInfo
error code node detail = record { code = code; node = node; detail = detail }

-- A position: the one place where one is made.
abbrev pub position : (node visit : ℕ) → Position
position node visit = record { node = node; visit = visit }

-- The planned time of an order, which is its not-before time, in milliseconds.
abbrev pub planned : Workflow → (last_accepted_at delay : ℕ) → ℕ
planned sheet last_accepted_at delay = last_accepted_at + delay

-- A signal's absent outcome means received.
abbrev pub signal_outcome : (outcome : ℕ) → ℕ
signal_outcome outcome = when eqb outcome none then received else outcome

-- How often in a row the node routed the outcome: no streak, or one of another outcome, counts 0.
abbrev pub streak_count : Streak → (outcome : ℕ) → ℕ
streak_count streak outcome = when eqb streak.outcome outcome then streak.count else 0

-- One more visit of a node, and one more activation.
abbrev pub one_more_visit : State → (node : ℕ) → State
one_more_visit state node = with_visits state node ((visits_of state node).count + 1) (state.activations + 1)

-- A mapping answer by its kind.
abbrev pub evaluated_as : Mapping → Result ℕ NoValue
evaluated_as mapping =
    when eqb mapping.kind value then Ok mapping.value else
    when eqb mapping.kind fault then Err (Fault mapping.code mapping.detail) else
    Err Unencodable

abbrev pub no_mapping : Mapping
no_mapping = record { kind = 0; value = 0; code = 0; detail = 0; operations = 0 }

-- The mapping answer of a call at an index; past the count it is lacking.
unfoldable pub answer : Mappings → ℕ → Result ℕ NoValue
answer mappings index = when ltb index mappings.count then evaluated_as (get_or mappings.answers index no_mapping) else Err Lacking

-- The invocation in another phase (the original's `InvocationState.state`), with the error that it keeps.
abbrev pub phased : InvocationState → (phase attempt : ℕ) → Option ErrorInfo → InvocationState
phased invocation phase attempt kept =
    record {
      phase = phase;
      node = invocation.node;
      visit = invocation.visit;
      action = invocation.action;
      attempt = attempt;
      input = invocation.input;
      error = kept;
    }

-- The signal that arrived.
abbrev pub arrival : Event → BufferedSignal
arrival event =
    record {
      sequence = event.sequence;
      event_id = event.event_id;
      signal = event.signal;
      outcome = event.outcome;
      «data» = event.«data»;
    }

-- THE RULES, for one sheet.
module _ (sheet : Workflow) where
  -- The run fails.
  unfoldable pub terminate : State → ErrorInfo → Move
  terminate state why = still (finished state run_failed (record { output = Output.Error why })) Rest

  -- What follows a mapping that has no value: a fault fails the run at that node, else the call goes no further.
  unfoldable pub without_value : NoValue → State → (node : ℕ) → Field → (from read : ℕ) → Move
  without_value (Fault code detail) state node field from read = reading read (terminate state (error code node detail))
  without_value Unencodable state node field from read = still state (Refuse Refusal.Unencodable)
  without_value Lacking state node field from read = still state (Wants node field from)

  -- A mapping is evaluated, the read-th answer that is read; `go_on` is what follows a value.
  unfoldable pub evaluate : Result ℕ NoValue → State → (node : ℕ) → Field → (from read : ℕ) → (ℕ → Move) → Move
  evaluate (Ok handle) state node field from read go_on = go_on handle
  evaluate (Err why) state node field from read go_on = without_value why state node field from read

  -- The first attempt of an activity that was entered is ordered.
  unfoldable pub schedule : State → (node input : ℕ) → Option ℕ → Move
  schedule state node input params =
      let visit = (visits_of state node).count in
      let action = (node_of sheet node).action in
      ordering
      (Order.Schedule
      (record {
        not_before = planned sheet state.last_accepted_at 0;
        node = node;
        visit = visit;
        action = action;
        attempt = 1;
        input = input;
        params = params;
      }))
      (still
      (placed state running (position node visit)
      (record {
        phase = scheduled;
        node = node;
        visit = visit;
        action = action;
        attempt = 1;
        input = input;
        error = None;
      }))
      Rest)

  -- An activity needs its input, then its params if any.
  unfoldable pub enter_activity : State → (node from : ℕ) → Mappings → Move
  enter_activity state node from mappings =
      evaluate (answer mappings 0) state node Field.Input from 1 (λ input.
      when eqb (node_of sheet node).has_params 1
      then evaluate (answer mappings 1) state node Field.Params from 2 (λ params. reading 2 (schedule state node input (Some params)))
      else reading 1 (schedule state node input None))

  -- An await-signal node waits there, and looks at the store.
  unfoldable pub enter_await : State → (node : ℕ) → Move
  enter_await state node = still (placed state waiting (position node (visits_of state node).count) no_invocation) Consume

  -- A complete node needs its output.
  unfoldable pub enter_complete : State → (node from : ℕ) → Mappings → Move
  enter_complete state node from mappings =
      evaluate (answer mappings 0) state node Field.Output from 1 (λ output.
      reading 1 (still (finished state run_completed (record { output = Output.Handle output })) Rest))

  -- The node that was entered, by its kind.
  unfoldable pub arrive : State → (node from : ℕ) → Mappings → Move
  arrive state node from mappings =
      when eqb (node_of sheet node).kind activity then enter_activity state node from mappings else
      when eqb (node_of sheet node).kind await_signal then enter_await state node else
      when eqb (node_of sheet node).kind complete then enter_complete state node from mappings else
      terminate state (error (node_of sheet node).code node (node_of sheet node).detail)

  -- The original fails where a run comes to or stands at no node of the sheet. On an accepted sheet it never does: 0 is never answered.
  abbrev pub astray : State → Move
  astray state = still state (Refuse Refusal.Invariant)

  -- Entering tests visits, then activations, then adds one to both.
  unfoldable pub enter : State → (node from : ℕ) → Mappings → Move
  enter state node from mappings =
      when leb (node_slots sheet) node then astray state else
      when leb sheet.max_visits_per_node (visits_of state node).count then terminate state (error (error_code ErrorCode.VisitsExceeded) node 0) else
      when leb sheet.max_activations state.activations then terminate state (error (error_code ErrorCode.ActivationsExceeded) node 0) else
      arrive (one_more_visit state node) node from mappings

  -- The outcome's route is followed. An accepted sheet routes what comes here.
  unfoldable pub follow_to : State → (node : ℕ) → Option ℕ → Move
  follow_to state node (Some target) = still state (Enter target node)
  follow_to state node None = astray state

  abbrev pub follow : State → (node outcome : ℕ) → Move
  follow state node outcome = follow_to state node (route_of sheet node outcome)

  -- With a limit on the outcome, and a streak at it: the streak goes and exhausted is followed. Without a limit the streak goes.
  unfoldable pub route_limited : State → (node outcome : ℕ) → Option ℕ → Move
  route_limited state node outcome None = follow (with_streak state node no_streak) node outcome
  route_limited state node outcome (Some limit) =
      when leb limit (streak_count (streak_of state node) outcome)
      then noting node (Noted.Exhausted outcome limit) (follow (with_streak state node no_streak) node exhausted)
      else follow (with_streak state node (record { outcome = outcome; count = streak_count (streak_of state node) outcome + 1 })) node outcome

  -- Routing stores the result with the reported outcome.
  unfoldable pub route : State → (outcome : ℕ) → Output → Move
  route state outcome output =
      let node = state.position.node in
      when leb (node_slots sheet) node then astray state else
      route_limited (with_result state node (record { visit = state.position.visit; outcome = outcome; output = output })) node outcome (limit_of sheet node outcome)

  -- The route of a signal's outcome: none for exhausted in format 2.
  abbrev pub signal_route : (node outcome : ℕ) → Option ℕ
  signal_route node outcome = when is_0_2 sheet and eqb outcome exhausted then None else route_of sheet node outcome

  -- A signal is taken where the run waits: it routes and ends there; without a routed outcome it ends there too, the run goes on waiting, and what comes after is missed.
  unfoldable pub take_by : Option ℕ → State → BufferedSignal → (missed : Next) → Move
  take_by None state signal missed =
      ending signal.sequence Ended.Unrouted
      (noting state.position.node (Noted.Unrouted signal.event_id (signal_outcome signal.outcome)) (still state missed))
  take_by (Some target) state signal missed =
      ending signal.sequence Ended.Routed (route state (signal_outcome signal.outcome) (Output.Handle signal.«data»))

  abbrev pub take : State → BufferedSignal → (missed : Next) → Move
  take state signal missed = take_by (signal_route state.position.node (signal_outcome signal.outcome)) state signal missed

  -- The next attempt of the invocation is ordered.
  unfoldable pub retry : State → (delay : ℕ) → Move
  retry state delay =
      let invocation = state.invocation in
      when ltb largest (planned sheet state.last_accepted_at delay) then still state (Refuse Refusal.NoRetry) else
      when ltb largest_attempt (invocation.attempt + 1) then still state (Refuse Refusal.NoRetry) else
      noting state.position.node (Noted.Retry (invocation.attempt + 1))
      (ordering
      (Order.Retry
      (record {
        not_before = planned sheet state.last_accepted_at delay;
        node = invocation.node;
        visit = invocation.visit;
        attempt = invocation.attempt + 1;
      }))
      (still (placed state running state.position (phased invocation scheduled (invocation.attempt + 1) None)) Rest))
