-- What an event does to a run, as moves: the rest of the step rules of document 01.
use Rattle.std.specs.Prelude.{Option, Some, None, Bool, true, false, not, ℕ, ltb, leb, eqb}
use Rattle.laws.specs.Bool.{when◌then◌else◌, ◌and◌}
use Rattle.workflow.specs.Code.{none, ok, failed, repeatable}
use Rattle.workflow.specs.View.{Workflow}
use Rattle.workflow.specs.Lookup.{is_0_2, node_of, policy_of, routed, declares}
use Rattle.model.specs.Code.{store, waiting, needs_intervention, scheduled, unknown, stuck, run_started, signal_received, activity_result, invocation_resolved, success, failure, resolve_complete, resolve_retry, error_code}
use Rattle.model.specs.declared.ErrorCode.{ErrorCode}
use Rattle.model.specs.declared.ErrorInfo.{ErrorInfo}
use Rattle.model.specs.declared.Output.{Output}
use Rattle.model.specs.declared.InvocationState.{InvocationState}
use Rattle.model.specs.declared.State.{State}
use Rattle.model.specs.declared.event.Event.{Event}
use Rattle.model.specs.declared.answer.Reason.{Reason}
use Rattle.model.specs.declared.answer.Noted.{Noted}
use Rattle.model.specs.declared.answer.Ended.{Ended}
use Rattle.model.specs.declared.moves.Next.TheVariants.{Rest, Enter, Take}
use Rattle.model.specs.declared.moves.Move.{Move}
use Rattle.model.specs.Record.{no_invocation, is_terminal, seen, placed}
use Rattle.model.specs.Store.{appended}
use Rattle.model.specs.Step.{still, noting, ending, error, phased, arrival, terminate, route, retry}

-- SMALL WORDS.
-- A success without an outcome means ok.
abbrev pub success_outcome : (outcome : ℕ) → ℕ
success_outcome outcome = when eqb outcome none then ok else outcome

-- There is an invocation, and its node and visit are those named.
unfoldable pub named : InvocationState → Event → Bool
named invocation event = not (eqb invocation.phase 0) and eqb invocation.node event.node and eqb invocation.visit event.visit

-- The current node, if it is the one named.
unfoldable pub named_node : InvocationState → Event → ℕ
named_node invocation event = when named invocation event then invocation.node else none

-- A result applies only to the current visit and attempt in phase scheduled.
unfoldable pub applies : InvocationState → Event → Bool
applies invocation event = named invocation event and eqb invocation.attempt event.attempt and eqb invocation.phase scheduled

-- A resolution that doesn't apply is noted with the reason.
unfoldable pub not_applicable : State → Event → Reason → Move
not_applicable state event reason = noting (named_node state.invocation event) (Noted.NotApplicable event.node event.visit reason) (still state Rest)

-- A stuck step keeps its error and waits for a person.
unfoldable pub stick : State → ErrorInfo → Move
stick state why =
    let invocation = state.invocation in
    noting state.position.node (Noted.Stuck invocation.visit invocation.attempt why.code)
    (still (placed state needs_intervention state.position (phased invocation stuck invocation.attempt (Some why))) Rest)

-- An ended run only notes the event.
unfoldable pub on_ended : State → Event → Move
on_ended state event =
    let ignored = noting none (Noted.Ignored event.kind) (still state Rest) in
    when eqb event.kind signal_received then ending event.sequence Ended.Ignored ignored else ignored

-- THE RULES, for one sheet.
module _ (sheet : Workflow) where
  -- The action of the activity where the run stands.
  abbrev pub action_at : State → ℕ
  action_at state = (node_of sheet state.position.node).action

  -- The delay of the retry that a result of an action asks for, in milliseconds.
  abbrev pub delay_of : (action : ℕ) → Event → ℕ
  delay_of action event = event.delay

  -- Retry needs attempt < maxAttempts.
  abbrev pub may_retry : State → Event → Bool
  may_retry state event = ltb event.attempt (policy_of sheet (action_at state)).max_attempts

  -- The invocation is over, and its node routes.
  unfoldable pub complete_invocation : State → (outcome : ℕ) → Output → Move
  complete_invocation state outcome output = route sheet (placed state state.status state.position no_invocation) outcome output

  -- A failure follows route failed; without one, format 2 parks a result's failure as stuck, else the run fails. The error names the node.
  unfoldable pub fail_invocation : State → (code detail : ℕ) → (may_park : Bool) → Move
  fail_invocation state code detail may_park =
      let why = error code state.position.node detail in
      when routed sheet state.position.node failed then complete_invocation state failed (Output.Error why) else
      when may_park and is_0_2 sheet then stick state why else
      terminate sheet state why

  -- THE EVENTS.
  -- An arrival that the run waits for is taken ahead of the store. Otherwise it is stored last; one too many is dropped.
  unfoldable pub on_signal : State → Event → Move
  on_signal state event =
      when eqb state.status waiting and eqb (node_of sheet state.position.node).signal event.signal then still state Take else
      when leb store state.signal_count then ending event.sequence Ended.Overflow (noting none (Noted.Overflow event.event_id) (still state Rest)) else
      still (appended state (arrival event)) Rest

  unfoldable pub on_success : State → Event → Move
  on_success state event =
      let outcome = success_outcome event.outcome in
      when declares sheet (action_at state) outcome then complete_invocation state outcome (Output.Handle event.output) else
      fail_invocation state (error_code ErrorCode.UndeclaredOutcome) outcome true

  -- After a failure a retry also needs retryable.
  unfoldable pub on_failure : State → Event → Move
  on_failure state event =
      when event.retryable and may_retry state event then retry sheet state (delay_of (action_at state) event) else
      when event.has_error then fail_invocation state event.code event.detail true else
      fail_invocation state (error_code ErrorCode.ActivityFailed) 0 true

  -- Unknown or expired on effect 1 parks the run.
  unfoldable pub on_unknown : State → Event → Move
  on_unknown state event =
      let invocation = state.invocation in
      when not (eqb (policy_of sheet (action_at state)).effect repeatable)
      then
      noting state.position.node (Noted.Unknown invocation.visit invocation.attempt event.status)
      (still (placed state needs_intervention state.position (phased invocation unknown invocation.attempt None)) Rest)
      else
      when may_retry state event then retry sheet state (delay_of (action_at state) event) else
      fail_invocation state (error_code ErrorCode.AttemptsExhausted) event.status true

  unfoldable pub on_result : State → Event → Move
  on_result state event =
      when not (applies state.invocation event)
      then noting (named_node state.invocation event) (Noted.Stale event.node event.visit event.attempt) (still state Rest)
      else
      when eqb event.status success then on_success state event else
      when eqb event.status failure then on_failure state event else
      on_unknown state event

  -- Resolved as complete: with an outcome that the action declares.
  unfoldable pub resolve_as_complete : State → Event → Move
  resolve_as_complete state event =
      when declares sheet (action_at state) event.outcome then complete_invocation state event.outcome (Output.Handle event.output) else
      not_applicable state event Reason.Undeclared

  -- Resolving a stuck run as fail ends it as failed with the kept error, even where failed is routed.
  unfoldable pub resolve_as_fail : Option ErrorInfo → State → Event → Move
  resolve_as_fail (Some why) state event = terminate sheet state why
  resolve_as_fail None state event = fail_invocation state event.code event.detail false

  -- An operator's retry needs neither, and has delay 0.
  unfoldable pub on_resolved : State → Event → Move
  on_resolved state event =
      when not (named state.invocation event) then not_applicable state event Reason.Mismatch else
      when eqb state.invocation.phase scheduled then not_applicable state event Reason.NotUnknown else
      when eqb event.resolution resolve_complete then resolve_as_complete state event else
      when eqb event.resolution resolve_retry then retry sheet state 0 else
      resolve_as_fail state.invocation.error state event

  -- One event, on the record that has taken note of it.
  unfoldable pub react : State → Event → Move
  react state event =
      when is_terminal state.status then on_ended state event else
      when eqb event.kind run_started then still state (Enter sheet.start none) else
      when eqb event.kind signal_received then on_signal state event else
      when eqb event.kind activity_result then on_result state event else
      when eqb event.kind invocation_resolved then on_resolved state event else
      still state Rest

  -- Sequence is set, accepted time becomes the larger of old and new; then the event is reacted to.
  abbrev pub apply : State → Event → Move
  apply state event = react (seen state event.sequence event.accepted_at) event
