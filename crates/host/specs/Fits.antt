-- What the fields of a run record, of a call and of an answer can hold.
use Rattle.std.specs.Prelude.{◌≡◌, ℕ, ◌^◌, ◌≤◌, ◌<◌, length, Option, Some, None}
use Rattle.laws.specs.All.{All}
use Rattle.model.specs.declared.ErrorInfo.{ErrorInfo}
use Rattle.model.specs.declared.Output.{Output}
use Rattle.model.specs.declared.BufferedSignal.{BufferedSignal}
use Rattle.model.specs.declared.Visits.{Visits}
use Rattle.model.specs.declared.Streak.{Streak}
use Rattle.model.specs.declared.NodeResult.{NodeResult}
use Rattle.model.specs.declared.Position.{Position}
use Rattle.model.specs.declared.InvocationState.{InvocationState}
use Rattle.model.specs.declared.State.{State}
use Rattle.model.specs.declared.event.Event.{Event}
use Rattle.model.specs.declared.event.Mapping.{Mapping}
use Rattle.graph.specs.declared.Ceilings.{Ceilings}
use Rattle.kernel.specs.declared.Limits.{Limits}
use Rattle.kernel.specs.declared.Call.{Call}
use Rattle.kernel.specs.Call.{Accepted, Answer, next, wants, refused}
use Rattle.host.specs.Layout as layout

-- Any number of 32 bits; the name of a node, an action, a signal or an outcome; the code of an error.
abbrev pub Number : ℕ → Type 0
Number value = value < 2 ^ 32

abbrev pub Name : ℕ → Type 0
Name value = value < 256

abbrev pub Code : ℕ → Type 0
Code value = value < 65536

pub record ErrorFits (error : ErrorInfo) : Type 0 where
  pub code : Code error.code
  pub node : Name error.node
  pub detail : Number error.detail

abbrev pub OutputFits : Output → Type 0
OutputFits Output.Nothing = Unit {0}
OutputFits (Output.Handle handle) = Number handle
OutputFits (Output.Error error) = ErrorFits error

abbrev pub KeptFits : Option ErrorInfo → Type 0
KeptFits None = Unit {0}
KeptFits (Some error) = ErrorFits error

pub record SignalFits (stored : BufferedSignal) : Type 0 where
  pub event_id : Number stored.event_id
  pub signal : Name stored.signal
  pub outcome : Name stored.outcome
  pub data_handle : Number stored.«data»

pub record StreakFits (streak : Streak) : Type 0 where
  pub outcome : Name streak.outcome
  pub count : Number streak.count

pub record ResultFits (result : NodeResult) : Type 0 where
  pub visit : Number result.visit
  pub outcome : Name result.outcome
  pub output : OutputFits result.output

pub record PositionFits (position : Position) : Type 0 where
  pub node : Name position.node
  pub visit : Number position.visit

pub record InvocationFits (invocation : InvocationState) : Type 0 where
  pub phase : Number invocation.phase
  pub node : Name invocation.node
  pub visit : Number invocation.visit
  pub action : Name invocation.action
  pub attempt : Number invocation.attempt
  pub input : Number invocation.input
  pub error : KeptFits invocation.error

-- The record as a whole: each array has its 64 slots, and every number is one that its field can hold. The last sequence and the last accepted time are any.
pub record Fits (state : State) : Type 0 where
  pub signals_long : length state.signals ≡ 64
  pub visits_long : length state.visits ≡ 64
  pub streaks_long : length state.streaks ≡ 64
  pub results_long : length state.results ≡ 64
  pub signals : All SignalFits state.signals
  pub visits : All (λ (visits : Visits). Number visits.count) state.visits
  pub streaks : All StreakFits state.streaks
  pub results : All ResultFits state.results
  pub signal_count : Number state.signal_count
  pub status : Number state.status
  pub input : Number state.input
  pub activations : Number state.activations
  pub position : PositionFits state.position
  pub invocation : InvocationFits state.invocation
  pub result : OutputFits state.result.output

-- What the fields of a call can hold. The event's sequence, accepted time and delay are any.
pub record EventFits (event : Event) : Type 0 where
  pub event_id : Number event.event_id
  pub kind : Number event.kind
  pub input : Number event.input
  pub signal : Name event.signal
  pub outcome : Name event.outcome
  pub data_handle : Number event.«data»
  pub node : Name event.node
  pub visit : Number event.visit
  pub attempt : Number event.attempt
  pub status : Number event.status
  pub output : Number event.output
  pub code : Code event.code
  pub detail : Number event.detail
  pub resolution : Number event.resolution

pub record MappingFits (mapping : Mapping) : Type 0 where
  pub kind : Number mapping.kind
  pub value : Number mapping.value
  pub code : Code mapping.code
  pub detail : Number mapping.detail
  pub operations : Number mapping.operations

pub record CeilingsFits (ceilings : Ceilings) : Type 0 where
  pub nodes : Number ceilings.nodes
  pub visits : Number ceilings.visits
  pub activations : Number ceilings.activations
  pub attempts : Number ceilings.attempts

pub record LimitsFits (limits : Limits) : Type 0 where
  pub microsteps : Number limits.microsteps
  pub commands : Number limits.commands
  pub operations : Number limits.operations

pub record CallFits (call : Call) : Type 0 where
  pub ceilings : CeilingsFits call.ceilings
  pub limits : LimitsFits call.limits
  pub event : EventFits call.event
  pub answers_long : length call.mappings.answers ≡ 2
  pub answers : All MappingFits call.mappings.answers
  pub count : Number call.mappings.count

-- An answer whose lists have room and whose record fits.
pub record AcceptedFits (accepted : Accepted) : Type 0 where
  pub state : Fits accepted.state
  pub notes : length accepted.notes ≤ layout.notes
  pub endings : length accepted.endings ≤ layout.endings

abbrev pub AnswerFits : Answer → Type 0
AnswerFits (next accepted) = AcceptedFits accepted
AnswerFits (wants node field from state) = Fits state
AnswerFits (refused refusal item) = Unit {0}
