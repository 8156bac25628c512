-- Between the rules of the events and their code: what an event makes of a run is a value first, and is done to the record then.
use Rattle.std.specs.Prelude.{◌≡◌, Option, Some, None}
use Rattle.std.proofs.Math.Bool.{and_assoc}
use Rattle.workflow.specs.View.{Workflow}
use Rattle.model.specs.Code.{needs_intervention}
use Rattle.model.specs.declared.State.{State}
use Rattle.model.specs.declared.event.Event.{Event}
use Rattle.model.specs.declared.answer.Note.{Note}
use Rattle.model.specs.declared.answer.Ending.{Ending}
use Rattle.model.specs.declared.moves.Next.TheVariants.{Rest}
use Rattle.model.specs.declared.moves.Move.{Move}
use Rattle.model.specs.Record.{placed}
use Rattle.laws.specs.Bool.{deciding}
use Rattle.model.specs.Store.{appended}
use Rattle.model.specs.Step.{still, phased, arrival, terminate, retry}
use Rattle.machine.specs.declared.reaction.Reaction.{Reaction}
use Rattle.machine.specs.declared.reaction.Reaction.TheVariants.{Pass, Store, Say, Route, Retry, Park, Fail}
use Rattle.machine.specs.Events.{complete_invocation}

-- What a test comes to, of several numbers too, and the branch that it takes.
pub ruleset choosing = (deciding, and_assoc)

-- A record with a note and an ending, and nothing next.
abbrev told : State → Note → Option Ending → Move
told state note ending = record { state = state; next = Rest; note = Some note; ending = ending; order = None; read = 0 }

-- What doing a reaction to an event makes of a run.
unfoldable pub performed : Workflow → State → Event → Reaction → Move
performed sheet state event (Pass next) = still state next
performed sheet state event Store = still (appended state (arrival event)) Rest
performed sheet state event (Say note ending) = told state note ending
performed sheet state event (Route outcome output) = complete_invocation sheet state outcome output
performed sheet state event (Retry delay) = retry sheet state delay
performed sheet state event (Park phase kept note) =
    told (placed state needs_intervention state.position (phased state.invocation phase state.invocation.attempt kept)) note None
performed sheet state event (Fail why) = terminate sheet state why

-- A record that stands where another does, with its invocation.
pub record At (stood state : State) : Type 0 where
  pub position_is : state.position ≡ stood.position
  pub invocation_is : state.invocation ≡ stood.invocation

-- One that has its status and its count of stored signals too.
pub record Stands (stood state : State) : Type 0 where
  pub at : At stood state
  pub status_is : state.status ≡ stood.status
  pub count_is : state.signal_count ≡ stood.signal_count

-- One that may have any invocation.
pub record Waits (stood state : State) : Type 0 where
  pub position_is : state.position ≡ stood.position
  pub status_is : state.status ≡ stood.status
  pub count_is : state.signal_count ≡ stood.signal_count

-- The reaction is what the rule makes of every record that stands so.
abbrev pub Reacts : Workflow → Event → Reaction → (stands : State → Type 0) → (rule : Workflow → State → Event → Move) → Type 0
Reacts sheet event reaction stands rule = (state : State) → stands state → performed sheet state event reaction ≡ rule sheet state event
