-- The moves of a call, one after the other: the driver counts microsteps against their limit and keeps the lists.
use Rattle.std.specs.Prelude.{Option, Some, None, Bool, true, false, List, [], ◌∷◌, ◌++◌, ℕ, ◌+◌, take, ltb}
use Rattle.laws.specs.Bool.{when◌then◌else◌}
use Rattle.laws.specs.Settle.{settle}
use Rattle.workflow.specs.View.{Workflow}
use Rattle.workflow.specs.Lookup.{node_of}
use Rattle.workflow.specs.declared.refusal.Refusal.{Refusal}
use Rattle.model.specs.declared.State.{State}
use Rattle.model.specs.declared.event.Event.{Event}
use Rattle.model.specs.declared.event.Mapping.{Mapping}
use Rattle.model.specs.declared.event.Mappings.{Mappings}
use Rattle.model.specs.declared.answer.Order.{Order}
use Rattle.model.specs.declared.answer.Note.{Note}
use Rattle.model.specs.declared.answer.Ending.{Ending}
use Rattle.model.specs.declared.moves.Next.{Next}
use Rattle.model.specs.declared.moves.Next.TheVariants.{Rest, Enter, Take, Consume, Wants, Refuse}
use Rattle.model.specs.declared.moves.Move.{Move}
use Rattle.model.specs.Store.{first_signal, signal_at, removed}
use Rattle.model.specs.Step as step
use Rattle.model.specs.Step.{still, arrival, enter}
use Rattle.machine.specs.Events.{apply}

-- What a call works on: the record so far and what comes next, what it has put out, and what it has counted.
pub record Machine : Type 0 where
  pub state : State
  pub next : Next
  pub order : Option Order
  pub notes : List Note
  pub endings : List Ending
  pub microsteps : ℕ
  pub operations : ℕ

-- The operations of mapping answers.
unfoldable pub operations_of : List Mapping → ℕ
operations_of [] = 0
operations_of (answer ∷ more) = answer.operations + operations_of more

-- What a move says, if something, is listed behind what was said.
unfoldable pub added : {A : Type 0} → List A → Option A → List A
added listed None = listed
added listed (Some said) = listed ++ (said ∷ [])

-- For one sheet, one limit on microsteps, one event and its mapping answers.
module _ (sheet : Workflow) (limit : ℕ) (event : Event) (mappings : Mappings) where
  -- A move is made, at a count of microsteps. Its order replaces the one before it, and none is lost: after an order nothing comes next.
  abbrev pub moved : (microsteps : ℕ) → Machine → Move → Machine
  moved count machine move =
      record {
        state = move.state;
        next = move.next;
        order = move.order;
        notes = added machine.notes move.note;
        endings = added machine.endings move.ending;
        microsteps = count;
        operations = machine.operations + operations_of (take move.read mappings.answers);
      }

  abbrev pub over_limit : Machine → Machine
  over_limit machine =
      record {
        state = machine.state;
        next = Refuse Refusal.MicrostepsExceeded;
        order = machine.order;
        notes = machine.notes;
        endings = machine.endings;
        microsteps = machine.microsteps;
        operations = machine.operations;
      }

  -- A move that is a microstep: it is counted, and the count is tested, before it is made.
  unfoldable pub counting : Machine → Move → Machine
  counting machine move = when ltb limit (machine.microsteps + 1) then over_limit machine else moved (machine.microsteps + 1) machine move

  -- The oldest stored signal that the node waits for is taken; with none left the run goes on waiting.
  unfoldable pub consume_by : Option ℕ → Machine → Machine
  consume_by (Some place) machine = counting machine (step.take sheet (removed machine.state place) (signal_at machine.state place) Consume)
  consume_by None machine = moved machine.microsteps machine (still machine.state Rest)

  abbrev pub consume : Machine → Machine
  consume machine = consume_by (first_signal machine.state (node_of sheet machine.state.position.node).signal) machine

  -- What comes next is done.
  unfoldable pub advance_by : Next → Machine → Machine
  advance_by Rest machine = machine
  advance_by (Enter node from) machine = counting machine (enter sheet machine.state node from mappings)
  advance_by Take machine = counting machine (step.take sheet machine.state (arrival event) Rest)
  advance_by Consume machine = consume machine
  advance_by (Wants node field from) machine = machine
  advance_by (Refuse refusal) machine = machine

  abbrev pub advance : Machine → Machine
  advance machine = advance_by machine.next machine

  abbrev pub moves_on : Next → Bool
  moves_on Rest = false
  moves_on (Enter node from) = true
  moves_on Take = true
  moves_on Consume = true
  moves_on (Wants node field from) = false
  moves_on (Refuse refusal) = false

  abbrev pub is_moving : Machine → Bool
  is_moving machine = moves_on machine.next

  -- The event is applied to the record.
  abbrev pub opened : State → Machine
  opened state = record { state = state; next = Rest; order = None; notes = []; endings = []; microsteps = 0; operations = 0 }

  abbrev pub started : State → Machine
  started state = moved 0 (opened state) (apply sheet state event)

  -- Moves follow until nothing is next. 131 are enough (Bounds): an arrival taken and its entry, two for each of 64 stored signals, and a last look at the store.
  unfoldable pub driven : State → Machine
  driven state = settle is_moving advance 131 (started state)
