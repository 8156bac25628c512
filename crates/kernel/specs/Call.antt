-- A call, whole and in the order of document 01: sheet, event, record, step, finish.
use Rattle.std.specs.Prelude.{Option, Some, None, Bool, true, false, not, List, [], ◌∷◌, ◌++◌, ℕ, ◌+◌, ltb, eqb, Ok, Err}
use Rattle.laws.specs.Bool.{when◌then◌else◌}
use Rattle.workflow.specs.View.{Workflow}
use Rattle.graph.specs.Verdict.{rule, first_broken, verdict, Verdict}
use Rattle.model.specs.declared.State.{State}
use Rattle.model.specs.declared.answer.Order.{Order}
use Rattle.model.specs.declared.answer.Note.{Note}
use Rattle.model.specs.declared.answer.Ending.{Ending}
use Rattle.model.specs.declared.answer.Field.{Field}
use Rattle.model.specs.declared.moves.Next.{Next}
use Rattle.model.specs.declared.moves.Next.TheVariants.{Rest, Enter, Take, Consume, Wants, Refuse}
use Rattle.workflow.specs.Code.{none}
use Rattle.workflow.specs.declared.refusal.Refusal.{Refusal}
use Rattle.model.specs.Code.{run_started}
use Rattle.model.specs.Record.{fresh}
use Rattle.model.specs.Store.{stored, leaves_over, left_over, emptied}
use Rattle.snapshot.specs.Check.{consistent}
use Rattle.snapshot.specs.EventCheck.{event_fits}
use Rattle.kernel.specs.declared.Limits.{Limits}
use Rattle.kernel.specs.declared.Call.{Call}
use Rattle.kernel.specs.Drive.{Machine, driven}

-- THE RECORD THAT STANDS, if there is one.
abbrev pub Last : Type 0
Last = Option State

-- By the mark that says whether a record goes with a call.
abbrev pub given_record : (has_record : Bool) → State → Last
given_record true state = Some state
given_record false state = None

-- THE STAGES BEFORE THE STEP: sheet, event, record.
-- Start without record: 22 if sequence isn't 1; other without record: 23; start with record: 24; else 25 run check, then 22 if not last + 1.
abbrev pub is_start : (kind : ℕ) → Bool
is_start kind = eqb kind run_started

unfoldable pub start_stage : (kind sequence : ℕ) → Verdict
start_stage kind sequence = first_broken (rule Refusal.NotStarted (is_start kind) ∷ rule Refusal.OutOfSequence (eqb sequence 1) ∷ [])

unfoldable pub next_stage : Workflow → State → (kind sequence : ℕ) → Verdict
next_stage sheet state kind sequence =
    first_broken (
    rule Refusal.StartedBefore (not (is_start kind))
    ∷ rule Refusal.Inconsistent (consistent sheet state)
    ∷ rule Refusal.OutOfSequence (eqb sequence (state.last_sequence + 1))
    ∷ []
    )

abbrev pub record_stage : Workflow → Call → Last → Verdict
record_stage sheet call None = start_stage call.event.kind call.event.sequence
record_stage sheet call (Some state) = next_stage sheet state call.event.kind call.event.sequence

unfoldable pub admission : Workflow → Last → Call → Verdict
admission sheet standing call =
    first_broken (
    verdict sheet call.ceilings
    ∷ rule Refusal.EventUnfit (event_fits call.event call.mappings)
    ∷ record_stage sheet call standing
    ∷ []
    )

-- THE STEP starts at the record that stands, or at a fresh one.
abbrev pub given : Last → Call → State
given None call = fresh call.event.input
given (Some state) call = state

-- THE ANSWER is one of three: a next record with its order, notes and endings; a want of one mapping value, with the record at that moment; a refusal with its item.
pub record Accepted : Type 0 where
  pub state : State
  pub order : Option Order
  pub notes : List Note
  pub endings : List Ending
  pub microsteps : ℕ

pub data Answer : Type 0 where
  next : Accepted → Answer
  wants : (node : ℕ) → Field → (from : ℕ) → State → Answer
  refused : Refusal → (item : ℕ) → Answer

-- THE CLOSE (document 02, T-02): a run that has ended leaves over the signals that are still stored. They are listed behind the other endings, oldest first, and the store is
-- empty. None is counted or noted for it.
unfoldable pub closed : Machine → Machine
closed machine =
    when leaves_over machine.state.status machine.state.signal_count
    then
    record {
      state = emptied machine.state;
      next = machine.next;
      order = machine.order;
      notes = machine.notes;
      endings = machine.endings ++ left_over (stored machine.state);
      microsteps = machine.microsteps;
      operations = machine.operations;
    }
    else machine

-- THE FINISH: 29 orders over the command limit, then 30 operations over theirs. A want and a refusal come before.
abbrev pub orders : Option Order → ℕ
orders None = 0
orders (Some order) = 1

abbrev pub accepted_of : Machine → Accepted
accepted_of machine = record { state = machine.state; order = machine.order; notes = machine.notes; endings = machine.endings; microsteps = machine.microsteps }

-- A driver that runs out of moves: never (Bounds).
abbrev pub unfinished : Answer
unfinished = refused Refusal.Invariant none

unfoldable pub finish_by : Next → Limits → Machine → Answer
finish_by Rest limits machine =
    when ltb limits.commands (orders machine.order) then refused Refusal.CommandsExceeded none else
    when ltb limits.operations machine.operations then refused Refusal.OperationsExceeded none else
    next (accepted_of (closed machine))
finish_by (Wants node field from) limits machine = wants node field from machine.state
finish_by (Refuse refusal) limits machine = refused refusal none
finish_by (Enter node from) limits machine = unfinished
finish_by Take limits machine = unfinished
finish_by Consume limits machine = unfinished

abbrev pub finish : Limits → Machine → Answer
finish limits machine = finish_by machine.next limits machine

-- THE CALL: the first broken stage is the answer, else the step is done and finished.
unfoldable pub transition_by : Verdict → Workflow → Last → Call → Answer
transition_by (Err broken) sheet standing call = refused broken.refusal broken.item
transition_by (Ok tt) sheet standing call = finish call.limits (driven sheet call.limits.microsteps call.event call.mappings (given standing call))

unfoldable pub transition : Workflow → Last → Call → Answer
transition sheet standing call = transition_by (admission sheet standing call) sheet standing call
