-- Demand 3: one claim about every list of calls on one sheet (document 01, "The list of demand 3").
-- A reader needs of other files: `transition` (kernel, Call), the run check `consistent` (snapshot, Check), the words that count (Words) and the count of microsteps
-- `begun` (Steps).
use Rattle.std.specs.Prelude.{◌≡◌, true, List, [], ◌∷◌, ◌++◌, ℕ, ◌+◌, ◌≤◌, eqb, Option, Some, None}
use Rattle.laws.specs.Bool.{when◌then◌else◌, ◌and◌}
use Rattle.laws.specs.Every.{every}
use Rattle.laws.specs.All.{All, Distinct}
use Rattle.laws.specs.In.{In}
use Rattle.workflow.specs.View.{Workflow}
use Rattle.workflow.specs.Refusal.{number}
use Rattle.model.specs.declared.State.{State}
use Rattle.model.specs.declared.event.Event.{Event}
use Rattle.model.specs.declared.answer.Order.{Order}
use Rattle.model.specs.declared.answer.Ending.{Ending}
use Rattle.model.specs.Code.{signal_received, activity_result}
use Rattle.model.specs.Record.{is_terminal}
use Rattle.model.specs.Store.{stored}
use Rattle.snapshot.specs.Check.{consistent}
use Rattle.kernel.specs.declared.Call.{Call}
use Rattle.kernel.specs.Call.{Accepted, Answer, next, wants, refused, Last, transition}
use Rattle.demand3.specs.Words.{is_it, times, Counts, plain}
use Rattle.demand3.specs.Steps.{begun}

-- THE LIST. Its calls are on one sheet, each with ceilings, limits and mapping answers of its own. A history is the calls so far, newest first, each with the
-- record that it was given and its answer.
pub record Entry : Type 0 where
  pub call : Call
  pub given : Last
  pub said : Answer

-- A call is accepted if it answers with a next record. Each call gets the record of the last accepted one, and none before the first; a want or a refusal leaves
-- that record standing.
abbrev pub standing_after : Answer → Last → Last
standing_after (next accepted) before = Some accepted.state
standing_after (wants node field from state) before = before
standing_after (refused refusal item) before = before

unfoldable pub standing : List Entry → Last
standing [] = None
standing (entry ∷ history) = standing_after entry.said (standing history)

abbrev pub next_entry : Workflow → List Entry → Call → Entry
next_entry sheet history call = record { call = call; given = standing history; said = transition sheet (standing history) call }

unfoldable pub history : Workflow → List Entry → List Call → List Entry
history sheet before [] = before
history sheet before (call ∷ calls) = history sheet (next_entry sheet before call ∷ before) calls

-- The accepted calls, newest first.
pub record Done : Type 0 where
  pub event : Event
  pub answer : Accepted

abbrev pub done_by : Event → Answer → List Done
done_by event (next accepted) = record { event = event; answer = accepted } ∷ []
done_by event (wants node field from state) = []
done_by event (refused refusal item) = []

unfoldable pub accepted : List Entry → List Done
accepted [] = []
accepted (entry ∷ history) = done_by entry.call.event entry.said ++ accepted history

-- ATTEMPTS. An attempt is node, visit and attempt number; a schedule or retry in an accepted answer orders it.
pub record Attempt : Type 0 where
  pub node : ℕ
  pub visit : ℕ
  pub attempt : ℕ

abbrev pub attempt : (node visit attempt : ℕ) → Attempt
attempt node visit number = record { node = node; visit = visit; attempt = number }

abbrev pub ordered_by : Option Order → List Attempt
ordered_by None = []
ordered_by (Some (Order.Schedule order)) = attempt order.node order.visit order.attempt ∷ []
ordered_by (Some (Order.Retry order)) = attempt order.node order.visit order.attempt ∷ []

unfoldable pub ordered : List Done → List Attempt
ordered [] = []
ordered (done ∷ before) = ordered_by done.answer.order ++ ordered before

-- A result is applied to the attempt it names if its call is accepted with none of the notes 1 to 3.
abbrev pub applied_by : Done → List Attempt
applied_by done =
    when eqb done.event.kind activity_result and every plain done.answer.notes
    then attempt done.event.node done.event.visit done.event.attempt ∷ []
    else []

unfoldable pub applied : List Done → List Attempt
applied [] = []
applied (done ∷ before) = applied_by done ++ applied before

-- SIGNALS. A signal is the event of an accepted signal call, known by its sequence number: stored if the last record's store holds that number, ended by an ending
-- with it in an accepted answer. How often is a number that of a signal, in the last record's store, in the endings?
unfoldable pub signals : (sequence : ℕ) → List Done → ℕ
signals sequence [] = 0
signals sequence (done ∷ before) = (when eqb done.event.kind signal_received then is_it sequence done.event.sequence else 0) + signals sequence before

abbrev pub in_store : (sequence : ℕ) → Last → ℕ
in_store sequence None = 0
in_store sequence (Some state) = times sequence (stored state)

unfoldable pub ends : (sequence : ℕ) → List Ending → ℕ
ends sequence [] = 0
ends sequence (ending ∷ endings) = is_it sequence ending.sequence + ends sequence endings

unfoldable pub endings : (sequence : ℕ) → List Done → ℕ
endings sequence [] = 0
endings sequence (done ∷ before) = ends sequence done.answer.endings + endings sequence before

-- Each signal is either stored once without ending or not stored with exactly one, and store and endings name no others.
pub data Fate : (signals in_store endings : ℕ) → Type 0 where
  no_signal : Fate 0 0 0
  still_stored : Fate 1 1 0
  has_ended : Fate 1 0 1

-- ENDED RUNS. A run has ended when its record is completed or failed; every record accepted later equals that one but for last sequence and last accepted time.
abbrev pub dated : State → (last_sequence last_accepted_at : ℕ) → State
dated state sequence time =
    record {
      signals = state.signals;
      visits = state.visits;
      streaks = state.streaks;
      results = state.results;
      last_sequence = sequence;
      last_accepted_at = time;
      signal_count = state.signal_count;
      status = state.status;
      input = state.input;
      activations = state.activations;
      position = state.position;
      invocation = state.invocation;
      result = state.result;
    }

abbrev pub Same : (earlier later : State) → Type 0
Same earlier later = is_terminal earlier.status ≡ true → later ≡ dated earlier later.last_sequence later.last_accepted_at

unfoldable pub Frozen : List Done → Type 0
Frozen [] = Unit {0}
Frozen (done ∷ before) = All (λ earlier. Same earlier.answer.state done.answer.state) before × Frozen before

-- MICROSTEPS are the entries and the takes (Steps). Every call has them, whatever its answer.
abbrev pub counts : Workflow → Entry → ℕ
counts sheet entry = begun sheet entry.given entry.call

-- An accepted answer reports them.
abbrev pub Reports : (count : ℕ) → Answer → Type 0
Reports count (next accepted) = accepted.microsteps ≡ count
Reports count (wants node field from state) = Unit {0}
Reports count (refused refusal item) = Unit {0}

-- At a microstep limit of 130 or more no call of the list is refused with 26.
abbrev pub Not26 : Call → Answer → Type 0
Not26 call (next accepted) = Unit {0}
Not26 call (wants node field from state) = Unit {0}
Not26 call (refused refusal item) = 130 ≤ call.limits.microsteps → number refusal ≡ 26 → ⊥

-- THE CLAIM.
pub record Demand3 (sheet : Workflow) (history : List Entry) : Type 0 where
  -- the run check takes every next record
  pub checked : All (λ done. consistent sheet done.answer.state ≡ true) (accepted history)
  -- no attempt is ordered twice
  pub ordered_once : Distinct (ordered (accepted history))
  -- no two results are applied to one attempt
  pub applied_once : Distinct (applied (accepted history))
  -- activations equal the sum of the visits and no count is above its limit in the sheet
  pub counts_hold : All (λ done. Counts sheet done.answer.state.visits done.answer.state.activations) (accepted history)
  -- every signal has its one fate
  pub one_fate : (sequence : ℕ) → Fate (signals sequence (accepted history)) (in_store sequence (standing history)) (endings sequence (accepted history))
  -- of an ended run nothing is stored (document 02, T-02): so each of its signals has its one ending
  pub none_left : All (λ done. is_terminal done.answer.state.status ≡ true → stored done.answer.state ≡ []) (accepted history)
  -- an ended run changes only in last sequence and last accepted time
  pub frozen : Frozen (accepted history)
  -- no call, wants and refusals included, comes to more than 130 microsteps
  pub at_most_130 : All (λ entry. counts sheet entry ≤ 130) history
  -- an accepted answer reports its microsteps
  pub reported : All (λ entry. Reports (counts sheet entry) entry.said) history
  -- at a limit of 130 or more no call is refused with 26
  pub never_26 : All (λ entry. Not26 entry.call entry.said) history

abbrev pub demand_3 : Type 0
demand_3 = (sheet : Workflow) (calls : List Call) → Demand3 sheet (history sheet [] calls)

-- BESIDE DEMAND 3: an attempt to which a result is applied was ordered by an earlier answer of the list.
unfoldable pub OrderedBefore : List Done → Type 0
OrderedBefore [] = Unit {0}
OrderedBefore (done ∷ before) = All (λ it. In it (ordered before)) (applied_by done) × OrderedBefore before

abbrev pub applied_were_ordered : Type 0
applied_were_ordered = (sheet : Workflow) (calls : List Call) → OrderedBefore (accepted (history sheet [] calls))

-- Every signal of an ended run has ended.
abbrev pub all_ended : Type 0
all_ended =
    (sheet : Workflow) (calls : List Call) (state : State) → standing (history sheet [] calls) ≡ Some state → is_terminal state.status ≡ true
    → (sequence : ℕ) → endings sequence (accepted (history sheet [] calls)) ≡ signals sequence (accepted (history sheet [] calls))
