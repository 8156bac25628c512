-- The microsteps of a call, told from what comes next and not from the driver's own count: the entries, one that a visit or activation limit stops included, and the
-- takes, an arrival's included.
use Rattle.graph.specs.Verdict.{Verdict}
use Rattle.std.specs.Prelude.{ℕ, zero, suc, ◌+◌, Option, Some, None, Ok, Err}
use Rattle.laws.specs.Bool.{when◌then◌else◌}
use Rattle.workflow.specs.View.{Workflow}
use Rattle.workflow.specs.Lookup.{node_of}
use Rattle.model.specs.declared.State.{State}
use Rattle.model.specs.declared.event.Event.{Event}
use Rattle.model.specs.declared.event.Mappings.{Mappings}
use Rattle.model.specs.declared.moves.Next.{Next}
use Rattle.model.specs.declared.moves.Next.TheVariants.{Rest, Enter, Take, Consume, Wants, Refuse}
use Rattle.model.specs.Store.{first_signal}
use Rattle.kernel.specs.declared.Call.{Call}
use Rattle.kernel.specs.Drive.{Machine, advance, is_moving, started}
use Rattle.kernel.specs.Call.{Last, admission, given}

-- 1 if a stored signal is found, else 0.
abbrev pub by_found : Option ℕ → ℕ
by_found (Some place) = 1
by_found None = 0

module _ (sheet : Workflow) (limit : ℕ) (event : Event) (mappings : Mappings) where
  -- 1 if what comes next is an entry or a take, else 0.
  abbrev pub is_step : State → Next → ℕ
  is_step state Rest = 0
  is_step state (Enter node from) = 1
  is_step state Take = 1
  is_step state Consume = by_found (first_signal state (node_of sheet state.position.node).signal)
  is_step state (Wants node field from) = 0
  is_step state (Refuse refusal) = 0

  -- The entries and takes that a machine comes to in its next moves, one that is refused with 26 included.
  unfoldable pub steps : (moves : ℕ) → Machine → ℕ
  steps zero machine = 0
  steps (suc moves) machine =
      when is_moving sheet limit event mappings machine
      then is_step machine.state machine.next + steps moves (advance sheet limit event mappings machine)
      else 0

-- Of a whole call, whatever its answer: none where it is turned away before its step. A call has at most 131 moves (kernel, Bounds).
unfoldable pub begun_by : Verdict → Workflow → Last → Call → ℕ
begun_by (Err broken) sheet standing call = 0
begun_by (Ok tt) sheet standing call =
    steps sheet call.limits.microsteps call.event call.mappings 131 (started sheet call.limits.microsteps call.event call.mappings (given standing call))

abbrev pub begun : Workflow → Last → Call → ℕ
begun sheet standing call = begun_by (admission sheet standing call) sheet standing call
