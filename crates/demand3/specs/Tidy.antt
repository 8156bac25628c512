-- A tidy record: what the run check asks of it, but for where the run stands.
use Rattle.std.specs.Prelude.{◌≡◌, Bool, List, ℕ, ◌≤◌, length, eqb, ltb}
use Rattle.std.proofs.Math.Bool.{true}
use Rattle.laws.specs.Bool.{when◌then◌else◌}
use Rattle.laws.specs.Arrays.{Slots}
use Rattle.workflow.specs.Layout.{node_room}
use Rattle.model.specs.Code.{largest}
use Rattle.workflow.specs.View.{Workflow}
use Rattle.model.specs.declared.BufferedSignal.{BufferedSignal}
use Rattle.model.specs.declared.Visits.{Visits}
use Rattle.model.specs.declared.Streak.{Streak}
use Rattle.model.specs.declared.NodeResult.{NodeResult}
use Rattle.model.specs.declared.State.{State}
use Rattle.model.specs.Record.{no_visits, no_streak, no_node_result}
use Rattle.model.specs.Store.{signals_fit}
use Rattle.snapshot.specs.Check.{result_zero, result_fits, streak_zero, streak_fits}
use Rattle.model.specs.StoreLaws.{Slotted}

-- THE STORE has its slots, and the run check takes it.
pub record Stores (signals : List BufferedSignal) (count : ℕ) : Type 0 where
  pub slotted : Slotted signals count
  pub fits : signals_fit signals count ≡ true

-- THE SLOTS OF A NODE, one array at a time.
abbrev pub visits_fit : Workflow → ℕ → Visits → Bool
visits_fit f n x = when ltb n f.node_count then true else eqb x.count 0

abbrev pub its_result_fits : Workflow → ℕ → NodeResult → Bool
its_result_fits f n x = when ltb n f.node_count then result_fits x else result_zero x

abbrev pub its_streak_fits : Workflow → ℕ → Streak → Bool
its_streak_fits f n x = when ltb n f.node_count then streak_fits f n x else streak_zero x

-- The arrays of a record have 64 slots each, as the type of its code says.
pub record Sized (s : State) : Type 0 where
  pub signals : length s.signals ≡ 64
  pub visits : length s.visits ≡ 64
  pub results : length s.results ≡ 64
  pub streaks : length s.streaks ≡ 64

-- TIDY: the run check, but for where the run stands.
pub record Tidy (f : Workflow) (signals : List BufferedSignal) (count : ℕ) (visits : List Visits) (results : List NodeResult) (streaks : List Streak) (sequence accepted : ℕ) : Type 0 where
  pub in_sequence : sequence ≤ largest
  pub in_time : accepted ≤ largest
  pub store : Stores signals count
  pub visit_slots : Slots node_room (visits_fit f) no_visits visits
  pub result_slots : Slots node_room (its_result_fits f) no_node_result results
  pub streak_slots : Slots node_room (its_streak_fits f) no_streak streaks

module _ (f : Workflow) where
  abbrev pub Tidies : State → Type 0
  Tidies s = Tidy f s.signals s.signal_count s.visits s.results s.streaks s.last_sequence s.last_accepted_at
