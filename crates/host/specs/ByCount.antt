-- A record read by count: the rows past a count are zeros, and are read as empty ones.
use Rattle.std.specs.Prelude.{◌≡◌, Bool, true, List, ℕ, ◌≤◌, ◌<◌, eqb}
use Rattle.laws.specs.Rows.{span}
use Rattle.laws.specs.Every.{every}
use Rattle.laws.specs.Listing.{padded}
use Rattle.model.specs.declared.BufferedSignal.{BufferedSignal}
use Rattle.model.specs.declared.Visits.{Visits}
use Rattle.model.specs.declared.Streak.{Streak}
use Rattle.model.specs.declared.NodeResult.{NodeResult}
use Rattle.model.specs.declared.State.{State}
use Rattle.model.specs.Record.{no_signal, no_visits, no_streak, no_node_result}
use Rattle.host.specs.declared.read.Used.{Used}
use Rattle.host.specs.Layout.{store, nodes, signal_place, visits_place, streak_place, result_place, record_visits, record_streaks, record_results, record_length}
use Rattle.host.specs.Read.{at, signal_of, visits_of, streak_of, result_of, record_of}

-- All numbers are zero, as a test; and those from a place to an end, as a fact.
abbrev pub blank : List ℕ → Bool
blank numbers = every (λ number. eqb number 0) numbers

abbrev pub Zeros : List ℕ → (start end : ℕ) → Type 0
Zeros numbers start end = (place : ℕ) → start ≤ place → place < end → at numbers place ≡ 0

-- ROWS PAST A COUNT.
pub record SignalsPast (numbers : List ℕ) (rows : ℕ) : Type 0 where
  pub low : rows ≤ store
  pub zeros : Zeros numbers (signal_place rows) record_visits

pub record NodesPast (numbers : List ℕ) (rows : ℕ) : Type 0 where
  pub low : rows ≤ nodes
  pub visits : Zeros numbers (visits_place rows) record_streaks
  pub streaks : Zeros numbers (streak_place rows) record_results
  pub results : Zeros numbers (result_place rows) record_length

pub record Past (numbers : List ℕ) (used : Used) : Type 0 where
  pub signals : SignalsPast numbers used.signals
  pub nodes : NodesPast numbers used.nodes

-- What is read of a record that goes with a call, or with none.
pub record UsedRows (has : Bool) (numbers : List ℕ) (used : Used) : Type 0 where
  pub signals : used.signals ≤ store
  pub nodes : used.nodes ≤ nodes
  pub past : has ≡ true → Past numbers used

-- THE RECORD WITH THE FIRST ROWS, and empty ones behind them.
abbrev with_rows : State → List BufferedSignal → List Visits → List Streak → List NodeResult → State
with_rows state signals visits streaks results =
    record {
      signals = signals;
      visits = visits;
      streaks = streaks;
      results = results;
      last_sequence = state.last_sequence;
      last_accepted_at = state.last_accepted_at;
      signal_count = state.signal_count;
      status = state.status;
      input = state.input;
      activations = state.activations;
      position = state.position;
      invocation = state.invocation;
      result = state.result;
    }

unfoldable pub record_rows : (signals nodes : ℕ) → List ℕ → State
record_rows signal_rows node_rows numbers =
    with_rows (record_of numbers) (padded store no_signal (span (signal_of numbers) 0 signal_rows)) (padded nodes no_visits (span (visits_of numbers) 0 node_rows))
    (padded nodes no_streak (span (streak_of numbers) 0 node_rows)) (padded nodes no_node_result (span (result_of numbers) 0 node_rows))
