-- The run record: its empty slots, its readers, and what each setter changes.
-- Where the original has another name: `fresh` is its `initial`; `results` are its `State.nodes`; `phase` is its `InvocationState.state` and an invocation's `input`
-- its `input_digest`; a stored signal's `signal` is its `signal.name`; `last_accepted_at` is its `last_accepted_at_ms`: all times and delays are milliseconds.
use Rattle.std.specs.Prelude.{Bool, List, ℕ, None, max, get_or, set, replicate, eqb}
use Rattle.laws.specs.Bool.{◌or◌}
use Rattle.workflow.specs.Code.{none}
use Rattle.workflow.specs.Layout.{node_room}
use Rattle.model.specs.Code.{store, running, run_completed, run_failed}
use Rattle.model.specs.declared.Output.{Output}
use Rattle.model.specs.declared.BufferedSignal.{BufferedSignal}
use Rattle.model.specs.declared.Visits.{Visits}
use Rattle.model.specs.declared.Streak.{Streak}
use Rattle.model.specs.declared.NodeResult.{NodeResult}
use Rattle.model.specs.declared.Position.{Position}
use Rattle.model.specs.declared.InvocationState.{InvocationState}
use Rattle.model.specs.declared.RunResult.{RunResult}
use Rattle.model.specs.declared.State.{State}

-- Empty slots, and what stands for none.
abbrev pub no_signal : BufferedSignal
no_signal = record { sequence = 0; event_id = 0; signal = 0; outcome = 0; «data» = 0 }

abbrev pub no_visits : Visits
no_visits = record { count = 0 }

abbrev pub no_streak : Streak
no_streak = record { outcome = 0; count = 0 }

abbrev pub no_node_result : NodeResult
no_node_result = record { visit = 0; outcome = 0; output = Output.Nothing }

abbrev pub no_position : Position
no_position = record { node = none; visit = 0 }

abbrev pub no_invocation : InvocationState
no_invocation =
    record {
      phase = 0;
      node = none;
      visit = 0;
      action = 0;
      attempt = 0;
      input = 0;
      error = None;
    }

abbrev pub no_result : RunResult
no_result = record { output = Output.Nothing }

-- The record that a start makes, before its start node is entered.
abbrev pub fresh : (input : ℕ) → State
fresh input =
    record {
      signals = replicate store no_signal;
      visits = replicate node_room no_visits;
      streaks = replicate node_room no_streak;
      results = replicate node_room no_node_result;
      last_sequence = 0;
      last_accepted_at = 0;
      signal_count = 0;
      status = running;
      input = input;
      activations = 0;
      position = no_position;
      invocation = no_invocation;
      result = no_result;
    }

-- Readers.
abbrev pub visits_of : State → (node : ℕ) → Visits
visits_of state node = get_or state.visits node no_visits

abbrev pub streak_of : State → (node : ℕ) → Streak
streak_of state node = get_or state.streaks node no_streak

-- A run has ended when it is completed or failed.
unfoldable pub is_terminal : (status : ℕ) → Bool
is_terminal status = eqb status run_completed or eqb status run_failed

-- Setters. Each changes what its arguments name; all else stays.
abbrev pub set_signals : State → List BufferedSignal → (count : ℕ) → State
set_signals state signals count =
    record {
      signals = signals;
      visits = state.visits;
      streaks = state.streaks;
      results = state.results;
      last_sequence = state.last_sequence;
      last_accepted_at = state.last_accepted_at;
      signal_count = count;
      status = state.status;
      input = state.input;
      activations = state.activations;
      position = state.position;
      invocation = state.invocation;
      result = state.result;
    }

abbrev pub set_visits : State → List Visits → (activations : ℕ) → State
set_visits state visits activations =
    record {
      signals = state.signals;
      visits = visits;
      streaks = state.streaks;
      results = state.results;
      last_sequence = state.last_sequence;
      last_accepted_at = state.last_accepted_at;
      signal_count = state.signal_count;
      status = state.status;
      input = state.input;
      activations = activations;
      position = state.position;
      invocation = state.invocation;
      result = state.result;
    }

abbrev pub set_streaks : State → List Streak → State
set_streaks state streaks =
    record {
      signals = state.signals;
      visits = state.visits;
      streaks = streaks;
      results = state.results;
      last_sequence = state.last_sequence;
      last_accepted_at = state.last_accepted_at;
      signal_count = state.signal_count;
      status = state.status;
      input = state.input;
      activations = state.activations;
      position = state.position;
      invocation = state.invocation;
      result = state.result;
    }

abbrev pub set_results : State → List NodeResult → State
set_results state results =
    record {
      signals = state.signals;
      visits = state.visits;
      streaks = state.streaks;
      results = results;
      last_sequence = state.last_sequence;
      last_accepted_at = state.last_accepted_at;
      signal_count = state.signal_count;
      status = state.status;
      input = state.input;
      activations = state.activations;
      position = state.position;
      invocation = state.invocation;
      result = state.result;
    }

abbrev pub with_visits : State → (node count activations : ℕ) → State
with_visits state node count activations = set_visits state (set state.visits node (record { count = count })) activations

abbrev pub with_streak : State → (node : ℕ) → Streak → State
with_streak state node streak = set_streaks state (set state.streaks node streak)

abbrev pub with_result : State → (node : ℕ) → NodeResult → State
with_result state node result = set_results state (set state.results node result)

-- The event is taken note of: its sequence, and the larger of the two times.
abbrev pub seen : State → (sequence accepted_at : ℕ) → State
seen state sequence accepted_at =
    record {
      signals = state.signals;
      visits = state.visits;
      streaks = state.streaks;
      results = state.results;
      last_sequence = sequence;
      last_accepted_at = max state.last_accepted_at accepted_at;
      signal_count = state.signal_count;
      status = state.status;
      input = state.input;
      activations = state.activations;
      position = state.position;
      invocation = state.invocation;
      result = state.result;
    }

-- Where the run stands, and with which invocation.
abbrev pub placed : State → (status : ℕ) → Position → InvocationState → State
placed state status position invocation =
    record {
      signals = state.signals;
      visits = state.visits;
      streaks = state.streaks;
      results = state.results;
      last_sequence = state.last_sequence;
      last_accepted_at = state.last_accepted_at;
      signal_count = state.signal_count;
      status = status;
      input = state.input;
      activations = state.activations;
      position = position;
      invocation = invocation;
      result = state.result;
    }

-- The run ends.
abbrev pub finished : State → (status : ℕ) → RunResult → State
finished state status result =
    record {
      signals = state.signals;
      visits = state.visits;
      streaks = state.streaks;
      results = state.results;
      last_sequence = state.last_sequence;
      last_accepted_at = state.last_accepted_at;
      signal_count = state.signal_count;
      status = status;
      input = state.input;
      activations = state.activations;
      position = no_position;
      invocation = no_invocation;
      result = result;
    }
