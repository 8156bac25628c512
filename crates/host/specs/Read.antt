-- How the lent numbers of a run record and of a call are read (docs/NUMBERS.md), and which numbers their fields can hold.
use Rattle.std.specs.Prelude.{Bool, ◌&&◌, List, [], ◌∷◌, ◌++◌, ℕ, ◌+◌, ◌-◌, ◌%◌, ◌^◌, get_or, replicate, ltb, eqb, Option, Some, None}
use Rattle.laws.specs.Bool.{when◌then◌else◌}
use Rattle.laws.specs.Rows.{span}
use Rattle.laws.specs.Every.{every, below}
use Rattle.graph.specs.declared.Ceilings.{Ceilings}
use Rattle.model.specs.declared.ErrorInfo.{ErrorInfo}
use Rattle.model.specs.declared.Output.{Output}
use Rattle.model.specs.declared.BufferedSignal.{BufferedSignal}
use Rattle.model.specs.declared.Visits.{Visits}
use Rattle.model.specs.declared.Streak.{Streak}
use Rattle.model.specs.declared.NodeResult.{NodeResult}
use Rattle.model.specs.declared.Position.{Position}
use Rattle.model.specs.declared.InvocationState.{InvocationState}
use Rattle.model.specs.declared.RunResult.{RunResult}
use Rattle.model.specs.declared.State.{State}
use Rattle.model.specs.declared.event.Event.{Event}
use Rattle.model.specs.declared.event.Mapping.{Mapping}
use Rattle.kernel.specs.declared.Limits.{Limits}
use Rattle.kernel.specs.declared.Call.{Call}
use Rattle.host.specs.Layout as layout
use Rattle.host.specs.Layout.{signal_place, visits_place, streak_place, result_place, mapping_place}

-- The number at a place, and its lowest 32 bits.
abbrev pub at : List ℕ → (place : ℕ) → ℕ
at numbers place = get_or numbers place 0

unfoldable pub narrow : ℕ → ℕ
narrow value = value % 2 ^ 32

-- AN OUTPUT AND A KEPT ERROR: a tag and three numbers.
unfoldable pub error_of : (code node detail : ℕ) → ErrorInfo
error_of code node detail = record { code = narrow code; node = narrow node; detail = narrow detail }

unfoldable pub output_of : (tag first second third : ℕ) → Output
output_of tag first second third =
    when eqb tag 0 then Output.Nothing else
    when eqb tag 1 then Output.Handle (narrow first) else Output.Error (error_of first second third)

unfoldable pub kept_of : (tag first second third : ℕ) → Option ErrorInfo
kept_of tag first second third = when eqb tag 0 then None else Some (error_of first second third)

-- ROWS OF A RECORD.
unfoldable pub signal_of : List ℕ → ℕ → BufferedSignal
signal_of numbers slot =
    record {
      sequence = at numbers (signal_place slot);
      event_id = narrow (at numbers (signal_place slot + 1));
      signal = narrow (at numbers (signal_place slot + 2));
      outcome = narrow (at numbers (signal_place slot + 3));
      «data» = narrow (at numbers (signal_place slot + 4));
    }

unfoldable pub visits_of : List ℕ → ℕ → Visits
visits_of numbers node = record { count = narrow (at numbers (visits_place node)) }

unfoldable pub streak_of : List ℕ → ℕ → Streak
streak_of numbers node = record { outcome = narrow (at numbers (streak_place node)); count = narrow (at numbers (streak_place node + 1)) }

unfoldable pub result_of : List ℕ → ℕ → NodeResult
result_of numbers node =
    record {
      visit = narrow (at numbers (result_place node));
      outcome = narrow (at numbers (result_place node + 1));
      output = output_of (at numbers (result_place node + 2)) (at numbers (result_place node + 3)) (at numbers (result_place node + 4)) (at numbers (result_place node + 5));
    }

-- THE RUN RECORD.
unfoldable pub position_of : List ℕ → Position
position_of numbers = record { node = narrow (at numbers layout.record_position_node); visit = narrow (at numbers layout.record_position_visit) }

unfoldable pub invocation_of : List ℕ → InvocationState
invocation_of numbers =
    record {
      phase = narrow (at numbers layout.record_phase);
      node = narrow (at numbers layout.record_invocation_node);
      visit = narrow (at numbers layout.record_invocation_visit);
      action = narrow (at numbers layout.record_invocation_action);
      attempt = narrow (at numbers layout.record_invocation_attempt);
      input = narrow (at numbers layout.record_invocation_input);
      error = kept_of (at numbers layout.record_error) (at numbers (layout.record_error + 1)) (at numbers (layout.record_error + 2)) (at numbers (layout.record_error + 3));
    }

unfoldable pub run_result_of : List ℕ → RunResult
run_result_of numbers =
    record {
      output = output_of (at numbers layout.record_result) (at numbers (layout.record_result + 1)) (at numbers (layout.record_result + 2)) (at numbers (layout.record_result + 3));
    }

unfoldable pub record_of : List ℕ → State
record_of numbers =
    record {
      signals = span (signal_of numbers) 0 layout.store;
      visits = span (visits_of numbers) 0 layout.nodes;
      streaks = span (streak_of numbers) 0 layout.nodes;
      results = span (result_of numbers) 0 layout.nodes;
      last_sequence = at numbers layout.record_last_sequence;
      last_accepted_at = at numbers layout.record_last_accepted_at;
      signal_count = narrow (at numbers layout.record_stored);
      status = narrow (at numbers layout.record_status);
      input = narrow (at numbers layout.record_input);
      activations = narrow (at numbers layout.record_activations);
      position = position_of numbers;
      invocation = invocation_of numbers;
      result = run_result_of numbers;
    }

-- THE CALL.
unfoldable pub event_of : List ℕ → Event
event_of numbers =
    record {
      sequence = at numbers layout.call_sequence;
      accepted_at = at numbers layout.call_accepted_at;
      delay = at numbers layout.call_delay;
      event_id = narrow (at numbers layout.call_event_id);
      kind = narrow (at numbers layout.call_kind);
      input = narrow (at numbers layout.call_input);
      signal = narrow (at numbers layout.call_signal);
      outcome = narrow (at numbers layout.call_outcome);
      «data» = narrow (at numbers layout.call_data);
      node = narrow (at numbers layout.call_node);
      visit = narrow (at numbers layout.call_visit);
      attempt = narrow (at numbers layout.call_attempt);
      status = narrow (at numbers layout.call_status);
      output = narrow (at numbers layout.call_output);
      code = narrow (at numbers layout.call_error_code);
      detail = narrow (at numbers layout.call_error_detail);
      resolution = narrow (at numbers layout.call_resolution);
      has_error = eqb (at numbers layout.call_has_error) 1;
      retryable = eqb (at numbers layout.call_retryable) 1;
    }

unfoldable pub mapping_of : List ℕ → ℕ → Mapping
mapping_of numbers index =
    record {
      kind = narrow (at numbers (mapping_place index));
      value = narrow (at numbers (mapping_place index + 1));
      code = narrow (at numbers (mapping_place index + 2));
      detail = narrow (at numbers (mapping_place index + 3));
      operations = narrow (at numbers (mapping_place index + 4));
    }

unfoldable pub ceilings_of : List ℕ → Ceilings
ceilings_of numbers =
    record {
      nodes = narrow (at numbers layout.call_ceiling_nodes);
      visits = narrow (at numbers layout.call_ceiling_visits);
      activations = narrow (at numbers layout.call_ceiling_activations);
      attempts = narrow (at numbers layout.call_ceiling_attempts);
    }

unfoldable pub limits_of : List ℕ → Limits
limits_of numbers =
    record {
      microsteps = narrow (at numbers layout.call_limit_microsteps);
      commands = narrow (at numbers layout.call_limit_commands);
      operations = narrow (at numbers layout.call_limit_operations);
    }

unfoldable pub call_of : List ℕ → Call
call_of numbers =
    record {
      ceilings = ceilings_of numbers;
      limits = limits_of numbers;
      event = event_of numbers;
      mappings = record { answers = mapping_of numbers 0 ∷ mapping_of numbers 1 ∷ []; count = narrow (at numbers layout.call_answered) };
    }

-- A run record goes with the call.
abbrev pub has_record : List ℕ → Bool
has_record numbers = eqb (at numbers layout.call_has_record) 1

-- WHAT FIELDS CAN HOLD. A field's place, and what its number must be below.
pub record Field : Type 0 where
  pub place : ℕ
  pub bound : ℕ

-- Any number of 32 bits; the name of a node, an action, a signal or an outcome; the code of an error; a mark, 0 or 1.
abbrev pub number : ℕ → Field
number place = record { place = place; bound = 2 ^ 32 }

abbrev pub name : ℕ → Field
name place = record { place = place; bound = 256 }

abbrev pub code : ℕ → Field
code place = record { place = place; bound = 65536 }

abbrev pub mark : ℕ → Field
mark place = record { place = place; bound = 2 }

abbrev pub field_fits : List ℕ → Field → Bool
field_fits numbers field = ltb (at numbers field.place) field.bound

unfoldable pub all_fit : List ℕ → List Field → Bool
all_fit numbers fields = every (field_fits numbers) fields

-- An output is nothing, a handle or an error; a kept error is none or one. What the tag gives no meaning is 0.
abbrev pub error_fits : (code node detail : ℕ) → Bool
error_fits code node detail = ltb code 65536 && ltb node 256 && ltb detail (2 ^ 32)

unfoldable pub output_fits : (tag first second third : ℕ) → Bool
output_fits tag first second third =
    when eqb tag 0 then eqb first 0 && eqb second 0 && eqb third 0 else
    when eqb tag 1 then ltb first (2 ^ 32) && eqb second 0 && eqb third 0 else
    (eqb tag 2 && error_fits first second third)

unfoldable pub kept_fits : (tag first second third : ℕ) → Bool
kept_fits tag first second third =
    when eqb tag 0 then eqb first 0 && eqb second 0 && eqb third 0 else
    (eqb tag 1 && error_fits first second third)

-- THE RECORD. Its last sequence and last accepted time, and the sequence of a stored signal, are any numbers.
abbrev pub head_fields : List Field
head_fields =
    number layout.record_status
    ∷ number layout.record_input
    ∷ number layout.record_activations
    ∷ name layout.record_position_node
    ∷ number layout.record_position_visit
    ∷ number layout.record_phase
    ∷ name layout.record_invocation_node
    ∷ number layout.record_invocation_visit
    ∷ name layout.record_invocation_action
    ∷ number layout.record_invocation_attempt
    ∷ number layout.record_invocation_input
    ∷ number layout.record_stored
    ∷ []

abbrev pub signal_fields : ℕ → List Field
signal_fields slot = number (signal_place slot + 1) ∷ name (signal_place slot + 2) ∷ name (signal_place slot + 3) ∷ number (signal_place slot + 4) ∷ []

-- visits; the streak's outcome and count; the result's visit and outcome
abbrev pub node_fields : ℕ → List Field
node_fields node = number (visits_place node) ∷ name (streak_place node) ∷ number (streak_place node + 1) ∷ number (result_place node) ∷ name (result_place node + 1) ∷ []

unfoldable pub head_fits : List ℕ → Bool
head_fits numbers =
    all_fit numbers head_fields
    && kept_fits (at numbers layout.record_error) (at numbers (layout.record_error + 1)) (at numbers (layout.record_error + 2)) (at numbers (layout.record_error + 3))
    && output_fits (at numbers layout.record_result) (at numbers (layout.record_result + 1)) (at numbers (layout.record_result + 2)) (at numbers (layout.record_result + 3))

unfoldable pub signal_fits : List ℕ → ℕ → Bool
signal_fits numbers slot = all_fit numbers (signal_fields slot)

unfoldable pub node_fits : List ℕ → ℕ → Bool
node_fits numbers node =
    all_fit numbers (node_fields node)
    && output_fits (at numbers (result_place node + 2)) (at numbers (result_place node + 3)) (at numbers (result_place node + 4)) (at numbers (result_place node + 5))

unfoldable pub record_fits : List ℕ → Bool
record_fits numbers = head_fits numbers && below layout.store (signal_fits numbers) && below layout.nodes (node_fits numbers)

-- THE CALL. Its sequence, accepted time and delay are any numbers.
abbrev pub limit_fields : List Field
limit_fields =
    number layout.call_ceiling_nodes
    ∷ number layout.call_ceiling_visits
    ∷ number layout.call_ceiling_activations
    ∷ number layout.call_ceiling_attempts
    ∷ number layout.call_limit_microsteps
    ∷ number layout.call_limit_commands
    ∷ number layout.call_limit_operations
    ∷ mark layout.call_has_record
    ∷ []

abbrev pub event_fields : List Field
event_fields =
    number layout.call_event_id
    ∷ number layout.call_kind
    ∷ number layout.call_input
    ∷ name layout.call_signal
    ∷ name layout.call_outcome
    ∷ number layout.call_data
    ∷ name layout.call_node
    ∷ number layout.call_visit
    ∷ number layout.call_attempt
    ∷ number layout.call_status
    ∷ number layout.call_output
    ∷ mark layout.call_has_error
    ∷ code layout.call_error_code
    ∷ number layout.call_error_detail
    ∷ mark layout.call_retryable
    ∷ number layout.call_resolution
    ∷ number layout.call_answered
    ∷ []

abbrev pub mapping_fields : ℕ → List Field
mapping_fields index = number (mapping_place index) ∷ number (mapping_place index + 1) ∷ code (mapping_place index + 2) ∷ number (mapping_place index + 3) ∷ number (mapping_place index + 4) ∷ []

unfoldable pub call_fits : List ℕ → Bool
call_fits numbers = all_fit numbers limit_fields && all_fit numbers event_fields && all_fit numbers (mapping_fields 0) && all_fit numbers (mapping_fields 1)

-- The call that has this event and else zeros; an event fits as its fields do in a call.
unfoldable pub event_call : List ℕ → List ℕ
event_call ns = replicate layout.call_sequence 0 ++ ns ++ replicate (layout.call_length - layout.call_answered) 0

abbrev pub event_fits : List ℕ → Bool
event_fits ns = call_fits (event_call ns)
