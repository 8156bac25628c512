-- Where each number of a run record, a call and an answer stands (docs/NUMBERS.md): the names of src/layout.rt.
use Rattle.std.specs.Prelude.{ℕ, ◌+◌, ◌*◌}

-- The layout's version.
abbrev pub layout_version : ℕ
layout_version = 1

-- What a function returns: what it answers is written; or why nothing is.
abbrev pub written : ℕ
written = 0

abbrev pub short_buffer : ℕ
short_buffer = 1

abbrev pub bad_call : ℕ
bad_call = 2

abbrev pub bad_record : ℕ
bad_record = 3

abbrev pub bad_sheet_length : ℕ
bad_sheet_length = 4

abbrev pub bad_call_length : ℕ
bad_call_length = 5

abbrev pub bad_record_length : ℕ
bad_record_length = 6

-- Capacities.
abbrev pub store : ℕ
store = 64

abbrev pub nodes : ℕ
nodes = 64

abbrev pub mappings : ℕ
mappings = 2

abbrev pub notes : ℕ
notes = 65

abbrev pub endings : ℕ
endings = 65

-- How many numbers a row has.
abbrev pub error_width : ℕ
error_width = 4

abbrev pub output_width : ℕ
output_width = 4

abbrev pub signal_width : ℕ
signal_width = 5

abbrev pub streak_width : ℕ
streak_width = 2

abbrev pub result_width : ℕ
result_width = 2 + output_width

abbrev pub mapping_width : ℕ
mapping_width = 5

abbrev pub note_width : ℕ
note_width = 5

abbrev pub ending_width : ℕ
ending_width = 2

-- Run record.
abbrev pub record_status : ℕ
record_status = 0

abbrev pub record_input : ℕ
record_input = 1

abbrev pub record_activations : ℕ
record_activations = 2

abbrev pub record_last_sequence : ℕ
record_last_sequence = 3

abbrev pub record_last_accepted_at : ℕ
record_last_accepted_at = 4

abbrev pub record_position_node : ℕ
record_position_node = 5

abbrev pub record_position_visit : ℕ
record_position_visit = 6

abbrev pub record_phase : ℕ
record_phase = 7

abbrev pub record_invocation_node : ℕ
record_invocation_node = 8

abbrev pub record_invocation_visit : ℕ
record_invocation_visit = 9

abbrev pub record_invocation_action : ℕ
record_invocation_action = 10

abbrev pub record_invocation_attempt : ℕ
record_invocation_attempt = 11

abbrev pub record_invocation_input : ℕ
record_invocation_input = 12

-- The kept error: its mark, code, node, detail.
abbrev pub record_error : ℕ
record_error = 13

abbrev pub record_result : ℕ
record_result = record_error + error_width

abbrev pub record_stored : ℕ
record_stored = record_result + output_width

abbrev pub record_signals : ℕ
record_signals = record_stored + 1

abbrev pub record_visits : ℕ
record_visits = record_signals + signal_width * store

abbrev pub record_streaks : ℕ
record_streaks = record_visits + nodes

abbrev pub record_results : ℕ
record_results = record_streaks + streak_width * nodes

abbrev pub record_length : ℕ
record_length = record_results + result_width * nodes

-- Call.
abbrev pub call_ceiling_nodes : ℕ
call_ceiling_nodes = 0

abbrev pub call_ceiling_visits : ℕ
call_ceiling_visits = 1

abbrev pub call_ceiling_activations : ℕ
call_ceiling_activations = 2

abbrev pub call_ceiling_attempts : ℕ
call_ceiling_attempts = 3

abbrev pub call_limit_microsteps : ℕ
call_limit_microsteps = 4

abbrev pub call_limit_commands : ℕ
call_limit_commands = 5

abbrev pub call_limit_operations : ℕ
call_limit_operations = 6

abbrev pub call_has_record : ℕ
call_has_record = 7

abbrev pub call_sequence : ℕ
call_sequence = 8

abbrev pub call_accepted_at : ℕ
call_accepted_at = 9

abbrev pub call_event_id : ℕ
call_event_id = 10

abbrev pub call_kind : ℕ
call_kind = 11

abbrev pub call_input : ℕ
call_input = 12

abbrev pub call_signal : ℕ
call_signal = 13

abbrev pub call_outcome : ℕ
call_outcome = 14

abbrev pub call_data : ℕ
call_data = 15

abbrev pub call_node : ℕ
call_node = 16

abbrev pub call_visit : ℕ
call_visit = 17

abbrev pub call_attempt : ℕ
call_attempt = 18

abbrev pub call_status : ℕ
call_status = 19

abbrev pub call_output : ℕ
call_output = 20

abbrev pub call_has_error : ℕ
call_has_error = 21

abbrev pub call_error_code : ℕ
call_error_code = 22

abbrev pub call_error_detail : ℕ
call_error_detail = 23

abbrev pub call_retryable : ℕ
call_retryable = 24

abbrev pub call_delay : ℕ
call_delay = 25

abbrev pub call_resolution : ℕ
call_resolution = 26

abbrev pub call_answered : ℕ
call_answered = 27

-- How many numbers an event has: those of a call from its sequence on.
abbrev pub event_length : ℕ
event_length = 19

abbrev pub call_mappings : ℕ
call_mappings = 28

abbrev pub call_length : ℕ
call_length = call_mappings + mapping_width * mappings

-- Answer: what it says, its notes and endings, and the record.
abbrev pub answer_kind : ℕ
answer_kind = 0

abbrev pub answer_microsteps : ℕ
answer_microsteps = 1

abbrev pub answer_order : ℕ
answer_order = 2

abbrev pub answer_order_node : ℕ
answer_order_node = 3

abbrev pub answer_order_visit : ℕ
answer_order_visit = 4

abbrev pub answer_order_action : ℕ
answer_order_action = 5

abbrev pub answer_order_attempt : ℕ
answer_order_attempt = 6

abbrev pub answer_order_not_before : ℕ
answer_order_not_before = 7

abbrev pub answer_order_input : ℕ
answer_order_input = 8

abbrev pub answer_order_has_params : ℕ
answer_order_has_params = 9

abbrev pub answer_order_params : ℕ
answer_order_params = 10

abbrev pub answer_noted : ℕ
answer_noted = 11

abbrev pub answer_ended : ℕ
answer_ended = 12

abbrev pub answer_notes : ℕ
answer_notes = 13

abbrev pub answer_endings : ℕ
answer_endings = answer_notes + note_width * notes

abbrev pub answer_record : ℕ
answer_record = answer_endings + ending_width * endings

abbrev pub answer_length : ℕ
answer_length = answer_record + record_length

-- A want.
abbrev pub answer_want_node : ℕ
answer_want_node = 1

abbrev pub answer_want_field : ℕ
answer_want_field = 2

abbrev pub answer_want_from : ℕ
answer_want_from = 3

abbrev pub want_width : ℕ
want_width = 4

-- A refusal.
abbrev pub answer_refusal_number : ℕ
answer_refusal_number = 1

abbrev pub answer_refusal_item : ℕ
answer_refusal_item = 2

-- Verdict.
abbrev pub verdict_number : ℕ
verdict_number = 0

abbrev pub verdict_item : ℕ
verdict_item = 1

abbrev pub verdict_length : ℕ
verdict_length = 2

-- Where a row begins.
abbrev pub signal_place : ℕ → ℕ
signal_place slot = record_signals + signal_width * slot

abbrev pub visits_place : ℕ → ℕ
visits_place node = record_visits + node

abbrev pub streak_place : ℕ → ℕ
streak_place node = record_streaks + streak_width * node

abbrev pub result_place : ℕ → ℕ
result_place node = record_results + result_width * node

abbrev pub mapping_place : ℕ → ℕ
mapping_place index = call_mappings + mapping_width * index

abbrev pub note_place : ℕ → ℕ
note_place index = answer_notes + note_width * index

abbrev pub ending_place : ℕ → ℕ
ending_place index = answer_endings + ending_width * index
