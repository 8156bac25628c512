-- The numbers of a run record and an event in document 01, in one place; those of an answer stand in Answers.
use Rattle.std.specs.Prelude.{ℕ, ◌-◌, ◌^◌}
use Rattle.model.specs.declared.ErrorCode.{ErrorCode}

-- The largest counter or time (in milliseconds).
abbrev pub largest : ℕ
largest = 2 ^ 63 - 1

-- The largest attempt number.
abbrev pub largest_attempt : ℕ
largest_attempt = 2 ^ 32 - 1

-- How many signals are stored at most.
abbrev pub store : ℕ
store = 64

-- A run's status.
abbrev pub running : ℕ
running = 1

abbrev pub waiting : ℕ
waiting = 2

abbrev pub needs_intervention : ℕ
needs_intervention = 3

abbrev pub run_completed : ℕ
run_completed = 4

abbrev pub run_failed : ℕ
run_failed = 5

-- An invocation's phase (the original's `InvocationState.state`); 0 where there is none.
abbrev pub scheduled : ℕ
scheduled = 1

abbrev pub unknown : ℕ
unknown = 2

abbrev pub stuck : ℕ
stuck = 3

-- Kinds of event.
abbrev pub run_started : ℕ
run_started = 1

abbrev pub signal_received : ℕ
signal_received = 2

abbrev pub activity_result : ℕ
activity_result = 3

abbrev pub invocation_resolved : ℕ
invocation_resolved = 4

abbrev pub noted : ℕ
noted = 5

-- The status of a result.
abbrev pub success : ℕ
success = 1

abbrev pub failure : ℕ
failure = 2

-- The resolution of an operator.
abbrev pub resolve_complete : ℕ
resolve_complete = 1

abbrev pub resolve_retry : ℕ
resolve_retry = 2

-- Kinds of mapping answer.
abbrev pub value : ℕ
value = 1

abbrev pub fault : ℕ
fault = 2

-- The kernel's own error codes.
abbrev pub error_code : ErrorCode → ℕ
error_code ErrorCode.VisitsExceeded = 1
error_code ErrorCode.ActivationsExceeded = 2
error_code ErrorCode.UndeclaredOutcome = 3
error_code ErrorCode.AttemptsExhausted = 4
error_code ErrorCode.ActivityFailed = 5
