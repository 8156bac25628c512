-- Standard waits: one list of 256 waits before an attempt is made again, in milliseconds.
use Rattle.std.specs.Prelude.{List, ℕ, zero, suc, ◌*◌, ◌-◌, ◌/◌, min, max}
use Rattle.laws.specs.Rows.{span}

-- THE LIST. It begins with 640, and each next wait is the last times 33, divided by 32, rounded down.
abbrev pub first_wait : ℕ
first_wait = 640

unfoldable pub step : ℕ → ℕ
step x = x * 33 / 32

unfoldable pub wait : (entry : ℕ) → ℕ
wait zero = first_wait
wait (suc n) = step (wait n)

abbrev pub entries : ℕ
entries = 256

unfoldable pub waits : List ℕ
waits = span wait 0 entries

-- AFTER AN ATTEMPT: the entry attempt - 1, with attempt 0 as 1, or the last entry if that is less.
abbrev pub last_entry : ℕ
last_entry = 255

unfoldable pub entry : (attempt : ℕ) → ℕ
entry attempt = min (max attempt 1 - 1) last_entry
