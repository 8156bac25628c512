-- The stored signals: the first `signal_count` of the array, oldest first. Only this file and its laws (StoreLaws) know where they sit.
use Rattle.std.specs.Prelude.{List, map, Bool, ℕ, ◌+◌, ◌-◌, min, get_or, set, take, drop, replicate, ltb, leb, eqb, Option, Some, None}
use Rattle.laws.specs.Bool.{when◌then◌else◌, ◌and◌}
use Rattle.laws.specs.First.{first}
use Rattle.laws.specs.Every.{every}
use Rattle.laws.specs.Shift.{without}
use Rattle.model.specs.Code.{store, largest}
use Rattle.model.specs.Record.{no_signal, is_terminal, set_signals}
use Rattle.model.specs.declared.BufferedSignal.{BufferedSignal}
use Rattle.model.specs.declared.State.{State}
use Rattle.model.specs.declared.answer.Ended.{Ended}
use Rattle.model.specs.declared.answer.Ending.{Ending}

-- The store as a list.
unfoldable pub listed : (signals : List BufferedSignal) → (count : ℕ) → List BufferedSignal
listed signals count = take count signals

abbrev pub stored : State → List BufferedSignal
stored state = listed state.signals state.signal_count

-- The place of the oldest stored signal of a name, and the signal at a place.
unfoldable pub first_signal : State → (signal : ℕ) → Option ℕ
first_signal state name = first (λ signal. eqb signal.signal name) (λ place _. Some place) None 0 (stored state)

unfoldable pub signal_at : State → (place : ℕ) → BufferedSignal
signal_at state place = get_or (stored state) place no_signal

-- The signal stored at a place goes, and the later ones move down.
unfoldable pub removed : State → (place : ℕ) → State
removed state place =
    when ltb place (min store state.signal_count)
    then set_signals state (without no_signal state.signals place) (state.signal_count - 1)
    else state

-- The signal is stored behind the others; a full store stays as it is.
unfoldable pub appended : State → BufferedSignal → State
appended state signal =
    when ltb state.signal_count store
    then set_signals state (set state.signals state.signal_count signal) (state.signal_count + 1)
    else state

-- LEFT OVER (document 02, T-02). A run that has ended while signals are still stored leaves them over: each ends, oldest first, and none is stored any more.
unfoldable pub leaves_over : (status stored : ℕ) → Bool
leaves_over status stored = is_terminal status and ltb 0 stored

unfoldable pub left_over : List BufferedSignal → List Ending
left_over signals = map (λ signal. record { sequence = signal.sequence; ending = Ended.LeftOver }) signals

unfoldable pub emptied : State → State
emptied state = set_signals state (replicate store no_signal) 0

-- The store's part of the run check: at most 64 signals, sequence numbers in range, and unused slots all zero.
abbrev pub in_sequence : BufferedSignal → Bool
in_sequence signal = leb signal.sequence largest

abbrev pub signal_zero : BufferedSignal → Bool
signal_zero signal =
    eqb signal.sequence 0 and eqb signal.event_id 0 and eqb signal.signal 0 and eqb signal.outcome 0 and eqb signal.«data» 0

unfoldable pub signals_fit : (signals : List BufferedSignal) → (count : ℕ) → Bool
signals_fit signals count = leb count store and every in_sequence (listed signals count) and every signal_zero (drop count signals)

abbrev pub store_fits : State → Bool
store_fits state = signals_fit state.signals state.signal_count
