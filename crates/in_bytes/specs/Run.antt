-- A run as bytes (docs/BYTES.md): its single numbers; the stored signals, whose slots are in order of arrival; visits, streaks and results of all nodes.
use Rattle.std.specs.Prelude.{[], ◌∷◌, ◌*◌, ◌^◌, get_or}
use Rattle.host.specs.Layout as layout
use Rattle.codec.specs.Stages.{Shape, numbers, column, Stage, staged}
use Rattle.codec.specs.Slots.{slots}

abbrev pub single_numbers : Stage
single_numbers = record { room = layout.record_signals; shape = λ _. numbers (2 ^ 64) layout.record_signals }

-- as many as are stored
abbrev pub stored_signals : Stage
stored_signals = record { room = layout.signal_width * layout.store; shape = λ seen. column (2 ^ 64) (layout.signal_width * layout.store) (layout.signal_width * get_or seen layout.record_stored 0) }

abbrev pub all_visits : Stage
all_visits = record { room = layout.nodes; shape = λ _. numbers (2 ^ 64) layout.nodes }

-- A streak is outcome and count, and a count of 0 is none.
abbrev pub all_streaks : Stage
all_streaks = record { room = layout.streak_width * layout.nodes; shape = λ _. slots (2 ^ 64) 1 0 layout.nodes }

-- A result is visit, outcome and the four numbers of its output, and a tag of 0 is none.
abbrev pub all_results : Stage
all_results = record { room = layout.result_width * layout.nodes; shape = λ _. slots (2 ^ 64) 2 3 layout.nodes }

unfoldable pub run : Shape
run = staged (single_numbers ∷ stored_signals ∷ all_visits ∷ all_streaks ∷ all_results ∷ []) []
