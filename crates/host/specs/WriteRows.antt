-- Rows written by count, over zeros: rows that are left out are empty, so that their numbers are the zeros that stand there.
use Rattle.std.specs.Prelude.{◌≡◌, None, Bool, true, false, get_or, length, bit_or}
use mathlib.Core.List.{List, [], ◌∷◌, ◌++◌, flat_map}
use Prim.Native.Nat.{ℕ, ◌≤◌, ◌<◌, min}
use Rattle.std.proofs.Math.ListN.{take}
use Rattle.model.specs.declared.Output.{Output}
use Rattle.model.specs.declared.BufferedSignal.{BufferedSignal}
use Rattle.model.specs.declared.Visits.{Visits}
use Rattle.model.specs.declared.Streak.{Streak}
use Rattle.model.specs.declared.NodeResult.{NodeResult}
use Rattle.model.specs.declared.answer.Answer as code
use Rattle.kernel.specs.declared.Decision.{Decision}
use Rattle.model.specs.Answers.{answer_numbers}
use Rattle.host.specs.Layout as layout
use Rattle.host.specs.Write.{note_row, ending_row}

-- From a count on every row of an array of n is the empty one.
pub record EmptyPast {A : Type 0} (d : A) (xs : List A) (n rows : ℕ) : Type 0 where
  pub low : rows ≤ n
  pub empty : (i : ℕ) → rows ≤ i → i < n → get_or xs i d ≡ d

-- The first rows: up to a count, from which on all are empty.
pub record Leading {A : Type 0} (d : A) (all first : List A) : Type 0 where
  pub rows : ℕ
  pub past : EmptyPast d all (length all) rows
  pub is : first ≡ take rows all

-- A row's digits, joined.
unfoldable pub signal_digits : BufferedSignal → ℕ
signal_digits signal = bit_or (bit_or (bit_or (bit_or signal.sequence signal.event_id) signal.signal) signal.outcome) signal.«data»

unfoldable pub visits_digits : Visits → ℕ
visits_digits visits = visits.count

unfoldable pub streak_digits : Streak → ℕ
streak_digits streak = bit_or streak.outcome streak.count

abbrev pub output_digits : Output → ℕ
output_digits Output.Nothing = 0
output_digits (Output.Handle handle) = 1
output_digits (Output.Error error) = 1

unfoldable pub result_digits : NodeResult → ℕ
result_digits result = bit_or (bit_or result.visit result.outcome) (output_digits result.output)

-- THE ANSWER. What stands before its record.
abbrev pub front_numbers : Decision → List ℕ
front_numbers d = answer_numbers d.answer ++ (d.notes.count ∷ d.endings.count ∷ []) ++ flat_map note_row d.notes.rows ++ flat_map ending_row d.endings.rows

-- Whether it is a refusal, which has no record.
abbrev pub is_refused : code.Answer → Bool
is_refused (code.Answer.Next order microsteps) = false
is_refused (code.Answer.Wants node field from) = false
is_refused (code.Answer.Refused refusal item) = true

-- A decision's arrays are empty past their counts.
pub record Counted (d : Decision) : Type 0 where
  pub notes : EmptyPast None d.notes.rows layout.notes (min layout.notes d.notes.count)
  pub endings : EmptyPast None d.endings.rows layout.endings (min layout.endings d.endings.count)
