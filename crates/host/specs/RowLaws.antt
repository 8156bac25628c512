-- Laws of rows: how many numbers each has, and which are the empty ones, by their digits.
use Rattle.std.specs.Prelude.{◌≡◌, refl, Bool, true, false, List, [], ◌∷◌, Option, Some, None, ℕ, length, get_or, bit_or}
use Rattle.std.proofs.lemmas.List.{length-replicate}
use Rattle.std.proofs.Common.{arith, ◌∙◌, ap}
use mir.Val.{bool_byte}
use Rattle.laws.specs.Bool.{when◌then◌else◌}
use Rattle.laws.specs.Rows.{rows, rows_all}
use Rattle.std.specs.Int.Bits.{or_add_and}
use Rattle.std.proofs.lemmas.Nat.{and_le_l, and_le_r}
use Rattle.model.specs.declared.Output.{Output}
use Rattle.model.specs.declared.BufferedSignal.{BufferedSignal}
use Rattle.model.specs.declared.Visits.{Visits}
use Rattle.model.specs.declared.Streak.{Streak}
use Rattle.model.specs.declared.NodeResult.{NodeResult}
use Rattle.model.specs.declared.answer.Noted.{Noted}
use Rattle.model.specs.declared.answer.Note.{Note}
use Rattle.model.specs.declared.answer.Ending.{Ending}
use Rattle.model.specs.Answers.{output_numbers, noted_numbers, note_numbers, ending_numbers}
use Rattle.model.specs.Record.{no_signal, no_visits, no_streak, no_node_result}
use Rattle.host.specs.Layout.{signal_width, streak_width, result_width, note_width, ending_width, output_width}
use Rattle.host.specs.Write.{marked, option_numbers, signal_numbers, visits_numbers, streak_numbers, result_numbers, note_row, ending_row}
use Rattle.host.specs.WriteRows.{signal_digits, visits_digits, streak_digits, output_digits, result_digits}

-- A row that may be absent.
pub option_wide : {A : Type 0} (f : A → List ℕ) (width : ℕ) → ((x : A) → length (f x) ≡ width) → (o : Option A) → length (option_numbers f width o) ≡ width
option_wide f width wide None = length-replicate {A = ℕ} width 0
option_wide f width wide (Some x) = wide x

pub length_output : (x : Output) → length (output_numbers x) ≡ output_width
unfolding output_numbers
length_output Output.Nothing = refl
length_output (Output.Handle x) = refl
length_output (Output.Error e) = refl

pub length_signal : (x : BufferedSignal) → length (signal_numbers x) ≡ signal_width
unfolding signal_numbers
length_signal x = refl

pub length_visits : (x : Visits) → length (visits_numbers x) ≡ 1
unfolding visits_numbers
length_visits x = refl

pub length_streak : (x : Streak) → length (streak_numbers x) ≡ streak_width
unfolding streak_numbers
length_streak x = refl

pub length_result : (x : NodeResult) → length (result_numbers x) ≡ result_width
unfolding result_numbers
length_result x = rw (length_output x.output)

-- A result's numbers from those of its output.
pub result_row : (x : NodeResult) (o : List ℕ) → o ≡ output_numbers x.output → (x.visit ∷ x.outcome ∷ get_or o 0 0 ∷ get_or o 1 0 ∷ get_or o 2 0 ∷ get_or o 3 0 ∷ []) ≡ result_numbers x
unfolding result_numbers rows
result_row x o e = ap (λ (r : List ℕ). x.visit ∷ x.outcome ∷ r) (rows_all 0 o 4 (rw e (length_output x.output)) ∙ e)

length_noted : (node : ℕ) (x : Noted) → length (noted_numbers node x) ≡ note_width
length_noted node (Noted.Ignored kind) = refl
length_noted node (Noted.Stale named visit attempt) = refl
length_noted node (Noted.NotApplicable named visit reason) = refl
length_noted node (Noted.Overflow event_id) = refl
length_noted node (Noted.Unrouted event_id outcome) = refl
length_noted node (Noted.Unknown visit attempt status) = refl
length_noted node (Noted.Stuck visit attempt code) = refl
length_noted node (Noted.Retry attempt) = refl
length_noted node (Noted.Exhausted outcome limit) = refl

pub length_note : (x : Note) → length (note_numbers x) ≡ note_width
unfolding note_numbers
length_note x = length_noted x.node x.noted

pub length_ending : (x : Ending) → length (ending_numbers x) ≡ ending_width
unfolding ending_numbers
length_ending x = refl

pub length_note_row : (x : Option Note) → length (note_row x) ≡ note_width
length_note_row = option_wide note_numbers note_width length_note

pub length_ending_row : (x : Option Ending) → length (ending_row x) ≡ ending_width
length_ending_row = option_wide ending_numbers ending_width length_ending

-- EMPTY ROWS. Digits joined are 0 only if all are.
pub or_both : (a b : ℕ) → bit_or a b ≡ 0 → (a ≡ 0) × (b ≡ 0)
or_both a b e = let s = or_add_and a b in let l = and_le_l a b in let r = and_le_r a b in (omega arith, omega arith)

pub signal_is : (x : BufferedSignal) → signal_digits x ≡ 0 → x ≡ no_signal
unfolding signal_digits
signal_is x e =
    let two = bit_or x.sequence x.event_id in
    let three = bit_or two x.signal in
    let four = bit_or three x.outcome in
    let a = or_both four x.«data» e in
    let b = or_both three x.outcome a.0 in
    let c = or_both two x.signal b.0 in
    let d = or_both x.sequence x.event_id c.0 in
    let z : record { sequence = x.sequence; event_id = x.event_id; signal = x.signal; outcome = x.outcome; «data» = x.«data» } ≡ no_signal = rw (d.0, d.1, c.1, b.1, a.1) in
    z

pub visits_is : (x : Visits) → visits_digits x ≡ 0 → x ≡ no_visits
unfolding visits_digits
visits_is x e = let z : record { count = x.count } ≡ no_visits = rw e in z

pub streak_is : (x : Streak) → streak_digits x ≡ 0 → x ≡ no_streak
unfolding streak_digits
streak_is x e = let a = or_both x.outcome x.count e in let z : record { outcome = x.outcome; count = x.count } ≡ no_streak = rw (a.0, a.1) in z

output_is : (x : Output) → output_digits x ≡ 0 → x ≡ Output.Nothing
output_is Output.Nothing e = refl
output_is (Output.Handle handle) e = absurd (omega arith)
output_is (Output.Error error) e = absurd (omega arith)

pub result_is : (x : NodeResult) → result_digits x ≡ 0 → x ≡ no_node_result
unfolding result_digits
result_is x e =
    let a = or_both (bit_or x.visit x.outcome) (output_digits x.output) e in
    let b = or_both x.visit x.outcome a.0 in
    let z : record { visit = x.visit; outcome = x.outcome; output = x.output } ≡ no_node_result = rw (b.0, b.1, output_is x.output a.1) in
    z

-- a mark as a number
pub marked_is : (b : Bool) → bool_byte b ≡ marked b
unfolding when◌then◌else◌
marked_is true = refl
marked_is false = refl
