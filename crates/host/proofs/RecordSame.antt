-- Records of the same numbers are the same. So a record is read back from its numbers wherever these fit.
use Rattle.std.specs.Prelude.{◌≡◌, refl, true, ℕ, eqb, length, take, drop, Option, Some, None}
use Rattle.std.proofs.Common.{sym, ap, ◌∙◌, arith, take_at, drop_at}
use mathlib.Core.List.{List, [], ◌∷◌, ◌++◌, flat_map, append_assoc}
use Rattle.laws.specs.Bool.{when◌then◌else◌}
use Rattle.model.specs.declared.Output.{Output}
use Rattle.model.specs.declared.ErrorInfo.{ErrorInfo}
use Rattle.model.specs.declared.BufferedSignal.{BufferedSignal}
use Rattle.model.specs.declared.Visits.{Visits}
use Rattle.model.specs.declared.Streak.{Streak}
use Rattle.model.specs.declared.NodeResult.{NodeResult}
use Rattle.model.specs.declared.State.{State}
use Rattle.model.specs.Answers.{output_numbers, kept_numbers}
use Rattle.host.specs.Read.{at, record_of, record_fits}
use Rattle.host.specs.Write.{signal_numbers, visits_numbers, streak_numbers, result_numbers, scalar_numbers, head_numbers, record_numbers}
use Rattle.host.proofs.WriteLaws.{Whole, length_output, length_kept, length_scalars, length_head, length_signal, length_visits, length_streak, length_result, length_record, flat_size, record_laid}
use Rattle.host.proofs.Round.{record_back, fits_read}

-- Lists of the same length, with more behind them.
module _ (xs us ys vs : List ℕ) (n : length xs ≡ length ys) (e : xs ++ us ≡ ys ++ vs) where
  parted : (xs ≡ ys) × (us ≡ vs)
  parted = (
    sym (take_at xs us (length xs) refl) ∙ ap (take (length xs)) e ∙ take_at ys vs (length xs) (sym n),
    sym (drop_at xs us (length xs) refl) ∙ ap (drop (length xs)) e ∙ drop_at ys vs (length xs) (sym n),
  )

-- Rows, each by its numbers.
flat_same : {A : Type 0} (f : A → List ℕ) {w : ℕ} → ((x : A) → length (f x) ≡ w) → ((x y : A) → f x ≡ f y → x ≡ y) → (xs ys : List A) → length xs ≡ length ys → flat_map f xs ≡ flat_map f ys → xs ≡ ys
unfolding flat_map
flat_same f wide same [] [] n e = refl
flat_same f wide same [] (y ∷ ys) n e = absurd (omega arith)
flat_same f wide same (x ∷ xs) [] n e = absurd (omega arith)
flat_same f wide same (x ∷ xs) (y ∷ ys) n e =
    let p = parted (f x) (flat_map f xs) (f y) (flat_map f ys) (wide x ∙ sym (wide y)) e in
    let a = same x y p.0 in
    let b = flat_same f wide same xs ys (omega arith) p.1 in
    rw (a, b)

signal_same : (x y : BufferedSignal) → signal_numbers x ≡ signal_numbers y → x ≡ y
unfolding signal_numbers
signal_same x y e = ap (λ (ns : List ℕ). record { sequence = at ns 0; event_id = at ns 1; signal = at ns 2; outcome = at ns 3; «data» = at ns 4 }) e

visits_same : (x y : Visits) → visits_numbers x ≡ visits_numbers y → x ≡ y
unfolding visits_numbers
visits_same x y e = ap (λ (ns : List ℕ). record { count = at ns 0 }) e

streak_same : (x y : Streak) → streak_numbers x ≡ streak_numbers y → x ≡ y
unfolding streak_numbers
streak_same x y e = ap (λ (ns : List ℕ). record { outcome = at ns 0; count = at ns 1 }) e

output_from : List ℕ → Output
output_from ns =
    when eqb (at ns 0) 0 then Output.Nothing else
    when eqb (at ns 0) 1 then Output.Handle (at ns 1) else Output.Error (record { code = at ns 1; node = at ns 2; detail = at ns 3 })

output_known : (x : Output) → output_from (output_numbers x) ≡ x
unfolding output_numbers output_from when◌then◌else◌
output_known Output.Nothing = refl
output_known (Output.Handle x) = refl
output_known (Output.Error x) = refl

output_same : (x y : Output) → output_numbers x ≡ output_numbers y → x ≡ y
output_same x y e = sym (output_known x) ∙ ap output_from e ∙ output_known y

kept_from : List ℕ → Option ErrorInfo
kept_from ns = when eqb (at ns 0) 0 then None else Some (record { code = at ns 1; node = at ns 2; detail = at ns 3 })

kept_known : (x : Option ErrorInfo) → kept_from (kept_numbers x) ≡ x
unfolding kept_numbers kept_from when◌then◌else◌
kept_known None = refl
kept_known (Some x) = refl

kept_same : (x y : Option ErrorInfo) → kept_numbers x ≡ kept_numbers y → x ≡ y
kept_same x y e = sym (kept_known x) ∙ ap kept_from e ∙ kept_known y

result_same : (x y : NodeResult) → result_numbers x ≡ result_numbers y → x ≡ y
unfolding result_numbers
result_same x y e =
    let o = output_same x.output y.output (ap (drop 2) e) in
    ap (λ (ns : List ℕ). record { visit = at ns 0; outcome = at ns 1; output = x.output }) e ∙ ap (λ (o : Output). record { visit = y.visit; outcome = y.outcome; output = o }) o

-- The single fields of a record by its numbers, and all else as it is.
state_from : List ℕ → Option ErrorInfo → Output → ℕ → List BufferedSignal → List Visits → List Streak → List NodeResult → State
state_from ns kept output count signals visits streaks results =
    record {
      signals = signals;
      visits = visits;
      streaks = streaks;
      results = results;
      last_sequence = at ns 3;
      last_accepted_at = at ns 4;
      signal_count = count;
      status = at ns 0;
      input = at ns 1;
      activations = at ns 2;
      position = record { node = at ns 5; visit = at ns 6 };
      invocation = record { phase = at ns 7; node = at ns 8; visit = at ns 9; action = at ns 10; attempt = at ns 11; input = at ns 12; error = kept };
      result = record { output = output };
    }

state_known : (s : State) → state_from (scalar_numbers s) s.invocation.error s.result.output s.signal_count s.signals s.visits s.streaks s.results ≡ s
unfolding state_from scalar_numbers
state_known s = refl

-- The parts of a record's numbers, each with all that follows it.
abbrev from_count : State → List ℕ
from_count s = s.signal_count ∷ []

abbrev from_output : State → List ℕ
from_output s = output_numbers s.result.output ++ from_count s

abbrev from_kept : State → List ℕ
from_kept s = kept_numbers s.invocation.error ++ from_output s

head_laid : (s : State) → head_numbers s ≡ scalar_numbers s ++ from_kept s
unfolding head_numbers
head_laid s = simp append_assoc

abbrev from_results : State → List ℕ
from_results s = flat_map result_numbers s.results ++ []

abbrev from_streaks : State → List ℕ
from_streaks s = flat_map streak_numbers s.streaks ++ from_results s

abbrev from_visits : State → List ℕ
from_visits s = flat_map visits_numbers s.visits ++ from_streaks s

abbrev from_signals : State → List ℕ
from_signals s = flat_map signal_numbers s.signals ++ from_visits s

-- Rows of two records, of the same width and number.
rows_long : {A : Type 0} (f : A → List ℕ) {w : ℕ} → ((x : A) → length (f x) ≡ w) → (xs ys : List A) → length xs ≡ length ys → length (flat_map f xs) ≡ length (flat_map f ys)
rows_long f wide xs ys n = flat_size f (length ys) wide xs n ∙ sym (flat_size f (length ys) wide ys refl)

module _ (a b : State) (g : Whole a) (h : Whole b) (e : record_numbers a ≡ record_numbers b) where
  state_same : a ≡ b
  state_same =
      let i = g.signals ∙ sym h.signals in
      let j = g.visits ∙ sym h.visits in
      let k = g.streaks ∙ sym h.streaks in
      let l = g.results ∙ sym h.results in
      let p = parted (head_numbers a) (from_signals a) (head_numbers b) (from_signals b) (length_head a ∙ sym (length_head b)) (sym (record_laid a) ∙ e ∙ record_laid b) in
      let q = parted (scalar_numbers a) (from_kept a) (scalar_numbers b) (from_kept b) (length_scalars a ∙ sym (length_scalars b)) (sym (head_laid a) ∙ p.0 ∙ head_laid b) in
      let r = parted (kept_numbers a.invocation.error) (from_output a) (kept_numbers b.invocation.error) (from_output b) (length_kept a.invocation.error ∙ sym (length_kept b.invocation.error)) q.1 in
      let t = parted (output_numbers a.result.output) (from_count a) (output_numbers b.result.output) (from_count b) (length_output a.result.output ∙ sym (length_output b.result.output)) r.1 in
      let u = parted (flat_map signal_numbers a.signals) (from_visits a) (flat_map signal_numbers b.signals) (from_visits b) (rows_long signal_numbers length_signal a.signals b.signals i) p.1 in
      let v = parted (flat_map visits_numbers a.visits) (from_streaks a) (flat_map visits_numbers b.visits) (from_streaks b) (rows_long visits_numbers length_visits a.visits b.visits j) u.1 in
      let w = parted (flat_map streak_numbers a.streaks) (from_results a) (flat_map streak_numbers b.streaks) (from_results b) (rows_long streak_numbers length_streak a.streaks b.streaks k) v.1 in
      let x = parted (flat_map result_numbers a.results) [] (flat_map result_numbers b.results) [] (rows_long result_numbers length_result a.results b.results l) w.1 in
      let count : a.signal_count ≡ b.signal_count = ap (λ (ns : List ℕ). at ns 0) t.1 in
      let kept = kept_same a.invocation.error b.invocation.error r.0 in
      let output = output_same a.result.output b.result.output t.0 in
      let signals = flat_same signal_numbers length_signal signal_same a.signals b.signals i u.0 in
      let visits = flat_same visits_numbers length_visits visits_same a.visits b.visits j v.0 in
      let streaks = flat_same streak_numbers length_streak streak_same a.streaks b.streaks k w.0 in
      let results = flat_same result_numbers length_result result_same a.results b.results l x.0 in
      sym (state_known a) ∙ rw (q.0, kept, output, count, signals, visits, streaks, results) (state_known b)

pub record_back_whole : (s : State) → Whole s → record_fits (record_numbers s) ≡ true → record_of (record_numbers s) ≡ s
record_back_whole s h fits =
    let r = record_numbers s in
    let f = fits_read r fits in
    state_same (record_of r) s (record { signals = f.signals_long; visits = f.visits_long; streaks = f.streaks_long; results = f.results_long }) h (record_back r fits (length_record s h))
