-- A record that the run check takes is tidy as the numbers of a run: what is stored, streaks and results are zero where they are unused.
use Rattle.std.specs.Prelude.{◌≡◌, refl, true, ℕ, ◌*◌, ◌^◌, eqb, ltb, length, get_or, drop}
use Rattle.std.proofs.Math.Path.{sym}
use Rattle.std.proofs.Common.{◌∙◌, arith}
use mathlib.Core.List.{List, [], ◌∷◌, ◌++◌, flat_map}
use borrow.Author.Tests.{eq-eqb, leb-true}
use Rattle.laws.specs.Bool.{when◌then◌else◌, ◌and◌, ◌or◌, split, both, join, if_true, if_false}
use Rattle.laws.specs.Every.{every}
use Rattle.workflow.specs.View.{Workflow}
use Rattle.model.specs.declared.Output.{Output}
use Rattle.model.specs.declared.BufferedSignal.{BufferedSignal}
use Rattle.model.specs.declared.Streak.{Streak}
use Rattle.model.specs.declared.NodeResult.{NodeResult}
use Rattle.model.specs.declared.State.{State}
use Rattle.model.specs.Answers.{output_numbers}
use Rattle.model.specs.Record.{no_streak, no_node_result}
use Rattle.model.specs.Store.{signal_zero, signals_fit}
use Rattle.snapshot.specs.Check.{result_fits, result_zero, streak_fits, streak_zero, consistent}
use Rattle.demand3.specs.Tidy.{Sized, Tidies}
use Rattle.demand3.proofs.Tidy.{tidy_of}
use Rattle.host.specs.Layout as layout
use Rattle.host.proofs.Lists.{every_all}
use Rattle.host.specs.Write.{signal_numbers, visits_numbers, streak_numbers, result_numbers, head_numbers, record_numbers}
use Rattle.host.proofs.WriteLaws.{Whole, length_head, length_signal, length_visits, length_streak, length_result, flat_size, head_stored, record_laid}
use Rattle.codec.specs.Numbers.{all_below}
use Rattle.codec.specs.Stages.{numbers, column, all_zero}
use Rattle.codec.specs.Slots.{slots}
use Rattle.codec.proofs.SlotsLaws.{slots_width}
use Rattle.in_bytes.specs.Run.{single_numbers, stored_signals, all_visits, all_streaks, all_results, run}
use Rattle.shipped.proofs.TidyRows.{every_parts, stage_tidy, no_stage_tidy, numbers_tidy, rows_zero, rows_column, rows_slots}

-- UNUSED ROWS.
signal_blank : (x : BufferedSignal) → signal_zero x ≡ true → all_zero (signal_numbers x) ≡ true
unfolding signal_numbers every
signal_blank x h =
    let a = both _ _ h in
    let b = both _ _ a.1 in
    let c = both _ _ b.1 in
    let d = both _ _ c.1 in
    join _ _ a.0 (join _ _ b.0 (join _ _ c.0 (join _ _ d.0 (join _ _ d.1 refl))))

-- of a node of the sheet, or of one that it lacks
streak_blank : (f : Workflow) (n : ℕ) (x : Streak) → (when ltb n f.node_count then streak_fits f n x else streak_zero x) ≡ true → get_or (streak_numbers x) 1 0 ≡ 0 → all_zero (streak_numbers x) ≡ true
unfolding streak_numbers every
streak_blank f n x h z =
    let c : eqb x.count 0 ≡ true = eq-eqb x.count 0 z in
    let o : eqb x.outcome 0 ≡ true =
    split (ltb n f.node_count) (λ t. sym (if_true _ _ _ c) ∙ sym (if_true _ _ _ t) ∙ h) (λ t. (both _ _ (sym (if_false _ _ _ t) ∙ h)).0) in
    join _ _ o (join _ _ c refl)

result_blank : (f : Workflow) (n : ℕ) (x : NodeResult) (o : Output) → x.output ≡ o → (when ltb n f.node_count then result_fits x else result_zero x) ≡ true → get_or (result_numbers x) 2 0 ≡ 0 → all_zero (result_numbers x) ≡ true
unfolding result_numbers output_numbers every ◌or◌ ◌and◌
result_blank f n x Output.Nothing e h z =
    let unused : (eqb x.visit 0 and eqb x.outcome 0) ≡ true = split (ltb n f.node_count) (λ t. rw e at (sym (if_true _ _ _ t) ∙ h)) (λ t. rw e at (sym (if_false _ _ _ t) ∙ h)) in
    let b = both (eqb x.visit 0) (eqb x.outcome 0) unused in
    rw (e, b.0, b.1)
result_blank f n x (Output.Handle i) e h z = absurd (omega (arith, rw e at z))
result_blank f n x (Output.Error i) e h z = absurd (omega (arith, rw e at z))

-- THE PARTS of a record's numbers.
module _ (s : State) where
  abbrev signals : List ℕ
  signals = flat_map signal_numbers s.signals

  abbrev visits : List ℕ
  visits = flat_map visits_numbers s.visits

  abbrev streaks : List ℕ
  streaks = flat_map streak_numbers s.streaks

  abbrev results : List ℕ
  results = flat_map result_numbers s.results

  abbrev from_streaks : List ℕ
  from_streaks = streaks ++ (results ++ [])

  abbrev from_visits : List ℕ
  from_visits = visits ++ from_streaks

  abbrev from_signals : List ℕ
  from_signals = signals ++ from_visits

-- A record that is tidy by the run check, wherever it stands.
module _ (f : Workflow) (s : State) (fits : Tidies f s) (below : all_below (2 ^ 64) (record_numbers s) ≡ true) where
  whole : Whole s
  whole = record { signals = fits.store.slotted.long; visits = fits.visit_slots.long; streaks = fits.streak_slots.long; results = fits.result_slots.long }

  head_below : (all_below (2 ^ 64) (head_numbers s) ≡ true) × (all_below (2 ^ 64) (from_signals s) ≡ true)
  head_below = every_parts (λ n. ltb n (2 ^ 64)) (head_numbers s) (from_signals s) (rw (record_laid s) at below)

  signals_below : (all_below (2 ^ 64) (signals s) ≡ true) × (all_below (2 ^ 64) (from_visits s) ≡ true)
  signals_below = every_parts (λ n. ltb n (2 ^ 64)) (signals s) (from_visits s) head_below.1

  visits_below : (all_below (2 ^ 64) (visits s) ≡ true) × (all_below (2 ^ 64) (from_streaks s) ≡ true)
  visits_below = every_parts (λ n. ltb n (2 ^ 64)) (visits s) (from_streaks s) signals_below.1

  streaks_below : (all_below (2 ^ 64) (streaks s) ≡ true) × (all_below (2 ^ 64) (results s ++ []) ≡ true)
  streaks_below = every_parts (λ n. ltb n (2 ^ 64)) (streaks s) (results s ++ []) visits_below.1

  results_below : all_below (2 ^ 64) (results s) ≡ true
  results_below = (every_parts (λ n. ltb n (2 ^ 64)) (results s) [] streaks_below.1).0

  -- THE STAGES.
  signals_tidy : (stored_signals.shape (head_numbers s)).tidy (signals s) ≡ true
  unfolding signals_fit
  signals_tidy =
      let a = both _ _ fits.store.fits in
      let few = leb-true s.signal_count layout.store a.0 in
      let n = whole.signals in
      let blank = every_all signal_zero _ signal_blank (drop s.signal_count s.signals) (both _ _ a.1).1 in
      rw (head_stored s)
      (rows_column signal_numbers layout.signal_width length_signal (2 ^ 64) (layout.signal_width * layout.store) s.signal_count s.signals (omega arith) (omega arith)
      signals_below.0 (rows_zero signal_numbers _ blank))

  visits_long : length (visits s) ≡ layout.nodes
  visits_long = flat_size visits_numbers layout.nodes length_visits s.visits whole.visits

  streaks_tidy : (slots (2 ^ 64) 1 0 layout.nodes).tidy (streaks s) ≡ true
  streaks_tidy =
      rows_slots streak_numbers layout.streak_width length_streak (2 ^ 64) 1 0 refl no_streak layout.nodes s.streaks whole.streaks streaks_below.0
      (λ i h. streak_blank f i (get_or s.streaks i no_streak) (fits.streak_slots.each i h))

  results_tidy : (slots (2 ^ 64) 2 3 layout.nodes).tidy (results s) ≡ true
  results_tidy =
      rows_slots result_numbers layout.result_width length_result (2 ^ 64) 2 3 refl no_node_result layout.nodes s.results whole.results results_below
      (λ i h. result_blank f i (get_or s.results i no_node_result) _ refl (fits.result_slots.each i h))

  pub tidies_tidy : run.tidy (record_numbers s) ≡ true
  unfolding run numbers column
  tidies_tidy =
      let a = flat_size signal_numbers layout.store length_signal s.signals whole.signals in
      let c = flat_size streak_numbers layout.nodes length_streak s.streaks whole.streaks ∙ sym (slots_width (2 ^ 64) 1 0 layout.nodes) in
      let d = flat_size result_numbers layout.nodes length_result s.results whole.results ∙ sym (slots_width (2 ^ 64) 2 3 layout.nodes) in
      rw (record_laid s)
      (stage_tidy single_numbers (stored_signals ∷ all_visits ∷ all_streaks ∷ all_results ∷ []) [] (head_numbers s) _ (length_head s) (numbers_tidy (2 ^ 64) layout.record_signals (head_numbers s) (length_head s) head_below.0)
      (stage_tidy stored_signals (all_visits ∷ all_streaks ∷ all_results ∷ []) _ (signals s) _ a signals_tidy
      (stage_tidy all_visits (all_streaks ∷ all_results ∷ []) _ (visits s) _ visits_long (numbers_tidy (2 ^ 64) layout.nodes (visits s) visits_long visits_below.0)
      (stage_tidy all_streaks (all_results ∷ []) _ (streaks s) _ c streaks_tidy (stage_tidy all_results [] _ (results s) [] d results_tidy (no_stage_tidy _))))))

-- THE RUN CHECK takes it.
pub record_tidy : (f : Workflow) (s : State) → consistent f s ≡ true → Sized s → all_below (2 ^ 64) (record_numbers s) ≡ true → run.tidy (record_numbers s) ≡ true
record_tidy f s checked sized below = tidies_tidy f s (tidy_of f s sized checked).0 below
