-- A record that fits, as numbers: they fit, and are read as the record.
use Rattle.std.specs.Prelude.{◌≡◌, ℕ, ◌+◌, ◌^◌, ◌<◌, length}
use Rattle.std.proofs.Common.{◌∙◌, arith, length-append, get_or-append-add}
use Rattle.std.proofs.Math.Bool.{true}
use mathlib.Core.List.{List, [], ◌∷◌, ◌++◌, flat_map, append_assoc, append-nil}
use Rattle.std.proofs.Math.ListN.{get_or}
use Rattle.laws.specs.In.{at_below}
use Rattle.model.specs.declared.Visits.{Visits}
use Rattle.model.specs.declared.State.{State}
use Rattle.model.specs.Answers.{output_numbers, kept_numbers}
use Rattle.model.specs.Record.{no_signal, no_visits, no_streak, no_node_result}
use Rattle.host.specs.Layout as layout
use Rattle.host.specs.Layout.{store, nodes, signal_width, streak_width, result_width, signal_place, visits_place, streak_place, result_place, record_signals, record_visits, record_streaks, record_results, record_length}
use Rattle.host.specs.Read.{at, record_of, head_fields, signal_fields, node_fields, output_fits, kept_fits, head_fits, signal_fits, node_fits, record_fits}
use Rattle.host.specs.Write.{signal_numbers, visits_numbers, streak_numbers, result_numbers, scalar_numbers, head_numbers, record_numbers}
use Rattle.host.proofs.WriteLaws.{Whole, flat_size, length_output, length_kept, length_scalars, length_head, length_signal, length_visits, length_streak, length_result, length_record}
use Rattle.host.specs.Fits.{Number, SignalFits, StreakFits, ResultFits, Fits}
use Rattle.host.proofs.Lists.{all_at, row_at}
use Rattle.host.proofs.Cases.{of_both, below_fields, output_fit, kept_fit}
use Rattle.host.proofs.RecordSame.{record_back_whole}

module _ (s : State) (f : Fits s) where
  whole : Whole s
  whole = record { signals = f.signals_long; visits = f.visits_long; streaks = f.streaks_long; results = f.results_long }

  pub record_numbers_length : length (record_numbers s) ≡ record_length
  record_numbers_length = length_record s whole

  -- THE HEAD: single numbers, kept error, output, number of stored signals, and all that follows.
  abbrev rows_of : List ℕ
  rows_of = flat_map signal_numbers s.signals ++ (flat_map visits_numbers s.visits ++ (flat_map streak_numbers s.streaks ++ flat_map result_numbers s.results))

  abbrev from_stored : List ℕ
  from_stored = s.signal_count ∷ rows_of

  abbrev from_output : List ℕ
  from_output = output_numbers s.result.output ++ from_stored

  abbrev from_kept : List ℕ
  from_kept = kept_numbers s.invocation.error ++ from_output

  laid : record_numbers s ≡ scalar_numbers s ++ from_kept
  unfolding record_numbers head_numbers
  laid = simp append_assoc

  kept_at : (n : ℕ) → at (record_numbers s) (layout.record_error + n) ≡ at from_kept n
  kept_at n =
      let l = length_scalars s in
      let e : layout.record_error + n ≡ length (scalar_numbers s) + n = omega arith in
      rw (laid, e) (get_or-append-add (scalar_numbers s) from_kept n 0)

  output_at : (n : ℕ) → at (record_numbers s) (layout.record_result + n) ≡ at from_output n
  output_at n =
      let l = length_kept s.invocation.error in
      let p : layout.record_result + n ≡ layout.record_error + (4 + n) = omega arith in
      let e : 4 + n ≡ length (kept_numbers s.invocation.error) + n = omega arith in
      rw (p, kept_at (4 + n), e) (get_or-append-add (kept_numbers s.invocation.error) from_output n 0)

  stored_at : at (record_numbers s) layout.record_stored ≡ s.signal_count
  stored_at =
      let l = length_output s.result.output in
      let e : 4 ≡ length (output_numbers s.result.output) + 0 = omega arith in
      output_at 4 ∙ rw e (get_or-append-add (output_numbers s.result.output) from_stored 0 0)

  -- THE ROWS: number j of row i, with the numbers in front of all rows of its kind.
  signal_at : (i : ℕ) → i < store → (j p : ℕ) → j < signal_width → p ≡ signal_place i + j → at (record_numbers s) p ≡ at (signal_numbers (get_or s.signals i no_signal)) j
  unfolding record_numbers
  signal_at i h j p g place =
      let n = f.signals_long in
      let rest = flat_map visits_numbers s.visits ++ (flat_map streak_numbers s.streaks ++ flat_map result_numbers s.results) in
      let e : record_numbers s ≡ head_numbers s ++ (flat_map signal_numbers s.signals ++ rest) = simp append_assoc in
      rw e (row_at signal_numbers signal_width length_signal rest no_signal j g (head_numbers s) record_signals s.signals i p (length_head s) place (omega arith))

  before_visits : length (head_numbers s ++ flat_map signal_numbers s.signals) ≡ record_visits
  before_visits = let a = flat_size signal_numbers store length_signal s.signals f.signals_long in simp (length-append, length_head, a)

  visits_at : (i : ℕ) → i < nodes → at (record_numbers s) (visits_place i) ≡ (get_or s.visits i no_visits).count
  unfolding record_numbers visits_numbers
  visits_at i h =
      let n = f.visits_long in
      let rest = flat_map streak_numbers s.streaks ++ flat_map result_numbers s.results in
      let front = head_numbers s ++ flat_map signal_numbers s.signals in
      let e : record_numbers s ≡ front ++ (flat_map visits_numbers s.visits ++ rest) = simp append_assoc in
      rw e (row_at visits_numbers 1 length_visits rest no_visits 0 (omega arith) front record_visits s.visits i (visits_place i) before_visits (omega arith) (omega arith))

  before_streaks : length (head_numbers s ++ flat_map signal_numbers s.signals ++ flat_map visits_numbers s.visits) ≡ record_streaks
  before_streaks = let a = before_visits in let b = flat_size visits_numbers nodes length_visits s.visits f.visits_long in rw (length-append, a, b)

  streak_at : (i : ℕ) → i < nodes → (j p : ℕ) → j < streak_width → p ≡ streak_place i + j → at (record_numbers s) p ≡ at (streak_numbers (get_or s.streaks i no_streak)) j
  unfolding record_numbers
  streak_at i h j p g place =
      let n = f.streaks_long in
      let rest = flat_map result_numbers s.results in
      let front = head_numbers s ++ flat_map signal_numbers s.signals ++ flat_map visits_numbers s.visits in
      let e : record_numbers s ≡ front ++ (flat_map streak_numbers s.streaks ++ rest) = simp append_assoc in
      rw e (row_at streak_numbers streak_width length_streak rest no_streak j g front record_streaks s.streaks i p before_streaks place (omega arith))

  before_results : length (head_numbers s ++ flat_map signal_numbers s.signals ++ flat_map visits_numbers s.visits ++ flat_map streak_numbers s.streaks) ≡ record_results
  before_results = let a = before_streaks in let b = flat_size streak_numbers nodes length_streak s.streaks f.streaks_long in rw (length-append, a, b)

  result_at : (i : ℕ) → i < nodes → (j p : ℕ) → j < result_width → p ≡ result_place i + j → at (record_numbers s) p ≡ at (result_numbers (get_or s.results i no_node_result)) j
  unfolding record_numbers
  result_at i h j p g place =
      let n = f.results_long in
      let front = head_numbers s ++ flat_map signal_numbers s.signals ++ flat_map visits_numbers s.visits ++ flat_map streak_numbers s.streaks in
      let e : record_numbers s ≡ front ++ (flat_map result_numbers s.results ++ []) = simp append-nil in
      rw e (row_at result_numbers result_width length_result [] no_node_result j g front record_results s.results i p before_results place (omega arith))

  -- WHAT THE ARRAYS HOLD FITS.
  signal_good : (i : ℕ) → i < store → SignalFits (get_or s.signals i no_signal)
  signal_good i h = let n = f.signals_long in all_at SignalFits s.signals f.signals i no_signal (omega arith)

  visits_good : (i : ℕ) → i < nodes → Number (get_or s.visits i no_visits).count
  visits_good i h = let n = f.visits_long in all_at (λ (x : Visits). Number x.count) s.visits f.visits i no_visits (omega arith)

  streak_good : (i : ℕ) → i < nodes → StreakFits (get_or s.streaks i no_streak)
  streak_good i h = let n = f.streaks_long in all_at StreakFits s.streaks f.streaks i no_streak (omega arith)

  result_good : (i : ℕ) → i < nodes → ResultFits (get_or s.results i no_node_result)
  result_good i h = let n = f.results_long in all_at ResultFits s.results f.results i no_node_result (omega arith)

  -- THE NUMBERS FIT.
  head_fit : head_fits (record_numbers s) ≡ true
  unfolding head_fits record_numbers head_numbers scalar_numbers
  head_fit =
      let x = f.position in
      let y = f.invocation in
      let n : at (record_numbers s) layout.record_stored < 2 ^ 32 = rw stored_at f.signal_count in
      let e = below_fields (record_numbers s) head_fields (f.status, (f.input, (f.activations, (x.node, (x.visit, (y.phase, (y.node, (y.visit, (y.action, (y.attempt, (y.input, (n, tt)))))))))))) in
      let k : kept_fits (at (record_numbers s) layout.record_error) (at (record_numbers s) (layout.record_error + 1)) (at (record_numbers s) (layout.record_error + 2)) (at (record_numbers s) (layout.record_error + 3)) ≡ true = rw (kept_at 0, kept_at 1, kept_at 2, kept_at 3) (kept_fit from_output s.invocation.error f.invocation.error) in
      let o : output_fits (at (record_numbers s) layout.record_result) (at (record_numbers s) (layout.record_result + 1)) (at (record_numbers s) (layout.record_result + 2)) (at (record_numbers s) (layout.record_result + 3)) ≡ true = rw (output_at 0, output_at 1, output_at 2, output_at 3) (output_fit from_stored s.result.output f.result) in
      of_both _ _ (of_both _ _ e k) o

  signal_fit : (i : ℕ) → i < store → signal_fits (record_numbers s) i ≡ true
  unfolding signal_fits signal_numbers
  signal_fit i h =
      let g = signal_good i h in
      let a : at (record_numbers s) (signal_place i + 1) < 2 ^ 32 = rw (signal_at i h 1 (signal_place i + 1) (omega arith) (omega arith)) g.event_id in
      let b : at (record_numbers s) (signal_place i + 2) < 256 = rw (signal_at i h 2 (signal_place i + 2) (omega arith) (omega arith)) g.signal in
      let c : at (record_numbers s) (signal_place i + 3) < 256 = rw (signal_at i h 3 (signal_place i + 3) (omega arith) (omega arith)) g.outcome in
      let d : at (record_numbers s) (signal_place i + 4) < 2 ^ 32 = rw (signal_at i h 4 (signal_place i + 4) (omega arith) (omega arith)) g.data_handle in
      below_fields (record_numbers s) (signal_fields i) (a, (b, (c, (d, tt))))

  node_fit : (i : ℕ) → i < nodes → node_fits (record_numbers s) i ≡ true
  unfolding node_fits streak_numbers result_numbers
  node_fit i h =
      let x = streak_good i h in
      let y = result_good i h in
      let a : at (record_numbers s) (visits_place i) < 2 ^ 32 = rw (visits_at i h) (visits_good i h) in
      let b : at (record_numbers s) (streak_place i) < 256 = rw (streak_at i h 0 (streak_place i) (omega arith) (omega arith)) x.outcome in
      let c : at (record_numbers s) (streak_place i + 1) < 2 ^ 32 = rw (streak_at i h 1 (streak_place i + 1) (omega arith) (omega arith)) x.count in
      let d : at (record_numbers s) (result_place i) < 2 ^ 32 = rw (result_at i h 0 (result_place i) (omega arith) (omega arith)) y.visit in
      let e : at (record_numbers s) (result_place i + 1) < 256 = rw (result_at i h 1 (result_place i + 1) (omega arith) (omega arith)) y.outcome in
      let o : output_fits (at (record_numbers s) (result_place i + 2)) (at (record_numbers s) (result_place i + 3)) (at (record_numbers s) (result_place i + 4)) (at (record_numbers s) (result_place i + 5)) ≡ true =
      rw (result_at i h 2 (result_place i + 2) (omega arith) (omega arith), result_at i h 3 (result_place i + 3) (omega arith) (omega arith), result_at i h 4 (result_place i + 4) (omega arith) (omega arith), result_at i h 5 (result_place i + 5) (omega arith) (omega arith))
      (simp append-nil at (output_fit [] (get_or s.results i no_node_result).output y.output)) in
      of_both _ _ (below_fields (record_numbers s) (node_fields i) (a, (b, (c, (d, (e, tt)))))) o

  pub numbers_fit : record_fits (record_numbers s) ≡ true
  unfolding record_fits
  numbers_fit = of_both _ _ (of_both _ _ head_fit (at_below store (signal_fits (record_numbers s)) signal_fit)) (at_below nodes (node_fits (record_numbers s)) node_fit)

  -- So the record is read back from them.
  pub record_back_of : record_of (record_numbers s) ≡ s
  record_back_of = record_back_whole s whole numbers_fit
