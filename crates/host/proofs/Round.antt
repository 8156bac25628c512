-- Numbers that fit are read without loss: a record written again is the numbers that were read, and what is read fits.
use Rattle.std.specs.Prelude.{◌≡◌, true, List, ℕ, ◌+◌, ◌*◌, ◌<◌, length, get_or}
use Rattle.std.proofs.Math.Path.{refl}
use native.Mathlib.Omega.{arith}
use Rattle.laws.specs.Rows.{rows, span, length_span, rows_all}
use Rattle.laws.specs.Every.{below}
use Rattle.laws.specs.In.{below_at}
use Rattle.model.specs.declared.Visits.{Visits}
use Rattle.host.specs.Layout as layout
use Rattle.host.specs.Layout.{store, nodes, signal_width, streak_width, result_width, signal_place, visits_place, streak_place, result_place, record_signals, record_visits, record_streaks, record_results, record_length}
use Rattle.host.specs.Read.{at, signal_of, visits_of, streak_of, result_of, position_of, invocation_of, run_result_of, record_of, event_of, mapping_of, ceilings_of, limits_of, call_of, Field, number, all_fit, head_fields, signal_fields, node_fields, limit_fields, event_fields, mapping_fields, output_fits, head_fits, signal_fits, node_fits, record_fits, call_fits}
use Rattle.host.specs.Write.{signal_numbers, visits_numbers, streak_numbers, result_numbers, scalar_numbers, head_numbers, record_numbers}
use Rattle.host.specs.Fits.{Number, SignalFits, StreakFits, ResultFits, PositionFits, InvocationFits, Fits, EventFits, MappingFits, CallFits}
use Rattle.host.proofs.Lists.{all_span, rows_append, flat_rows}
use Rattle.host.proofs.Cases.{Below, both_of, small, name_small, narrow_below, fields_below, OutputCase, KeptCase, output_case, kept_case, output_again, kept_again, output_read, kept_read}

-- The fields of a group by their place in its list.
abbrev none : Field
none = number 0

-- THE RECORD.
module _ (r : List ℕ) (fits : record_fits r ≡ true) where
  record Parts : Type 0 where
    pub head : all_fit r head_fields ≡ true
    pub kept : KeptCase (at r layout.record_error) (at r (layout.record_error + 1)) (at r (layout.record_error + 2)) (at r (layout.record_error + 3))
    pub output : OutputCase (at r layout.record_result) (at r (layout.record_result + 1)) (at r (layout.record_result + 2)) (at r (layout.record_result + 3))
    pub signals : below store (signal_fits r) ≡ true
    pub nodes : below nodes (node_fits r) ≡ true

  parts : Parts
  unfolding record_fits head_fits
  parts =
      let a = both_of _ _ fits in
      let b = both_of _ _ a.0 in
      let c = both_of _ _ b.0 in
      let d = both_of _ _ c.0 in
      record { head = d.0; kept = kept_case _ _ _ _ d.1; output = output_case _ _ _ _ c.1; signals = b.1; nodes = a.1 }

  -- the fields of the head, of signal i and of node i, by their places in the list
  head_field : (n : ℕ) → n < 12 → Below r (get_or head_fields n none)
  head_field n h = fields_below r head_fields parts.head n none h

  signal_field : (i : ℕ) → i < store → (n : ℕ) → n < 4 → Below r (get_or (signal_fields i) n none)
  unfolding signal_fits
  signal_field i h n g = fields_below r (signal_fields i) (below_at store (signal_fits r) parts.signals i h) n none g

  node_part : (i : ℕ) → i < nodes → (all_fit r (node_fields i) ≡ true) × (output_fits (at r (result_place i + 2)) (at r (result_place i + 3)) (at r (result_place i + 4)) (at r (result_place i + 5)) ≡ true)
  unfolding node_fits
  node_part i h = both_of _ _ (below_at nodes (node_fits r) parts.nodes i h)

  node_field : (i : ℕ) → i < nodes → (n : ℕ) → n < 5 → Below r (get_or (node_fields i) n none)
  node_field i h n g = fields_below r (node_fields i) (node_part i h).0 n none g

  node_output : (i : ℕ) → i < nodes → OutputCase (at r (result_place i + 2)) (at r (result_place i + 3)) (at r (result_place i + 4)) (at r (result_place i + 5))
  node_output i h = output_case _ _ _ _ (node_part i h).1

  -- WRITTEN AGAIN.
  scalars : scalar_numbers (record_of r) ≡ rows (at r) 0 layout.record_error
  unfolding scalar_numbers record_of position_of invocation_of rows
  scalars =
      rw (
        small (at r layout.record_status) (head_field 0 (omega arith)),
        small (at r layout.record_input) (head_field 1 (omega arith)),
        small (at r layout.record_activations) (head_field 2 (omega arith)),
        name_small (at r layout.record_position_node) (head_field 3 (omega arith)),
        small (at r layout.record_position_visit) (head_field 4 (omega arith)),
        small (at r layout.record_phase) (head_field 5 (omega arith)),
        name_small (at r layout.record_invocation_node) (head_field 6 (omega arith)),
        small (at r layout.record_invocation_visit) (head_field 7 (omega arith)),
        name_small (at r layout.record_invocation_action) (head_field 8 (omega arith)),
        small (at r layout.record_invocation_attempt) (head_field 9 (omega arith)),
        small (at r layout.record_invocation_input) (head_field 10 (omega arith)),
      )

  head : head_numbers (record_of r) ≡ rows (at r) 0 record_signals
  unfolding head_numbers record_of invocation_of run_result_of rows
  head =
      let k = kept_again parts.kept in
      let o = output_again parts.output in
      let s = scalars in
      let n = small (at r layout.record_stored) (head_field 11 (omega arith)) in
      rw (s, k, o, n)

  signal : (i : ℕ) → i < store → signal_numbers (signal_of r i) ≡ rows (at r) (signal_place i) signal_width
  unfolding signal_numbers signal_of rows
  signal i h =
      let b : signal_place i + 1 + 1 ≡ signal_place i + 2 = omega arith in
      let c : signal_place i + 2 + 1 ≡ signal_place i + 3 = omega arith in
      let d : signal_place i + 3 + 1 ≡ signal_place i + 4 = omega arith in
      rw (b, c, d, small (at r (signal_place i + 1)) (signal_field i h 0 (omega arith)), name_small (at r (signal_place i + 2)) (signal_field i h 1 (omega arith)), name_small (at r (signal_place i + 3)) (signal_field i h 2 (omega arith)), small (at r (signal_place i + 4)) (signal_field i h 3 (omega arith)))

  visit : (i : ℕ) → i < nodes → visits_numbers (visits_of r i) ≡ rows (at r) (record_visits + 1 * i) 1
  unfolding visits_numbers visits_of rows
  visit i h =
      let a : 1 * i ≡ i = omega arith in
      rw (a, small (at r (visits_place i)) (node_field i h 0 (omega arith)))

  streak : (i : ℕ) → i < nodes → streak_numbers (streak_of r i) ≡ rows (at r) (streak_place i) streak_width
  unfolding streak_numbers streak_of rows
  streak i h = rw (name_small (at r (streak_place i)) (node_field i h 1 (omega arith)), small (at r (streak_place i + 1)) (node_field i h 2 (omega arith)))

  result : (i : ℕ) → i < nodes → result_numbers (result_of r i) ≡ rows (at r) (result_place i) result_width
  unfolding result_numbers result_of rows
  result i h =
      let o = output_again (node_output i h) in
      let b : result_place i + 1 + 1 ≡ result_place i + 2 = omega arith in
      let c : result_place i + 2 + 1 ≡ result_place i + 3 = omega arith in
      let d : result_place i + 3 + 1 ≡ result_place i + 4 = omega arith in
      let e : result_place i + 4 + 1 ≡ result_place i + 5 = omega arith in
      rw (b, c, d, e, small (at r (result_place i)) (node_field i h 3 (omega arith)), name_small (at r (result_place i + 1)) (node_field i h 4 (omega arith)), o)

  pub record_back : length r ≡ record_length → record_numbers (record_of r) ≡ r
  unfolding record_numbers record_of span
  record_back long =
      let s = flat_rows r signal_numbers (signal_of r) record_signals signal_width store signal 0 store refl in
      let v = flat_rows r visits_numbers (visits_of r) record_visits 1 nodes visit 0 nodes refl in
      let k = flat_rows r streak_numbers (streak_of r) record_streaks streak_width nodes streak 0 nodes refl in
      let e = flat_rows r result_numbers (result_of r) record_results result_width nodes result 0 nodes refl in
      rw (head, s, v, k, e, rows_append r 0 record_signals (signal_width * store) record_signals refl, rows_append r 0 record_visits nodes record_visits refl, rows_append r 0 record_streaks (streak_width * nodes) record_streaks refl, rows_append r 0 record_results (result_width * nodes) record_results refl) (rows_all 0 r record_length long)

  -- WHAT IS READ FITS.
  signal_read : (i : ℕ) → i < store → SignalFits (signal_of r i)
  unfolding signal_of
  signal_read i h =
      record {
        event_id = narrow_below _ (signal_field i h 0 (omega arith));
        signal = narrow_below _ (signal_field i h 1 (omega arith));
        outcome = narrow_below _ (signal_field i h 2 (omega arith));
        data_handle = narrow_below _ (signal_field i h 3 (omega arith));
      }

  visits_read : (i : ℕ) → i < nodes → Number (visits_of r i).count
  unfolding visits_of
  visits_read i h = narrow_below _ (node_field i h 0 (omega arith))

  streak_read : (i : ℕ) → i < nodes → StreakFits (streak_of r i)
  unfolding streak_of
  streak_read i h = record { outcome = narrow_below _ (node_field i h 1 (omega arith)); count = narrow_below _ (node_field i h 2 (omega arith)) }

  result_read : (i : ℕ) → i < nodes → ResultFits (result_of r i)
  unfolding result_of
  result_read i h = record { visit = narrow_below _ (node_field i h 3 (omega arith)); outcome = narrow_below _ (node_field i h 4 (omega arith)); output = output_read (node_output i h) }

  position_read : PositionFits (position_of r)
  unfolding position_of
  position_read = record { node = narrow_below _ (head_field 3 (omega arith)); visit = narrow_below _ (head_field 4 (omega arith)) }

  invocation_read : InvocationFits (invocation_of r)
  unfolding invocation_of
  invocation_read =
      record {
        phase = narrow_below _ (head_field 5 (omega arith));
        node = narrow_below _ (head_field 6 (omega arith));
        visit = narrow_below _ (head_field 7 (omega arith));
        action = narrow_below _ (head_field 8 (omega arith));
        attempt = narrow_below _ (head_field 9 (omega arith));
        input = narrow_below _ (head_field 10 (omega arith));
        error = kept_read parts.kept;
      }

  pub fits_read : Fits (record_of r)
  unfolding record_of run_result_of
  fits_read =
      record {
        signals_long = length_span (signal_of r) store;
        visits_long = length_span (visits_of r) nodes;
        streaks_long = length_span (streak_of r) nodes;
        results_long = length_span (result_of r) nodes;
        signals = all_span SignalFits (signal_of r) store signal_read;
        visits = all_span (λ (x : Visits). Number x.count) (visits_of r) nodes visits_read;
        streaks = all_span StreakFits (streak_of r) nodes streak_read;
        results = all_span ResultFits (result_of r) nodes result_read;
        signal_count = narrow_below _ (head_field 11 (omega arith));
        status = narrow_below _ (head_field 0 (omega arith));
        input = narrow_below _ (head_field 1 (omega arith));
        activations = narrow_below _ (head_field 2 (omega arith));
        position = position_read;
        invocation = invocation_read;
        result = output_read parts.output;
      }

-- THE CALL.
module _ (c : List ℕ) (fits : call_fits c ≡ true) where
  record CallParts : Type 0 where
    pub limits : all_fit c limit_fields ≡ true
    pub event : all_fit c event_fields ≡ true
    pub first : all_fit c (mapping_fields 0) ≡ true
    pub second : all_fit c (mapping_fields 1) ≡ true

  call_parts : CallParts
  unfolding call_fits
  call_parts =
      let a = both_of _ _ fits in
      let b = both_of _ _ a.0 in
      let d = both_of _ _ b.0 in
      record { limits = d.0; event = d.1; first = b.1; second = a.1 }

  limit_field : (n : ℕ) → n < 8 → Below c (get_or limit_fields n none)
  limit_field n h = fields_below c limit_fields call_parts.limits n none h

  pub event_field : (n : ℕ) → n < 17 → Below c (get_or event_fields n none)
  event_field n h = fields_below c event_fields call_parts.event n none h

  mapping_read : (i : ℕ) → all_fit c (mapping_fields i) ≡ true → MappingFits (mapping_of c i)
  unfolding mapping_of
  mapping_read i e =
      let field : (n : ℕ) → n < 5 → Below c (get_or (mapping_fields i) n none) = λ n h. fields_below c (mapping_fields i) e n none h in
      record {
        kind = narrow_below _ (field 0 (omega arith));
        value = narrow_below _ (field 1 (omega arith));
        code = narrow_below _ (field 2 (omega arith));
        detail = narrow_below _ (field 3 (omega arith));
        operations = narrow_below _ (field 4 (omega arith));
      }

  event_read : EventFits (event_of c)
  unfolding event_of
  event_read =
      record {
        event_id = narrow_below _ (event_field 0 (omega arith));
        kind = narrow_below _ (event_field 1 (omega arith));
        input = narrow_below _ (event_field 2 (omega arith));
        signal = narrow_below _ (event_field 3 (omega arith));
        outcome = narrow_below _ (event_field 4 (omega arith));
        data_handle = narrow_below _ (event_field 5 (omega arith));
        node = narrow_below _ (event_field 6 (omega arith));
        visit = narrow_below _ (event_field 7 (omega arith));
        attempt = narrow_below _ (event_field 8 (omega arith));
        status = narrow_below _ (event_field 9 (omega arith));
        output = narrow_below _ (event_field 10 (omega arith));
        code = narrow_below _ (event_field 12 (omega arith));
        detail = narrow_below _ (event_field 13 (omega arith));
        resolution = narrow_below _ (event_field 15 (omega arith));
      }

  pub call_fits_read : CallFits (call_of c)
  unfolding call_of ceilings_of limits_of
  call_fits_read =
      record {
        ceilings = record {
          nodes = narrow_below _ (limit_field 0 (omega arith));
          visits = narrow_below _ (limit_field 1 (omega arith));
          activations = narrow_below _ (limit_field 2 (omega arith));
          attempts = narrow_below _ (limit_field 3 (omega arith));
        };
        limits = record {
          microsteps = narrow_below _ (limit_field 4 (omega arith));
          commands = narrow_below _ (limit_field 5 (omega arith));
          operations = narrow_below _ (limit_field 6 (omega arith));
        };
        event = event_read;
        answers_long = refl;
        answers = (mapping_read 0 call_parts.first, (mapping_read 1 call_parts.second, tt));
        count = narrow_below _ (event_field 16 (omega arith));
      }
