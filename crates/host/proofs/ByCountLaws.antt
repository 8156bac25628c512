-- A record read by count: where the rows past a count are zeros, they are read as empty rows, and they fit.
use Rattle.std.specs.Prelude.{◌≡◌, refl, Bool, true, ◌&&◌, List, [], ◌∷◌, ◌++◌, ℕ, zero, suc, ◌+◌, ◌-◌, ◌≤◌, ◌<◌, take, drop, replicate, ltb}
use Rattle.std.proofs.Common.{sym, ◌∙◌, eqb-true, ltb-true, ltb-false, get_or-take, get_or-drop}
use Rattle.std.proofs.lemmas.Bool.{false≢true}
use native.Mathlib.Omega.{arith}
use Rattle.std.proofs.Math.ListN.{length}
use Rattle.std.proofs.Math.Seq.{length-take-le}
use Rattle.std.proofs.lemmas.List.{length-replicate, drop-replicate}
use Rattle.laws.specs.Bool.{when◌then◌else◌, split, both}
use Rattle.laws.specs.Rows.{span, length_span, at_span}
use Rattle.laws.specs.Every.{every, below}
use Rattle.laws.specs.In.{below_at, at_below}
use Rattle.laws.specs.Listing.{padded}
use Rattle.model.specs.Record.{no_signal, no_visits, no_streak, no_node_result}
use Rattle.host.specs.declared.read.Used.{Used}
use Rattle.host.specs.Layout.{store, nodes, signal_place, visits_place, streak_place, result_place}
use Rattle.host.specs.Read.{at, narrow, signal_of, visits_of, streak_of, result_of, output_of, record_of, signal_fields, node_fields, output_fits, head_fits, signal_fits, node_fits, record_fits}
use Rattle.host.proofs.Lists.{span_list, length_padded, padded_at, padded_past}
use Rattle.host.proofs.Cases.{below_fields, of_both}
use Rattle.host.specs.ByCount.{blank, Zeros, SignalsPast, NodesPast, Past, record_rows}

blank_at : (numbers : List ℕ) → blank numbers ≡ true → (i : ℕ) → at numbers i ≡ 0
unfolding every
blank_at [] e i = refl
blank_at (x ∷ numbers) e zero = eqb-true x 0 (both _ _ e).0
blank_at (x ∷ numbers) e (suc i) = blank_at numbers (both _ _ e).1 i

pub blank_zeros : (numbers : List ℕ) (start end : ℕ) → blank (take (end - start) (drop start numbers)) ≡ true → Zeros numbers start end
blank_zeros numbers start end e place a b =
    let p : place ≡ start + (place - start) = omega arith in
    let part = take (end - start) (drop start numbers) in
    rw p (sym (get_or-take (end - start) (drop start numbers) (place - start) 0 (omega arith) ∙ get_or-drop start numbers (place - start) 0) ∙ blank_at part e (place - start))

-- Rows that f reads up to k, and the empty one from there on, are all that f reads.
padded_span : {A : Type 0} (f : ℕ → A) (d : A) (n k : ℕ) → k ≤ n → ((i : ℕ) → k ≤ i → i < n → f i ≡ d) → padded n d (span f 0 k) ≡ span f 0 n
padded_span f d n k low empty =
    let l = padded n d (span f 0 k) in
    let s = length_span f k in
    sym (span_list f d l n (length_padded d (span f 0 k) n (omega arith)) (λ i h.
    split (ltb i k) (λ q. let g = ltb-true i k q in at_span f k i d g refl ∙ sym (padded_at d (span f 0 k) n i (omega arith)))
    (λ q. let g = ltb-false i k q in empty i g h ∙ sym (padded_past d (span f 0 k) n i (omega arith)))))

module _ (r : List ℕ) where
  -- A ROW OF ZEROS is the empty row, and fits.
  module _ (k : ℕ) (h : SignalsPast r k) (i : ℕ) (a : k ≤ i) (b : i < store) where
    signal_zero : (p : ℕ) → signal_place i ≤ p → p < signal_place i + 5 → at r p ≡ 0
    signal_zero p c d = h.zeros p (omega arith) (omega arith)

    pub signal_none : signal_of r i ≡ no_signal
    unfolding signal_of narrow
    signal_none =
        rw (signal_zero (signal_place i) (omega arith) (omega arith), signal_zero (signal_place i + 1) (omega arith) (omega arith), signal_zero (signal_place i + 2) (omega arith) (omega arith), signal_zero (signal_place i + 3) (omega arith) (omega arith), signal_zero (signal_place i + 4) (omega arith) (omega arith))

    pub signal_fine : signal_fits r i ≡ true
    unfolding signal_fits
    signal_fine =
        let w = signal_zero (signal_place i + 1) (omega arith) (omega arith) in
        let x = signal_zero (signal_place i + 2) (omega arith) (omega arith) in
        let y = signal_zero (signal_place i + 3) (omega arith) (omega arith) in
        let z = signal_zero (signal_place i + 4) (omega arith) (omega arith) in
        below_fields r (signal_fields i) (omega arith, (omega arith, (omega arith, (omega arith, tt))))

  module _ (k : ℕ) (h : NodesPast r k) (i : ℕ) (a : k ≤ i) (b : i < nodes) where
    visits_zero : at r (visits_place i) ≡ 0
    visits_zero = h.visits (visits_place i) (omega arith) (omega arith)

    streak_zero : (p : ℕ) → streak_place i ≤ p → p < streak_place i + 2 → at r p ≡ 0
    streak_zero p c d = h.streaks p (omega arith) (omega arith)

    result_zero : (p : ℕ) → result_place i ≤ p → p < result_place i + 6 → at r p ≡ 0
    result_zero p c d = h.results p (omega arith) (omega arith)

    pub visits_none : visits_of r i ≡ no_visits
    unfolding visits_of narrow
    visits_none = rw visits_zero

    pub streak_none : streak_of r i ≡ no_streak
    unfolding streak_of narrow
    streak_none = rw (streak_zero (streak_place i) (omega arith) (omega arith), streak_zero (streak_place i + 1) (omega arith) (omega arith))

    pub result_none : result_of r i ≡ no_node_result
    unfolding result_of output_of narrow when◌then◌else◌
    result_none =
        rw (result_zero (result_place i) (omega arith) (omega arith), result_zero (result_place i + 1) (omega arith) (omega arith), result_zero (result_place i + 2) (omega arith) (omega arith))

    pub node_fine : node_fits r i ≡ true
    unfolding node_fits output_fits when◌then◌else◌
    node_fine =
        let v = visits_zero in
        let s = streak_zero (streak_place i) (omega arith) (omega arith) in
        let t = streak_zero (streak_place i + 1) (omega arith) (omega arith) in
        let x = result_zero (result_place i) (omega arith) (omega arith) in
        let y = result_zero (result_place i + 1) (omega arith) (omega arith) in
        of_both _ _ (below_fields r (node_fields i) (omega arith, (omega arith, (omega arith, (omega arith, (omega arith, tt))))))
        (rw (result_zero (result_place i + 2) (omega arith) (omega arith), result_zero (result_place i + 3) (omega arith) (omega arith), result_zero (result_place i + 4) (omega arith) (omega arith), result_zero (result_place i + 5) (omega arith) (omega arith)))

  -- THE WHOLE RECORD, read by count.
  pub rows_record : {used : Used} → Past r used → record_rows used.signals used.nodes r ≡ record_of r
  unfolding record_rows record_of
  rows_record {used} h =
      let s = h.signals in
      let n = h.nodes in
      rw (
        padded_span (signal_of r) no_signal store used.signals s.low (signal_none _ s),
        padded_span (visits_of r) no_visits nodes used.nodes n.low (visits_none _ n),
        padded_span (streak_of r) no_streak nodes used.nodes n.low (streak_none _ n),
        padded_span (result_of r) no_node_result nodes used.nodes n.low (result_none _ n),
      )

-- A test of the first k numbers is one of all where those past k pass.
pub below_more : (k n : ℕ) (p : ℕ → Bool) → k ≤ n → ((i : ℕ) → k ≤ i → i < n → p i ≡ true) → below k p ≡ below n p
below_more k n p low past =
    split (below k p)
    (λ e. e ∙ sym (at_below n p (λ i h. split (ltb i k) (λ q. below_at k p e i (ltb-true i k q)) (λ q. past i (ltb-false i k q) h))))
    (λ e. e ∙ sym (split (below n p) (λ g. absurd (false≢true (sym e ∙ at_below k p (λ i h. below_at n p g i (omega arith))))) (λ g. g)))

pub rows_fit : (r : List ℕ) {used : Used} → Past r used → (head_fits r && below used.signals (signal_fits r) && below used.nodes (node_fits r)) ≡ record_fits r
unfolding record_fits
rows_fit r {used} h =
    let s = h.signals in
    let n = h.nodes in
    rw (below_more used.signals store (signal_fits r) s.low (signal_fine r _ s), below_more used.nodes nodes (node_fits r) n.low (node_fine r _ n))

-- ROWS READ into an array of n empty ones: the first k.
pub rows_padded : {A : Type 0} (d : A) (n k : ℕ) (f : ℕ → A) {part : List A} → k ≤ n → part ≡ span f 0 (length (take k (replicate n d))) → part ++ drop k (replicate n d) ≡ padded n d (span f 0 k)
unfolding padded
rows_padded d n k f low e =
    let l : length (take k (replicate n d)) ≡ k = length-take-le k (replicate n d) (omega (arith, length-replicate n d)) in
    let s = length_span f k in
    rw (e, l, s) (rw drop-replicate)
