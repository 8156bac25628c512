-- Where sorted rows stand: what a binary search finds.
use Rattle.std.specs.Prelude.{◌≡◌, refl, Bool, true, false, not, List, length, get_or, ltb, leb, eqb}
use Rattle.std.specs.List.{prefix_len}
use Rattle.std.specs.List.Sorted.{IsNonDecreasing, IsPartitionPoint}
use Rattle.std.proofs.Math.Path.{sym}
use Rattle.std.proofs.Common.{◌∙◌, ap}
use Rattle.std.proofs.lemmas.Bool.{false≢true}
use Prim.Native.Nat.{ℕ, zero, suc, ◌+◌, ◌-◌, ◌≤◌, ◌<◌}
use native.Mathlib.Omega.{arith}
use borrow.Author.Tests.{eq-eqb, eqb-true, eqb-false, not-true, ltb-true, ltb-false, leb-true, lt-ltb, le-ltb, le-leb}
use Rattle.laws.specs.Bool.{when◌then◌else◌, ◌and◌, ◌or◌, split, both}
use Rattle.laws.specs.Rows.{rows, span, span_more, span_none, length_span, at_span}
use Rattle.laws.specs.First.{first}
use Rattle.laws.specs.Every.{every}
use Rattle.workflow.specs.Layout as layout
use Rattle.workflow.specs.View.{Workflow, workflow, cell, route_rows, limit_rows, declared_rows}
use Rattle.graph.specs.Form.{formed_route, formed_limit, formed_declared, chained_from, chained, ascends, ascending, rising, form}
use Rattle.graph.specs.FormLaws.{rows_ascend, rows_rise, routes_ascending, limits_ascending, declared_rising}

-- THE CUT: the lowest number below k that fails, or k.
cut_from : (ℕ → Bool) → (i m : ℕ) → ℕ
cut_from p i zero = i
cut_from p i (suc m) = when p i then cut_from p (i + 1) m else i

pub cut : (ℕ → Bool) → ℕ → ℕ
cut p k = cut_from p 0 k

pub record Cut (p : ℕ → Bool) (k c : ℕ) : Type 0 where
  pub within : c ≤ k
  pub below : (j : ℕ) → j < c → p j ≡ true
  pub fails : c < k → p c ≡ false

-- what passes below i and at i passes below i + 1
one_up : (p : ℕ → Bool) (i j : ℕ) → ((j : ℕ) → j < i → p j ≡ true) → p i ≡ true → j < i + 1 → p j ≡ true
one_up p i j b t h = split (eqb j i) (λ e. ap p (eqb-true j i e) ∙ t) (λ e. let d : j ≡ i → ⊥ = eqb-false j i e in b j (omega arith))

cut_from_cuts : (p : ℕ → Bool) (k i m : ℕ) → k ≡ i + m → ((j : ℕ) → j < i → p j ≡ true) → Cut p k (cut_from p i m)
unfolding cut_from when◌then◌else◌
cut_from_cuts p k i zero e b = record { within = omega arith; below = b; fails = λ h. absurd (omega arith) }
cut_from_cuts p k i (suc m) e b =
    split (p i) (λ t. rw t (cut_from_cuts p k (i + 1) m (omega arith) (λ j h. one_up p i j b t h)))
    (λ t. rw t (record { within = omega arith; below = b; fails = λ h. t }))

pub cuts : (p : ℕ → Bool) (k : ℕ) → Cut p k (cut p k)
unfolding cut
cuts p k = cut_from_cuts p k 0 k (omega arith) (λ j h. absurd (omega arith))

-- there is one cut
not_under : {p : ℕ → Bool} {k c d : ℕ} → Cut p k c → Cut p k d → d ≤ c
not_under {p} {k} {c} {d} x y =
    let u = x.within in
    let v = y.within in
    split (ltb c d) (λ e. let l = ltb-true c d e in absurd (false≢true (sym (x.fails (omega arith)) ∙ y.below c l))) (λ e. ltb-false c d e)

pub the_cut : {p : ℕ → Bool} {k c : ℕ} → Cut p k c → c ≡ cut p k
the_cut {p} {k} x =
    let u = not_under x (cuts p k) in
    let v = not_under (cuts p k) x in
    omega arith

same_cut : (p q : ℕ → Bool) (k : ℕ) → ((j : ℕ) → j < k → p j ≡ q j) → cut p k ≡ cut q k
same_cut p q k s =
    let x = cuts p k in
    let u = x.within in
    the_cut (record { within = x.within; below = λ j h. sym (s j (omega arith)) ∙ x.below j h; fails = λ h. sym (s _ h) ∙ x.fails h })

-- THE ORDER OF PAIRS.
data Ascends (n o n' o' : ℕ) : Type 0 where
  by_node : n < n' → Ascends n o n' o'
  by_outcome : n ≡ n' → o < o' → Ascends n o n' o'

ascended : (n o n' o' : ℕ) → ascends n o n' o' ≡ true → Ascends n o n' o'
unfolding ascends ◌or◌
ascended n o n' o' e =
    split (ltb n n') (λ h. by_node (ltb-true n n' h))
    (λ h. let g : eqb n n' and ltb o o' ≡ true = rw h at e in let f = both _ _ g in by_outcome (eqb-true n n' f.0) (ltb-true o o' f.1))

by_ascends : {n o n' o' : ℕ} → Ascends n o n' o' → ascends n o n' o' ≡ true
unfolding ascends ◌or◌ ◌and◌
by_ascends {n} {o} {n'} {o'} (by_node h) = rw (lt-ltb n n' h)
by_ascends {n} {o} {n'} {o'} (by_outcome e h) = rw (le-ltb n n' (omega arith), eq-eqb n n' e, lt-ltb o o' h)

both_ascend : {a b c d x y : ℕ} → Ascends a b c d → Ascends c d x y → Ascends a b x y
both_ascend (by_node h) (by_node g) = by_node (omega arith)
both_ascend (by_node h) (by_outcome e g) = by_node (omega arith)
both_ascend (by_outcome e h) (by_node g) = by_node (omega arith)
both_ascend (by_outcome e h) (by_outcome f g) = by_outcome (omega arith) (omega arith)

ascends_on : (a b c d x y : ℕ) → ascends a b c d ≡ true → ascends c d x y ≡ true → ascends a b x y ≡ true
ascends_on a b c d x y e f = by_ascends (both_ascend (ascended a b c d e) (ascended c d x y f))

leb_on : (a b c : ℕ) → leb a b ≡ true → leb b c ≡ true → leb a c ≡ true
leb_on a b c e f =
    let g = leb-true a b e in
    let h = leb-true b c f in
    le-leb a c (omega arith)

-- A CHAIN: each row stands in the relation to every later one, not to the next alone.
module _ {A : Type 0} (r : A → A → Bool) (f : ℕ → A) (k : ℕ) where
  next_from : (d i : ℕ) → chained_from r (f i) (span f (i + 1) k) ≡ true → i + d + 1 < k → r (f (i + d)) (f (i + d + 1)) ≡ true
  unfolding chained_from
  next_from zero i e h =
      let z : i + 0 ≡ i = omega arith in
      rw z (both _ _ (rw (span_more f (i + 1) k (omega arith)) at e)).0
  next_from (suc d) i e h =
      let z : i + suc d ≡ i + 1 + d = omega arith in
      rw z (next_from d (i + 1) (both _ _ (rw (span_more f (i + 1) k (omega arith)) at e)).1 (omega arith))

  next : chained r (span f 0 k) ≡ true → (i : ℕ) → i + 1 < k → r (f i) (f (i + 1)) ≡ true
  unfolding chained
  next e i h =
      let z : 0 + i ≡ i = omega arith in
      rw z at (next_from i 0 (rw (span_more f 0 k (omega arith)) at e) (omega arith))

  module _ (on : (x y z : A) → r x y ≡ true → r y z ≡ true → r x z ≡ true) (e : chained r (span f 0 k) ≡ true) where
    far : (d i : ℕ) → i + suc d < k → r (f i) (f (i + suc d)) ≡ true
    far zero i h = next e i h
    far (suc d) i h =
        let z : i + suc (suc d) ≡ i + suc d + 1 = omega arith in
        rw z (on _ _ _ (far d i (omega arith)) (next e (i + suc d) (omega arith)))

    pairwise : (i j : ℕ) → i < j → j < k → r (f i) (f j) ≡ true
    pairwise i j l h =
        let z : j ≡ i + suc (j - (i + 1)) = omega arith in
        rw z (far (j - (i + 1)) i (omega arith))

-- ROWS BY COLUMN.
-- The number of rows before a pair, and before a key.
unfoldable pub rows_before : List ℕ → (major minor count x y : ℕ) → ℕ
rows_before w a b k x y = cut (λ j. ascends (cell w a j) (cell w b j) x y) k

unfoldable pub rows_below : List ℕ → (start count key : ℕ) → ℕ
rows_below w c k n = cut (λ j. ltb (cell w c j) n) k

pub rows_before_cuts : (w : List ℕ) (a b k x y : ℕ) → Cut (λ j. ascends (cell w a j) (cell w b j) x y) k (rows_before w a b k x y)
unfolding rows_before
rows_before_cuts w a b k x y = cuts _ k

-- Before (x, 0) stands what is below x.
before_first : (n o x : ℕ) → ascends n o x 0 ≡ ltb n x
unfolding ascends ◌or◌ ◌and◌
before_first n o x =
    split (ltb n x) (λ h. rw h)
    (λ h. rw (h, le-ltb o 0 (omega arith)) (split (eqb n x) (λ e. rw e) (λ e. rw e)))

pub below_before : (w : List ℕ) (a b k x : ℕ) → rows_before w a b k x 0 ≡ rows_below w a k x
unfolding rows_before rows_below
below_before w a b k x = same_cut _ _ k (λ j h. before_first (cell w a j) (cell w b j) x)

pub rows_below_within : (w : List ℕ) (c k n : ℕ) → rows_below w c k n ≤ k
unfolding rows_below
rows_below_within w c k n = (cuts (λ j. ltb (cell w c j) n) k).within

-- Pairs that ascend strictly, and numbers that do not fall.
pub record Ascending (w : List ℕ) (a b k : ℕ) : Type 0 where
  pub major_fits : a + k ≤ layout.numbers
  pub minor_fits : b + k ≤ layout.numbers
  pub ascend : (i j : ℕ) → i < j → j < k → ascends (cell w a i) (cell w b i) (cell w a j) (cell w b j) ≡ true

pub record Rising (w : List ℕ) (c k : ℕ) : Type 0 where
  pub fits : c + k ≤ layout.numbers
  pub rise : (i j : ℕ) → i ≤ j → j < k → cell w c i ≤ cell w c j

-- at two places of which one is not after the other
at_or_before : {A : Type 0} (i j : ℕ) → i ≤ j → (i ≡ j → A) → (i < j → A) → A
at_or_before i j h f g = split (eqb i j) (λ e. f (eqb-true i j e)) (λ e. let d = eqb-false i j e in g (omega arith))

not_above : {n o n' o' : ℕ} → Ascends n o n' o' → n ≤ n'
not_above (by_node h) = omega arith
not_above (by_outcome e h) = omega arith

pub ascending_rising : {w : List ℕ} {a b k : ℕ} → Ascending w a b k → Rising w a k
ascending_rising {w} {a} s =
    record {
      fits = s.major_fits;
      rise = λ i j l h. at_or_before i j l (λ q. rw q (omega arith)) (λ g. not_above (ascended _ _ _ _ (s.ascend i j g h)));
    }

-- A walk along the rows of one key, from the first to the end.
record Passing (w : List ℕ) (c k from key i : ℕ) : Type 0 where
  start : from ≤ i
  within : i ≤ k
  below : (j : ℕ) → j < i → ltb (cell w c j) (key + 1) ≡ true

below_more : (a b : ℕ) → ltb a b ≡ true → ltb a (b + 1) ≡ true
below_more a b e = let h = ltb-true a b e in lt-ltb a (b + 1) (omega arith)

module _ {w : List ℕ} {c k from : ℕ} (key : ℕ) (rising : Rising w c k) (first_row : from ≡ rows_below w c k key) where
  it_starts : Cut (λ j. ltb (cell w c j) key) k from
  unfolding rows_below
  it_starts = rw first_row (cuts _ k)

  passing_start : Passing w c k from key from
  passing_start = record { start = omega arith; within = it_starts.within; below = λ j h. below_more _ key (it_starts.below j h) }

  module _ {i : ℕ} (inv : Passing w c k from key i) where
    passing_next : i < k → cell w c i ≡ key → Passing w c k from key (i + 1)
    passing_next h e =
        let s = inv.start in
        record {
          start = omega arith;
          within = omega arith;
          below = λ j l. one_up (λ n. ltb (cell w c n) (key + 1)) i j inv.below (lt-ltb (cell w c i) (key + 1) (omega arith)) l;
        }

    passing_stop : i < k → (cell w c i ≡ key → ⊥) → i ≡ rows_below w c k (key + 1)
    unfolding rows_below
    passing_stop h d =
        let s = inv.start in
        let l : key ≤ cell w c from = ltb-false (cell w c from) key (it_starts.fails (omega arith)) in
        let r = rising.rise from i s h in
        the_cut (record { within = inv.within; below = inv.below; fails = λ _. le-ltb (cell w c i) (key + 1) (omega arith) })

    passing_end : k ≤ i → k ≡ rows_below w c k (key + 1)
    unfolding rows_below
    passing_end h =
        let l = inv.within in
        the_cut (record { within = omega arith; below = λ j g. inv.below j (omega arith); fails = λ g. absurd (omega arith) })

  -- the first rows from `from` on that have the key
  run_from : (m i : ℕ) → k ≡ i + m → Passing w c k from key i → i + prefix_len (λ x. eqb x key) (rows (cell w c) i m) ≡ rows_below w c k (key + 1)
  unfolding rows
  run_from zero i e inv =
      let z : i + 0 ≡ k = omega arith in
      rw z (passing_end inv (omega arith))
  run_from (suc m) i e inv =
      split (eqb (cell w c i) key)
      (λ t.
      let z : i + (1 + prefix_len (λ x. eqb x key) (rows (cell w c) (i + 1) m)) ≡ i + 1 + prefix_len (λ x. eqb x key) (rows (cell w c) (i + 1) m) = omega arith in
      rw (t, z) (run_from m (i + 1) (omega arith) (passing_next inv (omega arith) (eqb-true (cell w c i) key t))))
      (λ t.
      let z : i + 0 ≡ i = omega arith in
      rw (t, z) (passing_stop inv (omega arith) (eqb-false (cell w c i) key t)))

  pub run_end : from + prefix_len (λ x. eqb x key) (span (cell w c) from k) ≡ rows_below w c k (key + 1)
  unfolding span
  run_end =
      let l = it_starts.within in
      run_from (k - from) from (omega arith) passing_start

-- The column as a list, and where a search for a key parts it.
module _ {w : List ℕ} {c k : ℕ} (rising : Rising w c k) where
  column_at : (j d : ℕ) → j < k → get_or (span (cell w c) 0 k) j d ≡ cell w c j
  column_at j d h = sym (at_span (cell w c) k j d h refl)

  pub rising_list : IsNonDecreasing (span (cell w c) 0 k)
  rising_list i j d l h =
      let n = length_span (cell w c) k in
      rw (column_at i d (omega arith), column_at j d (omega arith)) (rising.rise i j l (omega arith))

  pub parted_below : (key i : ℕ) → i ≤ length (span (cell w c) 0 k) → IsPartitionPoint (λ y. ltb y key ≡ true) (λ y. ltb y key ≡ false) (span (cell w c) 0 k) i → i ≡ rows_below w c k key
  unfolding rows_below
  parted_below key i l h =
      let n = length_span (cell w c) k in
      the_cut
      (record {
        within = omega arith;
        below = λ j g. rw (column_at j 0 (omega arith)) at (h.0 j 0 (omega arith) g);
        fails = λ g. rw (column_at i 0 g) at (h.1 i 0 (omega arith) (omega arith));
      })

-- THE FIRST ROW THAT PASSES, over the rows from i on.
module _ {A B : Type 0} (q : A → Bool) (v : ℕ → A → B) (e : B) (f : ℕ → A) (k : ℕ) where
  pub first_skip : (m i : ℕ) → i + m ≤ k → ((j : ℕ) → i ≤ j → j < i + m → q (f j) ≡ false) → first q v e i (span f i k) ≡ first q v e (i + m) (span f (i + m) k)
  unfolding first when◌then◌else◌
  first_skip zero i h n =
      let z : i + 0 ≡ i = omega arith in
      rw z
  first_skip (suc m) i h n =
      let z : i + suc m ≡ i + 1 + m = omega arith in
      rw (span_more f i k (omega arith), n i (omega arith) (omega arith), z) (first_skip m (i + 1) (omega arith) (λ j a b. n j (omega arith) (omega arith)))

  -- the rows pass where s does
  module _ (s : ℕ → Bool) (same : (j : ℕ) → j < k → q (f j) ≡ s j) {c : ℕ} (at_cut : c ≡ cut (λ j. not (s j)) k) where
    the : Cut (λ j. not (s j)) k c
    the = rw at_cut (cuts _ k)

    skipped : first q v e 0 (span f 0 k) ≡ first q v e c (span f c k)
    skipped =
        let u = the.within in
        let z : 0 + c ≡ c = omega arith in
        rw z at (first_skip c 0 (omega arith) (λ j a b. same j (omega arith) ∙ not-true (s j) (the.below j (omega arith))))

    pub first_none : k ≤ c → e ≡ first q v e 0 (span f 0 k)
    unfolding first
    first_none h = sym (skipped ∙ rw (span_none f c k h))

-- SORTED ROWS.
pub record Sorted (f : Workflow) : Type 0 where
  pub routes : ascending (λ x. x.node) (λ x. x.outcome) f.routes ≡ true
  pub limits : ascending (λ x. x.node) (λ x. x.outcome) f.limits ≡ true
  pub declared : rising (λ x. x.action) f.declared ≡ true

pub form_sorted : (f : Workflow) → form f ≡ true → Sorted f
unfolding form
form_sorted f e =
    let a = (both _ _ (both _ _ (both _ _ e).1).1).1 in
    let b = (both _ _ (both _ _ a).1).1 in
    let c = (both _ _ (both _ _ b).1).1 in
    record { routes = (both _ _ a).0; limits = (both _ _ b).0; declared = (both _ _ c).0 }

-- THE PARTS OF THE FORM.
pub record Parts (f : Workflow) : Type 0 where
  pub few_nodes : f.node_count ≤ layout.node_room
  pub few_actions : f.action_count ≤ layout.action_room
  pub routes_fit : every (formed_route f) f.routes ≡ true
  pub limits_fit : every (formed_limit f) f.limits ≡ true
  pub declared_fit : every (formed_declared f) f.declared ≡ true

pub parts_of : (f : Workflow) → form f ≡ true → Parts f
unfolding form
parts_of f e =
    let counts = (both _ _ e).0 in
    let routes = (both _ _ (both _ _ (both _ _ (both _ _ e).1).1).1).1 in
    let limits = (both _ _ (both _ _ routes).1).1 in
    let declared = (both _ _ (both _ _ limits).1).1 in
    record {
      few_nodes = leb-true _ _ (both _ _ counts).0;
      few_actions = leb-true _ _ (both _ _ (both _ _ (both _ _ (both _ _ counts).1).1).1).0;
      routes_fit = (both _ _ routes).0;
      limits_fit = (both _ _ limits).0;
      declared_fit = (both _ _ declared).0;
    }

-- The columns of sorted rows.
table_ascends : (w : List ℕ) (a b k : ℕ) → a + k ≤ layout.numbers → b + k ≤ layout.numbers → rows_ascend w a b k ≡ true → Ascending w a b k
unfolding rows_ascend
table_ascends w a b k g h e =
    record {
      major_fits = g;
      minor_fits = h;
      ascend = λ i j l m. pairwise (λ i j. ascends (cell w a i) (cell w b i) (cell w a j) (cell w b j)) (λ j. j) k (λ x y z. ascends_on _ _ _ _ _ _) e i j l m;
    }

table_rises : (w : List ℕ) (a k : ℕ) → a + k ≤ layout.numbers → rows_rise w a k ≡ true → Rising w a k
unfolding rows_rise
table_rises w a k g e =
    record {
      fits = g;
      rise = λ i j l h.
          at_or_before i j l (λ q. rw q (omega arith))
          (λ m. leb-true _ _ (pairwise leb (cell w a) k leb_on e i j m h));
    }

module _ (w : List ℕ) (s : Sorted (workflow w)) where
  pub routes_ascend : Ascending w layout.route_node layout.route_outcome (route_rows w)
  routes_ascend = table_ascends w _ _ _ (omega arith) (omega arith) (routes_ascending w ∙ s.routes)

  pub limits_ascend : Ascending w layout.limit_node layout.limit_outcome (limit_rows w)
  limits_ascend = table_ascends w _ _ _ (omega arith) (omega arith) (limits_ascending w ∙ s.limits)

  pub declared_rise : Rising w layout.declared_action (declared_rows w)
  declared_rise = table_rises w _ _ (omega arith) (declared_rising w ∙ s.declared)
