-- What the sets of 14 and 15 mean: a node is in the set exactly if a trail of routes leads there from start, or from there to an end.
use Rattle.std.specs.Prelude.{◌≡◌, Bool, ◌⊎◌}
use Rattle.std.proofs.Math.Path.{refl}
use Rattle.std.proofs.Common.{sym, ◌∙◌, arith, pow_pos}
use Rattle.std.proofs.Math.Bool.{true, false}
use Rattle.std.proofs.lemmas.Bool.{false≢true}
use Rattle.std.proofs.Math.Logic.{inl, inr, ⊎_elim}
use mathlib.Core.List.{List, [], ◌∷◌}
use Prim.Native.Nat.{ℕ, zero, suc, ◌^◌, ◌≤◌, ◌<◌}
use Rattle.std.proofs.Math.Dec.{leb, eqb}
use Rattle.std.proofs.Math.Pow.{pow-lt}
use Rattle.std.proofs.lemmas.Nat.{or_lt}
use borrow.Author.Tests.{eq-eqb, eqb-true, leb-true, le-leb}
use Rattle.laws.specs.Bool.{when◌then◌else◌, split}
use Rattle.laws.specs.Rows.{span}
use Rattle.laws.specs.In.{In, head, tail, in_span, span_in}
use Rattle.workflow.specs.Code.{complete}
use Rattle.workflow.specs.View.{Workflow}
use Rattle.workflow.specs.Lookup.{node_of}
use Rattle.workflow.specs.declared.Route.{Route}
use Rattle.graph.specs.Sets.{has, mark, turned, spread, pass, repeated, closed, with_ends, reached, reaching_end}
use Rattle.graph.specs.Bits.{has_none, has_power, has_mark, or_cases, or_left, or_right, lt_or_ge, same_set, Under, lacking, lacking_le, lacking_same}
use Rattle.graph.specs.Accepted.{Rules, inside}

-- A trail of routes.
pub data Reaches (xs : List Route) (goal : ℕ) : ℕ → Type 0 where
  here : Reaches xs goal goal
  step : {x : Route} → In x xs → Reaches xs goal x.target → Reaches xs goal x.node

-- A trail from a set, along the routes or against them.
pub data Trail (b : Bool) (xs : List Route) (s : ℕ) : ℕ → Type 0 where
  first : {n : ℕ} → has s n ≡ true → Trail b xs s n
  next : {x : Route} → In x xs → Trail b xs s (turned b x).node → Trail b xs s (turned b x).target

-- WHAT IS IN THE SET HAS A CHAIN.
module _ (b : Bool) (xs : List Route) (s : ℕ) where
  abbrev Trails : ℕ → Type 0
  Trails t = (n : ℕ) → has t n ≡ true → Trail b xs s n

  spread_trails : (t : ℕ) (x : Route) → In x xs → Trails t → Trails (spread t (turned b x))
  unfolding when◌then◌else◌
  spread_trails t x i h n = go (has t (turned b x).node) refl
    where
      go : (c : Bool) → has t (turned b x).node ≡ c → has (when c then mark t (turned b x).target else t) n ≡ true → Trail b xs s n
      go false e p = h n p
      go true e p =
          ⊎_elim (λ q. h n q) (λ (q : eqb n (turned b x).target ≡ true). rw (eqb-true n (turned b x).target q) (next i (h (turned b x).node e)))
          (or_cases (has t n) (eqb n (turned b x).target) (sym (has_mark t (turned b x).target n) ∙ p))

  pass_trails : (ys : List Route) → ((x : Route) → In x ys → In x xs) → (t : ℕ) → Trails t → Trails (pass b ys t)
  unfolding pass
  pass_trails [] i t h = h
  pass_trails (y ∷ ys) i t h = pass_trails ys (λ x m. i x (tail m)) (spread t (turned b y)) (spread_trails t y (i y head) h)

  pub repeated_trails : (k t : ℕ) → Trails t → Trails (repeated k (pass b xs) t)
  unfolding repeated
  repeated_trails zero t h = h
  repeated_trails (suc k) t h = repeated_trails k (pass b xs t) (pass_trails xs (λ x m. m) t h)

-- WHAT HAS A CHAIN IS IN THE SET: so many passes end at a set that one more does not change.
repeated_fixed : (k : ℕ) (g : ℕ → ℕ) (s : ℕ) → g s ≡ s → repeated k g s ≡ s
unfolding repeated
repeated_fixed zero g s e = refl
repeated_fixed (suc k) g s e = rw e (repeated_fixed k g s e)

module _ (k : ℕ) (g : ℕ → ℕ) (up : (s : ℕ) → Under s (g s)) (low : (s : ℕ) → s < 2 ^ k → g s < 2 ^ k) where
  stays : (s : ℕ) → s < 2 ^ k → lacking k s ≤ lacking k (g s) → g s ≡ s
  stays s h l = sym (same_set k s (g s) h (low s h) (lacking_same k s (g s) (up s) l))

  settled : (j s : ℕ) → s < 2 ^ k → lacking k s ≤ j → g (repeated j g s) ≡ repeated j g s
  unfolding repeated
  settled zero s h l = stays s h (omega arith)
  settled (suc j) s h l =
      ⊎_elim (λ (m : lacking k (g s) < suc j). settled j (g s) (low s h) (omega arith))
      (λ (m : suc j ≤ lacking k (g s)). let e : g s ≡ s = stays s h (omega arith) in rw (e, repeated_fixed j g s e) e)
      (lt_or_ge (lacking k (g s)) (suc j))

  grows : (j s : ℕ) → Under s (repeated j g s)
  unfolding repeated
  grows zero s n h = h
  grows (suc j) s n h = grows j (g s) n (up s n h)

-- a pass keeps what a set has, and adds where a route leads
module _ (b : Bool) where
  follow_keeps : (t : ℕ) (x : Route) → Under t (spread t x)
  unfolding when◌then◌else◌
  follow_keeps t x n h = split (has t x.node) (λ e. rw (e, has_mark t x.target n) (or_left _ _ h)) (λ e. rw e h)

  pass_keeps : (ys : List Route) (t : ℕ) → Under t (pass b ys t)
  unfolding pass
  pass_keeps [] t n h = h
  pass_keeps (y ∷ ys) t n h = pass_keeps ys (spread t (turned b y)) n (follow_keeps t (turned b y) n h)

  pass_adds : (ys : List Route) (t : ℕ) {x : Route} → In x ys → has t (turned b x).node ≡ true → has (pass b ys t) (turned b x).target ≡ true
  unfolding pass when◌then◌else◌
  pass_adds [] t i h = elim i [ ]
  pass_adds (x ∷ ys) t head h =
      pass_keeps ys (spread t (turned b x)) (turned b x).target
      (rw (h, has_mark t (turned b x).target (turned b x).target) (or_right _ _ (eq-eqb (turned b x).target (turned b x).target refl)))
  pass_adds (y ∷ ys) t {x} (tail i) h = pass_adds ys (spread t (turned b y)) i (follow_keeps t (turned b y) (turned b x).node h)

  follow_low : (k t : ℕ) (x : Route) → t < 2 ^ k → x.target < k → spread t x < 2 ^ k
  unfolding when◌then◌else◌
  follow_low k t x h l = split (has t x.node) (λ e. rw e (or_lt k t (2 ^ x.target) h (pow-lt l))) (λ e. rw e h)

  pass_low : (k : ℕ) (ys : List Route) (t : ℕ) → ((x : Route) → In x ys → (turned b x).target < k) → t < 2 ^ k → pass b ys t < 2 ^ k
  unfolding pass
  pass_low k [] t r h = h
  pass_low k (y ∷ ys) t r h = pass_low k ys (spread t (turned b y)) (λ x i. r x (tail i)) (follow_low k t (turned b y) h (r y head))

turned_inside : (b : Bool) (k : ℕ) (x : Route) → (x.node < k) × (x.target < k) → (turned b x).target < k
turned_inside true k x r = r.0
turned_inside false k x r = r.1

module _ (f : Workflow) (r : Rules f) (b : Bool) (s : ℕ) (low : s < 2 ^ f.node_count) where
  passes_low : (t : ℕ) → t < 2 ^ f.node_count → pass b f.routes t < 2 ^ f.node_count
  passes_low t l = pass_low b _ f.routes t (λ x i. turned_inside b _ x (inside f r x i)) l

  pub closed_whole : (n : ℕ) → Trail b f.routes s n → has (closed f b s) n ≡ true
  closed_whole n (first p) = grows f.node_count (pass b f.routes) (pass_keeps b f.routes) passes_low f.node_count s n p
  closed_whole n (next {x} i q) =
      let e : pass b f.routes (closed f b s) ≡ closed f b s =
      settled f.node_count (pass b f.routes) (pass_keeps b f.routes) passes_low f.node_count s low (lacking_le f.node_count s) in
      rw e at (pass_adds b f.routes (closed f b s) i (closed_whole (turned b x).node q))

-- CHAINS AS DOCUMENT 01 SAYS THEM.
onward : (xs : List Route) {x : Route} {a : ℕ} → Reaches xs x.node a → In x xs → Reaches xs x.target a
onward xs here i = step i here
onward xs (step j p) i = step j (onward xs p i)

from_start : (xs : List Route) (a n : ℕ) → Trail false xs (2 ^ a) n → Reaches xs n a
from_start xs a n (first p) = rw (eqb-true n a (sym (has_power a n) ∙ p)) here
from_start xs a n (next {x} i c) = onward xs (from_start xs a x.node c) i

to_trail : (xs : List Route) (s a n : ℕ) → has s a ≡ true → Reaches xs n a → Trail false xs s n
to_trail xs s a n h p = go p (first h)
  where
    go : {m : ℕ} → Reaches xs n m → Trail false xs s m → Trail false xs s n
    go here c = c
    go (step i q) c = go q (next i c)

-- 14: the set has a node exactly if a trail of routes leads there from start.
module _ (f : Workflow) (r : Rules f) (start : f.start < f.node_count) where
  pub reached_trail : (n : ℕ) → has (reached f) n ≡ true → Reaches f.routes n f.start
  unfolding reached
  reached_trail n h = from_start f.routes f.start n (repeated_trails false f.routes (2 ^ f.start) f.node_count (2 ^ f.start) (λ m p. first p) n h)

  pub trail_reached : (n : ℕ) → Reaches f.routes n f.start → has (reached f) n ≡ true
  unfolding reached
  trail_reached n p =
      closed_whole f r false (2 ^ f.start) (pow-lt start) n
      (to_trail f.routes (2 ^ f.start) f.start n (has_power f.start f.start ∙ eq-eqb f.start f.start refl) p)

-- The set of ends has a node exactly if it is a complete or fail node.
pub record End (f : Workflow) (n : ℕ) : Type 0 where
  pub there : n < f.node_count
  pub is_end : complete ≤ (node_of f n).kind

with_end : (f : Workflow) (s i : ℕ) → Under s (when leb complete (node_of f i).kind then mark s i else s)
unfolding when◌then◌else◌
with_end f s i n h = split (leb complete (node_of f i).kind) (λ e. rw (e, has_mark s i n) (or_left _ _ h)) (λ e. rw e h)

module _ (f : Workflow) where
  ends_keep : (ns : List ℕ) (s : ℕ) → Under s (with_ends f ns s)
  unfolding with_ends
  ends_keep [] s n h = h
  ends_keep (i ∷ ns) s n h = ends_keep ns _ n (with_end f s i n h)

  ends_add : (ns : List ℕ) (s : ℕ) {n : ℕ} → In n ns → complete ≤ (node_of f n).kind → has (with_ends f ns s) n ≡ true
  unfolding with_ends when◌then◌else◌
  ends_add [] s m h = elim m [ ]
  ends_add (n ∷ ns) s head h =
      ends_keep ns _ n (rw (le-leb complete (node_of f n).kind h, has_mark s n n) (or_right _ _ (eq-eqb n n refl)))
  ends_add (i ∷ ns) s (tail m) h = ends_add ns _ m h

  ends_only : (ns : List ℕ) (s n : ℕ) → has (with_ends f ns s) n ≡ true → (has s n ≡ true) ⊎ ((In n ns) × (complete ≤ (node_of f n).kind))
  unfolding with_ends when◌then◌else◌
  ends_only [] s n h = inl h
  ends_only (i ∷ ns) s n h = ⊎_elim (λ p. one p) (λ (p : (In n ns) × (complete ≤ (node_of f n).kind)). inr (tail p.0, p.1)) (ends_only ns _ n h)
    where
      one : has (when leb complete (node_of f i).kind then mark s i else s) n ≡ true → (has s n ≡ true) ⊎ ((In n (i ∷ ns)) × (complete ≤ (node_of f n).kind))
      one p =
          split (leb complete (node_of f i).kind)
          (λ e. ⊎_elim (λ q. inl q) (λ (q : eqb n i ≡ true). let z : n ≡ i = eqb-true n i q in inr (rw z head, rw z (leb-true _ _ e)))
          (or_cases (has s n) (eqb n i) (sym (has_mark s i n) ∙ (rw e at p))))
          (λ e. inl (rw e at p))

ends_low : (f : Workflow) (k : ℕ) (ns : List ℕ) (s : ℕ) → ((n : ℕ) → In n ns → n < k) → s < 2 ^ k → with_ends f ns s < 2 ^ k
unfolding with_ends when◌then◌else◌
ends_low f k [] s h l = l
ends_low f k (i ∷ ns) s h l =
    ends_low f k ns _ (λ n p. h n (tail p)) (split (leb complete (node_of f i).kind) (λ e. rw e (or_lt k s (2 ^ i) l (pow-lt (h i head)))) (λ e. rw e l))

-- 15: the set has a node exactly if a trail of routes leads from there to an end.
pub record Ending (f : Workflow) (n : ℕ) : Type 0 where
  pub goal : ℕ
  pub end : End f goal
  pub trail : Reaches f.routes goal n

module _ (f : Workflow) (r : Rules f) where
  abbrev ends : ℕ
  ends = with_ends f (span (λ n. n) 0 f.node_count) 0

  pub ends_fit : ends < 2 ^ f.node_count
  ends_fit =
      let k = f.node_count in
      ends_low f k (span (λ n. n) 0 k) 0 (λ n p. span_in k 0 k n (omega arith) p) (pow_pos k)

  is_an_end : (n : ℕ) → has ends n ≡ true → End f n
  is_an_end n h =
      ⊎_elim (λ p. absurd (false≢true (sym (has_none n) ∙ p)))
      (λ (p : (In n (span (λ x. x) 0 f.node_count)) × (complete ≤ (node_of f n).kind)).
      record { there = span_in f.node_count 0 f.node_count n (omega arith) p.0; is_end = p.1 })
      (ends_only f (span (λ n. n) 0 f.node_count) 0 n h)

  to_end : (n : ℕ) → Trail true f.routes ends n → Ending f n
  to_end n (first p) = record { goal = n; end = is_an_end n p; trail = here }
  to_end n (next {x} i c) = let e = to_end x.target c in record { goal = e.goal; end = e.end; trail = step i e.trail }

  against : (goal n : ℕ) → has ends goal ≡ true → Reaches f.routes goal n → Trail true f.routes ends n
  against goal n h here = first h
  against goal n h (step {x} i p) = next i (against goal x.target h p)

  pub ending_trail : (n : ℕ) → has (reaching_end f) n ≡ true → Ending f n
  unfolding reaching_end
  ending_trail n h = to_end n (repeated_trails true f.routes ends f.node_count ends (λ m p. first p) n h)

  pub trail_ending : (n : ℕ) → Ending f n → has (reaching_end f) n ≡ true
  unfolding reaching_end
  trail_ending n e =
      let k = f.node_count in
      let a : has ends e.goal ≡ true = ends_add f (span (λ n. n) 0 k) 0 (in_span (λ n. n) k 0 k e.goal (omega arith) (omega arith) e.end.there) e.end.is_end in
      closed_whole f r true ends ends_fit n (against e.goal n a e.trail)
