-- How the sets of 14 and 15 are found: a mask of routes for each node, a walk that adds each mask once, and the lowest zero of a set.
use Rattle.std.specs.Prelude.{◌≡◌, refl, Bool, true, false, not, ℕ, zero, suc, ◌+◌, ◌-◌, ◌/◌, ◌%◌, ◌^◌, ◌≤◌, ◌<◌, length, get_or, set, replicate, eqb, ltb, leb, Option, Some, None}
use Rattle.std.proofs.Common.{sym, ◌∙◌, pow-suc, arith, length-set, get_or-set_same, get_or-set_other, pow_pos, pow_mono, eq-eqb, ne_eqb, eqb-true}
use Rattle.std.proofs.Math.Path.{ap}
use Rattle.std.proofs.lemmas.Bool.{false≢true, eqb-false, not-true}
use Rattle.std.proofs.Math.Logic.{⊎_elim}
use mathlib.Core.List.{List, [], ◌∷◌}
use Rattle.std.proofs.Math.Nat.{div-eq_of_lt}
use Rattle.std.proofs.lemmas.List.{length-replicate}
use Rattle.std.proofs.Math.Pow.{pow-lt}
use Rattle.std.specs.Int.Bits.{bit_and, bit_or}
use Rattle.std.proofs.lemmas.Nat.{and_mask, and_le_r, or_lt}
use Rattle.std.specs.Int.Count.{count_trailing_zeros, under}
use Rattle.laws.specs.Bool.{when◌then◌else◌, ◌and◌, ◌or◌, split, both, join, or_false}
use Rattle.laws.specs.Rows.{span, span_more, span_none}
use Rattle.laws.specs.In.{In, head, tail, in_span}
use Rattle.workflow.specs.Code.{complete}
use Rattle.workflow.specs.View.{Workflow, workflow, route_at, route_rows}
use Rattle.workflow.specs.Lookup.{is_0_2, node_of}
use Rattle.workflow.specs.declared.Node.{Node}
use Rattle.workflow.specs.declared.Route.{Route}
use borrow.Author.Tests.{ltb-true, ltb-false}
use Rattle.std.specs.Bool.{then_some}
use Rattle.graph.specs.Sets.{has, mark, turned, closed, with_ends}
use Rattle.graph.specs.Bits.{has_suc, has_zero, has_none, has_or, has_and, has_mark, or_cases, or_left, or_right, lt_or_ge, same_set, Under, lacking, lacking_same}
use Rattle.graph.specs.Lowest.{lowest, Least, is_least, is_none, least}
use Rattle.graph.specs.Accepted.{Rules, inside, sound}
use Rattle.graph.specs.Reach.{Trail, first, next, repeated_trails, closed_whole}

-- The lowest number below the count that a set lacks.
abbrev pub missing : (count set : ℕ) → Option ℕ
missing k s = lowest k (λ n. not (has s n))

-- In format 2: a node that is not reached from a set.
abbrev pub unreached : Workflow → (back : Bool) → (start node : ℕ) → Bool
unreached f b s n = is_0_2 f and not (has (closed f b s) n)

-- The complete and fail nodes.
abbrev pub add_end : (set node kind : ℕ) → ℕ
add_end s n k = when leb complete k then mark s n else s

abbrev pub ends : Workflow → ℕ
ends f = with_ends f (span (λ n. n) 0 f.node_count) 0

-- The masks with one route more, and with all of them: t is in the mask of n where a route leads from n to t.
abbrev pub lead : (ms : List ℕ) → Route → List ℕ
lead ms x = set ms x.node (mark (get_or ms x.node 0) x.target)

unfoldable pub leads : (back : Bool) → List Route → (ms : List ℕ) → List ℕ
leads b [] ms = ms
leads b (x ∷ xs) ms = leads b xs (lead ms (turned b x))

unfoldable pub masks : Workflow → (back : Bool) → List ℕ
masks f b = leads b f.routes (replicate 64 0)

-- A DIGIT of a complement.
has_not : (d s n : ℕ) → s < 2 ^ d → n < d → has (2 ^ d - 1 - s) n ≡ not (has s n)
has_not zero s n h l = absurd (omega arith)
has_not (suc d) s zero h l =
    let r = 2 ^ suc d - 1 - s in
    let p = pow-suc 2 d in
    split (eqb (s % 2) 1)
    (λ e. has_zero r ∙ ne_eqb (r % 2) 1 (λ q. omega (arith, eqb-true (s % 2) 1 e)) ∙ sym (ap not (has_zero s ∙ e)))
    (λ e. let o : s % 2 ≡ 1 → ⊥ = eqb-false (s % 2) 1 e in has_zero r ∙ eq-eqb (r % 2) 1 (omega arith) ∙ sym (ap not (has_zero s ∙ e)))
has_not (suc d) s (suc n) h l =
    let p = pow-suc 2 d in
    let e : (2 ^ suc d - 1 - s) / 2 ≡ 2 ^ d - 1 - s / 2 = omega arith in
    has_suc (2 ^ suc d - 1 - s) n ∙ ap (λ (x : ℕ). has x n) e ∙ has_not d (s / 2) n (omega arith) (omega arith) ∙ sym (ap not (has_suc s n))

-- A set below a power has no number from there on.
has_low : (k s n : ℕ) → s < 2 ^ k → has s n ≡ true → n < k
has_low k s n l h =
    ⊎_elim (λ (p : n < k). p)
    (λ (p : k ≤ n). absurd (false≢true (sym (ap (λ (x : ℕ). eqb (x % 2) 1) (div-eq_of_lt {n = s} {m = 2 ^ n} (omega (arith, pow_mono p)))) ∙ h)))
    (lt_or_ge n k)

-- Sets with the same numbers are the same.
below_power : (n : ℕ) → n < 2 ^ n
below_power zero = omega arith
below_power (suc n) = omega (arith, pow-suc 2 n, below_power n)

alike : (a b : Bool) → (a ≡ true → b ≡ true) → (b ≡ true → a ≡ true) → a ≡ b
alike true b p q = sym (p refl)
alike false true p q = q refl
alike false false p q = refl

equal : (s t : ℕ) → Under s t → Under t s → s ≡ t
equal s t u v =
    same_set (s + t) s t (omega (arith, below_power (s + t))) (omega (arith, below_power (s + t))) (λ n l. alike (has s n) (has t n) (u n) (v n))

-- TRAILING ZEROS: the lowest number of a set.
zeros_below : (d s n : ℕ) → n < count_trailing_zeros d s → has s n ≡ false
unfolding count_trailing_zeros
zeros_below zero s n h = absurd (omega arith)
zeros_below (suc d) s n h = go (s % 2) n refl h (zeros_below d (s / 2))
  where
    go : (r n : ℕ) → s % 2 ≡ r → n < under r (count_trailing_zeros d (s / 2)) → ((m : ℕ) → m < count_trailing_zeros d (s / 2) → has (s / 2) m ≡ false) → has s n ≡ false
    go zero zero e h f = has_zero s ∙ ap (λ (x : ℕ). eqb x 1) e
    go zero (suc n) e h f = has_suc s n ∙ f n (omega arith)
    go (suc r) n e h f = absurd (omega arith)

zeros_at : (d s : ℕ) → count_trailing_zeros d s < d → has s (count_trailing_zeros d s) ≡ true
unfolding count_trailing_zeros
zeros_at zero s h = absurd (omega arith)
zeros_at (suc d) s h = go (s % 2) (count_trailing_zeros d (s / 2)) refl h (zeros_at d (s / 2))
  where
    go : (r t : ℕ) → s % 2 ≡ r → under r t < suc d → (t < d → has (s / 2) t ≡ true) → has s (under r t) ≡ true
    go zero t e h f = has_suc s t ∙ f (omega arith)
    go (suc r) t e h f = has_zero s ∙ eq-eqb (s % 2) 1 (omega arith)

zeros_lt : (d s : ℕ) → s < 2 ^ d → (s ≡ 0 → ⊥) → count_trailing_zeros d s < d
zeros_lt d s l o =
    ⊎_elim (λ (h : count_trailing_zeros d s < d). h)
    (λ (h : d ≤ count_trailing_zeros d s). absurd (o (same_set d s 0 l (pow_pos d) (λ n b. zeros_below d s n (omega arith) ∙ sym (has_none n)))))
    (lt_or_ge (count_trailing_zeros d s) d)

-- THE LOWEST NUMBER that passes, and that a set lacks.
module _ (k : ℕ) (p : ℕ → Bool) where
  the_lowest : (z : ℕ) → z < k → p z ≡ true → ((n : ℕ) → n < z → p n ≡ false) → {x : Option ℕ} → Least k p 0 x → Some z ≡ x
  the_lowest z b t f (is_least y c u g) =
      ap Some
      (⊎_elim (λ (h : z < y). absurd (false≢true (sym (g z (omega arith) h) ∙ t)))
      (λ (h : y ≤ z). ⊎_elim (λ (j : y < z). absurd (false≢true (sym (f y j) ∙ u))) (λ (j : z ≤ y). omega arith) (lt_or_ge y z))
      (lt_or_ge z y))
  the_lowest z b t f (is_none g) = absurd (false≢true (sym (g z (omega arith) b) ∙ t))

  no_lowest : ((n : ℕ) → n < k → p n ≡ false) → {x : Option ℕ} → Least k p 0 x → None ≡ x
  no_lowest f (is_least y c u g) = absurd (false≢true (sym (f y c) ∙ u))
  no_lowest f (is_none g) = refl

module _ (k s : ℕ) (low : s < 2 ^ 64) (few : k ≤ 64) where
  abbrev zero_of : ℕ
  zero_of = count_trailing_zeros 64 (2 ^ 64 - 1 - s)

  before_zero : (n : ℕ) → n < zero_of → n < 64 → not (has s n) ≡ false
  before_zero n h b = sym (has_not 64 s n low b) ∙ zeros_below 64 (2 ^ 64 - 1 - s) n h

  missing_at : zero_of < k → Some zero_of ≡ missing k s
  missing_at h =
      the_lowest k (λ n. not (has s n)) zero_of h (sym (has_not 64 s zero_of low (omega arith)) ∙ zeros_at 64 (2 ^ 64 - 1 - s) (omega arith))
      (λ n b. before_zero n b (omega arith)) (least k (λ n. not (has s n)))

  missing_none : k ≤ zero_of → None ≡ missing k s
  missing_none h = no_lowest k (λ n. not (has s n)) (λ n b. before_zero n (omega arith) (omega arith)) (least k (λ n. not (has s n)))

  pub missing_is : then_some (ltb zero_of k) zero_of ≡ missing k s
  missing_is = split (ltb zero_of k) (λ h. rw h (missing_at (ltb-true zero_of k h))) (λ h. rw h (missing_none (ltb-false zero_of k h)))

-- ENDS, node by node.
pub ends_more : (f : Workflow) (k i s : ℕ) → i < k → {x : Node} {t : ℕ} → x ≡ node_of f i → t ≡ add_end s i x.kind
    → with_ends f (span (λ n. n) (i + 1) k) t ≡ with_ends f (span (λ n. n) i k) s
unfolding with_ends
ends_more f k i s h e q = rw (q, e, span_more (λ n. n) i k h)

pub ends_end : (f : Workflow) (k i s : ℕ) → k ≤ i → s ≡ with_ends f (span (λ n. n) i k) s
unfolding with_ends
ends_end f k i s h = rw (span_none (λ n. n) i k h)

-- THE MASKS, route by route: x is the route at i, y the same turned, and m the bit of where it leads.
pub leads_more : (b : Bool) (f : ℕ → Route) (k i : ℕ) (ms : List ℕ) → i < k → {x y : Route} {m : ℕ} → x ≡ f i → y ≡ turned b x → m ≡ 2 ^ y.target
    → leads b (span f (i + 1) k) (set ms y.node (bit_or (get_or ms y.node 0) m)) ≡ leads b (span f i k) ms
unfolding leads
leads_more b f k i ms h e q p = rw (p, q, e, span_more f i k h)

pub leads_end : (b : Bool) (f : ℕ → Route) (k i : ℕ) (ms : List ℕ) → k ≤ i → ms ≡ leads b (span f i k) ms
unfolding leads
leads_end b f k i ms h = rw (span_none f i k h)

pub record Within (k : ℕ) (x : Route) : Type 0 where
  pub node : x.node < k
  pub target : x.target < k

turned_within : (b : Bool) (k : ℕ) (x : Route) → Within k x → Within k (turned b x)
turned_within true k x h = record { node = h.target; target = h.node }
turned_within false k x h = h

routes_within : (f : Workflow) → Rules f → (b : Bool) (x : Route) → In x f.routes → Within 64 (turned b x)
routes_within f r b x i =
    let h = inside f r x i in
    let l = (sound f r).few_nodes in
    turned_within b 64 x (record { node = omega arith; target = omega arith })

pub route_within : (w : List ℕ) → Rules (workflow w) → (b : Bool) (i : ℕ) → i < route_rows w → {x y : Route} → x ≡ route_at w i → y ≡ turned b x → Within 64 y
route_within w r b i h e q =
    let k = route_rows w in
    rw (q, e) (routes_within (workflow w) r b (route_at w i) (in_span (route_at w) k 0 k i (omega arith) (omega arith) h))

-- What a mask has: each route, and nothing that leads out of a set which no route leaves.
lead_has : (ms : List ℕ) (x : Route) → x.node < length ms → (n t : ℕ) → has (get_or (lead ms x) n 0) t ≡ (has (get_or ms n 0) t or (eqb n x.node and eqb t x.target))
unfolding ◌and◌
lead_has ms x l n t =
    let m = get_or ms x.node 0 in
    split (eqb n x.node)
    (λ e. let z : n ≡ x.node = eqb-true n x.node e in rw (e, z, get_or-set_same ms x.node (mark m x.target) 0 l) (has_mark m x.target t))
    (λ e. rw (e, get_or-set_other ms x.node n (mark m x.target) 0 (eqb-false n x.node e)) (or_false (has (get_or ms n 0) t)))

abbrev Fit : (back : Bool) → List Route → (ms : List ℕ) → Type 0
Fit b xs ms = (x : Route) → In x xs → (turned b x).node < length ms

module _ (b : Bool) where
  fit_more : (x : Route) (xs : List Route) (ms : List ℕ) → Fit b (x ∷ xs) ms → Fit b xs (lead ms (turned b x))
  fit_more x xs ms l y i = rw (length-set ms (turned b x).node (mark (get_or ms (turned b x).node 0) (turned b x).target)) (l y (tail i))

  leads_keep : (xs : List Route) (ms : List ℕ) → Fit b xs ms → (n : ℕ) → Under (get_or ms n 0) (get_or (leads b xs ms) n 0)
  unfolding leads
  leads_keep [] ms l n t h = h
  leads_keep (x ∷ xs) ms l n t h =
      leads_keep xs (lead ms (turned b x)) (fit_more x xs ms l) n t (rw (lead_has ms (turned b x) (l x head) n t) (or_left _ _ h))

  leads_add : (xs : List Route) (ms : List ℕ) → Fit b xs ms → {x : Route} → In x xs → has (get_or (leads b xs ms) (turned b x).node 0) (turned b x).target ≡ true
  unfolding leads
  leads_add [] ms l i = elim i [ ]
  leads_add (x ∷ xs) ms l head =
      let y = turned b x in
      leads_keep xs (lead ms y) (fit_more x xs ms l) y.node y.target
      (rw (lead_has ms y (l x head) y.node y.target) (or_right _ _ (join _ _ (eq-eqb y.node y.node refl) (eq-eqb y.target y.target refl))))
  leads_add (y ∷ xs) ms l (tail i) = leads_add xs (lead ms (turned b y)) (fit_more y xs ms l) i

  leads_only : (s : ℕ) (xs : List Route) (ms : List ℕ) → Fit b xs ms
      → ((x : Route) → In x xs → has s (turned b x).node ≡ true → has s (turned b x).target ≡ true)
      → ((n : ℕ) → has s n ≡ true → Under (get_or ms n 0) s) → (n : ℕ) → has s n ≡ true → Under (get_or (leads b xs ms) n 0) s
  unfolding leads
  leads_only s [] ms l f g = g
  leads_only s (x ∷ xs) ms l f g =
      leads_only s xs (lead ms (turned b x)) (fit_more x xs ms l) (λ y i. f y (tail i))
      (λ n h t p.
      ⊎_elim (λ q. g n h t q)
      (λ q. let z = both _ _ q in rw (eqb-true t (turned b x).target z.1) (f x head (rw (eqb-true n (turned b x).node z.0) at h)))
      (or_cases _ _ (sym (lead_has ms (turned b x) (l x head) n t) ∙ p)))

blank_mask : (k n : ℕ) → get_or {A = ℕ} (replicate k 0) n 0 ≡ 0
blank_mask zero n = refl
blank_mask (suc k) zero = refl
blank_mask (suc k) (suc n) = blank_mask k n

-- THE WALK from the set s: a node of d, which is done, has its mask in the set u, and the frontier x is what is in u and not in d.
pub record Walk (f : Workflow) (b : Bool) (s u d x : ℕ) : Type 0 where
  pub holds : Under s u
  pub within : Under u (closed f b s)
  pub whole : (n : ℕ) → has d n ≡ true → Under (get_or (masks f b) n 0) u
  pub small : d < 2 ^ 64
  pub frontier : x ≡ bit_and u (2 ^ 64 - 1 - d)

-- the next node
pub record Next (u d n : ℕ) : Type 0 where
  pub below : n < 64
  pub there : has u n ≡ true
  pub not_done : has d n ≡ false

module _ {f : Workflow} {b : Bool} {s u d x : ℕ} (v : Walk f b s u d x) where
  frontier_has : (n : ℕ) → n < 64 → has x n ≡ (has u n and not (has d n))
  frontier_has n h = rw v.frontier (has_and u (2 ^ 64 - 1 - d) n ∙ ap (λ y. has u n and y) (has_not 64 d n v.small h))

  pub walk_next : (x ≡ 0 → ⊥) → Next u d (count_trailing_zeros 64 x)
  walk_next o =
      let n = count_trailing_zeros 64 x in
      let l : n < 64 = zeros_lt 64 x (omega (arith, v.frontier, and_le_r u (2 ^ 64 - 1 - d))) o in
      let q = both (has u n) (not (has d n)) (sym (frontier_has n l) ∙ zeros_at 64 x l) in
      record { below = l; there = q.0; not_done = not-true (has d n) q.1 }

  -- each step leaves less to do
  pub walk_less : {m : ℕ} → (x ≡ 0 → ⊥) → m ≡ 2 ^ count_trailing_zeros 64 x → lacking 64 (bit_or d m) < lacking 64 d
  walk_less o e =
      let n = count_trailing_zeros 64 x in
      let h = walk_next o in
      let up : Under d (mark d n) = λ t p. rw (has_mark d n t) (or_left _ _ p) in
      rw e
      (⊎_elim (λ (l : lacking 64 (mark d n) < lacking 64 d). l)
      (λ (l : lacking 64 d ≤ lacking 64 (mark d n)).
      absurd (false≢true (sym h.not_done ∙ lacking_same 64 d (mark d n) up l n h.below ∙ has_mark d n n ∙ or_right _ _ (eq-eqb n n refl))))
      (lt_or_ge (lacking 64 (mark d n)) (lacking 64 d)))

module _ (f : Workflow) (r : Rules f) (b : Bool) (s : ℕ) (low : s < 2 ^ f.node_count) where
  fit : Fit b f.routes (replicate 64 0)
  fit x i = rw (length-replicate {A = ℕ} 64 0) (routes_within f r b x i).node

  trails : (n : ℕ) → has (closed f b s) n ≡ true → Trail b f.routes s n
  trails n h = repeated_trails b f.routes s f.node_count s (λ m p. first p) n h

  trail_low : (n : ℕ) → Trail b f.routes s n → n < 64
  trail_low n (first p) = omega (arith, has_low f.node_count s n low p, (sound f r).few_nodes)
  trail_low n (next {x} i c) = (routes_within f r b x i).target

  masks_within : (n : ℕ) → has (closed f b s) n ≡ true → Under (get_or (masks f b) n 0) (closed f b s)
  unfolding masks
  masks_within =
      leads_only b (closed f b s) f.routes (replicate 64 0) fit (λ x i h. closed_whole f r b s low _ (next i (trails _ h)))
      (λ n h t p. absurd (false≢true (sym (has_none t) ∙ ap (λ x. has x t) (sym (blank_mask 64 n)) ∙ p)))

  pub walk_start : Walk f b s s 0 s
  walk_start =
      record {
        holds = λ n h. h;
        within = λ n h. closed_whole f r b s low n (first h);
        whole = λ n h. absurd (false≢true (sym (has_none n) ∙ h));
        small = pow_pos 64;
        frontier = omega (arith, and_mask s 64, pow_mono (sound f r).few_nodes);
      }

  pub walk_step : {u d x m : ℕ} {ms : List ℕ} → Walk f b s u d x → (x ≡ 0 → ⊥) → m ≡ 2 ^ count_trailing_zeros 64 x → ms ≡ masks f b
      → Walk f b s (bit_or u (get_or ms (count_trailing_zeros 64 x) 0)) (bit_or d m) (bit_and (bit_or u (get_or ms (count_trailing_zeros 64 x) 0)) (2 ^ 64 - 1 - bit_or d m))
  walk_step {u} {d} {x} v o e q =
      let n = count_trailing_zeros 64 x in
      let y = get_or (masks f b) n 0 in
      let h = walk_next v o in
      rw (e, q)
      (record {
        holds = λ t p. rw (has_or u y t) (or_left _ _ (v.holds t p));
        within = λ t p. ⊎_elim (λ k. v.within t k) (λ k. masks_within n (v.within n h.there) t k) (or_cases _ _ (sym (has_or u y t) ∙ p));
        whole = λ i p t k.
            rw (has_or u y t)
            (⊎_elim (λ j. or_left _ _ (v.whole i j t k)) (λ j. or_right _ _ (rw (eqb-true i n j) at k)) (or_cases _ _ (sym (has_mark d n i) ∙ p)));
        small = or_lt 64 d (2 ^ n) v.small (pow-lt h.below);
        frontier = refl;
      })

  module _ {u d x : ℕ} (v : Walk f b s u d x) (e : x ≡ 0) where
    all_done : (n : ℕ) → has u n ≡ true → has d n ≡ true
    all_done n h =
        split (has d n) (λ p. p)
        (λ p. absurd (false≢true (sym (has_none n) ∙ ap (λ y. has y n) (sym e) ∙ frontier_has v n (trail_low n (trails n (v.within n h))) ∙ join _ _ h (ap not p))))

    in_set : (n : ℕ) → Trail b f.routes s n → has u n ≡ true
    unfolding masks
    in_set n (first p) = v.holds n p
    in_set n (next {x} i c) =
        v.whole (turned b x).node (all_done _ (in_set _ c)) (turned b x).target (leads_add b f.routes (replicate 64 0) fit i)

    pub walk_end : u ≡ closed f b s
    walk_end = equal u (closed f b s) v.within (λ n h. in_set n (trails n h))
