-- What an accepted sheet has, and which numbers no refused one is given.
use Rattle.std.proofs.Math.Path.{◌≡◌}
use Rattle.std.specs.Prelude.{refl, Bool, false, List, ℕ, ◌<◌, ltb, Option, Some, None, Ok}
use Rattle.std.proofs.Common.{sym}
use Rattle.std.proofs.Math.Bool.{true}
use Rattle.std.proofs.lemmas.Bool.{false≢true}
use native.Mathlib.Omega.{arith}
use Rattle.std.proofs.Math.Dec.{eqb}
use borrow.Author.Tests.{eq-eqb, eqb-true, not-false, ltb-true, leb-false}
use Rattle.laws.specs.Bool.{when◌then◌else◌, ◌or◌, split, both, neither, implied}
use Rattle.laws.specs.Rows.{span}
use Rattle.laws.specs.First.{some}
use Rattle.laws.specs.In.{In, every_in, Hit, hit, miss, hits, some_found, none_found}
use Rattle.workflow.specs.Code.{exhausted, activity}
use Rattle.workflow.specs.View.{Workflow}
use Rattle.workflow.specs.Lookup.{node_of, are, is_route, route_of, routed, is_limit, limit_of, is_declared, declares}
use Rattle.workflow.specs.Sound.{Sound}
use Rattle.workflow.specs.declared.Route.{Route}
use Rattle.workflow.specs.declared.refusal.Refusal.{Refusal}
use Rattle.workflow.specs.Refusal.{number}
use Rattle.graph.specs.declared.Ceilings.{Ceilings}
use Rattle.graph.specs.Lowest.{lowest, lowest_none}
use Rattle.graph.specs.Form.{routes_at, formed_route, formed_limit, form}
use Rattle.graph.specs.SearchLaws.{parts_of}
use Rattle.graph.specs.Rules.{unrouted, leads_nowhere, breaks_8, breaks_9, breaks_12}
use Rattle.graph.specs.Verdict.{action_verdict, actions_verdict, verdict, Verdict, broken}
use Rattle.graph.specs.Chain.{stage, rule_holds, none_breaks, Mild, mild_fine, mild_broken, mild_stages}

other : (a b : Bool) → a or b ≡ true → a ≡ false → b ≡ true
unfolding ◌or◌
other true b e h = absurd (false≢true (sym h))
other false b e h = e

-- What the rules of the nodes give.
pub record Rules (f : Workflow) : Type 0 where
  pub formed : form f ≡ true
  pub rule_5 : ltb f.start f.node_count ≡ true
  pub rule_8 : lowest f.node_count (breaks_8 f) ≡ None
  pub rule_9 : lowest f.node_count (breaks_9 f) ≡ None
  pub rule_12 : lowest f.node_count (breaks_12 f) ≡ None

pub rules : (f : Workflow) (c : Ceilings) → verdict f c ≡ Ok tt → Rules f
unfolding verdict
rules f c e =
    record {
      formed = rule_holds Refusal.Form e (search stage depth 20);
      rule_5 = rule_holds Refusal.Start e (search stage depth 20);
      rule_8 = none_breaks Refusal.Activity e (search stage depth 20);
      rule_9 = none_breaks Refusal.AwaitSignal e (search stage depth 20);
      rule_12 = none_breaks Refusal.LoopLimits e (search stage depth 20);
    }

module _ (f : Workflow) (r : Rules f) where
  -- a route of an activity or of an await-signal node does not lead nowhere
  stays : (n : ℕ) → routes_at f n ≡ true → some (leads_nowhere f n) f.routes ≡ false
  unfolding breaks_8 breaks_9
  stays n h =
      let a = both _ _ h in
      let b = ltb-true _ _ a.0 in
      split (eqb (node_of f n).kind activity)
      (λ e. (neither _ _ (neither _ _ (neither _ _ (implied _ _ (lowest_none _ _ r.rule_8 n b) e)).1).1).1)
      (λ e. (neither _ _ (neither _ _ (implied _ _ (lowest_none _ _ r.rule_9 n b) (other _ _ a.1 e))).1).1)

  -- a route leads from a node of the sheet to one
  pub inside : (x : Route) → In x f.routes → (x.node < f.node_count) × (x.target < f.node_count)
  unfolding formed_route leads_nowhere
  inside x i =
      let h = (both _ _ (every_in (formed_route f) (parts_of f r.formed).routes_fit i)).0 in (
        ltb-true _ _ (both _ _ h).0,
        leb-false _ _ (implied _ _ (none_found (leads_nowhere f x.node) f.routes (stays x.node h) x i) (eq-eqb x.node x.node refl)),
      )

  target_there : (n o t : ℕ) {w : Option ℕ} → Hit (is_route n o) (λ _ x. Some x.target) None f.routes w → w ≡ Some t → t < f.node_count
  target_there n o t (hit j x i p) e =
      let z : x.target ≡ t = cc in
      omega (arith, (inside x i).1)
  target_there n o t (miss g) e = let z : ◌≡◌ {A = ℕ} 0 1 = cc in absurd (omega arith)

  exhausted_routed : (n o k : ℕ) {w : Option ℕ} → Hit (is_limit n o) (λ _ x. Some x.limit) None f.limits w → w ≡ Some k → routed f n exhausted ≡ true
  unfolding are formed_limit breaks_12
  exhausted_routed n o k (hit j x i p) e =
      let q = both _ _ p in
      let m : x.node ≡ n = eqb-true _ _ q.0 in
      let h = both _ _ (every_in (formed_limit f) (parts_of f r.formed).limits_fit i) in
      let c : x.node < f.node_count = ltb-true _ _ (both _ _ h.0).0 in
      let b : n < f.node_count = omega arith in
      let a : eqb (node_of f x.node).has_limits 1 ≡ true = (both _ _ h.1).0 in
      let l : eqb (node_of f n).has_limits 1 ≡ true = rw m at a in
      let u = implied _ _ (lowest_none _ _ r.rule_12 n b) l in
      not-false _ (neither _ _ (neither _ _ (neither _ _ u).1).1).1
  exhausted_routed n o k (miss g) e = let z : ◌≡◌ {A = ℕ} 0 1 = cc in absurd (omega arith)

  declared_there : (n o : ℕ) → n < f.node_count → (node_of f n).kind ≡ activity → declares f (node_of f n).action o ≡ true → routed f n o ≡ true
  unfolding are declares breaks_8 unrouted
  declared_there n o b k d =
      let y = some_found (is_declared (node_of f n).action o) f.declared d in
      let q = both _ _ y.passes in
      let u = (neither _ _ (neither _ _ (implied _ _ (lowest_none _ _ r.rule_8 n b) (eq-eqb _ _ k))).1).0 in
      let z : y.it.outcome ≡ o = eqb-true _ _ q.1 in
      let v : routed f n y.it.outcome ≡ true = not-false _ (implied _ _ (none_found (unrouted f n (node_of f n).action) f.declared u y.it y.there) q.0) in
      rw z at v

  pub sound : Sound f
  unfolding route_of limit_of
  sound =
      record {
        few_nodes = (parts_of f r.formed).few_nodes;
        start = ltb-true _ _ r.rule_5;
        targets = λ n o t e. target_there n o t (hits _ _ _ 0 f.routes) e;
        exhausts = λ n o k e. exhausted_routed n o k (hits _ _ _ 0 f.limits) e;
        declared_routed = declared_there;
      }

-- No sheet is refused with 0 or 26.
mild_if : (b : Bool) (n : Refusal) (i : ℕ) {v : Verdict} → eqb (number n) 0 ≡ false → eqb (number n) 26 ≡ false → Mild v → Mild (when b then broken n i else v)
unfolding when◌then◌else◌
mild_if true n i x y m = mild_broken n i x y
mild_if false n i x y m = m

mild_hit : (f : Workflow) (c : Ceilings) {p : ℕ → Bool} {xs : List ℕ} {w : Verdict} → Hit p (λ _ a. action_verdict f c a) (Ok tt) xs w → Mild w
mild_hit f c (hit j a i t) = search (mild_if, mild_fine)
mild_hit f c (miss g) = mild_fine

mild_actions : (f : Workflow) (c : Ceilings) → Mild (actions_verdict f c)
unfolding actions_verdict
mild_actions f c = mild_hit f c (hits _ _ _ 0 (span (λ n. n) 0 f.action_count))

pub verdict_mild : (f : Workflow) (c : Ceilings) → Mild (verdict f c)
unfolding verdict
verdict_mild f c = search (mild_stages, mild_actions) depth 20
