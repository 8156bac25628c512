-- What stands after a list of accepted calls, and how one call more keeps it.
use Rattle.std.specs.Prelude.{◌≡◌, Bool, ◌⊎◌, List, [], ◌∷◌, ◌++◌, ℕ, ◌+◌, ◌≤◌, ◌<◌, get_or, eqb, Option, Some, None}
use Rattle.std.proofs.Math.Path.{refl}
use Rattle.std.proofs.Common.{sym, ◌∙◌, ap, inl, inr, arith}
use Rattle.std.proofs.Math.Bool.{true, false}
use Rattle.std.proofs.lemmas.Bool.{false≢true}
use Rattle.std.proofs.Math.ListN.{get_or-eq_default}
use borrow.Author.Tests.{ne_eqb, eqb-true, eqb-false}
use Rattle.laws.specs.Bool.{when◌then◌else◌, both, split}
use Rattle.laws.specs.Every.{every}
use Rattle.laws.specs.All.{All, Distinct, all_map, all_replicate}
use Rattle.laws.specs.In.{In, head, tail}
use Rattle.workflow.specs.View.{Workflow}
use Rattle.model.specs.declared.State.{State}
use Rattle.model.specs.declared.Visits.{Visits}
use Rattle.model.specs.declared.event.Event.{Event}
use Rattle.model.specs.declared.answer.Order.{Order}
use Rattle.workflow.specs.Code.{none}
use Rattle.model.specs.Code.{running, scheduled, signal_received, activity_result}
use Rattle.model.specs.Record.{no_visits, visits_of, is_terminal, seen, fresh}
use Rattle.model.specs.Store.{listed, stored, leaves_over}
use Rattle.snapshot.specs.Check.{consistent}
use Rattle.machine.specs.Events.{named, applies}
use Rattle.demand3.specs.Words.{is_it, times, total, Counts, plain}
use Rattle.demand3.specs.Tidy.{Sized}
use Rattle.demand3.proofs.Closed.{none_left_empty, checked_none_left}
use Rattle.demand3.proofs.Opened.{its_attempt, Opened, closed, orders_it, as_before}
use Rattle.demand3.proofs.Keep.{base, heard, opens, rise, Heard, heard_is, Ready, nothing, Lives, gone, anew, stays, Stands, New, Ordering}
use Rattle.kernel.specs.Call.{Accepted}
use Rattle.demand3.specs.Demand3.{Done, Attempt, attempt, ordered_by, ordered, applied_by, applied, signals, ends, endings, dated, Same, Frozen, OrderedBefore}

-- What is known of one accepted call, from s to the answer a.
pub record Fact (f : Workflow) (s : State) (e : Event) (a : Accepted) : Type 0 where
  pub ready : Ready f s
  pub sequence : e.sequence ≡ s.last_sequence + 1
  pub live : Lives f s e (λ q. ends q a.endings) a.state nothing
  pub stands : Stands f s e a.state
  pub orders : Ordering f s e a.state a.order
  pub frozen : is_terminal s.status ≡ true → a.state ≡ seen s e.sequence e.accepted_at
  pub hears : eqb e.kind activity_result ≡ true → every plain a.notes ≡ true → heard f s e ≡ true
  pub checked : consistent f a.state ≡ true
  pub sized : Sized a.state
  pub opens : Opened s.invocation a.state.invocation a.order

-- An attempt of the past: of a visit that was counted, and, where the run stands on that visit, below the bound.
pub record Below (s : State) (more bound : ℕ) (a : Attempt) : Type 0 where
  pub real : 1 ≤ a.visit
  pub visited : a.visit ≤ (visits_of s a.node).count
  pub low : a.visit ≡ (visits_of s a.node).count → a.node ≡ s.position.node → a.attempt + more ≤ bound

-- After the accepted calls ds, newest first, of which s is the last record.
pub record History (f : Workflow) (ds : List Done) (s : State) : Type 0 where
  pub sized : Sized s
  pub counts : Counts f s.visits s.activations
  pub all_counts : All (λ d. Counts f d.answer.state.visits d.answer.state.activations) ds
  pub all_checked : All (λ d. consistent f d.answer.state ≡ true) ds
  pub none_left : leaves_over s.status s.signal_count ≡ false
  pub ordered_once : Distinct (ordered ds)
  pub below_ordered : All (Below s 0 s.invocation.attempt) (ordered ds)
  pub applied_once : Distinct (applied ds)
  pub below_applied : All (Below s 1 (opens s.invocation)) (applied ds)
  pub conserved : (q : ℕ) → times q (stored s) + endings q ds ≡ signals q ds
  pub once : (q : ℕ) → signals q ds ≤ 1
  pub late : (q : ℕ) → s.last_sequence < q → signals q ds ≡ 0
  pub frozen : Frozen ds
  pub same : All (λ b. Same b.answer.state s) ds
  -- the attempt that is open was ordered, and so was every one that a result was applied to
  pub open_ordered : eqb s.invocation.phase scheduled ≡ true → In (its_attempt s.invocation) (ordered ds)
  pub applied_ordered : OrderedBefore ds

-- THE FIRST RECORD.
pub fresh_history : (f : Workflow) (x : ℕ) → History f [] (fresh x)
unfolding ordered applied signals endings times listed total Frozen OrderedBefore
fresh_history f x =
    record {
      sized = record { signals = refl; visits = refl; results = refl; streaks = refl };
      counts = record { sum = refl; each = all_replicate (λ (v : Visits). v.count ≤ f.max_visits_per_node) 64 no_visits (omega arith); few = omega arith };
      all_counts = tt;
      all_checked = tt;
      none_left = none_left_empty running;
      ordered_once = tt;
      below_ordered = tt;
      applied_once = tt;
      below_applied = tt;
      conserved = λ q. refl;
      once = λ q. omega arith;
      late = λ q h. refl;
      frozen = tt;
      same = tt;
      open_ordered = λ h. absurd (false≢true h);
      applied_ordered = tt;
    }

at_most_one : (b : Bool) (k n : ℕ) → k ≤ 1 → n ≤ 1 → (b ≡ true → k + n ≤ 1) → (when b then k else 0) + n ≤ 1
unfolding when◌then◌else◌
at_most_one true k n p h g = g refl
at_most_one false k n p h g = omega arith

is_it_small : (q k : ℕ) → is_it q k ≤ 1
unfolding is_it when◌then◌else◌
is_it_small q k = split (eqb k q) (λ h. rw h (omega arith)) (λ h. rw h (omega arith))

not_it : (q k : ℕ) → (k ≡ q → ⊥) → is_it q k ≡ 0
unfolding is_it when◌then◌else◌
not_it q k n = rw (ne_eqb k q n)

-- the number that comes is not among those that came
alone_if : (q k n : ℕ) (b : Bool) → eqb k q ≡ b → n ≤ 1 → (k ≡ q → n ≡ 0) → is_it q k + n ≤ 1
alone_if q k n true h l z = omega (arith, is_it_small q k, z (eqb-true k q h))
alone_if q k n false h l z = omega (arith, not_it q k (eqb-false k q h))

-- ONE ACCEPTED CALL MORE.
module _ (f : Workflow) (ds : List Done) (s : State) (st : History f ds s) (e : Event) (a : Accepted) (fact : Fact f s e a) where
  abbrev d : Done
  d = record { event = e; answer = a }

  -- a run that has no node is at no visit
  unvisited : (n : ℕ) → n ≡ none → (visits_of a.state n).count ≡ 0
  unvisited n h = ap (λ (v : Visits). v.count) (get_or-eq_default a.state.visits no_visits (omega (arith, fact.live.nodes)))

  -- what was below the bound of a visit stays below it
  still_below : (more more' b b' : ℕ) (x : Attempt)
      → (s.invocation.attempt ≤ a.state.invocation.attempt → opens s.invocation + rise f s e ≤ opens a.state.invocation → x.attempt + more ≤ b → x.attempt + more' ≤ b')
      → Below s more b x → Below a.state more' b' x
  still_below more more' b b' x up l =
      record { real = l.real; visited = omega (arith, l.visited, fact.live.grows x.node); low = λ v n. go fact.stands v n }
    where
      go : Stands f s e a.state → x.visit ≡ (visits_of a.state x.node).count → x.node ≡ a.state.position.node → x.attempt + more' ≤ b'
      go (gone g) v n = absurd (omega (arith, l.real, unvisited x.node (n ∙ g)))
      go (anew g) v n =
          absurd (omega (arith, l.visited, ap (λ (k : ℕ). (visits_of s k).count) n, ap (λ (k : ℕ). (visits_of a.state k).count) n))
      go (stays g h i j) v n = up i j (l.low (v ∙ ap (λ (vs : List Visits). (get_or vs x.node no_visits).count) h) (n ∙ g))

  -- ORDERS
  old_orders : All (Below a.state 0 a.state.invocation.attempt) (ordered ds)
  old_orders = all_map _ _ (ordered ds) (λ x. still_below 0 0 _ _ x (λ i j h. omega arith)) st.below_ordered

  new_order : (n v k : ℕ) → New f s e a.state n v k → Below a.state 0 a.state.invocation.attempt (attempt n v k)
  new_order n v k g = record { real = g.real; visited = omega (arith, g.current); low = λ _ _. omega (arith, g.counted_in) }

  fresh_order : (n v k : ℕ) → New f s e a.state n v k → (x : Attempt) → Below s 0 s.invocation.attempt x → attempt n v k ≡ x → ⊥
  fresh_order n v k g x b h = go g.is_new
    where
      en : n ≡ x.node
      en = ap (λ (y : Attempt). y.node) h

      ev : v ≡ x.visit
      ev = ap (λ (y : Attempt). y.visit) h

      ek : k ≡ x.attempt
      ek = ap (λ (y : Attempt). y.attempt) h

      go : ((visits_of s n).count < v) ⊎ ((n ≡ s.position.node) × (s.invocation.attempt < k)) → ⊥
      go (inl o) = omega (arith, b.visited, ap (λ (j : ℕ). (visits_of s j).count) en, ev)
      go (inr o) =
          let same : x.visit ≡ (visits_of s x.node).count = omega (arith, b.visited, ap (λ (j : ℕ). (visits_of s j).count) en, ev, fact.live.grows n, g.current) in
          omega (arith, b.low same (sym en ∙ o.0), ek)

  one_order : (n v k : ℕ) → New f s e a.state n v k
      → Distinct (attempt n v k ∷ ordered ds) × All (Below a.state 0 a.state.invocation.attempt) (attempt n v k ∷ ordered ds)
  one_order n v k g = ((all_map _ _ (ordered ds) (fresh_order n v k g) st.below_ordered, st.ordered_once), (new_order n v k g, old_orders))

  orders_once : (o : Option Order) → Ordering f s e a.state o
      → Distinct (ordered_by o ++ ordered ds) × All (Below a.state 0 a.state.invocation.attempt) (ordered_by o ++ ordered ds)
  orders_once None g = (st.ordered_once, old_orders)
  orders_once (Some (Order.Schedule x)) g = one_order x.node x.visit x.attempt g
  orders_once (Some (Order.Retry x)) g = one_order x.node x.visit x.attempt g

  -- RESULTS
  old_applied : All (Below a.state 1 (opens a.state.invocation)) (applied ds)
  old_applied = all_map _ _ (applied ds) (λ x. still_below 1 1 _ _ x (λ i j h. omega arith)) st.below_applied

  abbrev it : Attempt
  it = attempt e.node e.visit e.attempt

  new_applied : Heard f s e → Below a.state 1 (opens a.state.invocation) it
  new_applied h =
      still_below 0 1 (opens s.invocation) (opens a.state.invocation) it (λ i j k. omega (arith, h.rises))
      (record { real = h.real; visited = omega (arith, h.visit_is); low = λ _ _. omega (arith, h.open_is) })

  fresh_applied : Heard f s e → (x : Attempt) → Below s 1 (opens s.invocation) x → it ≡ x → ⊥
  fresh_applied h x b y =
      let en : e.node ≡ x.node = ap (λ (z : Attempt). z.node) y in
      let ev : e.visit ≡ x.visit = ap (λ (z : Attempt). z.visit) y in
      let ek : e.attempt ≡ x.attempt = ap (λ (z : Attempt). z.attempt) y in
      omega (arith, b.low (sym ev ∙ h.visit_is ∙ ap (λ (j : ℕ). (visits_of s j).count) en) (sym en ∙ h.node_is), h.open_is)

  applied_if : (b : Bool) → (b ≡ true → Heard f s e)
      → Distinct ((when b then it ∷ [] else []) ++ applied ds) × All (Below a.state 1 (opens a.state.invocation)) ((when b then it ∷ [] else []) ++ applied ds)
  unfolding when◌then◌else◌
  applied_if true h = ((all_map _ _ (applied ds) (fresh_applied (h refl)) st.below_applied, st.applied_once), (new_applied (h refl), old_applied))
  applied_if false h = (st.applied_once, old_applied)

  applied_now : Distinct (applied_by d ++ applied ds) × All (Below a.state 1 (opens a.state.invocation)) (applied_by d ++ applied ds)
  applied_now = applied_if _ (λ h. let g = both _ _ h in heard_is f s e fact.ready (fact.hears g.0 g.1))

  -- SIGNALS
  abbrev arrives : ℕ → ℕ
  arrives q = when eqb e.kind signal_received then is_it q e.sequence else 0

  arrives_late : (q : ℕ) → e.sequence < q → arrives q ≡ 0
  unfolding when◌then◌else◌
  arrives_late q h = split (eqb e.kind signal_received) (λ k. rw k (not_it q e.sequence (λ x. omega arith))) (λ k. rw k)

  arrives_once : (q : ℕ) → arrives q + signals q ds ≤ 1
  arrives_once q =
      at_most_one _ _ _ (is_it_small q e.sequence) (st.once q)
      (λ _. alone_if q e.sequence (signals q ds) _ refl (st.once q) (λ z. st.late q (omega (arith, fact.sequence))))

  conserved_now : (q : ℕ) → times q (stored a.state) + (ends q a.endings + endings q ds) ≡ arrives q + signals q ds
  unfolding base
  conserved_now q = omega (arith, fact.live.conserved q, st.conserved q)

  -- WHAT WAS ORDERED
  in_later : {x : Attempt} (xs ys : List Attempt) → In x ys → In x (xs ++ ys)
  in_later [] ys i = i
  in_later (y ∷ xs) ys i = tail (in_later xs ys i)

  open_by : Opened s.invocation a.state.invocation a.order → eqb a.state.invocation.phase scheduled ≡ true → In (its_attempt a.state.invocation) (ordered_by a.order ++ ordered ds)
  open_by (closed z) h = absurd (false≢true (sym z ∙ h))
  open_by (orders_it z) h = rw z head
  open_by (as_before z) h = in_later (ordered_by a.order) (ordered ds) (rw z (st.open_ordered (rw z at h)))

  -- a result is applied to the attempt that was open
  was_ordered : heard f s e ≡ true → In it (ordered ds)
  unfolding applies named
  was_ordered h =
      let n = both _ _ (both _ _ (both _ _ h).1).1 in
      let k = both _ _ n.1 in
      let w = both _ _ (both _ _ n.0).1 in
      let en : s.invocation.node ≡ e.node = eqb-true _ _ w.0 in
      let ev : s.invocation.visit ≡ e.visit = eqb-true _ _ w.1 in
      let ek : s.invocation.attempt ≡ e.attempt = eqb-true _ _ k.0 in
      rw (← en, ← ev, ← ek) (st.open_ordered k.1)

  ordered_if : (b : Bool) → (b ≡ true → In it (ordered ds)) → All (λ x. In x (ordered ds)) (when b then it ∷ [] else [])
  unfolding when◌then◌else◌
  ordered_if true h = (h refl, tt)
  ordered_if false h = tt

  applied_ordered_now : All (λ x. In x (ordered ds)) (applied_by d)
  applied_ordered_now = ordered_if _ (λ h. let g = both _ _ h in was_ordered (fact.hears g.0 g.1))

  -- AN ENDED RUN
  dated_now : Same s a.state
  dated_now o = fact.frozen o ∙ sym (ap (λ (z : State). dated s z.last_sequence z.last_accepted_at) (fact.frozen o))

  still_same : (b : Done) → Same b.answer.state s → Same b.answer.state a.state
  still_same b g o =
      let z : is_terminal s.status ≡ true = ap (λ (y : State). is_terminal y.status) (g o) ∙ o in
      dated_now z ∙ ap (λ (y : State). dated y a.state.last_sequence a.state.last_accepted_at) (g o)

  same_now : All (λ b. Same b.answer.state a.state) ds
  same_now = all_map _ _ ds still_same st.same

  pub one_more : History f (d ∷ ds) a.state
  unfolding ordered applied signals endings Frozen OrderedBefore
  one_more =
      record {
        sized = fact.sized;
        counts = fact.live.counts;
        all_counts = (fact.live.counts, st.all_counts);
        all_checked = (fact.checked, st.all_checked);
        none_left = checked_none_left f a.state fact.checked;
        ordered_once = (orders_once a.order fact.orders).0;
        below_ordered = (orders_once a.order fact.orders).1;
        applied_once = applied_now.0;
        below_applied = applied_now.1;
        conserved = conserved_now;
        once = arrives_once;
        late = λ q h. omega (arith, arrives_late q (omega (arith, fact.live.timed)), st.late q (omega (arith, fact.live.timed, fact.sequence)));
        frozen = (same_now, st.frozen);
        same = ((λ o. refl), same_now);
        open_ordered = open_by fact.opens;
        applied_ordered = (applied_ordered_now, st.applied_ordered);
      }
