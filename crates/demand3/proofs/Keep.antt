-- What every move of a call keeps, on a sound sheet: signals are not lost, counts stay within their limits, and every order is new.
use Rattle.std.specs.Prelude.{[], ◌≡◌, ◌⊎◌, Bool, true, false, List, ℕ, ◌+◌, ◌≤◌, ◌<◌, get_or, length, eqb, Option, Some, None, Result, Ok, Err}
use Rattle.std.proofs.Math.Path.{refl, ap, fun_ext}
use Rattle.std.proofs.Common.{sym, ◌∙◌, subst, arith, length-set, get_or-set_same}
use Rattle.std.proofs.Math.Logic.{inl, inr}
use Rattle.std.proofs.Math.Bool.{not, false≢true}
use borrow.Author.Tests.{leb-false, eqb-true, ne_eqb, not-true, not-false}
use Rattle.laws.specs.Every.{every}
use Rattle.kernel.specs.Drive.{added}
use Rattle.laws.specs.Bool.{when◌then◌else◌, ◌and◌, both, join, if_true, if_false, split, either}
use Rattle.workflow.specs.Code.{none, exhausted}
use Rattle.model.specs.Code.{scheduled, unknown, stuck, run_started, signal_received, activity_result}
use Rattle.workflow.specs.View.{Workflow}
use Rattle.workflow.specs.Lookup.{route_of}
use Rattle.workflow.specs.Sound.{Sound}
use Rattle.model.specs.declared.ErrorInfo.{ErrorInfo}
use Rattle.model.specs.declared.Output.{Output}
use Rattle.model.specs.declared.BufferedSignal.{BufferedSignal}
use Rattle.model.specs.declared.Visits.{Visits}
use Rattle.model.specs.declared.InvocationState.{InvocationState}
use Rattle.model.specs.declared.State.{State}
use Rattle.model.specs.declared.event.Event.{Event}
use Rattle.model.specs.declared.event.Mappings.{Mappings}
use Rattle.model.specs.declared.event.NoValue.{NoValue}
use Rattle.model.specs.declared.event.NoValue.TheVariants.{Fault, Unencodable, Lacking}
use Rattle.model.specs.declared.answer.Order.{Order}
use Rattle.model.specs.declared.answer.Note.{Note}
use Rattle.model.specs.declared.answer.Ended.{Ended}
use Rattle.model.specs.declared.answer.Ending.{Ending}
use Rattle.model.specs.declared.answer.Field.{Field}
use Rattle.model.specs.declared.moves.Next.{Next}
use Rattle.model.specs.declared.moves.Next.TheVariants.{Rest, Enter, Take, Consume, Wants, Refuse}
use Rattle.model.specs.declared.moves.Move.{Move}
use Rattle.model.specs.Record.{no_visits, visits_of, is_terminal, seen}
use Rattle.model.specs.Store.{stored, signal_at, removed, appended}
use Rattle.model.specs.Step.{still, reading, one_more_visit, phased, arrival, terminate, evaluate, without_value, schedule, enter_activity, enter_await, enter_complete, arrive, enter, follow_to, route_limited, route, take_by, take as take_signal, retry}
use Rattle.machine.specs.Events.{named, applies, not_applicable, complete_invocation, stick, fail_invocation, on_signal, on_success, on_failure, on_unknown, on_result, resolve_as_complete, resolve_as_fail, on_resolved, on_ended, react, apply}
use Rattle.model.specs.StoreLaws.{IsSlotted, stored_length, appended_room, stored_appended, removed_at, stored_removed}
use Rattle.demand3.specs.Words.{is_it, times, Counts, plain}
use Rattle.demand3.proofs.Counts.{ends_of, times_more, times_less, counts_more, grows_set}
use Rattle.demand3.proofs.Tidy.{Missed, rests, consumes}
use Rattle.kernel.specs.Cost.{entered, spares_result, spares_resolved}

-- A CALL, by the record that it is given and its event.
-- How often q is in the store or arrives.
unfoldable pub base : State → Event → (q : ℕ) → ℕ
base s e q = times q (stored s) + (when eqb e.kind signal_received then is_it q e.sequence else 0)

-- The event is a result that applies.
abbrev pub heard : Workflow → State → Event → Bool
heard f s e = eqb e.kind activity_result and not (is_terminal s.status) and applies s.invocation e

-- The attempts below this one have had their result or can have none.
abbrev pub opens : InvocationState → ℕ
opens i = when eqb i.phase scheduled then i.attempt else i.attempt + 1

-- By how much `opens` must rise where the run stays.
unfoldable pub rise : Workflow → State → Event → ℕ
rise f s e = when heard f s e then 1 else 0

-- The invocation is of the visit where the run stands.
pub record Owner (s : State) : Type 0 where
  pub same_node : s.invocation.node ≡ s.position.node
  pub same_visit : s.invocation.visit ≡ (visits_of s s.position.node).count
  pub visited : 1 ≤ s.invocation.visit

-- What a call needs of the record that it is given.
pub record Ready (f : Workflow) (s : State) : Type 0 where
  pub slotted : IsSlotted s
  pub nodes : length s.visits ≡ 64
  pub counts : Counts f s.visits s.activations
  pub owner : eqb s.invocation.phase 0 ≡ false → Owner s

-- The attempt that a heard result names is the one that is open.
pub record Heard (f : Workflow) (s : State) (e : Event) : Type 0 where
  pub node_is : e.node ≡ s.position.node
  pub visit_is : e.visit ≡ (visits_of s e.node).count
  pub real : 1 ≤ e.visit
  pub open_is : opens s.invocation ≡ e.attempt
  pub rises : rise f s e ≡ 1

pub heard_is : (f : Workflow) (s : State) (e : Event) → Ready f s → heard f s e ≡ true → Heard f s e
unfolding rise applies named
heard_is f s e r h =
    let n = both _ _ (both _ _ (both _ _ h).1).1 in
    let k = both _ _ n.1 in
    let p = both _ _ n.0 in
    let w = both _ _ p.1 in
    let own = r.owner (not-true _ p.0) in
    let en : s.invocation.node ≡ e.node = eqb-true _ _ w.0 in
    let ev : s.invocation.visit ≡ e.visit = eqb-true _ _ w.1 in
    record {
      node_is = sym en ∙ own.same_node;
      visit_is = sym ev ∙ own.same_visit ∙ ap (λ (j : ℕ). (visits_of s j).count) (sym own.same_node ∙ en);
      real = omega (arith, own.visited);
      open_is = if_true _ _ _ k.1 ∙ eqb-true _ _ k.0;
      rises = if_true _ _ _ h;
    }

-- None is told, or in hand.
abbrev pub nothing : (q : ℕ) → ℕ
nothing q = 0

module _ (f : Workflow) (s₀ : State) (e : Event) where
  -- WHAT IS KEPT.
  -- The lists and counts, with how many endings of each q were told and how many of each are in hand. It speaks of parts of the record, so that it stands where another part changes.
  pub record Live (visits : List Visits) (activations : ℕ) (store : List BufferedSignal) (told : ℕ → ℕ) (sequence : ℕ) (hand : ℕ → ℕ) : Type 0 where
    pub nodes : length visits ≡ 64
    pub conserved : (q : ℕ) → times q store + told q + hand q ≡ base s₀ e q
    pub grows : (n : ℕ) → (visits_of s₀ n).count ≤ (get_or visits n no_visits).count
    pub counts : Counts f visits activations
    pub timed : sequence ≡ e.sequence

  abbrev pub Lives : (told : ℕ → ℕ) → State → (hand : ℕ → ℕ) → Type 0
  Lives told s hand = Live s.visits s.activations (stored s) told s.last_sequence hand

  -- Where the run stands, seen from where it stood: nowhere, at a new visit, or where it was.
  pub data Standing (node : ℕ) (visits : List Visits) (i : InvocationState) : Type 0 where
    gone : node ≡ none → Standing node visits i
    anew : (visits_of s₀ node).count < (get_or visits node no_visits).count → Standing node visits i
    stays : node ≡ s₀.position.node → visits ≡ s₀.visits → s₀.invocation.attempt ≤ i.attempt → opens s₀.invocation + rise f s₀ e ≤ opens i → Standing node visits i

  abbrev pub Stands : State → Type 0
  Stands s = Standing s.position.node s.visits s.invocation

  -- An order is of the visit where the run stands, and new.
  pub record New (s : State) (node visit attempt : ℕ) : Type 0 where
    pub here : node ≡ s.position.node
    pub current : visit ≡ (visits_of s node).count
    pub counted_in : attempt ≤ s.invocation.attempt
    pub real : 1 ≤ visit
    pub is_new : ((visits_of s₀ node).count < visit) ⊎ ((node ≡ s₀.position.node) × (s₀.invocation.attempt < attempt))

  abbrev pub Ordering : State → Option Order → Type 0
  Ordering s None = Unit {0}
  Ordering s (Some (Order.Schedule x)) = New s x.node x.visit x.attempt
  Ordering s (Some (Order.Retry x)) = New s x.node x.visit x.attempt

  -- What holds after a move, by what comes next.
  abbrev pub After : (told : ℕ → ℕ) → State → Option Order → Next → Type 0
  After told s o Rest = record { live : Lives told s nothing; stands : Stands s; orders : Ordering s o }
  After told s o (Enter n b) = record { live : Lives told s nothing; inside : n < f.node_count }
  After told s o Take = record { live : Lives told s (λ q. is_it q e.sequence); stands : Stands s }
  After told s o Consume = record { live : Lives told s nothing; stands : Stands s }
  After told s o (Wants n i b) = Unit {0}
  After told s o (Refuse k) = Unit {0}

  -- A move, by what was told before it.
  pub record Good (told : ℕ → ℕ) (v : Move) : Type 0 where
    pub after : After (λ q. told q + ends_of q v.ending) v.state v.order v.next

  -- A move, by what is told once it is made.
  record Leads (told : ℕ → ℕ) (v : Move) : Type 0 where
    leads : After told v.state v.order v.next

  -- THE STORE.
  pub stands_removed : (s : State) (i : ℕ) → Stands s → Stands (removed s i)
  unfolding removed
  stands_removed s i g = either Stands _ (λ _. g) (λ _. g)

  stands_appended : (s : State) (x : BufferedSignal) → Stands s → Stands (appended s x)
  unfolding appended
  stands_appended s x g = either Stands _ (λ _. g) (λ _. g)

  -- a move without an ending tells nothing
  untold : (told : ℕ → ℕ) (x : Option Ending) → x ≡ None → told ≡ (λ q. told q + ends_of q x)
  unfolding ends_of
  untold told x z = fun_ext (λ q. rw z (omega arith))

  module _ {told : ℕ → ℕ} where
    good : (v : Move) → v.ending ≡ None → Leads told v → Good told v
    good v z g = record { after = subst (λ (t : ℕ → ℕ). After t v.state v.order v.next) (untold told v.ending z) g.leads }

    -- a signal in hand ends
    live_ended : (s : State) (q : ℕ) (k : Ended) → Lives told s (λ p. is_it p q) → Lives (λ p. told p + ends_of p (Some (record { sequence = q; ending = k }))) s nothing
    unfolding ends_of
    live_ended s q k g =
        record {
          nodes = g.nodes;
          conserved = λ p. omega (arith, g.conserved p);
          grows = g.grows;
          counts = g.counts;
          timed = g.timed;
        }

    -- a stored signal comes to hand
    pub live_removed : (s : State) (i : ℕ) → IsSlotted s → i < s.signal_count → Lives told s nothing → Lives told (removed s i) (λ q. is_it q (signal_at s i).sequence)
    unfolding signal_at
    live_removed s i t h g =
        let e = removed_at s i t.room h in
        let l = rw e at (stored_removed s i t h) in
        rw e (record {
          nodes = g.nodes;
          conserved = λ q. omega (arith, g.conserved q, ap (times q) l, times_less q (stored s) i (omega (arith, stored_length s t)));
          grows = g.grows;
          counts = g.counts;
          timed = g.timed;
        })

    -- ENTERING.
    leads_if : (b : Bool) {x y : Move} → Leads told x → Leads told y → Leads told (when b then x else y)
    leads_if b p q = either (Leads told) b (λ _. p) (λ _. q)

    leads_rest : (s : State) {x : Option Note} {y : Option Ending} {r : ℕ} → Lives told s nothing → Stands s
        → Leads told (record { state = s; next = Rest; note = x; ending = y; order = None; read = r })
    leads_rest s g h = record { leads = record { live = g; stands = h; orders = tt } }

    -- no stored signal is left to take
    pub good_waits : (s : State) → Lives told s nothing → Stands s → Good told (still s Rest)
    good_waits s g h = good _ refl (leads_rest s g h)

    leads_terminate : (s : State) (x : ErrorInfo) → Lives told s nothing → Leads told (terminate f s x)
    unfolding terminate
    leads_terminate s x g = leads_rest _ g (gone refl)

    leads_evaluate : (a : Result ℕ NoValue) (s : State) (n : ℕ) (i : Field) (b r : ℕ) (k : ℕ → Move) → Lives told s nothing → ((x : ℕ) → Leads told (k x)) → Leads told (evaluate f a s n i b r k)
    unfolding evaluate without_value terminate
    leads_evaluate (Ok x) s n i b r k g h = h x
    leads_evaluate (Err (Fault c d)) s n i b r k g h = leads_rest _ g (gone refl)
    leads_evaluate (Err Unencodable) s n i b r k g h = record { leads = tt }
    leads_evaluate (Err Lacking) s n i b r k g h = record { leads = tt }

    -- at a node with a new visit
    module _ (s : State) (n : ℕ) (h : (visits_of s₀ n).count < (visits_of s n).count) (g : Lives told s nothing) where
      leads_schedule : (x r : ℕ) (p : Option ℕ) → Leads told (reading r (schedule f s n x p))
      unfolding schedule
      leads_schedule x r p =
          record {
            leads = record {
              live = g;
              stands = anew h;
              orders = record { here = refl; current = refl; counted_in = omega arith; real = omega arith; is_new = inl h };
            };
          }

      leads_arrive : (b : ℕ) (m : Mappings) → Leads told (arrive f s n b m)
      unfolding arrive enter_activity enter_await enter_complete
      leads_arrive b m =
          leads_if _
          (leads_evaluate _ s n _ b _ _ g (λ x. leads_if _
          (leads_evaluate _ s n _ b _ _ g (λ p. leads_schedule x 2 _))
          (leads_schedule x 1 _)))
          (leads_if _
          (record { leads = record { live = g; stands = anew h } })
          (leads_if _
          (leads_evaluate _ s n _ b _ _ g (λ x. leads_rest _ g (gone refl)))
          (leads_terminate s _ g)))

    -- the visit is counted, and new
    live_counted : (s : State) (n : ℕ) → n < 64 → (visits_of s n).count < f.max_visits_per_node → s.activations < f.max_activations → Lives told s nothing → Lives told (one_more_visit s n) nothing
    live_counted s n h v a g =
        record {
          nodes = simp length-set g.nodes;
          conserved = g.conserved;
          grows = λ k. omega (arith, g.grows k, grows_set s.visits n ((visits_of s n).count + 1) k (omega arith));
          counts = counts_more f s.visits s.activations n (omega arith) v a g.counts;
          timed = g.timed;
        }

    newer : (s : State) (n : ℕ) → n < 64 → Lives told s nothing → (visits_of s₀ n).count < (visits_of (one_more_visit s n) n).count
    newer s n h g = rw (get_or-set_same s.visits n (record { count = (visits_of s n).count + 1 }) no_visits (omega arith)) (omega (arith, g.grows n))

  module _ (sheet : Sound f) where
    module _ {told : ℕ → ℕ} where
      leads_enter : (s : State) (n b : ℕ) (m : Mappings) → n < f.node_count → Lives told s nothing → Leads told (enter f s n b m)
      unfolding enter
      leads_enter s n b m h g =
          let i : n < 64 = omega (arith, sheet.few_nodes) in
          either (Leads told) _ (λ _. record { leads = tt })
          (λ _. either (Leads told) _ (λ _. leads_terminate s _ g)
          (λ v. either (Leads told) _ (λ _. leads_terminate s _ g)
          (λ a. leads_arrive (one_more_visit s n) n (newer s n i g) (live_counted s n i (leb-false _ _ v) (leb-false _ _ a) g) b m)))

      pub good_enter : (s : State) (n b : ℕ) (m : Mappings) → n < f.node_count → Lives told s nothing → Good told (enter f s n b m)
      good_enter s n b m h g = good _ (entered f s n b m).no_end (leads_enter s n b m h g)

      -- ROUTING.
      leads_follow : (s : State) (n o : ℕ) (x : Option ℕ) → route_of f n o ≡ x → Lives told s nothing → Leads told (follow_to f s n x)
      unfolding follow_to
      leads_follow s n o (Some t) r g = record { leads = record { live = g; inside = sheet.targets n o t r } }
      leads_follow s n o None r g = record { leads = tt }

      leads_limited : (s : State) (n o : ℕ) (x : Option ℕ) → Lives told s nothing → Leads told (route_limited f s n o x)
      unfolding route_limited
      leads_limited s n o None g = leads_follow _ n o _ refl g
      leads_limited s n o (Some x) g = leads_if _ (record { leads = (leads_follow _ n exhausted _ refl g).leads }) (leads_follow _ n o _ refl g)

      leads_route : (s : State) (o : ℕ) (x : Output) → Lives told s nothing → Leads told (route f s o x)
      unfolding route
      leads_route s o x g = leads_if _ (record { leads = tt }) (leads_limited _ _ o _ g)

    -- TAKING.
    module _ {told : ℕ → ℕ} (s : State) (x : BufferedSignal) where
      good_take_by : (y : Option ℕ) {k : Next} → Missed k → Lives told s (λ q. is_it q x.sequence) → Stands s → Good told (take_by f y s x k)
      unfolding take_by
      good_take_by (Some t) m g h = record { after = (leads_route s _ _ (live_ended s x.sequence Ended.Routed g)).leads }
      good_take_by None rests g h = record { after = record { live = live_ended s x.sequence Ended.Unrouted g; stands = h; orders = tt } }
      good_take_by None consumes g h = record { after = record { live = live_ended s x.sequence Ended.Unrouted g; stands = h } }

      pub good_take : {k : Next} → Missed k → Lives told s (λ q. is_it q x.sequence) → Stands s → Good told (take_signal f s x k)
      good_take m g h = good_take_by _ m g h

    -- THE EVENTS, on the record that has taken note of them.
    abbrev s₁ : State
    s₁ = seen s₀ e.sequence e.accepted_at

    unheard : (heard f s₀ e ≡ true → ⊥) → rise f s₀ e ≡ 0
    unfolding rise
    unheard h = split (heard f s₀ e) (λ y. absurd (h y)) (λ n. if_false _ _ _ n)

    opens_most : (i : InvocationState) → opens i ≤ i.attempt + 1
    opens_most i = either (λ k. k ≤ i.attempt + 1) _ (λ _. omega arith) (λ _. omega arith)

    -- a result that applies is of an attempt that is scheduled
    rises : opens s₀.invocation + rise f s₀ e ≤ s₀.invocation.attempt + 1
    unfolding rise applies named when◌then◌else◌
    rises =
        split (heard f s₀ e)
        (λ y. rw (y, if_true _ _ _ (both _ _ (both _ _ (both _ _ (both _ _ y).1).1).1).1) (omega arith))
        (λ n. omega (arith, unheard (λ y. false≢true (sym n ∙ y)), opens_most s₀.invocation))

    -- the run is as it was; it is parked, with the same attempt; it is at the next attempt
    unmoved : rise f s₀ e ≡ 0 → Stands s₁
    unmoved z = stays refl refl (omega arith) (omega arith)

    stands_parked : (p : ℕ) (x : Option ErrorInfo) → eqb p scheduled ≡ false → Standing s₀.position.node s₀.visits (phased s₀.invocation p s₀.invocation.attempt x)
    stands_parked p x z = stays refl refl (omega arith) (rw (if_false (eqb p scheduled) s₀.invocation.attempt (s₀.invocation.attempt + 1) z) rises)

    stands_again : Standing s₀.position.node s₀.visits (phased s₀.invocation scheduled (s₀.invocation.attempt + 1) None)
    unfolding when◌then◌else◌
    stands_again = stays refl refl (omega arith) rises

    module _ (ready : Ready f s₀) where
      live_seen : (told hand : ℕ → ℕ) → ((q : ℕ) → told q + hand q ≡ (when eqb e.kind signal_received then is_it q e.sequence else 0)) → Lives told s₁ hand
      unfolding base
      live_seen told hand h =
          record {
            nodes = ready.nodes;
            conserved = λ q. omega (arith, h q);
            grows = λ n. omega arith;
            counts = ready.counts;
            timed = refl;
          }

      -- the event is no signal
      module _ (k : eqb e.kind signal_received ≡ false) where
        live : Lives nothing s₁ nothing
        live = live_seen nothing nothing (λ q. sym (if_false _ _ _ k))

        leads_retry : (d : ℕ) → eqb s₀.invocation.phase 0 ≡ false → Leads nothing (retry f s₁ d)
        unfolding retry
        leads_retry d c =
            let o = ready.owner c in
            let current : s₀.invocation.visit ≡ (visits_of s₀ s₀.invocation.node).count = rw o.same_node o.same_visit in
            leads_if _ (record { leads = tt }) (leads_if _ (record { leads = tt }) (record {
              leads = record {
                live = live;
                stands = stands_again;
                orders = record { here = o.same_node; current = current; counted_in = omega arith; real = o.visited; is_new = inr (o.same_node, omega arith) };
              };
            }))

        leads_complete : (o : ℕ) (x : Output) → Leads nothing (complete_invocation f s₁ o x)
        unfolding complete_invocation
        leads_complete o x = leads_route _ o x live

        leads_fail : (c d : ℕ) (p : Bool) → Leads nothing (fail_invocation f s₁ c d p)
        unfolding fail_invocation stick
        leads_fail c d p = leads_if _ (leads_complete _ _) (leads_if _ (leads_rest _ live (stands_parked stuck _ refl)) (leads_terminate s₁ _ live))

        leads_result : Leads nothing (on_result f s₁ e)
        unfolding on_result on_success on_failure on_unknown applies named
        leads_result =
            either (Leads nothing) _ (λ n. leads_rest s₁ live (unmoved (unheard (λ y. false≢true (sym (not-true _ n) ∙ (both _ _ (both _ _ y).1).1)))))
            (λ y. let c = not-true _ (both _ _ (both _ _ (not-false _ y)).0).0 in
            leads_if _ (leads_if _ (leads_complete _ _) (leads_fail _ _ _))
            (leads_if _ (leads_if _ (leads_retry _ c) (leads_if _ (leads_fail _ _ _) (leads_fail _ _ _)))
            (leads_if _ (leads_rest _ live (stands_parked unknown _ refl)) (leads_if _ (leads_retry _ c) (leads_fail _ _ _)))))

        leads_resolve_as_fail : (x : Option ErrorInfo) → Leads nothing (resolve_as_fail f x s₁ e)
        unfolding resolve_as_fail
        leads_resolve_as_fail (Some x) = leads_terminate s₁ x live
        leads_resolve_as_fail None = leads_fail _ _ _

        leads_resolved : Stands s₁ → Leads nothing (on_resolved f s₁ e)
        unfolding on_resolved not_applicable resolve_as_complete named
        leads_resolved h =
            either (Leads nothing) _ (λ _. leads_rest s₁ live h)
            (λ y. leads_if _ (leads_rest s₁ live h)
            (leads_if _ (leads_if _ (leads_complete _ _) (leads_rest s₁ live h))
            (leads_if _ (leads_retry 0 (not-true _ (both _ _ (not-false _ y)).0)) (leads_resolve_as_fail _))))

      -- the event is a signal
      module _ (k : eqb e.kind signal_received ≡ true) (h : Stands s₁) where
        arrived : Lives nothing s₁ (λ q. is_it q e.sequence)
        arrived = live_seen nothing _ (λ q. omega (arith, if_true (eqb e.kind signal_received) (is_it q e.sequence) 0 k))

        live_appended : s₀.signal_count < 64 → Lives nothing (appended s₁ (arrival e)) nothing
        live_appended r =
            let g = arrived in
            let x = appended_room s₁ (arrival e) r in
            let l = rw x at (stored_appended s₁ (arrival e) ready.slotted r) in
            rw x (record {
              nodes = g.nodes;
              conserved = λ q. omega (arith, g.conserved q, ap (times q) l, times_more q (stored s₁) (arrival e));
              grows = g.grows;
              counts = g.counts;
              timed = g.timed;
            })

        good_dropped : (c : Ended) {x : Option Note} → Good nothing (record { state = s₁; next = Rest; note = x; ending = Some (record { sequence = e.sequence; ending = c }); order = None; read = 0 })
        good_dropped c = record { after = record { live = live_ended s₁ e.sequence c arrived; stands = h; orders = tt } }

        good_signal : Good nothing (on_signal f s₁ e)
        unfolding on_signal
        good_signal =
            either (Good nothing) _ (λ _. good _ refl (record { leads = record { live = arrived; stands = h } }))
            (λ _. either (Good nothing) _ (λ _. good_dropped Ended.Overflow)
            (λ r. good _ refl (leads_rest _ (live_appended (leb-false _ _ r)) (stands_appended s₁ (arrival e) h))))

      good_ended : Stands s₁ → Good nothing (on_ended s₁ e)
      unfolding on_ended
      good_ended h = either (Good nothing) _ (λ k. good_dropped k h Ended.Ignored) (λ n. good _ refl (leads_rest s₁ (live n) h))

      pub good_react : Good nothing (apply f s₀ e)
      unfolding react
      good_react =
          either (Good nothing) _ (λ o. good_ended (unmoved (unheard (λ y. false≢true (sym (not-true _ (both _ _ (both _ _ y).1).0) ∙ o)))))
          (λ _. either (Good nothing) _
          (λ k. good _ refl (record { leads = record { live = live (ne_eqb e.kind signal_received (λ x. omega (arith, eqb-true e.kind run_started k))); inside = sheet.start } }))
          (λ _. either (Good nothing) _
          (λ k. good_signal k (unmoved (unheard (λ y. omega (arith, eqb-true e.kind signal_received k, eqb-true e.kind activity_result (both _ _ y).0)))))
          (λ n. either (Good nothing) _
          (λ _. good _ (spares_result f s₁ e).no_end (leads_result n))
          (λ r. let h = unmoved (unheard (λ y. false≢true (sym r ∙ (both _ _ y).0))) in
          either (Good nothing) _
          (λ _. good _ (spares_resolved f s₁ e).no_end (leads_resolved n h))
          (λ _. good _ refl (leads_rest s₁ (live n) h))))))

module _ (f : Workflow) (s : State) (e : Event) where
  -- AN ENDED RUN stays as it is.
  pub record Frozen (v : Move) : Type 0 where
    pub same : v.state ≡ s
    pub over : v.next ≡ Rest

  pub frozen : is_terminal s.status ≡ true → Frozen (react f s e)
  unfolding react on_ended
  frozen t =
      either Frozen _ (λ _. either Frozen _ (λ _. record { same = refl; over = refl }) (λ _. record { same = refl; over = refl }))
      (λ o. absurd (false≢true (sym o ∙ t)))

  -- A RESULT without the notes 1 to 3 is heard.
  record Tells (v : Move) : Type 0 where
    tells : every plain (added [] v.note) ≡ true → heard f s e ≡ true

  tells_result : eqb e.kind activity_result ≡ true → Tells (react f s e)
  unfolding react on_ended on_result added every plain ◌and◌
  tells_result k =
      either Tells _ (λ _. either Tells _ (λ _. record { tells = λ p. absurd (false≢true p) }) (λ _. record { tells = λ p. absurd (false≢true p) }))
      (λ o. either Tells _ (λ x. absurd (omega (arith, eqb-true e.kind activity_result k, eqb-true e.kind run_started x)))
      (λ _. either Tells _ (λ x. absurd (omega (arith, eqb-true e.kind activity_result k, eqb-true e.kind signal_received x)))
      (λ _. either Tells _
      (λ _. either Tells _ (λ _. record { tells = λ p. absurd (false≢true p) }) (λ a. record { tells = λ _. join _ _ k (join _ _ (ap not o) (not-false _ a)) }))
      (λ x. absurd (false≢true (sym x ∙ k))))))

  pub hears : eqb e.kind activity_result ≡ true → every plain (added [] (react f s e).note) ≡ true → heard f s e ≡ true
  hears k = (tells_result k).tells
