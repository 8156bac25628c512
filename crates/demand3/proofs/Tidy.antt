-- Every move keeps the run check: what it hands back is tidy, and where it rests the run stands as it should.
use Rattle.std.specs.Prelude.{is_some, ◌≡◌, ◌⊎◌, Bool, false, List, ℕ, ◌+◌, ◌≤◌, ◌<◌, length, get_or, eqb, leb, ltb, Option, Some, None, Result, Ok, Err}
use Rattle.std.proofs.Math.Path.{refl, sym}
use Rattle.std.proofs.Common.{◌∙◌, ap, get_or-set_same}
use Rattle.std.proofs.Math.Logic.{inl, inr}
use Rattle.std.proofs.Math.Bool.{true, not}
use Rattle.std.proofs.lemmas.Bool.{false≢true}
use native.Mathlib.Omega.{arith}
use borrow.Author.Tests.{ltb-true, leb-true, leb-false, eqb-true, lt-ltb, le-leb, eq-eqb, ne_eqb, not-true, not-false}
use Rattle.laws.specs.Bool.{when◌then◌else◌, ◌and◌, ◌or◌, both, join, split, if_true, if_false, either}
use Rattle.laws.specs.Every.{every}
use Rattle.laws.specs.In.{below_at, at_below}
use Rattle.laws.specs.Arrays.{Slots, slots_set, slots_none}
use Rattle.workflow.specs.Code.{exhausted, activity}
use Rattle.workflow.specs.Layout.{node_room}
use Rattle.model.specs.Code.{largest, waiting, running, needs_intervention, run_completed, run_failed, scheduled, unknown, stuck, run_started}
use Rattle.workflow.specs.View.{Workflow}
use Rattle.workflow.specs.Lookup.{is_0_2, node_slots, node_of, route_of, routed, limit_of, declares}
use Rattle.workflow.specs.Sound.{Sound}
use Rattle.workflow.specs.declared.refusal.Refusal.{Refusal}
use Rattle.model.specs.declared.ErrorInfo.{ErrorInfo}
use Rattle.model.specs.declared.Output.{Output}
use Rattle.model.specs.declared.BufferedSignal.{BufferedSignal}
use Rattle.model.specs.declared.Visits.{Visits}
use Rattle.model.specs.declared.Streak.{Streak}
use Rattle.model.specs.declared.NodeResult.{NodeResult}
use Rattle.model.specs.declared.Position.{Position}
use Rattle.model.specs.declared.State.{State}
use Rattle.model.specs.declared.event.Event.{Event}
use Rattle.model.specs.declared.event.Mappings.{Mappings}
use Rattle.model.specs.declared.event.NoValue.{NoValue}
use Rattle.model.specs.declared.event.NoValue.TheVariants.{Fault, Unencodable, Lacking}
use Rattle.model.specs.declared.answer.Field.{Field}
use Rattle.model.specs.declared.moves.Next.{Next}
use Rattle.model.specs.declared.moves.Next.TheVariants.{Rest, Enter, Take, Consume, Wants, Refuse}
use Rattle.model.specs.declared.moves.Move.{Move}
use Rattle.model.specs.Record.{no_visits, no_streak, no_node_result, no_invocation, fresh, visits_of, streak_of, is_terminal, set_signals, set_visits, set_results, set_streaks, with_streak, with_result, seen, placed, finished}
use Rattle.model.specs.Store.{listed, removed, appended, leaves_over, signals_fit}
use Rattle.model.specs.Step.{still, position, one_more_visit, phased, arrival, terminate, evaluate, without_value, schedule, enter_activity, enter_await, enter_complete, arrive, enter, follow_to, follow, route_limited, route, signal_outcome, take_by, take as take_signal, retry}
use Rattle.machine.specs.Events.{named, applies, not_applicable, complete_invocation, stick, fail_invocation, on_signal, on_success, on_failure, on_unknown, on_result, resolve_as_complete, resolve_as_fail, on_resolved, on_ended, react}
use Rattle.snapshot.specs.Check.{result_unused, result_fits, streak_fits, slot_fits, slots_fit, counters_fit, keeps_error, is_no_invocation, result_of_status, phase_fits, waits, works, stands, consistent}
use Rattle.model.specs.StoreLaws.{appended_room, slotted_appended, fits_appended, removed_at, slotted_removed, fits_removed, fits_few}
use Rattle.demand3.specs.Tidy.{Stores, visits_fit, its_result_fits, its_streak_fits, Sized, Tidies}

-- SMALL CASES
-- A test over three arrays is a test over each.
one_by_one : (b p q u v w : Bool) → (when b then p and q else u and v and w) ≡ ((when b then true else u) and (when b then p else v) and (when b then q else w))
unfolding when◌then◌else◌ ◌and◌
one_by_one true p q u v w = refl
one_by_one false p q u v w = refl

-- The second case, where the first cannot be.
otherwise : (b x y : Bool) → (when b then x else y) ≡ true → (x ≡ true → ⊥) → y ≡ true
unfolding when◌then◌else◌
otherwise true x y e h = absurd (h e)
otherwise false x y e h = e

-- A signal's outcome that routes is routed.
signal_routed : (b : Bool) (x : Option ℕ) → is_some (when b then None else x) ≡ true → is_some x ≡ true
unfolding when◌then◌else◌
signal_routed true x e = absurd (false≢true e)
signal_routed false x e = e

-- No output is none.
nothing : (x : Output) → result_unused x ≡ true → x ≡ Output.Nothing
nothing Output.Nothing e = refl
nothing (Output.Handle x) e = absurd (false≢true e)
nothing (Output.Error x) e = absurd (false≢true e)

-- What comes after a signal that was taken without effect: for an arrival nothing, for a stored one the next of the store.
pub data Missed : Next → Type 0 where
  rests : Missed Rest
  consumes : Missed Consume

module _ (f : Workflow) where
  -- Tidy, standing as it should and with no signal left over is the run check.
  pub checked_by : (s : State) → Tidies f s → stands f s ≡ true → leaves_over s.status s.signal_count ≡ false → consistent f s ≡ true
  unfolding consistent counters_fit slots_fit
  checked_by s t w l =
      join _ _ (join _ _ (le-leb _ _ t.in_sequence) (le-leb _ _ t.in_time))
      (join _ _ t.store.fits
      (join _ _ (at_below 64 _ (λ n h. one_by_one _ _ _ _ _ _ ∙ join _ _ (t.visit_slots.each n h) (join _ _ (t.result_slots.each n h) (t.streak_slots.each n h)))) (join _ _ w (ap not l))))

  pub tidy_of : (s : State) → Sized s → consistent f s ≡ true → (Tidies f s) × (stands f s ≡ true)
  unfolding consistent counters_fit slots_fit
  tidy_of s z e =
      let x = both _ _ e in
      let y = both _ _ x.1 in
      let w = both _ _ y.1 in
      let counters = both _ _ x.0 in
      let slot : (n : ℕ) → n < 64 → (visits_fit f n (visits_of s n) and its_result_fits f n (get_or s.results n no_node_result) and its_streak_fits f n (streak_of s n)) ≡ true = λ n h. sym (one_by_one _ _ _ _ _ _) ∙ below_at 64 (slot_fits f s) w.0 n h in (
        record {
          in_sequence = leb-true _ _ counters.0;
          in_time = leb-true _ _ counters.1;
          store = record { slotted = record { long = z.signals; room = fits_few s y.0 }; fits = y.0 };
          visit_slots = record { long = z.visits; each = λ n h. (both _ _ (slot n h)).0 };
          result_slots = record { long = z.results; each = λ n h. (both _ _ (both _ _ (slot n h)).1).0 };
          streak_slots = record { long = z.streaks; each = λ n h. (both _ _ (both _ _ (slot n h)).1).1 };
        },
        (both _ _ w.1).0,
      )

  -- The first record is tidy, and one that takes note of an event stays so.
  zeros_fit : (n : ℕ) → (when ltb n f.node_count then true else true) ≡ true
  zeros_fit n = split (ltb n f.node_count) (if_true _ _ _) (if_false _ _ _)

  pub tidy_fresh : (x : ℕ) → Tidies f (fresh x)
  unfolding when◌then◌else◌ ◌and◌ ◌or◌ every signals_fit listed
  tidy_fresh x =
      record {
        in_sequence = omega arith;
        in_time = omega arith;
        store = record { slotted = record { long = refl; room = omega arith }; fits = refl };
        visit_slots = slots_none zeros_fit;
        result_slots = slots_none zeros_fit;
        streak_slots = slots_none zeros_fit;
      }

  pub tidy_seen : (s : State) (q t : ℕ) → q ≤ largest → t ≤ largest → Tidies f s → Tidies f (seen s q t)
  tidy_seen s q t h g y =
      record { in_sequence = h; in_time = omega (arith, y.in_time); store = y.store; visit_slots = y.visit_slots; result_slots = y.result_slots; streak_slots = y.streak_slots }

  pub stands_seen : (s : State) (q t : ℕ) → stands f (seen s q t) ≡ stands f s
  unfolding stands
  stands_seen s q t = refl

  -- WHAT HOLDS AFTER A MOVE, by what comes next.
  -- The run goes on at a node of the sheet.
  pub record On (s : State) (node : ℕ) : Type 0 where
    pub tidy : Tidies f s
    pub inside : node < f.node_count
    pub unended : s.result.output ≡ Output.Nothing

  -- It stands as it should, and takes a signal.
  pub record Waiting (s : State) : Type 0 where
    pub on : On s s.position.node
    pub well : stands f s ≡ true
    pub live : is_terminal s.status ≡ false

  abbrev pub After : State → Next → Type 0
  After s Rest = record { tidy : Tidies f s; well : stands f s ≡ true }
  After s (Enter n b) = On s n
  After s Take = Waiting s
  After s Consume = Waiting s
  After s (Wants n i b) = Tidies f s
  After s (Refuse k) = (k ≡ Refusal.NoRetry) ⊎ (k ≡ Refusal.Unencodable)

  -- A good move.
  pub record Good (v : Move) : Type 0 where
    pub after : After v.state v.next

  missed : (s : State) (k : Next) → Missed k → Waiting s → After s k
  missed s Rest rests w = record { tidy = w.on.tidy; well = w.well }
  missed s Consume consumes w = w
  missed s (Enter _ _) c w = elim c [ ]
  missed s Take c w = elim c [ ]
  missed s (Wants _ _ _) c w = elim c [ ]
  missed s (Refuse _) c w = elim c [ ]

  -- A SIGNAL goes from the store, or comes to it.
  tidy_signals : (s : State) {xs : List BufferedSignal} {k : ℕ} → Stores xs k → Tidies f s → Tidies f (set_signals s xs k)
  tidy_signals s h t = record { in_sequence = t.in_sequence; in_time = t.in_time; store = h; visit_slots = t.visit_slots; result_slots = t.result_slots; streak_slots = t.streak_slots }

  pub after_removed : (s : State) (i : ℕ) → i < s.signal_count → Waiting s → Waiting (removed s i)
  unfolding stands
  after_removed s i h w =
      let t = w.on.tidy.store in
      let e = removed_at s i t.slotted.room h in
      rw e (record {
        on = record {
          tidy = tidy_signals s (record { slotted = rw e at (slotted_removed s i t.slotted h); fits = rw e at (fits_removed s i t.slotted h t.fits) }) w.on.tidy;
          inside = w.on.inside;
          unended = w.on.unended;
        };
        well = w.well;
        live = w.live;
      })

  after_appended : (s : State) (x : BufferedSignal) → s.signal_count < 64 → x.sequence ≤ largest → After s Rest → After (appended s x) Rest
  unfolding stands
  after_appended s x h g r =
      let t = r.tidy.store in
      let e = appended_room s x h in
      rw e (record {
        tidy = tidy_signals s (record { slotted = rw e at (slotted_appended s x t.slotted h); fits = rw e at (fits_appended s x t.slotted h g t.fits) }) r.tidy;
        well = r.well;
      })

  -- THE RUN ENDS
  good_finish : (s : State) (k : ℕ) (x : Output) → is_terminal k ≡ true → result_of_status k x ≡ true → Tidies f s → Good (still (finished s k (record { output = x })) Rest)
  unfolding stands ◌and◌
  good_finish s k x h g t = record { after = record { tidy = t; well = if_true _ _ _ h ∙ g } }

  good_terminate : (s : State) (e : ErrorInfo) → Tidies f s → Good (terminate f s e)
  unfolding terminate is_terminal ◌or◌
  good_terminate s e t = good_finish s run_failed (Output.Error e) refl refl t

  -- A LIVE RUN stands at a node, on its last visit.
  record Here (result : Output) (visits : List Visits) (p : Position) : Type 0 where
    unended : result ≡ Output.Nothing
    inside : p.node < f.node_count
    visited : 0 < p.visit
    last : (get_or visits p.node no_visits).count ≡ p.visit

  abbrev IsHere : State → Type 0
  IsHere s = Here s.result.output s.visits s.position

  -- There it waits for a signal, or for its invocation.
  abbrev busy : State → Bool
  busy s = when eqb s.status waiting then waits (node_of f s.position.node) s else works f (node_of f s.position.node) s

  stands_here : (s : State) → is_terminal s.status ≡ false → IsHere s → busy s ≡ true → stands f s ≡ true
  unfolding stands
  stands_here s l h b =
      if_false _ _ _ l ∙ join _ _ (ap result_unused h.unended) (join _ _ (lt-ltb _ _ h.inside) (join _ _ (lt-ltb _ _ h.visited) (join _ _ (eq-eqb _ _ h.last) b)))

  here_of : (s : State) → is_terminal s.status ≡ false → stands f s ≡ true → (IsHere s) × (busy s ≡ true)
  unfolding stands
  here_of s l w =
      let a = both _ _ (sym (if_false _ _ _ l) ∙ w) in
      let b = both _ _ a.1 in
      let c = both _ _ b.1 in
      let d = both _ _ c.1 in
      (record { unended = nothing _ a.0; inside = ltb-true _ _ b.0; visited = ltb-true _ _ c.0; last = eqb-true _ _ d.0 }, d.1)

  -- ITS INVOCATION belongs to the activity where the run stands.
  record Owned (p : Position) (node visit action : ℕ) : Type 0 where
    kind : (node_of f p.node).kind ≡ activity
    same_node : node ≡ p.node
    same_visit : visit ≡ p.visit
    same_action : action ≡ (node_of f p.node).action

  abbrev IsOwned : State → Type 0
  IsOwned s = Owned s.position s.invocation.node s.invocation.visit s.invocation.action

  -- The status goes with the phase and with the error that is kept.
  abbrev in_phase : (status phase : ℕ) → Option ErrorInfo → Bool
  in_phase k p e = not (is_terminal k) and not (eqb k waiting) and (when keeps_error e then eqb p stuck else not (eqb p stuck)) and phase_fits f k p

  stands_at_work : (s : State) → IsHere s → IsOwned s → 0 < s.invocation.attempt → in_phase s.status s.invocation.phase s.invocation.error ≡ true → stands f s ≡ true
  stands_at_work s h o a e =
      let x = both _ _ e in
      let y = both _ _ x.1 in
      let z = both _ _ y.1 in
      stands_here s (not-true _ x.0) h
      (if_false _ _ _ (not-true _ y.0) ∙ join _ _ (eq-eqb _ _ o.kind) (join _ _ z.1 (join _ _ (eq-eqb _ _ o.same_node) (join _ _ (eq-eqb _ _ o.same_visit) (join _ _ (eq-eqb _ _ o.same_action) (join _ _ (lt-ltb _ _ a) z.0))))))

  owned_of : (s : State) → eqb s.invocation.phase 0 ≡ false → busy s ≡ true → (IsOwned s) × (0 < s.invocation.attempt)
  owned_of s e b =
      let a = both _ _ (otherwise _ _ _ b (λ w. false≢true (sym e ∙ (both _ _ (both _ _ w).1).0))) in
      let n = both _ _ (both _ _ a.1).1 in
      let v = both _ _ n.1 in
      let c = both _ _ v.1 in
      (record { kind = eqb-true _ _ a.0; same_node = eqb-true _ _ n.0; same_visit = eqb-true _ _ v.0; same_action = eqb-true _ _ c.0 }, ltb-true _ _ (both _ _ c.1).0)

  -- THE SLOTS OF THE NODE change.
  used_fits : (v o : ℕ) (x : Output) → result_unused x ≡ false → result_fits (record { visit = v; outcome = o; output = x }) ≡ true
  unfolding ◌or◌
  used_fits v o x e = rw e

  no_streak_fits : (n : ℕ) → streak_fits f n no_streak ≡ true
  unfolding when◌then◌else◌
  no_streak_fits n = refl

  one_more_fits : (n o k x : ℕ) → limit_of f n o ≡ Some x → k < x → streak_fits f n (record { outcome = o; count = k + 1 }) ≡ true
  one_more_fits n o k x e h = if_false _ _ _ (ne_eqb (k + 1) 0 (λ z. omega arith)) ∙ rw e (le-leb (k + 1) x (omega arith))

  module _ {s : State} {n : ℕ} (on : On s n) where
    in_sheet : (a b : Bool) → a ≡ true → (when ltb n f.node_count then a else b) ≡ true
    in_sheet a b e = if_true _ _ _ (lt-ltb _ _ on.inside) ∙ e

    keep_slots : {v : List Visits} {r : List NodeResult} {x : List Streak} (activations : ℕ) → Slots node_room (visits_fit f) no_visits v → Slots node_room (its_result_fits f) no_node_result r → Slots node_room (its_streak_fits f) no_streak x → On (set_visits (set_results (set_streaks s x) r) v activations) n
    keep_slots k a b c =
        record {
          tidy = record { in_sequence = on.tidy.in_sequence; in_time = on.tidy.in_time; store = on.tidy.store; visit_slots = a; result_slots = b; streak_slots = c };
          inside = on.inside;
          unended = on.unended;
        }

    keep_counted : On (one_more_visit s n) n
    keep_counted = keep_slots _ (slots_set n _ (in_sheet _ _ refl) on.tidy.visit_slots) on.tidy.result_slots on.tidy.streak_slots

    keep_result : (x : NodeResult) → result_fits x ≡ true → On (with_result s n x) n
    keep_result x h = keep_slots _ on.tidy.visit_slots (slots_set n x (in_sheet _ _ h) on.tidy.result_slots) on.tidy.streak_slots

    keep_streak : (x : Streak) → streak_fits f n x ≡ true → On (with_streak s n x) n
    keep_streak x h = keep_slots _ on.tidy.visit_slots on.tidy.result_slots (slots_set n x (in_sheet _ _ h) on.tidy.streak_slots)

  -- A NODE IS ENTERED
  good_evaluate : (a : Result ℕ NoValue) (s : State) (n : ℕ) (i : Field) (b r : ℕ) (k : ℕ → Move) → Tidies f s → ((x : ℕ) → Good (k x)) → Good (evaluate f a s n i b r k)
  unfolding evaluate without_value
  good_evaluate (Ok x) s n i b r k t h = h x
  good_evaluate (Err (Fault c d)) s n i b r k t h = record { after = (good_terminate s _ t).after }
  good_evaluate (Err Unencodable) s n i b r k t h = record { after = inr refl }
  good_evaluate (Err Lacking) s n i b r k t h = record { after = t }

  module _ (s : State) (n : ℕ) (on : On s n) (visited : 0 < (visits_of s n).count) where
    arrived : Here s.result.output s.visits (position n (visits_of s n).count)
    arrived = record { unended = on.unended; inside = on.inside; visited = visited; last = refl }

    good_schedule : (x : ℕ) (p : Option ℕ) → (node_of f n).kind ≡ activity → Good (schedule f s n x p)
    unfolding schedule
    good_schedule x p k =
        record {
          after = record {
            tidy = on.tidy;
            well = stands_at_work _ arrived (record { kind = k; same_node = refl; same_visit = refl; same_action = refl }) (omega arith) (unfold is_terminal when◌then◌else◌ ◌and◌ ◌or◌ in refl);
          };
        }

    good_enter_activity : (b : ℕ) (m : Mappings) → (node_of f n).kind ≡ activity → Good (enter_activity f s n b m)
    unfolding enter_activity
    good_enter_activity b m k =
        good_evaluate _ s n _ b _ _ on.tidy (λ x.
        either Good _
        (λ _. good_evaluate _ s n _ b _ _ on.tidy (λ p. record { after = (good_schedule x _ k).after }))
        (λ _. record { after = (good_schedule x _ k).after }))

    good_arrive : (b : ℕ) (m : Mappings) → Good (arrive f s n b m)
    unfolding arrive enter_await enter_complete
    good_arrive b m =
        either Good _
        (λ k. good_enter_activity b m (eqb-true _ _ k))
        (λ _. either Good _
        (λ k. record {
          after = record {
            on = record { tidy = on.tidy; inside = on.inside; unended = on.unended };
            well = stands_here _ (unfold is_terminal ◌or◌ in refl) arrived (if_true _ _ _ refl ∙ join _ (is_no_invocation no_invocation) k (unfold ◌and◌ in refl));
            live = unfold is_terminal ◌or◌ in refl;
          };
        })
        (λ _. either Good _
        (λ _. good_evaluate _ s n _ b _ _ on.tidy (λ x. record { after = (good_finish s run_completed (Output.Handle x) (unfold is_terminal ◌or◌ in refl) refl on.tidy).after }))
        (λ _. good_terminate s _ on.tidy)))

  module _ (sheet : Sound f) where
    -- ROUTING: what is routed leads to a node of the sheet.
    good_follow : (s : State) (n o : ℕ) → routed f n o ≡ true → On s n → Good (follow f s n o)
    unfolding follow_to
    good_follow s n o h on = go (route_of f n o) refl h
      where
        go : (x : Option ℕ) → route_of f n o ≡ x → is_some x ≡ true → Good (follow_to f s n x)
        go (Some t) e h = record { after = record { tidy = on.tidy; inside = sheet.targets n o t e; unended = on.unended } }
        go None e h = absurd (false≢true h)

    good_limited : (s : State) (n o : ℕ) (x : Option ℕ) → limit_of f n o ≡ x → routed f n o ≡ true → On s n → Good (route_limited f s n o x)
    unfolding route_limited
    good_limited s n o None e h on = good_follow _ n o h (keep_streak on no_streak (no_streak_fits n))
    good_limited s n o (Some x) e h on =
        either Good _
        (λ _. record { after = (good_follow (with_streak s n no_streak) n exhausted (sheet.exhausts n o x e) (keep_streak on no_streak (no_streak_fits n))).after })
        (λ g. good_follow _ n o h (keep_streak on _ (one_more_fits n o _ x e (leb-false _ _ g))))

    -- a run at a node of the sheet is not astray
    not_astray : {A : Type 0} {s : State} {n : ℕ} → On s n → leb (node_slots f) n ≡ true → A
    not_astray {n = n} on z = absurd (omega (arith, on.inside, sheet.few_nodes, leb-true (node_slots f) n z))

    good_route : (s : State) (o : ℕ) (x : Output) → result_unused x ≡ false → routed f s.position.node o ≡ true → On s s.position.node → Good (route f s o x)
    unfolding route
    good_route s o x e h on =
        either Good _ (λ z. not_astray on z) (λ _. good_limited _ _ o _ refl h (keep_result on _ (used_fits s.position.visit o x e)))

    -- A node that was just entered has been visited.
    visited_once : (s : State) (n : ℕ) → On s n → 0 < (visits_of (one_more_visit s n) n).count
    visited_once s n on =
        let h : n < length s.visits = omega (arith, on.inside, sheet.few_nodes, on.tidy.visit_slots.long) in
        rw (get_or-set_same s.visits n _ no_visits h) (omega arith)

    pub good_enter : (s : State) (n b : ℕ) (m : Mappings) → On s n → Good (enter f s n b m)
    unfolding enter
    good_enter s n b m on =
        either Good _
        (λ z. not_astray on z)
        (λ _. either Good _
        (λ _. good_terminate s _ on.tidy)
        (λ _. either Good _
        (λ _. good_terminate s _ on.tidy)
        (λ _. good_arrive (one_more_visit s n) n (keep_counted on) (visited_once s n on) b m)))

    -- TAKING A SIGNAL
    good_take_by : (r : Option ℕ) (s : State) (x : BufferedSignal) (k : Next) → Missed k → Waiting s → (is_some r ≡ true → routed f s.position.node (signal_outcome x.outcome) ≡ true) → Good (take_by f r s x k)
    unfolding take_by
    good_take_by (Some t) s x k c w h = record { after = (good_route s (signal_outcome x.outcome) (Output.Handle x.«data») refl (h refl) w.on).after }
    good_take_by None s x k c w h = record { after = missed s k c w }

    pub good_take : (s : State) (x : BufferedSignal) (k : Next) → Missed k → Waiting s → Good (take_signal f s x k)
    good_take s x k c w = good_take_by _ s x k c w (signal_routed _ _)

    -- THE EVENTS, on a run that stands as it should.
    module _ (s : State) (as_is : After s Rest) where
      good_ended : (e : Event) → Good (on_ended s e)
      unfolding on_ended
      good_ended e = either Good _ (λ _. record { after = as_is }) (λ _. record { after = as_is })

      module _ (live : is_terminal s.status ≡ false) where
        here : IsHere s
        here = (here_of s live as_is.well).0

        good_signal : (e : Event) → e.sequence ≤ largest → Good (on_signal f s e)
        unfolding on_signal
        good_signal e h =
            either Good _
            (λ _. record { after = record { on = record { tidy = as_is.tidy; inside = here.inside; unended = here.unended }; well = as_is.well; live = live } })
            (λ _. either Good _
            (λ _. record { after = as_is })
            (λ g. record { after = after_appended s (arrival e) (leb-false _ _ g) h as_is }))

        good_complete : (o : ℕ) (x : Output) → result_unused x ≡ false → routed f s.position.node o ≡ true → Good (complete_invocation f s o x)
        unfolding complete_invocation
        good_complete o x e h = good_route _ o x e h (record { tidy = as_is.tidy; inside = here.inside; unended = here.unended })

        -- There is an invocation.
        module _ (called : eqb s.invocation.phase 0 ≡ false) where
          owned : (IsOwned s) × (0 < s.invocation.attempt)
          owned = owned_of s called (here_of s live as_is.well).1

          after_phased : (k p a : ℕ) (x : Option ErrorInfo) → s.invocation.attempt ≤ a → in_phase k p x ≡ true → After (placed s k s.position (phased s.invocation p a x)) Rest
          after_phased k p a x h e = record { tidy = as_is.tidy; well = stands_at_work _ here owned.0 (omega (arith, owned.1)) e }

          good_retry : (delay : ℕ) → Good (retry f s delay)
          unfolding retry
          good_retry d =
              either Good _
              (λ _. record { after = inl refl })
              (λ _. either Good _
              (λ _. record { after = inl refl })
              (λ _. record { after = after_phased running scheduled _ None (omega arith) (unfold is_terminal when◌then◌else◌ ◌and◌ ◌or◌ in refl) }))

          good_stick : (e : ErrorInfo) → is_0_2 f ≡ true → Good (stick s e)
          unfolding stick
          good_stick e h = record { after = after_phased needs_intervention stuck _ (Some e) (omega arith) (unfold is_terminal when◌then◌else◌ ◌and◌ ◌or◌ in h) }

          good_fail : (k d : ℕ) (p : Bool) → Good (fail_invocation f s k d p)
          unfolding fail_invocation
          good_fail k d p = either Good _ (λ h. good_complete _ _ refl h) (λ _. either Good _ (λ h. good_stick _ (both _ _ h).1) (λ _. good_terminate s _ as_is.tidy))

          good_declared : (o x : ℕ) → declares f (node_of f s.position.node).action o ≡ true → Good (complete_invocation f s o (Output.Handle x))
          good_declared o x h = good_complete o _ refl (sheet.declared_routed _ o here.inside owned.0.kind h)

          good_success : (e : Event) → Good (on_success f s e)
          unfolding on_success
          good_success e = either Good _ (λ h. good_declared _ _ h) (λ _. good_fail _ _ _)

          good_failure : (e : Event) → Good (on_failure f s e)
          unfolding on_failure
          good_failure e = either Good _ (λ _. good_retry _) (λ _. either Good _ (λ _. good_fail _ _ _) (λ _. good_fail _ _ _))

          good_unknown : (e : Event) → Good (on_unknown f s e)
          unfolding on_unknown
          good_unknown e =
              either Good _
              (λ _. record { after = after_phased needs_intervention unknown _ None (omega arith) (unfold is_terminal when◌then◌else◌ ◌and◌ ◌or◌ in refl) })
              (λ _. either Good _ (λ _. good_retry _) (λ _. good_fail _ _ _))

          good_resolve_as_fail : (x : Option ErrorInfo) (e : Event) → Good (resolve_as_fail f x s e)
          unfolding resolve_as_fail
          good_resolve_as_fail (Some k) e = good_terminate s k as_is.tidy
          good_resolve_as_fail None e = good_fail _ _ _

        called_by : (e : Event) → named s.invocation e ≡ true → eqb s.invocation.phase 0 ≡ false
        unfolding named
        called_by e n = not-true _ (both _ _ n).0

        good_result : (e : Event) → Good (on_result f s e)
        unfolding on_result applies
        good_result e =
            either Good _
            (λ _. record { after = as_is })
            (λ h.
            let c = called_by e (both _ _ (not-false _ h)).0 in
            either Good _ (λ _. good_success c e) (λ _. either Good _ (λ _. good_failure c e) (λ _. good_unknown c e)))

        good_resolved : (e : Event) → Good (on_resolved f s e)
        unfolding on_resolved not_applicable resolve_as_complete
        good_resolved e =
            either Good _
            (λ _. record { after = as_is })
            (λ h.
            let c = called_by e (not-false _ h) in
            either Good _
            (λ _. record { after = as_is })
            (λ _. either Good _
            (λ _. either Good _ (λ d. good_declared c _ _ d) (λ _. record { after = as_is }))
            (λ _. either Good _ (λ _. good_retry c 0) (λ _. good_resolve_as_fail c _ e))))

    -- A start finds a run that has not ended and has no result; any other event one that stands as it should.
    pub good_react : (s : State) (e : Event) → Tidies f s → (eqb e.kind run_started ≡ true → (is_terminal s.status ≡ false) × (s.result.output ≡ Output.Nothing)) → (eqb e.kind run_started ≡ false → stands f s ≡ true) → e.sequence ≤ largest → Good (react f s e)
    unfolding react
    good_react s e t first later q =
        either Good _
        (λ x. good_ended s (record { tidy = t; well = split (eqb e.kind run_started) (λ k. absurd (false≢true (sym (first k).0 ∙ x))) later }) e)
        (λ l. either Good _
        (λ k. record { after = record { tidy = t; inside = sheet.start; unended = (first k).1 } })
        (λ k.
        let as_is : After s Rest = record { tidy = t; well = later k } in
        either Good _
        (λ _. good_signal s as_is l e q)
        (λ _. either Good _
        (λ _. good_result s as_is l e)
        (λ _. either Good _
        (λ _. good_resolved s as_is l e)
        (λ _. record { after = as_is })))))
