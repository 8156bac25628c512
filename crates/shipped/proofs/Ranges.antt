-- Every record that a call hands back fits: each of its numbers is one that its field can hold.
use Rattle.graph.specs.Verdict.{Verdict}
use Rattle.std.specs.Prelude.{◌≡◌, Bool, List, length, get_or, set, Option, Some, None, Result, Ok, Err}
use Rattle.std.proofs.Math.Path.{refl}
use Rattle.std.proofs.Common.{◌∙◌, length-set}
use Prim.Native.Nat.{ℕ, zero, suc, ◌+◌, ◌-◌, ◌^◌, ◌<◌, min}
use native.Mathlib.Omega.{arith}
use borrow.Author.Tests.{eqb-true, leb-false, ltb-true, ltb-false}
use Rattle.laws.specs.Bool.{either}
use Rattle.laws.specs.Shift.{length_without}
use Rattle.laws.specs.All.{All, all_get_d, all_set, all_take, all_replicate, all_without}
use Rattle.laws.specs.Settle.{settle}
use Rattle.workflow.specs.Code.{activity}
use Rattle.workflow.specs.View.{Workflow}
use Rattle.workflow.specs.Lookup.{node_slots, node_of, limit_of}
use Rattle.model.specs.Code.{running, run_failed, run_completed, needs_intervention, scheduled, unknown, stuck}
use Rattle.model.specs.declared.ErrorInfo.{ErrorInfo}
use Rattle.model.specs.declared.Output.{Output}
use Rattle.model.specs.declared.BufferedSignal.{BufferedSignal}
use Rattle.model.specs.declared.Visits.{Visits}
use Rattle.model.specs.declared.Streak.{Streak}
use Rattle.model.specs.declared.NodeResult.{NodeResult}
use Rattle.model.specs.declared.Position.{Position}
use Rattle.model.specs.declared.InvocationState.{InvocationState}
use Rattle.model.specs.declared.State.{State}
use Rattle.model.specs.declared.event.Event.{Event}
use Rattle.model.specs.declared.event.Mappings.{Mappings}
use Rattle.model.specs.declared.event.NoValue.{NoValue}
use Rattle.model.specs.declared.event.NoValue.TheVariants.{Fault, Unencodable, Lacking}
use Rattle.model.specs.declared.answer.Field.{Field}
use Rattle.model.specs.declared.moves.Next.{Next}
use Rattle.model.specs.declared.moves.Next.TheVariants.{Rest, Enter, Take, Consume, Wants, Refuse}
use Rattle.model.specs.declared.moves.Move.{Move}
use Rattle.model.specs.Record.{no_signal, no_visits, no_streak, no_node_result, no_position, no_invocation, fresh, visits_of, streak_of, set_signals, set_visits, set_streaks, set_results, seen, placed, finished}
use Rattle.model.specs.Store.{listed, stored, signal_at, removed, appended, emptied}
use Rattle.model.specs.Step.{no_mapping, answer, signal_outcome, streak_count, one_more_visit, phased, arrival, error, terminate, evaluate, without_value, schedule, enter_activity, enter_await, enter_complete, arrive, enter, follow_to, route_limited, route, take_by, retry}
use Rattle.machine.specs.Events.{success_outcome, not_applicable, stick, on_ended, complete_invocation, fail_invocation, on_signal, on_success, on_failure, on_unknown, on_result, resolve_as_complete, resolve_as_fail, on_resolved, react}
use Rattle.kernel.specs.declared.Limits.{Limits}
use Rattle.kernel.specs.declared.Call.{Call}
use Rattle.kernel.specs.Drive.{Machine, counting, consume_by, advance_by, advance, is_moving, started, driven}
use Rattle.kernel.specs.Call.{Last, Answer, next, wants, refused, admission, given, closed, finish_by, transition_by, transition}
use Rattle.host.specs.Fits.{Number, Name, Code, ErrorFits, OutputFits, KeptFits, SignalFits, StreakFits, ResultFits, PositionFits, InvocationFits, EventFits, MappingFits, CallFits, Fits}
use Rattle.shipped.proofs.Sheet.{SheetFits, Sheet, admitted_sheet}

-- The record that stands, if there is one; and the record of an answer, if it has one.
abbrev pub LastFits : Last → Type 0
LastFits None = Unit {0}
LastFits (Some s) = Fits s

abbrev pub RecordFits : Answer → Type 0
RecordFits (next a) = Fits a.state
RecordFits (wants n i b s) = Fits s
RecordFits (refused k i) = Unit {0}

-- WHAT STANDS FOR NONE.
no_signal_fits : SignalFits no_signal
no_signal_fits = record { event_id = omega arith; signal = omega arith; outcome = omega arith; data_handle = omega arith }

no_streak_fits : StreakFits no_streak
no_streak_fits = record { outcome = omega arith; count = omega arith }

no_position_fits : PositionFits no_position
no_position_fits = record { node = omega arith; visit = omega arith }

no_invocation_fits : InvocationFits no_invocation
no_invocation_fits = record { phase = omega arith; node = omega arith; visit = omega arith; action = omega arith; attempt = omega arith; input = omega arith; error = tt }

-- THE SETTERS.
module _ {s : State} (t : Fits s) where
  fits_slots : {g : List BufferedSignal} {k : ℕ} {v : List Visits} {a : ℕ} {x : List Streak} {r : List NodeResult}
      → length g ≡ 64 → All SignalFits g → Number k → length v ≡ 64 → All (λ (y : Visits). Number y.count) v → Number a
      → length x ≡ 64 → All StreakFits x → length r ≡ 64 → All ResultFits r → Fits (set_signals (set_visits (set_streaks (set_results s r) x) v a) g k)
  fits_slots gl ga ka vl va aa xl xa rl ra =
      record {
        signals_long = gl;
        visits_long = vl;
        streaks_long = xl;
        results_long = rl;
        signals = ga;
        visits = va;
        streaks = xa;
        results = ra;
        signal_count = ka;
        status = t.status;
        input = t.input;
        activations = aa;
        position = t.position;
        invocation = t.invocation;
        result = t.result;
      }

  fits_signals : (g : List BufferedSignal) (k : ℕ) → length g ≡ 64 → All SignalFits g → Number k → Fits (set_signals s g k)
  fits_signals g k l a h = fits_slots l a h t.visits_long t.visits t.activations t.streaks_long t.streaks t.results_long t.results

  fits_visits : (v : List Visits) (a : ℕ) → length v ≡ 64 → All (λ (y : Visits). Number y.count) v → Number a → Fits (set_visits s v a)
  fits_visits v a l b h = fits_slots t.signals_long t.signals t.signal_count l b h t.streaks_long t.streaks t.results_long t.results

  fits_streak : (n : ℕ) (x : Streak) → StreakFits x → Fits (set_streaks s (set s.streaks n x))
  fits_streak n x h =
      fits_slots t.signals_long t.signals t.signal_count t.visits_long t.visits t.activations
      (length-set s.streaks n x ∙ t.streaks_long) (all_set StreakFits s.streaks n x h t.streaks) t.results_long t.results

  fits_result : (n : ℕ) (x : NodeResult) → ResultFits x → Fits (set_results s (set s.results n x))
  fits_result n x h =
      fits_slots t.signals_long t.signals t.signal_count t.visits_long t.visits t.activations
      t.streaks_long t.streaks (length-set s.results n x ∙ t.results_long) (all_set ResultFits s.results n x h t.results)

  fits_seen : (q a : ℕ) → Fits (seen s q a)
  fits_seen q a =
      record {
        signals_long = t.signals_long;
        visits_long = t.visits_long;
        streaks_long = t.streaks_long;
        results_long = t.results_long;
        signals = t.signals;
        visits = t.visits;
        streaks = t.streaks;
        results = t.results;
        signal_count = t.signal_count;
        status = t.status;
        input = t.input;
        activations = t.activations;
        position = t.position;
        invocation = t.invocation;
        result = t.result;
      }

  fits_placed : (k : ℕ) (p : Position) (i : InvocationState) → Number k → PositionFits p → InvocationFits i → Fits (placed s k p i)
  fits_placed k p i a b c =
      record {
        signals_long = t.signals_long;
        visits_long = t.visits_long;
        streaks_long = t.streaks_long;
        results_long = t.results_long;
        signals = t.signals;
        visits = t.visits;
        streaks = t.streaks;
        results = t.results;
        signal_count = t.signal_count;
        status = a;
        input = t.input;
        activations = t.activations;
        position = b;
        invocation = c;
        result = t.result;
      }

  fits_phased : (k p a : ℕ) (e : Option ErrorInfo) → Number k → Number p → Number a → KeptFits e → Fits (placed s k s.position (phased s.invocation p a e))
  fits_phased k p a e hk hp ha he =
      fits_placed k s.position (phased s.invocation p a e) hk t.position
      (record {
        phase = hp;
        node = t.invocation.node;
        visit = t.invocation.visit;
        action = t.invocation.action;
        attempt = ha;
        input = t.invocation.input;
        error = he;
      })

  fits_finished : (k : ℕ) (x : Output) → Number k → OutputFits x → Fits (finished s k (record { output = x }))
  fits_finished k x a h =
      record {
        signals_long = t.signals_long;
        visits_long = t.visits_long;
        streaks_long = t.streaks_long;
        results_long = t.results_long;
        signals = t.signals;
        visits = t.visits;
        streaks = t.streaks;
        results = t.results;
        signal_count = t.signal_count;
        status = a;
        input = t.input;
        activations = t.activations;
        position = no_position_fits;
        invocation = no_invocation_fits;
        result = h;
      }

  -- THE STORE. A signal comes, or goes.
  fits_appended : (x : BufferedSignal) → SignalFits x → Fits (appended s x)
  unfolding appended
  fits_appended x h =
      either Fits _
      (λ r. fits_signals _ _ (length-set s.signals s.signal_count x ∙ t.signals_long) (all_set SignalFits s.signals s.signal_count x h t.signals) (omega (arith, ltb-true s.signal_count 64 r)))
      (λ _. t)

  fits_removed : (i : ℕ) → Fits (removed s i)
  unfolding removed
  fits_removed i =
      either Fits _
      (λ r. fits_signals _ _ (length_without no_signal s.signals i (omega (arith, t.signals_long, ltb-true i (min 64 s.signal_count) r)) ∙ t.signals_long) (all_without SignalFits no_signal s.signals i no_signal_fits t.signals) (omega (arith, t.signal_count)))
      (λ _. t)

  fits_emptied : Fits (emptied s)
  unfolding emptied
  fits_emptied = fits_signals _ 0 refl (all_replicate SignalFits 64 no_signal no_signal_fits) (omega arith)

  signal_fits : (i : ℕ) → SignalFits (signal_at s i)
  unfolding signal_at listed
  signal_fits i = all_get_d SignalFits (stored s) i no_signal no_signal_fits (all_take SignalFits s.signal_count s.signals t.signals)

  visit_fits : (n : ℕ) → Number (visits_of s n).count
  visit_fits n = all_get_d (λ (y : Visits). Number y.count) s.visits n no_visits (omega arith) t.visits

-- The record that a start makes.
fits_fresh : (x : ℕ) → Number x → Fits (fresh x)
fits_fresh x h =
    record {
      signals_long = refl;
      visits_long = refl;
      streaks_long = refl;
      results_long = refl;
      signals = all_replicate SignalFits 64 no_signal no_signal_fits;
      visits = all_replicate (λ (y : Visits). Number y.count) 64 no_visits (omega arith);
      streaks = all_replicate StreakFits 64 no_streak no_streak_fits;
      results = all_replicate ResultFits 64 no_node_result (record { visit = omega arith; outcome = omega arith; output = tt });
      signal_count = omega arith;
      status = omega arith;
      input = h;
      activations = omega arith;
      position = no_position_fits;
      invocation = no_invocation_fits;
      result = tt;
    }

-- THE MOVES. Each keeps what fits.
abbrev Good : Move → Type 0
Good v = Fits v.state

-- The mapping answers that a node finds.
abbrev EvaluatedFits : Result ℕ NoValue → Type 0
EvaluatedFits (Ok x) = Number x
EvaluatedFits (Err (Fault c d)) = (Code c) × (Number d)
EvaluatedFits (Err Unencodable) = Unit {0}
EvaluatedFits (Err Lacking) = Unit {0}

-- A signal's outcome, and a success's: an absent one has a name.
signal_named : (o : ℕ) → Name o → Name (signal_outcome o)
signal_named o h = either Name _ (λ _. omega arith) (λ _. h)

success_named : (o : ℕ) → Name o → Name (success_outcome o)
success_named o h = either Name _ (λ _. omega arith) (λ _. h)

module _ (f : Workflow) (its : Sheet f) where
  good_terminate : (s : State) (e : ErrorInfo) → ErrorFits e → Fits s → Good (terminate f s e)
  unfolding terminate
  good_terminate s e h t = fits_finished t run_failed (Output.Error e) (omega arith) h

  -- A NODE IS ENTERED.
  module _ (m : Mappings) (answers : All MappingFits m.answers) where
    answer_fits : (i : ℕ) → EvaluatedFits (answer m i)
    unfolding answer
    answer_fits i =
        let h : MappingFits (get_or m.answers i no_mapping) = all_get_d MappingFits m.answers i no_mapping (record { kind = omega arith; value = omega arith; code = omega arith; detail = omega arith; operations = omega arith }) answers in
        either EvaluatedFits _
        (λ _. either EvaluatedFits _ (λ _. h.value) (λ _. either EvaluatedFits _ (λ _. (h.code, h.detail)) (λ _. tt)))
        (λ _. tt)

    module _ (n : ℕ) (inside : n < node_slots f) where
      name : Name n
      name = omega (arith, inside)

      good_evaluate : (a : Result ℕ NoValue) (s : State) (i : Field) (b r : ℕ) (k : ℕ → Move) → EvaluatedFits a → Fits s → ((x : ℕ) → Number x → Good (k x)) → Good (evaluate f a s n i b r k)
      unfolding evaluate without_value
      good_evaluate (Ok x) s i b r k a t h = h x a
      good_evaluate (Err (Fault c d)) s i b r k a t h = good_terminate s (error c n d) (record { code = a.0; node = name; detail = a.1 }) t
      good_evaluate (Err Unencodable) s i b r k a t h = t
      good_evaluate (Err Lacking) s i b r k a t h = t

      good_schedule : (s : State) (x : ℕ) (p : Option ℕ) → (node_of f n).kind ≡ activity → Number x → Fits s → Good (schedule f s n x p)
      unfolding schedule
      good_schedule s x p k h t =
          fits_placed t running _ _ (omega arith) (record { node = name; visit = visit_fits t n })
          (record {
            phase = omega arith;
            node = name;
            visit = visit_fits t n;
            action = its.action_of n (omega (arith, inside)) k;
            attempt = omega arith;
            input = h;
            error = tt;
          })

      good_arrive : (s : State) (b : ℕ) → Fits s → Good (arrive f s n b m)
      unfolding arrive enter_activity enter_await enter_complete
      good_arrive s b t =
          either Good _
          (λ k. good_evaluate (answer m 0) s _ b _ _ (answer_fits 0) t (λ x h. either Good _
          (λ _. good_evaluate (answer m 1) s _ b _ _ (answer_fits 1) t (λ p _. good_schedule s x _ (eqb-true _ _ k) h t))
          (λ _. good_schedule s x _ (eqb-true _ _ k) h t)))
          (λ _. either Good _
          (λ _. fits_placed t _ _ _ (omega arith) (record { node = name; visit = visit_fits t n }) no_invocation_fits)
          (λ _. either Good _
          (λ _. good_evaluate (answer m 0) s _ b _ _ (answer_fits 0) t (λ x h. fits_finished t run_completed (Output.Handle x) (omega arith) h))
          (λ _. good_terminate s _ (record { code = its.code_of n; node = name; detail = its.detail_of n }) t)))

    good_enter : (s : State) (n b : ℕ) → Fits s → Good (enter f s n b m)
    unfolding enter
    good_enter s n b t =
        either Good _
        (λ _. t)
        (λ z.
        let i : n < node_slots f = leb-false (node_slots f) n z in
        either Good _
        (λ _. good_terminate s _ (record { code = omega arith; node = name n i; detail = omega arith }) t)
        (λ v. either Good _
        (λ _. good_terminate s _ (record { code = omega arith; node = name n i; detail = omega arith }) t)
        (λ a. good_arrive n i (one_more_visit s n) b
        (fits_visits t _ _ (length-set s.visits n _ ∙ t.visits_long)
        (all_set (λ (y : Visits). Number y.count) s.visits n _ (omega (arith, its.visits, leb-false f.max_visits_per_node (visits_of s n).count v)) t.visits)
        (omega (arith, its.activations, leb-false f.max_activations s.activations a))))))

  -- ROUTING.
  good_follow : (s : State) (n : ℕ) (x : Option ℕ) → Fits s → Good (follow_to f s n x)
  unfolding follow_to
  good_follow s n (Some t) h = h
  good_follow s n None h = h

  good_limited : (s : State) (n o : ℕ) (x : Option ℕ) → limit_of f n o ≡ x → Name o → Fits s → Good (route_limited f s n o x)
  unfolding route_limited
  good_limited s n o None e h t = good_follow _ n _ (fits_streak t n no_streak no_streak_fits)
  good_limited s n o (Some x) e h t =
      either Good _
      (λ _. good_follow _ n _ (fits_streak t n no_streak no_streak_fits))
      (λ g. good_follow _ n _ (fits_streak t n _ (record { outcome = h; count = omega (arith, its.limits n o x e, leb-false x (streak_count (streak_of s n) o) g) })))

  good_route : (s : State) (o : ℕ) (x : Output) → Name o → OutputFits x → Fits s → Good (route f s o x)
  unfolding route
  good_route s o x h g t =
      either Good _ (λ _. t) (λ _. good_limited _ _ o _ refl h (fits_result t _ _ (record { visit = t.position.visit; outcome = h; output = g })))

  -- TAKING A SIGNAL.
  good_take_by : (r : Option ℕ) (s : State) (x : BufferedSignal) (k : Next) → SignalFits x → Fits s → Good (take_by f r s x k)
  unfolding take_by
  good_take_by (Some _) s x k h t = good_route s _ _ (signal_named x.outcome h.outcome) h.data_handle t
  good_take_by None s x k h t = t

  -- THE EVENTS.
  good_retry : (s : State) (d : ℕ) → Fits s → Good (retry f s d)
  unfolding retry
  good_retry s d t =
      either Good _ (λ _. t) (λ _. either Good _ (λ _. t)
      (λ h. fits_phased t running scheduled _ None (omega arith) (omega arith) (omega (arith, ltb-false (2 ^ 32 - 1) (s.invocation.attempt + 1) h)) tt))

  good_complete : (s : State) (o : ℕ) (x : Output) → Name o → OutputFits x → Fits s → Good (complete_invocation f s o x)
  unfolding complete_invocation
  good_complete s o x h g t = good_route _ o x h g (fits_placed t _ _ _ t.status t.position no_invocation_fits)

  good_fail : (s : State) (k d : ℕ) (p : Bool) → Code k → Number d → Fits s → Good (fail_invocation f s k d p)
  unfolding fail_invocation stick
  good_fail s k d p h g t =
      let e : ErrorFits (error k s.position.node d) = record { code = h; node = t.position.node; detail = g } in
      either Good _ (λ _. good_complete s _ _ (omega arith) e t)
      (λ _. either Good _ (λ _. fits_phased t needs_intervention stuck _ (Some _) (omega arith) (omega arith) t.invocation.attempt e) (λ _. good_terminate s _ e t))

  good_resolve_as_fail : (x : Option ErrorInfo) (s : State) (e : Event) → KeptFits x → EventFits e → Fits s → Good (resolve_as_fail f x s e)
  unfolding resolve_as_fail
  good_resolve_as_fail (Some k) s e x h t = good_terminate s k x t
  good_resolve_as_fail None s e x h t = good_fail s _ _ _ h.code h.detail t

  module _ (e : Event) (h : EventFits e) (s : State) (t : Fits s) where
    arrival_fits : SignalFits (arrival e)
    arrival_fits = record { event_id = h.event_id; signal = h.signal; outcome = h.outcome; data_handle = h.data_handle }

    good_signal : Good (on_signal f s e)
    unfolding on_signal
    good_signal = either Good _ (λ _. t) (λ _. either Good _ (λ _. t) (λ _. fits_appended t (arrival e) arrival_fits))

    good_success : Good (on_success f s e)
    unfolding on_success
    good_success =
        let o = success_named e.outcome h.outcome in
        either Good _ (λ _. good_complete s _ _ o h.output t) (λ _. good_fail s _ _ _ (omega arith) (omega (arith, o)) t)

    good_failure : Good (on_failure f s e)
    unfolding on_failure
    good_failure =
        either Good _ (λ _. good_retry s _ t)
        (λ _. either Good _ (λ _. good_fail s _ _ _ h.code h.detail t) (λ _. good_fail s _ _ _ (omega arith) (omega arith) t))

    good_unknown : Good (on_unknown f s e)
    unfolding on_unknown
    good_unknown =
        either Good _ (λ _. fits_phased t needs_intervention unknown _ None (omega arith) (omega arith) t.invocation.attempt tt)
        (λ _. either Good _ (λ _. good_retry s _ t) (λ _. good_fail s _ _ _ (omega arith) h.status t))

    good_result : Good (on_result f s e)
    unfolding on_result
    good_result = either Good _ (λ _. t) (λ _. either Good _ (λ _. good_success) (λ _. either Good _ (λ _. good_failure) (λ _. good_unknown)))

    good_resolved : Good (on_resolved f s e)
    unfolding on_resolved not_applicable resolve_as_complete
    good_resolved =
        either Good _ (λ _. t)
        (λ _. either Good _ (λ _. t)
        (λ _. either Good _ (λ _. either Good _ (λ _. good_complete s _ _ h.outcome h.output t) (λ _. t))
        (λ _. either Good _ (λ _. good_retry s 0 t) (λ _. good_resolve_as_fail s.invocation.error s e t.invocation.error h t))))

    good_react : Good (react f s e)
    unfolding react on_ended
    good_react =
        either Good _ (λ _. either Good _ (λ _. t) (λ _. t))
        (λ _. either Good _ (λ _. t)
        (λ _. either Good _ (λ _. good_signal)
        (λ _. either Good _ (λ _. good_result)
        (λ _. either Good _ (λ _. good_resolved) (λ _. t)))))

  -- THE DRIVER.
  module _ (limit : ℕ) (e : Event) (m : Mappings) (event : EventFits e) (answers : All MappingFits m.answers) where
    abbrev Held : Machine → Type 0
    Held x = Fits x.state

    held_counting : (x : Machine) (v : Move) → Held x → Good v → Held (counting f limit e m x v)
    unfolding counting
    held_counting x v t g = either Held _ (λ _. t) (λ _. g)

    held_consume : (y : Option ℕ) (x : Machine) → Held x → Held (consume_by f limit e m y x)
    unfolding consume_by
    held_consume (Some i) x t = held_counting x _ t (good_take_by _ _ _ Consume (signal_fits t i) (fits_removed t i))
    held_consume None x t = t

    held_advance : (n : Next) (x : Machine) → Held x → Held (advance_by f limit e m n x)
    unfolding advance_by
    held_advance Rest x t = t
    held_advance (Enter n b) x t = held_counting x _ t (good_enter m answers x.state n b t)
    held_advance Take x t = held_counting x _ t (good_take_by _ x.state _ Rest (arrival_fits e event x.state t) t)
    held_advance Consume x t = held_consume _ x t
    held_advance (Wants n i b) x t = t
    held_advance (Refuse k) x t = t

    held_settle : (k : ℕ) (x : Machine) → Held x → Held (settle (is_moving f limit e m) (advance f limit e m) k x)
    unfolding settle
    held_settle zero x t = t
    held_settle (suc k) x t = either Held _ (λ _. held_settle k _ (held_advance x.next x t)) (λ _. t)

    held_driven : (s : State) → Fits s → Held (driven f limit e m s)
    unfolding driven
    held_driven s t = held_settle 131 (started f limit e m s) (good_react e event _ (fits_seen t _ _))

-- THE CALL.
closed_fits : (x : Machine) → Fits x.state → Fits (closed x).state
unfolding closed
closed_fits x t = either (λ (y : Machine). Fits y.state) _ (λ _. fits_emptied t) (λ _. t)

finish_fits : (n : Next) (l : Limits) (x : Machine) → Fits x.state → RecordFits (finish_by n l x)
unfolding finish_by
finish_fits Rest l x t = either RecordFits _ (λ _. tt) (λ _. either RecordFits _ (λ _. tt) (λ _. closed_fits x t))
finish_fits (Wants n i b) l x t = t
finish_fits (Refuse k) l x t = tt
finish_fits (Enter n b) l x t = tt
finish_fits Take l x t = tt
finish_fits Consume l x t = tt

given_fits : (r : Last) (c : Call) → CallFits c → LastFits r → Fits (given r c)
given_fits None c h t = fits_fresh c.event.input h.event.input
given_fits (Some s) c h t = t

by_verdict : (f : Workflow) (r : Last) (c : Call) (v : Verdict) → admission f r c ≡ v → SheetFits f → CallFits c → LastFits r → RecordFits (transition_by v f r c)
unfolding transition_by
by_verdict f r c (Err x) e h g t = tt
by_verdict f r c (Ok tt) e h g t =
    finish_fits _ c.limits _ (held_driven f (admitted_sheet f r c h e) c.limits.microsteps c.event c.mappings g.event g.answers (given r c) (given_fits r c g t))

pub kept_fits : (f : Workflow) (standing : Last) (call : Call) → SheetFits f → CallFits call → LastFits standing → RecordFits (transition f standing call)
unfolding transition
kept_fits f standing call h g t = by_verdict f standing call _ refl h g t
