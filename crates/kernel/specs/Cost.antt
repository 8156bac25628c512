-- How much may still come: every move leaves fewer microsteps to count. On every sheet, sound or not.
use Rattle.std.specs.Option.{is_some}
use mir.Val.{bool_byte}
use Rattle.std.specs.Prelude.{◌≡◌, Bool, ℕ, ◌+◌, ◌*◌, ◌≤◌, ◌<◌, Option, Some, None, Result, Ok, Err}
use Rattle.std.proofs.Math.Path.{refl, ap}
use Rattle.std.proofs.Common.{arith, leb-false}
use Rattle.laws.specs.Bool.{when◌then◌else◌, either}
use Rattle.workflow.specs.View.{Workflow}
use Rattle.workflow.specs.declared.refusal.Refusal.{Refusal}
use Rattle.model.specs.declared.ErrorInfo.{ErrorInfo}
use Rattle.model.specs.declared.Output.{Output}
use Rattle.model.specs.declared.BufferedSignal.{BufferedSignal}
use Rattle.model.specs.declared.State.{State}
use Rattle.model.specs.declared.event.Event.{Event}
use Rattle.model.specs.declared.event.Mappings.{Mappings}
use Rattle.model.specs.declared.event.NoValue.{NoValue}
use Rattle.model.specs.declared.event.NoValue.TheVariants.{Fault, Unencodable, Lacking}
use Rattle.model.specs.declared.answer.Order.{Order}
use Rattle.model.specs.declared.answer.Note.{Note}
use Rattle.model.specs.declared.answer.Ending.{Ending}
use Rattle.model.specs.declared.answer.Field.{Field}
use Rattle.model.specs.declared.moves.Next.{Next}
use Rattle.model.specs.declared.moves.Next.TheVariants.{Rest, Enter, Take, Consume, Wants, Refuse}
use Rattle.model.specs.declared.moves.Move.{Move}
use Rattle.model.specs.Store.{removed, appended}
use Rattle.model.specs.StoreLaws.{removed_at, appended_room}
use Rattle.model.specs.Step.{still, arrival, terminate, evaluate, without_value, schedule, enter_activity, enter_await, enter_complete, arrive, enter, follow_to, route_limited, route, take_by, take, retry}
use Rattle.machine.specs.Events.{not_applicable, resolve_as_complete, complete_invocation, stick, fail_invocation, on_signal, on_success, on_failure, on_unknown, on_result, resolve_as_fail, on_resolved, on_ended, react}

-- The microsteps that may still be counted, by what comes next and how many signals are stored: each of them may be taken, and lead to an entry.
abbrev pub cost : Next → (stored : ℕ) → ℕ
cost Rest h = 0
cost (Enter n b) h = 1 + 2 * h
cost Take h = 2 + 2 * h
cost Consume h = 2 * h
cost (Wants n i b) h = 0
cost (Refuse k) h = 0

-- A move that tells an ending ends one signal; an arrival that is to be taken is in hand.
unfoldable pub takes : {A : Type 0} → Option A → ℕ
takes None = 0
takes (Some x) = 1

-- In code: a number of what there is.
pub takes_byte : {A : Type 0} (o : Option A) → bool_byte (is_some o) ≡ takes o
unfolding takes
takes_byte None = refl
takes_byte (Some x) = refl

pub takes_small : {A : Type 0} (o : Option A) → takes o ≤ 1
unfolding takes
takes_small None = omega arith
takes_small (Some x) = omega arith

abbrev pub in_hand : Next → ℕ
in_hand Rest = 0
in_hand (Enter n b) = 0
in_hand Take = 1
in_hand Consume = 0
in_hand (Wants n i b) = 0
in_hand (Refuse k) = 0

pub hand_empty : (k : Next) (h : ℕ) → cost k h ≤ 1 + 2 * h → in_hand k ≡ 0
hand_empty Rest h c = refl
hand_empty (Enter n b) h c = refl
hand_empty Take h c = absurd (omega arith)
hand_empty Consume h c = refl
hand_empty (Wants n i b) h c = refl
hand_empty (Refuse k) h c = refl

-- From a record with h stored signals to this one, and to what comes next: as many are stored, and at most n microsteps may come.
pub record Costs (h n : ℕ) (s : State) (k : Next) : Type 0 where
  pub small : cost k s.signal_count ≤ n
  pub same : s.signal_count ≡ h

-- An entry: it has no note and no ending.
pub record Entered (h : ℕ) (v : Move) : Type 0 where
  pub costs : Costs h (2 * h) v.state v.next
  pub no_note : v.note ≡ None
  pub no_end : v.ending ≡ None

-- A move of an invocation: it has no ending.
pub record Spares (h : ℕ) (v : Move) : Type 0 where
  pub costs : Costs h (1 + 2 * h) v.state v.next
  pub no_end : v.ending ≡ None

-- The move for an event: those that it ends, the one in hand and the stored are at most one signal more, which is stored only where there is room and nothing comes next; and a
-- move to the take of the arrival has no note and no ending.
pub record Reacted (h : ℕ) (v : Move) : Type 0 where
  pub small : cost v.next v.state.signal_count ≤ 2 + 2 * h
  pub held : takes v.ending + in_hand v.next + v.state.signal_count ≤ h + 1
  pub room : h ≤ 64 → v.state.signal_count ≤ 64
  pub same : (v.next ≡ Rest → ⊥) → v.state.signal_count ≡ h
  pub quiet : v.next ≡ Take → (v.note ≡ None) × (v.ending ≡ None)

-- A stored signal is removed.
pub removed_count : (s : State) (i : ℕ) → s.signal_count ≤ 64 → i < s.signal_count → (removed s i).signal_count + 1 ≡ s.signal_count
removed_count s i h g = rw (removed_at s i h g) (omega arith)

module _ (f : Workflow) where
  -- ENTERING.
  entered_if : {h : ℕ} (b : Bool) {x y : Move} → Entered h x → Entered h y → Entered h (when b then x else y)
  entered_if b p q = either (Entered _) b (λ _. p) (λ _. q)

  entered_as : (s : State) (k : Next) {o : Option Order} {r : ℕ} → cost k s.signal_count ≤ 2 * s.signal_count
      → Entered s.signal_count (record { state = s; next = k; note = None; ending = None; order = o; read = r })
  entered_as s k c = record { costs = record { small = c; same = refl }; no_note = refl; no_end = refl }

  entered_terminate : (s : State) (x : ErrorInfo) → Entered s.signal_count (terminate f s x)
  unfolding terminate
  entered_terminate s x = entered_as _ Rest (omega arith)

  entered_evaluate : (a : Result ℕ NoValue) (s : State) (n : ℕ) (i : Field) (b r : ℕ) (k : ℕ → Move) → ((x : ℕ) → Entered s.signal_count (k x)) → Entered s.signal_count (evaluate f a s n i b r k)
  unfolding evaluate without_value terminate
  entered_evaluate (Ok x) s n i b r k g = g x
  entered_evaluate (Err (Fault c d)) s n i b r k g = entered_as _ Rest (omega arith)
  entered_evaluate (Err Unencodable) s n i b r k g = entered_as s (Refuse Refusal.Unencodable) (omega arith)
  entered_evaluate (Err Lacking) s n i b r k g = entered_as s (Wants n i b) (omega arith)

  entered_arrive : (s : State) (n b : ℕ) (m : Mappings) → Entered s.signal_count (arrive f s n b m)
  unfolding arrive enter_activity enter_await enter_complete schedule
  entered_arrive s n b m =
      entered_if _
      (entered_evaluate _ s n _ b _ _ (λ x. entered_if _
      (entered_evaluate _ s n _ b _ _ (λ p. entered_as _ Rest (omega arith)))
      (entered_as _ Rest (omega arith))))
      (entered_if _
      (entered_as _ Consume (omega arith))
      (entered_if _
      (entered_evaluate _ s n _ b _ _ (λ x. entered_as _ Rest (omega arith)))
      (entered_terminate s _)))

  pub entered : (s : State) (n b : ℕ) (m : Mappings) → Entered s.signal_count (enter f s n b m)
  unfolding enter
  entered s n b m =
      entered_if _ (entered_as s (Refuse Refusal.Invariant) (omega arith)) (entered_if _ (entered_terminate s _) (entered_if _ (entered_terminate s _) (entered_arrive _ n b m)))

  -- ROUTING.
  spares_if : {h : ℕ} (b : Bool) {x y : Move} → Spares h x → Spares h y → Spares h (when b then x else y)
  spares_if b p q = either (Spares _) b (λ _. p) (λ _. q)

  spares_as : (s : State) (k : Next) {x : Option Note} {o : Option Order} {r : ℕ} → cost k s.signal_count ≤ 1 + 2 * s.signal_count
      → Spares s.signal_count (record { state = s; next = k; note = x; ending = None; order = o; read = r })
  spares_as s k c = record { costs = record { small = c; same = refl }; no_end = refl }

  spares_follow : (s : State) (n : ℕ) (x : Option ℕ) → Spares s.signal_count (follow_to f s n x)
  unfolding follow_to
  spares_follow s n (Some t) = spares_as s (Enter t n) (omega arith)
  spares_follow s n None = spares_as s (Refuse Refusal.Invariant) (omega arith)

  spares_limited : (s : State) (n o : ℕ) (x : Option ℕ) → Spares s.signal_count (route_limited f s n o x)
  unfolding route_limited
  spares_limited s n o None = spares_follow _ n _
  spares_limited s n o (Some x) =
      spares_if _ (let g = spares_follow _ n _ in record { costs = g.costs; no_end = g.no_end }) (spares_follow _ n _)

  spares_route : (s : State) (o : ℕ) (x : Output) → Spares s.signal_count (route f s o x)
  unfolding route
  spares_route s o x = spares_if _ (spares_as s (Refuse Refusal.Invariant) (omega arith)) (spares_limited _ _ o _)

  -- TAKING. What comes where the signal does not route is k.
  costs_take_by : (y : Option ℕ) (s : State) (x : BufferedSignal) (k : Next) → cost k s.signal_count ≤ 1 + 2 * s.signal_count
      → Costs s.signal_count (1 + 2 * s.signal_count) (take_by f y s x k).state (take_by f y s x k).next
  unfolding take_by
  costs_take_by (Some t) s x k c = (spares_route s _ _).costs
  costs_take_by None s x k c = record { small = c; same = refl }

  pub costs_take : (s : State) (x : BufferedSignal) (k : Next) → cost k s.signal_count ≤ 1 + 2 * s.signal_count
      → Costs s.signal_count (1 + 2 * s.signal_count) (take f s x k).state (take f s x k).next
  costs_take s x k c = costs_take_by _ s x k c

  -- AN INVOCATION.
  spares_terminate : (s : State) (x : ErrorInfo) → Spares s.signal_count (terminate f s x)
  unfolding terminate
  spares_terminate s x = spares_as _ Rest (omega arith)

  spares_complete : (s : State) (o : ℕ) (x : Output) → Spares s.signal_count (complete_invocation f s o x)
  unfolding complete_invocation
  spares_complete s o x = spares_route _ o x

  spares_retry : (s : State) (d : ℕ) → Spares s.signal_count (retry f s d)
  unfolding retry
  spares_retry s d =
      spares_if _ (spares_as _ (Refuse Refusal.NoRetry) (omega arith)) (spares_if _ (spares_as _ (Refuse Refusal.NoRetry) (omega arith)) (spares_as _ Rest (omega arith)))

  spares_fail : (s : State) (k d : ℕ) (p : Bool) → Spares s.signal_count (fail_invocation f s k d p)
  unfolding fail_invocation stick
  spares_fail s k d p = spares_if _ (spares_complete s _ _) (spares_if _ (spares_as _ Rest (omega arith)) (spares_terminate s _))

  pub spares_result : (s : State) (e : Event) → Spares s.signal_count (on_result f s e)
  unfolding on_result on_success on_failure on_unknown
  spares_result s e =
      spares_if _ (spares_as _ Rest (omega arith))
      (spares_if _ (spares_if _ (spares_complete s _ _) (spares_fail s _ _ _))
      (spares_if _ (spares_if _ (spares_retry s _) (spares_if _ (spares_fail s _ _ _) (spares_fail s _ _ _)))
      (spares_if _ (spares_as _ Rest (omega arith)) (spares_if _ (spares_retry s _) (spares_fail s _ _ _)))))

  spares_resolve_as_fail : (x : Option ErrorInfo) (s : State) (e : Event) → Spares s.signal_count (resolve_as_fail f x s e)
  unfolding resolve_as_fail
  spares_resolve_as_fail (Some x) s e = spares_terminate s x
  spares_resolve_as_fail None s e = spares_fail s _ _ _

  pub spares_resolved : (s : State) (e : Event) → Spares s.signal_count (on_resolved f s e)
  unfolding on_resolved not_applicable resolve_as_complete
  spares_resolved s e =
      spares_if _ (spares_as _ Rest (omega arith))
      (spares_if _ (spares_as _ Rest (omega arith))
      (spares_if _ (spares_if _ (spares_complete s _ _) (spares_as _ Rest (omega arith)))
      (spares_if _ (spares_retry s 0) (spares_resolve_as_fail _ s e))))

  -- THE EVENTS.
  reacted_spares : (h : ℕ) (v : Move) → Spares h v → Reacted h v
  unfolding takes
  reacted_spares h v g =
      let c = g.costs.same in
      let t : takes v.ending ≡ 0 = ap (λ (o : Option Ending). takes o) g.no_end in
      record {
        small = omega (arith, g.costs.small);
        held = omega (arith, hand_empty v.next v.state.signal_count (omega (arith, g.costs.small)));
        room = λ r. omega arith;
        same = λ _. c;
        quiet = λ e. absurd (omega (arith, rw e at g.costs.small));
      }

  reacted_rest : (h : ℕ) (s : State) {x : Option Note} {y : Option Ending} → takes y + s.signal_count ≤ h + 1 → (h ≤ 64 → s.signal_count ≤ 64)
      → Reacted h (record { state = s; next = Rest; note = x; ending = y; order = None; read = 0 })
  reacted_rest h s g r =
      record {
        small = omega arith;
        held = omega arith;
        room = r;
        same = λ n. absurd (n refl);
        quiet = λ e. let z : ◌≡◌ {A = ℕ} 0 1 = cc in absurd (omega arith);
      }

  -- one that is stored as before, whatever it ends
  reacted_same : (s : State) {x : Option Note} {y : Option Ending} → Reacted s.signal_count (record { state = s; next = Rest; note = x; ending = y; order = None; read = 0 })
  reacted_same s {x} {y} = reacted_rest _ s (omega (arith, takes_small y)) (λ r. r)

  -- the arrival is to be taken
  reacted_take : (s : State) → Reacted s.signal_count (still s Take)
  unfolding takes
  reacted_take s = record { small = omega arith; held = omega arith; room = λ r. r; same = λ _. refl; quiet = λ _. (refl, refl) }

  -- it is stored
  reacted_stored : (s : State) (x : BufferedSignal) → s.signal_count < 64 → Reacted s.signal_count (still (appended s x) Rest)
  unfolding takes
  reacted_stored s x h =
      let n : (appended s x).signal_count ≡ s.signal_count + 1 = ap (λ (t : State). t.signal_count) (appended_room s x h) in
      reacted_rest s.signal_count (appended s x) {y = None} (omega arith) (λ _. omega arith)

  reacted_signal : (s : State) (e : Event) → Reacted s.signal_count (on_signal f s e)
  unfolding on_signal
  reacted_signal s e =
      either (Reacted _) _ (λ _. reacted_take s) (λ _. either (Reacted _) _ (λ _. reacted_same s) (λ r. reacted_stored s (arrival e) (leb-false _ _ r)))

  pub reacted : (s : State) (e : Event) → Reacted s.signal_count (react f s e)
  unfolding react on_ended
  reacted s e =
      either (Reacted _) _ (λ _. either (Reacted _) _ (λ _. reacted_same s) (λ _. reacted_same s))
      (λ _. either (Reacted _) _ (λ _. reacted_spares _ _ (spares_as s (Enter _ _) (omega arith)))
      (λ _. either (Reacted _) _ (λ _. reacted_signal s e)
      (λ _. either (Reacted _) _ (λ _. reacted_spares _ _ (spares_result s e))
      (λ _. either (Reacted _) _ (λ _. reacted_spares _ _ (spares_resolved s e)) (λ _. reacted_same s)))))
