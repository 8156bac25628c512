-- The driver's loop: at each turn the machine of the definition is the record, the lists in their arrays and the counts of the code.
use Rattle.std.specs.Option.{is_some}
use mir.Val.{bool_byte}
use Rattle.std.specs.Prelude.{◌≡◌, Option, Some, None, Bool, true, false, ltb, eqb, take, sum_by}
use Rattle.std.proofs.Math.Path.{refl, sym, ap, subst}
use Rattle.std.proofs.Common.{◌∙◌, eqb-true, lt-ltb, le-ltb, ltb-true, ltb-false}
use Rattle.std.proofs.lemmas.Bool.{false≢true, eqb-false}
use Rattle.std.proofs.lemmas.List.Sums.{sum_by-cons}
use mathlib.Core.List.{List, [], ◌∷◌, ◌++◌}
use mathlib.Core.Logic.{◌⊎◌, inl, inr}
use Prim.Native.Nat.{ℕ, suc, ◌+◌, ◌-◌, ◌*◌, ◌≤◌, ◌<◌}
use native.Mathlib.Omega.{arith}
use Rattle.laws.specs.Bool.{when◌then◌else◌, if_true, if_false, split, either}
use Rattle.laws.specs.Settle.{settle, Settling, settle_rests, settled, settle_next}
use Rattle.laws.specs.First.{first}
use Rattle.workflow.specs.View.{Workflow}
use Rattle.workflow.specs.Lookup.{node_of}
use Rattle.model.specs.declared.State.{State}
use Rattle.model.specs.declared.BufferedSignal.{BufferedSignal}
use Rattle.model.specs.declared.Output.{Output}
use Rattle.model.specs.declared.event.Event.{Event}
use Rattle.model.specs.declared.event.Mapping.{Mapping}
use Rattle.model.specs.declared.event.Mappings.{Mappings}
use Rattle.kernel.specs.declared.Limits.{Limits}
use Rattle.model.specs.declared.answer.Order.{Order}
use Rattle.model.specs.declared.answer.Note.{Note}
use Rattle.model.specs.declared.answer.Ending.{Ending}
use Rattle.model.specs.declared.answer.Field.{Field}
use Rattle.model.specs.declared.answer.Answer as code
use Rattle.kernel.specs.declared.Decision.{Decision}
use Rattle.kernel.specs.declared.drive.Round.{Round}
use Rattle.model.specs.declared.moves.Next.{Next}
use Rattle.model.specs.declared.moves.Next.TheVariants.{Rest, Enter, Take, Consume, Wants, Refuse}
use Rattle.model.specs.declared.moves.Move.{Move}
use Rattle.workflow.specs.Code.{none}
use Rattle.workflow.specs.declared.refusal.Refusal.{Refusal}
use Rattle.model.specs.Store.{listed as stored_as, stored, first_signal, signal_at, removed, leaves_over, left_over, emptied}
use Rattle.model.specs.Step.{still, arrival, enter, follow_to, route_limited, route, take_by, take as take_signal}
use Rattle.model.specs.EnterLaws.{NoNode, entering}
use Rattle.model.specs.RouteLaws.{consumed, taking}
use Rattle.kernel.specs.Cost.{cost, takes, entered}
use Rattle.machine.specs.Events.{apply}
use Rattle.kernel.specs.Drive.{Machine, operations_of, added, moved, over_limit, counting, consume_by, advance_by, advance, moves_on, is_moving, driven}
use Rattle.kernel.specs.Bounds.{none_more, length_added, Bounds, Bounded, fewer, bounded_advance, bounded_started}
use Rattle.kernel.specs.Call as call
use Rattle.kernel.specs.Call.{orders, wants, closed, finish_by, finish}
use Rattle.kernel.specs.declared.listed.Listed.{Listed}
use Rattle.kernel.specs.Listed.{listed}
use Rattle.kernel.specs.ListedLaws.{counted_is}
use Rattle.kernel.specs.Decision.{decision, decision_of}

-- THE CODE'S PARTS.
-- A round: a signal is taken where one is to be, and the node that is then to be entered is. Its microsteps are the taking of a signal, which ends it, and the entry.
unfoldable pub entries : Next → ℕ
entries Rest = 0
entries (Enter n b) = 1
entries Take = 0
entries Consume = 0
entries (Wants n i b) = 0
entries (Refuse k) = 0

pub entries_small : (n : Next) → entries n ≤ 1
unfolding entries
entries_small Rest = omega arith
entries_small (Enter n b) = omega arith
entries_small Take = omega arith
entries_small Consume = omega arith
entries_small (Wants n i b) = omega arith
entries_small (Refuse k) = omega arith

pub enters_none : (n : Next) → NoNode n → 0 ≡ entries n
unfolding entries
enters_none (Enter n b) h = absurd (h n b refl)
enters_none Rest h = refl
enters_none Take h = refl
enters_none Consume h = refl
enters_none (Wants n i b) h = refl
enters_none (Refuse k) h = refl

abbrev entered_by : Move → Move → Round
entered_by t e = record { made = record { state = e.state; next = e.next; note = t.note; ending = t.ending; order = e.order; read = e.read }; microsteps = takes t.ending + entries t.next }

unfoldable pub round_of : Workflow → State → Next → BufferedSignal → Mappings → Round
round_of f s n x m = entered_by (taking f s n x) (entering f (taking f s n x).state (taking f s n x).next m)

-- The event's move, which is no microstep.
abbrev pub at_first : Move → Round
at_first v = record { made = v; microsteps = 0 }

-- No move follows: nothing comes next, or the store is to be consumed and is empty.
unfoldable pub is_over : Next → (stored : ℕ) → Bool
is_over Rest h = true
is_over (Enter n b) h = false
is_over Take h = false
is_over Consume h = eqb h 0
is_over (Wants n i b) h = true
is_over (Refuse k) h = true

pub over_rests : (n : Next) (h : ℕ) → (n ≡ Rest) ⊎ (((t : ℕ) × (i : Field) × (b : ℕ) × (n ≡ Wants t i b)) ⊎ ((r : Refusal) × (n ≡ Refuse r))) → true ≡ is_over n h
unfolding is_over
over_rests n h (inl e) = rw e
over_rests n h (inr (inl (t, i, b, e))) = rw e
over_rests n h (inr (inr (r, e))) = rw e

pub over_none : (n : Next) (h : ℕ) → (n ≡ Rest → ⊥) → ((t : ℕ) (i : Field) (b : ℕ) → n ≡ Wants t i b → ⊥) → ((r : Refusal) → n ≡ Refuse r → ⊥) → (n ≡ Consume → ⊥) → false ≡ is_over n h
unfolding is_over
over_none Rest h x y z w = absurd (x refl)
over_none (Enter n b) h x y z w = refl
over_none Take h x y z w = refl
over_none Consume h x y z w = absurd (w refl)
over_none (Wants n i b) h x y z w = absurd (y n i b refl)
over_none (Refuse k) h x y z w = absurd (z k refl)

pub orders_byte : (o : Option Order) → bool_byte (is_some o) ≡ orders o
orders_byte None = refl
orders_byte (Some x) = refl

unfoldable pub rest_answer : Option Order → Limits → (microsteps operations : ℕ) → code.Answer
rest_answer o l k n =
    when ltb l.commands (orders o) then code.Answer.Refused Refusal.CommandsExceeded none else
    when ltb l.operations n then code.Answer.Refused Refusal.OperationsExceeded none else
    code.Answer.Next o k

-- The answer where no move follows. Where the store is consumed, the run goes on waiting.
unfoldable pub answer_of : Next → Option Order → Limits → (microsteps operations : ℕ) → code.Answer
answer_of Rest o l k n = rest_answer o l k n
answer_of (Enter t b) o l k n = code.Answer.Refused Refusal.Invariant none
answer_of Take o l k n = code.Answer.Refused Refusal.Invariant none
answer_of Consume o l k n = rest_answer None l k n
answer_of (Wants t i b) o l k n = code.Answer.Wants t i b
answer_of (Refuse r) o l k n = code.Answer.Refused r none

pub answer_else : (n : Next) (o : Option Order) (l : Limits) (k q : ℕ) → (n ≡ Rest → ⊥) → (n ≡ Consume → ⊥) → ((t : ℕ) (i : Field) (b : ℕ) → n ≡ Wants t i b → ⊥) → ((r : Refusal) → n ≡ Refuse r → ⊥)
    → code.Answer.Refused Refusal.Invariant none ≡ answer_of n o l k q
unfolding answer_of
answer_else Rest o l k q x y z w = absurd (x refl)
answer_else Consume o l k q x y z w = absurd (y refl)
answer_else (Wants t i b) o l k q x y z w = absurd (z t i b refl)
answer_else (Refuse r) o l k q x y z w = absurd (w r refl)
answer_else (Enter t b) o l k q x y z w = refl
answer_else Take o l k q x y z w = refl

-- The close: what is still stored is left over, behind the other endings, and the store is empty.
abbrev pub closing : List Note → List Ending → State → Option Order → (microsteps : ℕ) → Decision
closing ns es s o j = decision ns (es ++ left_over (stored s)) (code.Answer.Next o j) (emptied s)

unfoldable pub decide : List Note → List Ending → State → code.Answer → Decision
decide ns es s (code.Answer.Next o j) = when leaves_over s.status s.signal_count then closing ns es s o j else decision ns es (code.Answer.Next o j) s
decide ns es s (code.Answer.Wants t i b) = decision_of (wants t i b s)
decide ns es s (code.Answer.Refused r i) = decision_of (call.refused r i)

pub operations_sum : (xs : List Mapping) → sum_by (λ (x : Mapping). x.operations) xs ≡ operations_of xs
unfolding operations_of
operations_sum [] = refl
operations_sum (x ∷ xs) = sum_by-cons (λ (y : Mapping). y.operations) x xs ∙ rw (operations_sum xs)

-- WHAT A TAKING SAYS: it ends its signal, orders nothing and reads no mapping answer.
record Ends (v : Move) : Type 0 where
  takes_one : takes v.ending ≡ 1
  no_order : v.order ≡ None
  unread : v.read ≡ 0

-- Routing orders nothing and reads nothing.
record Plain (v : Move) : Type 0 where
  no_order : v.order ≡ None
  unread : v.read ≡ 0

module _ (f : Workflow) where
  plain_follow : (s : State) (n : ℕ) (x : Option ℕ) → Plain (follow_to f s n x)
  unfolding follow_to
  plain_follow s n (Some t) = record { no_order = refl; unread = refl }
  plain_follow s n None = record { no_order = refl; unread = refl }

  plain_limited : (s : State) (n o : ℕ) (x : Option ℕ) → Plain (route_limited f s n o x)
  unfolding route_limited
  plain_limited s n o None = plain_follow _ n _
  plain_limited s n o (Some x) =
      either Plain _ (λ _. let g = plain_follow _ n _ in record { no_order = g.no_order; unread = g.unread }) (λ _. plain_follow _ n _)

  plain_route : (s : State) (o : ℕ) (x : Output) → Plain (route f s o x)
  unfolding route
  plain_route s o x = either Plain _ (λ _. record { no_order = refl; unread = refl }) (λ _. plain_limited _ _ o _)

  ends_take_by : (y : Option ℕ) (s : State) (x : BufferedSignal) (k : Next) → Ends (take_by f y s x k)
  unfolding take_by takes
  ends_take_by (Some t) s x k = let g = plain_route s _ _ in record { takes_one = refl; no_order = g.no_order; unread = g.unread }
  ends_take_by None s x k = record { takes_one = refl; no_order = refl; unread = refl }

  ends_take : (s : State) (x : BufferedSignal) (k : Next) → Ends (take_signal f s x k)
  ends_take s x k = ends_take_by _ s x k

-- Where nothing is next, any number of steps may be left.
settle_rested : {A : Type 0} {go : A → Bool} {step : A → A} {w : A} {k : ℕ} {x : A} → Settling go step w k x → go x ≡ false → (j : ℕ) → Settling go step w j x
settle_rested {go = go} {step = step} {x = x} inv h j = record { left = settle_rests go step j x h ∙ settled inv refl h }

pub none_stored : (s : State) (a : ℕ) → s.signal_count ≡ 0 → first_signal s a ≡ None
unfolding first_signal stored_as first
none_stored s a h = rw h

some_stored : (h : ℕ) → eqb h 0 ≡ false → 0 < h
some_stored h z = omega (arith, eqb-false h 0 z)

-- THE LOOP, of one call on one sheet.
module _ (f : Workflow) (l : Limits) (e : Event) (m : Mappings) (v₀ : Round) where
  abbrev pub limit : ℕ
  limit = l.microsteps

  abbrev pub machine : State → Next → Option Order → List Note → List Ending → (microsteps operations : ℕ) → Machine
  machine t n o ns es k q = record { state = t; next = n; order = o; notes = ns; endings = es; microsteps = k; operations = q }

  abbrev read_by : (read : ℕ) → ℕ
  read_by k = operations_of (take k m.answers)

  -- the machine after the first move, which applies the event, and when nothing is next
  abbrev begun : Machine
  begun = machine v₀.made.state v₀.made.next v₀.made.order (added [] v₀.made.note) (added [] v₀.made.ending) 0 (0 + read_by v₀.made.read)

  abbrev pub at_end : Machine
  at_end = settle (is_moving f limit e m) (advance f limit e m) 131 begun

  pub end_is : (s : State) → v₀ ≡ at_first (apply f s e)
      → decision_of (finish l at_end) ≡ decision_of (finish l (driven f limit e m s))
  unfolding driven
  end_is s h = rw h

  abbrev pub Runs : (left : ℕ) → Machine → Type 0
  Runs left x = Settling (is_moving f limit e m) (advance f limit e m) at_end left x

  -- The first move leaves room for what follows, and is no microstep.
  pub record Begins : Type 0 where
    pub bounds : Bounds v₀.made.next 131 begun
    pub uncounted : v₀.microsteps ≡ 0

  pub begins : (s : State) → s.signal_count ≤ 64
      → v₀ ≡ at_first (apply f s e) → Begins
  begins s r h = record { bounds = rw h (bounded_started f limit e m s r); uncounted = ap (λ (v : Round). v.microsteps) h }

  -- From this machine on the moves lead to the end, and what they say has room.
  pub record Going (x : Machine) : Type 0 where
    pub runs : Runs (131 - x.microsteps) x
    pub bounds : Bounds x.next (131 - x.microsteps) x

  -- The call is refused for its microsteps.
  abbrev Over : Type 0
  Over = decision_of (call.refused Refusal.MicrostepsExceeded none) ≡ decision_of (finish l at_end)

  -- ONE MOVE THAT IS COUNTED.
  module _ (x : Machine) (g : Going x) (go : moves_on f limit e m x.next ≡ true) (v : Move) (is : counting f limit e m x v ≡ advance f limit e m x) where
    some_left : (n : Next) → moves_on f limit e m n ≡ true → Bounds n (131 - x.microsteps) x → 0 < 131 - x.microsteps
    some_left Rest h b = absurd (false≢true h)
    some_left (Enter n c) h b = omega (arith, b.enough)
    some_left Take h b = omega (arith, b.enough)
    some_left Consume h b = omega (arith, b.enough)
    some_left (Wants n j c) h b = absurd (false≢true h)
    some_left (Refuse k) h b = absurd (false≢true h)

    left : 0 < 131 - x.microsteps
    left = some_left x.next go g.bounds

    one_over : limit < x.microsteps + 1 → Over
    unfolding counting finish_by
    one_over o =
        let y : over_limit f limit e m x ≡ advance f limit e m x = sym (if_true _ _ _ (lt-ltb limit (x.microsteps + 1) o)) ∙ is in
        let r = settled (settle_next g.runs left (sym go) refl y) refl refl in
        ap (λ (w : Machine). decision_of (finish l w)) r

    one_more_move : x.microsteps + 1 ≤ limit → Going (moved f limit e m (x.microsteps + 1) x v)
    unfolding counting
    one_more_move o =
        let p = left in
        let n : moved f limit e m (x.microsteps + 1) x v ≡ advance f limit e m x = sym (if_false _ _ _ (le-ltb limit (x.microsteps + 1) o)) ∙ is in
        let t : 131 - x.microsteps ≡ suc (131 - (x.microsteps + 1)) = omega arith in
        let a : 131 - x.microsteps - 1 ≡ 131 - (x.microsteps + 1) = omega arith in
        record {
          runs = rw a at (settle_next g.runs p (sym go) refl n);
          bounds = subst (λ (w : Machine). Bounded f limit e m (131 - (x.microsteps + 1)) w) (sym n) (bounded_advance f limit e m (131 - (x.microsteps + 1)) x (rw t at g.bounds));
        }

  -- THE ENTRY THAT FOLLOWS, if a node is next: n is what comes next, at a machine that has no order where none is entered.
  module _ (s : State) (o : Option Order) (ns : List Note) (es : List Ending) (j q : ℕ) where
    abbrev after : Next → Machine
    after n = machine (entering f s n m).state (entering f s n m).next (entering f s n m).order ns es (j + entries n) (q + read_by (entering f s n m).read)

    record Then (n : Next) : Type 0 where
      fine : j + entries n ≤ limit → Going (after n)
      over : limit < j + entries n → Over

    same_machine : (n : Next) {i r : ℕ} → j ≡ i → q ≡ r → machine s n None ns es j q ≡ machine s n None ns es i r
    same_machine n {i} {r} a b = ap (λ (x : ℕ). machine s n None ns es x q) a ∙ ap (λ (x : ℕ). machine s n None ns es i x) b

    stays : (n : Next) → o ≡ None → j ≤ limit → Going (machine s n o ns es j q) → machine s n None ns es j q ≡ after n → entries n ≡ 0 → Then n
    stays n h z g d k = record { fine = λ _. subst Going d (rw h at g); over = λ w. absurd (omega (arith, k)) }

    follows : (n : Next) → (entries n ≡ 0 → o ≡ None) → j ≤ limit → Going (machine s n o ns es j q) → Then n
    unfolding entering entries operations_of advance_by
    follows Rest h z g = stays Rest (h refl) z g (same_machine Rest (omega arith) (omega arith)) refl
    follows (Enter n b) h z g =
        let v = enter f s n b m in
        let c = entered f s n b m in
        let x = machine s (Enter n b) o ns es j q in
        record {
          fine = λ w. rw (none_more ns c.no_note, none_more es c.no_end) at (one_more_move x g refl v refl w);
          over = λ w. one_over x g refl v refl w;
        }
    follows Take h z g = stays Take (h refl) z g (same_machine Take (omega arith) (omega arith)) refl
    follows Consume h z g = stays Consume (h refl) z g (same_machine Consume (omega arith) (omega arith)) refl
    follows (Wants n i b) h z g = stays (Wants n i b) (h refl) z g (same_machine (Wants n i b) (omega arith) (omega arith)) refl
    follows (Refuse k) h z g = stays (Refuse k) (h refl) z g (same_machine (Refuse k) (omega arith) (omega arith)) refl

  -- A ROUND, at a machine that has listed what was said, with n next.
  abbrev pub going_on : Next → ℕ
  going_on Rest = 0
  going_on (Enter n b) = 1
  going_on Take = 1
  going_on Consume = 1
  going_on (Wants n i b) = 0
  going_on (Refuse k) = 0

  module _ (s : State) (ns : List Note) (es : List Ending) (j q : ℕ) (within : j ≤ limit) where
    abbrev listing : Round → Machine
    listing u = machine u.made.state u.made.next u.made.order (added ns u.made.note) (added es u.made.ending) (j + u.microsteps) (q + read_by u.made.read)

    record Turn (n : Next) (u : Round) : Type 0 where
      fine : j + u.microsteps ≤ limit → Going (listing u)
      over : limit < j + u.microsteps → Over
      small : u.microsteps ≤ cost n s.signal_count
      quiet : u.microsteps ≡ 0 → going_on u.made.next ≡ 0

    -- A signal is taken, by the move t.
    turn_taken : (n : Next) (o : Option Order) (t : Move) → Ends t → Going (machine s n o ns es j q) → moves_on f limit e m n ≡ true
        → counting f limit e m (machine s n o ns es j q) t ≡ advance f limit e m (machine s n o ns es j q) → 2 ≤ cost n s.signal_count
        → Turn n (entered_by t (entering f t.state t.next m))
    unfolding operations_of
    turn_taken n o t d g go is c =
        let x = machine s n o ns es j q in
        let one = d.takes_one in
        let k = entries_small t.next in
        let v = entering f t.state t.next m in
        let ms = added ns t.note in
        let fs = added es t.ending in
        let i : j + 1 + entries t.next ≡ j + (takes t.ending + entries t.next) = omega arith in
        let r : q + read_by t.read + read_by v.read ≡ q + read_by v.read = rw d.unread (omega arith) in
        let rest : j + 1 ≤ limit → Then t.state t.order ms fs (j + 1) (q + read_by t.read) t.next = λ w. follows t.state t.order ms fs (j + 1) (q + read_by t.read) t.next (λ _. d.no_order) w (one_more_move x g go t is w) in
        record {
          fine = λ w. subst Going (ap (λ (a : ℕ). machine v.state v.next v.order ms fs a (q + read_by t.read + read_by v.read)) i ∙ ap (λ (a : ℕ). machine v.state v.next v.order ms fs (j + (takes t.ending + entries t.next)) a) r) ((rest (omega arith)).fine (omega arith));
          over = λ w. split (ltb limit (j + 1)) (λ h. one_over x g go t is (ltb-true limit (j + 1) h)) (λ h. (rest (ltb-false limit (j + 1) h)).over (omega arith));
          small = omega arith;
          quiet = λ z. absurd (omega arith);
        }

    -- A node is entered.
    turn_entered : (a b : ℕ) (o : Option Order) → Going (machine s (Enter a b) o ns es j q) → Turn (Enter a b) (entered_by (still s (Enter a b)) (enter f s a b m))
    unfolding entries takes added entering
    turn_entered a b o g =
        let d = follows s o ns es j q (Enter a b) (λ z. absurd (omega arith)) within g in
        record {
          fine = λ w. d.fine w;
          over = λ w. d.over w;
          small = omega arith;
          quiet = λ z. absurd (omega arith);
        }

    -- The store has no signal that is waited for.
    turn_waits : (o : Option Order) → first_signal s (node_of f s.position.node).signal ≡ None → Going (machine s Consume o ns es j q) → Turn Consume (entered_by (still s Rest) (still s Rest))
    unfolding entries takes added advance_by consume_by operations_of
    turn_waits o h g =
        let x = machine s Consume o ns es j q in
        let p : 0 < 131 - j = omega (arith, g.bounds.enough) in
        let t : 131 - j ≡ suc (131 - j - 1) = omega arith in
        let y : advance f limit e m x ≡ moved f limit e m j x (still s Rest) = rw h in
        let b = subst (λ (w : Machine). Bounded f limit e m (131 - j - 1) w) y (bounded_advance f limit e m (131 - j - 1) x (rw t at g.bounds)) in
        let r = settle_next g.runs p refl refl (sym y) in
        let z : moved f limit e m j x (still s Rest) ≡ machine s Rest None ns es (j + 0) (q + read_by 0) = ap (λ (i : ℕ). machine s Rest None ns es i (q + 0)) (omega arith) in
        record {
          fine = λ w. record { runs = rw z at (settle_rested r refl (131 - (j + 0))); bounds = fewer f limit e m Rest (131 - j - 1) (131 - (j + 0)) _ (omega arith) (rw z at b) };
          over = λ w. absurd (omega arith);
          small = omega arith;
          quiet = λ _. refl;
        }

    turn_consumed : (o : Option Order) (y : Option ℕ) → first_signal s (node_of f s.position.node).signal ≡ y → Going (machine s Consume o ns es j q) → eqb s.signal_count 0 ≡ false
        → Turn Consume (entered_by (consumed f s y) (entering f (consumed f s y).state (consumed f s y).next m))
    unfolding consumed entering advance_by consume_by
    turn_consumed o (Some i) h g b =
        turn_taken Consume o (take_signal f (removed s i) (signal_at s i) Consume) (ends_take f (removed s i) (signal_at s i) Consume) g refl (rw h refl) (omega (arith, some_stored s.signal_count b))
    turn_consumed o None h g b = turn_waits o h g

    turn : (n : Next) (o : Option Order) → Going (machine s n o ns es j q) → is_over n s.signal_count ≡ false → Turn n (round_of f s n (arrival e) m)
    unfolding is_over round_of taking entering advance_by
    turn Rest o g h = absurd (false≢true (sym h))
    turn (Enter a b) o g h = turn_entered a b o g
    turn Take o g h = turn_taken Take o (take_signal f s (arrival e) Rest) (ends_take f s (arrival e) Rest) g refl refl (omega arith)
    turn Consume o g h = turn_consumed o _ refl g h
    turn (Wants n i b) o g h = absurd (false≢true (sym h))
    turn (Refuse k) o g h = absurd (false≢true (sym h))

  going_small : (n : Next) → going_on n ≤ 1
  going_small Rest = omega arith
  going_small (Enter n b) = omega arith
  going_small Take = omega arith
  going_small Consume = omega arith
  going_small (Wants n i b) = omega arith
  going_small (Refuse k) = omega arith

  not_over : (n : Next) (h : ℕ) → is_over n h ≡ false → going_on n ≡ 1
  unfolding is_over
  not_over Rest h z = absurd (false≢true (sym z))
  not_over (Enter n b) h z = refl
  not_over Take h z = refl
  not_over Consume h z = refl
  not_over (Wants n i b) h z = absurd (false≢true (sym z))
  not_over (Refuse k) h z = absurd (false≢true (sym z))

  -- THE TURNS of the loop that may still come, with a round that is made but not counted.
  abbrev pub left_of : Round → (microsteps : ℕ) → ℕ
  left_of v j = 2 * (131 - (j + v.microsteps)) + going_on v.made.next

  -- What stands at the head of the loop: the lists, and a round that is made but neither counted nor listed.
  pub record Driving (v : Round) (notes : Listed Note) (endings : Listed Ending) (operations microsteps : ℕ) : Type 0 where
    pub ns : List Note
    pub es : List Ending
    pub notes_are : notes ≡ listed ns
    pub endings_are : endings ≡ listed es
    pub going : microsteps + v.microsteps ≤ limit → Going (machine v.made.state v.made.next v.made.order (added ns v.made.note) (added es v.made.ending) (microsteps + v.microsteps) (operations + read_by v.made.read))
    pub over : limit < microsteps + v.microsteps → Over
    pub steps : microsteps + v.microsteps ≤ 130
    pub few : operations + left_of v microsteps * 8589934592 ≤ 263 * 8589934592

  -- The same where it has been counted and listed.
  pub record Counted (v : Round) (notes : Listed Note) (endings : Listed Ending) (operations microsteps : ℕ) : Type 0 where
    pub ns : List Note
    pub es : List Ending
    pub notes_are : notes ≡ listed ns
    pub endings_are : endings ≡ listed es
    pub going : Going (machine v.made.state v.made.next v.made.order ns es microsteps operations)
    pub within : microsteps ≤ limit
    pub few : operations + (2 * (131 - microsteps) + going_on v.made.next) * 8589934592 ≤ 264 * 8589934592

  pub driving_first : {notes : Listed Note} {endings : Listed Ending} → notes ≡ listed [] → endings ≡ listed [] → Begins → Driving v₀ notes endings 0 0
  driving_first h k b =
      let z = b.uncounted in
      let g = going_small v₀.made.next in
      record {
        ns = [];
        es = [];
        notes_are = h;
        endings_are = k;
        going = λ w. rw z (record { runs = record { left = refl }; bounds = b.bounds });
        over = λ w. absurd (omega arith);
        steps = omega arith;
        few = omega arith;
      }

  -- The round is counted and listed.
  module _ {v : Round} {notes : Listed Note} {endings : Listed Ending} {q j : ℕ} (d : Driving v notes endings q j) (w : j + v.microsteps ≤ limit) where
    pub note_room : notes.count + takes v.made.note ≤ 65
    note_room = omega (arith, counted_is notes d.ns d.notes_are, length_added d.ns v.made.note, (d.going w).bounds.few_notes)

    pub ending_room : endings.count + takes v.made.ending ≤ 65
    ending_room = omega (arith, counted_is endings d.es d.endings_are, length_added d.es v.made.ending, (d.going w).bounds.few_endings)

    pub counted : {a : Listed Note} {b : Listed Ending} → ((xs : List Note) → notes ≡ listed xs → a ≡ listed (added xs v.made.note)) → ((xs : List Ending) → endings ≡ listed xs → b ≡ listed (added xs v.made.ending))
        → {r : ℕ} → r ≡ read_by v.made.read → r ≤ 8589934592 → Counted v a b (q + r) (j + v.microsteps)
    counted x y h z =
        record {
          ns = added d.ns v.made.note;
          es = added d.es v.made.ending;
          notes_are = x d.ns d.notes_are;
          endings_are = y d.es d.endings_are;
          going = rw h (d.going w);
          within = w;
          few = omega (arith, d.few);
        }

  module _ {v : Round} {notes : Listed Note} {endings : Listed Ending} {q j : ℕ} (d : Counted v notes endings q j) where
    -- A round follows.
    module _ (u : Round) (is : u ≡ round_of f v.made.state v.made.next (arrival e) m) (on : is_over v.made.next v.made.state.signal_count ≡ false) where
      the_turn : Turn v.made.state d.ns d.es j q d.within v.made.next u
      the_turn = rw is (turn v.made.state d.ns d.es j q d.within v.made.next v.made.order d.going on)

      next_steps : j + u.microsteps ≤ 130
      next_steps = omega (arith, the_turn.small, d.going.bounds.steps)

      goes_on : going_on v.made.next ≡ 1
      goes_on = not_over v.made.next v.made.state.signal_count on

      pub left_less : left_of u j < 2 * (131 - j) + going_on v.made.next
      left_less =
          let p = next_steps in
          let b = goes_on in
          let g = going_small u.made.next in
          split (eqb u.microsteps 0) (λ h. omega (arith, the_turn.quiet (eqb-true _ _ h), eqb-true u.microsteps 0 h)) (λ h. omega (arith, eqb-false u.microsteps 0 h))

      pub driving_next : Driving u notes endings q j
      driving_next =
          record {
            ns = d.ns;
            es = d.es;
            notes_are = d.notes_are;
            endings_are = d.endings_are;
            going = the_turn.fine;
            over = the_turn.over;
            steps = next_steps;
            few = omega (arith, left_less, d.few);
          }

    pub few_left : endings.count + v.made.state.signal_count ≤ 65
    few_left = omega (arith, counted_is endings d.es d.endings_are, d.going.bounds.few_endings)
