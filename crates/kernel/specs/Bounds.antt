-- What a call may still count and list, on every sheet and every record of at most 64 stored signals: 131 moves, 130 microsteps, 65 notes and 65 endings are enough.
use Rattle.std.specs.Prelude.{◌≡◌, Option, Some, None, false, List, [], ◌∷◌, ℕ, suc, ◌+◌, ◌*◌, ◌≤◌, ltb}
use Rattle.std.proofs.Math.Path.{refl, ap, subst}
use Rattle.std.proofs.Common.{sym, length-append}
use native.Mathlib.Omega.{arith}
use Rattle.std.proofs.Math.ListN.{length}
use Rattle.laws.specs.Bool.{either}
use Rattle.workflow.specs.View.{Workflow}
use Rattle.workflow.specs.Lookup.{node_of}
use Rattle.model.specs.declared.State.{State}
use Rattle.model.specs.declared.event.Event.{Event}
use Rattle.model.specs.declared.event.Mappings.{Mappings}
use Rattle.model.specs.declared.moves.Next.{Next}
use Rattle.model.specs.declared.moves.Next.TheVariants.{Rest, Enter, Take, Consume, Wants, Refuse}
use Rattle.model.specs.declared.moves.Move.{Move}
use Rattle.model.specs.Record.{seen}
use Rattle.model.specs.Store.{first_signal, signal_at, removed}
use Rattle.model.specs.StoreLaws.{first_inside}
use Rattle.model.specs.Step.{arrival, enter, take}
use Rattle.machine.specs.Events.{apply}
use Rattle.kernel.specs.Cost.{cost, takes, takes_small, in_hand, hand_empty, entered, costs_take, reacted, removed_count}
use Rattle.kernel.specs.Drive.{Machine, added, moved, counting, consume_by, advance_by, advance, moves_on, started}

-- WHAT MAY STILL COME, by what comes next and how many signals are stored: moves, and notes.
abbrev pub need : Next → (stored : ℕ) → ℕ
need Rest h = 0
need (Enter n b) h = 2 + 2 * h
need Take h = 3 + 2 * h
need Consume h = 1 + 2 * h
need (Wants n i b) h = 0
need (Refuse k) h = 0

abbrev spare : Next → (stored : ℕ) → ℕ
spare Rest h = 0
spare (Enter n b) h = h
spare Take h = 1 + h
spare Consume h = h
spare (Wants n i b) h = 0
spare (Refuse k) h = 0

need_cost : (k : Next) (h : ℕ) → need k h ≤ cost k h + 1
need_cost Rest h = omega arith
need_cost (Enter n b) h = omega arith
need_cost Take h = omega arith
need_cost Consume h = omega arith
need_cost (Wants n i b) h = omega arith
need_cost (Refuse k) h = omega arith

spare_cost : (k : Next) (h : ℕ) → cost k h ≤ 1 + 2 * h → spare k h ≤ h
spare_cost Rest h c = omega arith
spare_cost (Enter n b) h c = omega arith
spare_cost Take h c = absurd (omega arith)
spare_cost Consume h c = omega arith
spare_cost (Wants n i b) h c = omega arith
spare_cost (Refuse k) h c = omega arith

-- l notes at first, none where an arrival is to be taken
module _ (n : Next) (count h : ℕ) (same : (n ≡ Rest → ⊥) → count ≡ h) (room : h ≤ 64) where
  at_first : (k : Next) → n ≡ k → (l : ℕ) → l ≤ 1 → (k ≡ Take → l ≡ 0) → l + spare k count ≤ 65
  at_first Rest e l a q = omega arith
  at_first (Enter t b) e l a q = omega (arith, same moves)
    where
      moves : n ≡ Rest → ⊥
      moves d = let w : ◌≡◌ {A = ℕ} 0 1 = cc in omega arith
  at_first Take e l a q = omega (arith, q refl, same moves)
    where
      moves : n ≡ Rest → ⊥
      moves d = let w : ◌≡◌ {A = ℕ} 0 1 = cc in omega arith
  at_first Consume e l a q = omega (arith, same moves)
    where
      moves : n ≡ Rest → ⊥
      moves d = let w : ◌≡◌ {A = ℕ} 0 1 = cc in omega arith
  at_first (Wants t i b) e l a q = omega arith
  at_first (Refuse k) e l a q = omega arith

-- THE LISTS.
pub length_added : {A : Type 0} (xs : List A) (o : Option A) → length (added xs o) ≡ length xs + takes o
unfolding added takes
length_added xs None = omega arith
length_added xs (Some x) = omega (arith, length-append xs (x ∷ []))

one_more : {A : Type 0} (xs : List A) (o : Option A) → length (added xs o) ≤ length xs + 1
one_more xs o = omega (arith, length_added xs o, takes_small o)

pub none_more : {A : Type 0} {o : Option A} (xs : List A) → o ≡ None → added xs o ≡ xs
unfolding added
none_more xs e = rw e

-- A machine with n next, and k moves left.
pub record Bounds (n : Next) (k : ℕ) (x : Machine) : Type 0 where
  pub room : x.state.signal_count ≤ 64
  pub steps : x.microsteps + cost n x.state.signal_count ≤ 130
  pub enough : need n x.state.signal_count ≤ k
  pub few_notes : length x.notes + spare n x.state.signal_count ≤ 65
  -- those that have ended, the one in hand and the stored
  pub few_endings : length x.endings + in_hand n + x.state.signal_count ≤ 65

module _ (f : Workflow) (limit : ℕ) (e : Event) (m : Mappings) where
  abbrev pub Bounded : (k : ℕ) → Machine → Type 0
  Bounded k x = Bounds x.next k x

  -- a move is counted
  bounded_counting : (k : ℕ) (x : Machine) (v : Move) → x.microsteps + 1 ≤ 130 → x.state.signal_count ≤ 64 → length x.notes ≤ 65 → length x.endings + x.state.signal_count ≤ 65
      → Bounded k (moved f limit e m (x.microsteps + 1) x v) → Bounded k (counting f limit e m x v)
  unfolding counting
  bounded_counting k x v h r n d g =
      either (Bounded k) (ltb limit (x.microsteps + 1)) (λ _. record { room = r; steps = omega arith; enough = omega arith; few_notes = omega arith; few_endings = omega arith }) (λ _. g)

  -- a signal is taken where h are left in the store; an entry and these may follow
  bounded_take : (k h : ℕ) (x : Machine) (v : Move) → v.state.signal_count ≡ h → cost v.next v.state.signal_count ≤ 1 + 2 * h → h ≤ x.state.signal_count → x.state.signal_count ≤ 64
      → x.microsteps + 2 + 2 * h ≤ 130 → 2 + 2 * h ≤ k → length x.notes + 1 + h ≤ 65 → length x.endings + x.state.signal_count ≤ 65 → length x.endings + 1 + h ≤ 65 → Bounded k (counting f limit e m x v)
  bounded_take k h x v z c l r a b n o d =
      let p = need_cost v.next v.state.signal_count in
      let q = spare_cost v.next v.state.signal_count (omega arith) in
      let t = hand_empty v.next v.state.signal_count (omega arith) in
      bounded_counting k x v (omega arith) r (omega arith) o
      (record { room = omega arith; steps = omega arith; enough = omega arith; few_notes = omega (arith, one_more x.notes v.note); few_endings = omega (arith, one_more x.endings v.ending) })

  -- WHAT COMES NEXT IS DONE.
  bounded_enter : (k : ℕ) (x : Machine) (n b : ℕ) → Bounds (Enter n b) (suc k) x → Bounded k (counting f limit e m x (enter f x.state n b m))
  bounded_enter k x n b a =
      let v = enter f x.state n b m in
      let c = entered f x.state n b m in
      let z = c.costs.same in
      let p = need_cost v.next v.state.signal_count in
      let q = spare_cost v.next v.state.signal_count (omega (arith, c.costs.small)) in
      let t = hand_empty v.next v.state.signal_count (omega (arith, c.costs.small)) in
      bounded_counting k x v (omega (arith, a.steps)) a.room (omega (arith, a.few_notes)) (omega (arith, a.few_endings))
      (record {
        room = omega (arith, a.room);
        steps = omega (arith, a.steps, c.costs.small);
        enough = omega (arith, a.enough, c.costs.small);
        few_notes = omega (arith, a.few_notes, ap length (none_more x.notes c.no_note));
        few_endings = omega (arith, a.few_endings, ap length (none_more x.endings c.no_end));
      })

  bounded_arrival : (k : ℕ) (x : Machine) → Bounds Take (suc k) x → Bounded k (counting f limit e m x (take f x.state (arrival e) Rest))
  bounded_arrival k x a =
      let c = costs_take f x.state (arrival e) Rest (omega arith) in
      bounded_take k x.state.signal_count x _ c.same c.small (omega arith) a.room (omega (arith, a.steps)) (omega (arith, a.enough)) (omega (arith, a.few_notes)) (omega (arith, a.few_endings)) (omega (arith, a.few_endings))

  bounded_consume : (k : ℕ) (x : Machine) → Bounds Consume (suc k) x → (y : Option ℕ) → first_signal x.state (node_of f x.state.position.node).signal ≡ y
      → Bounded k (consume_by f limit e m y x)
  unfolding consume_by
  bounded_consume k x a (Some i) z =
      let s = removed x.state i in
      let r = removed_count x.state i a.room (first_inside x.state _ i z) in
      let c = costs_take f s (signal_at x.state i) Consume (omega arith) in
      bounded_take k s.signal_count x _ c.same c.small (omega arith) a.room (omega (arith, a.steps)) (omega (arith, a.enough)) (omega (arith, a.few_notes)) (omega (arith, a.few_endings)) (omega (arith, a.few_endings))
  bounded_consume k x a None z =
      record {
        room = a.room;
        steps = omega (arith, a.steps);
        enough = omega arith;
        few_notes = omega (arith, a.few_notes, ap length (none_more x.notes refl));
        few_endings = omega (arith, a.few_endings, ap length (none_more x.endings refl));
      }

  -- a machine at rest needs no move
  pub fewer : (n : Next) (k j : ℕ) (x : Machine) → need n x.state.signal_count ≤ j → Bounds n k x → Bounds n j x
  fewer n k j x h a = record { room = a.room; steps = a.steps; enough = h; few_notes = a.few_notes; few_endings = a.few_endings }

  bounded_by : (k : ℕ) (n : Next) (x : Machine) → x.next ≡ n → Bounds n (suc k) x → Bounded k (advance_by f limit e m n x)
  unfolding advance_by
  bounded_by k Rest x z a = subst (λ (n : Next). Bounds n k x) (sym z) (fewer Rest (suc k) k x (omega arith) a)
  bounded_by k (Enter n b) x z a = bounded_enter k x n b a
  bounded_by k Take x z a = bounded_arrival k x a
  bounded_by k Consume x z a = bounded_consume k x a _ refl
  bounded_by k (Wants n i b) x z a = subst (λ (w : Next). Bounds w k x) (sym z) (fewer (Wants n i b) (suc k) k x (omega arith) a)
  bounded_by k (Refuse r) x z a = subst (λ (n : Next). Bounds n k x) (sym z) (fewer (Refuse r) (suc k) k x (omega arith) a)

  pub bounded_advance : (k : ℕ) (x : Machine) → Bounded (suc k) x → Bounded k (advance f limit e m x)
  bounded_advance k x a = bounded_by k x.next x refl a

  pub stopped : (n : Next) (h : ℕ) → moves_on f limit e m n ≡ false → need n h ≡ 0
  stopped Rest h z = refl
  stopped (Enter n b) h z = let w : ◌≡◌ {A = ℕ} 0 1 = cc in absurd (omega arith)
  stopped Take h z = let w : ◌≡◌ {A = ℕ} 0 1 = cc in absurd (omega arith)
  stopped Consume h z = let w : ◌≡◌ {A = ℕ} 0 1 = cc in absurd (omega arith)
  stopped (Wants n i b) h z = refl
  stopped (Refuse k) h z = refl

  -- the event is applied
  pub bounded_started : (s : State) → s.signal_count ≤ 64 → Bounded 131 (started f limit e m s)
  bounded_started s r =
      let v = apply f s e in
      let c = reacted f (seen s e.sequence e.accepted_at) e in
      let p = need_cost v.next v.state.signal_count in
      let n = at_first v.next v.state.signal_count s.signal_count c.same r v.next refl _ (one_more [] v.note) (λ z. ap length (none_more [] (c.quiet z).0)) in
      record { room = c.room r; steps = omega (arith, c.small); enough = omega (arith, c.small); few_notes = n; few_endings = omega (arith, c.held, length_added [] v.ending) }
