-- What the close keeps: a run that has ended leaves over what is still stored, and all else stays.
use Rattle.std.specs.Prelude.{◌≡◌, Bool, true, false, List, [], ◌∷◌, ◌++◌, ℕ, ◌+◌, ◌≤◌, length, Option, Some, None}
use Rattle.std.proofs.Math.Path.{refl, ap}
use Rattle.std.proofs.Common.{◌∙◌, ltb-false}
use native.Mathlib.Omega.{arith}
use Rattle.std.proofs.Math.ListN.{length-append, length-take}
use Rattle.std.proofs.lemmas.Bool.{not-true}
use Rattle.laws.specs.Bool.{◌and◌, both, either, if_false}
use Rattle.laws.specs.Every.{every}
use Rattle.workflow.specs.View.{Workflow}
use Rattle.model.specs.declared.BufferedSignal.{BufferedSignal}
use Rattle.model.specs.declared.State.{State}
use Rattle.model.specs.declared.event.Event.{Event}
use Rattle.model.specs.declared.answer.Order.{Order}
use Rattle.model.specs.declared.answer.Ending.{Ending}
use Rattle.model.specs.Record.{is_terminal, seen}
use Rattle.model.specs.Store.{listed, stored, leaves_over, left_over, emptied, signals_fit}
use Rattle.model.specs.StoreLaws.{length_left}
use Rattle.snapshot.specs.Check.{stands, consistent}
use Rattle.kernel.specs.Drive.{Machine}
use Rattle.kernel.specs.Call.{closed}
use Rattle.demand3.specs.Words.{times}
use Rattle.demand3.specs.Demand3.{ends}
use Rattle.demand3.proofs.Driver.{ends_append}
use Rattle.demand3.proofs.Tidy as Tidy
use Rattle.demand3.specs.Tidy.{Sized, Tidies}
use Rattle.demand3.proofs.Opened.{Opened}
use Rattle.demand3.proofs.Keep.{nothing, Lives, Stands, New, Ordering}

-- AN EMPTY STORE leaves nothing over; an ended run that leaves nothing over has an empty store.
pub none_left_empty : (status : ℕ) → leaves_over status 0 ≡ false
unfolding leaves_over ◌and◌
none_left_empty k = by (is_terminal k)
  where
    by : (b : Bool) → (b and false) ≡ false
    by true = refl
    by false = refl

pub ended_empty : (s : State) → leaves_over s.status s.signal_count ≡ false → is_terminal s.status ≡ true → stored s ≡ []
unfolding leaves_over ◌and◌ listed
ended_empty s l h =
    let z : s.signal_count ≡ 0 = omega (arith, ltb-false 0 s.signal_count (rw h at l)) in
    rw z

-- The run check takes no ended run with signals stored.
pub checked_none_left : (f : Workflow) (s : State) → consistent f s ≡ true → leaves_over s.status s.signal_count ≡ false
unfolding consistent
checked_none_left f s h = not-true _ (both _ _ (both _ _ (both _ _ (both _ _ h).1).1).1).1

-- What is left over ends, each once.
ends_left : (q : ℕ) (xs : List BufferedSignal) → ends q (left_over xs) ≡ times q xs
unfolding left_over ends times
ends_left q [] = refl
ends_left q (x ∷ xs) = omega (arith, ends_left q xs)

-- THE CLOSE, of a machine at rest: the run check takes its record, and it lists at most 65 endings.
pub record Closes (f : Workflow) (x y : Machine) : Type 0 where
  pub checked : consistent f y.state ≡ true
  pub sized : Sized y.state
  pub few : length y.endings ≤ 65
  pub same_notes : y.notes ≡ x.notes
  pub same_steps : y.microsteps ≡ x.microsteps

module _ (f : Workflow) (x : Machine) where
  sized : (s : State) → Tidies f s → Sized s
  sized s t = record { signals = t.store.slotted.long; visits = t.visit_slots.long; results = t.result_slots.long; streaks = t.streak_slots.long }

  -- the store is emptied
  tidy_emptied : (s : State) → Tidies f s → Tidies f (emptied s)
  unfolding emptied signals_fit listed every ◌and◌
  tidy_emptied s t =
      record {
        in_sequence = t.in_sequence;
        in_time = t.in_time;
        store = record { slotted = record { long = refl; room = omega arith }; fits = refl };
        visit_slots = t.visit_slots;
        result_slots = t.result_slots;
        streak_slots = t.streak_slots;
      }

  stands_emptied : (s : State) → stands f (emptied s) ≡ stands f s
  unfolding emptied stands
  stands_emptied s = refl

  none_left_emptied : (s : State) → leaves_over (emptied s).status (emptied s).signal_count ≡ false
  unfolding emptied
  none_left_emptied s = none_left_empty s.status

  few_left : (s : State) (es : List Ending) → length es + s.signal_count ≤ 65 → length (es ++ left_over (stored s)) ≤ 65
  unfolding listed
  few_left s es h = omega (arith, length-append es (left_over (stored s)), length_left (stored s), length-take s.signal_count s.signals)

  pub closes : Tidies f x.state → stands f x.state ≡ true → length x.endings + x.state.signal_count ≤ 65 → Closes f x (closed x)
  unfolding closed
  closes t w h =
      either (Closes f x) _
      (λ _. let u = tidy_emptied x.state t in
      record {
        checked = Tidy.checked_by f (emptied x.state) u (stands_emptied x.state ∙ w) (none_left_emptied x.state);
        sized = sized (emptied x.state) u;
        few = few_left x.state x.endings h;
        same_notes = refl;
        same_steps = refl;
      })
      (λ l. record { checked = Tidy.checked_by f x.state t w l; sized = sized x.state t; few = omega arith; same_notes = refl; same_steps = refl })

-- WHAT DEMAND 3 COUNTS stays: what was stored has ended.
module _ (f : Workflow) (s₀ : State) (e : Event) (x : Machine) where
  pub live_closed : Lives f s₀ e (λ q. ends q x.endings) x.state nothing → Lives f s₀ e (λ q. ends q (closed x).endings) (closed x).state nothing
  unfolding closed emptied listed times
  live_closed g =
      either (λ (y : Machine). Lives f s₀ e (λ q. ends q y.endings) y.state nothing) _
      (λ _. record {
        nodes = g.nodes;
        conserved = λ q. omega (arith, g.conserved q, ends_append q x.endings (left_over (stored x.state)), ends_left q (stored x.state));
        grows = g.grows;
        counts = g.counts;
        timed = g.timed;
      })
      (λ _. g)

  pub stands_closed : Stands f s₀ e x.state → Stands f s₀ e (closed x).state
  unfolding closed emptied
  stands_closed g = either (λ (y : Machine). Stands f s₀ e y.state) _ (λ _. g) (λ _. g)

  new_emptied : (s : State) (n v a : ℕ) → New f s₀ e s n v a → New f s₀ e (emptied s) n v a
  unfolding emptied
  new_emptied s n v a g = record { here = g.here; current = g.current; counted_in = g.counted_in; real = g.real; is_new = g.is_new }

  orders_emptied : (s : State) (o : Option Order) → Ordering f s₀ e s o → Ordering f s₀ e (emptied s) o
  orders_emptied s None g = tt
  orders_emptied s (Some (Order.Schedule z)) g = new_emptied s z.node z.visit z.attempt g
  orders_emptied s (Some (Order.Retry z)) g = new_emptied s z.node z.visit z.attempt g

  pub orders_closed : Ordering f s₀ e x.state x.order → Ordering f s₀ e (closed x).state (closed x).order
  unfolding closed
  orders_closed g = either (λ (y : Machine). Ordering f s₀ e y.state y.order) _ (λ _. orders_emptied x.state x.order g) (λ _. g)

  pub opens_closed : Opened s₀.invocation x.state.invocation x.order → Opened s₀.invocation (closed x).state.invocation (closed x).order
  unfolding closed emptied
  opens_closed g = either (λ (y : Machine). Opened s₀.invocation y.state.invocation y.order) _ (λ _. g) (λ _. g)

  -- a run that had ended left nothing over, and stays as it was
  pub frozen_closed : leaves_over s₀.status s₀.signal_count ≡ false → x.state ≡ seen s₀ e.sequence e.accepted_at → (closed x).state ≡ seen s₀ e.sequence e.accepted_at
  unfolding closed
  frozen_closed l h = ap (λ (y : Machine). y.state) (if_false _ _ x (ap (λ (s : State). leaves_over s.status s.signal_count) h ∙ l)) ∙ h
