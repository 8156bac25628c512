-- A call comes to at most 130 entries and takes, and one that ends at rest counts them all.
use Rattle.std.proofs.Math.Path.{◌≡◌, refl, sym}
use Rattle.std.proofs.Common.{◌∙◌, ap}
use Rattle.std.specs.Prelude.{false, ltb, Option, Some, None}
use Prim.Native.Nat.{ℕ, zero, suc, ◌+◌, ◌*◌, ◌≤◌}
use native.Mathlib.Omega.{arith}
use Rattle.laws.specs.Bool.{when◌then◌else◌, split, either}
use Rattle.laws.specs.Settle.{settle, settle_rests}
use Rattle.workflow.specs.View.{Workflow}
use Rattle.workflow.specs.declared.refusal.Refusal.{Refusal}
use Rattle.model.specs.declared.State.{State}
use Rattle.model.specs.declared.event.Event.{Event}
use Rattle.model.specs.declared.event.Mappings.{Mappings}
use Rattle.model.specs.declared.moves.Next.{Next}
use Rattle.model.specs.declared.moves.Next.TheVariants.{Rest, Enter, Take, Consume, Wants, Refuse}
use Rattle.model.specs.declared.moves.Move.{Move}
use Rattle.model.specs.Store.{first_signal}
use Rattle.model.specs.StoreLaws.{first_inside}
use Rattle.kernel.specs.Cost.{cost}
use Rattle.kernel.specs.Drive.{Machine, counting, consume_by, advance_by, advance, moves_on, is_moving, started, driven}
use Rattle.kernel.specs.Bounds.{Bounded, bounded_advance, bounded_started}
use Rattle.demand3.specs.Steps.{by_found, is_step, steps}

module _ (f : Workflow) (limit : ℕ) (e : Event) (m : Mappings) where
  -- A move counts what it is, or is refused.
  data Step (x y : Machine) (j : ℕ) : Type 0 where
    made_it : y.microsteps ≡ x.microsteps + j → Step x y j
    stopped_it : y.next ≡ Refuse Refusal.MicrostepsExceeded → j ≡ 1 → Step x y j

  step_counting : (x : Machine) (v : Move) → Step x (counting f limit e m x v) 1
  unfolding counting
  step_counting x v = either (λ (y : Machine). Step x y 1) (ltb limit (x.microsteps + 1)) (λ _. stopped_it refl refl) (λ _. made_it refl)

  step_consume : (x : Machine) (y : Option ℕ) → Step x (consume_by f limit e m y x) (by_found y)
  unfolding consume_by
  step_consume x (Some i) = step_counting x _
  step_consume x None = made_it (omega arith)

  step_by : (n : Next) (x : Machine) → Step x (advance_by f limit e m n x) (is_step f limit e m x.state n)
  unfolding advance_by
  step_by Rest x = made_it (omega arith)
  step_by (Enter n b) x = step_counting x _
  step_by Take x = step_counting x _
  step_by Consume x = step_consume x _
  step_by (Wants n i b) x = made_it (omega arith)
  step_by (Refuse k) x = made_it (omega arith)

  cost_found : (s : State) (n : ℕ) (y : Option ℕ) → first_signal s n ≡ y → by_found y ≤ 2 * s.signal_count
  cost_found s n (Some i) h = omega (arith, first_inside s n i h)
  cost_found s n None h = omega arith

  step_cost : (n : Next) (s : State) → is_step f limit e m s n ≤ cost n s.signal_count
  step_cost Rest s = omega arith
  step_cost (Enter n b) s = omega arith
  step_cost Take s = omega arith
  step_cost Consume s = cost_found s _ _ refl
  step_cost (Wants n i b) s = omega arith
  step_cost (Refuse k) s = omega arith

  none_left : (k : ℕ) (x : Machine) → is_moving f limit e m x ≡ false → steps f limit e m k x ≡ 0
  unfolding steps when◌then◌else◌
  none_left zero x h = refl
  none_left (suc k) x h = rw h

  few : (k : ℕ) (x : Machine) → Bounded f limit e m k x → x.microsteps + steps f limit e m k x ≤ 130
  unfolding steps
  few zero x b = omega (arith, b.steps)
  few (suc k) x b =
      either (λ (j : ℕ). x.microsteps + j ≤ 130) (is_moving f limit e m x)
      (λ _. go (few k (advance f limit e m x) (bounded_advance f limit e m k x b)) (step_by x.next x))
      (λ _. omega (arith, b.steps))
    where
      go : (advance f limit e m x).microsteps + steps f limit e m k (advance f limit e m x) ≤ 130 → Step x (advance f limit e m x) (is_step f limit e m x.state x.next) → x.microsteps + (is_step f limit e m x.state x.next + steps f limit e m k (advance f limit e m x)) ≤ 130
      go i (made_it h) = omega (arith, h, i)
      go i (stopped_it h o) = omega (arith, o, b.steps, step_cost x.next x.state, none_left k (advance f limit e m x) (ap (moves_on f limit e m) h))

  exact : (k : ℕ) (x : Machine) → (settle (is_moving f limit e m) (advance f limit e m) k x).next ≡ Rest
      → (settle (is_moving f limit e m) (advance f limit e m) k x).microsteps ≡ x.microsteps + steps f limit e m k x
  unfolding steps settle when◌then◌else◌
  exact zero x = λ h. omega arith
  exact (suc k) x =
      split (is_moving f limit e m x)
      (λ g. rw g (λ h. go (exact k (advance f limit e m x)) (step_by x.next x) h))
      (λ g. rw g (λ h. omega arith))
    where
      go : ((settle (is_moving f limit e m) (advance f limit e m) k (advance f limit e m x)).next ≡ Rest → (settle (is_moving f limit e m) (advance f limit e m) k (advance f limit e m x)).microsteps ≡ (advance f limit e m x).microsteps + steps f limit e m k (advance f limit e m x)) → Step x (advance f limit e m x) (is_step f limit e m x.state x.next) → (settle (is_moving f limit e m) (advance f limit e m) k (advance f limit e m x)).next ≡ Rest
          → (settle (is_moving f limit e m) (advance f limit e m) k (advance f limit e m x)).microsteps ≡ x.microsteps + (is_step f limit e m x.state x.next + steps f limit e m k (advance f limit e m x))
      go i (made_it g) h = omega (arith, g, i h)
      go i (stopped_it g o) h =
          let r = settle_rests (is_moving f limit e m) (advance f limit e m) k (advance f limit e m x) (ap (moves_on f limit e m) g) in
          let z : Refuse Refusal.MicrostepsExceeded ≡ Rest = sym g ∙ sym (ap (λ (w : Machine). w.next) r) ∙ h in
          let w : ◌≡◌ {A = ℕ} 0 1 = cc in
          absurd (omega arith)

  -- A CALL comes to at most 130 entries and takes, and one that ends at rest counts them all.
  pub few_steps : (s : State) → s.signal_count ≤ 64 → steps f limit e m 131 (started f limit e m s) ≤ 130
  few_steps s r = omega (arith, few 131 (started f limit e m s) (bounded_started f limit e m s r))

  pub counts_steps : (s : State) → (driven f limit e m s).next ≡ Rest → (driven f limit e m s).microsteps ≡ steps f limit e m 131 (started f limit e m s)
  unfolding driven
  counts_steps s h = omega (arith, exact 131 (started f limit e m s) h)
