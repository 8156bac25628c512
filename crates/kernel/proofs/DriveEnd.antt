-- Where no move follows, what the code hands back is the finish of the machine that it has.
use Rattle.std.specs.Prelude.{◌≡◌, Option, None, true, ltb}
use Rattle.std.proofs.Math.Path.{refl, ap}
use Rattle.std.proofs.Common.{◌∙◌, eqb-true}
use Rattle.std.proofs.lemmas.Bool.{false≢true}
use Prim.Native.Nat.{ℕ, ◌-◌}
use native.Mathlib.Omega.{arith}
use Rattle.laws.specs.Bool.{when◌then◌else◌, split}
use Rattle.laws.specs.Settle.{settled, settle_next}
use Rattle.workflow.specs.View.{Workflow}
use Rattle.workflow.specs.Lookup.{node_of}
use Rattle.model.specs.declared.State.{State}
use Rattle.model.specs.declared.event.Event.{Event}
use Rattle.model.specs.declared.event.Mappings.{Mappings}
use Rattle.kernel.specs.declared.Limits.{Limits}
use Rattle.model.specs.declared.answer.Order.{Order}
use Rattle.model.specs.declared.answer.Note.{Note}
use Rattle.model.specs.declared.answer.Ending.{Ending}
use Rattle.kernel.specs.declared.drive.Round.{Round}
use Rattle.kernel.specs.declared.listed.Listed.{Listed}
use Rattle.model.specs.declared.moves.Next.{Next}
use Rattle.model.specs.declared.moves.Next.TheVariants.{Rest, Enter, Take, Consume, Wants, Refuse}
use Rattle.model.specs.Store.{leaves_over}
use Rattle.kernel.specs.Drive.{Machine, operations_of, consume_by, advance_by, advance}
use Rattle.kernel.specs.Bounds.{none_more, Bounds}
use Rattle.kernel.specs.Call.{orders, closed, finish_by, finish}
use Rattle.kernel.specs.Decision.{decision_of}
use Rattle.kernel.specs.DriveLaws as drive
use Rattle.kernel.specs.DriveLaws.{decide, rest_answer, answer_of, is_over, Counted, none_stored}

module _ (f : Workflow) (l : Limits) (e : Event) (m : Mappings) (v₀ : Round) where
  module _ {v : Round} {notes : Listed Note} {endings : Listed Ending} {q j : ℕ} (d : Counted f l e m v₀ v notes endings q j) where
    -- No move follows.
    resting : (t : State) (o : Option Order) → decide d.ns d.es t (rest_answer o l j q) ≡ decision_of (finish_by Rest l (drive.machine f l e m v₀ t Rest o d.ns d.es j q))
    unfolding decide rest_answer finish_by decision_of closed when◌then◌else◌
    resting t o =
        split (ltb l.commands (orders o)) (λ a. rw a)
        (λ a. split (ltb l.operations q) (λ b. rw (a, b))
        (λ b. split (leaves_over t.status t.signal_count) (λ c. rw (a, b, c)) (λ c. rw (a, b, c))))

    -- With nothing stored the definition makes one more move, which says nothing.
    waits_on : (t : State) (o : Option Order) → t.signal_count ≡ 0 → drive.Runs f l e m v₀ (131 - j) (drive.machine f l e m v₀ t Consume o d.ns d.es j q) → Bounds Consume (131 - j) (drive.machine f l e m v₀ t Consume o d.ns d.es j q)
        → decide d.ns d.es t (rest_answer None l j q) ≡ decision_of (finish l (drive.at_end f l e m v₀))
    unfolding finish_by advance_by consume_by operations_of
    waits_on t o g r b =
        let y : drive.machine f l e m v₀ t Rest None d.ns d.es j q ≡ advance f (drive.limit f l e m v₀) e m (drive.machine f l e m v₀ t Consume o d.ns d.es j q) =
        rw (none_stored t (node_of f t.position.node).signal g, none_more d.ns refl, none_more d.es refl) (ap (drive.machine f l e m v₀ t Rest None d.ns d.es j) (omega arith)) in
        resting t None ∙ ap (λ (u : Machine). decision_of (finish l u)) (settled (settle_next r (omega (arith, b.enough)) refl refl y) refl refl)

    ends_by : (t : State) (y : Next) (o : Option Order) → is_over y t.signal_count ≡ true → drive.Runs f l e m v₀ (131 - j) (drive.machine f l e m v₀ t y o d.ns d.es j q)
        → Bounds y (131 - j) (drive.machine f l e m v₀ t y o d.ns d.es j q) → decide d.ns d.es t (answer_of y o l j q) ≡ decision_of (finish l (drive.at_end f l e m v₀))
    unfolding is_over answer_of finish_by decide
    ends_by t Rest o h r b = resting t o ∙ ap (λ (u : Machine). decision_of (finish l u)) (settled r refl refl)
    ends_by t (Enter i c) o h r b = absurd (false≢true h)
    ends_by t Take o h r b = absurd (false≢true h)
    ends_by t Consume o h r b = waits_on t o (eqb-true _ _ h) r b
    ends_by t (Wants i g c) o h r b = ap (λ (u : Machine). decision_of (finish l u)) (settled r refl refl)
    ends_by t (Refuse i) o h r b = ap (λ (u : Machine). decision_of (finish l u)) (settled r refl refl)

    pub driving_ends : is_over v.made.next v.made.state.signal_count ≡ true → decide d.ns d.es v.made.state (answer_of v.made.next v.made.order l j q) ≡ decision_of (finish l (drive.at_end f l e m v₀))
    driving_ends h = ends_by v.made.state v.made.next v.made.order h d.going.runs d.going.bounds
