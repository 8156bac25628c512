-- What an admitted call comes to.
use Rattle.graph.specs.Verdict.{broken}
use Rattle.std.specs.Prelude.{◌≡◌, true, ℕ, ◌≤◌, Some, None, Ok}
use Rattle.std.specs.Option.{MatchOption}
use Rattle.std.proofs.Math.Path.{sym}
use native.Mathlib.Omega.{arith}
use Rattle.laws.specs.Bool.{both}
use Rattle.workflow.specs.View.{Workflow}
use Rattle.workflow.specs.declared.refusal.Refusal.{Refusal}
use Rattle.graph.specs.Chain.{stage, stage_fine, rule_holds}
use Rattle.model.specs.declared.State.{State}
use Rattle.model.specs.Record.{fresh}
use Rattle.model.specs.StoreLaws.{fits_few}
use Rattle.snapshot.specs.Check.{consistent}
use Rattle.kernel.specs.declared.Call.{Call}
use Rattle.kernel.specs.Drive.{driven}
use Rattle.kernel.specs.Call.{Last, next_stage, admission, given, refused, finish, transition_by, transition}
use Rattle.kernel.specs.Decision.{decision_of}

-- The record of an admitted call stores at most 64 signals.
pub room_of : (f : Workflow) (s : State) (c : Call) → Ok tt ≡ admission f (Some s) c → s.signal_count ≤ 64
unfolding admission next_stage consistent
room_of f s c h =
    let g : next_stage f s c.event.kind c.event.sequence ≡ Ok tt = stage_fine (sym h) (search stage depth 8) in
    let e : consistent f s ≡ true = rule_holds Refusal.Inconsistent g (search stage depth 8) in
    fits_few s (both _ _ (both _ _ e).1).0

-- The step starts at what is given, or else at a fresh record.
pub given_or : (r : Last) (c : Call) (s : State) {P : Type 0} → MatchOption r P (λ t. s ≡ t) → (P → s ≡ fresh c.event.input) → s ≡ given r c
given_or (Some t) c s h k = h
given_or None c s h k = k h

-- A call is turned away, or its step is done.
module _ (f : Workflow) (r : Last) (c : Call) where
  pub is_away : (k : Refusal) (i : ℕ) → broken k i ≡ admission f r c → decision_of (refused k i) ≡ decision_of (transition f r c)
  unfolding transition transition_by
  is_away k i h = rw (sym h)

  -- It starts at a record with at most 64 signals.
  pub starts_few : (t : State) → t ≡ given r c → Ok tt ≡ admission f r c → t.signal_count ≤ 64
  starts_few t e h = rw e (few r h)
    where
      few : (o : Last) → Ok tt ≡ admission f o c → (given o c).signal_count ≤ 64
      few (Some s) g = room_of f s c g
      few None g = omega arith

  pub is_stepped : (t : State) → t ≡ given r c → Ok tt ≡ admission f r c → decision_of (finish c.limits (driven f c.limits.microsteps c.event c.mappings t)) ≡ decision_of (transition f r c)
  unfolding transition transition_by
  is_stepped t e h = rw (e, sym h)
