-- A call is refused with a number from 1 to 30: so 31 and 32, with which bytes are turned away, are no call's refusal.
use Rattle.std.specs.Prelude.{◌≡◌, refl, Bool, true, false, ◌⊎◌, List, [], ◌∷◌, ℕ, ◌<◌, ltb, Option, Some, None, Ok, Err}
use Rattle.std.proofs.Common.{ap, inl, inr, ltb-true}
use native.Mathlib.Omega.{arith}
use Rattle.laws.specs.Bool.{when◌then◌else◌, either}
use Rattle.laws.specs.Rows.{span}
use Rattle.laws.specs.In.{Hit, hit, miss, hits}
use Rattle.workflow.specs.Code.{none}
use Rattle.workflow.specs.View.{Workflow}
use Rattle.workflow.specs.Sound.{Sound}
use Rattle.workflow.specs.declared.refusal.Refusal.{Refusal}
use Rattle.workflow.specs.Refusal.{number}
use Rattle.graph.specs.declared.Broken.{Broken}
use Rattle.graph.specs.declared.Ceilings.{Ceilings}
use Rattle.graph.specs.Verdict.{rule, rule_at, first_broken, action_verdict, actions_verdict, verdict, Verdict, broken}
use Rattle.model.specs.declared.State.{State}
use Rattle.model.specs.declared.moves.Next.{Next}
use Rattle.model.specs.declared.moves.Next.TheVariants.{Rest, Enter, Take, Consume, Wants, Refuse}
use Rattle.kernel.specs.Drive.{Machine, driven}
use Rattle.kernel.specs.declared.Call.{Call}
use Rattle.kernel.specs.Call.{Answer, next, wants, refused, Last, start_stage, next_stage, record_stage, admission, given, finish_by, transition_by, transition}
use Rattle.demand3.specs.Single.{SizedLast}
use Rattle.demand3.proofs.Single.{Begins, admitted, begins}
use Rattle.demand3.proofs.Driver.{Checks, checked_driven}

-- BEFORE THE STEP.
record Known (v : Verdict) : Type 0 where
  known : (x : Broken Refusal) → v ≡ Err x → (0 < number x.refusal) × (number x.refusal < 31)

abbrev number_of : Verdict → ℕ
number_of (Ok tt) = 0
number_of (Err x) = number x.refusal

known_fine : Known (Ok tt)
known_fine = record { known = λ x e. let z : ◌≡◌ {A = ℕ} 0 1 = cc in absurd (omega arith) }

known_broken : (n : Refusal) (i : ℕ) → ltb 0 (number n) ≡ true → ltb (number n) 31 ≡ true → Known (broken n i)
known_broken n i a b =
    let x = ltb-true 0 (number n) a in
    let y = ltb-true (number n) 31 b in
    record { known = λ z e. let q : number n ≡ number z.refusal = ap number_of e in (omega arith, omega arith) }

known_rule : (n : Refusal) (b : Bool) → ltb 0 (number n) ≡ true → ltb (number n) 31 ≡ true → Known (rule n b)
unfolding when◌then◌else◌
known_rule n true x y = known_fine
known_rule n false x y = known_broken n none x y

known_rule_at : (n : Refusal) (x : Option ℕ) → ltb 0 (number n) ≡ true → ltb (number n) 31 ≡ true → Known (rule_at n x)
unfolding rule_at
known_rule_at n (Some i) x y = known_broken n i x y
known_rule_at n None x y = known_fine

known_none : Known (first_broken [])
unfolding first_broken
known_none = known_fine

known_next : (v : Verdict) (vs : List Verdict) → Known v → Known (first_broken vs) → Known (first_broken (v ∷ vs))
unfolding first_broken
known_next (Ok tt) vs m n = n
known_next (Err x) vs m n = m

ruleset known_stages = (known_none, known_next, known_rule, known_rule_at)

known_if : (b : Bool) (n : Refusal) (i : ℕ) {v : Verdict} → ltb 0 (number n) ≡ true → ltb (number n) 31 ≡ true → Known v → Known (when b then broken n i else v)
unfolding when◌then◌else◌
known_if true n i x y m = known_broken n i x y
known_if false n i x y m = m

known_hit : (f : Workflow) (c : Ceilings) {p : ℕ → Bool} {xs : List ℕ} {w : Verdict} → Hit p (λ _ a. action_verdict f c a) (Ok tt) xs w → Known w
known_hit f c (hit j a i t) = search (known_if, known_fine)
known_hit f c (miss g) = known_fine

known_actions : (f : Workflow) (c : Ceilings) → Known (actions_verdict f c)
unfolding actions_verdict
known_actions f c = known_hit f c (hits _ _ _ 0 (span (λ n. n) 0 f.action_count))

known_verdict : (f : Workflow) (c : Ceilings) → Known (verdict f c)
unfolding verdict
known_verdict f c = search (known_stages, known_actions) depth 20

known_record : (f : Workflow) (c : Call) (r : Last) → Known (record_stage f c r)
unfolding start_stage next_stage
known_record f c None = search known_stages depth 8
known_record f c (Some s) = search known_stages depth 8

known_admission : (f : Workflow) (r : Last) (c : Call) → Known (admission f r c)
unfolding admission
known_admission f r c = search (known_stages, known_verdict, known_record) depth 8

-- THE ANSWER.
abbrev pub KnownAnswer : Answer → Type 0
KnownAnswer (next a) = Unit {0}
KnownAnswer (wants n i b s) = Unit {0}
KnownAnswer (refused k i) = (0 < number k) × (number k < 31)

module _ (f : Workflow) (sheet : Sound f) (c : Call) (s : State) (b : Begins f s c.event) where
  abbrev x : Machine
  x = driven f c.limits.microsteps c.event c.mappings s

  finishes : (n : Next) → Checks f sheet c.limits.microsteps c.event c.mappings n 0 x → KnownAnswer (finish_by n c.limits x)
  unfolding finish_by
  finishes Rest h = either KnownAnswer _ (λ _. (omega arith, omega arith)) (λ _. either KnownAnswer _ (λ _. (omega arith, omega arith)) (λ _. tt))
  finishes (Enter n j) h = absurd (omega (arith, h.bounds.enough))
  finishes Take h = absurd (omega (arith, h.bounds.enough))
  finishes Consume h = absurd (omega (arith, h.bounds.enough))
  finishes (Wants n i j) h = tt
  finishes (Refuse k) h = by h.checks
    where
      by : ((k ≡ Refusal.NoRetry) ⊎ (k ≡ Refusal.Unencodable)) ⊎ ((k ≡ Refusal.MicrostepsExceeded) × (c.limits.microsteps < 130)) → (0 < number k) × (number k < 31)
      by (inl (inl e)) = rw e (omega arith, omega arith)
      by (inl (inr e)) = rw e (omega arith, omega arith)
      by (inr e) = rw e.0 (omega arith, omega arith)

known_by : (f : Workflow) (r : Last) (c : Call) (v : Verdict) → admission f r c ≡ v → SizedLast r → KnownAnswer (transition_by v f r c)
unfolding transition_by
known_by f r c (Ok tt) e z =
    let a = admitted f r c e in
    let b = begins f r c z a in
    finishes f a.sheet c (given r c) b _ (checked_driven f a.sheet c.limits.microsteps c.event c.mappings (given r c) b.slotted.room b.tidy)
known_by f r c (Err x) e z = (known_admission f r c).known x e

pub known_answer : (f : Workflow) (r : Last) (c : Call) → SizedLast r → KnownAnswer (transition f r c)
unfolding transition
known_answer f r c z = known_by f r c _ refl z
