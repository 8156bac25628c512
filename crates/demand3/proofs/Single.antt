-- The proof of what holds of every single call (specs, Single).
use Rattle.std.specs.Prelude.{◌≡◌, refl, false, not, ◌⊎◌, ℕ, ◌+◌, ◌≤◌, ◌<◌, eqb, Ok, Err, Some, None}
use Rattle.std.proofs.Math.Path.{sym, ap}
use Rattle.std.proofs.Common.{◌∙◌, arith, eqb-true, leb-true, ltb-true}
use Rattle.std.proofs.Math.Bool.{true}
use Rattle.std.proofs.lemmas.Bool.{false≢true, not-true}
use Rattle.std.proofs.Math.Logic.{inl, inr}
use Rattle.std.proofs.Math.ListN.{length}
use Rattle.laws.specs.Bool.{◌or◌, both, if_true, if_false, either, split}
use Rattle.workflow.specs.Code.{none}
use Rattle.workflow.specs.View.{Workflow}
use Rattle.workflow.specs.Lookup.{node_of}
use Rattle.workflow.specs.Sound.{Sound}
use Rattle.workflow.specs.declared.refusal.Refusal.{Refusal}
use Rattle.workflow.specs.Refusal.{number}
use Rattle.graph.specs.Verdict.{verdict, Verdict}
use Rattle.graph.specs.Chain.{stage, stage_fine, rule_holds, Mild, mild_stages}
use Rattle.graph.specs.Accepted.{rules, sound, verdict_mild}
use Rattle.model.specs.declared.State.{State}
use Rattle.model.specs.declared.event.Event.{Event}
use Rattle.model.specs.declared.event.Mappings.{Mappings}
use Rattle.model.specs.declared.moves.Next.{Next}
use Rattle.model.specs.declared.moves.Next.TheVariants.{Rest, Enter, Take, Consume, Wants, Refuse}
use Rattle.model.specs.Code.{largest, running, waiting}
use Rattle.model.specs.Record.{visits_of, is_terminal, seen, fresh}
use Rattle.model.specs.Store.{leaves_over}
use Rattle.model.specs.StoreLaws.{IsSlotted}
use Rattle.snapshot.specs.EventCheck.{event_fits}
use Rattle.snapshot.specs.Check.{is_no_invocation, terminal_fits, waits, works, live_fits, consistent, stands}
use Rattle.machine.specs.Events.{apply}
use Rattle.kernel.specs.Drive.{Machine, started, driven}
use Rattle.kernel.specs.declared.Call.{Call}
use Rattle.kernel.specs.Call.{refused, Last, is_start, start_stage, next_stage, record_stage, admission, given, finish_by, transition_by, transition}
use Rattle.demand3.specs.Steps.{steps, begun_by, begun}
use Rattle.demand3.proofs.StepsLaws.{few_steps, counts_steps}
use Rattle.demand3.proofs.Tidy as Tidy
use Rattle.demand3.specs.Tidy.{Sized}
use Rattle.demand3.proofs.Keep.{Owner}
use Rattle.demand3.proofs.Driver.{Checks, checked_driven}
use Rattle.demand3.proofs.Closed.{none_left_empty, checked_none_left, closes}
use Rattle.demand3.specs.Single.{Single, SizedLast}

-- BEFORE THE STEP. What an admitted call has.
pub record Admitted (f : Workflow) (r : Last) (c : Call) : Type 0 where
  pub sheet : Sound f
  pub event : event_fits c.event c.mappings ≡ true
  pub stage : record_stage f c r ≡ Ok tt

pub admitted : (f : Workflow) (r : Last) (c : Call) → admission f r c ≡ Ok tt → Admitted f r c
unfolding admission
admitted f r c e =
    let v : verdict f c.ceilings ≡ Ok tt = stage_fine e (search stage depth 8) in
    record { sheet = sound f (rules f c.ceilings v); event = rule_holds Refusal.EventUnfit e (search stage depth 8); stage = stage_fine e (search stage depth 8) }

-- A refusal before the step is none of 0 and 26.
mild_record : (f : Workflow) (c : Call) (r : Last) → Mild (record_stage f c r)
unfolding start_stage next_stage
mild_record f c None = search mild_stages depth 8
mild_record f c (Some s) = search mild_stages depth 8

mild_admission : (f : Workflow) (r : Last) (c : Call) → Mild (admission f r c)
unfolding admission
mild_admission f r c = search (mild_stages, verdict_mild, mild_record) depth 8

-- THE RECORD THAT A STEP STARTS AT.
in_time : (e : Event) (m : Mappings) → event_fits e m ≡ true → (e.sequence ≤ largest) × (e.accepted_at ≤ largest)
unfolding event_fits
in_time e m h = let a = both _ _ h in (leb-true _ _ a.0, leb-true _ _ (both _ _ a.1).0)

-- the invocation of a record that the run check takes is of the visit where the run stands
module _ (f : Workflow) (s : State) (p : eqb s.invocation.phase 0 ≡ false) where
  absent : {A : Type 0} → is_no_invocation s.invocation ≡ true → A
  absent z = absurd (false≢true (sym p ∙ (both _ _ z).0))

  owned : waits (node_of f s.position.node) s ≡ true ⊎ works f (node_of f s.position.node) s ≡ true
      → 0 < s.position.visit → (visits_of s s.position.node).count ≡ s.position.visit → Owner s
  owned (inl w) v e = absent (both _ _ w).1
  owned (inr w) v e =
      let o = both _ _ (both _ _ (both _ _ w).1).1 in
      let x : s.invocation.visit ≡ s.position.visit = eqb-true _ _ (both _ _ o.1).0 in
      record { same_node = eqb-true _ _ o.0; same_visit = x ∙ sym e; visited = omega arith }

  owner : stands f s ≡ true → Owner s
  unfolding stands
  owner h =
      split (is_terminal s.status) (λ t. let a : terminal_fits s ≡ true = sym (if_true _ _ _ t) ∙ h in absent (both _ _ (both _ _ a).1).0)
      (λ t. let a : live_fits f s ≡ true = sym (if_false _ _ _ t) ∙ h in
      let b = both _ _ (both _ _ a).1 in
      let c = both _ _ b.1 in
      let d = both _ _ c.1 in
      owned (split (eqb s.status waiting) (λ w. inl (sym (if_true _ _ _ w) ∙ d.1)) (λ w. inr (sym (if_false _ _ _ w) ∙ d.1))) (ltb-true _ _ c.0) (eqb-true _ _ d.0))

not_ended : is_terminal running ≡ false
unfolding is_terminal ◌or◌
not_ended = refl

-- what a step needs of it
pub record Begins (f : Workflow) (s : State) (e : Event) : Type 0 where
  pub sized : Sized s
  pub slotted : IsSlotted s
  pub tidy : Tidy.Good f (apply f s e)
  pub owner : eqb s.invocation.phase 0 ≡ false → Owner s
  pub none_left : leaves_over s.status s.signal_count ≡ false
  pub sequence : e.sequence ≡ s.last_sequence + 1

pub begins : (f : Workflow) (r : Last) (c : Call) → SizedLast r → Admitted f r c → Begins f (given r c) c.event
unfolding start_stage next_stage
begins f None c z a =
    let u = in_time c.event c.mappings a.event in
    let k : is_start c.event.kind ≡ true = rule_holds Refusal.NotStarted a.stage (search stage depth 8) in
    let q : eqb c.event.sequence 1 ≡ true = rule_holds Refusal.OutOfSequence a.stage (search stage depth 8) in
    let s = fresh c.event.input in
    record {
      sized = record { signals = refl; visits = refl; results = refl; streaks = refl };
      slotted = record { long = refl; room = omega arith };
      tidy =
          Tidy.good_react f a.sheet (seen s c.event.sequence c.event.accepted_at) c.event
          (Tidy.tidy_seen f s c.event.sequence c.event.accepted_at u.0 u.1 (Tidy.tidy_fresh f c.event.input)) (λ _. (not_ended, refl))
          (λ y. absurd (false≢true (sym y ∙ k))) u.0;
      owner = λ h. absurd (false≢true (sym h));
      none_left = none_left_empty running;
      sequence = eqb-true _ _ q;
    }
begins f (Some s) c z a =
    let u = in_time c.event c.mappings a.event in
    let n : not (is_start c.event.kind) ≡ true = rule_holds Refusal.StartedBefore a.stage (search stage depth 8) in
    let k : is_start c.event.kind ≡ false = not-true _ n in
    let g : consistent f s ≡ true = rule_holds Refusal.Inconsistent a.stage (search stage depth 8) in
    let t = Tidy.tidy_of f s z g in
    let q : eqb c.event.sequence (s.last_sequence + 1) ≡ true = rule_holds Refusal.OutOfSequence a.stage (search stage depth 8) in
    record {
      sized = z;
      slotted = t.0.store.slotted;
      tidy =
          Tidy.good_react f a.sheet (seen s c.event.sequence c.event.accepted_at) c.event
          (Tidy.tidy_seen f s c.event.sequence c.event.accepted_at u.0 u.1 t.0) (λ y. absurd (false≢true (sym k ∙ y)))
          (λ _. Tidy.stands_seen f s _ _ ∙ t.1) u.0;
      owner = λ h. owner f s h t.1;
      none_left = checked_none_left f s g;
      sequence = eqb-true _ _ q;
    }

-- AFTER THE STEP.
-- A refusal is named by what it is not.
refuses : (f : Workflow) (c : Call) (count : ℕ) (k : Refusal) (i : ℕ) → count ≤ 130 → (number k ≡ 0 → ⊥) → (number k ≡ 26 → ⊥) → Single f c count (refused k i)
refuses f c count k i l z n = record { proper = z; few = l; reports = tt; never_26 = λ _ e. n e }

module _ (f : Workflow) (sheet : Sound f) (c : Call) (s : State) (b : Begins f s c.event) where
  abbrev x : Machine
  x = driven f c.limits.microsteps c.event c.mappings s

  abbrev Rests : Next → Type 0
  Rests n = Checks f sheet c.limits.microsteps c.event c.mappings n 0 x

  abbrev all_steps : ℕ
  all_steps = steps f c.limits.microsteps c.event c.mappings 131 (started f c.limits.microsteps c.event c.mappings s)

  few : all_steps ≤ 130
  few = few_steps f c.limits.microsteps c.event c.mappings s b.slotted.room

  finishes : (n : Next) → x.next ≡ n → Rests n → Single f c all_steps (finish_by n c.limits x)
  unfolding finish_by
  finishes Rest z h =
      let y = closes f x h.checks.tidy h.checks.well (omega (arith, h.bounds.few_endings)) in
      either (Single f c all_steps) _ (λ _. refuses f c all_steps Refusal.CommandsExceeded none few (λ e. omega arith) (λ e. omega arith))
      (λ _. either (Single f c all_steps) _ (λ _. refuses f c all_steps Refusal.OperationsExceeded none few (λ e. omega arith) (λ e. omega arith))
      (λ _. record {
        proper =
            record {
              checked = y.checked;
              few_notes = omega (arith, h.bounds.few_notes, ap length y.same_notes);
              few_endings = y.few;
              sized = y.sized;
            };
        few = few;
        reports = y.same_steps ∙ counts_steps f c.limits.microsteps c.event c.mappings s z;
        never_26 = tt;
      }))
  finishes (Enter n j) z h = absurd (omega (arith, h.bounds.enough))
  finishes Take z h = absurd (omega (arith, h.bounds.enough))
  finishes Consume z h = absurd (omega (arith, h.bounds.enough))
  finishes (Wants n i j) z h = record { proper = h.checks; few = few; reports = tt; never_26 = tt }
  finishes (Refuse k) z h = by h.checks
    where
      by : ((k ≡ Refusal.NoRetry) ⊎ (k ≡ Refusal.Unencodable)) ⊎ ((k ≡ Refusal.MicrostepsExceeded) × (c.limits.microsteps < 130)) → Single f c all_steps (refused k none)
      by (inl (inl e)) = refuses f c all_steps k none few (λ y. omega (arith, ap number e)) (λ y. omega (arith, ap number e))
      by (inl (inr e)) = refuses f c all_steps k none few (λ y. omega (arith, ap number e)) (λ y. omega (arith, ap number e))
      by (inr e) = record { proper = λ y. omega (arith, ap number e.0); few = few; reports = tt; never_26 = λ l _. omega (arith, e.1) }

single_by : (f : Workflow) (r : Last) (c : Call) (v : Verdict) → admission f r c ≡ v → SizedLast r → Single f c (begun_by v f r c) (transition_by v f r c)
unfolding transition_by begun_by
single_by f r c (Ok tt) e z =
    let a = admitted f r c e in
    let b = begins f r c z a in
    finishes f a.sheet c (given r c) b _ refl (checked_driven f a.sheet c.limits.microsteps c.event c.mappings (given r c) b.slotted.room b.tidy)
single_by f r c (Err x) e z =
    let m = (mild_admission f r c).mild x e in
    refuses f c 0 x.refusal x.item (omega arith) m.0 m.1

-- EVERY CALL.
pub every_call : (f : Workflow) (r : Last) (c : Call) → SizedLast r → Single f c (begun f r c) (transition f r c)
unfolding transition
every_call f r c z = single_by f r c _ refl z
