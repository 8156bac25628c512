-- Laws of a chain of stages, one stage at a time: what a fine chain says of a stage, which numbers it never refuses with, and how code goes along it.
use Rattle.std.specs.Prelude.{◌≡◌, refl, Bool, true, false, List, [], ◌∷◌, ◌++◌, ℕ, eqb, Option, Some, None, Ok, Err, IsErrAnd}
use Rattle.std.proofs.Common.{sym, ◌∙◌, ap, arith}
use Rattle.std.proofs.lemmas.Bool.{eqb-false}
use Rattle.std.proofs.lemmas.Result.{err_from_is_err_and}
use Rattle.laws.specs.Bool.{when◌then◌else◌}
use Rattle.laws.specs.All.{All}
use Rattle.laws.specs.In.{In, head, tail}
use Rattle.workflow.specs.Code.{none}
use Rattle.workflow.specs.declared.refusal.Refusal.{Refusal}
use Rattle.workflow.specs.Refusal.{number}
use Rattle.graph.specs.declared.Broken.{Broken}
use Rattle.graph.specs.Verdict.{Verdict, broken, rule, rule_at, first_broken}

never : {A : Type 0} {x : Broken Refusal} → ◌≡◌ {A = Verdict} (Err x) (Ok tt) → A
never e = let z : ◌≡◌ {A = ℕ} 0 1 = cc in absurd (omega arith)

-- A FINE CHAIN. Each of its stages is fine; `search stage depth n` finds a stage among n by what it is.
pub ruleset stage = (head, tail)

first_fine : (v : Verdict) (vs : List Verdict) → first_broken (v ∷ vs) ≡ Ok tt → v ≡ Ok tt
unfolding first_broken
first_fine (Ok tt) vs e = refl
first_fine (Err x) vs e = e

rest_fine : (v : Verdict) (vs : List Verdict) → first_broken (v ∷ vs) ≡ Ok tt → first_broken vs ≡ Ok tt
unfolding first_broken
rest_fine (Ok tt) vs e = e
rest_fine (Err x) vs e = never e

pub stage_fine : {v : Verdict} {vs : List Verdict} → first_broken vs ≡ Ok tt → In v vs → v ≡ Ok tt
stage_fine e head = first_fine _ _ e
stage_fine e (tail i) = stage_fine (rest_fine _ _ e) i

pub rule_fine : (k : Refusal) (b : Bool) → rule k b ≡ Ok tt → b ≡ true
unfolding when◌then◌else◌
rule_fine k true e = refl
rule_fine k false e = never e

pub rule_at_fine : (k : Refusal) (x : Option ℕ) → rule_at k x ≡ Ok tt → x ≡ None
unfolding rule_at
rule_at_fine k (Some i) e = never e
rule_at_fine k None e = refl

pub rule_holds : (k : Refusal) {b : Bool} {vs : List Verdict} → first_broken vs ≡ Ok tt → In (rule k b) vs → b ≡ true
rule_holds k e i = rule_fine k _ (stage_fine e i)

pub none_breaks : (k : Refusal) {x : Option ℕ} {vs : List Verdict} → first_broken vs ≡ Ok tt → In (rule_at k x) vs → x ≡ None
none_breaks k e i = rule_at_fine k _ (stage_fine e i)

-- A BROKEN CHAIN answers with its first broken stage: those before it are fine.
pub record First (vs : List Verdict) (v : Verdict) : Type 0 where
  pub before : List Verdict
  pub after : List Verdict
  pub parts : vs ≡ before ++ (v ∷ after)
  pub fine : All (λ w. w ≡ Ok tt) before

pub the_first : (vs : List Verdict) (k : Refusal) (i : ℕ) → first_broken vs ≡ broken k i → First vs (broken k i)
unfolding first_broken
the_first [] k i e = never (sym e)
the_first (Ok tt ∷ vs) k i e =
    let r = the_first vs k i e in
    record { before = Ok tt ∷ r.before; after = r.after; parts = ap (λ l. Ok tt ∷ l) r.parts; fine = (refl, r.fine) }
the_first (Err x ∷ vs) k i e = record { before = []; after = vs; parts = ap (λ v. v ∷ vs) e; fine = tt }

-- THE NUMBERS. No stage refuses with 0, which is no rule of a sheet or a call, or with 26, the limit on microsteps.
pub record Mild (v : Verdict) : Type 0 where
  pub mild : (x : Broken Refusal) → v ≡ Err x → (number x.refusal ≡ 0 → ⊥) × (number x.refusal ≡ 26 → ⊥)

abbrev number_of : Verdict → ℕ
number_of (Ok tt) = 0
number_of (Err x) = number x.refusal

pub mild_fine : Mild (Ok tt)
mild_fine = record { mild = λ x e. never (sym e) }

pub mild_broken : (n : Refusal) (i : ℕ) → eqb (number n) 0 ≡ false → eqb (number n) 26 ≡ false → Mild (broken n i)
mild_broken n i a b =
    let x = eqb-false (number n) 0 a in
    let y = eqb-false (number n) 26 b in
    record { mild = λ z e. let q : number n ≡ number z.refusal = ap number_of e in ((λ h. x (omega arith)), (λ h. y (omega arith))) }

pub mild_rule : (n : Refusal) (b : Bool) → eqb (number n) 0 ≡ false → eqb (number n) 26 ≡ false → Mild (rule n b)
unfolding when◌then◌else◌
mild_rule n true x y = mild_fine
mild_rule n false x y = mild_broken n none x y

pub mild_rule_at : (n : Refusal) (x : Option ℕ) → eqb (number n) 0 ≡ false → eqb (number n) 26 ≡ false → Mild (rule_at n x)
unfolding rule_at
mild_rule_at n (Some i) x y = mild_broken n i x y
mild_rule_at n None x y = mild_fine

pub mild_none : Mild (first_broken [])
unfolding first_broken
mild_none = mild_fine

pub mild_next : (v : Verdict) (vs : List Verdict) → Mild v → Mild (first_broken vs) → Mild (first_broken (v ∷ vs))
unfolding first_broken
mild_next (Ok tt) vs m n = n
mild_next (Err x) vs m n = m

-- `search mild_stages depth n` goes along a chain of n stages that are rules.
pub ruleset mild_stages = (mild_none, mild_next, mild_rule, mild_rule_at)

-- THE CODE along a chain: `?` answers with a stage that is broken, and goes on after one that passes; the last one answers.
pub stops : {r w : Verdict} {x : Broken Refusal} (vs : List Verdict) → Err x ≡ w → IsErrAnd r (λ y. y ≡ x) → r ≡ first_broken (w ∷ vs)
unfolding first_broken
stops {r} vs e h = let p = err_from_is_err_and r h in rw (p.1, p.2, sym e)

pub goes_on : {r w : Verdict} (vs : List Verdict) → Ok tt ≡ w → r ≡ first_broken vs → r ≡ first_broken (w ∷ vs)
unfolding first_broken
goes_on vs e q = rw (sym e) q

pub ends : {v w : Verdict} → v ≡ w → v ≡ first_broken (w ∷ [])
unfolding first_broken
ends {v} {w} e = e ∙ alone w
  where
    alone : (x : Verdict) → x ≡ first_broken (x ∷ [])
    alone (Ok tt) = refl
    alone (Err x) = refl

-- A rule that the code has passed holds.
pub rule_passed : (k : Refusal) {b : Bool} → Ok tt ≡ rule k b → b ≡ true
rule_passed k e = rule_fine k _ (sym e)

pub rule_at_passed : (k : Refusal) {x : Option ℕ} → Ok tt ≡ rule_at k x → x ≡ None
rule_at_passed k e = rule_at_fine k _ (sym e)
