-- The code's tests and the definition's.
use Rattle.std.specs.Prelude.{◌≡◌, refl, Bool, true, false, not, ◌&&◌, ℕ, length, min, take, leb, eqb, Option, Some, None}
use Rattle.std.specs.Option.{is_some, option_eq, MatchOption}
use Rattle.std.proofs.Common.{sym, ◌∙◌, ap, arith}
use Rattle.std.proofs.Math.Bool.{and_assoc, and_comm}
use Rattle.std.proofs.lemmas.List.{take_min}
use mathlib.Core.Bool.{beq}
use Rattle.laws.specs.Bool.{when◌then◌else◌, strict_and, strict_or}
use Rattle.laws.specs.Chains.{every_all}
use Rattle.laws.specs.Every.{every}
use Rattle.model.specs.contracts.OutputPartialEq.TheImpl as output_eq
use Rattle.model.specs.contracts.NodeResultPartialEq.TheImpl as result_eq
use Rattle.model.specs.declared.ErrorInfo.{ErrorInfo}
use Rattle.model.specs.declared.NodeResult.{NodeResult}
use Rattle.model.specs.declared.Output.{Output}
use Rattle.model.specs.declared.event.Mappings.{Mappings}
use Rattle.model.specs.Record.{no_node_result}
use Rattle.snapshot.specs.Check.{result_unused, result_zero, allows, keeps_error}
use Rattle.snapshot.specs.CheckLaws.{is_known, answers_fit}

-- The code's tests are strict. Its own and the definition's, grouped from the right.
pub ruleset strict = (strict_and, strict_or, and_assoc)

-- EMPTY VALUES, as the code compares with them: no output, no error, and no result, whose fields it compares in another order.
pub no_output : (x : Output) → (output_eq.ghosts).eq x Output.Nothing ≡ result_unused x
no_output Output.Nothing = refl
no_output (Output.Handle handle) = refl
no_output (Output.Error error) = refl

pub no_error : (f : ErrorInfo → ErrorInfo → Bool) (x : Option ErrorInfo) → option_eq f x None ≡ not (keeps_error x)
no_error f None = refl
no_error f (Some error) = refl

pub no_result : (x : NodeResult) {y : NodeResult} {b : Bool} → y ≡ no_node_result → b ≡ (result_eq.ghosts).eq x y → b ≡ result_zero x
no_result x e h = h ∙ rw e (simp (no_output, strict) (sym (and_assoc (eqb x.visit 0) (eqb x.outcome 0) (result_unused x.output)) ∙ and_comm (eqb x.visit 0 && eqb x.outcome 0) (result_unused x.output)))

-- OPTIONS: whether there is an error, and a limit, if there is one, with what is tested of it.
pub keeps : (x : Option ErrorInfo) → is_some x ≡ keeps_error x
keeps None = refl
keeps (Some error) = refl

pub alike : (a b : Bool) → beq a b ≡ (when a then b else not b)
unfolding when◌then◌else◌
alike true true = refl
alike true false = refl
alike false true = refl
alike false false = refl

pub allowed : {Tested : ℕ → Type 0} {b : Bool} (o : Option ℕ) (n : ℕ) → MatchOption o (b ≡ false) Tested → ((limit : ℕ) → Tested limit → b ≡ leb n limit) → b ≡ allows o n
allowed None n e h = e
allowed (Some limit) n e h = h limit e

-- The mapping answers before the count.
pub answers_known : (m : Mappings) → length m.answers ≡ 2 → answers_fit m ≡ every is_known (take m.count m.answers)
answers_known m h =
    let k : min 2 m.count ≡ min m.count (length m.answers) = omega arith in
    every_all is_known _ ∙ ap (every is_known) (ap (λ n. take n m.answers) k ∙ take_min m.count m.answers)
