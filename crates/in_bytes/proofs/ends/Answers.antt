use mathlib.Core.Path.{◌≡◌, refl, ◌∙◌}
use Rattle.std.specs.Prelude.{Option, Some, None, ℕ, eqb}
use Rattle.std.specs.Option.{option_eq}
use Rattle.in_bytes.specs.Tests.{ends_at}
use Rattle.in_bytes.proofs.ends.Goals as goal

same : (place : Option ℕ) (n : ℕ) → option_eq eqb place (Some n) ≡ ends_at n place
unfolding ends_at
same (Some q) n = refl
same None n = refl

pub returns : goal.returns
returns c = c.eq.ensures ∙ same c.args.place _
