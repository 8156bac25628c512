use mathlib.Core.Path.{◌∙◌}
use Rattle.laws.specs.Bool.{strict_and}
use Rattle.model.proofs.BufferedSignal.is_none.Goals as goal

pub returns : goal.returns
returns c = c.eq.ensures ∙ simp (c.none.ensures, strict_and)
