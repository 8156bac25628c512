use mathlib.Core.Path.{refl}
use Rattle.in_bytes.specs.Sheet.{plan}
use Rattle.in_bytes.proofs.sheet.plan.Goals as goal

pub returns : goal.returns
unfolding plan
returns c = refl
