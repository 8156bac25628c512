use mathlib.Core.Path.{refl}
use Rattle.joint_a.specs.Sheet.{written, numbers}
use Rattle.joint_a.proofs.sheet.Goals as goal

pub returns : goal.returns
unfolding numbers written
returns c = refl
