use mathlib.Core.Path.{refl}
use Rattle.host.specs.Read.{narrow}
use Rattle.in_bytes.specs.Boundary.{packed}
use Rattle.in_bytes.proofs.packed.Goals as goal

pub returns : goal.returns
unfolding packed narrow
returns c = refl
