use mathlib.Core.Path.{refl}
use Rattle.in_bytes.specs.Tests.{unused}
use Rattle.in_bytes.proofs.run.unused.Goals as goal

pub returns : goal.returns
unfolding unused
returns c = refl
