use mathlib.Core.Path.{◌∙◌}
use Rattle.kernel.specs.Cost.{takes_byte}
use Rattle.kernel.proofs.drive.takes.Goals as goal

pub returns : goal.returns
returns c = c.from.ensures ∙ rw c.is_some.ensures (takes_byte c.args.ending)
