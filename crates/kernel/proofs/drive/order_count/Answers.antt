use mathlib.Core.Path.{◌∙◌}
use Rattle.kernel.specs.DriveLaws.{orders_byte}
use Rattle.kernel.proofs.drive.order_count.Goals as goal

pub returns : goal.returns
returns c = c.from.ensures ∙ rw c.is_some.ensures (orders_byte c.args.order)
