use mathlib.Core.Path.{refl}
use Rattle.laws.specs.Bool.{◌and◌}
use Rattle.waits.specs.Waits.{step}
use Rattle.waits.specs.declared.TheConstants.{WAITS}
use Rattle.waits.specs.WaitsLaws.{stepped, carried, entry_below}
use Rattle.waits.proofs.wait_after.Goals as goal

pub returns : goal.returns
unfolding stepped step ◌and◌
returns c = rw c.entry_of.ensures (carried WAITS refl _ (entry_below c.args.attempt))
