use Rattle.std.proofs.Common.{refl}
use Rattle.laws.specs.Splice.{fill_start, fill_next, fill_end}
use Rattle.host.proofs.rows.read_rows.Goals as goal

pub loop-i-preserved : goal.loop-i-preserved
loop-i-preserved g c = fill_next c.loop-i.invariant c.read.ensures c.loop-i-test.true

pub loop-i-init : goal.loop-i-init
loop-i-init g c = fill_start refl

pub returns : goal.returns
returns g c = fill_end c.loop-i.invariant c.loop-i-test.false
