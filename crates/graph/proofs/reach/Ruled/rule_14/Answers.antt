use native.Mathlib.Omega.{arith}
use lib.Pow.{pow-lt}
use Rattle.graph.specs.Sets.{reached}
use Rattle.graph.specs.Accepted.{sound}
use Rattle.graph.proofs.reach.Ruled.rule_14.Goals as goal

pub bit-start-requires : goal.bit-start-requires
bit-start-requires c = omega (arith, (sound _ c.args.self.now.ruled).start, (sound _ c.args.self.now.ruled).few_nodes)

pub lowest_unreached-requires : goal.lowest_unreached-requires
lowest_unreached-requires c = (rw c.bit-start.ensures (pow-lt (sound _ c.args.self.now.ruled).start))

pub returns : goal.returns
unfolding reached
returns c = rw (c.rule_at.ensures, c.lowest_unreached.ensures, c.bit-start.ensures)
