use Rattle.graph.specs.Accepted.{sound}
use Rattle.graph.specs.Stages.{in_0_2, in_0_1}
use Rattle.graph.proofs.reach.Ruled.lowest_unreached.Goals as goal

pub missing-requires : goal.missing-requires
missing-requires c = (sound _ c.args.self.now.ruled).few_nodes

pub returns-then-is_0_2 : goal.returns-then-is_0_2
returns-then-is_0_2 c = in_0_2 c.args.self.now.sheet.now _ _ c.is_0_2.ensures c.if-is_0_2.true (rw (c.missing.ensures, c.closed.ensures))

pub returns-else-is_0_2 : goal.returns-else-is_0_2
returns-else-is_0_2 c = in_0_1 c.args.self.now.sheet.now _ _ c.is_0_2.ensures c.if-is_0_2.false
