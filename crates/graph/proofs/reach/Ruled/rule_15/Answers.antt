use Rattle.graph.specs.Sets.{reaching_end}
use Rattle.graph.specs.Reach.{ends_fit}
use Rattle.graph.proofs.reach.Ruled.rule_15.Goals as goal

pub lowest_unreached-requires : goal.lowest_unreached-requires
lowest_unreached-requires c = (rw c.ends.ensures (ends_fit _ c.args.self.now.ruled))

pub returns : goal.returns
unfolding reaching_end
returns c = rw (c.rule_at.ensures, c.lowest_unreached.ensures, c.ends.ensures)
