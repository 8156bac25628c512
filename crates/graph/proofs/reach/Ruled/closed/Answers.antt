use Rattle.graph.specs.ReachLaws.{walk_start, walk_less, walk_step, walk_end}
use Rattle.graph.proofs.reach.Ruled.closed.Goals as goal

pub loop-frontier-init : goal.loop-frontier-init
loop-frontier-init c = walk_start _ c.args.self.now.ruled _ _ c.requires

pub loop-frontier-smaller : goal.loop-frontier-smaller
loop-frontier-smaller c = walk_less c.loop-frontier.invariant c.loop-frontier-test.true c.bit-done.ensures

pub loop-frontier-preserved : goal.loop-frontier-preserved
loop-frontier-preserved c = walk_step _ c.args.self.now.ruled _ _ c.requires c.loop-frontier.invariant c.loop-frontier-test.true c.bit-done.ensures c.masks-masks.ensures

pub returns : goal.returns
returns c = walk_end _ c.args.self.now.ruled _ _ c.requires c.loop-frontier.invariant c.loop-frontier-test.false
