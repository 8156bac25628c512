use Rattle.graph.specs.ReachLaws.{Walk}
use Rattle.graph.specs.Bits.{lacking}
use Rattle.workflow.specs.View.{workflow}
use Rattle.graph.proofs.reach.Ruled.closed.Given as goal

-- the set lies within what is reached, each node that is done has its mask in it, and the frontier is what is left to do
abbrev pub invariant-loop-frontier : goal.invariant-loop-frontier
invariant-loop-frontier l = Walk (workflow l.self.sheet.now) l.back l.start l.set l.done l.frontier

abbrev pub decreases-loop-frontier : goal.decreases-loop-frontier
decreases-loop-frontier l = lacking 64 l.done
