use Rattle.std.proofs.Common.{rules, arith, ◌∙◌, ◌≡◌}
use Rattle.laws.specs.Bool.{when◌then◌else◌}
use Rattle.workflow.specs.View.{workflow}
use Rattle.graph.specs.Accepted.{sound}
use Rattle.graph.specs.ReachLaws.{add_end, ends_more, ends_end}
use Rattle.graph.proofs.reach.Ruled.ends.Goals as goal

pub bit-set-requires : goal.bit-set-requires
bit-set-requires c = omega (arith, (sound _ c.args.self.now.ruled).few_nodes)

pub loop-node-preserved : goal.loop-node-preserved
unfolding when◌then◌else◌
loop-node-preserved c =
    let e : c.if-node_of-ge-COMPLETE.set ≡ add_end c.loop-node.set c.loop-node.node c.node_of.result.kind = search rules in
    ends_more _ _ _ _ (omega arith) c.node_of.ensures e ∙ c.loop-node.invariant

pub returns : goal.returns
returns c = ends_end (workflow c.args.self.now.sheet.now) _ _ _ (omega arith) ∙ c.loop-node.invariant
