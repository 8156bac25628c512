use mathlib.Core.Path.{◌∙◌}
use native.Mathlib.Omega.{arith}
use Rattle.workflow.specs.View.{route_at}
use Rattle.graph.specs.ReachLaws.{masks, leads_more, leads_end, route_within}
use Rattle.graph.proofs.reach.Ruled.masks.Goals as goal

pub loop-i-init : goal.loop-i-init
unfolding masks
loop-i-init c = rw c.capped-k.ensures

pub bit-requires : goal.bit-requires
bit-requires c = (route_within _ c.args.self.now.ruled c.args.back _ (omega arith) c.route_at.ensures c.turned-x.ensures).target

pub loop-i-preserved : goal.loop-i-preserved
loop-i-preserved c = leads_more c.args.back (route_at c.args.self.now.sheet.now) _ _ _ (omega arith) c.route_at.ensures c.turned-x.ensures c.bit.ensures ∙ c.loop-i.invariant

pub returns : goal.returns
returns c = leads_end _ (route_at c.args.self.now.sheet.now) _ _ _ (omega arith) ∙ c.loop-i.invariant

pub bounds-masks-x : goal.bounds-masks-x
bounds-masks-x c = (route_within _ c.args.self.now.ruled c.args.back _ (omega arith) c.route_at.ensures c.turned-x.ensures).node

pub bounds-masks-x-in-loop-i : goal.bounds-masks-x-in-loop-i
bounds-masks-x-in-loop-i c = (route_within _ c.args.self.now.ruled c.args.back _ (omega arith) c.route_at.ensures c.turned-x.ensures).node
