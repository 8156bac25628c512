use mathlib.Core.Path.{◌≡◌}
use Rattle.laws.specs.Rows.{span}
use Rattle.workflow.specs.View.{workflow, route_at}
use Rattle.graph.specs.ReachLaws.{leads, masks}
use Rattle.graph.proofs.reach.Ruled.masks.Given as goal

-- the masks with the routes from i on are the whole answer
abbrev pub invariant-loop-i : goal.invariant-loop-i
invariant-loop-i l = leads l.back (span (route_at l.self.sheet.now) l.i l.k) l.masks ≡ masks (workflow l.self.sheet.now) l.back
