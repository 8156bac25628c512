use mathlib.Core.Path.{◌∙◌}
use Rattle.graph.specs.ReachLaws.{missing_is}
use Rattle.graph.proofs.reach.missing.Goals as goal

pub returns : goal.returns
returns c = c.then_some.ensures ∙ missing_is _ _ c.ranges.set.fits c.requires
