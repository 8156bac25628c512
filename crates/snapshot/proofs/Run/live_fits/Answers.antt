use Rattle.snapshot.specs.CheckLaws.{invocation_fits}
use Rattle.snapshot.proofs.Tests.{no_output, strict}
use Rattle.snapshot.proofs.Run.live_fits.Goals as goal

pub returns : goal.returns
unfolding invocation_fits
returns c = simp (c.eq.ensures, no_output, c.visits_of.ensures, c.node_of.ensures, c.invocation_fits.ensures, strict)
