use Rattle.snapshot.proofs.Tests.{strict}
use Rattle.snapshot.proofs.Run.phase_fits.Goals as goal

pub returns : goal.returns
returns c = simp (c.is_0_2.ensures, strict)
