use Rattle.snapshot.proofs.Tests.{strict}
use Rattle.snapshot.proofs.owned_by.Goals as goal

pub returns : goal.returns
returns c = simp (c.error_fits.ensures, strict)
