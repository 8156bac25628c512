use Rattle.snapshot.specs.Check.{consistent}
use Rattle.snapshot.proofs.Tests.{strict}
use Rattle.snapshot.proofs.consistent.Goals as goal

pub returns : goal.returns
unfolding consistent
returns c = simp (c.counters_fit.ensures, c.store_fits.ensures, c.slots_fit.ensures, c.stands.ensures, c.leaves_over.ensures, strict)
