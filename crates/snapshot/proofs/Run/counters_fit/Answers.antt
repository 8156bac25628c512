use Rattle.snapshot.specs.Check.{counters_fit}
use Rattle.snapshot.proofs.Tests.{strict}
use Rattle.snapshot.proofs.Run.counters_fit.Goals as goal

pub returns : goal.returns
unfolding counters_fit
returns c = simp strict
