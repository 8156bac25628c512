use Rattle.snapshot.proofs.Tests.{no_output, no_result, strict}
use Rattle.snapshot.proofs.result_fits.Goals as goal

pub returns : goal.returns
returns c = simp (c.ne.ensures, no_output, no_result c.args.x c.none.ensures c.eq.ensures, strict)
