use Rattle.snapshot.proofs.Tests.{no_error, strict}
use Rattle.snapshot.proofs.Run.terminal_fits.Goals as goal

pub returns : goal.returns
returns c = simp (c.eq.ensures, c.none.ensures, c.eq-2.ensures, c.none-2.ensures, c.result_of_status.ensures, no_error, strict)
