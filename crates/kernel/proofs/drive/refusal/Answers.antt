use Rattle.kernel.specs.Decision.{decision_of}
use Rattle.kernel.proofs.drive.refusal.Goals as goal

pub returns : goal.returns
unfolding decision_of
returns c = simp (c.bare.ensures, c.fresh.ensures)
