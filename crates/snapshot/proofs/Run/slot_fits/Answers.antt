use borrow.Author.Tests.{le-ltb, lt-ltb}
use Rattle.laws.specs.Bool.{when◌then◌else◌}
use Rattle.snapshot.proofs.Tests.{no_result, strict}
use Rattle.snapshot.proofs.Run.slot_fits.Goals as goal

pub returns-then-node-self : goal.returns-then-node-self
unfolding when◌then◌else◌
returns-then-node-self c = simp (lt-ltb _ _ c.if-node-self.true, c.result_fits.ensures, c.streak_fits.ensures, strict)

pub returns : goal.returns
unfolding when◌then◌else◌
returns c = simp (le-ltb _ _ c.if-node-self.false, c.none.ensures, c.eq.ensures, no_result _ c.none-2.ensures c.eq-2.ensures, c.none-3.ensures, c.eq-3.ensures, strict)
