use borrow.Author.Tests.{eq-eqb, ne_eqb}
use Rattle.laws.specs.Bool.{when◌then◌else◌}
use Rattle.snapshot.specs.CheckLaws.{invocation_fits}
use Rattle.snapshot.proofs.Tests.{no_error, strict}
use Rattle.snapshot.proofs.Run.invocation_fits.Goals as goal

pub returns-then-self-eq-WAITING : goal.returns-then-self-eq-WAITING
unfolding invocation_fits when◌then◌else◌
returns-then-self-eq-WAITING c = simp (eq-eqb _ _ c.if-self-eq-WAITING.true, c.eq.ensures, c.none.ensures, no_error, strict)

pub returns : goal.returns
unfolding invocation_fits when◌then◌else◌
returns c = simp (ne_eqb _ _ c.if-self-eq-WAITING.false, c.phase_fits.ensures, c.owned_by.ensures, strict)
