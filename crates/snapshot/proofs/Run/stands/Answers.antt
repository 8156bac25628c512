use Rattle.laws.specs.Bool.{when◌then◌else◌}
use Rattle.snapshot.specs.Check.{stands}
use Rattle.snapshot.proofs.Run.stands.Goals as goal

pub returns-then-is_terminal : goal.returns-then-is_terminal
unfolding stands when◌then◌else◌
returns-then-is_terminal c = simp (← c.is_terminal.ensures, c.if-is_terminal.true, c.terminal_fits.ensures)

pub returns : goal.returns
unfolding stands when◌then◌else◌
returns c = simp (← c.is_terminal.ensures, c.if-is_terminal.false, c.live_fits.ensures)
