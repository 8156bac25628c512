use Rattle.laws.specs.Bool.{◌and◌}
use Rattle.model.specs.Store.{leaves_over}
use Rattle.model.proofs.store.leaves_over.Goals as goal

pub returns-then-is_terminal : goal.returns-then-is_terminal
unfolding leaves_over ◌and◌
returns-then-is_terminal c = simp (← c.is_terminal.ensures, c.if-is_terminal.true)

pub returns-else-is_terminal : goal.returns-else-is_terminal
unfolding leaves_over ◌and◌
returns-else-is_terminal c = simp (← c.is_terminal.ensures, c.if-is_terminal.false)
