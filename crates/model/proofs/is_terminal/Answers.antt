use borrow.Author.Tests.{ne_eqb}
use Rattle.laws.specs.Bool.{◌or◌}
use Rattle.model.specs.Record.{is_terminal}
use Rattle.model.proofs.is_terminal.Goals as goal

pub returns-then-status-eq-RUN_COMPLETED : goal.returns-then-status-eq-RUN_COMPLETED
unfolding is_terminal ◌or◌
returns-then-status-eq-RUN_COMPLETED c = let e = c.if-status-eq-RUN_COMPLETED.true in rw e

pub returns-else-status-eq-RUN_COMPLETED : goal.returns-else-status-eq-RUN_COMPLETED
unfolding is_terminal ◌or◌
returns-else-status-eq-RUN_COMPLETED c = simp (ne_eqb _ _ c.if-status-eq-RUN_COMPLETED.false)
