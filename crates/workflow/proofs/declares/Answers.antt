use Rattle.workflow.specs.RowLaws.{find_declared}
use Rattle.workflow.proofs.declares.Goals as goal

pub returns : goal.returns
returns c = rw (c.is_some.ensures, c.find_row-row.ensures, c.capped-count.ensures) (find_declared _ _ _)
