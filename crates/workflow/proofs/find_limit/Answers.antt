use Rattle.workflow.specs.RowLaws.{find_limit}
use Rattle.workflow.proofs.find_limit.Goals as goal

pub returns : goal.returns
returns c = rw (c.find_row.ensures, c.capped-count.ensures) (find_limit _ _ _)
