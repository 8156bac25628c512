use Rattle.host.proofs.HostLaws.{given_rows}
use Rattle.host.proofs.read_given.Goals as goal

pub returns-then-has_record : goal.returns-then-has_record
returns-then-has_record c = rw c.if-has_record.true (given_rows (rw c.if-has_record.true at c.requires) c.read_record.ensures)
