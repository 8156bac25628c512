use Rattle.std.proofs.Common.{rules}
use Rattle.laws.specs.Bool.{◌and◌}
use Rattle.graph.specs.FormLaws.{blank_parts}
use Rattle.graph.proofs.form.is_blank.Goals as goal

pub returns-then-table_blank-4 : goal.returns-then-table_blank-4
unfolding ◌and◌
returns-then-table_blank-4 c = rw blank_parts (search rules)

pub returns-else-table_blank-4 : goal.returns-else-table_blank-4
unfolding ◌and◌
returns-else-table_blank-4 c = rw blank_parts (search rules)
