use Rattle.std.proofs.Common.{rules}
use Rattle.laws.specs.Bool.{◌and◌}
use Rattle.graph.specs.FormLaws.{form_parts}
use Rattle.graph.proofs.form.is_formed.Goals as goal

pub returns-then-declared_formed : goal.returns-then-declared_formed
unfolding ◌and◌
returns-then-declared_formed c = rw form_parts (search rules)

pub returns-else-declared_formed : goal.returns-else-declared_formed
unfolding ◌and◌
returns-else-declared_formed c = rw form_parts (search rules)
