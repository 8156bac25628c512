use Rattle.std.proofs.Common.{rules}
use Rattle.laws.specs.Bool.{◌and◌}
use Rattle.graph.proofs.form.counts_fit.Goals as goal

pub returns-then-has_room-4 : goal.returns-then-has_room-4
unfolding ◌and◌
returns-then-has_room-4 c = search rules

pub returns-else-has_room-4 : goal.returns-else-has_room-4
unfolding ◌and◌
returns-else-has_room-4 c = search rules
