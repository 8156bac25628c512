use Rattle.std.proofs.Common.{rules}
use Rattle.laws.specs.Bool.{◌or◌}
use Rattle.graph.specs.RulesLaws.{out_of_range}
use Rattle.graph.proofs.rules.is_out_of_range.Goals as goal

pub returns : goal.returns
unfolding out_of_range ◌or◌
returns c = search rules
