use Rattle.std.proofs.Common.{rules}
use Rattle.laws.specs.Bool.{◌and◌}
use Rattle.graph.specs.Form.{formed_declared}
use Rattle.graph.proofs.form.formed_declared.Goals as goal

pub returns : goal.returns
unfolding formed_declared ◌and◌
returns c = search rules
