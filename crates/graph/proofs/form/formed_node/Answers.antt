use Rattle.std.proofs.Common.{rules}
use Rattle.laws.specs.Bool.{when◌then◌else◌}
use Rattle.graph.specs.Form.{formed_node}
use Rattle.graph.specs.FormLaws.{activity_fits, await_fits, complete_fits, fail_fits}
use Rattle.graph.proofs.form.formed_node.Goals as goal

pub returns-in-1 : goal.returns-in-1
returns-in-1 c = activity_fits _ c.in-1.is

pub returns-in-2 : goal.returns-in-2
returns-in-2 c = await_fits _ c.in-2.is

pub returns-in-3 : goal.returns-in-3
returns-in-3 c = complete_fits _ c.in-3.is

pub returns-in-4 : goal.returns-in-4
returns-in-4 c = fail_fits _ c.in-4.is

pub returns-in_default : goal.returns-in_default
unfolding formed_node when◌then◌else◌
returns-in_default c = search rules
