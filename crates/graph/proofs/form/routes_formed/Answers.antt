use Rattle.std.proofs.Common.{rules}
use borrow.Author.Tests.{tests}
use Rattle.laws.specs.Chains.{range_all}
use Rattle.laws.specs.Bool.{◌and◌}
use Rattle.workflow.specs.View.{workflow, route_at}
use Rattle.graph.specs.Form.{formed_route}
use Rattle.graph.specs.FormLaws.{routes_parts}
use Rattle.graph.proofs.form.routes_formed.Goals as goal

pub returns-then-rows_ascend : goal.returns-then-rows_ascend
unfolding ◌and◌
returns-then-rows_ascend c =
    rw (← routes_parts, ← rw c.capped-count.ensures at c.rows_ascend.ensures, c.if-rows_ascend.true)
    (rw c.capped-count.ensures at (range_all (λ j. formed_route (workflow c.args.w.now) (route_at c.args.w.now j)) 0 _ _ _ _ c.all.ensures.ran (λ x b q k. search (rules, tests))))

pub returns-else-rows_ascend : goal.returns-else-rows_ascend
unfolding ◌and◌
returns-else-rows_ascend c = rw (← routes_parts, ← rw c.capped-count.ensures at c.rows_ascend.ensures, c.if-rows_ascend.false)
