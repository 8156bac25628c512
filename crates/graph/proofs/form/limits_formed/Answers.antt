use Rattle.std.proofs.Common.{rules}
use borrow.Author.Tests.{tests}
use Rattle.laws.specs.Chains.{range_all}
use Rattle.laws.specs.Bool.{◌and◌}
use Rattle.workflow.specs.View.{workflow, limit_at}
use Rattle.graph.specs.Form.{formed_limit}
use Rattle.graph.specs.FormLaws.{limits_parts}
use Rattle.graph.proofs.form.limits_formed.Goals as goal

pub returns-then-rows_ascend : goal.returns-then-rows_ascend
unfolding ◌and◌
returns-then-rows_ascend c =
    rw (← limits_parts, ← rw c.capped-count.ensures at c.rows_ascend.ensures, c.if-rows_ascend.true)
    (rw c.capped-count.ensures at (range_all (λ j. formed_limit (workflow c.args.w.now) (limit_at c.args.w.now j)) 0 _ _ _ _ c.all.ensures.ran (λ x b q k. search (rules, tests))))

pub returns-else-rows_ascend : goal.returns-else-rows_ascend
unfolding ◌and◌
returns-else-rows_ascend c = rw (← limits_parts, ← rw c.capped-count.ensures at c.rows_ascend.ensures, c.if-rows_ascend.false)
