use Rattle.std.proofs.Common.{rules}
use borrow.Author.Tests.{tests}
use Rattle.laws.specs.Chains.{range_all}
use Rattle.laws.specs.Bool.{◌and◌}
use Rattle.workflow.specs.View.{workflow, declared_at}
use Rattle.graph.specs.Form.{formed_declared}
use Rattle.graph.specs.FormLaws.{declared_parts}
use Rattle.graph.proofs.form.declared_formed.Goals as goal

pub returns-then-rows_rise : goal.returns-then-rows_rise
unfolding ◌and◌
returns-then-rows_rise c =
    rw (← declared_parts, ← rw c.capped-count.ensures at c.rows_rise.ensures, c.if-rows_rise.true)
    (rw c.capped-count.ensures at (range_all (λ j. formed_declared (workflow c.args.w.now) (declared_at c.args.w.now j)) 0 _ _ _ _ c.all.ensures.ran (λ x b q k. search (rules, tests))))

pub returns-else-rows_rise : goal.returns-else-rows_rise
unfolding ◌and◌
returns-else-rows_rise c = rw (← declared_parts, ← rw c.capped-count.ensures at c.rows_rise.ensures, c.if-rows_rise.false)
