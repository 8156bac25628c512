use Rattle.std.proofs.Common.{rules, ◌∙◌}
use borrow.Author.Tests.{tests}
use Rattle.laws.specs.Chains.{range_all}
use Rattle.workflow.specs.View.{action_at}
use Rattle.graph.specs.Form.{formed_action}
use Rattle.graph.specs.FormLaws.{all_actions}
use Rattle.graph.proofs.form.actions_formed.Goals as goal

pub returns : goal.returns
returns c = range_all (λ j. formed_action (action_at c.args.w.now j)) 0 _ _ _ _ c.all.ensures.ran (λ x b q k. search (rules, tests)) ∙ rw c.capped-count.ensures (all_actions _)
