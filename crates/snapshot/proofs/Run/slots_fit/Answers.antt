use Rattle.std.proofs.Common.{rules}
use borrow.Author.Tests.{tests}
use Rattle.laws.specs.Chains.{range_all}
use Rattle.workflow.specs.View.{workflow}
use Rattle.snapshot.specs.Check.{slot_fits, slots_fit}
use Rattle.snapshot.proofs.Run.slots_fit.Goals as goal

pub returns : goal.returns
unfolding slots_fit
returns c = range_all (slot_fits (workflow c.args.self.now.sheet.now) c.args.self.now.state.now) 0 _ _ _ _ c.all.ensures.ran (λ x b q k. search (rules, tests))
