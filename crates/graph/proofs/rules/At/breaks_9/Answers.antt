use Rattle.std.proofs.Common.{rules}
use borrow.Author.Tests.{ne_eqb}
use Rattle.laws.specs.Bool.{◌and◌, ◌or◌}
use Rattle.graph.specs.RulesLaws.{breaks_9_at}
use Rattle.graph.proofs.rules.At.breaks_9.Goals as goal

pub returns-then-routes_exhausted : goal.returns-then-routes_exhausted
unfolding ◌and◌ ◌or◌
returns-then-routes_exhausted c = rw (breaks_9_at c.args.self.now.of_node) (search rules)

pub returns-else-routes_exhausted : goal.returns-else-routes_exhausted
unfolding ◌and◌ ◌or◌
returns-else-routes_exhausted c = rw (breaks_9_at c.args.self.now.of_node) (search rules)

pub returns-else-x-eq-AWAIT_SIGNAL : goal.returns-else-x-eq-AWAIT_SIGNAL
unfolding ◌and◌
returns-else-x-eq-AWAIT_SIGNAL c = simp (breaks_9_at c.args.self.now.of_node, ← c.row-x.ensures, ne_eqb _ _ c.if-x-eq-AWAIT_SIGNAL.false)
