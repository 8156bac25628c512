use Rattle.graph.specs.Verdict.{rule_at}
use Rattle.graph.proofs.rule_at.Goals as goal

pub returns-in-Some : goal.returns-in-Some
unfolding rule_at
returns-in-Some c = simp c.in-Some.is

pub returns-in-None : goal.returns-in-None
unfolding rule_at
returns-in-None c = simp c.in-None.is
