use Rattle.graph.specs.RulesLaws.{Marking}
use Rattle.graph.proofs.rules.Outcomes.marks.Given as goal

-- the marks so far with the outcomes from here on are the whole answer
abbrev pub invariant-loop-outcome : goal.invariant-loop-outcome
invariant-loop-outcome l = Marking l.self.numbers.now l.m l.outcome-index
