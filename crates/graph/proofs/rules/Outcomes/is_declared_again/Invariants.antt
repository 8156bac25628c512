use Rattle.graph.specs.RulesLaws.{again, reserved_marks, Again}
use Rattle.graph.proofs.rules.Outcomes.is_declared_again.Given as goal

-- with the marks so far, what is left to find from here on is the whole answer
abbrev pub invariant-loop-outcome : goal.invariant-loop-outcome
invariant-loop-outcome l = Again l.self.numbers.now (again (reserved_marks l.two) l.self.numbers.now) l.m l.outcome-index
