use borrow.Author.Tests.{eq-eqb, ne_eqb}
use Rattle.laws.specs.Bool.{when◌then◌else◌}
use Rattle.graph.proofs.rules.action_verdict.Goals as goal

pub returns-then-x-eq-RECONCILABLE : goal.returns-then-x-eq-RECONCILABLE
unfolding when◌then◌else◌
returns-then-x-eq-RECONCILABLE c = simp (← c.policy_of-x.ensures, eq-eqb _ _ c.if-x-eq-RECONCILABLE.true)

pub returns-then-breaks_7 : goal.returns-then-breaks_7
unfolding when◌then◌else◌
returns-then-breaks_7 c = simp (← c.policy_of-x.ensures, ne_eqb _ _ c.if-x-eq-RECONCILABLE.false, ← c.breaks_7.ensures, c.if-breaks_7.true)

pub returns : goal.returns
unfolding when◌then◌else◌
returns c = simp (← c.policy_of-x.ensures, ne_eqb _ _ c.if-x-eq-RECONCILABLE.false, ← c.breaks_7.ensures, c.if-breaks_7.false)
