use Rattle.laws.specs.Bool.{when◌then◌else◌}
use borrow.Author.Tests.{eq-eqb, ne_eqb, tests}
use Rattle.std.proofs.Common.{rules}
use Rattle.snapshot.proofs.Tests.{allowed}
use Rattle.snapshot.proofs.Run.streak_fits.Goals as goal

pub returns-then-x-eq0 : goal.returns-then-x-eq0
unfolding when◌then◌else◌
returns-then-x-eq0 c = simp (eq-eqb _ _ c.if-x-eq0.true)

pub returns : goal.returns
unfolding when◌then◌else◌
returns c = simp (ne_eqb _ _ c.if-x-eq0.false, ← c.find_limit.ensures) (allowed c.find_limit.result c.args.x.count c.is_some_and.ensures (λ limit q. search (rules, tests)))
