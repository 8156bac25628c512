use Rattle.std.proofs.Common.{rules}
use borrow.Author.Tests.{tests}
use Rattle.laws.specs.Bool.{◌and◌}
use Rattle.snapshot.proofs.in_range.Goals as goal

pub returns : goal.returns
unfolding ◌and◌
returns c = let h = c.contains.ensures in search (rules, tests)
