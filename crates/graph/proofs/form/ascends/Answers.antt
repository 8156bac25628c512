use Rattle.std.proofs.Common.{arith}
use borrow.Author.Tests.{tests}
use Rattle.std.proofs.lemmas.Grind.{common_steps}
use Rattle.laws.specs.Bool.{strict_and, strict_or}
use Rattle.graph.specs.Form.{ascends}
use Rattle.graph.proofs.form.ascends.Goals as goal

pub returns : goal.returns
unfolding ascends
returns c = rw (strict_or, strict_and) (grind (arith, common_steps, tests))
