use Rattle.std.proofs.Common.{rules}
use Rattle.std.proofs.lemmas.Iterator.{YieldsList-from_slice}
use Rattle.laws.specs.Chains.{fold_zeros}
use Rattle.host.proofs.read.blank.Goals as goal

pub returns : goal.returns
returns c = fold_zeros (λ d e x q k. (search rules, search rules)) c.fold.ensures.ran (YieldsList-from_slice c.args.xs.now cc)
