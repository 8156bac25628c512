use Rattle.std.proofs.Common.{rules, ◌+◌, arith}
use Rattle.std.proofs.lemmas.Iterator.{YieldsList-from_slice}
use Rattle.laws.specs.Chains.{fold_zeros, part_places}
use Rattle.graph.proofs.form.column_blank.Goals as goal

pub returns : goal.returns
returns c =
    rw (← c.capped.ensures, ← part_places c.args.w.now (c.args.column + c.capped.result) (c.args.column + c.args.room) (omega arith) (omega arith))
    (fold_zeros (λ d e x q k. (search rules, search rules)) c.fold.ensures.ran (YieldsList-from_slice _ c.iter.ensures.rest))
