use Rattle.std.proofs.Common.{rules}
use Rattle.host.proofs.WriteRowsLaws.{zeroed}
use Rattle.host.proofs.rows.OptionRow.write.Goals as goal

pub returns-in-None : goal.returns-in-None
returns-in-None g c = rw (c.in-None.is, c.WIDTH.ensures) (zeroed g.T.Row.WIDTH c.args.out.now _ c.requires (rw c.WIDTH.ensures at (c.fill.ensures.after (λ y k. search rules))))
