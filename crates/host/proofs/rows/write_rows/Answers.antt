use Rattle.std.proofs.Common.{arith, length, ◌*◌, ◌∙◌, ap}
use Rattle.laws.specs.Splice.{splice, write_start, write_next}
use Rattle.host.proofs.WriteRowsLaws.{row_room, put_spliced}
use Rattle.host.proofs.rows.write_rows.Goals as goal

pub loop-i-init : goal.loop-i-init
loop-i-init g c = write_start g.met.T.Row.wide

pub loop-i-preserved : goal.loop-i-preserved
loop-i-preserved g c =
    let row = c.index-rows-i.result in
    let place = g.T.Row.WIDTH * c.loop-i.i in
    let room = row_room g.T.Row.WIDTH c.loop-i.i (length c.args.rows.now) c.loop-i-test.true in
    let inv = c.loop-i.invariant in
    let long = inv.long in
    let written = put_spliced c.loop-i.out c.write.new.out (g.T.Row.numbers row) place (omega arith) (rw c.WIDTH.ensures at c.write.ensures) in
    write_next inv row {k = place} (omega arith) (omega arith) (omega arith)
    (rw c.WIDTH.ensures written ∙ ap (λ (x : g.row.T.Denot). splice c.loop-i.out place (g.T.Row.numbers x)) c.index-rows-i.is)
