use lib.ListN.{length}
use Rattle.std.proofs.Common.{rules}
use Rattle.laws.specs.Arrays.{length_field}
use Rattle.host.proofs.WriteLaws.{Whole}
use Rattle.in_bytes.proofs.StructsLaws.{state_written}
use Rattle.in_bytes.proofs.structs.write_state.Goals as goal

pub returns : goal.returns
returns c =
    let whole : Whole c.args.state = record { signals = search (rules, length_field); visits = search (rules, length_field); streaks = search (rules, length_field); results = search (rules, length_field) } in
    rw (← state_written c.args.state whole (length c.args.out.now) c.record_numbers-numbers.ensures) c.kuxhoveza_write_run.ensures
