use lib.ListN.{length}
use Rattle.in_bytes.proofs.StructsLaws.{event_written}
use Rattle.in_bytes.proofs.structs.write_event.Goals as goal

pub returns : goal.returns
returns c = rw (← event_written c.args.event (length c.args.out.now) c.event_numbers-numbers.ensures) c.kuxhoveza_write_event.ensures
