use Rattle.laws.specs.Rows.{rows}
use Rattle.host.specs.Read.{event_call}
use Rattle.host.proofs.ReadLaws.{tested, event_tested}
use Rattle.host.proofs.read.event_fits.Goals as goal

pub returns : goal.returns
unfolding tested event_call rows
returns c = event_tested c.args.e.now c.told-e
