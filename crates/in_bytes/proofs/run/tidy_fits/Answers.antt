use Rattle.in_bytes.proofs.RunUsed.{signals_past}
use Rattle.in_bytes.proofs.run.tidy_fits.Goals as goal

pub record_fits-requires : goal.record_fits-requires
record_fits-requires c = record { signals = signals_past c.args.r.now c.told-r c.requires; nodes = c.used_nodes-nodes.ensures }
