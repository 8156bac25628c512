use Rattle.codec.specs.Numbers.{part}
use Rattle.in_bytes.proofs.RunLaws.{neat_parts}
use Rattle.in_bytes.proofs.run.run_tidy.Goals as goal

pub returns : goal.returns
unfolding part
returns c = neat_parts c.args.r.now c.told-r c.stored_end.ensures c.fits-r c.numbers_zero.ensures c.slots_tidy.ensures c.slots_tidy-2.ensures
