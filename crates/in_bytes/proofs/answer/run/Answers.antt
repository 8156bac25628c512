use Rattle.codec.specs.Numbers.{part}
use Rattle.in_bytes.proofs.answer.run.Goals as goal

pub returns : goal.returns
unfolding part
returns c = (rw c.unwrap.ensures at c.try_from.ensures.1).same
