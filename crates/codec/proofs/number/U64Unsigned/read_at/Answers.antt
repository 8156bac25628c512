use mathlib.Core.Path.{ap, sym, ◌∙◌}
use Rattle.codec.specs.Stored.{number_of}
use Rattle.codec.proofs.NumbersLaws.{below_any}
use Rattle.codec.proofs.number.U64Unsigned.read_at.Goals as goal

pub returns : goal.returns
returns c = c.number_at.ensures ∙ ap number_of (sym (below_any _ _))
