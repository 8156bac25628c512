use Rattle.std.proofs.Common.{sym, ◌∙◌, arith}
use Rattle.host.proofs.ByCountLaws.{blank_zeros}
use Rattle.host.proofs.read.signal_rows.Goals as goal

pub returns-then-blank : goal.returns-then-blank
returns-then-blank c = record { low = omega arith; zeros = blank_zeros c.args.xs.now _ _ (sym c.blank.ensures ∙ c.if-blank.true) }
