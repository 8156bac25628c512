use mathlib.Core.Path.{◌∙◌}
use native.Mathlib.Omega.{arith}
use Rattle.std.proofs.Common.{rules}
use Rattle.laws.specs.Arrays.{length_field}
use Rattle.laws.specs.Splice.{splice_all}
use Rattle.host.specs.Layout.{record_length}
use Rattle.host.proofs.Lists.{getD_replicate_same}
use Rattle.host.proofs.WriteLaws.{Whole, length_record}
use Rattle.host.proofs.write.record_numbers.Goals as goal

pub write_record-requires : goal.write_record-requires
write_record-requires c = (search rules, omega arith, λ place _ _. getD_replicate_same 0 record_length place)

pub returns : goal.returns
returns c =
    let whole : Whole c.args.s = record { signals = search (rules, length_field); visits = search (rules, length_field); streaks = search (rules, length_field); results = search (rules, length_field) } in
    c.write_record.ensures ∙ splice_all _ _ (length_record c.args.s whole)
