use Rattle.std.proofs.Common.{arith, rules}
use mathlib.Core.Path.{◌≡◌}
use lib.ListN.{length}
use Rattle.laws.specs.Arrays.{length_field}
use Rattle.host.specs.Layout.{notes, endings, answer_length, answer_noted, answer_notes, answer_endings}
use Rattle.host.proofs.WriteRowsLaws.{put_spliced, zeroed, counted_written, front_written}
use Rattle.host.proofs.write.write_front.Goals as goal

pub returns : goal.returns
returns c =
    let d = c.args.d.now in
    let noted : length d.notes.rows ≡ notes = search (rules, length_field) depth 7 in
    let ended : length d.endings.rows ≡ endings = search (rules, length_field) depth 7 in
    let h = c.requires in
    let cleared = zeroed answer_length _ _ h.0 (c.fill.ensures.after (λ y k. search rules)) in
    let counts = put_spliced _ _ _ answer_noted (omega arith) (rw (c.from.ensures, c.from-2.ensures) at c.write-2.ensures) in
    let first = counted_written c.capped-noted.ensures h.1.notes (put_spliced _ _ _ answer_notes (omega arith) c.write_rows.ensures) in
    let second = counted_written c.capped-ended.ensures h.1.endings (put_spliced _ _ _ answer_endings (omega arith) c.write_rows-2.ensures) in
    (front_written d h.0 noted ended cleared c.numbers.ensures c.write.ensures counts first second).so_far
