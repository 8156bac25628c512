use mathlib.Core.Path.{◌≡◌, refl, sym, ◌∙◌}
use lib.ListN.{length}
use Rattle.laws.specs.Arrays.{length_field}
use Rattle.host.specs.Layout.{notes, endings, answer_record, record_length}
use Rattle.host.proofs.WriteLaws.{Whole}
use Rattle.host.proofs.WriteRowsLaws.{put_spliced, zeros_behind, refusal_written, record_written, wrote_left}
use Rattle.host.proofs.AnswerBack.{front_wrote, decision_long}
use Rattle.std.proofs.Common.{arith, rules}
use Rattle.host.proofs.write.write_decision.Goals as goal

pub returns-then-is_refused : goal.returns-then-is_refused
returns-then-is_refused c =
    let d = c.args.d in
    let noted : length d.notes.rows ≡ notes = search (rules, length_field) in
    let ended : length d.endings.rows ≡ endings = search (rules, length_field) in
    let whole : Whole d.state = record { signals = search (rules, length_field); visits = search (rules, length_field); streaks = search (rules, length_field); results = search (rules, length_field) } in
    let w = front_wrote d noted ended c.requires.0 c.write_front.ensures in
    record { out_after = refusal_written d w (sym c.is_refused.ensures ∙ c.if-is_refused.true); d_len = decision_long d noted ended whole }

pub write_record-requires : goal.write_record-requires
write_record-requires c =
    let d = c.args.d in
    let noted : length d.notes.rows ≡ notes = search (rules, length_field) in
    let ended : length d.endings.rows ≡ endings = search (rules, length_field) in
    (search rules, c.requires.1, zeros_behind _ answer_record record_length (omega arith) (wrote_left (front_wrote d noted ended c.requires.0 c.write_front.ensures) _ refl))

pub returns : goal.returns
returns c =
    let d = c.args.d in
    let noted : length d.notes.rows ≡ notes = search (rules, length_field) in
    let ended : length d.endings.rows ≡ endings = search (rules, length_field) in
    let whole : Whole d.state = record { signals = search (rules, length_field); visits = search (rules, length_field); streaks = search (rules, length_field); results = search (rules, length_field) } in
    let w = front_wrote d noted ended c.requires.0 c.write_front.ensures in
    record { out_after = record_written d w (sym c.is_refused.ensures ∙ c.if-is_refused.false) whole (put_spliced _ _ _ answer_record (omega arith) c.write_record.ensures); d_len = decision_long d noted ended whole }
