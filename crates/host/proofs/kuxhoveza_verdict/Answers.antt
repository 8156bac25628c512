use mathlib.Core.Path.{sym}
use lib.ListN.{length}
use Rattle.host.proofs.HostLaws.{has_both, judged_verdict}
use Rattle.host.proofs.kuxhoveza_verdict.Goals as goal

pub returns : goal.returns
returns c =
    let a = c.args in
    let e = has_both a.sheet_len (length a.out.now) c.if-sheet_len-ne-NUMBERS.false c.if-out-lt-VERDICT.false in
    record { value = e; out_after = judged_verdict a.sheet.now a.sheet_len _ a.out.now c.validate-verdict.ensures c.verdict_numbers.ensures c.copy_from_slice.ensures.after c.if-out-lt-VERDICT.false (sym e) }
