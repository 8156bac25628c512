use Rattle.std.proofs.Common.{rules}
use mathlib.Core.Path.{sym, ◌∙◌}
use Rattle.kernel.specs.Admission.{given_or, is_away, starts_few, is_stepped}
use Rattle.kernel.proofs.transition.Goals as goal

pub returns-in-Err : goal.returns-in-Err
returns-in-Err c = rw c.refusal.ensures (is_away _ c.args.given c.args.c _ _ (sym c.in-Err.is ∙ c.admit.ensures))

pub drive-requires : goal.drive-requires
drive-requires c =
    let a = c.args in
    starts_few _ a.given a.c _ (given_or a.given a.c c.unwrap_or_else-s.result c.unwrap_or_else-s.ensures (λ q. search rules)) c.in_default.ensures

pub returns : goal.returns
returns c =
    let a = c.args in
    c.drive.ensures ∙ is_stepped _ a.given a.c _ (given_or a.given a.c c.unwrap_or_else-s.result c.unwrap_or_else-s.ensures (λ q. search rules)) c.in_default.ensures
