use Rattle.std.proofs.Common.{rules, ◌∙◌}
use Rattle.laws.specs.Arrays.{length_field}
use Rattle.snapshot.specs.EventCheck.{event_fits}
use Rattle.snapshot.proofs.Tests.{answers_known, strict}
use Rattle.snapshot.proofs.event_fits.Goals as goal

pub returns : goal.returns
unfolding event_fits
returns c =
    let known = c.answers_fit.ensures ∙ answers_known c.args.m (search (rules, length_field)) in
    simp (← known) (simp (c.in_range.ensures, c.in_range-2.ensures, c.in_range-3.ensures, strict))
