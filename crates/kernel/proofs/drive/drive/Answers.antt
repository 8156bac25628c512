use mathlib.Core.Path.{◌∙◌, ap}
use Rattle.kernel.specs.DriveLaws.{at_first, begins, end_is}
use Rattle.kernel.proofs.drive.drive.Goals as goal

pub run-requires : goal.run-requires
run-requires c =
    let a = c.args in
    begins _ a.limits _ a.mappings _ a.s c.requires (ap at_first c.apply-applied.ensures)

pub returns : goal.returns
returns c = c.run.ensures ∙ end_is _ _ _ _ _ _ (ap at_first c.apply-applied.ensures)
