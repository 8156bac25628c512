use mathlib.Core.Path.{◌∙◌}
use Rattle.snapshot.proofs.Tests.{keeps, alike}
use Rattle.snapshot.proofs.error_fits.Goals as goal

pub returns : goal.returns
returns c = alike _ _ ∙ rw (c.is_some.ensures, keeps c.args.error)
