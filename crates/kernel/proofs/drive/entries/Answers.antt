use mathlib.Core.Path.{◌∙◌}
use Rattle.kernel.specs.DriveLaws.{entries, enters_none}
use Rattle.kernel.proofs.drive.entries.Goals as goal
use Rattle.kernel.proofs.drive.entries.Goals.{in-Enter, in_default}

pub returns : goal.returns
unfolding entries
returns c = c.from.ensures ∙ elim c.match-matches.branch [ in-Enter w ↦ simp (w.matches-is, w.in-Enter.is) | in_default w ↦ rw w.matches-is (enters_none c.args.next w.in_default.not-Enter) ]
