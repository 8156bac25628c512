use Rattle.std.proofs.Common.{rules}
use Rattle.std.proofs.lemmas.Bool.{false≢true}
use mathlib.Core.Path.{◌≡◌, ◌∙◌, sym}
use Rattle.model.specs.declared.moves.Next.TheVariants.{Consume}
use Rattle.kernel.specs.DriveLaws.{is_over, over_rests, over_none}
use Rattle.kernel.proofs.drive.is_over.Goals as goal
use Rattle.kernel.proofs.drive.is_over.Goals.{in-Rest, in_default}

pub returns-then-matches : goal.returns-then-matches
returns-then-matches c = elim c.match-matches.branch [ in-Rest w ↦ w.matches-is ∙ over_rests c.args.next c.args.stored w.in-Rest.is | in_default w ↦ absurd (false≢true (sym w.matches-is ∙ c.if-matches.true)) ]

pub returns-then-eq : goal.returns-then-eq
unfolding is_over
returns-then-eq c = let e : c.args.next ≡ Consume = search rules in simp e

pub returns-else-eq : goal.returns-else-eq
returns-else-eq c = elim c.match-matches.branch [ in-Rest w ↦ absurd (false≢true (sym c.if-matches.false ∙ w.matches-is)) | in_default w ↦ c.if-eq.false ∙ over_none c.args.next c.args.stored w.in_default.not-Rest w.in_default.not-Wants w.in_default.not-Refuse (search rules) ]
