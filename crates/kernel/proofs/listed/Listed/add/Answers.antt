use Rattle.std.proofs.Common.{rules, ◌≡◌, sym, ◌∙◌}
use lib.ListN.{length}
use Rattle.laws.specs.Arrays.{length_field}
use Rattle.kernel.specs.ListedLaws.{added_none, added_some, said_room}
use Rattle.kernel.proofs.listed.Listed.add.Goals as goal

pub listed : goal.listed
listed g c = let long : length c.args.self.now.rows ≡ 65 = search (rules, length_field) in rw long (said_room c.args.said (sym c.is_some.ensures ∙ c.if-is_some.true) c.requires)

pub bounds-self-self : goal.bounds-self-self
bounds-self-self g c = said_room c.args.said (sym c.is_some.ensures ∙ c.if-is_some.true) c.requires

pub returns-then-is_some : goal.returns-then-is_some
returns-then-is_some g c = λ xs is. added_some _ xs is c.args.said (sym c.is_some.ensures ∙ c.if-is_some.true) c.requires

pub returns-else-is_some : goal.returns-else-is_some
returns-else-is_some g c = λ xs is. added_none _ xs is c.args.said (sym c.is_some.ensures ∙ c.if-is_some.false)
