use mathlib.Core.Path.{◌≡◌, sym, ◌∙◌}
use lib.ListN.{length}
use Rattle.std.proofs.Common.{rules}
use Rattle.laws.specs.Arrays.{length_field}
use Rattle.model.specs.StoreLaws.{crowded, numbered, unnumbered}
use Rattle.model.proofs.State.store_fits.Goals as goal

pub returns-then-self-gt-STORE : goal.returns-then-self-gt-STORE
returns-then-self-gt-STORE c = crowded _ _ c.if-self-gt-STORE.true

pub returns-then-are_in_sequence : goal.returns-then-are_in_sequence
returns-then-are_in_sequence c =
    let long : length c.args.self.now.signals ≡ 64 = search (rules, length_field) in
    numbered c.args.self.now.signals c.args.self.now.signal_count c.if-self-gt-STORE.false long (sym c.are_in_sequence.ensures ∙ c.if-are_in_sequence.true) (rw (← long) at c.are_zero.ensures)

pub returns-else-are_in_sequence : goal.returns-else-are_in_sequence
returns-else-are_in_sequence c = c.if-are_in_sequence.false ∙ unnumbered c.args.self.now.signals c.args.self.now.signal_count (sym c.are_in_sequence.ensures ∙ c.if-are_in_sequence.false)
