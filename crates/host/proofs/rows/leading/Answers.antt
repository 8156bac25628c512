use Rattle.std.proofs.Common.{arith, rules, refl, drop, length, sym, ◌∙◌, length-drop, take_all}
use Rattle.std.specs.Prelude.{◌≡◌, ◌-◌, take, bit_or}
use Rattle.std.proofs.lemmas.Iterator.Consumers.{fold_from_yields_List}
use Rattle.std.proofs.lemmas.Iterator.{YieldsList-from_slice}
use Rattle.host.proofs.WriteRowsLaws.{empty_past}
use Rattle.host.proofs.rows.leading.Goals as goal

pub returns-then-digits-eq0 : goal.returns-then-digits-eq0
returns-then-digits-eq0 g c =
    let xs = c.args.rows.now in
    let rest = take (length xs - c.args.count) (drop c.args.count xs) in
    let joined = fold_from_yields_List _ (λ d x. bit_or d (g.T.RecordRow.joined x)) 0 c.fold-digits.result c.fold-digits.ensures.ran (YieldsList-from_slice rest c.iter.ensures.rest) (λ a x b q k. search rules) in
    let long = length-drop c.args.count xs in
    let whole : rest ≡ drop c.args.count xs = take_all (length xs - c.args.count) (drop c.args.count xs) (omega arith) in
    record { rows = c.args.count; past = empty_past g.T.RecordRow.joined g.T.RecordRow.none g.met.T.RecordRow.only_none xs c.args.count c.requires (rw whole at (sym joined ∙ c.if-digits-eq0.true)); is = refl }

pub returns : goal.returns
returns g c = record { rows = length c.args.rows.now; past = record { low = omega arith; empty = λ i a b. absurd (omega arith) }; is = sym (take_all (length c.args.rows.now) c.args.rows.now (omega arith)) }
