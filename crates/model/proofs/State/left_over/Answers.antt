use Rattle.std.proofs.Common.{◌≡◌, rules, get_or, take}
use native.Mathlib.Omega.{arith}
use Rattle.std.proofs.lemmas.List.{get_or-take}
use Rattle.laws.specs.Arrays.{length_field}
use Rattle.model.specs.Record.{no_signal}
use Rattle.model.specs.StoreLaws.{leaving_none, leaving_more, leaving_all}
use Rattle.model.proofs.State.left_over.Goals as goal

pub loop-i-init : goal.loop-i-init
loop-i-init c = leaving_none

pub offset_bounds-endings-i : goal.offset_bounds-endings-i
offset_bounds-endings-i c = omega (arith, c.capped-rows.ensures, c.loop-i-test.true)

pub bounds-endings-i : goal.bounds-endings-i
bounds-endings-i c = omega (arith, c.capped-rows.ensures, c.loop-i-test.true)

pub loop-i-preserved : goal.loop-i-preserved
loop-i-preserved c =
    let e : get_or (take c.capped-rows.result c.args.self.now.signals) c.loop-i.i no_signal ≡ get_or c.args.self.now.signals c.loop-i.i no_signal =
    get_or-take _ c.args.self.now.signals c.loop-i.i no_signal (omega (arith, c.loop-i-test.true)) in
    rw e (leaving_more c.loop-i.invariant (search (rules, length_field)) (omega (arith, c.capped-rows.ensures, c.loop-i-test.true)))

pub returns : goal.returns
returns c = leaving_all c.loop-i.invariant (search (rules, length_field)) (omega (arith, c.capped-rows.ensures, c.loop-i-test.false))
