use mathlib.Core.Path.{◌≡◌}
use lib.ListN.{length}
use Rattle.std.proofs.Common.{rules}
use Rattle.laws.specs.Arrays.{length_field}
use Rattle.model.specs.StoreLaws.{first_none, first_some}
use Rattle.model.proofs.State.remove_first.Goals as goal

pub returns-in_err-place : goal.returns-in_err-place
returns-in_err-place c =
    let long : length c.args.self.now.signals ≡ 64 = search (rules, length_field) in
    let e = first_none c.args.self.now c.args.name long c.capped-rows.ensures c.place_of.ensures c.in_err-place.was c.from_residual.ensures in
    record { result_value = e.0; after = e.1 }

pub returns : goal.returns
returns c =
    let long : length c.args.self.now.signals ≡ 64 = search (rules, length_field) in
    let e = first_some c.args.self.now c.args.name long c.capped-rows.ensures c.place_of.ensures c.in_ok-place.was c.none.ensures c.copy_within.ensures.after in
    record { result_value = e.0; after = e.1 }
