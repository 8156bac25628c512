use Rattle.std.specs.Prelude.{◌&&◌}
use Rattle.std.proofs.Common.{ap}
use Rattle.host.specs.Read.{all_fit, limit_fields, mapping_fields, call_fits}
use Rattle.host.proofs.ReadLaws.{event_in_call}
use Rattle.host.proofs.read.call_fits.Goals as goal

pub returns : goal.returns
unfolding call_fits
returns c =
    let ns = c.args.c.now in
    let e = rw c.event_of_call.ensures at c.event_fits.ensures in
    rw (c.limits_fit.ensures, e, c.mapping_fits.ensures, c.mapping_fits-2.ensures)
    (ap (λ b. (b && all_fit ns (mapping_fields 0)) && all_fit ns (mapping_fields 1)) (event_in_call ns c.told-c (all_fit ns limit_fields)))
