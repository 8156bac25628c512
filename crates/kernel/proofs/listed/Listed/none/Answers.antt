use Rattle.std.proofs.Common.{refl}
use Rattle.laws.specs.Listing.{padded}
use Rattle.kernel.specs.Listed.{listed}
use Rattle.kernel.proofs.listed.Listed.none.Goals as goal

pub returns : goal.returns
unfolding listed padded
returns g c = refl
