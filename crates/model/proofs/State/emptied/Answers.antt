use Rattle.model.specs.Store.{emptied}
use Rattle.model.proofs.State.emptied.Goals as goal

pub returns : goal.returns
unfolding emptied
returns c = simp (← c.none-self.ensures)
