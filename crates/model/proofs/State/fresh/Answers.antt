use Rattle.model.proofs.State.fresh.Goals as goal

pub returns : goal.returns
returns c = simp (← c.none.ensures, ← c.none-2.ensures, ← c.none-3.ensures, ← c.none-4.ensures, ← c.none-5.ensures, ← c.none-6.ensures)
