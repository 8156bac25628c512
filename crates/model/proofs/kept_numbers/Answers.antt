use Rattle.model.specs.Answers.{kept_numbers}
use Rattle.model.proofs.kept_numbers.Goals as goal

pub returns-in-None : goal.returns-in-None
unfolding kept_numbers
returns-in-None c = simp c.in-None.is

pub returns-in-Some : goal.returns-in-Some
unfolding kept_numbers
returns-in-Some c = simp (c.in-Some.is, c.from.ensures, c.from-in-Some.ensures, c.from-in-Some-2.ensures)
