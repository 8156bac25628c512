use Rattle.model.specs.Answers.{params_numbers}
use Rattle.model.proofs.answer.params_numbers.Goals as goal

pub returns-in-None : goal.returns-in-None
unfolding params_numbers
returns-in-None c = simp c.in-None.is

pub returns-in-Some : goal.returns-in-Some
unfolding params_numbers
returns-in-Some c = simp (c.in-Some.is, c.from.ensures)
