use Rattle.model.specs.Answers.{ending_numbers}
use Rattle.model.proofs.answer.Ending.numbers.Goals as goal

pub returns : goal.returns
unfolding ending_numbers
returns c = rw (c.from.ensures, c.number.ensures)
