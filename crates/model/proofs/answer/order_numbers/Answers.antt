use Rattle.model.specs.Answers.{order_numbers}
use Rattle.model.proofs.answer.order_numbers.Goals as goal

pub returns-in-None : goal.returns-in-None
unfolding order_numbers
returns-in-None c = rw c.in-None.is

pub returns-in-Some : goal.returns-in-Some
returns-in-Some c = rw c.in-Some.is c.numbers.ensures
