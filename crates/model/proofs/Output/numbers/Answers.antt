use Rattle.model.specs.Answers.{output_numbers}
use Rattle.model.proofs.Output.numbers.Goals as goal

pub returns-in-Nothing : goal.returns-in-Nothing
unfolding output_numbers
returns-in-Nothing c = simp c.in-Nothing.is

pub returns-in-Handle : goal.returns-in-Handle
unfolding output_numbers
returns-in-Handle c = simp (c.in-Handle.is, c.from.ensures)

pub returns-in-Error : goal.returns-in-Error
unfolding output_numbers
returns-in-Error c = simp (c.in-Error.is, c.from-in-Error.ensures, c.from-in-Error-2.ensures, c.from-in-Error-3.ensures)
