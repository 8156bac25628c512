use Rattle.laws.specs.Arrays.{length_field}
use Rattle.laws.specs.Rows.{rows, rows_all}
use Rattle.model.specs.Answers.{order_numbers}
use Rattle.std.proofs.Common.{rules}
use Rattle.model.proofs.answer.Order.numbers.Goals as goal

pub returns-in-Schedule : goal.returns-in-Schedule
unfolding order_numbers rows
returns-in-Schedule c =
    simp (c.in-Schedule.is, ← c.params_numbers-params.ensures)
    (let e = rows_all 0 c.params_numbers-params.result 2 (search (rules, length_field)) in cc)

pub returns-in-Retry : goal.returns-in-Retry
unfolding order_numbers
returns-in-Retry c = rw c.in-Retry.is cc
