use mathlib.Core.Path.{ap}
use mathlib.Core.List.{List, ◌∷◌}
use Prim.Native.Nat.{ℕ}
use Rattle.laws.specs.Rows.{rows, rows_all}
use Rattle.laws.specs.Arrays.{length_field}
use Rattle.model.specs.Answers.{answer_numbers}
use Rattle.std.proofs.Common.{rules}
use Rattle.model.proofs.answer.Answer.numbers.Goals as goal

pub returns-in-Next : goal.returns-in-Next
unfolding answer_numbers rows
returns-in-Next c =
    simp (c.in-Next.is, c.from.ensures, ← c.order_numbers-o.ensures)
    (ap (λ (r : List ℕ). 1 ∷ c.in-Next.microsteps ∷ r) (rows_all 0 c.order_numbers-o.result 9 (search (rules, length_field))))

pub returns-in-Wants : goal.returns-in-Wants
unfolding answer_numbers
returns-in-Wants c = rw (c.in-Wants.is, c.from-in-Wants.ensures, c.from-in-Wants-2.ensures, c.from-in-Wants-3.ensures, c.number.ensures)

pub returns-in-Refused : goal.returns-in-Refused
unfolding answer_numbers
returns-in-Refused c = rw (c.in-Refused.is, c.from-in-Refused.ensures, c.from-in-Refused-2.ensures, c.number-in-Refused.ensures)
