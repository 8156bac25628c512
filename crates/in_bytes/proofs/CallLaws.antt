-- A call as bytes, both ways.
use Rattle.std.specs.Prelude.{◌≡◌, refl, [], ◌∷◌, ℕ, ◌+◌, ◌*◌, ◌^◌, ◌≤◌, eqb, get_or}
use Rattle.std.proofs.Common.{arith}
use Rattle.laws.specs.All.{All}
use Rattle.laws.specs.Bool.{either}
use Rattle.host.specs.Layout as layout
use Rattle.codec.specs.Stages.{Shape, numbers, column, widths}
use Rattle.codec.specs.Exact.{Exact}
use Rattle.codec.proofs.NumbersLaws.{numbers_exact}
use Rattle.codec.proofs.ColumnsLaws.{column_exact, StageExact, staged_width, staged_exact}
use Rattle.in_bytes.specs.Event.{event}
use Rattle.in_bytes.proofs.RunLaws.{numbers_stage, column_stage, run_width, run_exact}
use Rattle.in_bytes.proofs.SheetLaws.{sheet_exact, sheet_width}
use Rattle.in_bytes.specs.Call.{mark, given_shape, given, event_numbers, answered, answers, rest, limits, the_sheet, the_rest, call, call_on}

-- THE STAGES, each exact.
one_stage : (top : ℕ) → top ≤ 2 ^ 64 → StageExact (record { room = 1; shape = λ _. numbers top 1 })
unfolding numbers
one_stage top low = record { exact = λ _. numbers_exact top 1 low; wide = λ _. refl }

-- with a run or with none
pub given_exact : (mark : ℕ) → Exact (given_shape mark)
given_exact mark = either Exact (eqb mark 1) (λ _. run_exact) (λ _. column_exact (2 ^ 64) layout.record_length 0 (omega arith))

none_width : (column (2 ^ 64) layout.record_length 0).width ≡ layout.record_length
unfolding column
none_width = refl

pub given_width : (mark : ℕ) → (given_shape mark).width ≡ layout.record_length
given_width mark = either (λ (shape : Shape). shape.width ≡ layout.record_length) (eqb mark 1) (λ _. run_width) (λ _. none_width)

given_stage : StageExact given
given_stage = record { exact = λ seen. given_exact (get_or seen 0 0); wide = λ seen. given_width (get_or seen 0 0) }

rest_stages : All StageExact (mark ∷ given ∷ event_numbers ∷ answered ∷ answers ∷ [])
rest_stages = (
  one_stage 2 (omega arith),
  (
    given_stage,
    (
      numbers_stage layout.event_length,
      (
        one_stage 3 (omega arith),
        (column_stage (layout.mapping_width * layout.mappings) (λ seen. layout.mapping_width * get_or seen (1 + layout.record_length + layout.event_length) 0), tt),
      ),
    ),
  ),
)

-- BOTH WAYS.
pub rest_exact : Exact rest
unfolding rest
rest_exact = staged_exact (mark ∷ given ∷ event_numbers ∷ answered ∷ answers ∷ []) [] rest_stages

pub rest_width : rest.width ≡ the_rest.room
unfolding rest widths
rest_width = staged_width (mark ∷ given ∷ event_numbers ∷ answered ∷ answers ∷ []) [] rest_stages

sheet_stage : StageExact the_sheet
sheet_stage = record { exact = λ _. sheet_exact; wide = λ _. sheet_width }

rest_stage : StageExact the_rest
rest_stage = record { exact = λ _. rest_exact; wide = λ _. rest_width }

pub call_exact : Exact call
unfolding call
call_exact = staged_exact (limits ∷ the_sheet ∷ the_rest ∷ []) [] (numbers_stage layout.call_has_record, (sheet_stage, (rest_stage, tt)))

pub call_on_exact : Exact call_on
unfolding call_on
call_on_exact = staged_exact (limits ∷ the_rest ∷ []) [] (numbers_stage layout.call_has_record, (rest_stage, tt))

pub event_exact : Exact event
unfolding event
event_exact = numbers_exact (2 ^ 64) layout.event_length (omega arith)
