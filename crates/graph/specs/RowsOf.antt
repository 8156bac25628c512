-- The rows with one key as the code has them.
use Rattle.std.specs.Prelude.{◌≡◌, List, ℕ, ◌+◌, ◌≤◌}
use Rattle.std.proofs.Common.{ap₂}
use Rattle.workflow.specs.Layout.{numbers}
use Rattle.graph.specs.SearchLaws.{rows_below}
use Rattle.graph.specs.declared.search.Rows.{Rows}

-- The rows with the key in a column that rises.
abbrev pub rows_of : List ℕ → (column count key : ℕ) → Rows
rows_of w c k n = record { from = rows_below w c k n; to = rows_below w c k (n + 1) }

pub rows_are : (w : List ℕ) (c k n : ℕ) {a b : ℕ} → a ≡ rows_below w c k n → b ≡ rows_below w c k (n + 1) → ◌≡◌ {A = Rows} (record { from = a; to = b }) (rows_of w c k n)
rows_are w c k n e f = ap₂ (λ a b. record { from = a; to = b }) e f

-- The rows lie within a column.
pub record Within (column : ℕ) (rows : Rows) : Type 0 where
  pub ordered : rows.from ≤ rows.to
  pub fits : column + rows.to ≤ numbers
