-- A sheet as bytes (docs/BYTES.md): its single numbers, then of each column the slots that its rows' count says.
use Rattle.std.specs.Prelude.{List, [], ◌∷◌, ℕ, ◌^◌, get_or}
use Rattle.workflow.specs.Layout as layout
use Rattle.codec.specs.declared.columns.Column.{Column}
use Rattle.codec.specs.Stages.{Shape, numbers, total, columns, Stage, staged}

-- The columns in their order: how many slots each has, and by the counts how many of them are used.
abbrev pub by_counts : (nodes routes limits actions declared : ℕ) → List Column
by_counts nodes routes limits actions declared =
    let node : Column = record { room = layout.node_room; used = nodes } in
    let route : Column = record { room = layout.route_room; used = routes } in
    let limit : Column = record { room = layout.limit_room; used = limits } in
    let action : Column = record { room = layout.action_room; used = actions } in
    let declare : Column = record { room = layout.declared_room; used = declared } in
    node ∷ node ∷ node ∷ node ∷ node ∷ node ∷ node ∷ route ∷ route ∷ route ∷ limit ∷ limit ∷ limit ∷ action ∷ action ∷ declare ∷ declare ∷ []

unfoldable pub plan : (seen : List ℕ) → List Column
plan seen = by_counts (get_or seen layout.node_count 0) (get_or seen layout.route_count 0) (get_or seen layout.limit_count 0) (get_or seen layout.action_count 0) (get_or seen layout.declared_count 0)

-- How many slots they have, whatever the counts.
abbrev pub rooms : ℕ
rooms = total (by_counts 0 0 0 0 0)

-- THE STAGES. A field that is added to sheets is a stage more, at the end.
abbrev pub single_numbers : Stage
single_numbers = record { room = layout.node_kind; shape = λ _. numbers (2 ^ 32) layout.node_kind }

abbrev pub all_columns : Stage
all_columns = record { room = rooms; shape = λ seen. columns (2 ^ 32) (plan seen) }

unfoldable pub sheet : Shape
sheet = staged (single_numbers ∷ all_columns ∷ []) []
