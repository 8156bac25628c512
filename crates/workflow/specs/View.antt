-- How the lent numbers of a sheet are read: a workflow is a record of lists of rows.
use Rattle.std.specs.Prelude.{Bool, List, [], ◌∷◌, ℕ, ◌+◌, min, get_or, ltb, eqb}
use Rattle.laws.specs.Bool.{when◌then◌else◌}
use Rattle.laws.specs.Rows.{span}
use Rattle.laws.specs.Every.{every}
use Rattle.workflow.specs.Layout as layout
use Rattle.workflow.specs.Layout.{node_room, route_room, limit_room, action_room, declared_room}
use Rattle.workflow.specs.declared.Node.{Node}
use Rattle.workflow.specs.declared.Route.{Route}
use Rattle.workflow.specs.declared.Limit.{Limit}
use Rattle.workflow.specs.declared.Action.{Action}
use Rattle.workflow.specs.declared.Declared.{Declared}

-- The number at a place, and the number of a column in a row.
abbrev pub at : (sheet : List ℕ) → (place : ℕ) → ℕ
at sheet place = get_or sheet place 0

abbrev pub cell : (sheet : List ℕ) → (column row : ℕ) → ℕ
cell sheet column row = at sheet (column + row)

-- Rows of zeros.
abbrev pub no_node : Node
no_node = record { kind = 0; action = 0; has_params = 0; signal = 0; code = 0; detail = 0; has_limits = 0 }

abbrev pub no_route : Route
no_route = record { node = 0; outcome = 0; target = 0 }

abbrev pub no_limit : Limit
no_limit = record { node = 0; outcome = 0; limit = 0 }

abbrev pub no_action : Action
no_action = record { effect = 0; max_attempts = 0 }

abbrev pub no_declared : Declared
no_declared = record { action = 0; outcome = 0 }

-- A row, counted or not: one number of each column.
unfoldable pub node_at : (sheet : List ℕ) → (row : ℕ) → Node
node_at sheet row =
    when ltb row node_room then record {
      kind = cell sheet layout.node_kind row;
      action = cell sheet layout.node_action row;
      has_params = cell sheet layout.node_has_params row;
      signal = cell sheet layout.node_signal row;
      code = cell sheet layout.node_code row;
      detail = cell sheet layout.node_detail row;
      has_limits = cell sheet layout.node_has_limits row;
    } else no_node

unfoldable pub route_at : (sheet : List ℕ) → (row : ℕ) → Route
route_at sheet row =
    when ltb row route_room then record {
      node = cell sheet layout.route_node row;
      outcome = cell sheet layout.route_outcome row;
      target = cell sheet layout.route_target row;
    } else no_route

unfoldable pub limit_at : (sheet : List ℕ) → (row : ℕ) → Limit
limit_at sheet row =
    when ltb row limit_room then record {
      node = cell sheet layout.limit_node row;
      outcome = cell sheet layout.limit_outcome row;
      limit = cell sheet layout.limit_limit row;
    } else no_limit

unfoldable pub action_at : (sheet : List ℕ) → (row : ℕ) → Action
action_at sheet row =
    when ltb row action_room then record {
      effect = cell sheet layout.action_effect row;
      max_attempts = cell sheet layout.action_max_attempts row;
    } else no_action

unfoldable pub declared_at : (sheet : List ℕ) → (row : ℕ) → Declared
declared_at sheet row =
    when ltb row declared_room then record {
      action = cell sheet layout.declared_action row;
      outcome = cell sheet layout.declared_outcome row;
    } else no_declared

-- The rows of a sort: how many are counted, as far as there is room.
abbrev pub node_rows : (sheet : List ℕ) → ℕ
node_rows sheet = min node_room (at sheet layout.node_count)

abbrev pub route_rows : (sheet : List ℕ) → ℕ
route_rows sheet = min route_room (at sheet layout.route_count)

abbrev pub limit_rows : (sheet : List ℕ) → ℕ
limit_rows sheet = min limit_room (at sheet layout.limit_count)

abbrev pub action_rows : (sheet : List ℕ) → ℕ
action_rows sheet = min action_room (at sheet layout.action_count)

abbrev pub declared_rows : (sheet : List ℕ) → ℕ
declared_rows sheet = min declared_room (at sheet layout.declared_count)

-- The numbers of a column at or past its count are zero.
abbrev pub column_blank : (sheet : List ℕ) → (column room count : ℕ) → Bool
column_blank sheet column room count = every (λ number. eqb number 0) (span (at sheet) (column + min room count) (column + room))

-- A table: its columns, the room in each, and the place of its count.
pub record Table : Type 0 where
  pub columns : List ℕ
  pub room : ℕ
  pub count : ℕ

abbrev pub node_table : Table
node_table =
    record {
      columns =
          layout.node_kind ∷ layout.node_action ∷ layout.node_has_params ∷ layout.node_signal ∷ layout.node_code ∷ layout.node_detail ∷ layout.node_has_limits ∷ [];
      room = node_room;
      count = layout.node_count;
    }

abbrev pub route_table : Table
route_table = record { columns = layout.route_node ∷ layout.route_outcome ∷ layout.route_target ∷ []; room = route_room; count = layout.route_count }

abbrev pub limit_table : Table
limit_table = record { columns = layout.limit_node ∷ layout.limit_outcome ∷ layout.limit_limit ∷ []; room = limit_room; count = layout.limit_count }

abbrev pub action_table : Table
action_table = record { columns = layout.action_effect ∷ layout.action_max_attempts ∷ []; room = action_room; count = layout.action_count }

abbrev pub declared_table : Table
declared_table = record { columns = layout.declared_action ∷ layout.declared_outcome ∷ []; room = declared_room; count = layout.declared_count }

-- Every unused slot is zero.
unfoldable pub table_blank : (sheet : List ℕ) → Table → Bool
table_blank sheet table = every (λ column. column_blank sheet column table.room (at sheet table.count)) table.columns

unfoldable pub blank : (sheet : List ℕ) → Bool
blank sheet = every (table_blank sheet) (node_table ∷ route_table ∷ limit_table ∷ action_table ∷ declared_table ∷ [])

-- A sheet. The counts are kept as they stand, so that one over its room can be told; the rows are those that are counted and have room; blank says that
-- all other slots are zero.
pub record Workflow : Type 0 where
  pub format : ℕ
  pub start : ℕ
  pub max_visits_per_node : ℕ
  pub max_activations : ℕ
  pub node_count : ℕ
  pub route_count : ℕ
  pub limit_count : ℕ
  pub action_count : ℕ
  pub declared_count : ℕ
  pub nodes : List Node
  pub routes : List Route
  pub limits : List Limit
  pub actions : List Action
  pub declared : List Declared
  pub blank : Bool

abbrev pub workflow : (sheet : List ℕ) → Workflow
workflow sheet =
    record {
      format = at sheet layout.format;
      start = at sheet layout.start;
      max_visits_per_node = at sheet layout.max_visits_per_node;
      max_activations = at sheet layout.max_activations;
      node_count = at sheet layout.node_count;
      route_count = at sheet layout.route_count;
      limit_count = at sheet layout.limit_count;
      action_count = at sheet layout.action_count;
      declared_count = at sheet layout.declared_count;
      nodes = span (node_at sheet) 0 (node_rows sheet);
      routes = span (route_at sheet) 0 (route_rows sheet);
      limits = span (limit_at sheet) 0 (limit_rows sheet);
      actions = span (action_at sheet) 0 (action_rows sheet);
      declared = span (declared_at sheet) 0 (declared_rows sheet);
      blank = blank sheet;
    }
