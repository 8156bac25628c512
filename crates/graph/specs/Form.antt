-- The form of a sheet (refusal 20).
use Rattle.std.specs.Prelude.{Bool, true, false, List, [], ◌∷◌, ℕ, ltb, leb, eqb}
use Rattle.laws.specs.Bool.{when◌then◌else◌, ◌and◌, ◌or◌}
use Rattle.laws.specs.Every.{every}
use Rattle.workflow.specs.Code.{none, activity, await_signal, complete, fail, reconcilable}
use Rattle.workflow.specs.Layout.{node_room, route_room, limit_room, action_room, declared_room}
use Rattle.workflow.specs.View.{Workflow}
use Rattle.workflow.specs.Lookup.{node_of}
use Rattle.workflow.specs.declared.Node.{Node}
use Rattle.workflow.specs.declared.Route.{Route}
use Rattle.workflow.specs.declared.Limit.{Limit}
use Rattle.workflow.specs.declared.Action.{Action}
use Rattle.workflow.specs.declared.Declared.{Declared}

-- There is room for the rows.
abbrev pub counts_fit : Workflow → Bool
counts_fit sheet =
    leb sheet.node_count node_room and leb sheet.route_count route_room and leb sheet.limit_count limit_room
    and leb sheet.action_count action_room and leb sheet.declared_count declared_room

-- A mark is 0 or 1.
abbrev pub is_mark : ℕ → Bool
is_mark number = ltb number 2

-- A known kind, and zero in the fields that it does not use; the mark "has loopLimits" on no end node; numbers that their fields can hold.
unfoldable pub formed_node : Node → Bool
formed_node node =
    when eqb node.kind activity then is_mark node.has_params and eqb node.signal 0 and eqb node.code 0 and eqb node.detail 0 and is_mark node.has_limits else
    when eqb node.kind await_signal then eqb node.action 0 and eqb node.has_params 0 and ltb node.signal 256 and eqb node.code 0 and eqb node.detail 0 and is_mark node.has_limits else
    when eqb node.kind complete then eqb node.action 0 and eqb node.has_params 0 and eqb node.signal 0 and eqb node.code 0 and eqb node.detail 0 and eqb node.has_limits 0 else
    when eqb node.kind fail then eqb node.action 0 and eqb node.has_params 0 and eqb node.signal 0 and ltb node.code 65536 and eqb node.has_limits 0 else
    false

-- A known effect.
abbrev pub formed_action : Action → Bool
formed_action action = leb action.effect reconcilable

-- An outcome that is there.
abbrev pub is_outcome : ℕ → Bool
is_outcome outcome = ltb outcome none

-- An activity or await-signal node of the sheet.
abbrev pub routes_at : Workflow → (node : ℕ) → Bool
routes_at sheet node = ltb node sheet.node_count and (eqb (node_of sheet node).kind activity or eqb (node_of sheet node).kind await_signal)

unfoldable pub formed_route : Workflow → Route → Bool
formed_route sheet route = routes_at sheet route.node and is_outcome route.outcome

unfoldable pub formed_limit : Workflow → Limit → Bool
formed_limit sheet limit = routes_at sheet limit.node and eqb (node_of sheet limit.node).has_limits 1 and is_outcome limit.outcome

unfoldable pub formed_declared : Workflow → Declared → Bool
formed_declared sheet declared = ltb declared.action sheet.action_count and is_outcome declared.outcome

-- Each row stands in the relation to the next.
unfoldable pub chained_from : {A : Type 0} → (A → A → Bool) → A → List A → Bool
chained_from related row [] = true
chained_from related row (next ∷ later) = related row next and chained_from related next later

unfoldable pub chained : {A : Type 0} → (A → A → Bool) → List A → Bool
chained related [] = true
chained related (row ∷ later) = chained_from related row later

-- Strictly ascending by two keys, as node and outcome; grouped by a rising key, as action.
unfoldable pub ascends : (node outcome node' outcome' : ℕ) → Bool
ascends node outcome node' outcome' = ltb node node' or (eqb node node' and ltb outcome outcome')

abbrev pub ascending : {A : Type 0} → (major minor : A → ℕ) → List A → Bool
ascending major minor rows = chained (λ row next. ascends (major row) (minor row) (major next) (minor next)) rows

abbrev pub rising : {A : Type 0} → (key : A → ℕ) → List A → Bool
rising key rows = chained (λ row next. leb (key row) (key next)) rows

unfoldable pub form : Workflow → Bool
form sheet =
    counts_fit sheet and every formed_node sheet.nodes and every formed_action sheet.actions
    and ascending (λ route. route.node) (λ route. route.outcome) sheet.routes and every (formed_route sheet) sheet.routes
    and ascending (λ limit. limit.node) (λ limit. limit.outcome) sheet.limits and every (formed_limit sheet) sheet.limits
    and rising (λ declared. declared.action) sheet.declared and every (formed_declared sheet) sheet.declared
    and sheet.blank
