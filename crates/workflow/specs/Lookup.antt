-- Looking things up in a sheet.
use Rattle.std.specs.Prelude.{Bool, ℕ, min, get_or, eqb, Option, Some, None, is_some}
use Rattle.laws.specs.Bool.{◌and◌}
use Rattle.laws.specs.First.{first, some}
use Rattle.workflow.specs.Code.{format_0_2}
use Rattle.workflow.specs.Layout.{node_room}
use Rattle.workflow.specs.View.{Workflow, no_node, no_action}
use Rattle.workflow.specs.declared.Node.{Node}
use Rattle.workflow.specs.declared.Route.{Route}
use Rattle.workflow.specs.declared.Limit.{Limit}
use Rattle.workflow.specs.declared.Action.{Action}
use Rattle.workflow.specs.declared.Declared.{Declared}

-- Format 2, the 0.2 document.
abbrev pub is_0_2 : Workflow → Bool
is_0_2 sheet = eqb sheet.format format_0_2

-- How many nodes there are, held to the room there is.
abbrev pub node_slots : Workflow → ℕ
node_slots sheet = min node_room sheet.node_count

-- The row of a node, and the policy of an action; zeros where the sheet lacks it.
unfoldable pub node_of : Workflow → (node : ℕ) → Node
node_of sheet node = get_or sheet.nodes node no_node

unfoldable pub policy_of : Workflow → (action : ℕ) → Action
policy_of sheet action = get_or sheet.actions action no_action

-- Two numbers are two others.
unfoldable pub are : (a b x y : ℕ) → Bool
are a b x y = eqb a x and eqb b y

-- The route of an outcome at a node: where it leads.
abbrev pub is_route : (node outcome : ℕ) → Route → Bool
is_route node outcome route = are route.node route.outcome node outcome

unfoldable pub route_of : Workflow → (node outcome : ℕ) → Option ℕ
route_of sheet node outcome = first (is_route node outcome) (λ _ route. Some route.target) None 0 sheet.routes

abbrev pub routed : Workflow → (node outcome : ℕ) → Bool
routed sheet node outcome = is_some (route_of sheet node outcome)

-- The loop limit on an outcome at a node.
abbrev pub is_limit : (node outcome : ℕ) → Limit → Bool
is_limit node outcome limit = are limit.node limit.outcome node outcome

unfoldable pub limit_of : Workflow → (node outcome : ℕ) → Option ℕ
limit_of sheet node outcome = first (is_limit node outcome) (λ _ limit. Some limit.limit) None 0 sheet.limits

-- The action declares the outcome.
abbrev pub is_declared : (action outcome : ℕ) → Declared → Bool
is_declared action outcome declared = are declared.action declared.outcome action outcome

unfoldable pub declares : Workflow → (action outcome : ℕ) → Bool
declares sheet action outcome = some (is_declared action outcome) sheet.declared
