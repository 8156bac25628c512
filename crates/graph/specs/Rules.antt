-- The rules of a sheet: W01, W03, W05 to W09 and W12 of graph.rs.
use Rattle.std.specs.Prelude.{Bool, false, not, List, [], ◌∷◌, ℕ, ◌+◌, ◌-◌, ◌^◌, min, ltb, leb, eqb}
use Rattle.laws.specs.Bool.{◌and◌, ◌or◌}
use Rattle.laws.specs.First.{some}
use Rattle.workflow.specs.Code.{failed, exhausted, activity, await_signal}
use Rattle.workflow.specs.View.{Workflow}
use Rattle.workflow.specs.Lookup.{is_0_2, node_of, policy_of, routed, is_declared, declares}
use Rattle.workflow.specs.declared.Route.{Route}
use Rattle.workflow.specs.declared.Limit.{Limit}
use Rattle.workflow.specs.declared.Declared.{Declared}

-- In 1 to the most.
abbrev pub within : (most number : ℕ) → Bool
within most number = ltb 0 number and leb number most

-- 1: params in format 1.
abbrev pub breaks_1 : Workflow → (node : ℕ) → Bool
breaks_1 sheet node = not (is_0_2 sheet) and eqb (node_of sheet node).has_params 1

-- 7: nothing declared, a reserved outcome declared, an outcome declared twice, or attempts out of range.
abbrev pub of_action : (action : ℕ) → Declared → Bool
of_action action declared = eqb declared.action action

unfoldable pub reserved : Workflow → (action : ℕ) → Declared → Bool
reserved sheet action declared =
    of_action action declared and (eqb declared.outcome failed or is_0_2 sheet and eqb declared.outcome exhausted)

unfoldable pub declared_twice : (action : ℕ) → List Declared → Bool
declared_twice action [] = false
declared_twice action (declared ∷ later) =
    of_action action declared and some (is_declared action declared.outcome) later or declared_twice action later

unfoldable pub breaks_7 : Workflow → (max_attempts action : ℕ) → Bool
breaks_7 sheet max_attempts action =
    not (some (of_action action) sheet.declared) or some (reserved sheet action) sheet.declared or declared_twice action sheet.declared
    or not (within max_attempts (policy_of sheet action).max_attempts)

-- 8: an activity whose action isn't there, that leaves a declared outcome unrouted, that routes another one, or that routes to no node.
abbrev pub of_node : (node : ℕ) → Route → Bool
of_node node route = eqb route.node node

unfoldable pub unrouted : Workflow → (node action : ℕ) → Declared → Bool
unrouted sheet node action declared = of_action action declared and not (routed sheet node declared.outcome)

-- In format 2 a node routes exhausted only when it has loop limits.
abbrev pub may_route_exhausted : Workflow → (node : ℕ) → Bool
may_route_exhausted sheet node = is_0_2 sheet and eqb (node_of sheet node).has_limits 1

unfoldable pub extra : Workflow → (node action : ℕ) → Route → Bool
extra sheet node action route =
    of_node node route
    and not (eqb route.outcome failed or eqb route.outcome exhausted and may_route_exhausted sheet node or declares sheet action route.outcome)

unfoldable pub leads_nowhere : Workflow → (node : ℕ) → Route → Bool
leads_nowhere sheet node route = of_node node route and leb sheet.node_count route.target

unfoldable pub breaks_8 : Workflow → (node : ℕ) → Bool
breaks_8 sheet node =
    let action = (node_of sheet node).action in
    eqb (node_of sheet node).kind activity
    and (leb sheet.action_count action or some (unrouted sheet node action) sheet.declared
    or some (extra sheet node action) sheet.routes or some (leads_nowhere sheet node) sheet.routes)

-- 9: an await-signal node without a route, that routes exhausted without loop limits, or that routes to no node.
unfoldable pub breaks_9 : Workflow → (node : ℕ) → Bool
breaks_9 sheet node =
    eqb (node_of sheet node).kind await_signal
    and (not (some (of_node node) sheet.routes) or is_0_2 sheet and routed sheet node exhausted and not (may_route_exhausted sheet node)
    or some (leads_nowhere sheet node) sheet.routes)

-- 12: loop limits in format 1, none, one on exhausted or on an unrouted outcome, one that is 0 or not below maxVisitsPerNode, or exhausted not routed.
abbrev pub limit_of_node : (node : ℕ) → Limit → Bool
limit_of_node node limit = eqb limit.node node

-- The original adds one and stays at 2^32 - 1.
abbrev pub one_above : ℕ → ℕ
one_above number = min (number + 1) (2 ^ 32 - 1)

unfoldable pub bad_limit : Workflow → (node : ℕ) → Limit → Bool
bad_limit sheet node limit =
    limit_of_node node limit
    and (eqb limit.outcome exhausted or not (routed sheet node limit.outcome) or eqb limit.limit 0
    or ltb sheet.max_visits_per_node (one_above limit.limit))

unfoldable pub breaks_12 : Workflow → (node : ℕ) → Bool
breaks_12 sheet node =
    eqb (node_of sheet node).has_limits 1
    and (not (is_0_2 sheet) or not (some (limit_of_node node) sheet.limits) or some (bad_limit sheet node) sheet.limits or not (routed sheet node exhausted))
