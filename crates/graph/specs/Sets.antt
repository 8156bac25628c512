-- Reached nodes, as a 64-bit set (W14 and W15 of graph.rs).
use Rattle.std.specs.Prelude.{Bool, true, false, not, List, [], ◌∷◌, ℕ, zero, suc, ◌/◌, ◌%◌, ◌^◌, leb, eqb}
use Rattle.std.specs.Int.Bits.{bit_or}
use Rattle.laws.specs.Bool.{when◌then◌else◌, ◌and◌}
use Rattle.laws.specs.Rows.{span}
use Rattle.workflow.specs.Code.{complete}
use Rattle.workflow.specs.View.{Workflow}
use Rattle.workflow.specs.Lookup.{is_0_2, node_of}
use Rattle.workflow.specs.declared.Route.{Route}

-- A node is in the set where the binary digit of its number is 1.
abbrev pub has : (set node : ℕ) → Bool
has set node = eqb (set / 2 ^ node % 2) 1

abbrev pub mark : (set node : ℕ) → ℕ
mark set node = bit_or set (2 ^ node)

-- One pass over the routes: from a node of the set to the route's target; backward, from a target of the set to the route's node.
abbrev pub turned : (back : Bool) → Route → Route
turned true route = record { node = route.target; outcome = route.outcome; target = route.node }
turned false route = route

abbrev pub spread : (set : ℕ) → Route → ℕ
spread set route = when has set route.node then mark set route.target else set

unfoldable pub pass : (back : Bool) → List Route → (set : ℕ) → ℕ
pass back [] set = set
pass back (route ∷ later) set = pass back later (spread set (turned back route))

unfoldable pub repeated : (times : ℕ) → (ℕ → ℕ) → (set : ℕ) → ℕ
repeated zero step set = set
repeated (suc times) step set = repeated times step (step set)

-- As many passes as there are nodes are enough.
abbrev pub closed : Workflow → (back : Bool) → (set : ℕ) → ℕ
closed sheet back set = repeated sheet.node_count (pass back sheet.routes) set

-- The complete and fail nodes.
unfoldable pub with_ends : Workflow → (nodes : List ℕ) → (set : ℕ) → ℕ
with_ends sheet [] set = set
with_ends sheet (node ∷ later) set = with_ends sheet later (when leb complete (node_of sheet node).kind then mark set node else set)

-- The nodes that are reached from start, and those from which an end is reached.
unfoldable pub reached : Workflow → ℕ
reached sheet = closed sheet false (2 ^ sheet.start)

unfoldable pub reaching_end : Workflow → ℕ
reaching_end sheet = closed sheet true (with_ends sheet (span (λ node. node) 0 sheet.node_count) 0)

-- 14 and 15, in format 2: a node that start does not reach, and one that reaches no end.
abbrev pub breaks_14 : Workflow → (node : ℕ) → Bool
breaks_14 sheet node = is_0_2 sheet and not (has (reached sheet) node)

abbrev pub breaks_15 : Workflow → (node : ℕ) → Bool
breaks_15 sheet node = is_0_2 sheet and not (has (reaching_end sheet) node)
