-- The sheet of Joint A as the numbers that are not zero, each with its place.
use Rattle.std.specs.Prelude.{List, [], ◌∷◌, ℕ, ◌+◌, set, replicate}
use Rattle.workflow.specs.Code.{format_0_2, received, exhausted, activity, await_signal, complete, fail}
use Rattle.workflow.specs.Layout as layout

pub record Written : Type 0 where
  pub place : ℕ
  pub number : ℕ

abbrev at : (place number : ℕ) → Written
at place number = record { place = place; number = number }

-- Numbers written over others.
unfoldable pub written : List ℕ → List Written → List ℕ
written numbers [] = numbers
written numbers (it ∷ more) = written (set numbers it.place it.number) more

-- Format 2, visits 3, activations 10. Node 0: activity, action 0, ok to 1. Node 1: await signal 5, received to 2, outcome 4 to 0, exhausted to 3, a limit on 4.
-- Node 2 complete, 3 fail. Action 0: effect 1, ok, 2 attempts.
abbrev pub places : (limit : ℕ) → List Written
places limit =
    at layout.format format_0_2
    ∷ at layout.max_visits_per_node 3
    ∷ at layout.max_activations 10
    ∷ at layout.node_count 4
    ∷ at layout.route_count 4
    ∷ at layout.limit_count 1
    ∷ at layout.action_count 1
    ∷ at layout.declared_count 1
    ∷ at layout.node_kind activity
    ∷ at (layout.node_kind + 1) await_signal
    ∷ at (layout.node_kind + 2) complete
    ∷ at (layout.node_kind + 3) fail
    ∷ at (layout.node_signal + 1) 5
    ∷ at (layout.node_code + 3) 77
    ∷ at (layout.node_has_limits + 1) 1
    ∷ at (layout.route_node + 1) 1
    ∷ at (layout.route_node + 2) 1
    ∷ at (layout.route_node + 3) 1
    ∷ at (layout.route_outcome + 1) received
    ∷ at (layout.route_outcome + 2) exhausted
    ∷ at (layout.route_outcome + 3) 4
    ∷ at layout.route_target 1
    ∷ at (layout.route_target + 1) 2
    ∷ at (layout.route_target + 2) 3
    ∷ at layout.limit_node 1
    ∷ at layout.limit_outcome 4
    ∷ at layout.limit_limit limit
    ∷ at layout.action_effect 1
    ∷ at layout.action_max_attempts 2
    ∷ []

unfoldable pub numbers : (limit : ℕ) → List ℕ
numbers limit = written (replicate layout.numbers 0) (places limit)
