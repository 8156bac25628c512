-- What the moves of a run need of a sheet, and every accepted sheet has.
use Rattle.std.specs.Prelude.{◌≡◌, true, ℕ, ◌≤◌, ◌<◌, Some}
use Rattle.workflow.specs.Code.{exhausted, activity}
use Rattle.workflow.specs.Layout.{node_room}
use Rattle.workflow.specs.View.{Workflow}
use Rattle.workflow.specs.Lookup.{node_of, route_of, routed, limit_of, declares}

pub record Sound (f : Workflow) : Type 0 where
  pub few_nodes : f.node_count ≤ node_room
  pub start : f.start < f.node_count
  -- every route leads to a node
  pub targets : (n o t : ℕ) → route_of f n o ≡ Some t → t < f.node_count
  -- a node with a loop limit routes exhausted
  pub exhausts : (n o x : ℕ) → limit_of f n o ≡ Some x → routed f n exhausted ≡ true
  -- an activity routes what its action declares
  pub declared_routed : (n o : ℕ) → n < f.node_count → (node_of f n).kind ≡ activity → declares f (node_of f n).action o ≡ true → routed f n o ≡ true
