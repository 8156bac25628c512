use Rattle.std.specs.Prelude.{◌≡◌, ℕ, Bool, Some, None}
use Rattle.std.specs.Borrow.{Bor}
use Rattle.laws.specs.First.{Seek}
use Rattle.workflow.specs.Layout as layout
use Rattle.workflow.specs.View.{at}
use Rattle.graph.specs.declared.rules.At.{At}
use Rattle.graph.specs.SearchLaws.{rows_below}
use Rattle.graph.specs.Lowest.{lowest}
use Rattle.graph.proofs.rules.Formed.lowest_breaking.Given as goal

-- the routes of this node start at `from`, and of each test that the calls answer, the lowest from here on is the whole answer
abbrev pub invariant-loop-node : goal.invariant-loop-node
invariant-loop-node g l =
    record {
      place : l.from ≡ rows_below l.w layout.route_node l.k l.node;
      seek : (p : ℕ → Bool) → ((at : Bor At) (b : Bool) → at.now.sheet.now ≡ l.w → goal.F-post g l.breaks at b → b ≡ p at.now.node)
          → Seek p (λ _ j. Some j) None (λ j. j) (at l.w layout.node_count) l.node (lowest (at l.w layout.node_count) p);
    }
