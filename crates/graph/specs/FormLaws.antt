-- The form of a sheet in the parts that the code tests, and the loops over them.
use Rattle.std.specs.Prelude.{◌≡◌, refl, Bool, true, false, ◌&&◌, List, [], ◌∷◌, length, get_or, ltb, leb, eqb}
use Rattle.std.specs.Bool.{MatchBool}
use Rattle.std.specs.List.Sorted.{IsNonDecreasing}
use Rattle.std.proofs.Math.Path.{sym}
use Rattle.std.proofs.Common.{◌∙◌, arith}
use Prim.Native.Nat.{ℕ, zero, suc, ◌+◌, ◌-◌, ◌≤◌, ◌<◌}
use borrow.Author.Tests.{ltb-true, ltb-false, le-leb, lt-leb}
use Rattle.laws.specs.Bool.{when◌then◌else◌, ◌and◌, and_true, strict_and, and_left, split}
use Rattle.laws.specs.Rows.{span, span_more, span_none}
use Rattle.laws.specs.Every.{every, every_rows}
use Rattle.workflow.specs.Code.{activity, await_signal, complete, fail}
use Rattle.workflow.specs.Layout as layout
use Rattle.workflow.specs.View.{Workflow, workflow, cell, node_at, action_at, route_at, limit_at, declared_at, node_rows, action_rows, route_rows, limit_rows, declared_rows, node_table, route_table, limit_table, action_table, declared_table, table_blank, blank}
use Rattle.workflow.specs.RowLaws.{route_row, limit_row, declared_row}
use Rattle.workflow.specs.declared.Node.{Node}
use Rattle.graph.specs.Form.{counts_fit, formed_node, formed_action, formed_route, formed_limit, formed_declared, chained_from, chained, ascending, rising, form}

-- THE PARTS. Each sort of rows by itself.
unfoldable pub nodes_formed : Workflow → Bool
nodes_formed f = every formed_node f.nodes

unfoldable pub actions_formed : Workflow → Bool
actions_formed f = every formed_action f.actions

unfoldable pub routes_formed : Workflow → Bool
routes_formed f = ascending (λ x. x.node) (λ x. x.outcome) f.routes and every (formed_route f) f.routes

unfoldable pub limits_formed : Workflow → Bool
limits_formed f = ascending (λ x. x.node) (λ x. x.outcome) f.limits and every (formed_limit f) f.limits

unfoldable pub declared_formed : Workflow → Bool
declared_formed f = rising (λ x. x.action) f.declared and every (formed_declared f) f.declared

pub form_parts : (f : Workflow) → form f ≡ (counts_fit f and nodes_formed f and actions_formed f and routes_formed f and limits_formed f and declared_formed f and f.blank)
unfolding form nodes_formed actions_formed routes_formed limits_formed declared_formed
form_parts f = simp (← and_left)

pub blank_parts : (w : List ℕ) → blank w ≡ (table_blank w node_table and table_blank w route_table and table_blank w limit_table and table_blank w action_table and table_blank w declared_table)
unfolding blank every
blank_parts w = simp (← and_true)

-- All rows of a sort, by their places.
module _ (w : List ℕ) where
  pub all_nodes : every (λ j. formed_node (node_at w j)) (span (λ j. j) 0 (node_rows w)) ≡ nodes_formed (workflow w)
  unfolding nodes_formed
  all_nodes = sym (every_rows formed_node (node_at w) (node_rows w))

  pub all_actions : every (λ j. formed_action (action_at w j)) (span (λ j. j) 0 (action_rows w)) ≡ actions_formed (workflow w)
  unfolding actions_formed
  all_actions = sym (every_rows formed_action (action_at w) (action_rows w))

-- Rows in order, by their places.
module _ {A : Type 0} (r : A → A → Bool) (f : ℕ → A) (s : ℕ → ℕ → Bool) (k : ℕ) (alike : (i j : ℕ) → i < k → j < k → r (f i) (f j) ≡ s i j) where
  same_from : (m i : ℕ) → k ≡ i + 1 + m → chained_from r (f i) (span f (i + 1) k) ≡ chained_from s i (span (λ j. j) (i + 1) k)
  unfolding chained_from
  same_from zero i e = rw (span_none f (i + 1) k (omega arith), span_none (λ j. j) (i + 1) k (omega arith))
  same_from (suc m) i e =
      rw (span_more f (i + 1) k (omega arith), span_more (λ j. j) (i + 1) k (omega arith), alike i (i + 1) (omega arith) (omega arith), same_from m (i + 1) (omega arith))

  chained_rows : chained r (span f 0 k) ≡ chained s (span (λ j. j) 0 k)
  unfolding chained
  chained_rows =
      split (ltb 0 k)
      (λ e. let h = ltb-true 0 k e in rw (span_more f 0 k h, span_more (λ j. j) 0 k h) (same_from (k - 1) 0 (omega arith)))
      (λ e. let h = ltb-false 0 k e in rw (span_none f 0 k h, span_none (λ j. j) 0 k h))

-- The order of the rows from 0 to the count, by columns.
unfoldable pub rows_ascend : List ℕ → (major minor count : ℕ) → Bool
rows_ascend w a b k = ascending (cell w a) (cell w b) (span (λ j. j) 0 k)

unfoldable pub rows_rise : List ℕ → (key count : ℕ) → Bool
rows_rise w a k = rising (λ x. x) (span (cell w a) 0 k)

module _ (w : List ℕ) where
  pub routes_ascending : rows_ascend w layout.route_node layout.route_outcome (route_rows w) ≡ ascending (λ x. x.node) (λ x. x.outcome) (workflow w).routes
  unfolding rows_ascend
  routes_ascending = sym (chained_rows _ (route_at w) _ (route_rows w) (λ i j g h. rw (route_row w i g, route_row w j h)))

  pub limits_ascending : rows_ascend w layout.limit_node layout.limit_outcome (limit_rows w) ≡ ascending (λ x. x.node) (λ x. x.outcome) (workflow w).limits
  unfolding rows_ascend
  limits_ascending = sym (chained_rows _ (limit_at w) _ (limit_rows w) (λ i j g h. rw (limit_row w i g, limit_row w j h)))

  pub declared_rising : rows_rise w layout.declared_action (declared_rows w) ≡ rising (λ x. x.action) (workflow w).declared
  unfolding rows_rise
  declared_rising =
      chained_rows leb (cell w layout.declared_action) _ (declared_rows w) (λ i j g h. refl)
      ∙ sym (chained_rows _ (declared_at w) _ (declared_rows w) (λ i j g h. rw (declared_row w i g, declared_row w j h)))

  -- the order, then each row
  pub routes_parts : (rows_ascend w layout.route_node layout.route_outcome (route_rows w) and every (λ j. formed_route (workflow w) (route_at w j)) (span (λ j. j) 0 (route_rows w))) ≡ routes_formed (workflow w)
  unfolding routes_formed
  routes_parts = rw (routes_ascending, every_rows (formed_route (workflow w)) (route_at w) (route_rows w))

  pub limits_parts : (rows_ascend w layout.limit_node layout.limit_outcome (limit_rows w) and every (λ j. formed_limit (workflow w) (limit_at w j)) (span (λ j. j) 0 (limit_rows w))) ≡ limits_formed (workflow w)
  unfolding limits_formed
  limits_parts = rw (limits_ascending, every_rows (formed_limit (workflow w)) (limit_at w) (limit_rows w))

  pub declared_parts : (rows_rise w layout.declared_action (declared_rows w) and every (λ j. formed_declared (workflow w) (declared_at w j)) (span (λ j. j) 0 (declared_rows w))) ≡ declared_formed (workflow w)
  unfolding declared_formed
  declared_parts = rw (declared_rising, every_rows (formed_declared (workflow w)) (declared_at w) (declared_rows w))

-- A node of each kind.
module _ (x : Node) where
  pub activity_fits : x.kind ≡ activity → (ltb x.has_params 2 && eqb x.signal 0 && eqb x.code 0 && eqb x.detail 0 && ltb x.has_limits 2) ≡ formed_node x
  unfolding formed_node when◌then◌else◌
  activity_fits h = rw h (simp and_left (simp strict_and))

  pub await_fits : x.kind ≡ await_signal → (eqb x.action 0 && eqb x.has_params 0 && ltb x.signal 256 && eqb x.code 0 && eqb x.detail 0 && ltb x.has_limits 2) ≡ formed_node x
  unfolding formed_node when◌then◌else◌
  await_fits h = rw h (simp and_left (simp strict_and))

  pub complete_fits : x.kind ≡ complete → (eqb x.action 0 && eqb x.has_params 0 && eqb x.signal 0 && eqb x.code 0 && eqb x.detail 0 && eqb x.has_limits 0) ≡ formed_node x
  unfolding formed_node when◌then◌else◌
  complete_fits h = rw h (simp and_left (simp strict_and))

  pub fail_fits : x.kind ≡ fail → (eqb x.action 0 && eqb x.has_params 0 && eqb x.signal 0 && ltb x.code 65536 && eqb x.has_limits 0) ≡ formed_node x
  unfolding formed_node when◌then◌else◌
  fail_fits h = rw h (simp and_left (simp strict_and))

-- Rows in order: from 1 on each with the row before.
pub chained_places : (r : ℕ → ℕ → Bool) (k : ℕ) → every (λ i. r (i - 1) i) (span (λ j. j) 1 k) ≡ chained r (span (λ j. j) 0 k)
unfolding chained every chained_from
chained_places r k =
    split (ltb 0 k)
    (λ e. let h = ltb-true 0 k e in rw (span_more (λ j. j) 0 k h) (from (k - 1) 0 (omega arith)))
    (λ e. let h = ltb-false 0 k e in rw (span_none (λ j. j) 0 k h, span_none (λ j. j) 1 k (omega arith)))
  where
    from : (m i : ℕ) → k ≡ i + 1 + m → every (λ i. r (i - 1) i) (span (λ j. j) (i + 1) k) ≡ chained_from r i (span (λ j. j) (i + 1) k)
    from zero i e = rw (span_none (λ j. j) (i + 1) k (omega arith))
    from (suc m) i e =
        let z : i + 1 - 1 ≡ i = omega arith in
        rw (span_more (λ j. j) (i + 1) k (omega arith), z, from m (i + 1) (omega arith))

-- Numbers in order, as `is_sorted` says it.
in_order : (x : ℕ) (xs : List ℕ) → ((k d : ℕ) → k + 1 < length (x ∷ xs) → get_or (x ∷ xs) k d ≤ get_or (x ∷ xs) (suc k) d) → true ≡ chained_from leb x xs
unfolding chained_from ◌and◌
in_order x [] h = refl
in_order x (y ∷ xs) h = rw (le-leb x y (h 0 0 (omega arith))) (in_order y xs (λ k d l. h (suc k) d (omega arith)))

out_of_order : (k x : ℕ) (xs : List ℕ) → k + 1 < length (x ∷ xs) → get_or (x ∷ xs) (suc k) 0 < get_or (x ∷ xs) k 0 → false ≡ chained_from leb x xs
unfolding chained_from ◌and◌
out_of_order k x [] l h = absurd (omega arith)
out_of_order zero x (y ∷ xs) l h = rw (lt-leb x y h)
out_of_order (suc k) x (y ∷ xs) l h = split (leb x y) (λ t. rw t (out_of_order k y xs (omega arith) h)) (λ t. rw t)

pub sorted_rises : (xs : List ℕ) (r : Bool) → MatchBool r (IsNonDecreasing xs) ((k : ℕ) × (k + 1 < length xs) × ((d : ℕ) → get_or xs (k + 1) d < get_or xs k d)) → r ≡ chained leb xs
unfolding chained
sorted_rises [] true h = refl
sorted_rises [] false h = absurd (omega (arith, h.1))
sorted_rises (x ∷ xs) true h = in_order x xs (λ k d l. h k (suc k) d (omega arith) (omega arith))
sorted_rises (x ∷ xs) false h = let e : h.0 + 1 ≡ suc h.0 = omega arith in out_of_order h.0 x xs h.1 (rw e at (h.2 0))
