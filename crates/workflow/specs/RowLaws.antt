-- The rows of a sheet column by column, and the search that the lookups share.
use Rattle.std.specs.Prelude.{◌≡◌, refl, Bool, true, false, List, [], ◌∷◌, ℕ, ◌+◌, ◌≤◌, ◌<◌, Option, Some, None, is_some}
use Rattle.std.proofs.Math.Path.{sym, ap}
use Rattle.std.proofs.Common.{◌∙◌, arith, lt-ltb}
use Rattle.laws.specs.Bool.{when◌then◌else◌, split, if_true}
use Rattle.laws.specs.Rows.{span}
use Rattle.laws.specs.First.{first, first_same}
use Rattle.workflow.specs.Layout as layout
use Rattle.workflow.specs.View.{workflow, cell, route_at, limit_at, declared_at, route_rows, limit_rows, declared_rows}
use Rattle.workflow.specs.Lookup.{are, is_route, route_of, is_limit, limit_of, is_declared, declares}

-- A row that is counted.
module _ (w : List ℕ) where
  pub route_row : (j : ℕ) → j < route_rows w → route_at w j ≡ record { node = cell w layout.route_node j; outcome = cell w layout.route_outcome j; target = cell w layout.route_target j }
  unfolding route_at
  route_row j h = if_true _ _ _ (lt-ltb j layout.route_room (omega arith))

  pub limit_row : (j : ℕ) → j < limit_rows w → limit_at w j ≡ record { node = cell w layout.limit_node j; outcome = cell w layout.limit_outcome j; limit = cell w layout.limit_limit j }
  unfolding limit_at
  limit_row j h = if_true _ _ _ (lt-ltb j layout.limit_room (omega arith))

  pub declared_row : (j : ℕ) → j < declared_rows w → declared_at w j ≡ record { action = cell w layout.declared_action j; outcome = cell w layout.declared_outcome j }
  unfolding declared_at
  declared_row j h = if_true _ _ _ (lt-ltb j layout.declared_room (omega arith))

-- The value in the first row whose two keys are x and y.
unfoldable pub find_row : (sheet : List ℕ) → (major minor value count x y : ℕ) → Option ℕ
find_row w a b v k x y = first (λ j. are (cell w a j) (cell w b j) x y) (λ _ j. Some (cell w v j)) None 0 (span (λ j. j) 0 k)

-- The columns that a search reads lie within the sheet.
pub record Columns (major minor value count : ℕ) : Type 0 where
  pub major_fits : major + count ≤ layout.numbers
  pub minor_fits : minor + count ≤ layout.numbers
  pub value_fits : value + count ≤ layout.numbers

pub found_first : {A : Type 0} (p : A → Bool) (t : A → ℕ) (i : ℕ) (xs : List A) → is_some (first p (λ _ x. Some (t x)) None i xs) ≡ first p (λ _ _. true) false i xs
unfolding first when◌then◌else◌
found_first p t i [] = refl
found_first p t i (x ∷ xs) = split (p x) (λ h. rw h) (λ h. rw h (found_first p t (i + 1) xs))

module _ (w : List ℕ) where
  pub find_route : (n o : ℕ) → find_row w layout.route_node layout.route_outcome layout.route_target (route_rows w) n o ≡ route_of (workflow w) n o
  unfolding find_row route_of
  find_route n o =
      sym (first_same (is_route n o) (λ _ x. Some x.target) (route_at w) _ _ (λ j. j) None (route_rows w) (λ j h. rw (route_row w j h)) (λ i j h. rw (route_row w j h)))

  pub find_limit : (n o : ℕ) → find_row w layout.limit_node layout.limit_outcome layout.limit_limit (limit_rows w) n o ≡ limit_of (workflow w) n o
  unfolding find_row limit_of
  find_limit n o =
      sym (first_same (is_limit n o) (λ _ x. Some x.limit) (limit_at w) _ _ (λ j. j) None (limit_rows w) (λ j h. rw (limit_row w j h)) (λ i j h. rw (limit_row w j h)))

  pub find_declared : (a o : ℕ) → is_some (find_row w layout.declared_action layout.declared_outcome layout.declared_outcome (declared_rows w) a o) ≡ declares (workflow w) a o
  unfolding find_row declares
  find_declared a o =
      ap is_some (sym (first_same (is_declared a o) (λ _ x. Some x.outcome) (declared_at w) _ _ (λ j. j) None (declared_rows w) (λ j h. rw (declared_row w j h)) (λ i j h. rw (declared_row w j h))))
      ∙ found_first (is_declared a o) (λ x. x.outcome) 0 (workflow w).declared
