-- The numbers are read as the sheet of Joint A.
use Rattle.std.specs.Prelude.{◌≡◌, refl, Bool, true, List, [], ◌∷◌, ℕ, zero, suc, ◌+◌, ◌-◌, ◌≤◌, ◌<◌, min, get_or, set, replicate, eqb, ltb, leb}
use Rattle.std.proofs.Common.{◌∙◌, arith, get_or-set_other, ltb-true, leb-true, eq-eqb}
use Rattle.laws.specs.Bool.{when◌then◌else◌, ◌and◌, ◌or◌, both, join, split}
use Rattle.laws.specs.Rows.{rows, span}
use Rattle.laws.specs.Every.{every}
use Rattle.workflow.specs.Layout as layout
use Rattle.workflow.specs.declared.Node.{Node}
use Rattle.workflow.specs.declared.Route.{Route}
use Rattle.workflow.specs.View.{Workflow, workflow, at, node_at, route_at, limit_at, action_at, declared_at, column_blank, Table, node_table, route_table, limit_table, action_table, declared_table, table_blank, blank}
use Rattle.joint_a.specs.Sheet.{Written, written, places, numbers}

-- UNUSED SLOTS. Nothing is written from a up to b.
unfoldable clear : (a b : ℕ) → List Written → Bool
clear a b ws = every (λ w. ltb w.place a or leb b w.place) ws

zeros : (n i : ℕ) → get_or {A = ℕ} (replicate n 0) i 0 ≡ 0
zeros zero i = refl
zeros (suc n) zero = refl
zeros (suc n) (suc i) = zeros n i

apart : (a b i p : ℕ) → ltb p a or leb b p ≡ true → a ≤ i → i < b → i ≡ p → ⊥
unfolding ◌or◌
apart a b i p =
    split (ltb p a) (λ h. rw h (λ _ l m e. omega (arith, ltb-true p a h))) (λ h. rw h (λ g l m e. omega (arith, leb-true b p g)))

kept : (a b i : ℕ) (xs : List ℕ) (ws : List Written) → clear a b ws ≡ true → a ≤ i → i < b → get_or (written xs ws) i 0 ≡ get_or xs i 0
unfolding clear every written
kept a b i xs [] c l m = refl
kept a b i xs (w ∷ ws) c l m =
    let g = both _ _ c in
    kept a b i (set xs w.place w.number) ws g.1 l m ∙ get_or-set_other xs w.place i w.number 0 (apart a b i w.place g.0 l m)

zero_rows : (f : ℕ → ℕ) (i k : ℕ) → ((n : ℕ) → i ≤ n → n < i + k → f n ≡ 0) → every (λ x. eqb x 0) (rows f i k) ≡ true
unfolding every rows
zero_rows f i zero h = refl
zero_rows f i (suc k) h = join _ _ (eq-eqb _ 0 (h i (omega arith) (omega arith))) (zero_rows f (i + 1) k (λ n l m. h n (omega arith) (omega arith)))

zero_span : (n a b : ℕ) (ws : List Written) → a ≤ b → clear a b ws ≡ true → every (λ x. eqb x 0) (span (at (written (replicate n 0) ws)) a b) ≡ true
unfolding span
zero_span n a b ws h c = zero_rows _ a (b - a) (λ i l m. kept a b i (replicate n 0) ws c l (omega arith) ∙ zeros n i)

blank_columns : (n room k : ℕ) (ws : List Written) (columns : List ℕ) → every (λ column. clear (column + min room k) (column + room) ws) columns ≡ true
    → every (λ column. column_blank (written (replicate n 0) ws) column room k) columns ≡ true
unfolding every
blank_columns n room k ws [] e = refl
blank_columns n room k ws (column ∷ columns) e =
    let g = both _ _ e in
    join _ _ (zero_span n (column + min room k) (column + room) ws (omega arith) g.0) (blank_columns n room k ws columns g.1)

blank_table : (n k : ℕ) (ws : List Written) (t : Table) → at (written (replicate n 0) ws) t.count ≡ k
    → every (λ column. clear (column + min t.room k) (column + t.room) ws) t.columns ≡ true → table_blank (written (replicate n 0) ws) t ≡ true
unfolding table_blank
blank_table n k ws t c e = rw c (blank_columns n t.room k ws t.columns e)

is_blank : (x : ℕ) → blank (numbers x) ≡ true
unfolding blank every ◌and◌ ◌or◌ clear numbers written
is_blank x =
    join _ _ (blank_table layout.numbers 4 (places x) node_table refl refl)
    (join _ _ (blank_table layout.numbers 4 (places x) route_table refl refl)
    (join _ _ (blank_table layout.numbers 1 (places x) limit_table refl refl)
    (join _ _ (blank_table layout.numbers 1 (places x) action_table refl refl)
    (join _ _ (blank_table layout.numbers 1 (places x) declared_table refl refl) refl))))

-- THE SHEET as its rows.
abbrev node : (kind signal code limits : ℕ) → Node
node kind signal code limits = record { kind = kind; action = 0; has_params = 0; signal = signal; code = code; detail = 0; has_limits = limits }

abbrev to : (node outcome target : ℕ) → Route
to node outcome target = record { node = node; outcome = outcome; target = target }

abbrev pub sheet : (limit : ℕ) → Workflow
sheet limit =
    record {
      format = 2;
      start = 0;
      max_visits_per_node = 3;
      max_activations = 10;
      node_count = 4;
      route_count = 4;
      limit_count = 1;
      action_count = 1;
      declared_count = 1;
      nodes = node 1 0 0 0 ∷ node 2 5 0 1 ∷ node 3 0 0 0 ∷ node 4 0 77 0 ∷ [];
      routes = to 0 0 1 ∷ to 1 1 2 ∷ to 1 3 3 ∷ to 1 4 0 ∷ [];
      limits = record { node = 1; outcome = 4; limit = limit } ∷ [];
      actions = record { effect = 1; max_attempts = 2 } ∷ [];
      declared = record { action = 0; outcome = 0 } ∷ [];
      blank = true;
    }

pub is_sheet : (x : ℕ) → workflow (numbers x) ≡ sheet x
is_sheet x = rw (is_blank x) (unfold numbers written span rows node_at route_at limit_at action_at declared_at when◌then◌else◌ in refl)
