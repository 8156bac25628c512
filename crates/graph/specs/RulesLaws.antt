-- What the code of the rules looks at: the rows of one node or action, and outcomes as marks.
use Rattle.std.specs.Prelude.{◌≡◌, Bool, not, List, [], ◌∷◌, get_or, length, set, replicate, drop, ltb, leb, Some, None}
use Rattle.std.specs.List.{All, zip}
use Rattle.std.proofs.Math.Path.{refl, sym, ap}
use Rattle.std.proofs.Common.{◌∙◌, add-one, drop-cons, drop_of_length-le, get_or-set_same, get_or-set_other}
use Rattle.std.proofs.Math.Bool.{true, false}
use Prim.Native.Nat.{ℕ, zero, suc, ◌+◌, ◌-◌, ◌≤◌, ◌<◌}
use native.Mathlib.Omega.{arith}
use Rattle.std.proofs.Math.ListN.{length-set, length-replicate}
use Rattle.std.proofs.lemmas.List.{get_or-replicate}
use Rattle.std.proofs.Math.Dec.{eqb}
use borrow.Author.Tests.{eq-eqb, eqb-true, eqb-false, ltb-true, ltb-false, lt-ltb, le-ltb, ne_eqb}
use Rattle.laws.specs.Bool.{when◌then◌else◌, ◌and◌, ◌or◌, split, both, and_true, or_false, if_true}
use Rattle.laws.specs.Rows.{rows, span, span_more, span_none, at_span, length_rows, get_d_rows}
use Rattle.laws.specs.First.{first, some, Seek, seek_start}
use Rattle.laws.specs.Every.{every}
use Rattle.laws.specs.In.{every_in, in_span}
use Rattle.workflow.specs.Code.{none, failed, exhausted, await_signal}
use Rattle.workflow.specs.Layout.{node_room, route_room, limit_room, declared_room}
use Rattle.workflow.specs.Layout as layout
use Rattle.workflow.specs.View.{Workflow, workflow, at, cell, no_node, node_at, route_at, limit_at, declared_at, node_rows, route_rows, limit_rows, declared_rows}
use Rattle.workflow.specs.RowLaws.{route_row, limit_row, declared_row, found_first}
use Rattle.workflow.specs.Lookup.{is_0_2, node_of, policy_of, are, is_route, route_of, routed, is_declared, declares}
use Rattle.graph.specs.declared.search.Rows.{Rows}
use Rattle.graph.specs.RowsOf.{rows_of, Within}
use Rattle.graph.specs.Lowest.{lowest}
use Rattle.graph.specs.Form.{formed_route, formed_limit, formed_declared, form}
use Rattle.graph.specs.Rules.{within, breaks_1, of_action, reserved, declared_twice, breaks_7, of_node, unrouted, may_route_exhausted, extra, leads_nowhere, breaks_9, limit_of_node, one_above, bad_limit}
use Rattle.graph.specs.SearchLaws.{Cut, cuts, the_cut, rows_below, Rising, ascending_rising, first_skip, first_none, form_sorted, parts_of, routes_ascend, limits_ascend, declared_rise}

-- WHAT THE CONTRACTS CITE.
-- Numbers that have a mark.
abbrev pub AreOutcomes : List ℕ → Type 0
AreOutcomes outcomes = All (λ outcome. outcome < 256) outcomes

-- Marks for outcomes: none; those of a list; failed, and exhausted where two holds; and with those an activity may route besides.
abbrev pub no_marks : List Bool
no_marks = replicate 256 false

unfoldable pub mark_all : List Bool → List ℕ → List Bool
mark_all m [] = m
mark_all m (x ∷ xs) = mark_all (set m x true) xs

unfoldable pub marked : List ℕ → List Bool
marked outcomes = mark_all no_marks outcomes

abbrev pub reserved_marks : (two : Bool) → List Bool
reserved_marks t = set (set no_marks failed true) exhausted t

abbrev pub known : List Bool → (exhausted : Bool) → List Bool
known m e = set (set m failed true) exhausted (get_or (set m failed true) exhausted false or e)

-- The number is not marked; some number is marked, or stands in the list before.
abbrev pub unmarked : List Bool → (outcome : ℕ) → Bool
unmarked m outcome = not (get_or m outcome false)

unfoldable pub again : List Bool → List ℕ → Bool
again m [] = false
again m (x ∷ xs) = get_or m x false or again (set m x true) xs

-- A limit that is 0 or not below the most visits.
unfoldable pub out_of_range : (most limit : ℕ) → Bool
out_of_range k x = eqb x 0 or ltb k (one_above x)

-- A limit that is out of range, or whose outcome is not marked.
abbrev pub bad_row : List Bool → (most : ℕ) → ℕ × ℕ → Bool
bad_row m most row = unmarked m row.0 or out_of_range most row.1

-- Parts of rules 8, 9 and 12.
unfoldable pub misroutes : Workflow → (node action : ℕ) → Bool
misroutes f n a = some (unrouted f n a) f.declared or some (extra f n a) f.routes or some (leads_nowhere f n) f.routes

unfoldable pub routes_exhausted : Workflow → (node : ℕ) → Bool
routes_exhausted f n = is_0_2 f and routed f n exhausted and not (may_route_exhausted f n)

unfoldable pub misses : Workflow → (node : ℕ) → Bool
misses f n = some (bad_limit f n) f.limits or not (routed f n exhausted)

-- The rows of the key n stand from a to b.
pub record Group (w : List ℕ) (c k n a b : ℕ) : Type 0 where
  pub formed : form (workflow w) ≡ true
  pub from : a ≡ rows_below w c k n
  pub to : b ≡ rows_below w c k (n + 1)

abbrev pub RoutesOf : List ℕ → (node : ℕ) → Rows → Type 0
RoutesOf w n rows = Group w layout.route_node (route_rows w) n rows.from rows.to

abbrev pub LimitsOf : List ℕ → (node : ℕ) → Rows → Type 0
LimitsOf w n rows = Group w layout.limit_node (limit_rows w) n rows.from rows.to

abbrev pub DeclaredOf : List ℕ → (action : ℕ) → Rows → Type 0
DeclaredOf w n rows = Group w layout.declared_action (declared_rows w) n rows.from rows.to

-- A group by the count that the code has.
pub the_group : {w : List ℕ} {c k k' n : ℕ} {rows : Rows} → form (workflow w) ≡ true → k ≡ k' → rows ≡ rows_of w c k n → Group w c k' n rows.from rows.to
the_group {w} {c} {k} {k'} {n} {rows} f e h = record { formed = f; from = rw e at (ap (λ (r : Rows). r.from) h); to = rw e at (ap (λ (r : Rows). r.to) h) }

-- Some number from a to b passes, and numbers of a column that have a mark.
abbrev some_in : (a b : ℕ) → (ℕ → Bool) → Bool
some_in a b p = some p (span (λ j. j) a b)

abbrev Outcomes : List ℕ → (column from to : ℕ) → Type 0
Outcomes w c a b = (j : ℕ) → a ≤ j → j < b → cell w c j < 256

are_outcomes : (f : ℕ → ℕ) (b a : ℕ) → ((j : ℕ) → a ≤ j → j < b → f j < 256) → AreOutcomes (span f a b)
unfolding span
are_outcomes f b a h k d l =
    let n = length_rows f a (b - a) in
    rw (get_d_rows f a (b - a) k d (omega arith)) (h (a + k) (omega arith) (omega arith))

-- TESTS.
not_not : (x : Bool) → not (not x) ≡ x
not_not true = refl
not_not false = refl

or_true : (x : Bool) → true ≡ x or true
unfolding ◌or◌
or_true true = refl
or_true false = refl

or_assoc : (x y z : Bool) → (x or y) or z ≡ x or (y or z)
unfolding ◌or◌
or_assoc true y z = refl
or_assoc false y z = refl

or_swap : (x y z : Bool) → (x or y) or z ≡ y or (x or z)
unfolding ◌or◌
or_swap true true z = refl
or_swap true false z = refl
or_swap false y z = refl

or_cross : (x y u v : Bool) → (x or y) or (u or v) ≡ (x or u) or (y or v)
unfolding ◌or◌
or_cross true y u v = refl
or_cross false true true v = refl
or_cross false true false v = refl
or_cross false false u v = refl

eqb_sym : (x y : ℕ) → eqb x y ≡ eqb y x
eqb_sym x y = split (eqb y x) (λ e. rw e (eq-eqb x y (sym (eqb-true y x e)))) (λ e. rw e (ne_eqb x y (λ d. eqb-false y x e (sym d))))

-- A SEARCH OF A PART. To a test that is only passed or not the places do not matter.
some_at : {A : Type 0} (p : A → Bool) (i j : ℕ) (xs : List A) → first p (λ _ _. true) false i xs ≡ first p (λ _ _. true) false j xs
unfolding first when◌then◌else◌
some_at p i j [] = refl
some_at p i j (x ∷ xs) = split (p x) (λ h. rw h) (λ h. rw h (some_at p (i + 1) (j + 1) xs))

some_cons : {A : Type 0} (p : A → Bool) (x : A) (xs : List A) → some p (x ∷ xs) ≡ p x or some p xs
unfolding first when◌then◌else◌ ◌or◌
some_cons p x xs = split (p x) (λ h. rw h) (λ h. rw h (some_at p (0 + 1) 0 xs))

none_in : (s : ℕ → Bool) (i : ℕ) → some_in i i s ≡ false
unfolding first
none_in s i = rw (span_none (λ j. j) i i (omega arith))

more_in : (s : ℕ → Bool) (i b : ℕ) → i < b → some_in i b s ≡ s i or some_in (i + 1) b s
more_in s i b h = rw (span_more (λ j. j) i b h) (some_cons s i (span (λ j. j) (i + 1) b))

or_in : (p q : ℕ → Bool) (d i b : ℕ) → b ≡ i + d → some_in i b (λ j. p j or q j) ≡ some_in i b p or some_in i b q
unfolding ◌or◌
or_in p q zero i b e =
    let z : b ≡ i = omega arith in
    rw (z, none_in p i, none_in q i) (none_in (λ j. p j or q j) i)
or_in p q (suc d) i b e =
    let h : i < b = omega arith in
    rw (more_in (λ j. p j or q j) i b h, more_in p i b h, more_in q i b h, or_in p q d (i + 1) b (omega arith)) (or_cross (p i) (q i) (some_in (i + 1) b p) (some_in (i + 1) b q))

-- Rows that pass only in a part.
module _ {A : Type 0} (q : A → Bool) (f : ℕ → A) (k : ℕ) where
  some_skip : (m i : ℕ) → i + m ≤ k → ((j : ℕ) → i ≤ j → j < i + m → q (f j) ≡ false) → some q (span f i k) ≡ some q (span f (i + m) k)
  some_skip m i h n = some_at q 0 i _ ∙ first_skip q (λ _ _. true) false f k m i h n ∙ some_at q (i + m) 0 _

  none_from : (i : ℕ) → i ≤ k → ((j : ℕ) → i ≤ j → j < k → q (f j) ≡ false) → some q (span f i k) ≡ false
  unfolding first
  none_from i h n =
      let z : i + (k - i) ≡ k = omega arith in
      some_skip (k - i) i (omega arith) (λ j a b. n j a (omega arith)) ∙ rw (z, span_none f k k (omega arith))

  module _ (s : ℕ → Bool) (b : ℕ) (within : b ≤ k) (past : (j : ℕ) → b ≤ j → j < k → q (f j) ≡ false) where
    some_trim : (m i : ℕ) → b ≡ i + m → ((j : ℕ) → i ≤ j → j < b → q (f j) ≡ s j) → some q (span f i k) ≡ some_in i b s
    some_trim zero i e t =
        let z : b ≡ i = omega arith in
        none_from i (omega arith) (λ j l h. past j (omega arith) h) ∙ rw z (sym (none_in s i))
    some_trim (suc m) i e t =
        rw (span_more f i k (omega arith), some_cons q, more_in s i b (omega arith), t i (omega arith) (omega arith))
        (ap (λ r. s i or r) (some_trim m (i + 1) (omega arith) (λ j l h. t j (omega arith) h)))

-- A test of numbers as one of places.
some_of : {A : Type 0} (g : ℕ → A) (b : ℕ) (p : A → Bool) (d i : ℕ) → b ≡ i + d → some p (span g i b) ≡ some_in i b (λ j. p (g j))
some_of g b p d i e = some_trim p g b (λ j. p (g j)) b (omega arith) (λ j l h. absurd (omega arith)) d i e (λ j l h. refl)

-- Two columns side by side.
zip_rows : (f g : ℕ → ℕ) (k i : ℕ) → zip (rows f i k) (rows g i k) ≡ rows (λ j. (f j, g j)) i k
unfolding rows
zip_rows f g zero i = refl
zip_rows f g (suc k) i = ap (λ r. (f i, g i) ∷ r) (zip_rows f g k (i + 1))

zip_span : (f g : ℕ → ℕ) (i k : ℕ) → zip (span f i k) (span g i k) ≡ span (λ j. (f j, g j)) i k
unfolding span
zip_span f g i k = zip_rows f g (k - i) i

-- MARKS. What is marked after one more.
module _ (m : List Bool) (x : ℕ) (v : Bool) (long : length m ≡ 256) (small : x < 256) (o : ℕ) where
  mark_at : get_or (set m x v) o false ≡ (when eqb o x then v else get_or m o false)
  unfolding when◌then◌else◌
  mark_at =
      split (eqb o x) (λ e. let z : o ≡ x = eqb-true o x e in rw (e, z) (get_or-set_same m x v false (omega arith)))
      (λ e. rw e (get_or-set_other m x o v false (eqb-false o x e)))

mark_one : (m : List Bool) (x : ℕ) → length m ≡ 256 → x < 256 → (o : ℕ) → get_or (set m x true) o false ≡ eqb x o or get_or m o false
unfolding when◌then◌else◌ ◌or◌
mark_one m x long small o = mark_at m x true long small o ∙ split (eqb o x) (λ e. rw (eqb_sym x o, e)) (λ e. rw (eqb_sym x o, e))

module _ (g : ℕ → ℕ) (b o : ℕ) where
  mark_has : (d i : ℕ) (m : List Bool) → length m ≡ 256 → b ≡ i + d → ((j : ℕ) → i ≤ j → j < b → g j < 256)
      → get_or (mark_all m (span g i b)) o false ≡ get_or m o false or some_in i b (λ j. eqb (g j) o)
  unfolding mark_all
  mark_has zero i m long e small =
      let z : b ≡ i = omega arith in
      rw (z, span_none g i i (omega arith), none_in (λ j. eqb (g j) o) i) (or_false (get_or m o false))
  mark_has (suc d) i m long e small =
      rw (span_more g i b (omega arith), more_in (λ j. eqb (g j) o) i b (omega arith))
      (mark_has d (i + 1) (set m (g i) true) (length-set m (g i) true ∙ long) (omega arith) (λ j l h. small j (omega arith) h)
      ∙ ap (λ r. r or some_in (i + 1) b (λ j. eqb (g j) o)) (mark_one m (g i) long (small i (omega arith) (omega arith)) o)
      ∙ or_swap (eqb (g i) o) (get_or m o false) (some_in (i + 1) b (λ j. eqb (g j) o)))

marked_has : (w : List ℕ) (c a b o : ℕ) → a ≤ b → Outcomes w c a b → o < 256 → get_or (marked (span (cell w c) a b)) o false ≡ some_in a b (λ j. eqb (cell w c j) o)
unfolding marked ◌or◌
marked_has w c a b o l s h =
    mark_has (cell w c) b o (b - a) a no_marks (length-replicate 256 false) (omega arith) s
    ∙ rw (get_or-replicate 256 o false false h)

mark_all_long : (m : List Bool) (xs : List ℕ) → length (mark_all m xs) ≡ length m
unfolding mark_all
mark_all_long m [] = refl
mark_all_long m (x ∷ xs) = mark_all_long (set m x true) xs ∙ length-set m x true

marked_long : (xs : List ℕ) → length (marked xs) ≡ 256
unfolding marked
marked_long xs = mark_all_long no_marks xs ∙ length-replicate 256 false

reserved_long : (t : Bool) → length (reserved_marks t) ≡ 256
reserved_long t = length-set (set no_marks failed true) exhausted t ∙ length-set no_marks failed true ∙ length-replicate 256 false

-- What is left of a list from place i on.
left_at : (xs : List ℕ) (i : ℕ) → i < length xs → drop i xs ≡ get_or xs i 0 ∷ drop (i + 1) xs
left_at xs i h = rw add-one (drop-cons xs i 0 h)

-- A loop that marks the numbers of a list: m has the marks of those before place i.
pub record Marking (xs : List ℕ) (m : List Bool) (i : ℕ) : Type 0 where
  pub long : length m ≡ 256
  pub left : mark_all m (drop i xs) ≡ marked xs

module _ {xs : List ℕ} where
  pub marking_start : Marking xs no_marks 0
  unfolding marked
  marking_start = record { long = length-replicate 256 false; left = refl }

  module _ {m : List Bool} {i : ℕ} (inv : Marking xs m i) where
    pub marking_next : i < length xs → Marking xs (set m (get_or xs i 0) true) (i + 1)
    unfolding mark_all
    marking_next h = record { long = length-set m (get_or xs i 0) true ∙ inv.long; left = rw (left_at xs i h) at inv.left }

    pub marking_end : length xs ≤ i → m ≡ marked xs
    unfolding mark_all
    marking_end h = rw (drop_of_length-le xs h) at inv.left

-- A loop that looks for a number that is marked already.
pub record Again (xs : List ℕ) (whole : Bool) (m : List Bool) (i : ℕ) : Type 0 where
  pub long : length m ≡ 256
  pub left : again m (drop i xs) ≡ whole

module _ {xs : List ℕ} {whole : Bool} {m : List Bool} {i : ℕ} (inv : Again xs whole m i) where
  pub again_hit : i < length xs → get_or m (get_or xs i 0) false ≡ true → true ≡ whole
  unfolding again ◌or◌
  again_hit h t = rw (left_at xs i h, t) at inv.left

  pub again_miss : i < length xs → get_or m (get_or xs i 0) false ≡ false → Again xs whole (set m (get_or xs i 0) true) (i + 1)
  unfolding again ◌or◌
  again_miss h t = record { long = length-set m (get_or xs i 0) true ∙ inv.long; left = rw (left_at xs i h, t) at inv.left }

  pub again_end : length xs ≤ i → false ≡ whole
  unfolding again
  again_end h = rw (drop_of_length-le xs h) at inv.left

-- OUTCOMES of rows that fit are small.
small_at : {A : Type 0} (p : A → Bool) (o : A → ℕ) (f : ℕ → A) (k : ℕ) → ((x : A) → p x ≡ true → ltb (o x) none ≡ true) → every p (span f 0 k) ≡ true → (j : ℕ) → j < k → o (f j) < 256
small_at p o f k t e j h =
    let l = ltb-true (o (f j)) none (t (f j) (every_in p e (in_span f k 0 k j (omega arith) (omega arith) h))) in
    omega arith

module _ (w : List ℕ) (formed : form (workflow w) ≡ true) where
  pub routes_rise : Rising w layout.route_node (route_rows w)
  routes_rise = ascending_rising (routes_ascend w (form_sorted (workflow w) formed))

  pub limits_rise : Rising w layout.limit_node (limit_rows w)
  limits_rise = ascending_rising (limits_ascend w (form_sorted (workflow w) formed))

  pub actions_rise : Rising w layout.declared_action (declared_rows w)
  actions_rise = declared_rise w (form_sorted (workflow w) formed)

  route_outcome_small : (j : ℕ) → j < route_rows w → cell w layout.route_outcome j < 256
  unfolding formed_route
  route_outcome_small j h = rw (route_row w j h) at (small_at (formed_route (workflow w)) (λ x. x.outcome) (route_at w) _ (λ x t. (both _ _ t).1) (parts_of _ formed).routes_fit j h)

  limit_outcome_small : (j : ℕ) → j < limit_rows w → cell w layout.limit_outcome j < 256
  unfolding formed_limit
  limit_outcome_small j h = rw (limit_row w j h) at (small_at (formed_limit (workflow w)) (λ x. x.outcome) (limit_at w) _ (λ x t. (both _ _ (both _ _ t).1).1) (parts_of _ formed).limits_fit j h)

  declared_outcome_small : (j : ℕ) → j < declared_rows w → cell w layout.declared_outcome j < 256
  unfolding formed_declared
  declared_outcome_small j h = rw (declared_row w j h) at (small_at (formed_declared (workflow w)) (λ x. x.outcome) (declared_at w) _ (λ x t. (both _ _ t).1) (parts_of _ formed).declared_fit j h)

-- THE ROWS OF A KEY.
module _ {w : List ℕ} {c k n a b : ℕ} (rising : Rising w c k) (g : Group w c k n a b) where
  low : Cut (λ j. ltb (cell w c j) n) k a
  unfolding rows_below
  low = rw g.from (cuts _ k)

  high : Cut (λ j. ltb (cell w c j) (n + 1)) k b
  unfolding rows_below
  high = rw g.to (cuts _ k)

  ordered : a ≤ b
  ordered =
      split (ltb b a)
      (λ e.
      let l = ltb-true b a e in
      let v = low.within in
      let x = ltb-true (cell w c b) n (low.below b l) in
      let y = ltb-false (cell w c b) (n + 1) (high.fails (omega arith)) in
      absurd (omega arith))
      (λ e. ltb-false b a e)

  inside : (j : ℕ) → a ≤ j → j < b → eqb (cell w c j) n ≡ true
  inside j l h =
      let v = high.within in
      let x = ltb-true (cell w c j) (n + 1) (high.below j h) in
      let y = ltb-false (cell w c a) n (low.fails (omega arith)) in
      let z = rising.rise a j l (omega arith) in
      eq-eqb (cell w c j) n (omega arith)

  before : (j : ℕ) → j < a → eqb (cell w c j) n ≡ false
  before j h = let x = ltb-true (cell w c j) n (low.below j h) in ne_eqb (cell w c j) n (λ e. omega arith)

  after : (j : ℕ) → b ≤ j → j < k → eqb (cell w c j) n ≡ false
  after j l h =
      let y = ltb-false (cell w c b) (n + 1) (high.fails (omega arith)) in
      let z = rising.rise b j l h in
      ne_eqb (cell w c j) n (λ e. omega arith)

  -- rows that pass only where their key is n
  narrow : {A : Type 0} (q : A → Bool) (f : ℕ → A) (s : ℕ → Bool) → ((j : ℕ) → j < k → q (f j) ≡ eqb (cell w c j) n and s j) → some q (span f 0 k) ≡ some_in a b s
  unfolding ◌and◌
  narrow q f s t =
      let u = ordered in
      let v = high.within in
      let z : 0 + a ≡ a = omega arith in
      rw z at (some_skip q f k a 0 (omega arith) (λ j l h. t j (omega arith) ∙ rw (before j (omega arith))))
      ∙ some_trim q f k s b v (λ j l h. t j h ∙ rw (after j l h)) (b - a) a (omega arith) (λ j l h. t j (omega arith) ∙ rw (inside j l h))

  -- some row has the key
  any_in : {A : Type 0} (q : A → Bool) (f : ℕ → A) → ((j : ℕ) → j < k → q (f j) ≡ eqb (cell w c j) n) → some q (span f 0 k) ≡ not (eqb a b)
  unfolding ◌or◌
  any_in q f t =
      let l = ordered in
      narrow q f (λ _. true) (λ j h. t j h ∙ and_true (eqb (cell w c j) n))
      ∙ split (eqb a b)
      (λ e. let z : a ≡ b = eqb-true a b e in rw (e, z) (none_in (λ _. true) b))
      (λ e. let d = eqb-false a b e in rw (e, more_in (λ _. true) a b (omega arith)))

  -- as a test of the numbers in a column
  among : {A : Type 0} (q : A → Bool) (f : ℕ → A) (d : ℕ) (p : ℕ → Bool) → ((j : ℕ) → j < k → q (f j) ≡ eqb (cell w c j) n and p (cell w d j)) → some q (span f 0 k) ≡ some p (span (cell w d) a b)
  among q f d p t = let u = ordered in narrow q f (λ j. p (cell w d j)) t ∙ sym (some_of (cell w d) b p (b - a) a (omega arith))

  -- a part of a column
  part_within : (d : ℕ) → d + k ≤ layout.numbers → (rows : Rows) → rows.from ≡ a → rows.to ≡ b → Within d rows
  part_within d l rows e f = let v = high.within in let u = ordered in record { ordered = omega arith; fits = omega arith }

  part_small : (d : ℕ) → ((j : ℕ) → j < k → cell w d j < 256) → Outcomes w d a b
  part_small d s j _ h = let v = high.within in s j (omega arith)

  part_outcomes : (d : ℕ) → ((j : ℕ) → j < k → cell w d j < 256) → AreOutcomes (span (cell w d) a b)
  part_outcomes d s = are_outcomes (cell w d) b a (part_small d s)

-- The routes of a node.
module _ {w : List ℕ} {n a b : ℕ} (g : Group w layout.route_node (route_rows w) n a b) where
  routes_up : Rising w layout.route_node (route_rows w)
  routes_up = routes_rise w g.formed

  pub routes_outcomes : AreOutcomes (span (cell w layout.route_outcome) a b)
  routes_outcomes = part_outcomes routes_up g layout.route_outcome (route_outcome_small w g.formed)

  pub routed_among : (o : ℕ) → routed (workflow w) n o ≡ some (λ x. eqb x o) (span (cell w layout.route_outcome) a b)
  unfolding route_of are
  routed_among o =
      found_first (is_route n o) (λ x. x.target) 0 (workflow w).routes
      ∙ among routes_up g (is_route n o) (route_at w) layout.route_outcome (λ x. eqb x o) (λ j l. rw (route_row w j l))

  pub routed_marked : (o : ℕ) → o < 256 → get_or (marked (span (cell w layout.route_outcome) a b)) o false ≡ routed (workflow w) n o
  routed_marked o h =
      let u = ordered routes_up g in
      marked_has w layout.route_outcome a b o u (part_small routes_up g layout.route_outcome (route_outcome_small w g.formed)) h
      ∙ sym (routed_among o ∙ some_of (cell w layout.route_outcome) b (λ x. eqb x o) (b - a) a (omega arith))

  pub routes_any : some (of_node n) (workflow w).routes ≡ not (eqb a b)
  routes_any = any_in routes_up g (of_node n) (route_at w) (λ j l. rw (route_row w j l))

  pub nowhere_among : some (leads_nowhere (workflow w) n) (workflow w).routes ≡ some (leb (at w layout.node_count)) (span (cell w layout.route_target) a b)
  unfolding leads_nowhere
  nowhere_among = among routes_up g (leads_nowhere (workflow w) n) (route_at w) layout.route_target (leb (at w layout.node_count)) (λ j l. rw (route_row w j l))

pub routes_within : {w : List ℕ} {n : ℕ} {rows : Rows} → RoutesOf w n rows → (column : ℕ) → column + route_room ≤ layout.numbers → Within column rows
routes_within g c l = part_within (routes_up g) g c (omega arith) _ refl refl

-- The loop limits of a node.
module _ {w : List ℕ} {n a b : ℕ} (g : Group w layout.limit_node (limit_rows w) n a b) where
  limits_up : Rising w layout.limit_node (limit_rows w)
  limits_up = limits_rise w g.formed

  pub limits_outcomes : AreOutcomes (span (cell w layout.limit_outcome) a b)
  limits_outcomes = part_outcomes limits_up g layout.limit_outcome (limit_outcome_small w g.formed)

  pub limits_any : some (limit_of_node n) (workflow w).limits ≡ not (eqb a b)
  limits_any = any_in limits_up g (limit_of_node n) (limit_at w) (λ j l. rw (limit_row w j l))

pub limits_within : {w : List ℕ} {n : ℕ} {rows : Rows} → LimitsOf w n rows → (column : ℕ) → column + limit_room ≤ layout.numbers → Within column rows
limits_within g c l = part_within (limits_up g) g c (omega arith) _ refl refl

-- The outcomes that an action declares.
module _ {w : List ℕ} {n a b : ℕ} (g : Group w layout.declared_action (declared_rows w) n a b) where
  declared_up : Rising w layout.declared_action (declared_rows w)
  declared_up = actions_rise w g.formed

  pub declared_outcomes : AreOutcomes (span (cell w layout.declared_outcome) a b)
  declared_outcomes = part_outcomes declared_up g layout.declared_outcome (declared_outcome_small w g.formed)

  declares_marked : (o : ℕ) → o < 256 → get_or (marked (span (cell w layout.declared_outcome) a b)) o false ≡ declares (workflow w) n o
  unfolding declares are
  declares_marked o h =
      marked_has w layout.declared_outcome a b o (ordered declared_up g) (part_small declared_up g layout.declared_outcome (declared_outcome_small w g.formed)) h
      ∙ sym (narrow declared_up g (is_declared n o) (declared_at w) (λ j. eqb (cell w layout.declared_outcome j) o) (λ j l. rw (declared_row w j l)))

  declared_any : some (of_action n) (workflow w).declared ≡ not (eqb a b)
  declared_any = any_in declared_up g (of_action n) (declared_at w) (λ j l. rw (declared_row w j l))

pub declared_within : {w : List ℕ} {n : ℕ} {rows : Rows} → DeclaredOf w n rows → (column : ℕ) → column + declared_room ≤ layout.numbers → Within column rows
declared_within g c l = part_within (declared_up g) g c (omega arith) _ refl refl

-- A WALK over the nodes or actions up to `total`, with the rows of each.
pub record Walking {B : Type 0} (p : ℕ → Bool) (v : ℕ → ℕ → B) (e : B) (w : List ℕ) (c k total from i : ℕ) (whole : B) : Type 0 where
  pub place : from ≡ rows_below w c k i
  pub seek : Seek p v e (λ j. j) total i whole

pub first_place : (w : List ℕ) (c k : ℕ) → 0 ≡ rows_below w c k 0
unfolding rows_below
first_place w c k = the_cut (record { within = omega arith; below = λ j h. absurd (omega arith); fails = λ h. le-ltb (cell w c 0) 0 (omega arith) })

pub walk_start : {B : Type 0} {p : ℕ → Bool} {v : ℕ → ℕ → B} {e : B} {w : List ℕ} {c k total : ℕ} → Walking p v e w c k total 0 0 (first p v e 0 (span (λ j. j) 0 total))
walk_start = record { place = first_place _ _ _; seek = seek_start }

-- RULE 1.
module _ (w : List ℕ) where
  params_at : (i : ℕ) → i < node_rows w → (node_of (workflow w) i).has_params ≡ cell w layout.node_has_params i
  unfolding node_of node_at
  params_at i h = sym (ap (λ x. x.has_params) (at_span (node_at w) _ i no_node h (sym (if_true _ _ _ (lt-ltb i node_room (omega arith))))))

  pub with_params : (i : ℕ) → i < node_rows w → is_0_2 (workflow w) ≡ false → eqb (cell w layout.node_has_params i) 1 ≡ breaks_1 (workflow w) i
  unfolding ◌and◌
  with_params i h f = rw (params_at i h, f)

  pub no_params : is_0_2 (workflow w) ≡ true → None ≡ lowest (at w layout.node_count) (breaks_1 (workflow w))
  unfolding ◌and◌
  no_params e =
      first_none (breaks_1 (workflow w)) (λ _ n. Some n) None (λ n. n) (at w layout.node_count) (λ _. false) (λ j h. rw e) {c = at w layout.node_count}
      (the_cut (record { within = omega arith; below = λ j h. refl; fails = λ h. absurd (omega arith) }))
      (omega arith)

-- RULE 7. Some number stands in the list twice.
twice : List ℕ → Bool
twice [] = false
twice (x ∷ xs) = some (λ y. eqb y x) xs or twice xs

-- what is marked at first, or stands twice
again_is : (g : ℕ → ℕ) (b d i : ℕ) (m : List Bool) → length m ≡ 256 → b ≡ i + d → ((j : ℕ) → i ≤ j → j < b → g j < 256)
    → again m (span g i b) ≡ some_in i b (λ j. get_or m (g j) false) or twice (span g i b)
unfolding again twice ◌or◌
again_is g b zero i m long e small =
    let z : b ≡ i = omega arith in
    rw (z, span_none g i i (omega arith), none_in (λ j. get_or m (g j) false) i)
again_is g b (suc d) i m long e small =
    let s = small i (omega arith) (omega arith) in
    let twin : ℕ → Bool = λ j. eqb (g j) (g i) in
    let old : ℕ → Bool = λ j. get_or m (g j) false in
    let t : some_in (i + 1) b (λ j. get_or (set m (g i) true) (g j) false) ≡ some_in (i + 1) b twin or some_in (i + 1) b old =
    simp (mark_one m (g i) long s, eqb_sym (g i)) (or_in twin old d (i + 1) b (omega arith)) in
    rw (span_more g i b (omega arith), more_in old i b (omega arith), some_of g b (λ y. eqb y (g i)) d (i + 1) (omega arith))
    (rw (again_is g b d (i + 1) (set m (g i) true) (length-set m (g i) true ∙ long) (omega arith) (λ j l h. small j (omega arith) h), t)
    (shuffle (old i) (some_in (i + 1) b twin) (some_in (i + 1) b old) (twice (span g (i + 1) b))))
  where
    shuffle : (x y u v : Bool) → x or ((y or u) or v) ≡ (x or u) or (y or v)
    shuffle true y u v = refl
    shuffle false true true v = refl
    shuffle false true false v = refl
    shuffle false false u v = refl

reserved_has : (t : Bool) (o : ℕ) → o < 256 → get_or (reserved_marks t) o false ≡ eqb o failed or t and eqb o exhausted
unfolding when◌then◌else◌ ◌or◌ ◌and◌
reserved_has t o h =
    let l = length-replicate 256 false in
    mark_at (set no_marks failed true) exhausted t (length-set no_marks failed true ∙ l) (omega arith) o
    ∙ rw (mark_at no_marks failed true l (omega arith) o, get_or-replicate 256 o false false h)
    (split (eqb o exhausted)
    (λ e. let z : o ≡ exhausted = eqb-true o exhausted e in rw z (split t (λ i. rw i) (λ i. rw i)))
    (λ e. rw e (split (eqb o failed) (λ i. rw i) (λ i. rw i (split t (λ u. rw u) (λ u. rw u))))))

module _ {w : List ℕ} {n a b : ℕ} (g : Group w layout.declared_action (declared_rows w) n a b) where
  reserved_in : some (reserved (workflow w) n) (workflow w).declared ≡ some_in a b (λ j. get_or (reserved_marks (is_0_2 (workflow w))) (cell w layout.declared_outcome j) false)
  unfolding reserved
  reserved_in =
      narrow (declared_up g) g (reserved (workflow w) n) (declared_at w) _
      (λ j l. rw (declared_row w j l, reserved_has (is_0_2 (workflow w)) (cell w layout.declared_outcome j) (declared_outcome_small w g.formed j l)))

  of_row : (j : ℕ) → j < declared_rows w → of_action n (declared_at w j) ≡ eqb (cell w layout.declared_action j) n
  of_row j h = rw (declared_row w j h)

  -- rows of other actions
  twice_skip : (m i : ℕ) → i + m ≤ declared_rows w → ((j : ℕ) → i ≤ j → j < i + m → eqb (cell w layout.declared_action j) n ≡ false)
      → declared_twice n (span (declared_at w) i (declared_rows w)) ≡ declared_twice n (span (declared_at w) (i + m) (declared_rows w))
  unfolding declared_twice ◌and◌ ◌or◌
  twice_skip zero i h t =
      let z : i + 0 ≡ i = omega arith in
      rw z
  twice_skip (suc m) i h t =
      let z : i + suc m ≡ i + 1 + m = omega arith in
      rw (span_more (declared_at w) i (declared_rows w) (omega arith), of_row i (omega arith), t i (omega arith) (omega arith), z)
      (twice_skip m (i + 1) (omega arith) (λ j l k. t j (omega arith) (omega arith)))

  -- an outcome is declared from i on
  again_in : (o i : ℕ) → a ≤ i → i ≤ b → some (is_declared n o) (span (declared_at w) i (declared_rows w)) ≡ some (λ y. eqb y o) (span (cell w layout.declared_outcome) i b)
  unfolding are ◌and◌
  again_in o i l h =
      let v = (high (declared_up g) g).within in
      some_trim (is_declared n o) (declared_at w) (declared_rows w) (λ j. eqb (cell w layout.declared_outcome j) o) b v
      (λ j k u. rw (declared_row w j u, after (declared_up g) g j k u))
      (b - i)
      i
      (omega arith)
      (λ j k u. rw (declared_row w j (omega arith), inside (declared_up g) g j (omega arith) u))
      ∙ sym (some_of (cell w layout.declared_outcome) b (λ y. eqb y o) (b - i) i (omega arith))

  twice_trim : (d i : ℕ) → a ≤ i → b ≡ i + d → declared_twice n (span (declared_at w) i (declared_rows w)) ≡ twice (span (cell w layout.declared_outcome) i b)
  unfolding declared_twice twice ◌and◌
  twice_trim zero i l e =
      let v = (high (declared_up g) g).within in
      let z : i + (declared_rows w - i) ≡ declared_rows w = omega arith in
      let y : b ≡ i = omega arith in
      twice_skip (declared_rows w - i) i (omega arith) (λ j k h. after (declared_up g) g j (omega arith) (omega arith))
      ∙ rw (z, span_none (declared_at w) (declared_rows w) (declared_rows w) (omega arith), y, span_none (cell w layout.declared_outcome) i i (omega arith))
  twice_trim (suc d) i l e =
      let v = (high (declared_up g) g).within in
      rw (span_more (declared_at w) i (declared_rows w) (omega arith), span_more (cell w layout.declared_outcome) i b (omega arith), of_row i (omega arith), inside (declared_up g) g i l (omega arith), twice_trim d (i + 1) (omega arith) (omega arith), declared_row w i (omega arith), again_in (cell w layout.declared_outcome i) (i + 1) (omega arith) (omega arith))

  twice_in : declared_twice n (workflow w).declared ≡ twice (span (cell w layout.declared_outcome) a b)
  twice_in =
      let v = (high (declared_up g) g).within in
      let u = ordered (declared_up g) g in
      let z : 0 + a ≡ a = omega arith in
      rw z at (twice_skip a 0 (omega arith) (λ j l h. before (declared_up g) g j (omega arith)))
      ∙ twice_trim (b - a) a (omega arith) (omega arith)

  -- a reserved outcome, or one that is declared twice
  again_declared : again (reserved_marks (is_0_2 (workflow w))) (span (cell w layout.declared_outcome) a b) ≡ some (reserved (workflow w) n) (workflow w).declared or declared_twice n (workflow w).declared
  again_declared =
      let u = ordered (declared_up g) g in
      again_is (cell w layout.declared_outcome) b (b - a) a (reserved_marks (is_0_2 (workflow w))) (reserved_long (is_0_2 (workflow w))) (omega arith) (part_small (declared_up g) g layout.declared_outcome (declared_outcome_small w g.formed))
      ∙ rw (reserved_in, twice_in)

  pub breaks_7_at : (k : ℕ) → breaks_7 (workflow w) k n ≡ eqb a b or again (reserved_marks (is_0_2 (workflow w))) (span (cell w layout.declared_outcome) a b) or not (within k (policy_of (workflow w) n).max_attempts)
  unfolding breaks_7
  breaks_7_at k = rw (declared_any g, not_not (eqb a b), again_declared, or_assoc _ _ _)

-- RULE 8. The declared outcomes with failed, and with exhausted where e holds.
known_has : (m : List Bool) (e : Bool) (o : ℕ) → length m ≡ 256 → get_or (known m e) o false ≡ eqb o failed or eqb o exhausted and e or get_or m o false
unfolding when◌then◌else◌ ◌or◌ ◌and◌
known_has m e o long =
    mark_at (set m failed true) exhausted _ (length-set m failed true ∙ long) (omega arith) o
    ∙ rw (mark_at m failed true long (omega arith) o, mark_at m failed true long (omega arith) exhausted)
    (split (eqb o exhausted)
    (λ h. let z : o ≡ exhausted = eqb-true o exhausted h in rw z (split e (λ u. rw u (sym (or_true _))) (λ u. rw u (sym (or_false _)))))
    (λ h. rw h (split (eqb o failed) (λ i. rw i) (λ i. rw i))))

module _ {w : List ℕ} {n a b : ℕ} (g : Group w layout.route_node (route_rows w) n a b) {x p q : ℕ} (d : Group w layout.declared_action (declared_rows w) x p q) where
  unrouted_among : some (unrouted (workflow w) n x) (workflow w).declared ≡ some (unmarked (marked (span (cell w layout.route_outcome) a b))) (span (cell w layout.declared_outcome) p q)
  unfolding unrouted
  unrouted_among =
      among (declared_up d) d (unrouted (workflow w) n x) (declared_at w) layout.declared_outcome _
      (λ j l. rw (declared_row w j l, routed_marked g (cell w layout.declared_outcome j) (declared_outcome_small w d.formed j l)))

  extra_among : some (extra (workflow w) n x) (workflow w).routes ≡ some (unmarked (known (marked (span (cell w layout.declared_outcome) p q)) (may_route_exhausted (workflow w) n))) (span (cell w layout.route_outcome) a b)
  unfolding extra
  extra_among =
      among (routes_up g) g (extra (workflow w) n x) (route_at w) layout.route_outcome _
      (λ j l. rw (route_row w j l, known_has (marked (span (cell w layout.declared_outcome) p q)) (may_route_exhausted (workflow w) n) (cell w layout.route_outcome j) (marked_long (span (cell w layout.declared_outcome) p q)), declares_marked d (cell w layout.route_outcome j) (route_outcome_small w g.formed j l)))

  -- the outcomes of both, and the targets
  pub misroutes_at : misroutes (workflow w) n x
      ≡ (some (unmarked (marked (span (cell w layout.route_outcome) a b))) (span (cell w layout.declared_outcome) p q)
      or some (unmarked (known (marked (span (cell w layout.declared_outcome) p q)) (may_route_exhausted (workflow w) n))) (span (cell w layout.route_outcome) a b)
      or some (leads_nowhere (workflow w) n) (workflow w).routes)
  unfolding misroutes
  misroutes_at = rw (unrouted_among, extra_among)

-- RULE 9.
pub breaks_9_at : {w : List ℕ} {n a b : ℕ} → Group w layout.route_node (route_rows w) n a b
    → breaks_9 (workflow w) n ≡ eqb (node_of (workflow w) n).kind await_signal and (eqb a b or routes_exhausted (workflow w) n or some (leads_nowhere (workflow w) n) (workflow w).routes)
unfolding breaks_9 routes_exhausted
breaks_9_at {a = a} {b = b} g = rw (routes_any g, not_not (eqb a b))

-- RULE 12. The marks but for exhausted.
unlike : (m : List Bool) (o : ℕ) → length m ≡ 256 → not (get_or (set m exhausted false) o false) ≡ eqb o exhausted or not (get_or m o false)
unfolding when◌then◌else◌ ◌or◌
unlike m o long = rw (mark_at m exhausted false long (omega arith) o) (split (eqb o exhausted) (λ h. rw h) (λ h. rw h))

-- With the marks m that the code has, exhausted is routed, or not.
module _ {w : List ℕ} {n a b : ℕ} (g : Group w layout.route_node (route_rows w) n a b) {m : List Bool} (e : m ≡ marked (span (cell w layout.route_outcome) a b)) where
  by_mark : {t : Bool} → get_or m exhausted false ≡ t → routed (workflow w) n exhausted ≡ t
  by_mark h = sym (routed_marked g exhausted (omega arith)) ∙ (rw e at h)

  pub exhausted_unrouted : get_or m exhausted false ≡ false → true ≡ misses (workflow w) n
  unfolding misses
  exhausted_unrouted h = rw (by_mark h) (or_true _)

  module _ {p q : ℕ} (l : Group w layout.limit_node (limit_rows w) n p q) where
    bad_limit_among : some (bad_limit (workflow w) n) (workflow w).limits
        ≡ some (bad_row (set (marked (span (cell w layout.route_outcome) a b)) exhausted false) (at w layout.max_visits_per_node)) (zip (span (cell w layout.limit_outcome) p q) (span (cell w layout.limit_limit) p q))
    unfolding bad_limit out_of_range
    bad_limit_among =
        let u = ordered (limits_up l) l in
        let bad = bad_row (set (marked (span (cell w layout.route_outcome) a b)) exhausted false) (at w layout.max_visits_per_node) in
        narrow (limits_up l) l (bad_limit (workflow w) n) (limit_at w) (λ j. bad (cell w layout.limit_outcome j, cell w layout.limit_limit j))
        (λ j i. rw (limit_row w j i, unlike (marked (span (cell w layout.route_outcome) a b)) (cell w layout.limit_outcome j) (marked_long (span (cell w layout.route_outcome) a b)), routed_marked g (cell w layout.limit_outcome j) (limit_outcome_small w l.formed j i), or_assoc (eqb (cell w layout.limit_outcome j) exhausted)))
        ∙ rw zip_span (sym (some_of (λ j. (cell w layout.limit_outcome j, cell w layout.limit_limit j)) q bad (q - p) p (omega arith)))

    pub misses_at : get_or m exhausted false ≡ true
        → misses (workflow w) n ≡ some (bad_row (set m exhausted false) (at w layout.max_visits_per_node)) (zip (span (cell w layout.limit_outcome) p q) (span (cell w layout.limit_limit) p q))
    unfolding misses
    misses_at h = rw (by_mark h, e) (sym (or_false _) ∙ bad_limit_among)
