-- Chains of iterators in this repository's words.
use Rattle.std.specs.Prelude.{◌≡◌, refl, Bool, true, false, List, [], ◌∷◌, ℕ, zero, suc, ◌+◌, ◌-◌, ◌≤◌, ◌<◌, length, get_or, Option, Some, None}
use Rattle.std.specs.Int.Bits.{bit_or}
use Rattle.std.proofs.lemmas.Bool.{eqb-false}
use Rattle.std.proofs.Common.{eqb, eqb-true, drop-cons, ◌++◌, sym, ◌∙◌, ap, arith}
use denote.Param.Members.{Mut}
use denote.Ref.{Bor}
use Rattle.std.specs.declared.ops.Range.{Range}
use Rattle.std.specs.Bool.{⊤, MatchBool}
use Rattle.std.specs.Option.{MatchOption, option_map}
use Rattle.std.specs.Fn.{Called, CalledAt}
use Rattle.std.specs.Iterator.Adapters.{take_while_source, take_while_done, take_while_callee, take_while_steps}
use Rattle.std.specs.declared.iter.TakeWhile.{TakeWhile}
use Rattle.std.proofs.lemmas.Iterator.Consumers.{count_from_yields_List}
use Rattle.std.proofs.lemmas.Iterator.Search.{YieldsList-from_take_while}
use Rattle.std.proofs.lemmas.List.Folds.{length-prefix_len}
use Rattle.std.specs.Iterator.{YieldsThen, Drains}
use Rattle.std.specs.List.{range_with_len, FoldsTo, AllWithin, HoldsAt, list_all, list_any, prefix_len}
use Rattle.std.proofs.iter.Yields.{nat_range_steps}
use Rattle.std.proofs.lemmas.Iterator.{YieldsList, YieldsList-from_range, cases_from_all, first_from_Range}
use Rattle.std.proofs.lemmas.Fn.{fold_over}
use Rattle.laws.specs.Bool.{when◌then◌else◌, ◌and◌, split, strict_and}
use Rattle.laws.specs.Rows.{rows, span, span_more, span_none}
use Rattle.laws.specs.Every.{every}
use Rattle.laws.specs.First.{first, some}
use Rattle.laws.specs.Zeros.{or_none}
use Rattle.std.specs.Prelude.{take, drop, false}

length_range : (a n : ℕ) → length (range_with_len a n) ≡ n
length_range a zero = refl
length_range a (suc n) = ap suc (length_range (a + 1) n)

get_range : (a n i d : ℕ) → i < n → get_or (range_with_len a n) i d ≡ a + i
get_range a zero i d h = absurd (omega arith)
get_range a (suc n) zero d h = omega arith
get_range a (suc n) (suc i) d h = get_range (a + 1) n i d (omega arith) ∙ omega arith

module _ (p : ℕ → Bool) where
  every_true : (n a : ℕ) → ((i : ℕ) → i < n → true ≡ p (a + i)) → true ≡ every p (rows (λ j. j) a n)
  unfolding every rows ◌and◌
  every_true zero a h = refl
  every_true (suc n) a h =
      let z : a + 0 ≡ a = omega arith in
      rw (← rw z at (h 0 (omega arith))) (every_true n (a + 1) (λ i l. let e : a + 1 + i ≡ a + suc i = omega arith in rw e (h (suc i) (omega arith))))

  every_false : (n a i : ℕ) → i < n → false ≡ p (a + i) → false ≡ every p (rows (λ j. j) a n)
  unfolding every rows ◌and◌
  every_false zero a i h f = absurd (omega arith)
  every_false (suc n) a zero h f =
      let z : a + 0 ≡ a = omega arith in
      rw (← rw z at f)
  every_false (suc n) a (suc i) h f =
      split (p a) (λ t. rw t (every_false n (a + 1) i (omega arith) (let e : a + 1 + i ≡ a + suc i = omega arith in rw e f))) (λ t. rw t)

-- `all` over the numbers from i to k, where each call of the closure gives p's answer.
module _ {F : Type 0} {g : Mut F (ℕ × Unit {0}) Bool} (p : ℕ → Bool) (i k : ℕ) (u : Range ℕ) (f : F) where
  pub range_all : (r : Bool)
      → (xs : List ℕ) × (o : Option ℕ) × (j : F) × YieldsThen nat_range_steps (record { start = i; end = k }) xs o u × FoldsTo (λ p x q. Called g p (x, tt) true q) f xs j × MatchOption o (r ≡ true) (λ x. (r ≡ false) × ((h : F) × Called g j (x, tt) false h))
      → ((x : ℕ) (b : Bool) (q : F) → Called g f (x, tt) b q → (q ≡ f) × (i ≤ x → x < k → b ≡ p x)) → r ≡ every p (span (λ j. j) i k)
  unfolding span
  range_all r d h =
      go r
      (cases_from_all {v = λ x. x} u f r (λ x. i ≤ x → x < k → true ≡ p x) (λ x. i ≤ x → x < k → false ≡ p x) d (YieldsList-from_range i k (k - i) refl refl) (λ x q c. h x true q c)
      (λ x q c. (h x false q c).1))
    where
      go : (r : Bool) → MatchBool r (AllWithin (λ x. i ≤ x → x < k → true ≡ p x) (range_with_len i (k - i)) 0 (length (range_with_len i (k - i)))) ((n : ℕ) × (n < length (range_with_len i (k - i))) × HoldsAt (λ x. i ≤ x → x < k → false ≡ p x) (range_with_len i (k - i)) n) → r ≡ every p (rows (λ j. j) i (k - i))
      go true a =
          every_true p (k - i) i (λ n l. let e = get_range i (k - i) n 0 l in let m = length_range i (k - i) in (rw e at (a n 0 (omega arith) (omega arith))) (omega arith) (omega arith))
      go false a =
          let m = length_range i (k - i) in
          let l : a.0 < k - i = omega (arith, a.1) in
          let e = get_range i (k - i) a.0 0 l in
          every_false p (k - i) i a.0 l ((rw e at (a.2 0)) (omega arith) (omega arith))

-- The first number that passes, by its place.
module _ {B : Type 0} (p : ℕ → Bool) (v : ℕ → B) (e : B) (k : ℕ) where
  first_at : (z m i : ℕ) → k ≡ i + m → i ≤ z → z < k → p z ≡ true → ((n : ℕ) → i ≤ n → n < z → p n ≡ false) → v z ≡ first p (λ _ n. v n) e i (span (λ n. n) i k)
  unfolding first when◌then◌else◌
  first_at z zero i h l u t f = absurd (omega arith)
  first_at z (suc m) i h l u t f =
      rw (span_more (λ n. n) i k (omega arith))
      (split (eqb z i)
      (λ q. let c : z ≡ i = eqb-true z i q in rw (rw c at t, c))
      (λ q.
      let d : z ≡ i → ⊥ = eqb-false z i q in
      rw (f i (omega arith) (omega arith)) (first_at z m (i + 1) (omega arith) (omega arith) u t (λ n a b. f n (omega arith) b))))

  first_none : (m i : ℕ) → k ≡ i + m → ((n : ℕ) → i ≤ n → n < k → p n ≡ false) → e ≡ first p (λ _ n. v n) e i (span (λ n. n) i k)
  unfolding first when◌then◌else◌
  first_none zero i h f = rw (span_none (λ n. n) i k (omega arith))
  first_none (suc m) i h f =
      rw (span_more (λ n. n) i k (omega arith), f i (omega arith) (omega arith)) (first_none m (i + 1) (omega arith) (λ n a b. f n (omega arith) b))

-- `find` over the numbers from 0 to k, and what v makes of the one that is found.
module _ {F : Type 0} {g : Mut F (Bor ℕ × Unit {0}) Bool} (p : ℕ → Bool) (k : ℕ) (u : Range ℕ) (f : F) where
  pub range_find : {B : Type 0} (v : ℕ → B) (r : Option ℕ)
      → (xs : List ℕ) × (j : F) × YieldsThen nat_range_steps (record { start = 0; end = k }) xs r u × FoldsTo (λ p x q. CalledAt g p x false q) f xs j × MatchOption r ⊤ (λ x. (h : F) × CalledAt g j x true h)
      → ((x : ℕ) (b : Bool) (q : F) → CalledAt g f x b q → (q ≡ f) × (x < k → b ≡ p x)) → option_map v r ≡ first p (λ _ n. Some (v n)) None 0 (span (λ n. n) 0 k)
  range_find {B} v r d h =
      go r (first_from_Range (record { start = 0; end = k }) u f r (λ x. x < k → true ≡ p x) (λ x. x < k → false ≡ p x) d (λ x q c. (h x true q c).1) (λ x q c. h x false q c))
    where
      go : (r : Option ℕ) → MatchOption r ((n : ℕ) → 0 ≤ n → n < k → n < k → false ≡ p n) (λ i. (0 ≤ i) × (i < k) × (i < k → true ≡ p i) × ((n : ℕ) → 0 ≤ n → n < i → n < k → false ≡ p n)) → option_map v r ≡ first p (λ _ n. Some (v n)) None 0 (span (λ n. n) 0 k)
      go (Some i) a = first_at p (λ n. Some (v n)) None k i k 0 (omega arith) (omega arith) a.1 (sym (a.2 a.1)) (λ n l u. let b = a.1 in sym (a.3 n l u (omega arith)))
      go None a = first_none p (λ n. Some (v n)) None k k 0 (omega arith) (λ n l u. sym (a n l u u))

  pub range_first : (r : Option ℕ)
      → (xs : List ℕ) × (j : F) × YieldsThen nat_range_steps (record { start = 0; end = k }) xs r u × FoldsTo (λ p x q. CalledAt g p x false q) f xs j × MatchOption r ⊤ (λ x. (h : F) × CalledAt g j x true h)
      → ((x : ℕ) (b : Bool) (q : F) → CalledAt g f x b q → (q ≡ f) × (x < k → b ≡ p x)) → r ≡ first p (λ _ n. Some n) None 0 (span (λ n. n) 0 k)
  range_first r d h = same r ∙ range_find (λ n. n) r d h
    where
      same : (r : Option ℕ) → r ≡ option_map (λ n. n) r
      same (Some n) = refl
      same None = refl

-- Some element passes, and every one does, in std's words.
some_from : {A : Type 0} (p : A → Bool) (i : ℕ) (xs : List A) → list_any p xs ≡ first p (λ _ _. true) false i xs
unfolding first when◌then◌else◌
some_from p i [] = refl
some_from p i (x ∷ xs) = split (p x) (λ h. rw h) (λ h. rw h (some_from p (i + 1) xs))

pub some_any : {A : Type 0} (p : A → Bool) (xs : List A) → list_any p xs ≡ some p xs
some_any p xs = some_from p 0 xs

pub every_all : {A : Type 0} (p : A → Bool) (xs : List A) → list_all p xs ≡ every p xs
unfolding every
every_all p [] = refl
every_all p (x ∷ xs) = rw (every_all p xs) (sym (strict_and (p x) (every p xs)))

-- A part of a list by its places.
part_rows : (w : List ℕ) (n a : ℕ) → a + n ≤ length w → take n (drop a w) ≡ rows (λ j. get_or w j 0) a n
unfolding rows
part_rows w zero a h = refl
part_rows w (suc n) a h = rw (drop-cons w a 0 (omega arith)) (ap (λ r. get_or w a 0 ∷ r) (let e : suc a ≡ a + 1 = omega arith in rw e (part_rows w n (a + 1) (omega arith))))

rows_move : (f : ℕ → ℕ) (c n a : ℕ) → rows f (c + a) n ≡ rows (λ j. f (c + j)) a n
unfolding rows
rows_move f c zero a = refl
rows_move f c (suc n) a = let e : c + a + 1 ≡ c + (a + 1) = omega arith in rw e (ap (λ r. f (c + a) ∷ r) (rows_move f c n (a + 1)))

pub part_span : (w : List ℕ) (c a b : ℕ) → a ≤ b → c + b ≤ length w → take (c + b - (c + a)) (drop (c + a) w) ≡ span (λ j. get_or w (c + j) 0) a b
unfolding span
part_span w c a b h l =
    let e : c + b - (c + a) ≡ b - a = omega arith in
    rw e (part_rows w (b - a) (c + a) (omega arith) ∙ rows_move (λ j. get_or w j 0) c (b - a) a)

pub part_places : (w : List ℕ) (a b : ℕ) → a ≤ b → b ≤ length w → take (b - a) (drop a w) ≡ span (λ j. get_or w j 0) a b
unfolding span
part_places w a b h l = part_rows w (b - a) a (omega arith)

pub column_span : (w : List ℕ) (c k : ℕ) → c + k ≤ length w → take (c + k - c) (drop c w) ≡ span (λ j. get_or w (c + j) 0) 0 k
column_span w c k l = let z : c + 0 ≡ c = omega arith in rw z at (part_span w c 0 k (omega arith) l)

-- The digits of all numbers together are zero where each number is.
every_push : (p : ℕ → Bool) (xs : List ℕ) (x : ℕ) → every p (xs ++ (x ∷ [])) ≡ every p xs and p x
unfolding every ◌and◌
every_push p [] x = split (p x) (λ h. rw h) (λ h. rw h)
every_push p (y ∷ xs) x = split (p y) (λ h. rw h (every_push p xs x)) (λ h. rw h)

abbrev pub zeros : List ℕ → Bool
zeros xs = every (λ x. eqb x 0) xs

pub zeros_more : (xs : List ℕ) (x d e : ℕ) → zeros xs ≡ eqb d 0 → e ≡ bit_or d x → zeros (xs ++ (x ∷ [])) ≡ eqb e 0
zeros_more xs x d e h q = every_push (λ x. eqb x 0) xs x ∙ rw (h, q) (sym (or_none d x))

-- A fold of all digits, from 0.
pub fold_zeros : {S A F : Type 0} {steps : S → Option A → S → Type 0} {v : A → ℕ} {g : Mut F (ℕ × (A × Unit {0})) ℕ} {s : S} {ys : List ℕ} {f : F} {r : ℕ}
    → ((d e : ℕ) (x : A) (q : F) → Called g f (d, (x, tt)) e q → (e ≡ bit_or d (v x)) × (q ≡ f))
    → (xs : List A) × (f' : F) × Drains steps s xs × FoldsTo {P = F × ℕ} (λ p x q. Called g p.0 (p.1, (x, tt)) q.1 q.0) (f, 0) xs (f', r)
    → YieldsList steps v s ys → eqb r 0 ≡ zeros ys
unfolding every
fold_zeros {steps = steps} {v = v} {g = g} {s = s} {ys = ys} {f = f} {r = r} h ran yields =
    sym (fold_over steps v g (λ xs d. zeros xs ≡ eqb d 0) f (λ xs d x e q j k. let t = h d e x q k in (zeros_more xs (v x) d e j t.0, t.1)) s ys 0 r yields.runs refl ran)

-- How many items pass before the first that does not, as `take_while` and `count` say it.
pub run_length : {S A B F : Type 0} {steps : S → Option A → S → Type 0} {v : A → B} {g : Mut F (Bor A × Unit {0}) Bool} {f : F} {s : TakeWhile S F} (p : B → Bool) (ys : List B) (r : ℕ)
    → take_while_callee s ≡ f → take_while_done s ≡ false → ((x : A) (b : Bool) (q : F) → CalledAt g f x b q → (q ≡ f) × (b ≡ p (v x)))
    → YieldsList steps v (take_while_source s) ys → (xs : List A) × Drains (take_while_steps steps g) s xs × (r ≡ length xs) → r ≡ prefix_len p ys
run_length {g = g} {s = s} p ys r callee done h y ran = count_from_yields_List s r ran (YieldsList-from_take_while g p y callee done h) ∙ length-prefix_len p ys
