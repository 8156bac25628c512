-- The numbers of a list from a place up to another: in two parts, and below a bound.
use Rattle.std.specs.Prelude.{◌≡◌, Bool, true, ltb, length, get_or, take, drop}
use Rattle.std.proofs.Math.Path.{refl, ap}
use Rattle.std.proofs.Common.{◌∙◌, length-drop, length-take-le, take-take, drop-drop, lt-ltb}
use mathlib.Core.List.{List, [], ◌∷◌}
use Prim.Native.Nat.{ℕ, zero, suc, ◌+◌, ◌-◌, ◌≤◌, ◌<◌}
use native.Mathlib.Omega.{arith}
use Rattle.std.proofs.lemmas.List.{drop-take}
use Rattle.laws.specs.Bool.{both, join}
use Rattle.laws.specs.Every.{every}
use Rattle.codec.specs.Numbers.{part, all_below}

pub part_long : (xs : List ℕ) (i k : ℕ) → i + k ≤ length xs → length (part xs i (i + k)) ≡ k
unfolding part
part_long xs i k h =
    let e : i + k - i ≡ k = omega arith in
    let d = length-drop i xs in
    rw e (length-take-le k (drop i xs) (omega arith))

module _ (xs : List ℕ) (i a b : ℕ) where
  pub part_front : take a (part xs i (i + (a + b))) ≡ part xs i (i + a)
  unfolding part
  part_front =
      let e : i + (a + b) - i ≡ a + b = omega arith in
      let f : i + a - i ≡ a = omega arith in
      rw (e, f) (take-take a (a + b) (drop i xs) (omega arith))

  pub part_back : drop a (part xs i (i + (a + b))) ≡ part xs (i + a) (i + a + b)
  unfolding part
  part_back =
      let e : i + (a + b) - i ≡ a + b = omega arith in
      let f : i + a + b - (i + a) ≡ b = omega arith in
      rw (e, f) (drop-take a b (drop i xs) ∙ ap (take b) (drop-drop a i xs))

-- All pass: so do the first of them, and those behind.
module _ {A : Type 0} (p : A → Bool) where
  pub every_take : (k : ℕ) (xs : List A) → every p xs ≡ true → every p (take k xs) ≡ true
  unfolding every
  every_take zero xs h = refl
  every_take (suc k) [] h = refl
  every_take (suc k) (x ∷ xs) h = let b = both _ _ h in join _ _ b.0 (every_take k xs b.1)

  pub every_drop : (k : ℕ) (xs : List A) → every p xs ≡ true → every p (drop k xs) ≡ true
  unfolding every
  every_drop zero xs h = h
  every_drop (suc k) [] h = refl
  every_drop (suc k) (x ∷ xs) h = every_drop k xs (both _ _ h).1

pub below_each : (top : ℕ) (xs : List ℕ) → ((n : ℕ) → get_or xs n 0 < top) → all_below top xs ≡ true
unfolding every
below_each top [] h = refl
below_each top (x ∷ xs) h = join _ _ (lt-ltb x top (h 0)) (below_each top xs (λ n. h (suc n)))

pub part_below : (top : ℕ) (xs : List ℕ) (i k : ℕ) → ((n : ℕ) → get_or xs n 0 < top) → all_below top (part xs i k) ≡ true
unfolding part
part_below top xs i k h = every_take (λ n. ltb n top) (k - i) (drop i xs) (every_drop (λ n. ltb n top) i xs (below_each top xs h))
