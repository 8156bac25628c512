-- A list in an array of a fixed size, filled up with a default.
use Rattle.std.specs.Prelude.{◌≡◌, set, take, drop, replicate}
use Rattle.std.proofs.Common.{ap}
use mathlib.Core.List.{List, [], ◌∷◌, ◌++◌}
use Prim.Native.Nat.{ℕ, zero, suc, ◌+◌, ◌-◌, ◌≤◌, ◌<◌}
use native.Mathlib.Omega.{arith}
use Rattle.std.proofs.Math.ListN.{length, length-append}
use Rattle.std.proofs.Math.Seq.{take-append_seam, drop-append-add}
use Rattle.laws.specs.Splice.{splice}

unfoldable pub padded : {A : Type 0} → (size : ℕ) → A → List A → List A
padded size d xs = xs ++ replicate (size - length xs) d

module _ {A : Type 0} (d : A) where
  -- one more
  pub set_padded : (k : ℕ) (xs : List A) (x : A) → length xs < k → set (padded k d xs) (length xs) x ≡ padded k d (xs ++ (x ∷ []))
  unfolding padded
  set_padded zero xs x h = absurd (omega arith)
  set_padded (suc k) [] x h =
      let e : suc k - 0 ≡ suc k = omega arith in
      let g : suc k - 1 ≡ k = omega arith in
      rw (e, g)
  set_padded (suc k) (y ∷ ys) x h =
      let e : suc k - suc (length ys) ≡ k - length ys = omega arith in
      let g : suc k - suc (length (ys ++ (x ∷ []))) ≡ k - length (ys ++ (x ∷ [])) = omega arith in
      rw (e, g) (ap (λ (zs : List A). y ∷ zs) (set_padded k ys x (omega arith)))

  -- the default everywhere
  pub padded_none : (size : ℕ) → replicate size d ≡ padded size d []
  unfolding padded
  padded_none size =
      let e : size - 0 ≡ size = omega arith in
      rw e

  drop_replicate : (i n : ℕ) → drop i (replicate n d) ≡ replicate (n - i) d
  drop_replicate zero n =
      let e : n - 0 ≡ n = omega arith in
      rw e
  drop_replicate (suc i) zero =
      let e : 0 - suc i ≡ 0 = omega arith in
      rw e
  drop_replicate (suc i) (suc n) =
      let e : suc n - suc i ≡ n - i = omega arith in
      rw e (drop_replicate i n)

  -- several more
  pub splice_padded : (size : ℕ) (xs ys : List A) → length xs + length ys ≤ size → splice (padded size d xs) (length xs) ys ≡ padded size d (xs ++ ys)
  unfolding padded splice
  splice_padded size xs ys h =
      let g : size - length xs - length ys ≡ size - length (xs ++ ys) = omega (arith, length-append xs ys) in
      rw (take-append_seam, drop-append-add, drop_replicate, g)

  -- the list is read back
  pub take_padded : (size n : ℕ) (xs : List A) → length xs ≡ n → take n (padded size d xs) ≡ xs
  unfolding padded
  take_padded size n xs e = rw (← e) (take-append_seam xs _)
