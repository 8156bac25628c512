-- Running until nothing is next.
use Rattle.std.specs.Prelude.{◌≡◌, refl, Bool, false}
use Rattle.std.proofs.Math.Path.{sym}
use Rattle.std.proofs.Common.{◌∙◌}
use Rattle.std.proofs.Math.Bool.{true}
use Prim.Native.Nat.{ℕ, zero, suc, ◌-◌, ◌<◌}
use native.Mathlib.Omega.{arith}
use Rattle.laws.specs.Bool.{when◌then◌else◌}

-- step by step while go holds, at most k times
unfoldable pub settle : {A : Type 0} → (A → Bool) → (A → A) → ℕ → A → A
settle go step zero x = x
settle go step (suc k) x = when go x then settle go step k (step x) else x

-- A loop with k steps left: at x, the whole answer w is what is left to settle.
pub record Settling {A : Type 0} (go : A → Bool) (step : A → A) (w : A) (k : ℕ) (x : A) : Type 0 where
  pub left : settle go step k x ≡ w

-- nothing is next
pub settle_rests : {A : Type 0} (go : A → Bool) (step : A → A) (k : ℕ) (x : A) → go x ≡ false → settle go step k x ≡ x
unfolding settle when◌then◌else◌
settle_rests go step zero x h = refl
settle_rests go step (suc k) x h = rw h

module _ {A : Type 0} {go : A → Bool} {step : A → A} {w : A} {k : ℕ} {x : A} (inv : Settling go step w k x) where
  -- nothing is next
  pub settled : {b : Bool} → b ≡ go x → b ≡ false → x ≡ w
  settled e h = sym (settle_rests go step k x (sym e ∙ h)) ∙ inv.left

  -- no step is left
  pub settle_out : k ≡ 0 → x ≡ w
  unfolding settle
  settle_out e = rw e at inv.left

  -- y is the next state
  pub settle_next : {b : Bool} {y : A} → 0 < k → b ≡ go x → b ≡ true → y ≡ step x → Settling go step w (k - 1) y
  unfolding settle when◌then◌else◌
  settle_next p e h t =
      let s : k ≡ suc (k - 1) = omega arith in
      let g : go x ≡ true = sym e ∙ h in
      record { left = rw t (rw (s, g) at inv.left) }
