-- Working the list out: a loop that fills an array, each entry from the one before it.
use Rattle.std.specs.Prelude.{◌≡◌, List, length, get_or, set, replicate}
use Rattle.std.proofs.Math.Path.{ap}
use Rattle.std.proofs.Common.{◌∙◌, length-set, get_or-set_same, get_or-set_other, below_more}
use Prim.Native.Nat.{ℕ, suc, ◌+◌, ◌-◌, ◌^◌, ◌≤◌, ◌<◌}
use native.Mathlib.Omega.{arith}
use Rattle.std.proofs.lemmas.List.{length-replicate}
use Rattle.waits.specs.Waits.{first_wait, step, wait, entries, waits}
use Rattle.waits.specs.WaitsLaws.{is_waits, wait_small}

-- The entries below n are there.
pub record Worked (list : List ℕ) (n : ℕ) : Type 0 where
  pub long : length list ≡ entries
  pub begun : 0 < n
  pub done : (k : ℕ) → k < n → get_or list k 0 ≡ wait k

pub work_start : Worked (replicate entries first_wait) 1
unfolding wait
work_start =
    record {
      long = length-replicate entries first_wait;
      begun = omega arith;
      done = λ k h. let e : k ≡ 0 = omega arith in rw e;
    }

module _ {list : List ℕ} {n : ℕ} (w : Worked list n) where
  -- the last one is small
  pub work_last : n ≤ entries → get_or list (n - 1) 0 < 2 ^ 32
  work_last h =
      let b = w.begun in
      rw (w.done (n - 1) (omega arith)) (wait_small (n - 1) (omega arith))

  next : step (get_or list (n - 1) 0) ≡ wait n
  unfolding wait
  next =
      let b = w.begun in
      let e : suc (n - 1) ≡ n = omega arith in
      ap step (w.done (n - 1) (omega arith)) ∙ ap wait e

  pub work_more : {x : ℕ} → n < entries → x ≡ step (get_or list (n - 1) 0) → Worked (set list n x) (n + 1)
  work_more {x} h s =
      record {
        long = length-set list n x ∙ w.long;
        begun = omega arith;
        done =
            below_more
            (λ k. get_or (set list n x) k 0 ≡ wait k)
            n
            (λ k b. get_or-set_other list n k x 0 (λ e. omega arith) ∙ w.done k b)
            (get_or-set_same list n x 0 (omega (arith, w.long)) ∙ s ∙ next);
      }

  pub work_end : entries ≤ n → list ≡ waits
  work_end h = is_waits list w.long (λ k b. w.done k (omega arith))
