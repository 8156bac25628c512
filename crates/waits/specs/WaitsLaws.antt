-- What holds of the waits, whatever the step is.
use Rattle.std.specs.Prelude.{◌≡◌, refl, Bool, true, List, [], ◌∷◌, ℕ, zero, suc, ◌+◌, ◌^◌, ◌<◌, eqb, ltb, length, get_or}
use Rattle.std.proofs.Common.{sym, ◌∙◌, arith, ext_get_or, eqb-true, ltb-true}
use Rattle.laws.specs.Bool.{◌and◌, both}
use Rattle.laws.specs.Rows.{rows, span, length_span, at_span}
use Rattle.laws.specs.Every.{every, below}
use Rattle.laws.specs.In.{below_at}
use Rattle.waits.specs.Waits.{first_wait, step, wait, entries, waits, entry}

-- THE TEST OF A TABLE: the first number is x, and each next one is a step from the last.
unfoldable pub stepped : (x : ℕ) → List ℕ → Bool
stepped x [] = true
stepped x (y ∷ ys) = eqb y x and stepped (step y) ys

from : (i : ℕ) (table : List ℕ) → stepped (wait i) table ≡ true → (n : ℕ) → n < length table → get_or table n 0 ≡ wait (i + n)
unfolding stepped wait
from i [] t n h = absurd (omega arith)
from i (y ∷ ys) t zero h =
    let e : i + 0 ≡ i = omega arith in
    rw e (eqb-true y (wait i) (both _ _ t).0)
from i (y ∷ ys) t (suc n) h =
    let e : i + suc n ≡ suc i + n = omega arith in
    let b = both _ _ t in
    rw e (from (suc i) ys (rw (eqb-true y (wait i) b.0) at b.1) n (omega arith))

-- A table that passes has each wait at its entry.
pub carried : (table : List ℕ) → stepped first_wait table ≡ true → (n : ℕ) → n < length table → get_or table n 0 ≡ wait n
unfolding wait
carried table t n h =
    let e : 0 + n ≡ n = omega arith in
    rw e at (from 0 table t n h)

-- THE LIST: 256 numbers that have each wait at its entry.
pub is_waits : (list : List ℕ) → length list ≡ entries → ((n : ℕ) → n < entries → get_or list n 0 ≡ wait n) → list ≡ waits
unfolding waits
is_waits list long each =
    ext_get_or 0 list (span wait 0 entries) (long ∙ sym (length_span wait entries)) (λ n h. at_span wait entries n 0 (omega arith) (each n (omega arith)))

-- Every wait is below 2 ^ 32, by one test over all entries.
small : below entries (λ n. ltb (wait n) (2 ^ 32)) ≡ true
unfolding step wait every span rows ◌and◌
small = refl

pub wait_small : (n : ℕ) → n < entries → wait n < 2 ^ 32
wait_small n h = ltb-true (wait n) (2 ^ 32) (below_at entries (λ k. ltb (wait k) (2 ^ 32)) small n h)

-- AFTER AN ATTEMPT. Every attempt has an entry, and what is waited after attempt n + 1 stands in the list at n.
pub entry_below : (attempt : ℕ) → entry attempt < entries
unfolding entry
entry_below attempt = omega arith

pub listed : (n : ℕ) → n < entries → wait (entry (n + 1)) ≡ get_or waits n 0
unfolding entry waits
listed n h =
    let e : entry (n + 1) ≡ n = omega arith in
    rw e (at_span wait entries n 0 h refl)
