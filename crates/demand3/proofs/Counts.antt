-- Counting: how often a sequence number is in the store or among the endings, and how many visits there are.
use Rattle.std.specs.Prelude.{◌≡◌, Option, Some, None, List, [], ◌∷◌, ◌++◌, ℕ, zero, suc, ◌+◌, ◌≤◌, ◌<◌, get_or, set, length}
use Rattle.std.proofs.Common.{arith}
use Rattle.laws.specs.Shift.{remove_at}
use Rattle.laws.specs.All.{all_set}
use Rattle.workflow.specs.View.{Workflow}
use Rattle.model.specs.Record.{no_signal, no_visits}
use Rattle.model.specs.declared.BufferedSignal.{BufferedSignal}
use Rattle.model.specs.declared.Visits.{Visits}
use Rattle.model.specs.declared.answer.Ending.{Ending}
use Rattle.demand3.specs.Words.{is_it, times, total, Counts}

-- THE ENDINGS. 1 if a move lists an ending of q, else 0.
unfoldable pub ends_of : (q : ℕ) → Option Ending → ℕ
ends_of q None = 0
ends_of q (Some x) = is_it q x.sequence

-- THE STORE.
times_append : (q : ℕ) (xs ys : List BufferedSignal) → times q (xs ++ ys) ≡ times q xs + times q ys
unfolding times
times_append q [] ys = omega arith
times_append q (x ∷ xs) ys = omega (arith, times_append q xs ys)

pub times_more : (q : ℕ) (xs : List BufferedSignal) (x : BufferedSignal) → times q (xs ++ (x ∷ [])) ≡ times q xs + is_it q x.sequence
unfolding times
times_more q xs x = omega (arith, times_append q xs (x ∷ []))

pub times_less : (q : ℕ) (xs : List BufferedSignal) (i : ℕ) → i < length xs → times q (remove_at i xs) + is_it q (get_or xs i no_signal).sequence ≡ times q xs
unfolding times remove_at
times_less q [] i h = absurd (omega arith)
times_less q (x ∷ xs) zero h = omega arith
times_less q (x ∷ xs) (suc i) h = omega (arith, times_less q xs i (omega arith))

-- THE VISITS.
total_set : (vs : List Visits) (n k : ℕ) → n < length vs → total (set vs n (record { count = k })) + (get_or vs n no_visits).count ≡ total vs + k
unfolding total
total_set [] n k h = absurd (omega arith)
total_set (v ∷ vs) zero k h = omega arith
total_set (v ∷ vs) (suc n) k h = omega (arith, total_set vs n k (omega arith))

-- one more visit of a node that is below the limits
pub counts_more : (f : Workflow) (vs : List Visits) (a n : ℕ) → n < length vs → (get_or vs n no_visits).count < f.max_visits_per_node → a < f.max_activations
    → Counts f vs a → Counts f (set vs n (record { count = (get_or vs n no_visits).count + 1 })) (a + 1)
counts_more f vs a n h v l c =
    record {
      sum = omega (arith, total_set vs n ((get_or vs n no_visits).count + 1) h);
      each = all_set _ vs n _ (omega arith) c.each;
      few = omega arith;
    }

-- a count that is not lowered lowers none
pub grows_set : (vs : List Visits) (n k m : ℕ) → (get_or vs n no_visits).count ≤ k → (get_or vs m no_visits).count ≤ (get_or (set vs n (record { count = k })) m no_visits).count
grows_set [] n k m h = omega arith
grows_set (v ∷ vs) zero k zero h = h
grows_set (v ∷ vs) zero k (suc m) h = omega arith
grows_set (v ∷ vs) (suc n) k zero h = omega arith
grows_set (v ∷ vs) (suc n) k (suc m) h = grows_set vs n k m h
