-- How many numbers each part of an answer has, and parts written one behind the other.
use Rattle.std.specs.Prelude.{◌≡◌, refl, ℕ, ◌+◌, ◌*◌, ◌≤◌, length, get_or, Option, Some, None}
use Rattle.std.proofs.Common.{◌∙◌, arith, length-append}
use mathlib.Core.List.{List, [], ◌++◌, flat_map, append_assoc, append-nil}
use Rattle.std.proofs.lemmas.List.{get_or_at}
use Rattle.laws.specs.Splice.{splice, splice_more, length_flat}
use Rattle.model.specs.declared.ErrorInfo.{ErrorInfo}
use Rattle.model.specs.declared.State.{State}
use Rattle.model.specs.declared.answer.Order.{Order}
use Rattle.model.specs.declared.answer.Answer.{Answer}
use Rattle.model.specs.Answers.{output_numbers, kept_numbers, params_numbers, order_numbers, answer_numbers}
use Rattle.host.specs.Layout.{store, nodes, error_width, record_error, record_stored, record_signals, record_length, answer_noted}
use Rattle.host.specs.Write.{signal_numbers, visits_numbers, streak_numbers, result_numbers, scalar_numbers, head_numbers, record_numbers}
pub use Rattle.host.specs.RowLaws.{length_output, length_signal, length_visits, length_streak, length_result, length_note_row, length_ending_row}

pub length_kept : (x : Option ErrorInfo) → length (kept_numbers x) ≡ error_width
unfolding kept_numbers
length_kept None = refl
length_kept (Some e) = refl

length_params : (x : Option ℕ) → length (params_numbers x) ≡ 2
unfolding params_numbers
length_params None = refl
length_params (Some x) = refl

length_order : (x : Option Order) → length (order_numbers x) ≡ 9
unfolding order_numbers
length_order None = refl
length_order (Some (Order.Schedule x)) = rw (length_params x.params)
length_order (Some (Order.Retry x)) = refl

pub length_answer : (x : Answer) → length (answer_numbers x) ≡ answer_noted
unfolding answer_numbers
length_answer (Answer.Next o k) = rw (length_order o)
length_answer (Answer.Wants n f b) = refl
length_answer (Answer.Refused k i) = refl

pub length_scalars : (s : State) → length (scalar_numbers s) ≡ record_error
unfolding scalar_numbers
length_scalars s = refl

pub length_head : (s : State) → length (head_numbers s) ≡ record_signals
unfolding head_numbers
length_head s = simp (length-append, length_scalars, length_kept, length_output)

-- The number of stored signals stands last in the head.
pub head_stored : (s : State) → get_or (head_numbers s) record_stored 0 ≡ s.signal_count
unfolding head_numbers
head_stored s =
    get_or_at (scalar_numbers s ++ kept_numbers s.invocation.error ++ output_numbers s.result.output) s.signal_count [] 0 record_stored
    (simp (length-append, length_scalars, length_kept, length_output))

-- The parts of a record's numbers, each with all that follows it.
pub record_laid : (s : State) → record_numbers s ≡ head_numbers s ++ (flat_map signal_numbers s.signals ++ (flat_map visits_numbers s.visits ++ (flat_map streak_numbers s.streaks ++ (flat_map result_numbers s.results ++ []))))
unfolding record_numbers
record_laid s = simp (append_assoc, append-nil)

-- n rows of w numbers each
pub flat_size : {A : Type 0} (f : A → List ℕ) (n : ℕ) {w : ℕ} → ((x : A) → length (f x) ≡ w) → (xs : List A) → length xs ≡ n → length (flat_map f xs) ≡ w * n
flat_size {A} f n {w} wide xs e = length_flat f w wide xs ∙ rw e

-- A record whose arrays are whole.
pub record Whole (s : State) : Type 0 where
  pub signals : length s.signals ≡ store
  pub visits : length s.visits ≡ nodes
  pub streaks : length s.streaks ≡ nodes
  pub results : length s.results ≡ nodes

pub length_record : (s : State) → Whole s → length (record_numbers s) ≡ record_length
unfolding record_numbers
length_record s h =
    let a = flat_size signal_numbers store length_signal s.signals h.signals in
    let b = flat_size visits_numbers nodes length_visits s.visits h.visits in
    let c = flat_size streak_numbers nodes length_streak s.streaks h.streaks in
    let d = flat_size result_numbers nodes length_result s.results h.results in
    simp (length-append, length_head, a, b, c, d)

-- PARTS IN A ROW. In l, which was l₀, ys stand from a place on, k numbers.
pub record Wrote (l₀ : List ℕ) (at : ℕ) (ys : List ℕ) (k : ℕ) (l : List ℕ) : Type 0 where
  pub so_far : l ≡ splice l₀ at ys
  pub size : length ys ≡ k

-- The first part, and one more behind it: the numbers in hand are those of a definition.
pub wrote_first : {l₀ l xs ys : List ℕ} {at k : ℕ} → xs ≡ ys → length ys ≡ k → l ≡ splice l₀ at xs → Wrote l₀ at ys k l
wrote_first p s e = record { so_far = rw p at e; size = s }

module _ {l₀ l ys : List ℕ} {at k : ℕ} (inv : Wrote l₀ at ys k l) where
  pub wrote_next : {m xs zs : List ℕ} {n j : ℕ} → xs ≡ zs → length zs ≡ j → n ≡ at + k → n + j ≤ length l₀ → m ≡ splice l n xs → Wrote l₀ at (ys ++ zs) (k + j) m
  wrote_next {m} {xs} {zs} {n} {j} p s place room e =
      let t = inv.size in
      record {
        so_far = e ∙ rw (p, inv.so_far) (splice_more l₀ at ys zs n (omega arith) (omega arith));
        size = rw length-append (omega arith);
      }
