-- Rows written by count, over zeros: rows that are left out are empty, so that their numbers are the zeros that stand there.
use Rattle.std.specs.Prelude.{◌≡◌, Some, None, true, false, map, get_or, replicate}
use Rattle.std.proofs.Math.Path.{refl}
use Rattle.std.proofs.Common.{take_all, drop_of_length-le, get_or-take, get_or-drop, sym, ap, ◌∙◌, mul-suc, mul-add, length-drop, take_at, get_or-append-add}
use Rattle.std.proofs.lemmas.Bool.{false≢true}
use mathlib.Core.List.{List, [], ◌∷◌, ◌++◌, flat_map, append_assoc, append-nil}
use Prim.Native.Nat.{ℕ, zero, suc, ◌+◌, ◌*◌, ◌-◌, ◌≤◌, ◌<◌, min}
use native.Mathlib.Omega.{arith}
use Rattle.std.proofs.Math.Nat.{mul-le-mul_left}
use Rattle.std.proofs.Math.ListN.{length, take, drop, length-append, get_or-append}
use Rattle.std.proofs.lemmas.List.{length-map, length-replicate, replicate-append-replicate, drop-append-le, drop-replicate}
use Rattle.std.proofs.Math.Seq.{length-take-le, drop-append-add, drop-drop}
use borrow.Rule.Slice.PartMut.{put_mid}
use Rattle.std.specs.Int.Bits.{bit_or}
use Rattle.std.specs.List.{fold}
use Rattle.laws.specs.Splice.{splice, splice_more, length_splice, length_flat}
use Rattle.laws.specs.Listing.{padded}
use Rattle.model.specs.declared.State.{State}
use Rattle.model.specs.declared.answer.Answer as code
use Rattle.model.specs.Answers.{output_numbers, answer_numbers}
use Rattle.model.specs.Record.{no_signal, no_visits, no_streak, no_node_result}
use Rattle.kernel.specs.declared.Decision.{Decision}
use Rattle.kernel.specs.Call.{Answer, next, wants, refused}
use Rattle.kernel.specs.Listed.{listed}
use Rattle.kernel.specs.Decision.{decision_of}
use Rattle.host.specs.Layout as layout
use Rattle.host.specs.Write.{signal_numbers, visits_numbers, streak_numbers, result_numbers, note_row, ending_row, state_numbers, record_numbers, decision_numbers}
use Rattle.host.specs.RowLaws.{or_both}
use Rattle.host.proofs.WriteLaws.{Whole, length_answer, length_note_row, length_ending_row, length_record}
use Rattle.host.proofs.Lists.{padded_past, getD_replicate_same}
use Rattle.host.specs.ByCount.{Zeros}
use Rattle.host.specs.WriteRows.{EmptyPast, Leading, front_numbers, is_refused, Counted}

abbrev zeros : ℕ → List ℕ
zeros n = replicate n 0

length_zeros : (n : ℕ) → length (zeros n) ≡ n
length_zeros n = length-replicate {A = ℕ} n 0

zeros_more : (n m : ℕ) → zeros n ++ zeros m ≡ zeros (n + m)
zeros_more n m = replicate-append-replicate {A = ℕ} n m 0

-- EMPTY ROWS. Each empty row's numbers are zeros.
pub signal_zeros : signal_numbers no_signal ≡ zeros layout.signal_width
unfolding signal_numbers
signal_zeros = refl

pub visits_zeros : visits_numbers no_visits ≡ zeros 1
unfolding visits_numbers
visits_zeros = refl

pub streak_zeros : streak_numbers no_streak ≡ zeros layout.streak_width
unfolding streak_numbers
streak_zeros = refl

pub result_zeros : result_numbers no_node_result ≡ zeros layout.result_width
unfolding result_numbers output_numbers
result_zeros = refl

-- Digits joined over a list are 0 only if each row's are.
module _ {A : Type 0} (digits : A → ℕ) where
  abbrev joined : ℕ → List A → ℕ
  joined d rows = fold (λ d x. bit_or d (digits x)) d rows

  joined_first : (d : ℕ) (rows : List A) → joined d rows ≡ 0 → d ≡ 0
  joined_first d [] e = e
  joined_first d (x ∷ rows) e = (or_both d (digits x) (joined_first (bit_or d (digits x)) rows e)).0

  joined_at : (d : ℕ) (rows : List A) → joined d rows ≡ 0 → (i : ℕ) (none : A) → i < length rows → digits (get_or rows i none) ≡ 0
  joined_at d [] e i none h = absurd (omega arith)
  joined_at d (x ∷ rows) e zero none h = (or_both d (digits x) (joined_first (bit_or d (digits x)) rows e)).1
  joined_at d (x ∷ rows) e (suc i) none h = joined_at (bit_or d (digits x)) rows e i none (omega arith)

  pub empty_past : (none : A) → ((x : A) → digits x ≡ 0 → x ≡ none) → (rows : List A) (k : ℕ) → k ≤ length rows → joined 0 (drop k rows) ≡ 0 → EmptyPast none rows (length rows) k
  empty_past none only rows k low e = record { low = low; empty = λ i a b. let p : i ≡ k + (i - k) = omega arith in rw p (only (get_or rows (k + (i - k)) none) (rw get_or-drop at (joined_at 0 (drop k rows) e (i - k) none (rw length-drop (omega arith))))) }

-- A row has room where all rows have.
pub row_room : (w i n : ℕ) → i < n → w * i + w ≤ w * n
row_room w i n h =
    let more : suc i ≤ n = omega arith in
    let s : w * suc i ≤ w * n = mul-le-mul_left w more in
    omega (arith, rw mul-suc at s)

-- ROWS WRITTEN: up to a count, from which on all are empty.
pub record RowsWritten {A : Type 0} (f : A → List ℕ) (d : A) (xs : List A) (n at : ℕ) (l₀ l : List ℕ) : Type 0 where
  pub rows : ℕ
  pub past : EmptyPast d xs n rows
  pub is : l ≡ splice l₀ at (flat_map f (take rows xs))

pub leading_written : {A : Type 0} {f : A → List ℕ} {d : A} {xs ys : List A} {n at : ℕ} {l₀ l : List ℕ} → length xs ≡ n → Leading d xs ys → l ≡ splice l₀ at (flat_map f ys) → RowsWritten f d xs n at l₀ l
leading_written long h e = record { rows = h.rows; past = rw long at h.past; is = e ∙ rw h.is }

-- the rows up to a count, where it is known
pub counted_written : {A : Type 0} {f : A → List ℕ} {d : A} {xs : List A} {n k rows at : ℕ} {l₀ l : List ℕ} → k ≡ rows → EmptyPast d xs n rows → l ≡ splice l₀ at (flat_map f (take k xs)) → RowsWritten f d xs n at l₀ l
counted_written {k = k} same past e = record { rows = k; past = rw same past; is = e }

-- a part that is filled with zeros
pub zeroed : (n : ℕ) (out part : List ℕ) → n ≤ length out → part ≡ replicate (length (take n out)) 0 → part ++ drop n out ≡ splice out 0 (zeros n)
unfolding splice
zeroed n out part room e = let z : 0 + n ≡ n = omega arith in rw (e, length-take-le n out room, length_zeros n, z)

-- The numbers of rows that are empty from a count on: those up to it, and zeros.
module _ {A : Type 0} (f : A → List ℕ) (w : ℕ) (d : A) (blank : f d ≡ zeros w) where
  flat_empty : (xs : List A) → ((i : ℕ) → i < length xs → get_or xs i d ≡ d) → flat_map f xs ≡ zeros (w * length xs)
  unfolding flat_map
  flat_empty [] h = let z : w * 0 ≡ 0 = omega arith in rw z
  flat_empty (x ∷ xs) h =
      let p : x ≡ d = h 0 (omega arith) in
      let q : w * suc (length xs) ≡ w + w * length xs = rw (mul-suc w (length xs)) (omega arith) in
      rw (p, blank, flat_empty xs (λ i g. h (suc i) (omega arith)), q) (zeros_more w (w * length xs))

  flat_past : (xs : List A) (k : ℕ) → ((i : ℕ) → k ≤ i → i < length xs → get_or xs i d ≡ d) → flat_map f xs ≡ flat_map f (take k xs) ++ zeros (w * (length xs - k))
  unfolding flat_map
  flat_past xs zero h = let e : length xs - 0 ≡ length xs = omega arith in rw e (flat_empty xs (λ i g. h i (omega arith) g))
  flat_past [] (suc k) h =
      let e : 0 - suc k ≡ 0 = omega arith in
      let z : w * 0 ≡ 0 = omega arith in
      rw (e, z)
  flat_past (x ∷ xs) (suc k) h =
      let e : suc (length xs) - suc k ≡ length xs - k = omega arith in
      rw (e, flat_past xs k (λ i a b. h (suc i) (omega arith) (omega arith))) (sym (append_assoc (f x) (flat_map f (take k xs)) (zeros (w * (length xs - k)))))

-- ZEROS. A part that is zero stays, with zeros written over it.
zeros_stay : (at n : ℕ) (l : List ℕ) → at + n ≤ length l → Zeros l at (at + n) → take at l ++ (zeros n ++ drop (at + n) l) ≡ l
zeros_stay zero zero l h z = refl
zeros_stay zero (suc n) [] h z = absurd (omega arith)
zeros_stay zero (suc n) (x ∷ xs) h z =
    let p : x ≡ 0 = z 0 (omega arith) (omega arith) in
    let e : 0 + suc n ≡ suc (0 + n) = omega arith in
    rw (p, e) (ap (λ (r : List ℕ). 0 ∷ r) (zeros_stay zero n xs (omega arith) (λ i a b. z (suc i) (omega arith) (omega arith))))
zeros_stay (suc k) n [] h z = absurd (omega arith)
zeros_stay (suc k) n (x ∷ xs) h z =
    let e : suc k + n ≡ suc (k + n) = omega arith in
    rw e (ap (λ (r : List ℕ). x ∷ r) (zeros_stay k n xs (omega arith) (λ i a b. z (suc i) (omega arith) (omega arith))))

splice_zeros : (l : List ℕ) (at n : ℕ) → at + n ≤ length l → Zeros l at (at + n) → l ≡ splice l at (zeros n)
unfolding splice
splice_zeros l at n h z = sym (rw (length_zeros n, append_assoc) (zeros_stay at n l h z))

-- numbers written at the front of what stands behind a place, as the code has it
pub put_spliced : (l part ys : List ℕ) (p : ℕ) → p ≤ length l → part ≡ splice (take (length l - p) (drop p l)) 0 ys → put_mid p (length l - p) l part ≡ splice l p ys
unfolding splice
put_spliced l part ys p room e =
    let d = length-drop p l in
    let t : take (length l - p) (drop p l) ≡ drop p l = take_all (length l - p) (drop p l) (omega arith) in
    let n : drop (length l - p) (drop p l) ≡ [] = drop_of_length-le (drop p l) (omega arith) in
    let z : 0 + length ys ≡ length ys = omega arith in
    let q : part ≡ ys ++ drop (length ys) (drop p l) = e ∙ rw (t, z) in
    rw (n, append-nil, q, drop-drop (length ys) p l) (sym (append_assoc (take p l) ys (drop (p + length ys) l)))

-- and what is zero there
pub zeros_behind : (l : List ℕ) (p n : ℕ) → p + n ≤ length l → Zeros l p (p + n) → Zeros (take (length l - p) (drop p l)) 0 n
zeros_behind l p n room z i a b = get_or-take (length l - p) (drop p l) i 0 (omega arith) ∙ get_or-drop p l i 0 ∙ z (p + i) (omega arith) (omega arith)

-- zs over the first of the numbers us that were written there
splice_over : (l : List ℕ) (p : ℕ) (us zs : List ℕ) → p + length us ≤ length l → length zs ≤ length us → splice (splice l p us) p zs ≡ splice l p (zs ++ drop (length zs) us)
unfolding splice
splice_over l p us zs room fit =
    let t = length-take-le p l (omega arith) in
    let rest = drop (p + length us) l in
    let front : take p (take p l ++ (us ++ rest)) ≡ take p l = take_at (take p l) (us ++ rest) p t in
    let k : p + length zs ≡ length (take p l) + length zs = omega arith in
    let back : drop (p + length zs) (take p l ++ (us ++ rest)) ≡ drop (length zs) us ++ rest =
    rw k (drop-append-add (take p l) (us ++ rest) (length zs) ∙ drop-append-le (length zs) us rest fit) in
    let m : p + length (zs ++ drop (length zs) us) ≡ p + length us = simp (length-append, length-drop) (omega arith) in
    rw (append_assoc (take p l) us rest, front, back, m) (sym (append_assoc (take p l ++ zs) (drop (length zs) us) rest) ∙ ap (λ (x : List ℕ). x ++ rest) (append_assoc (take p l) zs (drop (length zs) us)))

-- PARTS IN A ROW, over zeros. In l, which was l₀, ys stand from a place on, k numbers, and n zeros behind them.
pub record WroteIn (l₀ : List ℕ) (at : ℕ) (ys : List ℕ) (k n : ℕ) (l : List ℕ) : Type 0 where
  pub so_far : l ≡ splice l₀ at (ys ++ zeros n)
  pub size : length ys ≡ k
  pub room : at + k + n ≤ length l₀

pub wrote_zeros : {l₀ l : List ℕ} {at n : ℕ} → at + n ≤ length l₀ → l ≡ splice l₀ at (zeros n) → WroteIn l₀ at [] 0 n l
wrote_zeros h e = record { so_far = e; size = refl; room = omega arith }

pub wrote_none : (l : List ℕ) (at n : ℕ) → at + n ≤ length l → Zeros l at (at + n) → WroteIn l at [] 0 n l
wrote_none l at n h z = wrote_zeros h (splice_zeros l at n h z)

module _ {l₀ l ys : List ℕ} {at k n : ℕ} (inv : WroteIn l₀ at ys k n l) where
  -- one part more; m zeros are left
  pub wrote_part : {l' xs zs : List ℕ} {p j m : ℕ} → xs ≡ zs → length zs ≡ j → p ≡ at + k → n ≡ j + m → l' ≡ splice l p xs → WroteIn l₀ at (ys ++ zs) (k + j) m l'
  wrote_part {l'} {xs} {zs} {p} {j} {m} same s place fit e =
      let t = inv.size in
      let h = inv.room in
      let g : length (zeros n) ≡ n = length_zeros n in
      let i : length (zeros m) ≡ m = length_zeros m in
      let q : p ≡ at + length ys = omega arith in
      let first : l ≡ splice (splice l₀ at ys) p (zeros n) = inv.so_far ∙ sym (splice_more l₀ at ys (zeros n) p q (omega arith)) in
      let y = length_splice l₀ at ys (omega arith) in
      let over : splice l p zs ≡ splice (splice l₀ at ys) p (zs ++ drop (length zs) (zeros n)) = rw first (splice_over (splice l₀ at ys) p (zeros n) zs (omega arith) (omega arith)) in
      let d : n - length zs ≡ m = omega arith in
      let z : length (zs ++ zeros m) ≡ j + m = rw length-append (omega arith) in
      let more = splice_more l₀ at ys (zs ++ zeros m) p q (omega arith) in
      record {
        so_far = e ∙ rw same (over ∙ rw (drop-replicate, d) (more ∙ ap (splice l₀ at) (sym (append_assoc ys zs (zeros m)))));
        size = rw length-append (omega arith);
        room = omega arith;
      }

  -- rows, of which the empty ones at the end are left out
  pub wrote_rows : {A : Type 0} {f : A → List ℕ} {d : A} {xs : List A} {c p : ℕ} {l' : List ℕ} (w : ℕ) {m : ℕ} → ((x : A) → length (f x) ≡ w) → f d ≡ zeros w → length xs ≡ c → p ≡ at + k → n ≡ w * c + m → RowsWritten f d xs c p l l' → WroteIn l₀ at (ys ++ flat_map f xs) (k + w * c) m l'
  wrote_rows {A} {f} {d} {xs} {c} {p} {l'} w {m} wide blank long place fit r =
      let b = r.past.low in
      let u : length (take r.rows xs) ≡ r.rows = length-take-le r.rows xs (omega arith) in
      let s : length (flat_map f (take r.rows xs)) ≡ w * r.rows = length_flat f w wide (take r.rows xs) ∙ rw u in
      let v : c ≡ r.rows + (c - r.rows) = omega arith in
      let q : w * c ≡ w * r.rows + w * (c - r.rows) = ap (λ (x : ℕ). w * x) v ∙ mul-add w r.rows (c - r.rows) in
      let part = wrote_part {m = w * (c - r.rows) + m} refl s place (omega arith) r.is in
      let e : flat_map f xs ≡ flat_map f (take r.rows xs) ++ zeros (w * (c - r.rows)) = rw long at (flat_past f w d blank xs r.rows (λ i x y. r.past.empty i x (omega arith))) in
      let h = inv.room in
      let t = inv.size in
      let x : length (flat_map f xs) ≡ w * c = length_flat f w wide xs ∙ rw long in
      let front = ys ++ flat_map f (take r.rows xs) in
      let g : front ++ zeros (w * (c - r.rows) + m) ≡ (ys ++ (flat_map f (take r.rows xs) ++ zeros (w * (c - r.rows)))) ++ zeros m = rw (sym (zeros_more (w * (c - r.rows)) m)) (simp append_assoc) in
      record { so_far = part.so_far ∙ rw e (ap (splice l₀ at) g); size = rw (length-append, x) (omega arith); room = omega arith }

  -- all zeros are written over
  pub wrote_all : n ≡ 0 → l ≡ splice l₀ at ys
  wrote_all z = (rw (z, append-nil) at inv.so_far)

  -- what stands behind the numbers so far is zero
  pub wrote_left : (p : ℕ) → p ≡ at + k → Zeros l p (p + n)
  unfolding splice
  wrote_left p place i a b =
      let s = inv.size in
      let h = inv.room in
      let t = length-take-le at l₀ (omega arith) in
      let front = take at l₀ ++ ys in
      let rest = drop (at + length (ys ++ zeros n)) l₀ in
      let f : length front ≡ at + k = rw length-append (omega arith) in
      let z = length_zeros n in
      let e : i ≡ length front + (i - p) = omega arith in
      let g : l ≡ front ++ (zeros n ++ rest) = inv.so_far ∙ simp append_assoc in
      rw (g, e) (get_or-append-add front (zeros n ++ rest) (i - p) 0 ∙ get_or-append (zeros n) rest 0 (i - p) (omega arith) ∙ getD_replicate_same 0 n (i - p))

pub state_refused : (a : code.Answer) (s : State) → is_refused a ≡ true → state_numbers a s ≡ replicate layout.record_length 0
unfolding state_numbers
state_refused (code.Answer.Next order microsteps) s e = absurd (false≢true e)
state_refused (code.Answer.Wants node field from) s e = absurd (false≢true e)
state_refused (code.Answer.Refused number item) s e = refl

pub state_kept : (a : code.Answer) (s : State) → is_refused a ≡ false → state_numbers a s ≡ record_numbers s
unfolding state_numbers
state_kept (code.Answer.Next order microsteps) s e = refl
state_kept (code.Answer.Wants node field from) s e = refl
state_kept (code.Answer.Refused number item) s e = absurd (false≢true (sym e))

listed_empty : {A : Type 0} (n : ℕ) (xs : List A) → EmptyPast None (padded n None (map Some xs)) n (min n (length xs))
listed_empty n xs = let l = length-map xs Some in record { low = omega arith; empty = λ i a b. padded_past None (map Some xs) n i (omega arith) }

counted_of : (a : Answer) → Counted (decision_of a)
unfolding decision_of listed
counted_of (next x) = record { notes = listed_empty layout.notes x.notes; endings = listed_empty layout.endings x.endings }
counted_of (wants node field from state) = record { notes = listed_empty layout.notes []; endings = listed_empty layout.endings [] }
counted_of (refused number item) = record { notes = listed_empty layout.notes []; endings = listed_empty layout.endings [] }

pub counted : {d : Decision} (a : Answer) → d ≡ decision_of a → Counted d
counted a e = rw e (counted_of a)

-- THE WHOLE ANSWER: what stands in front of the record, and the record or zeros.
module _ (d : Decision) {l₀ : List ℕ} where
  pub front_written : {a b c e l numbers : List ℕ} → layout.answer_length ≤ length l₀ → length d.notes.rows ≡ layout.notes → length d.endings.rows ≡ layout.endings → a ≡ splice l₀ 0 (replicate layout.answer_length 0) → numbers ≡ answer_numbers d.answer → b ≡ splice a layout.answer_kind numbers → c ≡ splice b layout.answer_noted (d.notes.count ∷ d.endings.count ∷ []) → RowsWritten note_row None d.notes.rows layout.notes layout.answer_notes c e → RowsWritten ending_row None d.endings.rows layout.endings layout.answer_endings e l → WroteIn l₀ 0 (front_numbers d) layout.answer_record layout.record_length l
  front_written {a} room noted ended cleared n first second third fourth =
      let w0 : WroteIn l₀ 0 [] 0 layout.answer_length a = wrote_zeros room cleared in
      let w1 = wrote_part w0 {m = layout.answer_length - layout.answer_noted} n (length_answer d.answer) refl (omega arith) first in
      let w2 = wrote_part w1 {m = layout.answer_length - layout.answer_notes} refl refl (omega arith) (omega arith) second in
      let w3 = wrote_rows w2 layout.note_width {m = layout.answer_length - layout.answer_endings} length_note_row refl noted (omega arith) (omega arith) third in
      wrote_rows w3 layout.ending_width {m = layout.record_length} length_ending_row refl ended (omega arith) (omega arith) fourth

  module _ {l : List ℕ} (inv : WroteIn l₀ 0 (front_numbers d) layout.answer_record layout.record_length l) where
    pub refusal_written : is_refused d.answer ≡ true → l ≡ splice l₀ 0 (decision_numbers d)
    unfolding decision_numbers
    refusal_written e = inv.so_far ∙ rw (state_refused d.answer d.state e)

    pub record_written : {m : List ℕ} → is_refused d.answer ≡ false → Whole d.state → m ≡ splice l layout.answer_record (record_numbers d.state) → m ≡ splice l₀ 0 (decision_numbers d)
    unfolding decision_numbers
    record_written {m} e h is =
        let w = wrote_part inv {m = 0} refl (length_record d.state h) refl (omega arith) is in
        wrote_all w refl ∙ rw (state_kept d.answer d.state e)
