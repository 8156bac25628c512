-- What the store does, as a list: a signal is stored, or goes; and its part of the run check, place by place.
use Rattle.std.specs.List.{list_all, position, position_from, copy_within}
use Rattle.std.proofs.lemmas.Iterator.Adapters.{position_from-zero}
use Rattle.std.proofs.lemmas.List.Quantifiers.{position-Some}
use Rattle.std.proofs.lemmas.List.{drop_all, take_min}
use Rattle.std.proofs.Math.Seq.{set-append_seam}
use Rattle.std.specs.Prelude.{◌≡◌, Option, Some, None, Bool, map, get_or, set, take, drop, replicate, length, ltb, eqb}
use Rattle.std.proofs.Math.Path.{refl, sym, ap}
use Rattle.std.proofs.Common.{◌∙◌, length-append, length-set, length-take, length-drop, take_all, take-suc-set, drop-set-lt, drop-cons, lt-ltb, le-leb, leb-true, ltb-true, ltb-false}
use Rattle.std.proofs.Math.Bool.{true, false}
use Rattle.std.proofs.lemmas.Bool.{lt-leb}
use mathlib.Core.List.{List, [], ◌∷◌, ◌++◌, map-append}
use Prim.Native.Nat.{ℕ, zero, suc, ◌+◌, ◌-◌, ◌≤◌, ◌<◌, min}
use Rattle.std.proofs.Math.Dec.{leb}
use native.Mathlib.Omega.{arith}
use Rattle.std.proofs.Math.Numerals.{add-one}
use Rattle.std.proofs.lemmas.List.{length-map}
use Rattle.std.proofs.Math.Seq.{take-suc}
use Rattle.laws.specs.Bool.{when◌then◌else◌, ◌and◌, if_true, both, join, split}
use Rattle.laws.specs.First.{first}
use Rattle.laws.specs.Every.{every, every_append, every_remove}
use Rattle.laws.specs.Listing.{padded, set_padded, padded_none}
use Rattle.laws.specs.Shift.{remove_at, without, take_without, drop_without, length_without}
use Rattle.model.specs.Code.{store, largest}
use Rattle.model.specs.Record.{no_signal, set_signals}
use Rattle.model.specs.Store.{listed, stored, first_signal, signal_at, removed, appended, left_over, in_sequence, signal_zero, signals_fit, store_fits}
use Rattle.model.specs.declared.BufferedSignal.{BufferedSignal}
use Rattle.model.specs.declared.State.{State}
use Rattle.model.specs.declared.answer.Ended.{Ended}
use Rattle.model.specs.declared.answer.Ending.{Ending}

-- THE ARRAY has its slots, and the count is within them.
pub record Slotted (signals : List BufferedSignal) (count : ℕ) : Type 0 where
  pub long : length signals ≡ 64
  pub room : count ≤ 64

abbrev pub IsSlotted : State → Type 0
IsSlotted s = Slotted s.signals s.signal_count

-- THE SIGNAL AT A PLACE.
module _ {A : Type 0} (d : A) where
  pub at_taken : (xs : List A) (i k : ℕ) → i < k → get_or xs i d ≡ get_or (take k xs) i d
  at_taken [] i zero h = refl
  at_taken [] i (suc k) h = refl
  at_taken (x ∷ xs) i zero h = absurd (omega arith)
  at_taken (x ∷ xs) zero (suc k) h = refl
  at_taken (x ∷ xs) (suc i) (suc k) h = at_taken xs i k (omega arith)

  pub past_taken : (xs : List A) (i k : ℕ) → min (length xs) k ≤ i → d ≡ get_or (take k xs) i d
  past_taken [] i zero h = refl
  past_taken [] i (suc k) h = refl
  past_taken (x ∷ xs) i zero h = refl
  past_taken (x ∷ xs) zero (suc k) h = absurd (omega arith)
  past_taken (x ∷ xs) (suc i) (suc k) h = past_taken xs i k (omega arith)

pub signal_here : (s : State) (i : ℕ) → i < s.signal_count → get_or s.signals i no_signal ≡ signal_at s i
unfolding signal_at listed
signal_here s i h = at_taken no_signal s.signals i s.signal_count h

pub signal_past : (s : State) (i : ℕ) → length s.signals ≡ 64 → min 64 s.signal_count ≤ i → no_signal ≡ signal_at s i
unfolding signal_at listed
signal_past s i l h = past_taken no_signal s.signals i s.signal_count (omega arith)

-- One that is found has a place in the store.
first_below : {A : Type 0} (p : A → Bool) (j : ℕ) (xs : List A) (i : ℕ) → first p (λ k _. Some k) None j xs ≡ Some i → i < j + length xs
unfolding first when◌then◌else◌
first_below p j [] i h = let z : ◌≡◌ {A = ℕ} 0 1 = cc in absurd (omega arith)
first_below p j (x ∷ xs) i h =
    split (p x) (λ t. let y : Some j ≡ Some i = rw t at h in let z : j ≡ i = cc in omega arith)
    (λ t. omega (arith, first_below p (j + 1) xs i (rw t at h)))

pub first_inside : (s : State) (name i : ℕ) → first_signal s name ≡ Some i → i < s.signal_count
unfolding first_signal listed
first_inside s name i h = omega (arith, first_below _ 0 _ i h, length-take s.signal_count s.signals)

pub stored_length : (s : State) → IsSlotted s → length (stored s) ≡ s.signal_count
unfolding listed
stored_length s t = omega (arith, length-take s.signal_count s.signals, t.long, t.room)

-- ONE MORE SIGNAL, at the end: nothing but the store changes, and it is the old list with the signal behind it.
pub appended_room : (s : State) (x : BufferedSignal) → s.signal_count < 64
    → appended s x ≡ set_signals s (set s.signals s.signal_count x) (s.signal_count + 1)
unfolding appended
appended_room s x h = if_true _ _ _ (lt-ltb _ _ h)

module _ (s : State) (x : BufferedSignal) (t : IsSlotted s) (h : s.signal_count < 64) where
  pub slotted_appended : IsSlotted (appended s x)
  slotted_appended = rw (appended_room s x h) (record { long = length-set s.signals s.signal_count x ∙ t.long; room = omega arith })

  pub stored_appended : stored (appended s x) ≡ stored s ++ (x ∷ [])
  unfolding listed
  stored_appended = rw (appended_room s x h, add-one) (take-suc-set s.signals s.signal_count x (omega (arith, t.long)))

-- ONE LESS: the list without the signal at the place.
pub removed_at : (s : State) (i : ℕ) → s.signal_count ≤ 64 → i < s.signal_count
    → removed s i ≡ set_signals s (without no_signal s.signals i) (s.signal_count - 1)
unfolding removed
removed_at s i h g = if_true _ _ _ (lt-ltb i (min 64 s.signal_count) (omega arith))

module _ (s : State) (i : ℕ) (t : IsSlotted s) (h : i < s.signal_count) where
  pub slotted_removed : IsSlotted (removed s i)
  slotted_removed = rw (removed_at s i t.room h) (record { long = length_without no_signal s.signals i (omega (arith, t.long, t.room)) ∙ t.long; room = omega (arith, t.room) })

  pub stored_removed : stored (removed s i) ≡ remove_at i (stored s)
  unfolding listed
  stored_removed =
      let e : suc (s.signal_count - 1) ≡ s.signal_count = omega arith in
      rw (removed_at s i t.room h) (take_without no_signal s.signals i (s.signal_count - 1) (omega arith) (omega (arith, t.long, t.room)) ∙ rw e)

-- LEFT OVER, as many as are stored; one after the other, the list of i of them in an array.
pub length_left : (xs : List BufferedSignal) → length (left_over xs) ≡ length xs
unfolding left_over
length_left xs = length-map xs _

pub record Leaving (signals : List BufferedSignal) (count : ℕ) (endings : List (Option Ending)) (i : ℕ) : Type 0 where
  pub is : endings ≡ padded store None (map Some (left_over (take i signals)))
  pub low : i ≤ min store count

pub leaving_none : {signals : List BufferedSignal} {count : ℕ} → Leaving signals count (replicate store None) 0
unfolding left_over
leaving_none = record { is = padded_none None store; low = omega arith }

module _ {signals : List BufferedSignal} {count i : ℕ} {endings : List (Option Ending)} (l : Leaving signals count endings i) (long : length signals ≡ 64) where
  abbrev left : Ending
  left = record { sequence = (get_or signals i no_signal).sequence; ending = Ended.LeftOver }

  one_more_left : i < 64 → left_over (take (i + 1) signals) ≡ left_over (take i signals) ++ (left ∷ [])
  unfolding left_over
  one_more_left h = rw (add-one, take-suc signals i no_signal (omega arith), map-append)

  pub leaving_more : i < min store count → Leaving signals count (set endings i (Some left)) (i + 1)
  leaving_more h =
      let so_far : List (Option Ending) = map Some (left_over (take i signals)) in
      let n : length so_far ≡ i = omega (arith, length-map (left_over (take i signals)) Some, length_left (take i signals), length-take i signals) in
      record {
        is = rw (l.is, one_more_left (omega arith), map-append) (ap (λ j. set (padded store None so_far) j (Some left)) (sym n) ∙ set_padded None store so_far (Some left) (omega arith));
        low = omega arith;
      }

  all_taken : i ≡ min store count → take i signals ≡ take count signals
  all_taken e =
      split (ltb store count) (λ h. take_all i signals (omega (arith, ltb-true store count h)) ∙ sym (take_all count signals (omega (arith, ltb-true store count h))))
      (λ h. let g : i ≡ count = omega (arith, ltb-false store count h) in rw g)

  pub leaving_all : min store count ≤ i → endings ≡ padded store None (map Some (left_over (listed signals count)))
  unfolding listed
  leaving_all h = l.is ∙ rw (all_taken (omega (arith, l.low)))

-- THE FIRST OF A NAME, where i is its place: the signal, and the record without it.
unfoldable pub found_at : State → Option ℕ → Option BufferedSignal
found_at s (Some i) = Some (signal_at s i)
found_at s None = None

unfoldable pub left_at : State → Option ℕ → State
left_at s (Some i) = removed s i
left_at s None = s

first_position : {A : Type 0} (p : A → Bool) (j : ℕ) (xs : List A) → first p (λ i _. Some i) None j xs ≡ position_from p j xs
unfolding first when◌then◌else◌
first_position p j [] = refl
first_position p j (x ∷ xs) = split (p x) (λ h. rw h) (λ h. rw h (first_position p (j + 1) xs))

-- The later ones moved down by one, and the last place cleared: the element at i is left out.
remove_at_parts : {A : Type 0} (i : ℕ) (xs : List A) → i < length xs → remove_at i xs ≡ take i xs ++ drop (i + 1) xs
unfolding remove_at
remove_at_parts i [] h = absurd (omega arith)
remove_at_parts zero (x ∷ xs) h = refl
remove_at_parts {A} (suc i) (x ∷ xs) h = let e : suc i + 1 ≡ suc (i + 1) = omega arith in rw e (ap {B = List A} (λ r. x ∷ r) (remove_at_parts i xs (omega arith)))

moved_down : {A : Type 0} (z : A) (xs : List A) (i n : ℕ) → length xs ≡ suc n → i ≤ n → set (copy_within xs (i + 1) (length xs) i) n z ≡ without z xs i
unfolding without
moved_down {A} z xs i n long h =
    let ys : List A = take i xs ++ drop (i + 1) xs in
    let m : length ys ≡ n = omega (arith, length-append (take i xs) (drop (i + 1) xs), length-take i xs, length-drop (i + 1) xs) in
    let e : take (length xs - (i + 1)) (drop (i + 1) xs) ≡ drop (i + 1) xs = take_all _ _ (omega (arith, length-drop (i + 1) xs)) in
    let g : i + (length xs - (i + 1)) ≡ n = omega arith in
    let d : drop n xs ≡ get_or xs n z ∷ [] = drop-cons xs n z (omega arith) ∙ ap {B = List A} (λ r. get_or xs n z ∷ r) (drop_all (suc n) xs (omega arith)) in
    rw (e, g, d, remove_at_parts i xs (omega arith)) (sym (ap (λ j. set (ys ++ (get_or xs n z ∷ [])) j z) m) ∙ set-append_seam ys (get_or xs n z) [] z)

-- In code: rows are the places that are looked at, o the first of the name among them.
module _ (s : State) (name : ℕ) {rows : ℕ} {o : Option ℕ} (long : length s.signals ≡ 64) (all : rows ≡ min store s.signal_count) (found : o ≡ position (λ x. eqb x.signal name) (take rows s.signals)) where
  first_is : first_signal s name ≡ o
  unfolding first_signal listed
  first_is =
      let k : rows ≡ min s.signal_count (length s.signals) = omega arith in
      let e : take rows s.signals ≡ take s.signal_count s.signals = ap {B = List BufferedSignal} (λ j. take j s.signals) k ∙ take_min s.signal_count s.signals in
      first_position (λ x. eqb x.signal name) 0 (take s.signal_count s.signals) ∙ rw (found, e, ← position_from-zero (λ x. eqb x.signal name) (take s.signal_count s.signals))

  pub first_none : {r : Option BufferedSignal} → o ≡ None → r ≡ None → (r ≡ found_at s (first_signal s name)) × (s ≡ left_at s (first_signal s name))
  unfolding found_at left_at
  first_none h g = rw (first_is, h) (g, refl)

  module _ {i : ℕ} (here : o ≡ Some i) where
    inside : i < min store s.signal_count
    inside = omega (arith, (position-Some (λ x. eqb x.signal name) (take rows s.signals) i no_signal (sym found ∙ here)).0, length-take rows s.signals)

    pub first_some : {xs : List BufferedSignal} {z : BufferedSignal} → z ≡ no_signal → xs ≡ copy_within s.signals (i + 1) (length s.signals) i
        → (Some (get_or s.signals i no_signal) ≡ found_at s (first_signal s name)) × (set_signals s (set xs 63 z) (s.signal_count - 1) ≡ left_at s (first_signal s name))
    unfolding found_at left_at removed
    first_some h g =
        rw (first_is, here)
        (ap Some (signal_here s i (omega (arith, inside))), rw (h, g, moved_down no_signal s.signals i 63 long (omega (arith, inside))) (sym (if_true _ _ _ (lt-ltb i (min store s.signal_count) inside))))

-- THE RUN CHECK'S PART is kept.
record Parts (signals : List BufferedSignal) (count : ℕ) : Type 0 where
  room : count ≤ store
  sequences : every in_sequence (listed signals count) ≡ true
  unused : every signal_zero (drop count signals) ≡ true

parts : (signals : List BufferedSignal) (count : ℕ) → signals_fit signals count ≡ true → Parts signals count
unfolding signals_fit
parts xs k e =
    let a = both _ _ e in
    let b = both _ _ a.1 in
    record { room = leb-true _ _ a.0; sequences = b.0; unused = b.1 }

whole : (signals : List BufferedSignal) (count : ℕ) → Parts signals count → signals_fit signals count ≡ true
unfolding signals_fit
whole xs k p = join _ _ (le-leb _ _ p.room) (join _ _ p.sequences p.unused)

pub fits_appended : (s : State) (x : BufferedSignal) → IsSlotted s → s.signal_count < 64 → x.sequence ≤ largest → store_fits s ≡ true → store_fits (appended s x) ≡ true
unfolding listed every
fits_appended s x t h g e =
    let p = parts s.signals s.signal_count e in
    let k = s.signal_count in
    let q : k < length s.signals = omega (arith, t.long) in
    rw (appended_room s x h)
    (whole _ _ (record {
      room = omega arith;
      sequences = rw (add-one, take-suc-set s.signals k x q) (every_append _ (take k s.signals) (x ∷ []) p.sequences (join _ _ (le-leb _ _ g) refl));
      unused = rw (add-one, drop-set-lt (suc k) s.signals k x (omega arith)) (both _ _ (rw (drop-cons s.signals k no_signal q) at p.unused)).1;
    }))

pub fits_removed : (s : State) (i : ℕ) → IsSlotted s → i < s.signal_count → store_fits s ≡ true → store_fits (removed s i) ≡ true
unfolding listed every ◌and◌
fits_removed s i t h e =
    let p = parts s.signals s.signal_count e in
    let k = s.signal_count in
    let n : suc (k - 1) ≡ k = omega arith in
    let l : i ≤ k - 1 = omega arith in
    let q : k - 1 < length s.signals = omega (arith, t.long, t.room) in
    rw (removed_at s i t.room h)
    (whole _ _ (record {
      room = omega (arith, t.room);
      sequences = rw (take_without no_signal s.signals i (k - 1) l q, n) (every_remove _ i (take k s.signals) p.sequences);
      unused = rw (drop_without no_signal s.signals i (k - 1) l q, n) (every_append _ (drop k s.signals) (no_signal ∷ []) p.unused refl);
    }))

pub fits_few : (s : State) → store_fits s ≡ true → s.signal_count ≤ 64
fits_few s e = (parts s.signals s.signal_count e).room

-- THE RUN CHECK'S PART, in code: the parts of the store pass as the library says it.
pub every_all : {A : Type 0} (p : A → Bool) (xs : List A) → list_all p xs ≡ every p xs
unfolding every ◌and◌
every_all p [] = refl
every_all p (x ∷ xs) = split (p x) (λ h. rw (h, every_all p xs)) (λ h. rw h)

pub crowded : (signals : List BufferedSignal) (count : ℕ) → store < count → false ≡ signals_fit signals count
unfolding signals_fit ◌and◌
crowded xs k h = sym (simp (lt-leb _ _ h))

-- Those that are stored are in sequence, and the others are zero where b; or they aren't.
module _ (signals : List BufferedSignal) (count : ℕ) where
  pub numbered : {b : Bool} → count ≤ store → length signals ≡ 64 → list_all in_sequence (take count signals) ≡ true
      → b ≡ list_all signal_zero (take (length signals - count) (drop count signals)) → b ≡ signals_fit signals count
  unfolding signals_fit listed ◌and◌
  numbered h long e g =
      let d : take (length signals - count) (drop count signals) ≡ drop count signals = take_all _ _ (omega (arith, length-drop count signals)) in
      let n : leb count store ≡ true = le-leb _ _ h in
      let m : every in_sequence (take count signals) ≡ true = sym (every_all in_sequence (take count signals)) ∙ e in
      g ∙ rw (d, n, m) (every_all signal_zero (drop count signals))

  pub unnumbered : list_all in_sequence (take count signals) ≡ false → false ≡ signals_fit signals count
  unfolding signals_fit listed ◌and◌
  unnumbered e =
      let m : every in_sequence (take count signals) ≡ false = sym (every_all in_sequence (take count signals)) ∙ e in
      split (leb count store) (λ h. rw (h, m)) (λ h. rw h)
