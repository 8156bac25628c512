-- Numbers one behind the other in loops: read, counted, written.
use Rattle.std.specs.Prelude.{◌≡◌, refl, get_or, set}
use Rattle.std.proofs.Math.Path.{sym}
use Rattle.std.proofs.Common.{ap, ◌∙◌, add-one, drop-cons, take_all}
use mathlib.Core.List.{List, [], ◌∷◌, ◌++◌, flat_map, append_assoc, append-nil}
use Prim.Native.Nat.{ℕ, zero, suc, ◌+◌, ◌*◌, ◌-◌, ◌≤◌, ◌<◌}
use native.Mathlib.Omega.{arith}
use Rattle.std.proofs.Math.ListN.{length, length-append}
use Rattle.laws.specs.Rows.{span, span_more, span_none}
use Rattle.laws.specs.Zeros.{Dirt, dirt_start}
use Rattle.laws.specs.Splice.{splice, splice_none, splice_one, splice_more, length_splice}
use Rattle.codec.specs.Read.{Read, got, bad, onward}
use Rattle.codec.specs.Leb.{leb128}
use Rattle.codec.specs.Numbers.{bytes_of, number_below, numbers_at, part}
use Rattle.codec.specs.Stages.{all_zero}
use Rattle.codec.proofs.LebLaws.{leb_few}

-- A PART of a list, from a place up to another.
pub part_more : (xs : List ℕ) (i k : ℕ) → i < k → k ≤ length xs → part xs i k ≡ get_or xs i 0 ∷ part xs (i + 1) k
unfolding part
part_more xs i k h l =
    let e : k - i ≡ suc (k - (i + 1)) = omega arith in
    rw (e, drop-cons xs i 0 (omega arith), add-one)

pub part_none : (xs : List ℕ) (i k : ℕ) → k ≤ i → part xs i k ≡ []
unfolding part
part_none xs i k h =
    let e : k - i ≡ 0 = omega arith in
    rw e

-- The whole of it.
pub part_all : (xs : List ℕ) (k : ℕ) → length xs ≡ k → part xs 0 k ≡ xs
unfolding part
part_all xs k h =
    let e : k - 0 ≡ k = omega arith in
    rw e (take_all k xs (omega arith))

-- It is the numbers that stand at its places.
part_from : (xs : List ℕ) (m i k : ℕ) → k ≡ i + m → k ≤ length xs → part xs i k ≡ span (λ j. get_or xs j 0) i k
part_from xs zero i k e h = part_none xs i k (omega arith) ∙ sym (span_none _ i k (omega arith))
part_from xs (suc m) i k e h =
    rw (part_more xs i k (omega arith) h, span_more (λ j. get_or xs j 0) i k (omega arith), part_from xs m (i + 1) k (omega arith) h)

pub part_span : (xs : List ℕ) (i k : ℕ) → i ≤ k → k ≤ length xs → part xs i k ≡ span (λ j. get_or xs j 0) i k
part_span xs i k h l = part_from xs (k - i) i k (omega arith) l

-- All of it is zero: the loop over the digits of its numbers begins.
pub zeros_start : (xs : List ℕ) (k : ℕ) {d : ℕ} → length xs ≡ k → d ≡ 0 → Dirt (λ j. get_or xs j 0) k 0 d (all_zero xs)
zeros_start xs k e z =
    let f : ℕ → ℕ = λ j. get_or xs j 0 in
    let w : all_zero xs ≡ all_zero (span f 0 k) = ap all_zero (sym (part_all xs k e) ∙ part_span xs 0 k (omega arith) (omega arith)) in
    rw (z, w) dirt_start

-- Its bytes.
part_bytes : (xs : List ℕ) (i k : ℕ) → i < k → k ≤ length xs → bytes_of (part xs i k) ≡ leb128 (get_or xs i 0) ++ bytes_of (part xs (i + 1) k)
unfolding flat_map
part_bytes xs i k h l = rw (part_more xs i k h l)

no_bytes : (xs : List ℕ) (i k : ℕ) → k ≤ i → bytes_of (part xs i k) ≡ []
unfolding flat_map
no_bytes xs i k h = rw (part_none xs i k h)

-- READING. What was read stands in the list, and what is left to read comes behind it.
pub record Reading (top : ℕ) (bytes : List ℕ) (whole : Read (List ℕ)) (before : List ℕ) (first end at i : ℕ) (list : List ℕ) : Type 0 where
  pub seen : List ℕ
  pub left : onward (numbers_at top (end - i) bytes at) (λ ns q. got (seen ++ ns) q) ≡ whole
  pub so_far : list ≡ splice before first seen
  pub count : first + length seen ≡ i
  pub high : i ≤ end
  pub room : end ≤ length before

same_read : (r : Read (List ℕ)) → onward r (λ ns q. got ([] ++ ns) q) ≡ r
unfolding onward
same_read (got ns q) = refl
same_read bad = refl

one_behind : (xs : List ℕ) (n : ℕ) (r : Read (List ℕ)) → onward (onward r (λ ns q. got (n ∷ ns) q)) (λ ns q. got (xs ++ ns) q) ≡ onward r (λ ns q. got ((xs ++ (n ∷ [])) ++ ns) q)
unfolding onward
one_behind xs n (got ns q) = ap (λ (l : List ℕ). got l q) (sym (append_assoc xs (n ∷ []) ns))
one_behind xs n bad = refl

pub reading_start : {top : ℕ} {bytes list : List ℕ} {first end at : ℕ} → first ≤ end → end ≤ length list → Reading top bytes (numbers_at top (end - first) bytes at) list first end at first list
reading_start {top} {bytes} {list} {first} {end} {at} h l =
    record { seen = []; left = same_read (numbers_at top (end - first) bytes at); so_far = sym (splice_none list first); count = omega arith; high = h; room = l }

module _ {top : ℕ} {bytes : List ℕ} {whole : Read (List ℕ)} {before : List ℕ} {first end at i : ℕ} {list : List ℕ} (inv : Reading top bytes whole before first end at i list) where
  pub reading_long : length list ≡ length before
  reading_long =
      let c = inv.count in
      let r = inv.room in
      let b = inv.high in
      rw inv.so_far (length_splice before first inv.seen (omega arith))

  -- the next number
  next : i < end → onward (onward (number_below top bytes at) (λ n p. onward (numbers_at top (end - (i + 1)) bytes p) (λ ns q. got (n ∷ ns) q))) (λ ns q. got (inv.seen ++ ns) q) ≡ whole
  unfolding numbers_at
  next h =
      let e : end - i ≡ suc (end - (i + 1)) = omega arith in
      rw e at inv.left

  pub reading_bad : number_below top bytes at ≡ bad → i < end → whole ≡ bad
  unfolding onward
  reading_bad e h = sym (rw e at (next h))

  pub reading_more : {n p : ℕ} → number_below top bytes at ≡ got n p → i < end → Reading top bytes whole before first end p (i + 1) (set list i n)
  unfolding onward
  reading_more {n} {p} e h =
      let c = inv.count in
      let r = inv.room in
      let long = reading_long in
      let s : length (inv.seen ++ (n ∷ [])) ≡ length inv.seen + 1 = length-append inv.seen (n ∷ []) in
      record {
        seen = inv.seen ++ (n ∷ []);
        left = sym (one_behind inv.seen n (numbers_at top (end - (i + 1)) bytes p)) ∙ (rw e at (next h));
        so_far = splice_one list i n (omega arith) ∙ rw inv.so_far (splice_more before first inv.seen (n ∷ []) i (omega arith) (omega arith));
        count = omega arith;
        high = omega arith;
        room = r;
      }

  pub reading_end : end ≤ i → whole ≡ got inv.seen at
  unfolding onward numbers_at
  reading_end h =
      let e : end - i ≡ 0 = omega arith in
      sym (rw (e, append-nil) at inv.left)

-- COUNTING the bytes.
pub record Sizing (xs : List ℕ) (first end i size : ℕ) : Type 0 where
  pub left : size + length (bytes_of (part xs i end)) ≡ length (bytes_of (part xs first end))
  pub few : size + 10 * first ≤ 10 * i
  pub high : i ≤ end

pub sizing_start : {xs : List ℕ} {first end : ℕ} → first ≤ end → Sizing xs first end first 0
sizing_start h = record { left = omega arith; few = omega arith; high = h }

module _ {xs : List ℕ} {first end i size : ℕ} (inv : Sizing xs first end i size) where
  pub sizing_more : {s : ℕ} → s ≡ length (leb128 (get_or xs i 0)) → i < end → end ≤ length xs → Sizing xs first end (i + 1) (size + s)
  sizing_more {s} e h l =
      let a = rw (part_bytes xs i end h l, length-append) at inv.left in
      let b = inv.few in
      let g = leb_few (get_or xs i 0) in
      record { left = omega arith; few = omega arith; high = omega arith }

  pub sizing_end : end ≤ i → size ≡ length (bytes_of (part xs first end))
  sizing_end h =
      let a = rw (no_bytes xs i end h) at inv.left in
      omega arith

-- WRITING the bytes. What was written stands in the list up to a place, and what is left comes behind it.
pub record Appending (before : List ℕ) (at : ℕ) (xs : List ℕ) (first end i place : ℕ) (list : List ℕ) : Type 0 where
  pub seen : List ℕ
  pub left : seen ++ bytes_of (part xs i end) ≡ bytes_of (part xs first end)
  pub so_far : list ≡ splice before at seen
  pub there : place ≡ at + length seen
  pub room : at + length (bytes_of (part xs first end)) ≤ length before
  pub high : i ≤ end

pub appending_start : {list : List ℕ} {at : ℕ} {xs : List ℕ} {first end : ℕ} → first ≤ end → at + length (bytes_of (part xs first end)) ≤ length list → Appending list at xs first end first at list
appending_start {list} {at} h r = record { seen = []; left = refl; so_far = sym (splice_none list at); there = omega arith; room = r; high = h }

module _ {before : List ℕ} {at : ℕ} {xs : List ℕ} {first end i place : ℕ} {list : List ℕ} (inv : Appending before at xs first end i place list) where
  sizes : length inv.seen + length (bytes_of (part xs i end)) ≡ length (bytes_of (part xs first end))
  sizes = sym (length-append inv.seen (bytes_of (part xs i end))) ∙ ap length inv.left

  pub appending_long : length list ≡ length before
  appending_long =
      let s = sizes in
      let r = inv.room in
      rw inv.so_far (length_splice before at inv.seen (omega arith))

  module _ (h : i < end) (k : end ≤ length xs) where
    more_sizes : length inv.seen + (length (leb128 (get_or xs i 0)) + length (bytes_of (part xs (i + 1) end))) ≡ length (bytes_of (part xs first end))
    more_sizes = rw (part_bytes xs i end h k, length-append) at sizes

    pub appending_room : place + length (leb128 (get_or xs i 0)) ≤ length list
    appending_room =
        let s = more_sizes in
        let r = inv.room in
        let t = inv.there in
        let n = appending_long in
        omega arith

    pub appending_more : {list' : List ℕ} {place' n : ℕ} → n ≡ get_or xs i 0 → place' ≡ place + length (leb128 n) → list' ≡ splice list place (leb128 n) → Appending before at xs first end (i + 1) place' list'
    appending_more {list'} {place'} {n} q e f =
        let s = more_sizes in
        let r = inv.room in
        let t = inv.there in
        let m = length-append inv.seen (leb128 n) in
        let z : length (leb128 n) ≡ length (leb128 (get_or xs i 0)) = ap (λ (x : ℕ). length (leb128 x)) q in
        record {
          seen = inv.seen ++ leb128 n;
          left = append_assoc inv.seen (leb128 n) (bytes_of (part xs (i + 1) end)) ∙ rw q (rw (part_bytes xs i end h k) at inv.left);
          so_far = f ∙ ap (λ (l : List ℕ). splice l place (leb128 n)) inv.so_far ∙ splice_more before at inv.seen (leb128 n) place t (omega arith);
          there = omega arith;
          room = r;
          high = omega arith;
        }

  all_seen : end ≤ i → inv.seen ≡ bytes_of (part xs first end)
  all_seen h = sym (append-nil inv.seen) ∙ (rw (no_bytes xs i end h) at inv.left)

  pub appending_place : end ≤ i → place ≡ at + length (bytes_of (part xs first end))
  appending_place h = inv.there ∙ ap (λ (l : List ℕ). at + length l) (all_seen h)

  pub appending_end : end ≤ i → list ≡ splice before at (bytes_of (part xs first end))
  appending_end h = inv.so_far ∙ ap (λ (l : List ℕ). splice before at l) (all_seen h)
