-- A part of a list: its bytes, its elements, its length, and what is written into it.
use Rattle.std.specs.Prelude.{◌≡◌, Option, List, ◌++◌, ℕ, ◌+◌, ◌*◌, ◌-◌, ◌≤◌, ◌<◌, length, get_or, take, drop, replicate}
use Rattle.std.proofs.Common.{sym, ap, ◌∙◌, append_assoc, drop-drop, take-append-drop, take-take, length-append}
use Rattle.std.proofs.lemmas.List.{drop-take, replicate-append-replicate}
use native.Mathlib.Omega.{arith}
use Rattle.std.proofs.Math.ListN.{length-take, length-drop, length-replicate}
use Rattle.std.proofs.Math.Seq.{get_or-take, get_or-drop, take_at, length-take-le}
use Rattle.laws.specs.Splice.{splice}
use Rattle.codec.specs.Read.{Read, got}
use Rattle.codec.specs.Numbers.{bytes_of, numbers_at, part}
use Rattle.codec.specs.Stored.{place_of, Stored, ZeroFrom}
use Rattle.codec.proofs.NumbersLaws.{numbers_long}
use Rattle.codec.proofs.ColumnsLaws.{bytes_few}

pub part_few : (xs : List ℕ) (first k : ℕ) → length (bytes_of (part xs first (first + k))) ≤ 10 * k
unfolding part
part_few xs first k =
    let e : first + k - first ≡ k = omega arith in
    let a = bytes_few (take (first + k - first) (drop first xs)) in
    let b = length-take (first + k - first) (drop first xs) in
    omega arith

module _ (xs : List ℕ) (first : ℕ) where
  pub get_d_part : (end i d : ℕ) → first + i < end → get_or (part xs first end) i d ≡ get_or xs (first + i) d
  unfolding part
  get_d_part end i d h = get_or-take (end - first) (drop first xs) i d (omega arith) ∙ get_or-drop first xs i d

  module _ (end : ℕ) (room : end ≤ length xs) where
    pub length_part : length (part xs first end) ≡ end - first
    unfolding part
    length_part =
        let t = length-take (end - first) (drop first xs) in
        let d = length-drop first xs in
        omega arith

-- WHAT IS WRITTEN INTO A PART stands in the list.
abbrev pub put_part : List ℕ → (first end : ℕ) → List ℕ → List ℕ
put_part l first end ys = take first l ++ (ys ++ drop (end - first) (drop first l))

drop_in : (n k : ℕ) (d : List ℕ) → n ≤ k → drop n (take k d) ++ drop k d ≡ drop n d
drop_in n k d h =
    let e : k ≡ n + (k - n) = omega arith in
    rw (e, drop-take n (k - n) d, ← drop-drop (k - n) n d) (take-append-drop (k - n) (drop n d))

put_splice : (l : List ℕ) (first end : ℕ) (ns : List ℕ) → length ns ≤ end - first → put_part l first end (splice (part l first end) 0 ns) ≡ splice l first ns
unfolding splice part
put_splice l first end ns h =
    let e : 0 + length ns ≡ length ns = omega arith in
    let mid = take (end - first) (drop first l) in
    let front = take first l in
    rw (e, ← drop-drop (length ns) first l) (
    ap (λ (r : List ℕ). front ++ r) (append_assoc ns (drop (length ns) mid) (drop (end - first) (drop first l)) ∙ ap (λ (r : List ℕ). ns ++ r) (drop_in (length ns) (end - first) (drop first l) h))
    ∙ sym (append_assoc front ns (drop (length ns) (drop first l)))
    )

module _ (l : List ℕ) (first end : ℕ) (low : first ≤ end) (high : end ≤ length l) where
  long : length (part l first end) ≡ end - first
  long = length_part l first end high

  pub put_long : (ys : List ℕ) → length ys ≡ length (part l first end) → length (put_part l first end ys) ≡ length l
  put_long ys h =
      let n = long in
      let t = length-take-le first l (omega arith) in
      let d = length-drop (end - first) (drop first l) in
      let f = length-drop first l in
      simp length-append (omega arith)

  pub part_stored : {r : Read (List ℕ)} {ys : List ℕ} → ((ns : List ℕ) (p : ℕ) → r ≡ got ns p → length ns ≤ end - first) → Stored r (part l first end) 0 ys → Stored r l first (put_part l first end ys)
  part_stored {r} {ys} few s =
      record {
        is = λ ns p e. rw (s.is ns p e) (put_splice l first end ns (few ns p e));
        long = put_long ys s.long;
      }

  pub part_zero : ZeroFrom first l → ZeroFrom 0 (part l first end)
  unfolding part
  part_zero z =
      let n : length (part l first end) ≡ end - first = long in
      let e : length l - first ≡ end - first + (length l - end) = omega arith in
      let w : drop first l ≡ replicate (end - first) 0 ++ replicate (length l - end) 0 = z ∙ rw e (sym (replicate-append-replicate (end - first) (length l - end) 0)) in
      let m : length (part l first end) - 0 ≡ end - first = omega arith in
      rw m (rw w (take_at (replicate (end - first) 0) (replicate (length l - end) 0) (end - first) (length-replicate {A = ℕ} (end - first) 0)))

-- The first of a list.
pub front_long : (l : List ℕ) (k : ℕ) → k ≤ length l → (ys : List ℕ) → length ys ≡ length (take k l) → length (ys ++ drop k l) ≡ length l
unfolding part
front_long l k h ys e =
    let z : k - 0 ≡ k = omega arith in
    rw z at (put_long l 0 k (omega arith) h ys (rw z e))

pub front_stored : {r : Read (List ℕ)} {l ys : List ℕ} (k : ℕ) → k ≤ length l → ((ns : List ℕ) (p : ℕ) → r ≡ got ns p → length ns ≤ k) → Stored r (take k l) 0 ys → Stored r l 0 (ys ++ drop k l)
unfolding part
front_stored {r} {l} {ys} k h few s =
    let z : k - 0 ≡ k = omega arith in
    rw z at (part_stored l 0 k (omega arith) h {r = r} {ys = ys} (λ ns p e. rw z (few ns p e)) (rw z s))

-- NUMBERS READ INTO A PART: as many as it has.
module _ (top : ℕ) (bytes : List ℕ) (at : ℕ) (l : List ℕ) (first end : ℕ) (low : first ≤ end) (high : end ≤ length l) where
  pub part_place : {z : Option ℕ} → z ≡ place_of (numbers_at top (length (part l first end)) bytes at) → z ≡ place_of (numbers_at top (end - first) bytes at)
  part_place e = rw (length_part l first end high) at e

  pub part_read : {ys : List ℕ} → Stored (numbers_at top (length (part l first end)) bytes at) (part l first end) 0 ys → Stored (numbers_at top (end - first) bytes at) l first (put_part l first end ys)
  part_read {ys} s = part_stored l first end low high (λ ns p e. let n = numbers_long top bytes (end - first) at ns p e in omega arith) (rw (length_part l first end high) at s)

-- A PART OF A PART from its beginning.
pub part_in : (l : List ℕ) (first end k : ℕ) → first + k ≤ end → part (part l first end) 0 k ≡ part l first (first + k)
unfolding part
part_in l first end k h =
    let e : k - 0 ≡ k = omega arith in
    let f : first + k - first ≡ k = omega arith in
    rw (e, f) (take-take k (end - first) (drop first l) (omega arith))
