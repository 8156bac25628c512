-- Shapes one behind the other in a lent list: read, tested, counted and written.
use Rattle.std.specs.Prelude.{◌≡◌, refl, Some, Bool, true, ℕ, ◌+◌, ◌*◌, ◌≤◌, ◌<◌, length, get_or, take, drop}
use Rattle.std.proofs.Math.Path.{sym, ap}
use Rattle.std.proofs.Common.{◌∙◌, length-take-le, get_or-append-add}
use mathlib.Core.List.{List, [], ◌++◌, flat_map, append_assoc, append-nil}
use native.Mathlib.Omega.{arith}
use Rattle.std.proofs.Math.ListN.{length-append, get_or-append}
use Rattle.laws.specs.Bool.{◌and◌, both}
use Rattle.laws.specs.Every.{every}
use Rattle.laws.specs.Splice.{splice, splice_none, splice_more, length_splice}
use Rattle.codec.specs.Read.{Read, got, bad, onward}
use Rattle.codec.specs.Numbers.{bytes_of, numbers_at, part}
use Rattle.codec.specs.Stages.{Shape, numbers, beside}
use Rattle.codec.specs.Stored.{place_of, Stored, ZeroFrom}
use Rattle.codec.proofs.StoredLaws.{got_place, got_stored}
use Rattle.codec.proofs.ExactLaws.{bytes_append}
use Rattle.codec.proofs.NumbersLoops.{part_none}
use Rattle.codec.proofs.Zeros.{zero_behind}
use Rattle.codec.proofs.Parts.{part_front, part_back}

-- THE LOOP THAT READS. What was read stands in the list, which was before, from first on; the shape that is left comes behind it, and behind that the list is zero.
pub record ReadingShapes (bytes : List ℕ) (whole : Read (List ℕ)) (before : List ℕ) (first : ℕ) (rest : Shape) (at i : ℕ) (list : List ℕ) : Type 0 where
  pub so_far : List ℕ
  pub left : onward (rest.read bytes at) (λ ns p. got (so_far ++ ns) p) ≡ whole
  pub is : list ≡ splice before first so_far
  pub place : i ≡ first + length so_far
  pub room : i + rest.width ≤ length before
  pub blank : ZeroFrom i list

pub nothing_yet : (r : Read (List ℕ)) → onward r (λ ns p. got ns p) ≡ r
unfolding onward
nothing_yet bad = refl
nothing_yet (got ns p) = refl

pub reading_start : (bytes before : List ℕ) (first : ℕ) (shape : Shape) (at : ℕ) → first + shape.width ≤ length before → ZeroFrom first before → ReadingShapes bytes (shape.read bytes at) before first shape at first before
reading_start bytes before first shape at h z = record { so_far = []; left = nothing_yet (shape.read bytes at); is = sym (splice_none before first); place = omega arith; room = h; blank = z }

pub getD_splice : (xs : List ℕ) (at : ℕ) (ys : List ℕ) (k : ℕ) → at ≤ length xs → k < length ys → get_or (splice xs at ys) (at + k) 0 ≡ get_or ys k 0
unfolding splice
getD_splice xs at ys k h g =
    let t = length-take-le at xs h in
    let e : at + k ≡ length (take at xs) + k = omega arith in
    rw (e, append_assoc) (get_or-append-add (take at xs) (ys ++ drop (at + length ys) xs) k 0 ∙ get_or-append ys (drop (at + length ys) xs) 0 k g)

pub behind : (xs ys : List ℕ) (r : Read (List ℕ)) → onward r (λ ns p. got (xs ++ ys ++ ns) p) ≡ onward (onward r (λ ns p. got (ys ++ ns) p)) (λ ns p. got (xs ++ ns) p)
unfolding onward
behind xs ys bad = refl
behind xs ys (got ns p) = ap (λ (l : List ℕ). got l p) (append_assoc xs ys ns)

module _ {bytes : List ℕ} {whole : Read (List ℕ)} {before : List ℕ} {first : ℕ} {rest : Shape} {at i : ℕ} {list : List ℕ} (inv : ReadingShapes bytes whole before first rest at i list) where
  pub reading_long : length list ≡ length before
  reading_long = let p = inv.place in let r = inv.room in rw inv.is (length_splice before first inv.so_far (omega arith))

  -- what was read, number by number
  pub reading_seen : (k : ℕ) → k < length inv.so_far → get_or list (first + k) 0 ≡ get_or inv.so_far k 0
  reading_seen k h = let p = inv.place in let r = inv.room in rw inv.is (getD_splice before first inv.so_far k (omega arith) h)

  -- a shape is next, and another one behind it
  module _ (one : Shape) (more : List ℕ → Shape) (width : ℕ) (next : rest ≡ beside one more width) where
    pub reading_room : i + one.width ≤ length list
    unfolding beside
    reading_room = let n = reading_long in let r = rw next at inv.room in omega arith

    pub reading_bad : one.read bytes at ≡ bad → whole ≡ bad
    unfolding beside onward
    reading_bad e = sym (rw (next, e) at inv.left)

    pub reading_more : (ns : List ℕ) (p : ℕ) (after : List ℕ) → one.read bytes at ≡ got ns p → length ns ≡ one.width → (more ns).width ≡ width → Stored (one.read bytes at) list i after → ReadingShapes bytes whole before first (more ns) p (i + one.width) after
    unfolding beside onward
    reading_more ns p after e long wide s =
        let f = s.is ns p e in
        let n = reading_long in
        let q = inv.place in
        let r = rw next at inv.room in
        let a = length-append inv.so_far ns in
        record {
          so_far = inv.so_far ++ ns;
          left = behind inv.so_far ns ((more ns).read bytes p) ∙ (rw (next, e) at inv.left);
          is = f ∙ ap (λ (l : List ℕ). splice l i ns) inv.is ∙ splice_more before first inv.so_far ns i q (omega arith);
          place = omega arith;
          room = omega arith;
          blank = rw (f, ← long) (zero_behind list i inv.blank ns (omega arith));
        }

  -- nothing is next
  module _ (none : rest ≡ numbers 0 0) where
    all_read : whole ≡ got inv.so_far at
    unfolding numbers numbers_at onward
    all_read = sym (rw (none, append-nil) at inv.left)

    pub reading_place : Some at ≡ place_of whole
    reading_place = got_place all_read

    pub reading_stored : Stored whole before first list
    reading_stored = got_stored all_read inv.is reading_long

-- The numbers of a shape that begins at a place; whether they are tidy; and their bytes.
abbrev pub held : List ℕ → Shape → (i : ℕ) → List ℕ
held xs shape i = part xs i (i + shape.width)

abbrev pub neat : List ℕ → Shape → (i : ℕ) → Bool
neat xs shape i = shape.tidy (held xs shape i)

abbrev pub written : List ℕ → Shape → (i : ℕ) → List ℕ
written xs shape i = bytes_of (shape.fields (held xs shape i))

-- A shape, and another one behind it.
module _ (xs : List ℕ) (i : ℕ) (rest one : Shape) (more : List ℕ → Shape) (width : ℕ) (next : rest ≡ beside one more width) (wide : (more (held xs one i)).width ≡ width) where
  pub neat_next : neat xs rest i ≡ (neat xs one i and neat xs (more (held xs one i)) (i + one.width))
  unfolding beside
  neat_next = rw (next, part_front xs i one.width width, part_back xs i one.width width, wide)

  pub written_next : written xs rest i ≡ written xs one i ++ written xs (more (held xs one i)) (i + one.width)
  unfolding beside
  written_next =
      rw (next, part_front xs i one.width width, part_back xs i one.width width, wide)
      (bytes_append (one.fields (held xs one i)) ((more (held xs one i)).fields (part xs (i + one.width) (i + one.width + width))))

-- Nothing more.
module _ (xs : List ℕ) (i : ℕ) (rest : Shape) (none : rest ≡ numbers 0 0) where
  pub neat_none : neat xs rest i ≡ true
  unfolding numbers every ◌and◌
  neat_none = rw (none, part_none xs i (i + 0) (omega arith))

  pub written_none : written xs rest i ≡ []
  unfolding numbers flat_map
  written_none = rw (none, part_none xs i (i + 0) (omega arith))

-- TIDY SHAPES from a place on, for which there is room.
pub record Ahead (xs : List ℕ) (rest : Shape) (i : ℕ) : Type 0 where
  pub room : i + rest.width ≤ length xs
  pub tidy : neat xs rest i ≡ true

pub record Step (xs : List ℕ) (one more : Shape) (i : ℕ) : Type 0 where
  pub room : i + one.width ≤ length xs
  pub tidy : neat xs one i ≡ true
  pub ahead : Ahead xs more (i + one.width)

module _ {xs : List ℕ} {rest : Shape} {i : ℕ} (inv : Ahead xs rest i) where
  pub step : (one : Shape) (more : List ℕ → Shape) (width : ℕ) → rest ≡ beside one more width → (more (held xs one i)).width ≡ width → Step xs one (more (held xs one i)) i
  unfolding beside
  step one more width next wide =
      let r = rw next at inv.room in
      let t = both _ _ (rw (neat_next xs i rest one more width next wide) at inv.tidy) in
      record { room = omega arith; tidy = t.0; ahead = record { room = omega arith; tidy = t.1 } }

-- A LOOP THAT WRITES. The bytes so far stand in the list, which was before, from at on; those that are left come behind them.
pub record Writing (whole before : List ℕ) (at : ℕ) (rest : List ℕ) (place : ℕ) (list : List ℕ) : Type 0 where
  pub so_far : List ℕ
  pub left : so_far ++ rest ≡ whole
  pub is : list ≡ splice before at so_far
  pub there : place ≡ at + length so_far
  pub fits : at + length whole ≤ length before

pub all_left : (before : List ℕ) (at : ℕ) (whole : List ℕ) → at + length whole ≤ length before → Writing whole before at whole at before
all_left before at whole h = record { so_far = []; left = refl; is = sym (splice_none before at); there = omega arith; fits = h }

module _ {whole before : List ℕ} {at : ℕ} {rest : List ℕ} {place : ℕ} {list : List ℕ} (inv : Writing whole before at rest place list) where
  sizes : length inv.so_far + length rest ≡ length whole
  sizes = sym (length-append inv.so_far rest) ∙ ap length inv.left

  pub long_still : length list ≡ length before
  long_still = let s = sizes in let f = inv.fits in rw inv.is (length_splice before at inv.so_far (omega arith))

  -- these bytes are next, and others behind them
  module _ (new more : List ℕ) (next : rest ≡ new ++ more) where
    pub new_fits : place + length new ≤ length list
    new_fits =
        let s = rw (next, length-append) at sizes in
        let n = long_still in
        let f = inv.fits in
        let t = inv.there in
        omega arith

    pub one_more : {after : List ℕ} {p : ℕ} → p ≡ place + length new → after ≡ splice list place new → Writing whole before at more p after
    one_more {after} {p} e f =
        let s = rw (next, length-append) at sizes in
        let g = inv.fits in
        let t = inv.there in
        let a = length-append inv.so_far new in
        record {
          so_far = inv.so_far ++ new;
          left = append_assoc inv.so_far new more ∙ (rw next at inv.left);
          is = f ∙ ap (λ (l : List ℕ). splice l place new) inv.is ∙ splice_more before at inv.so_far new place t (omega arith);
          there = omega arith;
          fits = g;
        }

  module _ (none : rest ≡ []) where
    all_written : inv.so_far ≡ whole
    all_written = sym (append-nil inv.so_far) ∙ (rw none at inv.left)

    pub last_place : place ≡ at + length whole
    last_place = inv.there ∙ ap (λ (l : List ℕ). at + length l) all_written

    pub last_list : list ≡ splice before at whole
    last_list = inv.is ∙ ap (splice before at) all_written

-- The same, where the bytes that are left are those of a shape.
pub record WritingShapes (whole before : List ℕ) (at : ℕ) (xs : List ℕ) (rest : Shape) (i place : ℕ) (list : List ℕ) : Type 0 where
  pub bytes : Writing whole before at (written xs rest i) place list

pub writing_start : (before : List ℕ) (at : ℕ) (xs : List ℕ) (shape : Shape) (i : ℕ) → at + length (written xs shape i) ≤ length before → WritingShapes (written xs shape i) before at xs shape i at before
writing_start before at xs shape i h = record { bytes = all_left before at (written xs shape i) h }

module _ {whole before : List ℕ} {at : ℕ} {xs : List ℕ} {rest : Shape} {i place : ℕ} {list : List ℕ} (inv : WritingShapes whole before at xs rest i place list) where
  pub writing_long : length list ≡ length before
  writing_long = long_still inv.bytes

  module _ (one : Shape) (more : List ℕ → Shape) (width : ℕ) (next : rest ≡ beside one more width) (wide : (more (held xs one i)).width ≡ width) where
    pub writing_room : place + length (written xs one i) ≤ length list
    writing_room = new_fits inv.bytes _ _ (written_next xs i rest one more width next wide)

    pub writing_more : {after : List ℕ} {p : ℕ} → p ≡ place + length (written xs one i) → after ≡ splice list place (written xs one i) → WritingShapes whole before at xs (more (held xs one i)) (i + one.width) p after
    writing_more e f = record { bytes = one_more inv.bytes _ _ (written_next xs i rest one more width next wide) e f }

  module _ (none : rest ≡ numbers 0 0) where
    pub writing_place : place ≡ at + length whole
    writing_place = last_place inv.bytes (written_none xs i rest none)

    pub writing_end : list ≡ splice before at whole
    writing_end = last_list inv.bytes (written_none xs i rest none)

-- A LOOP THAT COUNTS the bytes.
pub record CountingShapes (whole : List ℕ) (xs : List ℕ) (rest : Shape) (i size : ℕ) : Type 0 where
  pub left : size + length (written xs rest i) ≡ length whole
  pub few : size ≤ 10 * i

module _ {whole : List ℕ} {xs : List ℕ} {rest : Shape} {i size : ℕ} (inv : CountingShapes whole xs rest i size) where
  pub counting_more : (one : Shape) (more : List ℕ → Shape) (width : ℕ) → rest ≡ beside one more width → (more (held xs one i)).width ≡ width → {s : ℕ} → s ≡ length (written xs one i) → s ≤ 10 * one.width → CountingShapes whole xs (more (held xs one i)) (i + one.width) (size + s)
  counting_more one more width next wide {s} e few =
      let l = rw (written_next xs i rest one more width next wide, length-append) at inv.left in
      let f = inv.few in
      record { left = omega arith; few = omega arith }

  pub counting_end : rest ≡ numbers 0 0 → size ≡ length whole
  counting_end none = let l = rw (written_none xs i rest none) at inv.left in omega arith
