-- The loops over columns: the shape that is left at a column, and what the numbers of one column say.
use Rattle.std.specs.Prelude.{◌≡◌, Option, Some, None, Bool, true, false, not, List, ◌∷◌, ℕ, ◌+◌, ◌*◌, ◌-◌, ◌≤◌, ◌<◌, length}
use Rattle.std.proofs.Math.Path.{refl, sym, ap}
use Rattle.std.proofs.Common.{◌∙◌, drop_of_length-le, drop-cons}
use native.Mathlib.Omega.{arith}
use Rattle.std.proofs.Math.Numerals.{add-one}
use Rattle.std.proofs.Math.Dec.{ltb}
use Rattle.std.proofs.Math.ListN.{get_or, drop}
use borrow.Author.Tests.{lt-ltb, le-leb, lt-leb, eq-eqb, not-true, not-false}
use Rattle.laws.specs.Bool.{when◌then◌else◌, ◌and◌}
use Rattle.laws.specs.Splice.{splice}
use Rattle.laws.specs.Listing.{padded}
use Rattle.codec.specs.declared.columns.Column.{Column}
use Rattle.codec.specs.Read.{Read, got, bad, onward}
use Rattle.codec.specs.Numbers.{bytes_of, numbers_at, part}
use Rattle.codec.specs.Stages.{Shape, numbers, column, beside, total, columns, all_zero}
use Rattle.codec.specs.Stored.{place_of, Stored, ZeroFrom}
use Rattle.codec.proofs.ExactLaws.{not_bad}
use Rattle.codec.proofs.NumbersLaws.{numbers_long}
use Rattle.codec.proofs.Zeros.{padded_long, splice_padded}
use Rattle.codec.proofs.Parts.{part_long, part_front, part_back, part_below, every_take}
use Rattle.codec.proofs.StoredLaws.{at_got, at_bad}
use Rattle.codec.proofs.ShapesLoops.{ReadingShapes, reading_start, reading_long, reading_room, reading_bad, reading_more, reading_place, reading_stored, neat, written, neat_next, neat_none, Ahead, Step, step, WritingShapes, writing_start, writing_long, writing_room, writing_more, writing_place, writing_end, CountingShapes, counting_more, counting_end}
use Rattle.codec.proofs.ColumnsLaws.{tidy_column, column_read, columns_width}
use Rattle.codec.proofs.PartLaws.{part_few, put_part, part_stored}

-- COLUMN c, and the shape that is left at it.
abbrev one : List Column → (c : ℕ) → Column
one plan c = get_or plan c (record { room = 0; used = 0 })

abbrev left_at : (top : ℕ) (plan : List Column) (c : ℕ) → Shape
left_at top plan c = columns top (drop c plan)

module _ (top : ℕ) (plan : List Column) (c : ℕ) where
  left_next : c < length plan → left_at top plan c ≡ beside (column top (one plan c).room (one plan c).used) (λ _. left_at top plan (c + 1)) (total (drop (c + 1) plan))
  unfolding columns
  left_next h =
      let d : drop c plan ≡ one plan c ∷ drop (c + 1) plan = rw add-one (drop-cons plan c (record { room = 0; used = 0 }) h) in
      rw d

  left_none : length plan ≤ c → left_at top plan c ≡ numbers 0 0
  unfolding columns
  left_none h = rw (drop_of_length-le plan h)

-- ONE COLUMN READ. A count above its room; the numbers in a list that is zero from there on.
pub column_over : (top room used : ℕ) (bytes : List ℕ) (at : ℕ) → room < used → (column top room used).read bytes at ≡ bad
unfolding column when◌then◌else◌
column_over top room used bytes at h = rw (lt-ltb room used h)

module _ (top room used : ℕ) (bytes : List ℕ) (at : ℕ) (low : used ≤ room) where
  same_place : (r : Read (List ℕ)) → place_of r ≡ place_of (onward r (λ ns p. got (padded room 0 ns) p))
  unfolding place_of onward
  same_place bad = refl
  same_place (got ns p) = refl

  pub column_place : {z : Option ℕ} → z ≡ place_of (numbers_at top used bytes at) → z ≡ place_of ((column top room used).read bytes at)
  column_place e = e ∙ same_place (numbers_at top used bytes at) ∙ ap place_of (sym (column_read top room used bytes at low))

  -- what the numbers are where the column was read
  record FilledUp (ns : List ℕ) (p : ℕ) : Type 0 where
    xs : List ℕ
    is : numbers_at top used bytes at ≡ got xs p
    full : padded room 0 xs ≡ ns
    long : length xs ≡ used

  by_numbers : (ns : List ℕ) (p : ℕ) (r : Read (List ℕ)) → numbers_at top used bytes at ≡ r → onward r (λ xs q. got (padded room 0 xs) q) ≡ got ns p → FilledUp ns p
  unfolding onward
  by_numbers ns p bad f e = not_bad e
  by_numbers ns p (got xs q) f e =
      let x : padded room 0 xs ≡ ns = cc in
      let y : q ≡ p = cc in
      record { xs = xs; is = f ∙ ap (got xs) y; full = x; long = numbers_long top bytes used at xs q f }

  filled_up : (ns : List ℕ) (p : ℕ) → (column top room used).read bytes at ≡ got ns p → FilledUp ns p
  filled_up ns p e = by_numbers ns p (numbers_at top used bytes at) refl (sym (column_read top room used bytes at low) ∙ e)

  pub column_long : (ns : List ℕ) (p : ℕ) → (column top room used).read bytes at ≡ got ns p → length ns ≡ room
  column_long ns p e =
      let f = filled_up ns p e in
      let n = f.long in
      rw (← f.full) (padded_long room f.xs (omega arith))

  pub column_stored : {l : List ℕ} {i : ℕ} {after : List ℕ} → i + room ≤ length l → ZeroFrom i l → Stored (numbers_at top used bytes at) l i after → Stored ((column top room used).read bytes at) l i after
  column_stored {l} {i} {after} h z s =
      record {
        is = λ ns p e.
            let f = filled_up ns p e in
            let n = f.long in
            rw (← f.full) (s.is f.xs p f.is ∙ sym (splice_padded l i z room f.xs (omega arith) h));
        long = s.long;
      }

-- ONE COLUMN IN A LIST. Its numbers that are used.
module _ (top room used : ℕ) (xs : List ℕ) (i : ℕ) where
  pub used_part : used ≤ room → (column top room used).fields (part xs i (i + room)) ≡ part xs i (i + used)
  unfolding column
  used_part low =
      let e : used + (room - used) ≡ room = omega arith in
      rw e at (part_front xs i used (room - used))

  pub column_neat : used ≤ room → i + room ≤ length xs → ((n : ℕ) → get_or xs n 0 < top) → (column top room used).tidy (part xs i (i + room)) ≡ all_zero (part xs (i + used) (i + room))
  unfolding column ◌and◌
  column_neat low h small =
      let n = part_long xs i room h in
      let e : used + (room - used) ≡ room = omega arith in
      let g : i + used + (room - used) ≡ i + room = omega arith in
      let b : drop used (part xs i (i + room)) ≡ part xs (i + used) (i + room) = rw (e, g) at (part_back xs i used (room - used)) in
      let s = every_take (λ m. ltb m top) used (part xs i (i + room)) (part_below top xs i (i + room) small) in
      rw (eq-eqb (length (part xs i (i + room))) room n, le-leb used room low, s, b)

  pub column_crowded : room < used → i + room ≤ length xs → (column top room used).tidy (part xs i (i + room)) ≡ false
  unfolding column ◌and◌
  column_crowded over h = rw (eq-eqb (length (part xs i (i + room))) room (part_long xs i room h), lt-leb used room over)

-- THE LOOP THAT READS, at column c.
pub record ReadingColumns (top : ℕ) (plan : List Column) (bytes : List ℕ) (whole : Read (List ℕ)) (before : List ℕ) (first at i c : ℕ) (list : List ℕ) : Type 0 where
  pub reading : ReadingShapes bytes whole before first (left_at top plan c) at i list

pub read_start : (top : ℕ) (plan : List Column) (bytes list : List ℕ) (first at : ℕ) → first + total plan ≤ length list → ZeroFrom first list → ReadingColumns top plan bytes ((columns top plan).read bytes at) list first at first 0 list
read_start top plan bytes list first at h z = record { reading = reading_start bytes list first (columns top plan) at (rw (columns_width top plan) h) z }

module _ {top : ℕ} {plan : List Column} {bytes : List ℕ} {whole : Read (List ℕ)} {before : List ℕ} {first at i c : ℕ} {list : List ℕ} (inv : ReadingColumns top plan bytes whole before first at i c list) where
  pub read_long : length list ≡ length before
  read_long = reading_long inv.reading

  module _ (h : c < length plan) where
    pub read_room : i + (one plan c).room ≤ length list
    unfolding column
    read_room = reading_room inv.reading _ _ _ (left_next top plan c h)

    pub read_over : (one plan c).room < (one plan c).used → whole ≡ bad
    read_over over = reading_bad inv.reading _ _ _ (left_next top plan c h) (column_over top (one plan c).room (one plan c).used bytes at over)

    -- the answer z of a read into the column's numbers, and what that leaves of them
    module _ {z : Option ℕ} (low : (one plan c).used ≤ (one plan c).room) (answer : z ≡ place_of (numbers_at top (length (part list i (i + (one plan c).used))) bytes at)) where
      used_long : length (part list i (i + (one plan c).used)) ≡ (one plan c).used
      used_long = let r = read_room in part_long list i (one plan c).used (omega arith)

      answered : z ≡ place_of ((column top (one plan c).room (one plan c).used).read bytes at)
      answered = column_place top (one plan c).room (one plan c).used bytes at low (rw used_long at answer)

      pub read_bad : z ≡ None → whole ≡ bad
      read_bad b = reading_bad inv.reading _ _ _ (left_next top plan c h) (at_bad answered b)

      pub read_more : {p : ℕ} {after : List ℕ} → z ≡ Some p → Stored (numbers_at top (length (part list i (i + (one plan c).used))) bytes at) (part list i (i + (one plan c).used)) 0 after → ReadingColumns top plan bytes whole before first p (i + (one plan c).room) (c + 1) (put_part list i (i + (one plan c).used) after)
      unfolding column
      read_more {p} {after} g s =
          let k = (one plan c).used in
          let r = at_got answered g in
          let room = read_room in
          let s' : Stored (numbers_at top k bytes at) list i (put_part list i (i + k) after) =
          part_stored list i (i + k) (omega arith) (omega arith) (λ ns q e. let n = numbers_long top bytes k at ns q e in omega arith) (rw used_long at s) in
          record {
            reading = reading_more inv.reading _ _ _ (left_next top plan c h) r.value p (put_part list i (i + k) after) r.is
                (column_long top (one plan c).room k bytes at low r.value p r.is)
                (columns_width top (drop (c + 1) plan))
                (column_stored top (one plan c).room k bytes at low room inv.reading.blank s');
          }

  module _ (h : length plan ≤ c) where
    pub read_place : Some at ≡ place_of whole
    read_place = reading_place inv.reading (left_none top plan c h)

    pub read_stored : Stored whole before first list
    read_stored = reading_stored inv.reading (left_none top plan c h)

-- THE LOOP THAT TESTS: what is left decides.
pub record TestingColumns (top : ℕ) (plan : List Column) (xs : List ℕ) (whole : Bool) (i c : ℕ) : Type 0 where
  pub left : neat xs (left_at top plan c) i ≡ whole
  pub room : i + (left_at top plan c).width ≤ length xs
  pub small : (n : ℕ) → get_or xs n 0 < top

pub test_start : (top : ℕ) (plan : List Column) (xs : List ℕ) (i : ℕ) → i + total plan ≤ length xs → ((n : ℕ) → get_or xs n 0 < top) → TestingColumns top plan xs ((columns top plan).tidy (part xs i (i + total plan))) i 0
test_start top plan xs i h small = record { left = rw (columns_width top plan); room = rw (columns_width top plan) h; small = small }

module _ {top : ℕ} {plan : List Column} {xs : List ℕ} {whole : Bool} {i c : ℕ} (inv : TestingColumns top plan xs whole i c) where
  module _ (h : c < length plan) where
    pub test_room : i + (one plan c).room ≤ length xs
    unfolding beside column
    test_room = let r = rw (left_next top plan c h) at inv.room in omega arith

    parted : ((column top (one plan c).room (one plan c).used).tidy (part xs i (i + (one plan c).room)) and neat xs (left_at top plan (c + 1)) (i + (one plan c).room)) ≡ whole
    unfolding column
    parted = sym (neat_next xs i _ _ _ _ (left_next top plan c h) (columns_width top (drop (c + 1) plan))) ∙ inv.left

    pub test_over : (one plan c).room < (one plan c).used → false ≡ whole
    unfolding ◌and◌
    test_over over = rw (column_crowded top (one plan c).room (one plan c).used xs i over test_room) at parted

    module _ {z : Bool} (low : (one plan c).used ≤ (one plan c).room) (answer : z ≡ all_zero (part xs (i + (one plan c).used) (i + (one plan c).room))) where
      blank_left : (z and neat xs (left_at top plan (c + 1)) (i + (one plan c).room)) ≡ whole
      blank_left = rw answer (rw (column_neat top (one plan c).room (one plan c).used xs i low test_room inv.small) at parted)

      pub test_dirty : not z ≡ true → false ≡ whole
      unfolding ◌and◌
      test_dirty t = rw (not-true z t) at blank_left

      pub test_more : not z ≡ false → TestingColumns top plan xs whole (i + (one plan c).room) (c + 1)
      unfolding ◌and◌ beside column
      test_more t =
          let w = columns_width top (drop (c + 1) plan) in
          let r = rw (left_next top plan c h) at inv.room in
          record { left = rw (not-false z t) at blank_left; room = omega arith; small = inv.small }

  pub test_end : length plan ≤ c → true ≡ whole
  test_end h = sym (neat_none xs i (left_at top plan c) (left_none top plan c h)) ∙ inv.left

-- TIDY COLUMNS from column c on.
pub record TidyColumns (top : ℕ) (plan : List Column) (xs : List ℕ) (i c : ℕ) : Type 0 where
  pub ahead : Ahead xs (left_at top plan c) i

pub tidy_start : (top : ℕ) (plan : List Column) (xs : List ℕ) (i : ℕ) → i + total plan ≤ length xs → (columns top plan).tidy (part xs i (i + total plan)) ≡ true → TidyColumns top plan xs i 0
tidy_start top plan xs i h t = record { ahead = record { room = rw (columns_width top plan) h; tidy = rw (columns_width top plan) t } }

module _ {top : ℕ} {plan : List Column} {xs : List ℕ} {i c : ℕ} (inv : TidyColumns top plan xs i c) (h : c < length plan) where
  next : Step xs (column top (one plan c).room (one plan c).used) (left_at top plan (c + 1)) i
  next = step inv.ahead _ _ _ (left_next top plan c h) (columns_width top (drop (c + 1) plan))

  pub tidy_room : i + (one plan c).room ≤ length xs
  unfolding column
  tidy_room = next.room

  pub tidy_low : (one plan c).used ≤ (one plan c).room
  unfolding column
  tidy_low = (tidy_column top (one plan c).room (one plan c).used (part xs i (i + (one plan c).room)) next.tidy).low

  tidy_more : TidyColumns top plan xs (i + (one plan c).room) (c + 1)
  unfolding column
  tidy_more = record { ahead = next.ahead }

  -- the column's bytes
  tidy_bytes : written xs (column top (one plan c).room (one plan c).used) i ≡ bytes_of (part xs i (i + (one plan c).used))
  unfolding column
  tidy_bytes = ap bytes_of (used_part top (one plan c).room (one plan c).used xs i tidy_low)

-- THE LOOP THAT COUNTS.
pub record CountingColumns (top : ℕ) (plan : List Column) (xs whole : List ℕ) (i c size : ℕ) : Type 0 where
  pub tidy : TidyColumns top plan xs i c
  pub counting : CountingShapes whole xs (left_at top plan c) i size

pub count_start : {top : ℕ} {plan : List Column} {xs : List ℕ} {i : ℕ} → TidyColumns top plan xs i 0 → CountingColumns top plan xs (bytes_of ((columns top plan).fields (part xs i (i + total plan)))) i 0 0
count_start {top} {plan} {xs} {i} t = record { tidy = t; counting = record { left = rw (columns_width top plan) (omega arith); few = omega arith } }

module _ {top : ℕ} {plan : List Column} {xs whole : List ℕ} {i c size : ℕ} (inv : CountingColumns top plan xs whole i c size) where
  module _ (h : c < length plan) where
    pub count_few : size + length (bytes_of (part xs i (i + (one plan c).used))) ≤ 10 * (i + (one plan c).room)
    count_few =
        let l = tidy_low inv.tidy h in
        let r = tidy_room inv.tidy h in
        let f = part_few xs i (one plan c).used in
        let g = inv.counting.few in
        omega arith

    pub count_more : {s : ℕ} → s ≡ length (bytes_of (part xs i (i + (one plan c).used))) → CountingColumns top plan xs whole (i + (one plan c).room) (c + 1) (size + s)
    unfolding column
    count_more {s} e =
        let l = tidy_low inv.tidy h in
        let r = tidy_room inv.tidy h in
        let f = part_few xs i (one plan c).used in
        record {
          tidy = tidy_more inv.tidy h;
          counting = counting_more inv.counting _ _ _ (left_next top plan c h) (columns_width top (drop (c + 1) plan)) (rw (tidy_bytes inv.tidy h) e) (omega arith);
        }

  pub count_end : length plan ≤ c → size ≡ length whole
  count_end h = counting_end inv.counting (left_none top plan c h)

-- THE LOOP THAT WRITES.
pub record WritingColumns (top : ℕ) (plan : List Column) (xs whole before : List ℕ) (at i c place : ℕ) (list : List ℕ) : Type 0 where
  pub tidy : TidyColumns top plan xs i c
  pub writing : WritingShapes whole before at xs (left_at top plan c) i place list

pub write_start : {top : ℕ} {plan : List Column} {xs : List ℕ} {i : ℕ} (list : List ℕ) (at : ℕ) → TidyColumns top plan xs i 0 → at + length (bytes_of ((columns top plan).fields (part xs i (i + total plan)))) ≤ length list → WritingColumns top plan xs (bytes_of ((columns top plan).fields (part xs i (i + total plan)))) list at i 0 at list
write_start {top} {plan} {xs} {i} list at t h = record { tidy = t; writing = rw (← columns_width top plan) (writing_start list at xs (columns top plan) i (rw (columns_width top plan) h)) }

module _ {top : ℕ} {plan : List Column} {xs whole before : List ℕ} {at i c place : ℕ} {list : List ℕ} (inv : WritingColumns top plan xs whole before at i c place list) where
  pub write_long : length list ≡ length before
  write_long = writing_long inv.writing

  module _ (h : c < length plan) where
    pub write_room : place + length (bytes_of (part xs i (i + (one plan c).used))) ≤ length list
    write_room = rw (tidy_bytes inv.tidy h) at (writing_room inv.writing _ _ _ (left_next top plan c h) (columns_width top (drop (c + 1) plan)))

    pub write_more : {p : ℕ} {after : List ℕ} → p ≡ place + length (bytes_of (part xs i (i + (one plan c).used))) → after ≡ splice list place (bytes_of (part xs i (i + (one plan c).used))) → WritingColumns top plan xs whole before at (i + (one plan c).room) (c + 1) p after
    unfolding column
    write_more {p} {after} e f =
        record {
          tidy = tidy_more inv.tidy h;
          writing = writing_more inv.writing _ _ _ (left_next top plan c h) (columns_width top (drop (c + 1) plan)) (rw (tidy_bytes inv.tidy h) e) (rw (tidy_bytes inv.tidy h) f);
        }

  module _ (h : length plan ≤ c) where
    pub write_place : place ≡ at + length whole
    write_place = writing_place inv.writing (left_none top plan c h)

    pub write_end : list ≡ splice before at whole
    write_end = writing_end inv.writing (left_none top plan c h)
