-- Loops over slots.
use Rattle.std.specs.Prelude.{◌≡◌, refl, Some, Bool, true, false, not, length, take, drop}
use mathlib.Core.List.{List, [], ◌∷◌, ◌++◌, flat_map}
use Rattle.std.proofs.Math.Path.{sym, ap}
use Rattle.std.proofs.Common.{◌∙◌, mul-suc}
use Rattle.std.proofs.Math.ListN.{length-append}
use lib.Seq.{take-append_seam, drop-append_seam}
use Prim.Native.Nat.{ℕ, zero, suc, ◌+◌, ◌*◌, ◌-◌, ◌^◌, ◌≤◌, ◌<◌, min}
use native.Mathlib.Omega.{arith}
use Rattle.laws.specs.Bool.{◌and◌, passed, stopped}
use Rattle.laws.specs.Every.{every}
use Rattle.laws.specs.Splice.{splice}
use Rattle.codec.specs.Read.{Read, bad}
use Rattle.codec.specs.Numbers.{bytes_of, part}
use Rattle.codec.specs.Stages.{Shape, numbers, beside}
use Rattle.codec.specs.Slots.{slot, slots}
use Rattle.codec.specs.Stored.{place_of, Stored, ZeroFrom}
use Rattle.codec.proofs.StoredLaws.{Got}
use Rattle.codec.proofs.SlotsLaws.{slot_long, slots_width}
use Rattle.codec.proofs.SlotSteps.{here_few}
use Rattle.codec.proofs.ExactLaws.{bytes_append}
use Rattle.codec.proofs.Parts.{part_long}
use Rattle.codec.proofs.PartLaws.{put_part, part_stored}
use Rattle.codec.proofs.ShapesLoops.{ReadingShapes, reading_start, reading_long, reading_room, reading_bad, reading_more, reading_place, reading_stored, Writing, all_left, long_still, new_fits, one_more, last_place, last_list}

-- THE SLOTS FROM THE NTH ON: the nth, and those behind it; or none.
abbrev left : (top before after k n : ℕ) → Shape
left top before after k n = slots top before after (k - n)

module _ (top before after : ℕ) {k n : ℕ} where
  left_next : n < k → left top before after k n ≡ beside (slot top before after) (λ _. left top before after k (n + 1)) ((before + suc after) * (k - (n + 1)))
  unfolding slots
  left_next h =
      let e : k - n ≡ suc (k - (n + 1)) = omega arith in
      rw e

  left_none : k ≤ n → left top before after k n ≡ numbers 0 0
  unfolding slots
  left_none h =
      let e : k - n ≡ 0 = omega arith in
      rw e

-- THE LOOP THAT READS.
pub record ReadingSlots (top before after k : ℕ) (bytes : List ℕ) (whole : Read (List ℕ)) (list₀ : List ℕ) (first at i n : ℕ) (list : List ℕ) : Type 0 where
  pub reading : ReadingShapes bytes whole list₀ first (left top before after k n) at i list

pub read_start : (top before after k : ℕ) (bytes list : List ℕ) (first at : ℕ) → first + (before + suc after) * k ≤ length list → ZeroFrom first list → ReadingSlots top before after k bytes ((slots top before after k).read bytes at) list first at first 0 list
read_start top before after k bytes list first at room z =
    let e : k - 0 ≡ k = omega arith in
    record { reading = rw e (reading_start bytes list first (slots top before after k) at (rw (slots_width top before after k) room) z) }

module _ {top before after k : ℕ} {bytes : List ℕ} {whole : Read (List ℕ)} {list₀ : List ℕ} {first at i n : ℕ} {list : List ℕ} (inv : ReadingSlots top before after k bytes whole list₀ first at i n list) where
  pub read_long : length list ≡ length list₀
  read_long = reading_long inv.reading

  pub read_zero : ZeroFrom i list
  read_zero = inv.reading.blank

  module _ (h : n < k) where
    pub read_room : i + (before + suc after) ≤ length list
    unfolding slot
    read_room = reading_room inv.reading (slot top before after) _ _ (left_next top before after h)

    pub read_bad : (slot top before after).read bytes at ≡ bad → whole ≡ bad
    read_bad e = reading_bad inv.reading (slot top before after) _ _ (left_next top before after h) e

    -- what a read into the slot's numbers leaves of them
    pub read_more : {next : ℕ} {after' : List ℕ} → Got ((slot top before after).read bytes at) next → Stored ((slot top before after).read bytes at) (part list i (i + (before + suc after))) 0 after' → ReadingSlots top before after k bytes whole list₀ first next (i + (before + suc after)) (n + 1) (put_part list i (i + (before + suc after)) after')
    unfolding slot
    read_more {next} {after'} g s =
        let w = before + suc after in
        let n₁ = slot_long top before after bytes g.value at next g.is in
        let s' = part_stored list i (i + w) (omega arith) read_room (λ ns p e. let m = slot_long top before after bytes ns at p e in omega arith) s in
        record { reading = reading_more inv.reading (slot top before after) _ _ (left_next top before after h) g.value next (put_part list i (i + w) after') g.is n₁ (slots_width top before after (k - (n + 1))) s' }

  module _ (h : k ≤ n) where
    pub read_place : Some at ≡ place_of whole
    read_place = reading_place inv.reading (left_none top before after h)

    pub read_stored : Stored whole list₀ first list
    read_stored = reading_stored inv.reading (left_none top before after h)

-- THE SLOTS THAT AN ITERATOR HAS LEFT, in pieces of a size.
pub record Left (before after many : ℕ) (rest : List ℕ) (size : ℕ) : Type 0 where
  pub long : length rest ≡ (before + suc after) * many
  pub wide : 0 < many → size ≡ before + suc after
  pub some : 0 < size

-- the end of k slots, by a width that is held to the largest number
pub same_end : (before after k : ℕ) {a b : ℕ} → a ≡ min (before + after) 18446744073709551615 → b ≡ min (a + 1) 18446744073709551615 → (before + suc after) * k < 2 ^ 64 → b * k ≡ (before + suc after) * k
same_end before after zero e f h = omega arith
same_end before after (suc k) {a} {b} e f h =
    let l = rw mul-suc at h in
    let w : b ≡ before + suc after = omega arith in
    rw w

pub all_of : (before after k : ℕ) (xs : List ℕ) {rest : List ℕ} {size : ℕ} → (before + suc after) * k ≤ length xs → rest ≡ part xs 0 ((before + suc after) * k) → (0 < k → size ≡ before + suc after) → 0 < size → Left before after k rest size
all_of before after k xs h e w s =
    let n = (before + suc after) * k in
    let z : 0 + n ≡ n = omega arith in
    record { long = rw e (rw z at (part_long xs 0 n (omega arith))); wide = w; some = s }

-- A piece of them, which is a slot, and what is left behind it.
record Next (before after many : ℕ) (here more : List ℕ) (size : ℕ) : Type 0 where
  fewer : ℕ
  is : many ≡ suc fewer
  wide : length here ≡ before + suc after
  left : Left before after fewer more size

next : {before after : ℕ} (many : ℕ) {rest : List ℕ} {size size' : ℕ} (here more : List ℕ) → Left before after many rest size → size' ≡ size → rest ≡ here ++ more → length here ≡ size → Next before after many here more size'
next zero here more x s e n =
    let l = x.long in
    let p = x.some in
    let a = ap length e ∙ length-append here more in
    absurd (omega arith)
next (suc fewer) here more x s e n =
    let l = rw mul-suc at x.long in
    let w = x.wide (omega arith) in
    let p = x.some in
    let a = ap length e ∙ length-append here more in
    record { fewer = fewer; is = refl; wide = n ∙ w; left = record { long = omega arith; wide = λ _. s ∙ w; some = omega arith } }

none_left : {before after : ℕ} (many : ℕ) {rest : List ℕ} {size : ℕ} → Left before after many rest size → length rest < size → (many ≡ 0) × (rest ≡ [])
none_left zero {rest} x h = (refl, nothing rest (let l = x.long in omega arith))
  where
    nothing : (l : List ℕ) → length l ≡ 0 → l ≡ []
    nothing [] e = refl
    nothing (y ∷ l) e = absurd (omega arith)
none_left (suc fewer) x h =
    let l = rw mul-suc at x.long in
    let w = x.wide (omega arith) in
    absurd (omega arith)

-- A slot at the front of a list, and those behind it.
module _ (top before after : ℕ) {many fewer : ℕ} {rest : List ℕ} (here more : List ℕ) (is : many ≡ suc fewer) (e : rest ≡ here ++ more) (wide : length here ≡ before + suc after) where
  front : take (before + suc after) (here ++ more) ≡ here
  front = rw wide at (take-append_seam here more)

  behind : drop (before + suc after) (here ++ more) ≡ more
  behind = rw wide at (drop-append_seam here more)

  tidy_next : (slots top before after many).tidy rest ≡ ((slot top before after).tidy here and (slots top before after fewer).tidy more)
  unfolding slots beside slot
  tidy_next = rw (is, e, front, behind)

  bytes_next : bytes_of ((slots top before after many).fields rest) ≡ bytes_of ((slot top before after).fields here) ++ bytes_of ((slots top before after fewer).fields more)
  unfolding slots beside slot
  bytes_next = rw (is, e, front, behind) (bytes_append _ _)

-- None are left.
module _ (top before after : ℕ) {many : ℕ} {rest : List ℕ} (none : (many ≡ 0) × (rest ≡ [])) where
  tidy_none : (slots top before after many).tidy rest ≡ true
  unfolding slots numbers every ◌and◌
  tidy_none = rw (none.0, none.1)

  bytes_none : bytes_of ((slots top before after many).fields rest) ≡ []
  unfolding slots numbers flat_map
  bytes_none = rw (none.0, none.1)

-- THE LOOP THAT TESTS.
pub record TestingSlots (top before after : ℕ) (whole : Bool) (rest : List ℕ) (size : ℕ) : Type 0 where
  pub many : ℕ
  pub left : Left before after many rest size
  pub is : (slots top before after many).tidy rest ≡ whole

module _ {top before after : ℕ} {whole : Bool} {rest : List ℕ} {size : ℕ} (inv : TestingSlots top before after whole rest size) where
  module _ {size' : ℕ} (here more : List ℕ) (s : size' ≡ size) (e : rest ≡ here ++ more) (n : length here ≡ size) where
    tests : Next before after inv.many here more size'
    tests = next inv.many here more inv.left s e n

    pub test_wide : length here ≡ before + suc after
    test_wide = tests.wide

    tested : ((slot top before after).tidy here and (slots top before after tests.fewer).tidy more) ≡ whole
    tested = sym (tidy_next top before after here more tests.is e test_wide) ∙ inv.is

    module _ {b : Bool} (t : b ≡ (slot top before after).tidy here) where
      pub test_stop : not b ≡ true → false ≡ whole
      test_stop f = stopped t f _ ∙ tested

      pub test_more : not b ≡ false → TestingSlots top before after whole more size'
      test_more f = record { many = tests.fewer; left = tests.left; is = sym (passed t f _) ∙ tested }

  pub test_end : length rest < size → true ≡ whole
  test_end h = sym (tidy_none top before after (none_left inv.many inv.left h)) ∙ inv.is

-- THE LOOP THAT COUNTS.
pub record CountingSlots (top before after : ℕ) (whole : List ℕ) (total : ℕ) (rest : List ℕ) (size sum : ℕ) : Type 0 where
  pub many : ℕ
  pub left : Left before after many rest size
  pub is : sum + length (bytes_of ((slots top before after many).fields rest)) ≡ length whole
  pub few : sum + 10 * length rest ≤ 10 * total

pub count_start : (top : ℕ) {before after k : ℕ} (xs : List ℕ) {rest : List ℕ} {size : ℕ} → Left before after k rest size → rest ≡ part xs 0 ((before + suc after) * k) → (before + suc after) * k ≤ length xs → CountingSlots top before after (bytes_of ((slots top before after k).fields (part xs 0 ((before + suc after) * k)))) (length xs) rest size 0
count_start top {k = k} xs x e h =
    let l = x.long in
    record { many = k; left = x; is = rw (← e) (omega arith); few = omega arith }

module _ {top before after : ℕ} {whole : List ℕ} {total : ℕ} {rest : List ℕ} {size sum : ℕ} (inv : CountingSlots top before after whole total rest size sum) where
  module _ {size' : ℕ} (here more : List ℕ) (s : size' ≡ size) (e : rest ≡ here ++ more) (n : length here ≡ size) where
    counts : Next before after inv.many here more size'
    counts = next inv.many here more inv.left s e n

    pub count_wide : length here ≡ before + suc after
    count_wide = counts.wide

    pub count_short : length here ≤ total
    count_short =
        let f = inv.few in
        let a = ap length e ∙ length-append here more in
        omega arith

    pub count_more : {m : ℕ} → m ≡ length (bytes_of ((slot top before after).fields here)) → CountingSlots top before after whole total more size' (sum + m)
    count_more t =
        let x = here_few top before after here count_wide in
        let f = inv.few in
        let a = ap length e ∙ length-append here more in
        let i = rw (bytes_next top before after here more counts.is e count_wide, length-append) at inv.is in
        let w = count_wide in
        record { many = counts.fewer; left = counts.left; is = omega arith; few = omega arith }

  pub count_end : length rest < size → sum ≡ length whole
  count_end h = let i = rw (bytes_none top before after (none_left inv.many inv.left h)) at inv.is in omega arith

-- THE LOOP THAT WRITES.
pub record WritingSlots (top before after : ℕ) (whole list₀ : List ℕ) (at : ℕ) (rest : List ℕ) (size place : ℕ) (list : List ℕ) : Type 0 where
  pub many : ℕ
  pub left : Left before after many rest size
  pub writing : Writing whole list₀ at (bytes_of ((slots top before after many).fields rest)) place list

pub write_start : (top : ℕ) {before after k : ℕ} (xs : List ℕ) {rest : List ℕ} {size : ℕ} {list : List ℕ} {at : ℕ} → Left before after k rest size → rest ≡ part xs 0 ((before + suc after) * k) → at + length (bytes_of ((slots top before after k).fields (part xs 0 ((before + suc after) * k)))) ≤ length list → WritingSlots top before after (bytes_of ((slots top before after k).fields (part xs 0 ((before + suc after) * k)))) list at rest size at list
write_start top {k = k} xs {list = list} {at = at} x e h = record { many = k; left = x; writing = rw (← e) (all_left list at _ (rw (← e) at h)) }

module _ {top before after : ℕ} {whole list₀ : List ℕ} {at : ℕ} {rest : List ℕ} {size place : ℕ} {list : List ℕ} (inv : WritingSlots top before after whole list₀ at rest size place list) where
  pub write_long : length list ≡ length list₀
  write_long = long_still inv.writing

  module _ {size' : ℕ} (here more : List ℕ) (s : size' ≡ size) (e : rest ≡ here ++ more) (n : length here ≡ size) where
    writes : Next before after inv.many here more size'
    writes = next inv.many here more inv.left s e n

    pub write_wide : length here ≡ before + suc after
    write_wide = writes.wide

    new_bytes : bytes_of ((slots top before after inv.many).fields rest) ≡ bytes_of ((slot top before after).fields here) ++ bytes_of ((slots top before after writes.fewer).fields more)
    new_bytes = bytes_next top before after here more writes.is e write_wide

    pub write_room : place + length (bytes_of ((slot top before after).fields here)) ≤ length list
    write_room = new_fits inv.writing _ _ new_bytes

    pub write_more : {p : ℕ} {list' : List ℕ} → p ≡ place + length (bytes_of ((slot top before after).fields here)) → list' ≡ splice list place (bytes_of ((slot top before after).fields here)) → WritingSlots top before after whole list₀ at more size' p list'
    write_more f g = record { many = writes.fewer; left = writes.left; writing = one_more inv.writing _ _ new_bytes f g }

  module _ (h : length rest < size) where
    pub write_place : place ≡ at + length whole
    write_place = last_place inv.writing (bytes_none top before after (none_left inv.many inv.left h))

    pub write_end : list ≡ splice list₀ at whole
    write_end = last_list inv.writing (bytes_none top before after (none_left inv.many inv.left h))
