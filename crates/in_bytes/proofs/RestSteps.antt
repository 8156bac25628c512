-- What stands behind the sheet of a call, read step by step: into the call's array, and into the run's.
use Rattle.std.specs.Prelude.{◌≡◌, Option, Some, None, Bool, true, false, eqb, replicate}
use Rattle.std.proofs.Math.Path.{refl, sym, ap}
use Rattle.std.proofs.Common.{◌∙◌}
use mathlib.Core.List.{List, [], ◌∷◌, ◌++◌, append_assoc}
use Prim.Native.Nat.{ℕ, zero, suc, ◌+◌, ◌*◌, ◌-◌, ◌^◌, ◌≤◌, ◌<◌}
use native.Mathlib.Omega.{arith}
use Rattle.std.proofs.Math.ListN.{length, get_or, take, drop, length-append}
use Rattle.std.proofs.lemmas.List.{length-replicate}
use Rattle.std.proofs.Math.Seq.{take_at, drop_at, get_or-append-add}
use Rattle.laws.specs.Bool.{when◌then◌else◌, split}
use Rattle.laws.specs.Splice.{splice, splice_all, splice_more, length_splice}
use Rattle.laws.specs.Listing.{padded}
use Rattle.host.specs.Layout as layout
use Rattle.host.specs.Write.{marked}
use Rattle.codec.specs.Read.{Read, got, bad, onward}
use Rattle.codec.specs.Leb.{number_at}
use Rattle.codec.specs.Numbers.{number_below, numbers_at, part}
use Rattle.codec.specs.Stages.{numbers, column, Stage}
use Rattle.codec.specs.Stored.{place_of, Stored, ZeroFrom}
use Rattle.codec.specs.Exact.{Bytes}
use Rattle.codec.proofs.ExactLaws.{not_bad}
use Rattle.codec.proofs.NumbersLaws.{below_got, below_over, below_bad, below_any, numbers_long}
use Rattle.codec.proofs.StoredLaws.{at_got, at_bad, bad_place, got_place, got_stored}
use Rattle.codec.proofs.ShapesLoops.{nothing_yet, getD_splice, behind}
use Rattle.codec.proofs.ColumnsLaws.{column_read}
use Rattle.codec.proofs.ColumnsLoops.{column_place, column_long, column_stored}
use Rattle.codec.proofs.Zeros.{zero_behind}
use Rattle.codec.proofs.PartLaws.{put_part, part_place, part_read}
use Rattle.in_bytes.specs.Run.{run}
use Rattle.in_bytes.specs.Call.{mark, given_shape, given, event_numbers, answered, answers, rest}
use Rattle.in_bytes.specs.CallStored.{RestStored}
use Rattle.in_bytes.proofs.CallLaws.{given_exact, given_width}
use Rattle.in_bytes.proofs.StagesLeft.{read_long, same_read, Left, left_start, left_bad, left_more, left_end}

-- NUMBERS in two parts.
module _ (top : ℕ) (bytes : List ℕ) where
  one_more : (n k : ℕ) (r : Read (List ℕ)) → onward (onward r (λ xs p. onward (numbers_at top k bytes p) (λ ys q. got (xs ++ ys) q))) (λ ns q. got (n ∷ ns) q) ≡ onward (onward r (λ xs p. got (n ∷ xs) p)) (λ xs p. onward (numbers_at top k bytes p) (λ ys q. got (xs ++ ys) q))
  unfolding onward
  one_more n k bad = refl
  one_more n k (got xs p) = sym (behind (n ∷ []) xs (numbers_at top k bytes p))

  by_first : (j k : ℕ) (r : Read ℕ) → ((p : ℕ) → numbers_at top (j + k) bytes p ≡ onward (numbers_at top j bytes p) (λ xs q. onward (numbers_at top k bytes q) (λ ys t. got (xs ++ ys) t))) → onward r (λ n p. onward (numbers_at top (j + k) bytes p) (λ ns q. got (n ∷ ns) q)) ≡ onward (onward r (λ n p. onward (numbers_at top j bytes p) (λ ns q. got (n ∷ ns) q))) (λ xs p. onward (numbers_at top k bytes p) (λ ys q. got (xs ++ ys) q))
  unfolding onward
  by_first j k bad f = refl
  by_first j k (got n p) f = rw (f p) (one_more n k (numbers_at top j bytes p))

  numbers_two : (j k at : ℕ) → numbers_at top (j + k) bytes at ≡ onward (numbers_at top j bytes at) (λ xs p. onward (numbers_at top k bytes p) (λ ys q. got (xs ++ ys) q))
  unfolding numbers_at onward
  numbers_two zero k at = let e : 0 + k ≡ k = omega arith in rw e (sym (nothing_yet (numbers_at top k bytes at)))
  numbers_two (suc j) k at =
      let e : suc j + k ≡ suc (j + k) = omega arith in
      rw e (by_first j k (number_below top bytes at) (numbers_two j k))

-- ONE NUMBER, tested after it was read.
module _ (bytes : List ℕ) (at : ℕ) where
  abbrev just : Read ℕ → Read (List ℕ)
  just r = onward r (λ n p. onward (got [] p) (λ ns q. got (n ∷ ns) q))

  any_number : numbers_at (2 ^ 64) 1 bytes at ≡ just (number_at bytes at)
  unfolding numbers_at
  any_number = rw (below_any bytes at)

  no_number : (r : Read ℕ) → just r ≡ bad → r ≡ bad
  unfolding onward
  no_number bad e = refl
  no_number (got n p) e = not_bad (sym e)

  the_number : (r : Read ℕ) {ns : List ℕ} {p : ℕ} → just r ≡ got ns p → (r ≡ got (get_or ns 0 0) p) × (ns ≡ get_or ns 0 0 ∷ [])
  unfolding onward
  the_number bad e = not_bad e
  the_number (got n q) {ns} {p} e =
      let x : n ∷ [] ≡ ns = cc in
      let y : q ≡ p = cc in
      rw (← x, ← y) (refl, refl)

  module _ (top : ℕ) where
    one_bad : numbers_at (2 ^ 64) 1 bytes at ≡ bad → numbers_at top 1 bytes at ≡ bad
    unfolding numbers_at onward
    one_bad e = rw (below_bad top (no_number (number_at bytes at) (sym any_number ∙ e)))

    module _ {ns : List ℕ} {p : ℕ} (e : numbers_at (2 ^ 64) 1 bytes at ≡ got ns p) where
      one_over : top ≤ get_or ns 0 0 → numbers_at top 1 bytes at ≡ bad
      unfolding numbers_at onward
      one_over h = rw (below_over top (the_number (number_at bytes at) (sym any_number ∙ e)).0 h)

      one_below : get_or ns 0 0 < top → numbers_at top 1 bytes at ≡ got ns p
      unfolding numbers_at onward
      one_below h =
          let t = the_number (number_at bytes at) (sym any_number ∙ e) in
          rw (below_got top t.0 h, ← t.1)

  single : {ns : List ℕ} {p : ℕ} → numbers_at (2 ^ 64) 1 bytes at ≡ got ns p → ns ≡ get_or ns 0 0 ∷ []
  single e = (the_number (number_at bytes at) (sym any_number ∙ e)).1

-- What was read at a place of a list is the number that stands there.
one_read : (bytes : List ℕ) (at : ℕ) {z : Option ℕ} {before after : List ℕ} {place p : ℕ} → place < length before → z ≡ place_of (numbers_at (2 ^ 64) 1 bytes at) → z ≡ Some p → Stored (numbers_at (2 ^ 64) 1 bytes at) before place after → numbers_at (2 ^ 64) 1 bytes at ≡ got (get_or after place 0 ∷ []) p
one_read bytes at {before = before} {place = place} {p = p} low answer e stored =
    let g = at_got answer e in
    let n = numbers_long (2 ^ 64) bytes 1 at g.value p g.is in
    let i : place + 0 ≡ place = omega arith in
    let m = rw i at (getD_splice before place g.value 0 (omega arith) (omega arith)) in
    rw (stored.is g.value p g.is, m, ← single bytes at g.is) g.is

-- THE MARK.
abbrev count_on : List Stage
count_on = answered ∷ answers ∷ []

abbrev event_on : List Stage
event_on = event_numbers ∷ count_on

abbrev given_on : List Stage
given_on = given ∷ event_on

rest_start : (bytes : List ℕ) (start : ℕ) → Left (mark ∷ given_on) bytes (rest.read bytes start) [] start
unfolding rest
rest_start bytes start = left_start (mark ∷ given_on) bytes start

-- The call's array has it, and was zero from there on.
pub record MarkHeld (before call : List ℕ) : Type 0 where
  pub is : call ≡ splice before layout.call_has_record (get_or call layout.call_has_record 0 ∷ [])
  pub blank : ZeroFrom layout.call_has_record before
  pub long : length before ≡ layout.call_length

pub record Marked (bytes : List ℕ) (whole : Read (List ℕ)) (before : List ℕ) (at : ℕ) (call : List ℕ) : Type 0 where
  pub left : Left given_on bytes whole (get_or call layout.call_has_record 0 ∷ []) at
  pub held : MarkHeld before call

module _ (bytes : List ℕ) (start : ℕ) (before : List ℕ) (long : length before ≡ layout.call_length) {z : Option ℕ} (sliced : z ≡ place_of (numbers_at (2 ^ 64) (length (part before layout.call_has_record layout.call_sequence)) bytes start)) where
  answer : z ≡ place_of (numbers_at (2 ^ 64) 1 bytes start)
  answer = part_place (2 ^ 64) bytes start before layout.call_has_record layout.call_sequence (omega arith) (omega arith) sliced

  pub mark_bad : z ≡ None → rest.read bytes start ≡ bad
  unfolding numbers
  mark_bad b = left_bad (rest_start bytes start) (one_bad bytes start 2 (at_bad answer b))

  module _ {ys : List ℕ} {p : ℕ} (e : z ≡ Some p) (read : Stored (numbers_at (2 ^ 64) (length (part before layout.call_has_record layout.call_sequence)) bytes start) (part before layout.call_has_record layout.call_sequence) 0 ys) where
    abbrev marked_call : List ℕ
    marked_call = put_part before layout.call_has_record layout.call_sequence ys

    abbrev number : ℕ
    number = get_or marked_call layout.call_has_record 0

    stored : Stored (numbers_at (2 ^ 64) 1 bytes start) before layout.call_has_record marked_call
    stored = part_read (2 ^ 64) bytes start before layout.call_has_record layout.call_sequence (omega arith) (omega arith) read

    number_read : numbers_at (2 ^ 64) 1 bytes start ≡ got (number ∷ []) p
    number_read = one_read bytes start (omega arith) answer e stored

    pub mark_over : 1 < number → rest.read bytes start ≡ bad
    unfolding numbers
    mark_over h = left_bad (rest_start bytes start) (one_over bytes start 2 number_read (omega arith))

    pub mark_read : number ≤ 1 → ZeroFrom layout.call_has_record before → Marked bytes (rest.read bytes start) before p marked_call
    unfolding numbers
    mark_read h blank =
        record {
          left = left_more (rest_start bytes start) (one_below bytes start 2 number_read (omega arith));
          held = record { is = stored.is (number ∷ []) p number_read; blank = blank; long = long };
        }

-- THE RUN. Where the mark is 1 there is one.
same_mark : (n : ℕ) → given_shape (marked (eqb n 1)) ≡ given_shape n
unfolding when◌then◌else◌
same_mark n = split (eqb n 1) (λ t. rw t) (λ t. rw t)

pub one_given : (has : Bool) → has ≡ true → given_shape (marked has) ≡ run
unfolding when◌then◌else◌
one_given has e = rw e

no_column : (room : ℕ) (bytes : List ℕ) (at : ℕ) → (column (2 ^ 64) room 0).read bytes at ≡ got (replicate room 0) at
unfolding numbers_at onward padded
no_column room bytes at =
    let e : room - 0 ≡ room = omega arith in
    column_read (2 ^ 64) room 0 bytes at (omega arith) ∙ rw e

module _ (has : Bool) (bytes : List ℕ) (at : ℕ) (none : has ≡ false) where
  none_read : (given_shape (marked has)).read bytes at ≡ got (replicate layout.record_length 0) at
  unfolding when◌then◌else◌
  none_read = rw none (no_column layout.record_length bytes at)

  pub none_place : Some at ≡ place_of ((given_shape (marked has)).read bytes at)
  none_place = got_place none_read

  pub none_stored : {blank : List ℕ} → blank ≡ replicate layout.record_length 0 → Stored ((given_shape (marked has)).read bytes at) blank 0 blank
  none_stored {blank} zeros = got_stored none_read (zeros ∙ sym (splice_all blank (replicate layout.record_length 0) (sym (ap length zeros)))) refl

-- Its array has its numbers.
pub record Given (bytes : List ℕ) (whole : Read (List ℕ)) (before : List ℕ) (at : ℕ) (call run : List ℕ) : Type 0 where
  pub left : Left event_on bytes whole (get_or call layout.call_has_record 0 ∷ run) at
  pub held : MarkHeld before call
  pub run_long : length run ≡ layout.record_length

module _ {bytes : List ℕ} {whole : Read (List ℕ)} {before : List ℕ} {at : ℕ} {call : List ℕ} (inv : Marked bytes whole before at call) {z : Option ℕ} (answer : z ≡ place_of ((given_shape (marked (eqb (get_or call layout.call_has_record 0) 1))).read bytes at)) where
  pub given_bad : z ≡ None → whole ≡ bad
  given_bad b = left_bad inv.left (at_bad (rw same_mark at answer) b)

  pub given_read : {blank run : List ℕ} {p : ℕ} → z ≡ Some p → Bytes bytes → blank ≡ replicate layout.record_length 0 → Stored ((given_shape (marked (eqb (get_or call layout.call_has_record 0) 1))).read bytes at) blank 0 run → Given bytes whole before p call run
  given_read {blank} {run} {p} e good zeros stored =
      let number = get_or call layout.call_has_record 0 in
      let g = at_got (rw same_mark at answer) e in
      let n = read_long (given_exact number) good g.is in
      let w = given_width number in
      let m : length blank ≡ layout.record_length = rw zeros (length-replicate {A = ℕ} layout.record_length 0) in
      let f : run ≡ g.value = (rw same_mark at stored).is g.value p g.is ∙ splice_all blank g.value (omega arith) in
      record { left = rw f (left_more inv.left g.is); held = inv.held; run_long = rw f (omega arith) }

-- THE EVENT.
pub record EventRead (bytes : List ℕ) (whole : Read (List ℕ)) (before : List ℕ) (at : ℕ) (call run : List ℕ) : Type 0 where
  pub mark : ℕ
  pub event : List ℕ
  pub left : Left count_on bytes whole (mark ∷ run ++ event) at
  pub is : call ≡ splice before layout.call_has_record (mark ∷ event)
  pub many : length event ≡ layout.event_length
  pub blank : ZeroFrom layout.call_has_record before
  pub long : length before ≡ layout.call_length
  pub run_long : length run ≡ layout.record_length

module _ {bytes : List ℕ} {whole : Read (List ℕ)} {before : List ℕ} {at : ℕ} {call run : List ℕ} (inv : Given bytes whole before at call run) {z : Option ℕ} (sliced : z ≡ place_of (numbers_at (2 ^ 64) (length (part call layout.call_sequence layout.call_answered)) bytes at)) where
  given_long : length call ≡ layout.call_length
  given_long =
      let h = inv.held in
      let n = h.long in
      rw h.is (length_splice before layout.call_has_record (get_or call layout.call_has_record 0 ∷ []) (omega arith) ∙ n)

  event_told : z ≡ place_of (numbers_at (2 ^ 64) layout.event_length bytes at)
  event_told = let n = given_long in part_place (2 ^ 64) bytes at call layout.call_sequence layout.call_answered (omega arith) (omega arith) sliced

  pub event_bad : z ≡ None → whole ≡ bad
  unfolding numbers
  event_bad b = left_bad inv.left (at_bad event_told b)

  pub event_read : {ys : List ℕ} {p : ℕ} → z ≡ Some p → Stored (numbers_at (2 ^ 64) (length (part call layout.call_sequence layout.call_answered)) bytes at) (part call layout.call_sequence layout.call_answered) 0 ys → EventRead bytes whole before p (put_part call layout.call_sequence layout.call_answered ys) run
  unfolding numbers
  event_read {ys} {p} e read =
      let n = given_long in
      let held = inv.held in
      let l = held.long in
      let g = at_got event_told e in
      let k = numbers_long (2 ^ 64) bytes layout.event_length at g.value p g.is in
      let s = part_read (2 ^ 64) bytes at call layout.call_sequence layout.call_answered (omega arith) (omega arith) read in
      let mark = get_or call layout.call_has_record 0 in
      record {
        mark = mark;
        event = g.value;
        left = left_more inv.left g.is;
        is = s.is g.value p g.is ∙ ap (λ (xs : List ℕ). splice xs layout.call_sequence g.value) held.is ∙ splice_more before layout.call_has_record (mark ∷ []) g.value layout.call_sequence (omega arith) (omega arith);
        many = k;
        blank = held.blank;
        long = l;
        run_long = inv.run_long;
      }

-- THE COUNT OF ANSWERS.
pub record Counted (bytes : List ℕ) (whole : Read (List ℕ)) (before : List ℕ) (at : ℕ) (call run : List ℕ) : Type 0 where
  pub mark : ℕ
  pub event : List ℕ
  pub left : Left (answers ∷ []) bytes whole (mark ∷ run ++ event) at
  pub is : call ≡ splice before layout.call_has_record (mark ∷ event)
  pub many : length event ≡ layout.event_length + 1
  pub count : get_or (mark ∷ run ++ event) (1 + layout.record_length + layout.event_length) 0 ≡ get_or call layout.call_answered 0
  pub few : get_or call layout.call_answered 0 ≤ layout.mappings
  pub blank : ZeroFrom layout.call_has_record before
  pub long : length before ≡ layout.call_length
  pub run_long : length run ≡ layout.record_length

module _ {bytes : List ℕ} {whole : Read (List ℕ)} {before : List ℕ} {at : ℕ} {call run : List ℕ} (inv : EventRead bytes whole before at call run) {z : Option ℕ} (sliced : z ≡ place_of (numbers_at (2 ^ 64) (length (part call layout.call_answered layout.call_mappings)) bytes at)) where
  event_long : length call ≡ layout.call_length
  event_long =
      let l = inv.long in
      let m = inv.many in
      ap length inv.is ∙ length_splice before layout.call_has_record (inv.mark ∷ inv.event) (omega arith) ∙ l

  count_told : z ≡ place_of (numbers_at (2 ^ 64) 1 bytes at)
  count_told = let n = event_long in part_place (2 ^ 64) bytes at call layout.call_answered layout.call_mappings (omega arith) (omega arith) sliced

  pub count_bad : z ≡ None → whole ≡ bad
  unfolding numbers
  count_bad b = left_bad inv.left (one_bad bytes at 3 (at_bad count_told b))

  module _ {ys : List ℕ} {p : ℕ} (e : z ≡ Some p) (read : Stored (numbers_at (2 ^ 64) (length (part call layout.call_answered layout.call_mappings)) bytes at) (part call layout.call_answered layout.call_mappings) 0 ys) where
    abbrev after : List ℕ
    after = put_part call layout.call_answered layout.call_mappings ys

    abbrev count_of : ℕ
    count_of = get_or after layout.call_answered 0

    count_stored : Stored (numbers_at (2 ^ 64) 1 bytes at) call layout.call_answered after
    count_stored = let n = event_long in part_read (2 ^ 64) bytes at call layout.call_answered layout.call_mappings (omega arith) (omega arith) read

    count_got : numbers_at (2 ^ 64) 1 bytes at ≡ got (count_of ∷ []) p
    count_got = let n = event_long in one_read bytes at (omega arith) count_told e count_stored

    pub count_over : layout.mappings < count_of → whole ≡ bad
    unfolding numbers
    count_over h = left_bad inv.left (one_over bytes at 3 count_got (omega arith))

    pub count_read : count_of ≤ layout.mappings → Counted bytes whole before p after run
    unfolding numbers
    count_read h =
        let mark = inv.mark in
        let event = inv.event ++ (count_of ∷ []) in
        let l = inv.long in
        let n = inv.many in
        let o = inv.run_long in
        let i : 1 + layout.record_length + layout.event_length ≡ length (mark ∷ run) + (length inv.event + 0) = omega arith in
        record {
          mark = mark;
          event = event;
          left = rw append_assoc at (left_more inv.left (one_below bytes at 3 count_got (omega arith)));
          is = count_stored.is (count_of ∷ []) p count_got ∙ ap (λ (xs : List ℕ). splice xs layout.call_answered (count_of ∷ [])) inv.is ∙ splice_more before layout.call_has_record (mark ∷ inv.event) (count_of ∷ []) layout.call_answered (omega arith) (omega arith);
          many = length-append inv.event (count_of ∷ []) ∙ omega arith;
          count = ap (λ j. get_or (mark ∷ run ++ event) j 0) i ∙ get_or-append-add (mark ∷ run) event (length inv.event + 0) 0 ∙ get_or-append-add inv.event (count_of ∷ []) 0 0;
          few = h;
          blank = inv.blank;
          long = l;
          run_long = o;
        }

-- THE ANSWERS, and so all of it.
pub bad_rest : {r : Read (List ℕ)} {before after given : List ℕ} → r ≡ bad → RestStored r before after given
bad_rest e = record { call = λ ns next f. not_bad (sym e ∙ f); run = λ ns next f. not_bad (sym e ∙ f) }

got_rest : {r : Read (List ℕ)} {before after given ns : List ℕ} {next : ℕ} → r ≡ got ns next → after ≡ splice before layout.call_has_record (take 1 ns ++ drop (1 + layout.record_length) ns) → given ≡ take layout.record_length (drop 1 ns) → RestStored r before after given
got_rest {r} {before} e f g =
    record {
      call = λ ms q h. f ∙ ap (λ (xs : List ℕ). splice before layout.call_has_record (take 1 xs ++ drop (1 + layout.record_length) xs)) (same_read e h);
      run = λ ms q h. g ∙ ap (λ (xs : List ℕ). take layout.record_length (drop 1 xs)) (same_read e h);
    }

module _ {bytes : List ℕ} {whole : Read (List ℕ)} {before : List ℕ} {at : ℕ} {call run : List ℕ} (inv : Counted bytes whole before at call run) where
  abbrev room : ℕ
  room = layout.mapping_width * layout.mappings

  abbrev seen : List ℕ
  seen = inv.mark ∷ run ++ inv.event

  abbrev used : ℕ
  used = layout.mapping_width * get_or seen (1 + layout.record_length + layout.event_length) 0

  used_few : used ≤ room
  used_few = let c = inv.count in let f = inv.few in omega arith

  pub counted_long : length call ≡ layout.call_length
  counted_long =
      let l = inv.long in
      let m = inv.many in
      ap length inv.is ∙ length_splice before layout.call_has_record (inv.mark ∷ inv.event) (omega arith) ∙ l

  -- up to the answers the array is written
  ends_there : layout.call_has_record + length (inv.mark ∷ inv.event) ≡ layout.call_mappings
  ends_there = let m = inv.many in omega arith

  none_yet : ZeroFrom layout.call_mappings call
  none_yet =
      let l = inv.long in
      let i = ends_there in
      rw (← inv.is, i) at (zero_behind before layout.call_has_record inv.blank (inv.mark ∷ inv.event) (omega arith))

  module _ {z : Option ℕ} {after : List ℕ} (stored : Stored ((column (2 ^ 64) room used).read bytes at) call layout.call_mappings after) where
    by_answers : (r : Read (List ℕ)) → (column (2 ^ 64) room used).read bytes at ≡ r → z ≡ place_of r → (z ≡ place_of whole) × RestStored whole before after run
    unfolding place_of
    by_answers bad e a = let b = left_bad inv.left e in (a ∙ bad_place b, bad_rest b)
    by_answers (got ns p) e a =
        let more = inv.event ++ ns in
        let all : whole ≡ got (inv.mark ∷ run ++ more) p = rw append_assoc at (left_end (left_more inv.left e)) in
        let l = inv.long in
        let i = ends_there in
        let k = column_long (2 ^ 64) room used bytes at used_few ns p e in
        let r = inv.run_long in
        let d : drop (1 + layout.record_length) (inv.mark ∷ run ++ more) ≡ more = drop_at (inv.mark ∷ run) more (1 + layout.record_length) (omega arith) in
        let t : take layout.record_length (run ++ more) ≡ run = take_at run more layout.record_length r in
        let c : after ≡ splice before layout.call_has_record (inv.mark ∷ more) =
        stored.is ns p e ∙ ap (λ (xs : List ℕ). splice xs layout.call_mappings ns) inv.is ∙ splice_more before layout.call_has_record (inv.mark ∷ inv.event) ns layout.call_mappings (sym i) (omega arith) in
        (a ∙ got_place all, got_rest all (c ∙ ap (λ (xs : List ℕ). splice before layout.call_has_record (inv.mark ∷ xs)) (sym d)) (sym t))

  answers_by : {z : Option ℕ} {after : List ℕ} {n : ℕ} → n ≡ used → z ≡ place_of (numbers_at (2 ^ 64) n bytes at) → Stored (numbers_at (2 ^ 64) n bytes at) call layout.call_mappings after → (z ≡ place_of whole) × RestStored whole before after run
  answers_by many answer stored =
      let n = counted_long in
      by_answers (column_stored (2 ^ 64) room used bytes at used_few (omega arith) none_yet (rw many at stored)) ((column (2 ^ 64) room used).read bytes at) refl (column_place (2 ^ 64) room used bytes at used_few (rw many at answer))

  pub answers_read : {z : Option ℕ} {ys : List ℕ} {end : ℕ} → end ≡ layout.call_mappings + layout.mapping_width * get_or call layout.call_answered 0 → z ≡ place_of (numbers_at (2 ^ 64) (length (part call layout.call_mappings end)) bytes at) → Stored (numbers_at (2 ^ 64) (length (part call layout.call_mappings end)) bytes at) (part call layout.call_mappings end) 0 ys → (z ≡ place_of whole) × RestStored whole before (put_part call layout.call_mappings end ys) run
  answers_read {end = end} ends sliced read =
      let c = inv.count in
      let f = inv.few in
      let n = counted_long in
      answers_by (omega arith) (part_place (2 ^ 64) bytes at call layout.call_mappings end (omega arith) (omega arith) sliced) (part_read (2 ^ 64) bytes at call layout.call_mappings end (omega arith) (omega arith) read)
