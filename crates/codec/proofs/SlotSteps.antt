-- One slot: read, tested, counted, written.
use Rattle.std.specs.Prelude.{◌≡◌, refl, true, eqb, length, get_or, take, drop, replicate, set}
use Rattle.std.proofs.Common.{sym, ap, ◌∙◌, arith, length-set, length-append, length-drop, take_all}
use mathlib.Core.List.{List, [], ◌∷◌, ◌++◌, flat_map, append_assoc, append-nil}
use Prim.Native.Nat.{ℕ, suc, ◌+◌, ◌*◌, ◌-◌, ◌≤◌, ◌<◌}
use borrow.Author.Tests.{eqb-true, eqb-false, eq-eqb, ne_eqb}
use Rattle.laws.specs.Bool.{when◌then◌else◌, split, ◌and◌}
use Rattle.laws.specs.Listing.{padded}
use Rattle.laws.specs.Splice.{splice, splice_none, splice_one, splice_more, length_splice}
use Rattle.codec.specs.Read.{Read, got, bad, onward}
use Rattle.codec.specs.Leb.{groups, leb128}
use Rattle.codec.specs.Numbers.{bytes_of, number_below, numbers_at}
use Rattle.codec.specs.Stages.{all_zero}
use Rattle.codec.specs.Slots.{slot}
use Rattle.codec.specs.Stored.{place_of, Stored, ZeroFrom}
use Rattle.codec.proofs.ExactLaws.{bytes_append}
use Rattle.codec.proofs.ReadLaws.{both_read}
use Rattle.codec.proofs.NumbersLaws.{numbers_long}
use Rattle.codec.proofs.Zeros.{splice_padded}
use Rattle.codec.proofs.SlotsLaws.{slot_few}
use Rattle.codec.proofs.Parts.{below_each}

-- Zeros that are written where the list is zero change nothing.
zeros_there : (list : List ℕ) (first k : ℕ) → ZeroFrom first list → first + k ≤ length list → list ≡ splice list first (replicate k 0)
unfolding padded
zeros_there list first k z h =
    let e : k - 0 ≡ k = omega arith in
    sym (splice_none list first) ∙ sym (rw e at (splice_padded list first z k [] (omega arith) h))

-- The place doesn't hang on what is made of the numbers.
same_place : (r : Read (List ℕ)) (f : List ℕ → List ℕ) → place_of (onward r (λ ns p. got (f ns) p)) ≡ place_of r
unfolding onward place_of
same_place (got ns p) f = refl
same_place bad f = refl

-- ONE SLOT READ, behind its lead.
module _ (top before after : ℕ) (bytes : List ℕ) (at : ℕ) where
  pub no_lead : number_below top bytes at ≡ bad → (slot top before after).read bytes at ≡ bad
  unfolding slot onward
  no_lead e = rw e

  module _ {lead p : ℕ} (lead_read : number_below top bytes at ≡ got lead p) where
    pub unused_read : lead ≡ 0 → (slot top before after).read bytes at ≡ got (replicate (before + suc after) 0) p
    unfolding slot onward when◌then◌else◌
    unused_read z = rw (lead_read, eq-eqb lead 0 z)

    pub unused_stored : {list : List ℕ} {first : ℕ} → lead ≡ 0 → ZeroFrom first list → first + (before + suc after) ≤ length list → Stored ((slot top before after).read bytes at) list first list
    unused_stored {list} {first} z h room =
        record {
          is = λ ns next e.
              let zs : List ℕ = replicate (before + suc after) 0 in
              let f = sym (unused_read z) ∙ e in
              let x : zs ≡ ns = cc in
              rw (← x) (zeros_there list first (before + suc after) h room);
          long = refl;
        }

    module _ (used : lead ≡ 0 → ⊥) where
      used_read : (slot top before after).read bytes at ≡ onward (numbers_at top before bytes p) (λ xs q. onward (numbers_at top after bytes q) (λ ys r. got (xs ++ (lead ∷ ys)) r))
      unfolding slot onward when◌then◌else◌
      used_read = rw (lead_read, ne_eqb lead 0 used)

      pub used_bad : numbers_at top before bytes p ≡ bad → (slot top before after).read bytes at ≡ bad
      unfolding onward
      used_bad e = used_read ∙ rw e

      module _ {xs : List ℕ} {q : ℕ} (front : numbers_at top before bytes p ≡ got xs q) where
        used_rest : (slot top before after).read bytes at ≡ onward (numbers_at top after bytes q) (λ ys r. got (xs ++ (lead ∷ ys)) r)
        unfolding onward
        used_rest = used_read ∙ rw front

        pub used_place : place_of (numbers_at top after bytes q) ≡ place_of ((slot top before after).read bytes at)
        used_place = rw used_rest (sym (same_place (numbers_at top after bytes q) (λ ys. xs ++ (lead ∷ ys))))

        -- l₁ is the list with the numbers before the lead
        pub used_stored : {list l₁ list' : List ℕ} → length list ≡ before + suc after → l₁ ≡ splice list 0 xs → Stored (numbers_at top after bytes q) (set l₁ before lead) (before + 1) list' → Stored ((slot top before after).read bytes at) list 0 list'
        used_stored {list} {l₁} {list'} wide first s =
            let n = numbers_long top bytes before p xs q front in
            let m₁ : length l₁ ≡ length list = rw first (length_splice list 0 xs (omega arith)) in
            let l₂ = set l₁ before lead in
            let two : l₂ ≡ splice list 0 (xs ++ (lead ∷ [])) =
            splice_one l₁ before lead (omega arith) ∙ ap (λ (l : List ℕ). splice l before (lead ∷ [])) first ∙ splice_more list 0 xs (lead ∷ []) before (omega arith) (omega arith) in
            record {
              is = λ ns next e.
                  let c = both_read (numbers_at top after bytes q) (λ ys r. got (xs ++ (lead ∷ ys)) r) (sym used_rest ∙ e) in
                  let f = c.two in
                  let x : xs ++ (lead ∷ c.value) ≡ ns = cc in
                  let k = numbers_long top bytes after q c.value c.place c.one in
                  let a = length-append xs (lead ∷ []) in
                  let g = s.is c.value c.place c.one in
                  g ∙ ap (λ (l : List ℕ). splice l (before + 1) c.value) two ∙ splice_more list 0 (xs ++ (lead ∷ [])) c.value (before + 1) (omega arith) (omega arith) ∙ ap (splice list 0) (append_assoc xs (lead ∷ []) c.value ∙ x);
              long = s.long ∙ length-set l₁ before lead ∙ m₁;
            }

-- ONE SLOT.
module _ (top before after : ℕ) (here : List ℕ) (wide : length here ≡ before + suc after) where
  abbrev front : List ℕ
  front = take before here

  -- what a slice from behind the lead on has
  abbrev back : List ℕ
  back = take (length here - (before + 1)) (drop (before + 1) here)

  abbrev lead : ℕ
  lead = get_or here before 0

  back_here : drop (suc before) here ≡ back
  back_here =
      let e : before + 1 ≡ suc before = omega arith in
      let d = length-drop (before + 1) here in
      rw (← e) (sym (take_all (length here - (before + 1)) (drop (before + 1) here) (omega arith)))

  -- Its bytes: those of the lead, and the others.
  abbrev whole : List ℕ
  whole = bytes_of ((slot top before after).fields here)

  unused_bytes : lead ≡ 0 → whole ≡ leb128 lead
  unfolding slot when◌then◌else◌ flat_map
  unused_bytes z = rw (eq-eqb lead 0 z, z) (append-nil (leb128 0))

  used_bytes : (lead ≡ 0 → ⊥) → whole ≡ leb128 lead ++ (bytes_of front ++ bytes_of back)
  unfolding slot when◌then◌else◌ flat_map
  used_bytes u = rw (ne_eqb lead 0 u, back_here, bytes_append front back)

  -- How many they are.
  pub unused_size : lead ≡ 0 → 1 ≡ length whole
  unfolding leb128 groups when◌then◌else◌
  unused_size z = rw (unused_bytes z, z)

  pub used_size : (lead ≡ 0 → ⊥) → length (leb128 lead) + length (bytes_of front) + length (bytes_of back) ≡ length whole
  used_size u = rw (used_bytes u, length-append, length-append) (omega arith)

  pub here_few : length whole ≤ 10 * (before + suc after)
  here_few = slot_few top before after here (omega arith)

  -- Whether it is tidy.
  module _ (each : (i : ℕ) → get_or here i 0 < top) where
    tidy_here : (slot top before after).tidy here ≡ (when eqb lead 0 then all_zero here else true)
    unfolding slot ◌and◌
    tidy_here = rw (eq-eqb _ _ wide, below_each top here each)

    pub unused_tidy : lead ≡ 0 → (slot top before after).tidy here ≡ all_zero here
    unfolding when◌then◌else◌
    unused_tidy z = tidy_here ∙ rw (eq-eqb lead 0 z)

    pub used_tidy : (lead ≡ 0 → ⊥) → (slot top before after).tidy here ≡ true
    unfolding when◌then◌else◌
    used_tidy u = tidy_here ∙ rw (ne_eqb lead 0 u)

  -- Its bytes written: the lead first, and where it is not 0 the numbers before it and those after it.
  module _ (list : List ℕ) (at : ℕ) (fits : at + length whole ≤ length list) where
    pub lead_fits : at + length (leb128 lead) ≤ length list
    lead_fits =
        split (eqb lead 0)
        (λ z. let e = ap length (unused_bytes (eqb-true lead 0 z)) in omega arith)
        (λ z. let s = used_size (eqb-false lead 0 z) in omega arith)

    module _ {p : ℕ} {l : List ℕ} (e : p ≡ at + length (leb128 lead)) (f : l ≡ splice list at (leb128 lead)) where
      pub unused_written : lead ≡ 0 → (p ≡ at + length whole) × (l ≡ splice list at whole)
      unused_written z = (rw (unused_bytes z) e, rw (unused_bytes z) f)

      module _ (u : lead ≡ 0 → ⊥) where
        lead_long : length l ≡ length list
        lead_long = rw f (length_splice list at (leb128 lead) lead_fits)

        pub front_fits : p + length (bytes_of front) ≤ length l
        front_fits =
            let s = used_size u in
            let n = lead_long in
            omega arith

        module _ {q : ℕ} {m : List ℕ} (g : q ≡ p + length (bytes_of front)) (h : m ≡ splice l p (bytes_of front)) where
          pub back_fits : q + length (bytes_of back) ≤ length m
          back_fits =
              let s = used_size u in
              let n = lead_long in
              let k = length_splice l p (bytes_of front) front_fits in
              rw h (omega arith)

          both_written : m ≡ splice list at (leb128 lead ++ bytes_of front)
          both_written =
              let s = used_size u in
              h ∙ ap (λ (x : List ℕ). splice x p (bytes_of front)) f ∙ splice_more list at (leb128 lead) (bytes_of front) p e (omega arith)

          pub used_written : {r : ℕ} {k : List ℕ} → r ≡ q + length (bytes_of back) → k ≡ splice m q (bytes_of back) → (r ≡ at + length whole) × (k ≡ splice list at whole)
          used_written i j =
              let s = used_size u in
              let n = length-append (leb128 lead) (bytes_of front) in (
                omega arith,
                rw (used_bytes u, ← append_assoc)
                    (j ∙ ap (λ (x : List ℕ). splice x q (bytes_of back)) both_written ∙ splice_more list at (leb128 lead ++ bytes_of front) (bytes_of back) q (omega arith) (omega arith)),
              )
