-- Slots: what is written is read back, and only what is written is read.
use Rattle.std.specs.Prelude.{◌≡◌, Bool, true, false}
use Rattle.std.proofs.Math.Path.{refl, sym}
use Rattle.std.proofs.Common.{◌∙◌, drop_at, drop-drop}
use mathlib.Core.List.{List, [], ◌∷◌, ◌++◌, flat_map, append_assoc, append-nil}
use Prim.Native.Nat.{ℕ, zero, suc, ◌+◌, ◌*◌, ◌^◌, ◌≤◌, ◌<◌}
use Rattle.std.proofs.Math.Nat.{mul-suc}
use native.Mathlib.Omega.{arith}
use Rattle.std.proofs.Math.Dec.{ltb, eqb}
use Rattle.std.proofs.Math.ListN.{length, get_or, take, drop, replicate, length-append, length-take, length-drop, get_or-replicate}
use Rattle.std.proofs.lemmas.List.{length-replicate}
use Rattle.std.proofs.Math.Seq.{length-take-le, take_at, get_or_at, split_at, drop-append-add}
use borrow.Author.Tests.{ltb-true, lt-ltb, eqb-true, eq-eqb}
use Rattle.laws.specs.Bool.{when◌then◌else◌, split, both, join}
use Rattle.laws.specs.Every.{every, every_append}
use Rattle.codec.specs.Read.{Read, got, onward}
use Rattle.codec.specs.Leb.{leb128}
use Rattle.codec.specs.Numbers.{bytes_of, number_below, numbers_at, all_below}
use Rattle.codec.specs.Stages.{numbers, beside, all_zero}
use Rattle.codec.specs.Slots.{slot, slots}
use Rattle.codec.specs.Exact.{Bytes, IsRead, Exact}
use Rattle.codec.proofs.ExactLaws.{bytes_append, beside_exact}
use Rattle.codec.proofs.ReadLaws.{both_read}
use Rattle.codec.proofs.LebLaws.{NumberRead}
use Rattle.codec.proofs.NumbersLaws.{below_back, below_only, numbers_exact, numbers_long}
use Rattle.codec.proofs.ColumnsLaws.{bytes_few}
use Rattle.codec.proofs.Zeros.{zeros}
use Rattle.codec.proofs.Parts.{every_take, every_drop}

-- Zeros pass where 0 does.
every_zero : (p : ℕ → Bool) (k : ℕ) → p 0 ≡ true → every p (replicate k 0) ≡ true
unfolding every
every_zero p zero h = refl
every_zero p (suc k) h = join _ _ h (every_zero p k h)

-- One of those that pass.
every_at : (p : ℕ → Bool) (ns : List ℕ) (i : ℕ) → every p ns ≡ true → i < length ns → p (get_or ns i 0) ≡ true
unfolding every
every_at p [] i h l = absurd (omega arith)
every_at p (n ∷ ns) zero h l = (both _ _ h).0
every_at p (n ∷ ns) (suc i) h l = every_at p ns i (both _ _ h).1 (omega arith)

-- Behind what stands at a place.
behind : (bytes : List ℕ) (at : ℕ) (f g : List ℕ) → drop at bytes ≡ f ++ g → drop (at + length f) bytes ≡ g
behind bytes at f g e = sym (drop-drop (length f) at bytes) ∙ rw e (drop_at f g (length f) refl)

-- The bytes of a slot that is used.
used_bytes : (lead : ℕ) (xs ys : List ℕ) → bytes_of (lead ∷ xs ++ ys) ≡ leb128 lead ++ (bytes_of xs ++ bytes_of ys)
unfolding flat_map
used_bytes lead xs ys = rw (bytes_append xs ys)

-- How many bytes it takes: at most ten a number.
module _ (top before after : ℕ) (ns : List ℕ) where
  fields_few : length ns ≤ before + suc after → length ((slot top before after).fields ns) ≤ before + suc after
  unfolding slot when◌then◌else◌
  fields_few h =
      let t = length-take before ns in
      let d = length-drop (suc before) ns in
      split (eqb (get_or ns before 0) 0) (λ z. rw z (omega arith)) (λ z. rw (z, length-append) (omega arith))

  pub slot_few : length ns ≤ before + suc after → length (bytes_of ((slot top before after).fields ns)) ≤ 10 * (before + suc after)
  slot_few h =
      let a = bytes_few ((slot top before after).fields ns) in
      let b = fields_few h in
      omega arith

-- What the bytes hold: where the lead is 0 nothing more, else the numbers before it and those after it.
module _ (top before after : ℕ) (small : top ≤ 2 ^ 64) where
  abbrev used : List ℕ → (lead p : ℕ) → Read (List ℕ)
  used bytes lead p = onward (numbers_at top before bytes p) (λ xs q. onward (numbers_at top after bytes q) (λ ys r. got (xs ++ (lead ∷ ys)) r))

  abbrev behind_lead : List ℕ → (lead p : ℕ) → Read (List ℕ)
  behind_lead bytes lead p = when eqb lead 0 then got (replicate (before + suc after) 0) p else used bytes lead p

  tidy_long : (ns : List ℕ) → (slot top before after).tidy ns ≡ true → length ns ≡ (slot top before after).width
  unfolding slot
  tidy_long ns h = eqb-true _ _ (both _ _ h).0

  -- READ BACK.
  module _ (bytes rest ns : List ℕ) (at : ℕ) (n : length ns ≡ before + suc after) (below : all_below top ns ≡ true) where
    lead_below : get_or ns before 0 < top
    lead_below = ltb-true (get_or ns before 0) top (every_at _ ns before below (omega arith))

    back_unused : get_or ns before 0 ≡ 0 → all_zero ns ≡ true → drop at bytes ≡ bytes_of (0 ∷ []) ++ rest → onward (number_below top bytes at) (behind_lead bytes) ≡ got ns (at + length (bytes_of (0 ∷ [])))
    unfolding onward when◌then◌else◌ flat_map
    back_unused z h e =
        let l = lead_below in
        let o : bytes_of (0 ∷ []) ≡ leb128 0 = append-nil (leb128 0) in
        let i : number_below top bytes at ≡ got 0 (at + length (leb128 0)) = below_back top bytes rest at 0 small (omega arith) (rw o at e) in
        let r : replicate (before + suc after) 0 ≡ ns = sym (rw n at (zeros ns h)) in
        rw (i, o, r)

    back_used : (lead : ℕ) → lead ≡ get_or ns before 0 → eqb lead 0 ≡ false → drop at bytes ≡ bytes_of (lead ∷ take before ns ++ drop (suc before) ns) ++ rest → onward (number_below top bytes at) (behind_lead bytes) ≡ got ns (at + length (bytes_of (lead ∷ take before ns ++ drop (suc before) ns)))
    unfolding onward when◌then◌else◌ numbers
    back_used lead is z e =
        let xs = take before ns in
        let ys = drop (suc before) ns in
        let f = leb128 lead in
        let g = bytes_of xs in
        let h = bytes_of ys in
        let b = used_bytes lead xs ys in
        let e₁ : drop at bytes ≡ f ++ (g ++ (h ++ rest)) = e ∙ rw (b, append_assoc, append_assoc) in
        let p = at + length f in
        let q = p + length g in
        let l = lead_below in
        let d₁ = behind bytes at f (g ++ (h ++ rest)) e₁ in
        let d₂ = behind bytes p g (h ++ rest) d₁ in
        let i : number_below top bytes at ≡ got lead p = below_back top bytes (g ++ (h ++ rest)) at lead small (omega arith) e₁ in
        let n₁ : length xs ≡ before = length-take-le before ns (omega arith) in
        let n₂ : length ys ≡ after = length-drop (suc before) ns ∙ omega arith in
        let j : numbers_at top before bytes p ≡ got xs q = (numbers_exact top before small).back bytes (h ++ rest) xs p (join _ _ (eq-eqb _ _ n₁) (every_take _ before ns below)) d₁ in
        let k : numbers_at top after bytes q ≡ got ys (q + length h) = (numbers_exact top after small).back bytes rest ys q (join _ _ (eq-eqb _ _ n₂) (every_drop _ (suc before) ns below)) d₂ in
        let w : xs ++ (lead ∷ ys) ≡ ns = rw is (sym (split_at ns before 0 (omega arith))) in
        let m : q + length h ≡ at + length (bytes_of (lead ∷ xs ++ ys)) = rw (b, length-append, length-append) (omega arith) in
        rw (i, z, j, k, w, m)

  back : (bytes rest ns : List ℕ) (at : ℕ) → (slot top before after).tidy ns ≡ true → drop at bytes ≡ bytes_of ((slot top before after).fields ns) ++ rest → (slot top before after).read bytes at ≡ got ns (at + length (bytes_of ((slot top before after).fields ns)))
  unfolding slot when◌then◌else◌
  back bytes rest ns at h e =
      let t = both _ _ h in
      let u = both _ _ t.1 in
      let n = eqb-true _ _ t.0 in
      split (eqb (get_or ns before 0) 0)
      (λ z. rw z (back_unused bytes rest ns at n u.0 (eqb-true _ _ z) (rw z at u.1) (rw z at e)))
      (λ z. rw z (back_used bytes rest ns at n u.0 (get_or ns before 0) refl z (rw z at e)))

  -- ONLY WHAT IS WRITTEN.
  module _ (bytes ns : List ℕ) (at next : ℕ) (good : Bytes bytes) where
    only_unused : (lead p : ℕ) → NumberRead bytes at lead p × (lead < top) → eqb lead 0 ≡ true → got (replicate (before + suc after) 0) p ≡ got ns next → IsRead (slot top before after) bytes at ns next
    unfolding slot when◌then◌else◌ flat_map
    only_unused lead p (i, l) z e =
        let zs : List ℕ = replicate (before + suc after) 0 in
        let x : zs ≡ ns = cc in
        let y : p ≡ next = cc in
        let w : lead ≡ 0 = eqb-true lead 0 z in
        let g : get_or zs before 0 ≡ 0 = get_or-replicate (before + suc after) before 0 0 (omega arith) in
        let o : bytes_of (0 ∷ []) ≡ leb128 0 = append-nil (leb128 0) in
        record {
          tidy =
              rw (← x, g)
              (join _ _ (eq-eqb _ _ (length-replicate (before + suc after) 0))
              (join _ _ (every_zero (λ m. ltb m top) (before + suc after) (lt-ltb 0 top (omega arith))) (every_zero (λ m. eqb m 0) (before + suc after) refl)));
          there = rw (← x, g, ← y, o) (rw w at i.there);
          place = rw (← x, g, ← y, o) (rw w at i.place);
        }

    only_used : (lead p : ℕ) → NumberRead bytes at lead p × (lead < top) → eqb lead 0 ≡ false → (xs : List ℕ) (q : ℕ) → IsRead (numbers top before) bytes p xs q → (ys : List ℕ) (r : ℕ) → IsRead (numbers top after) bytes q ys r → got (xs ++ (lead ∷ ys)) r ≡ got ns next → IsRead (slot top before after) bytes at ns next
    unfolding slot when◌then◌else◌ numbers every
    only_used lead p (i, l) z xs q j ys r k e =
        let x : xs ++ (lead ∷ ys) ≡ ns = cc in
        let y : r ≡ next = cc in
        let t = both _ _ j.tidy in
        let u = both _ _ k.tidy in
        let n₁ : length xs ≡ before = eqb-true _ _ t.0 in
        let n₂ : length ys ≡ after = eqb-true _ _ u.0 in
        let n : length (xs ++ (lead ∷ ys)) ≡ before + suc after = length-append xs (lead ∷ ys) ∙ omega arith in
        let g : get_or (xs ++ (lead ∷ ys)) before 0 ≡ lead = get_or_at xs lead ys 0 before n₁ in
        let a : take before (xs ++ (lead ∷ ys)) ≡ xs = take_at xs (lead ∷ ys) before n₁ in
        let m : suc before ≡ length xs + 1 = omega arith in
        let b : drop (suc before) (xs ++ (lead ∷ ys)) ≡ ys = rw m (drop-append-add xs (lead ∷ ys) 1) in
        let s = used_bytes lead xs ys in
        let ip = i.place in
        let jp = j.place in
        let kp = k.place in
        record {
          tidy = rw (← x, g, z) (join _ _ (eq-eqb _ _ n) (join _ _ (every_append _ xs (lead ∷ ys) t.1 (join _ _ (lt-ltb lead top l) u.1)) refl));
          there = rw (← x, g, z, a, b, s, ← y, append_assoc, append_assoc) (rw (j.there, k.there) at i.there);
          place = rw (← x, g, z, a, b, s, ← y, length-append, length-append) (omega arith);
        }

    only : (slot top before after).read bytes at ≡ got ns next → IsRead (slot top before after) bytes at ns next
    unfolding slot when◌then◌else◌ numbers
    only e =
        let a = both_read (number_below top bytes at) (behind_lead bytes) e in
        let i = below_only top bytes at a.value a.place good a.one in
        split (eqb a.value 0) (λ z. only_unused a.value a.place i z (rw z at a.two))
        (λ z.
        let b = both_read (numbers_at top before bytes a.place) _ (rw z at a.two) in
        let c = both_read (numbers_at top after bytes b.place) _ b.two in
        let j = (numbers_exact top before small).only bytes b.value a.place b.place good b.one in
        let k = (numbers_exact top after small).only bytes c.value b.place c.place good c.one in
        only_used a.value a.place i z b.value b.place j c.value c.place k c.two)

  pub slot_exact : Exact (slot top before after)
  unfolding slot
  slot_exact = record { long = tidy_long; few = λ ns h. fields_few top before after ns (omega arith); back = back; only = only }

-- How many numbers are read.
module _ (top before after : ℕ) (bytes ns : List ℕ) (at next : ℕ) where
  pub slot_long : (slot top before after).read bytes at ≡ got ns next → length ns ≡ before + suc after
  unfolding slot when◌then◌else◌
  slot_long e =
      let a = both_read (number_below top bytes at) _ e in
      split (eqb a.value 0)
      (λ z.
      let f = rw z at a.two in
      let zs : List ℕ = replicate (before + suc after) 0 in
      let x : zs ≡ ns = cc in
      rw (← x) (length-replicate (before + suc after) 0))
      (λ z.
      let b = both_read (numbers_at top before bytes a.place) _ (rw z at a.two) in
      let c = both_read (numbers_at top after bytes b.place) _ b.two in
      let f = c.two in
      let x : b.value ++ (a.value ∷ c.value) ≡ ns = cc in
      let n₁ = numbers_long top bytes before a.place b.value b.place b.one in
      let n₂ = numbers_long top bytes after b.place c.value c.place c.one in
      rw (← x, length-append) (omega arith))

-- SLOTS.
module _ (top before after : ℕ) where
  pub slots_width : (k : ℕ) → (slots top before after k).width ≡ (before + suc after) * k
  unfolding slots numbers beside slot
  slots_width zero = omega arith
  slots_width (suc k) = rw mul-suc (omega arith)

  pub slots_exact : (k : ℕ) → top ≤ 2 ^ 64 → Exact (slots top before after k)
  unfolding slots
  slots_exact zero small = numbers_exact 0 0 (omega arith)
  slots_exact (suc k) small =
      beside_exact (slot top before after) (λ _. slots top before after k) ((before + suc after) * k) (slot_exact top before after small) (λ _. slots_exact k small) (λ _. slots_width k)
