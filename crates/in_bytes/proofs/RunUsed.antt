-- What is used of a tidy run: past its stored signals, and past the last node that is used, all is zero.
use Rattle.std.specs.Prelude.{◌≡◌, Bool, true, false, ◌&&◌, List, [], ◌∷◌, ltb, length, Option, Some, None}
use Rattle.std.specs.Bool.{⊤}
use Rattle.std.specs.Option.{MatchOption}
use Rattle.std.specs.List.{FoldsTo}
use Rattle.std.specs.Fn.{CalledAt}
use Rattle.std.specs.Iterator.{Yields, YieldsThen}
use Rattle.std.specs.declared.ops.Range.{Range}
use Rattle.std.specs.declared.iter.Rev.{Rev}
use denote.Param.Members.{Mut}
use denote.Ref.{Bor}
use Rattle.std.proofs.Math.Path.{refl, subst}
use Rattle.std.proofs.Common.{sym, ap, ◌∙◌}
use Prim.Native.Nat.{ℕ, suc, ◌+◌, ◌*◌, ◌-◌, ◌^◌, ◌≤◌, ◌<◌}
use native.Mathlib.Omega.{arith}
use Rattle.std.proofs.Math.Dec.{eqb}
use Rattle.std.proofs.Math.ListN.{get_or}
use borrow.Author.Tests.{eqb-true, ltb-true, ltb-false}
use Rattle.laws.specs.Bool.{split, both}
use Rattle.codec.specs.Numbers.{part}
use Rattle.codec.specs.Slots.{slots}
use Rattle.codec.proofs.PartLaws.{get_d_part}
use Rattle.codec.proofs.TidyLaws.{column_low, column_zero, slots_zero}
use Rattle.host.specs.Layout as layout
use Rattle.host.specs.Layout.{visits_place, streak_place, result_place}
use Rattle.host.specs.Read.{at}
use Rattle.host.specs.ByCount.{SignalsPast, NodesPast}
use Rattle.host.proofs.Cases.{both_of}
use Rattle.in_bytes.specs.Run.{stored_signals, run}
use Rattle.in_bytes.specs.Tests.{unused}
use Rattle.in_bytes.proofs.RunLaws.{parts_neat}

module _ (xs : List ℕ) (long : length xs ≡ layout.record_length) (tidy : run.tidy xs ≡ true) where
  -- THE SIGNALS, by their count.
  signals_neat : (stored_signals.shape (part xs 0 layout.record_signals)).tidy (part xs layout.record_signals layout.record_visits) ≡ true
  signals_neat = let n = sym (parts_neat xs long) ∙ tidy in (both _ _ (both _ _ n).1).0

  pub signals_past : SignalsPast xs (at xs layout.record_stored)
  signals_past =
      let count = get_or (part xs 0 layout.record_signals) layout.record_stored 0 in
      let ns = part xs layout.record_signals layout.record_visits in
      let c : count ≡ at xs layout.record_stored = get_d_part xs 0 layout.record_signals layout.record_stored 0 (omega arith) in
      let l = column_low (2 ^ 64) (layout.signal_width * layout.store) (layout.signal_width * count) ns signals_neat in
      record {
        low = omega arith;
        zeros = λ p a b.
            let i = p - layout.record_signals in
            let e : layout.record_signals + i ≡ p = omega arith in
            ap (λ (k : ℕ). get_or xs k 0) (sym e) ∙ sym (get_d_part xs layout.record_signals layout.record_visits i 0 (omega arith))
            ∙ column_zero (2 ^ 64) (layout.signal_width * layout.store) (layout.signal_width * count) ns signals_neat i (omega arith);
      }

  -- THE NODES. A streak and a result whose lead is 0.
  streaks_neat : (slots (2 ^ 64) 1 0 layout.nodes).tidy (part xs layout.record_streaks layout.record_results) ≡ true
  streaks_neat = let n = sym (parts_neat xs long) ∙ tidy in (both _ _ (both _ _ (both _ _ (both _ _ n).1).1).1).0

  results_neat : (slots (2 ^ 64) 2 3 layout.nodes).tidy (part xs layout.record_results layout.record_length) ≡ true
  results_neat =
      let n = sym (parts_neat xs long) ∙ tidy in
      (both _ _ (both _ _ (both _ _ (both _ _ (both _ _ n).1).1).1).1).0

  -- Slots in the record, from a place on.
  slot_zero : (before after first end : ℕ) → end ≡ first + (before + suc after) * layout.nodes → (slots (2 ^ 64) before after layout.nodes).tidy (part xs first end) ≡ true → (n p : ℕ) → n < layout.nodes → get_or xs (first + ((before + suc after) * n + before)) 0 ≡ 0 → first + (before + suc after) * n ≤ p → p < first + (before + suc after) * n + (before + suc after) → (before + suc after) * n + (before + suc after) ≤ (before + suc after) * layout.nodes → get_or xs p 0 ≡ 0
  slot_zero before after first end e neat n p l z a b w =
      let i = (before + suc after) * n in
      let j = p - (first + i) in
      let q : first + (i + j) ≡ p = omega arith in
      ap (λ (k : ℕ). get_or xs k 0) (sym q) ∙ sym (get_d_part xs first end (i + j) 0 (omega arith))
      ∙ slots_zero (2 ^ 64) before after layout.nodes (part xs first end) neat n l (get_d_part xs first end (i + before) 0 (omega arith) ∙ z) j (omega arith)

  pub nodes_start : NodesPast xs layout.nodes
  nodes_start = record { low = omega arith; visits = λ p a b. absurd (omega arith); streaks = λ p a b. absurd (omega arith); results = λ p a b. absurd (omega arith) }

  -- one more that isn't used
  pub nodes_more : {rows n : ℕ} → suc n ≡ rows → NodesPast xs rows → unused xs n ≡ true → NodesPast xs n
  unfolding unused
  nodes_more {rows} {n} e past u =
      let low = past.low in
      let f : streak_place n + 1 ≡ layout.record_streaks + ((1 + suc 0) * n + 1) = omega arith in
      let g : result_place n + 2 ≡ layout.record_results + ((2 + suc 3) * n + 2) = omega arith in
      let t = both_of (eqb (at xs (visits_place n)) 0 && eqb (at xs (streak_place n + 1)) 0) (eqb (at xs (result_place n + 2)) 0) u in
      let r = both_of (eqb (at xs (visits_place n)) 0) (eqb (at xs (streak_place n + 1)) 0) t.0 in
      let v = eqb-true (at xs (visits_place n)) 0 r.0 in
      let s : get_or xs (layout.record_streaks + ((1 + suc 0) * n + 1)) 0 ≡ 0 = rw f at (eqb-true (at xs (streak_place n + 1)) 0 r.1) in
      let o : get_or xs (layout.record_results + ((2 + suc 3) * n + 2)) 0 ≡ 0 = rw g at (eqb-true (at xs (result_place n + 2)) 0 t.1) in
      record {
        low = omega arith;
        visits = λ p a b.
            split (ltb p (visits_place rows)) (λ q. let g = ltb-true p (visits_place rows) q in let f : p ≡ visits_place n = omega arith in rw f v)
            (λ q. let g = ltb-false p (visits_place rows) q in past.visits p g b);
        streaks = λ p a b.
            split (ltb p (streak_place rows))
            (λ q. let g = ltb-true p (streak_place rows) q in slot_zero 1 0 layout.record_streaks layout.record_results refl streaks_neat n p (omega arith) s (omega arith) (omega arith) (omega arith))
            (λ q. let g = ltb-false p (streak_place rows) q in past.streaks p g b);
        results = λ p a b.
            split (ltb p (result_place rows))
            (λ q. let g = ltb-true p (result_place rows) q in slot_zero 2 3 layout.record_results layout.record_length refl results_neat n p (omega arith) o (omega arith) (omega arith) (omega arith))
            (λ q. let g = ltb-false p (result_place rows) q in past.results p g b);
      }

-- `find` over the numbers below a count, from the last down. What holds of the count, and of a number that doesn't pass if it holds of the next, holds of the next of the one that is found; of 0 where none is.
abbrev down : Rev (Range ℕ) → Option ℕ → Rev (Range ℕ) → Type 0
down s r t = (t.iter.start ≡ s.iter.start) × MatchOption r ((s.iter.end - s.iter.start ≡ 0) × (t.iter.end ≡ s.iter.end)) (λ x. (0 < s.iter.end - s.iter.start) × (x ≡ t.iter.end) × (s.iter.end ≡ t.iter.end + 1))

module _ {F : Type 0} {g : Mut F (Bor ℕ × Unit {0}) Bool} (Holds : ℕ → Type 0) (f : F) (lower : (x : ℕ) (q : F) → CalledAt g f x false q → (q ≡ f) × (Holds (x + 1) → Holds x)) where
  passed : (xs : List ℕ) (s t : Rev (Range ℕ)) (j : F) → s.iter.start ≡ 0 → Holds s.iter.end → Yields down s xs t → FoldsTo (λ p x q. CalledAt g p x false q) f xs j → (t.iter.start ≡ 0) × Holds t.iter.end
  passed [] s t j z h y w = subst (λ (u : Rev (Range ℕ)). (u.iter.start ≡ 0) × Holds u.iter.end) y (z, h)
  passed (x ∷ xs) s t j z h (k, p, y) (q, c, w) =
      let l = lower x q c in
      let e : s.iter.end ≡ x + 1 = omega (arith, p.1) in
      passed xs k t j (p.0 ∙ z) (subst Holds p.1.1 (l.1 (subst Holds e h))) y (subst (λ v. FoldsTo (λ p x q. CalledAt g p x false q) v xs j) l.0 w)

  pub highest : (s u : Rev (Range ℕ)) (r : Option ℕ) (v : ℕ) (Post : ℕ → Type 0) → s.iter.start ≡ 0 → Holds s.iter.end
      → (xs : List ℕ) × (j : F) × YieldsThen down s xs r u × FoldsTo (λ p x q. CalledAt g p x false q) f xs j × MatchOption r ⊤ (λ x. (h : F) × CalledAt g j x true h)
      → MatchOption r (v ≡ 0) Post → ((x : ℕ) → Post x → v ≡ x + 1) → Holds v
  highest s u None v Post z h (xs, j, (t, y, e), w, m) a b =
      let p = passed xs s t j z h y w in
      let q : t.iter.end ≡ v = omega (arith, p.0, e.1, a) in
      subst Holds q p.1
  highest s u (Some x) v Post z h (xs, j, (t, y, e), w, m) a b =
      let p = passed xs s t j z h y w in
      let q : t.iter.end ≡ v = omega (arith, e.1, b x a) in
      subst Holds q p.1
