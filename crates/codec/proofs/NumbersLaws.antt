-- Numbers one behind the other: what is written is read back, and only what is written is read.
use Rattle.std.specs.Prelude.{◌≡◌, true, ltb}
use Rattle.std.proofs.Math.Path.{refl, sym, ap}
use Rattle.std.proofs.Common.{◌∙◌, arith, drop_at, drop-drop}
use mathlib.Core.List.{List, [], ◌∷◌, ◌++◌, flat_map, append_assoc}
use Prim.Native.Nat.{ℕ, zero, suc, ◌+◌, ◌^◌, ◌≤◌, ◌<◌}
use Rattle.std.proofs.Math.ListN.{length, drop, length-append}
use borrow.Author.Tests.{ltb-true, lt-ltb, le-ltb, eqb-true, eq-eqb}
use Rattle.laws.specs.Bool.{when◌then◌else◌, split, both, join}
use Rattle.laws.specs.Every.{every}
use Rattle.codec.specs.Read.{Read, got, bad, onward, tested}
use Rattle.codec.specs.Leb.{leb128, parse, number_at}
use Rattle.codec.specs.Numbers.{bytes_of, number_below, numbers_at, all_below}
use Rattle.codec.specs.Stages.{numbers}
use Rattle.codec.specs.Exact.{Bytes, IsRead, Exact}
use Rattle.codec.proofs.ExactLaws.{not_bad}
use Rattle.codec.proofs.LebLaws.{NumberRead, number_back, number_only}

-- ONE NUMBER BELOW TOP.
module _ (top : ℕ) where
  pub below_back : (bytes rest : List ℕ) (at n : ℕ) → top ≤ 2 ^ 64 → n < top → drop at bytes ≡ leb128 n ++ rest → number_below top bytes at ≡ got n (at + length (leb128 n))
  unfolding tested onward when◌then◌else◌
  below_back bytes rest at n t h e = rw (number_back bytes rest at n (omega arith) e, lt-ltb n top h)

  -- what was read passes the test, or doesn't
  module _ {r : Read ℕ} where
    pub below_got : {n next : ℕ} → r ≡ got n next → n < top → tested (λ m. ltb m top) r ≡ got n next
    unfolding tested onward when◌then◌else◌
    below_got {n} e h = rw (e, lt-ltb n top h)

    pub below_over : {n next : ℕ} → r ≡ got n next → top ≤ n → tested (λ m. ltb m top) r ≡ bad
    unfolding tested onward when◌then◌else◌
    below_over {n} e h = rw (e, le-ltb n top h)

    pub below_bad : r ≡ bad → tested (λ m. ltb m top) r ≡ bad
    unfolding tested onward
    below_bad e = rw e

  -- what passed the test was read, and is below top
  pub tested_below : (n next : ℕ) (r : Read ℕ) → tested (λ m. ltb m top) r ≡ got n next → (r ≡ got n next) × (n < top)
  unfolding tested onward when◌then◌else◌
  tested_below n next bad e = not_bad e
  tested_below n next (got m p) e =
      split (ltb m top)
      (λ t.
      let f : got m p ≡ got n next = rw t at e in
      let x : m ≡ n = cc in
      (f, rw (← x) (ltb-true m top t)))
      (λ t. not_bad (rw t at e))

  pub below_only : (bytes : List ℕ) (at n next : ℕ) → Bytes bytes → number_below top bytes at ≡ got n next → NumberRead bytes at n next × (n < top)
  below_only bytes at n next good e =
      let b = tested_below n next (number_at bytes at) e in
      (number_only bytes at n next good b.0, b.1)

-- every number that is read has 64 bits
passes : (at : ℕ) (r : Read ℕ) → tested (λ n. ltb n (2 ^ 64)) (onward r (λ n size. when ltb n (2 ^ 64) then got n (at + size) else bad)) ≡ onward r (λ n size. when ltb n (2 ^ 64) then got n (at + size) else bad)
unfolding tested onward when◌then◌else◌
passes at bad = refl
passes at (got n size) = split (ltb n (2 ^ 64)) (λ t. rw (t, t)) (λ t. rw t)

pub below_any : (bytes : List ℕ) (at : ℕ) → number_below (2 ^ 64) bytes at ≡ number_at bytes at
unfolding number_at
below_any bytes at = passes at (parse 10 (drop at bytes))

-- K NUMBERS. Read back.
module _ (top : ℕ) (small : top ≤ 2 ^ 64) (bytes rest : List ℕ) where
  numbers_back : (ns : List ℕ) (at : ℕ) → all_below top ns ≡ true → drop at bytes ≡ bytes_of ns ++ rest → numbers_at top (length ns) bytes at ≡ got ns (at + length (bytes_of ns))
  unfolding flat_map numbers_at onward every
  numbers_back [] at h e = ap (got []) (omega arith)
  numbers_back (n ∷ ns) at h e =
      let b = both _ _ h in
      let f = leb128 n in
      let g = bytes_of ns in
      let p = at + length f in
      let e₁ : drop at bytes ≡ f ++ (g ++ rest) = e ∙ append_assoc f g rest in
      let i : number_below top bytes at ≡ got n p = below_back top bytes (g ++ rest) at n small (ltb-true n top b.0) e₁ in
      let d : drop p bytes ≡ g ++ rest = sym (drop-drop (length f) at bytes) ∙ rw e₁ (drop_at f (g ++ rest) (length f) refl) in
      let j : numbers_at top (length ns) bytes p ≡ got ns (p + length g) = numbers_back ns p b.1 d in
      let q : p + length g ≡ at + length (f ++ g) = rw length-append (omega arith) in
      rw (i, j, q)

-- Only what is written.
record NumbersRead (top : ℕ) (bytes : List ℕ) (at : ℕ) (ns : List ℕ) (next : ℕ) : Type 0 where
  there : drop at bytes ≡ bytes_of ns ++ drop next bytes
  place : next ≡ at + length (bytes_of ns)
  small : all_below top ns ≡ true

module _ (top : ℕ) (bytes : List ℕ) (good : Bytes bytes) where
  module _ (at : ℕ) (ns : List ℕ) (next : ℕ) where
    more : (n p : ℕ) → NumberRead bytes at n p × (n < top) → (r : Read (List ℕ)) → ((ms : List ℕ) (q : ℕ) → r ≡ got ms q → NumbersRead top bytes p ms q) → onward r (λ ms q. got (n ∷ ms) q) ≡ got ns next → NumbersRead top bytes at ns next
    unfolding onward flat_map every
    more n p o bad f e = not_bad e
    more n p o (got ms q) f e =
        let x : n ∷ ms ≡ ns = cc in
        let y : q ≡ next = cc in
        let i = f ms q refl in
        let op = o.0.place in
        let ip = i.place in
        record {
          there = rw (← x, ← y, append_assoc (leb128 n) (bytes_of ms) (drop q bytes)) (rw i.there at o.0.there);
          place = rw (← x, ← y, length-append) (omega arith);
          small = rw (← x) (join _ _ (lt-ltb n top o.1) i.small);
        }

    by_first : (k : ℕ) (r : Read ℕ) → number_below top bytes at ≡ r → ((p : ℕ) (ms : List ℕ) (q : ℕ) → numbers_at top k bytes p ≡ got ms q → NumbersRead top bytes p ms q) → onward r (λ n p. onward (numbers_at top k bytes p) (λ ms q. got (n ∷ ms) q)) ≡ got ns next → NumbersRead top bytes at ns next
    unfolding onward
    by_first k bad i f e = not_bad e
    by_first k (got n p) i f e = more n p (below_only top bytes at n p good i) (numbers_at top k bytes p) (f p) e

  numbers_only : (k at : ℕ) (ns : List ℕ) (next : ℕ) → numbers_at top k bytes at ≡ got ns next → NumbersRead top bytes at ns next
  unfolding numbers_at flat_map every
  numbers_only zero at ns next e =
      let x : [] ≡ ns = cc in
      let y : at ≡ next = cc in
      record { there = rw (← x, ← y); place = rw (← x, ← y) (omega arith); small = rw (← x) }
  numbers_only (suc k) at ns next e = by_first at ns next k (number_below top bytes at) refl (numbers_only k) e

-- How many are read.
module _ (top : ℕ) (bytes : List ℕ) where
  long_more : (k n : ℕ) (ns : List ℕ) (next : ℕ) (r : Read (List ℕ)) → ((ms : List ℕ) (q : ℕ) → r ≡ got ms q → length ms ≡ k) → onward r (λ ms q. got (n ∷ ms) q) ≡ got ns next → length ns ≡ suc k
  unfolding onward
  long_more k n ns next bad f e = not_bad e
  long_more k n ns next (got ms q) f e = let x : n ∷ ms ≡ ns = cc in rw (← x) (ap suc (f ms q refl))

  long_first : (k : ℕ) (ns : List ℕ) (next : ℕ) (r : Read ℕ) → ((p : ℕ) (ms : List ℕ) (q : ℕ) → numbers_at top k bytes p ≡ got ms q → length ms ≡ k) → onward r (λ n p. onward (numbers_at top k bytes p) (λ ms q. got (n ∷ ms) q)) ≡ got ns next → length ns ≡ suc k
  unfolding onward
  long_first k ns next bad f e = not_bad e
  long_first k ns next (got n p) f e = long_more k n ns next (numbers_at top k bytes p) (f p) e

  pub numbers_long : (k at : ℕ) (ns : List ℕ) (next : ℕ) → numbers_at top k bytes at ≡ got ns next → length ns ≡ k
  unfolding numbers_at
  numbers_long zero at ns next e = let x : [] ≡ ns = cc in rw (← x)
  numbers_long (suc k) at ns next e = long_first k ns next (number_below top bytes at) (numbers_long k) e

-- BOTH WAYS.
module _ (top k : ℕ) where
  tidy_long : (ns : List ℕ) → (numbers top k).tidy ns ≡ true → length ns ≡ k
  unfolding numbers
  tidy_long ns h = eqb-true (length ns) k (both _ _ h).0

  exact_back : top ≤ 2 ^ 64 → (bytes rest ns : List ℕ) (at : ℕ) → (numbers top k).tidy ns ≡ true → drop at bytes ≡ bytes_of ((numbers top k).fields ns) ++ rest → (numbers top k).read bytes at ≡ got ns (at + length (bytes_of ((numbers top k).fields ns)))
  unfolding numbers
  exact_back small bytes rest ns at h e = rw (← tidy_long ns h) (numbers_back top small bytes rest ns at (both _ _ h).1 e)

  exact_only : (bytes ns : List ℕ) (at next : ℕ) → Bytes bytes → (numbers top k).read bytes at ≡ got ns next → IsRead (numbers top k) bytes at ns next
  unfolding numbers
  exact_only bytes ns at next good e =
      let i = numbers_only top bytes good k at ns next e in
      record { tidy = join _ _ (eq-eqb (length ns) k (numbers_long top bytes k at ns next e)) i.small; there = i.there; place = i.place }

pub numbers_exact : (top k : ℕ) → top ≤ 2 ^ 64 → Exact (numbers top k)
unfolding numbers
numbers_exact top k small = record { long = tidy_long top k; few = λ ns h. omega arith; back = exact_back top k small; only = exact_only top k }
