-- One number: what is written is read back, and only what is written is read.
use Rattle.std.specs.Prelude.{◌≡◌, eqb, length, drop, get_or}
use Rattle.std.proofs.Math.Path.{refl, ap}
use Rattle.std.proofs.Common.{sym, ◌∙◌, drop-drop, get_or-drop}
use Rattle.std.proofs.Math.Bool.{true, false}
use mathlib.Core.List.{List, [], ◌∷◌, ◌++◌}
use Prim.Native.Nat.{ℕ, zero, suc, ◌+◌, ◌*◌, ◌-◌, ◌/◌, ◌%◌, ◌^◌, ◌≤◌, ◌<◌}
use Rattle.std.proofs.Math.Nat.{pow-suc, one-le-pow}
use native.Mathlib.Omega.{arith}
use Rattle.std.proofs.Math.Dec.{ltb}
use borrow.Author.Tests.{ltb-true, ltb-false, lt-ltb, le-ltb, eqb-false, ne_eqb}
use Rattle.laws.specs.Bool.{when◌then◌else◌, split}
use Rattle.codec.specs.Read.{Read, got, bad, onward}
use Rattle.codec.specs.Leb.{groups, leb128, parse, number_at}
use Rattle.codec.specs.Exact.{Bytes}
use Rattle.codec.proofs.ExactLaws.{not_bad}

-- HOW MANY GROUPS.
groups_few : (k n : ℕ) → length (groups k n) ≤ k
unfolding groups when◌then◌else◌
groups_few zero n = omega arith
groups_few (suc k) n = split (ltb n 128) (λ h. rw h (omega arith)) (λ h. let i = groups_few k (n / 128) in rw h (omega arith))

pub groups_some : (k n : ℕ) → 1 ≤ length (groups (suc k) n)
unfolding groups when◌then◌else◌
groups_some k n = split (ltb n 128) (λ h. rw h (omega arith)) (λ h. rw h (omega arith))

pub leb_few : (n : ℕ) → length (leb128 n) ≤ 10
unfolding leb128
leb_few n = groups_few 10 n

pub leb_some : (n : ℕ) → 1 ≤ length (leb128 n)
unfolding leb128
leb_some n = groups_some 9 n

-- READ BACK, whatever stands behind it.
groups_back : (k n : ℕ) (rest : List ℕ) → n < 128 ^ suc k → parse (suc k) (groups (suc k) n ++ rest) ≡ got n (length (groups (suc k) n))
unfolding groups parse onward when◌then◌else◌
groups_back zero n rest h = let t : ltb n 128 ≡ true = lt-ltb n 128 h in rw (t, t)
groups_back (suc k) n rest h =
    split (ltb n 128) (λ t. rw (t, t))
    (λ f.
    let g = ltb-false n 128 f in
    let e : 128 ^ suc (suc k) ≡ 128 ^ suc k * 128 = pow-suc 128 (suc k) in
    let b : ltb (n % 128 + 128) 128 ≡ false = le-ltb (n % 128 + 128) 128 (omega arith) in
    let z : eqb (n / 128) 0 ≡ false = ne_eqb (n / 128) 0 (λ (q : n / 128 ≡ 0). omega arith) in
    let v : n % 128 + 128 - 128 + 128 * (n / 128) ≡ n = omega arith in
    rw (f, b, groups_back k (n / 128) rest (omega arith), z, v))

pub number_back : (bytes rest : List ℕ) (at n : ℕ) → n < 2 ^ 64 → drop at bytes ≡ leb128 n ++ rest → number_at bytes at ≡ got n (at + length (leb128 n))
unfolding number_at leb128 onward when◌then◌else◌
number_back bytes rest at n h e = rw (e, groups_back 9 n rest (omega arith), lt-ltb n (2 ^ 64) h)

-- ONLY WHAT IS WRITTEN. The bytes begin with the groups of n, size of them.
record Begins (k : ℕ) (bytes : List ℕ) (n size : ℕ) : Type 0 where
  is : bytes ≡ groups k n ++ drop size bytes
  long : size ≡ length (groups k n)
  small : n < 128 ^ k

module _ (k b : ℕ) (bytes : List ℕ) (n size : ℕ) where
  -- one group
  one : b < 128 → got b 1 ≡ got n size → Begins (suc k) (b ∷ bytes) n size
  unfolding groups when◌then◌else◌
  one h e =
      let x : b ≡ n = cc in
      let y : 1 ≡ size = cc in
      let t : ltb n 128 ≡ true = lt-ltb n 128 (omega arith) in
      let m : 128 ^ suc k ≡ 128 ^ k * 128 = pow-suc 128 k in
      let p : 1 ≤ 128 ^ k = one-le-pow k 128 (omega arith) in
      record { is = rw (← y, t, x); long = rw t (sym y); small = omega arith }

  -- a group before others
  more : 128 ≤ b → b < 256 → (r : Read ℕ) → ((m s : ℕ) → r ≡ got m s → Begins k bytes m s) → onward r (λ m s. when eqb m 0 then bad else got (b - 128 + 128 * m) (suc s)) ≡ got n size → Begins (suc k) (b ∷ bytes) n size
  unfolding groups onward when◌then◌else◌
  more l u bad f e = not_bad e
  more l u (got m s) f e =
      split (eqb m 0) (λ z. not_bad (rw z at e))
      (λ z.
      let i = f m s refl in
      let g : m ≡ 0 → ⊥ = eqb-false m 0 z in
      let e' : got (b - 128 + 128 * m) (suc s) ≡ got n size = rw z at e in
      let x : b - 128 + 128 * m ≡ n = cc in
      let y : suc s ≡ size = cc in
      let c : ltb n 128 ≡ false = le-ltb n 128 (omega arith) in
      let v : n % 128 + 128 ≡ b = omega arith in
      let w : n / 128 ≡ m = omega arith in
      let j = i.small in
      let q : 128 ^ suc k ≡ 128 ^ k * 128 = pow-suc 128 k in
      record { is = rw (← y, c, v, w) (ap (λ (r : List ℕ). b ∷ r) i.is); long = rw (c, w) (sym y ∙ ap suc i.long); small = omega arith })

groups_only : (k : ℕ) (bytes : List ℕ) (n size : ℕ) → ((i : ℕ) → get_or bytes i 0 < 256) → parse k bytes ≡ got n size → Begins k bytes n size
unfolding parse when◌then◌else◌
groups_only zero bytes n size good e = not_bad e
groups_only (suc k) [] n size good e = not_bad e
groups_only (suc k) (b ∷ bytes) n size good e =
    split (ltb b 128) (λ t. one k b bytes n size (ltb-true b 128 t) (rw t at e))
    (λ f. more k b bytes n size (ltb-false b 128 f) (good 0) (parse k bytes) (λ m s. groups_only k bytes m s (λ i. good (suc i))) (rw f at e))

-- A number was read from a place up to the next.
pub record NumberRead (bytes : List ℕ) (at n next : ℕ) : Type 0 where
  pub there : drop at bytes ≡ leb128 n ++ drop next bytes
  pub place : next ≡ at + length (leb128 n)
  pub small : n < 2 ^ 64

by_parse : (bytes : List ℕ) (at n next : ℕ) (r : Read ℕ) → ((m s : ℕ) → r ≡ got m s → Begins 10 (drop at bytes) m s) → onward r (λ m s. when ltb m (2 ^ 64) then got m (at + s) else bad) ≡ got n next → NumberRead bytes at n next
unfolding onward leb128 when◌then◌else◌
by_parse bytes at n next bad f e = not_bad e
by_parse bytes at n next (got m s) f e =
    split (ltb m (2 ^ 64))
    (λ t.
    let e' : got m (at + s) ≡ got n next = rw t at e in
    let x : m ≡ n = cc in
    let y : at + s ≡ next = cc in
    let i = f m s refl in
    record {
      there = rw (← x, ← y, ← drop-drop s at bytes) i.is;
      place = rw (← x, ← y, i.long);
      small = rw (← x) (ltb-true m (2 ^ 64) t);
    })
    (λ t. not_bad (rw t at e))

pub number_only : (bytes : List ℕ) (at n next : ℕ) → Bytes bytes → number_at bytes at ≡ got n next → NumberRead bytes at n next
unfolding number_at
number_only bytes at n next good e =
    by_parse bytes at n next (parse 10 (drop at bytes)) (λ m s. groups_only 10 (drop at bytes) m s (λ i. rw (get_or-drop at bytes i 0) (good.each (at + i)))) e
