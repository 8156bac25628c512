-- The groups of a number in loops: read, counted, written.
use Rattle.std.specs.Prelude.{◌≡◌, List, [], ◌∷◌, eqb, length, drop, get_or, set}
use Rattle.std.proofs.Math.Path.{refl, sym}
use Rattle.std.proofs.Common.{◌∙◌, pow-suc, mul-add, mul_assoc, length-set}
use Rattle.std.proofs.Math.Bool.{true, false}
use Prim.Native.Nat.{ℕ, zero, suc, ◌+◌, ◌*◌, ◌-◌, ◌/◌, ◌%◌, ◌^◌, ◌≤◌, ◌<◌}
use Rattle.std.proofs.Math.Nat.{mul-le-mul_left, pow-le-pow_right}
use Rattle.std.proofs.Math.Numerals.{add-one}
use native.Mathlib.Omega.{arith}
use Rattle.std.proofs.Math.Dec.{ltb}
use Rattle.std.proofs.Math.ListN.{drop_of_length-le}
use Rattle.std.proofs.Math.Seq.{drop-cons}
use borrow.Author.Tests.{ltb-true, lt-ltb, le-ltb, eqb-true, eqb-false, ne_eqb}
use Rattle.std.proofs.lemmas.List.{get_or_default}
use Rattle.laws.specs.Bool.{when◌then◌else◌, split}
use Rattle.laws.specs.Splice.{splice, splice_one, splice_more}
use Rattle.codec.specs.Read.{Read, got, bad, onward}
use Rattle.codec.specs.Leb.{groups, leb128, parse, number_at}
use Rattle.codec.specs.Groups.{above, followed}
use Rattle.codec.proofs.LebLaws.{groups_some}

-- The byte b stands at a place: what `get` says of it.
pub record There (bytes : List ℕ) (at b : ℕ) : Type 0 where
  pub low : at < length bytes
  pub is : b ≡ get_or bytes at 0

pub there : {bytes : List ℕ} {at x b : ℕ} → true ≡ ltb at (length bytes) → x ≡ get_or bytes at x → b ≡ x → There bytes at b
there {bytes} {at} {x} h e f =
    let l = ltb-true at (length bytes) (sym h) in
    record { low = l; is = f ∙ e ∙ get_or_default bytes at x 0 l }

-- READING. A group b in front of others.
above_more : (low scale at b : ℕ) (r : Read ℕ) → 128 ≤ b → above low scale at (onward r (λ n size. when eqb n 0 then bad else got (b - 128 + 128 * n) (suc size))) ≡ above (low + scale * (b - 128)) (scale * 128) (at + 1) r
unfolding above onward when◌then◌else◌
above_more low scale at b bad h = refl
above_more low scale at b (got n size) h =
    split (eqb n 0) (λ z. rw z)
    (λ z.
    let g : n ≡ 0 → ⊥ = eqb-false n 0 z in
    let y : eqb (b - 128 + 128 * n) 0 ≡ false = ne_eqb (b - 128 + 128 * n) 0 (λ (q : b - 128 + 128 * n ≡ 0). g (omega arith)) in
    let v : low + scale * (b - 128 + 128 * n) ≡ low + scale * (b - 128) + scale * 128 * n = rw (mul-add scale (b - 128) (128 * n), mul_assoc scale 128 n) (omega arith) in
    let p : at + suc size ≡ at + 1 + size = omega arith in
    rw (z, y, v, p))

-- The loop: with i groups read, what is left to read, above their bits, is the whole answer.
pub record Following (bytes : List ℕ) (whole : Read ℕ) (value scale at i : ℕ) : Type 0 where
  pub left : above value scale at (parse (10 - i) (drop at bytes)) ≡ whole
  pub power : scale ≡ 128 ^ i
  pub low : value < scale
  pub few : i ≤ 9

pub following_start : {bytes : List ℕ} {start low : ℕ} → low < 128 → Following bytes (followed low bytes start) low 128 start 1
unfolding followed
following_start h = record { left = refl; power = refl; low = h; few = omega arith }

module _ {bytes : List ℕ} {whole : Read ℕ} {value scale at i : ℕ} (inv : Following bytes whole value scale at i) where
  pub following_scale : i < 9 → scale ≤ 2 ^ 56
  following_scale h =
      let e = inv.power in
      let l : i ≤ 8 = omega arith in
      let g : 128 ^ i ≤ 128 ^ 8 = pow-le-pow_right (omega arith) l in
      omega arith

  pub following_ninth : 9 ≤ i → scale ≡ 2 ^ 63
  following_ninth h =
      let f = inv.few in
      let e : i ≡ 9 = omega arith in
      inv.power ∙ rw e

  -- the bits of one group more
  pub following_small : (b : ℕ) → b < 128 → i < 9 → value + scale * b < 2 ^ 63
  following_small b h l =
      let s = following_scale l in
      let g : scale * b ≤ scale * 127 = mul-le-mul_left scale (omega arith) in
      let u = inv.low in
      omega arith

  pub following_cut : length bytes ≤ at → whole ≡ bad
  unfolding above parse onward
  following_cut h =
      let f = inv.few in
      let e : 10 - i ≡ suc (9 - i) = omega arith in
      sym (rw (e, drop_of_length-le bytes h) at inv.left)

  -- the group b that stands there
  module _ {b : ℕ} (there : at < length bytes) (is : b ≡ get_or bytes at 0) where
    seen : above value scale at (when ltb b 128 then got b 1 else onward (parse (9 - i) (drop (at + 1) bytes)) (λ n size. when eqb n 0 then bad else got (b - 128 + 128 * n) (suc size))) ≡ whole
    unfolding parse
    seen =
        let f = inv.few in
        let e : 10 - i ≡ suc (9 - i) = omega arith in
        rw (is, add-one) (rw (e, drop-cons bytes at 0 there) at inv.left)

    pub following_zero : b ≡ 0 → whole ≡ bad
    unfolding above onward when◌then◌else◌
    following_zero h = sym (rw h at seen)

    last : b < 128 → (b ≡ 0 → ⊥) → (when ltb (value + scale * b) (2 ^ 64) then got (value + scale * b) (at + 1) else bad) ≡ whole
    unfolding above onward when◌then◌else◌
    last h n = rw (lt-ltb b 128 h, ne_eqb b 0 n) at seen

    pub following_last : b < 128 → (b ≡ 0 → ⊥) → i < 9 → whole ≡ got (value + scale * b) (at + 1)
    unfolding when◌then◌else◌
    following_last h n l =
        let t : ltb (value + scale * b) (2 ^ 64) ≡ true = lt-ltb (value + scale * b) (2 ^ 64) (omega (arith, following_small b h l)) in
        sym (rw t at (last h n))

    pub following_more : 128 ≤ b → b < 256 → i < 9 → Following bytes whole (value + scale * (b - 128)) (scale * 128) (at + 1) (i + 1)
    unfolding when◌then◌else◌
    following_more h u l =
        let e : 10 - (i + 1) ≡ 9 - i = omega arith in
        let s = inv.power in
        let q : i + 1 ≡ suc i = omega arith in
        let g : scale * (b - 128) ≤ scale * 127 = mul-le-mul_left scale (omega arith) in
        let o = inv.low in
        record {
          left = rw (e, ← above_more value scale at b (parse (9 - i) (drop (at + 1) bytes)) h) (rw (le-ltb b 128 h) at seen);
          power = rw (s, q) (sym (pow-suc 128 i));
          low = omega arith;
          few = omega arith;
        }

    -- the tenth group
    pub following_one : b ≡ 1 → 9 ≤ i → whole ≡ got (value + scale) (at + 1)
    unfolding when◌then◌else◌
    following_one h l =
        let a : scale * 1 ≡ scale = omega arith in
        let c = following_ninth l in
        let o = inv.low in
        let t : ltb (value + scale) (2 ^ 64) ≡ true = lt-ltb (value + scale) (2 ^ 64) (omega arith) in
        sym (rw (h, a, t) at (last (omega arith) (λ (z : b ≡ 0). omega arith)))

    pub following_over : (b ≡ 1 → ⊥) → 9 ≤ i → whole ≡ bad
    unfolding when◌then◌else◌ above onward parse
    following_over n l =
        let c = following_ninth l in
        let f = inv.few in
        let e : 9 - i ≡ 0 = omega arith in
        split (ltb b 128)
        (λ h. split (eqb b 0) (λ z. following_zero (eqb-true b 0 z))
        (λ z.
        let g : b ≡ 0 → ⊥ = eqb-false b 0 z in
        let big : 2 ≤ b = omega (arith, g, n) in
        let d : scale * 2 ≤ scale * b = mul-le-mul_left scale big in
        let t : ltb (value + scale * b) (2 ^ 64) ≡ false = le-ltb (value + scale * b) (2 ^ 64) (omega arith) in
        sym (rw t at (last (ltb-true b 128 h) g))))
        (λ h. sym (rw (h, e) at seen))

-- The first group.
module _ (bytes : List ℕ) (at : ℕ) where
  pub first_cut : length bytes ≤ at → number_at bytes at ≡ bad
  unfolding number_at parse onward
  first_cut h = rw (drop_of_length-le bytes h)

  module _ {b : ℕ} (there : at < length bytes) (is : b ≡ get_or bytes at 0) where
    pub first_last : b < 128 → number_at bytes at ≡ got b (at + 1)
    unfolding number_at parse onward when◌then◌else◌
    first_last h =
        let t : ltb (get_or bytes at 0) 128 ≡ true = lt-ltb (get_or bytes at 0) 128 (omega arith) in
        let u : ltb (get_or bytes at 0) (2 ^ 64) ≡ true = lt-ltb (get_or bytes at 0) (2 ^ 64) (omega arith) in
        rw (drop-cons bytes at 0 there, t, u, is)

    others : (r : Read ℕ) → above (b - 128) 128 (at + 1) r ≡ onward (onward r (λ n size. when eqb n 0 then bad else got (b - 128 + 128 * n) (suc size))) (λ n size. when ltb n (2 ^ 64) then got n (at + size) else bad)
    unfolding above onward when◌then◌else◌
    others bad = refl
    others (got n size) = split (eqb n 0) (λ z. rw z) (λ z. let p : at + suc size ≡ at + 1 + size = omega arith in rw (z, p))

    pub first_more : 128 ≤ b → followed (b - 128) bytes (at + 1) ≡ number_at bytes at
    unfolding followed number_at parse when◌then◌else◌
    first_more h =
        let t : ltb (get_or bytes at 0) 128 ≡ false = le-ltb (get_or bytes at 0) 128 (omega arith) in
        others (parse 9 (drop (at + 1) bytes)) ∙ rw (drop-cons bytes at 0 there, t, add-one, is)

-- COUNTING AND WRITING. The groups of what is left of a number, with k more behind the next.
groups_last : (k n : ℕ) → n < 128 → groups (suc k) n ≡ n ∷ []
unfolding groups when◌then◌else◌
groups_last k n h = rw (lt-ltb n 128 h)

groups_more : (k n : ℕ) → 128 ≤ n → groups (suc k) n ≡ (n % 128 + 128) ∷ groups k (n / 128)
unfolding groups when◌then◌else◌
groups_more k n h = rw (le-ltb n 128 h)

one_more : (k n : ℕ) → 128 ≤ n → n < 128 ^ suc k → (k ≡ 0 → ⊥) × (n / 128 < 128 ^ k)
one_more zero n h g = absurd (omega (arith, g))
one_more (suc k) n h g =
    let e : 128 ^ suc (suc k) ≡ 128 ^ suc k * 128 = pow-suc 128 (suc k) in
    ((λ (z : suc k ≡ 0). omega arith), omega arith)

-- The loop that counts: with size groups so far, the last of which is of rest.
pub record Counting (n size rest : ℕ) : Type 0 where
  pub k : ℕ
  pub left : size + length (groups (suc k) rest) ≡ suc (length (leb128 n))
  pub fits : rest < 128 ^ suc k
  pub few : size + k ≡ 10

pub counting_start : {n : ℕ} → n < 2 ^ 64 → Counting n 1 n
unfolding leb128
counting_start h = record { k = 9; left = omega arith; fits = omega arith; few = refl }

module _ {n size rest : ℕ} (inv : Counting n size rest) where
  pub counting_more : 128 ≤ rest → Counting n (size + 1) (rest / 128)
  counting_more h =
      let a = one_more inv.k rest h inv.fits in
      let z = a.0 in
      let e : inv.k ≡ suc (inv.k - 1) = omega (arith, z) in
      let l = rw (groups_more inv.k rest h) at inv.left in
      let f = inv.few in
      record { k = inv.k - 1; left = rw (← e) (omega arith); fits = rw (← e) a.1; few = omega (arith, z) }

  pub counting_end : rest < 128 → size ≡ length (leb128 n)
  counting_end h =
      let l = rw (groups_last inv.k rest h) at inv.left in
      omega arith

-- The loop that writes: what is left is written at a place of a list, which is then the whole answer, up to an end.
pub record Writing (whole : List ℕ) (end : ℕ) (list : List ℕ) (place rest : ℕ) : Type 0 where
  pub k : ℕ
  pub left : splice list place (groups (suc k) rest) ≡ whole
  pub fits : rest < 128 ^ suc k
  pub size : place + length (groups (suc k) rest) ≡ end
  pub room : end ≤ length list

pub writing_start : {list : List ℕ} {at n : ℕ} → n < 2 ^ 64 → at + length (leb128 n) ≤ length list → Writing (splice list at (leb128 n)) (at + length (leb128 n)) list at n
unfolding leb128
writing_start h r = record { k = 9; left = refl; fits = omega arith; size = refl; room = r }

module _ {whole : List ℕ} {end : ℕ} {list : List ℕ} {place rest : ℕ} (inv : Writing whole end list place rest) where
  -- there is room for a group
  pub writing_below : place < end
  writing_below =
      let s = inv.size in
      let g = groups_some inv.k rest in
      omega arith

  pub writing_room : place < length list
  writing_room =
      let b = writing_below in
      let r = inv.room in
      omega arith

  pub writing_more : 128 ≤ rest → Writing whole end (set list place (rest % 128 + 128)) (place + 1) (rest / 128)
  writing_more h =
      let b = rest % 128 + 128 in
      let gs = groups inv.k (rest / 128) in
      let a = one_more inv.k rest h inv.fits in
      let z = a.0 in
      let e : inv.k ≡ suc (inv.k - 1) = omega (arith, z) in
      let g = groups_more inv.k rest h in
      let s : place + length (b ∷ gs) ≡ end = rw g at inv.size in
      let r = inv.room in
      let m = splice_more list place (b ∷ []) gs (place + 1) refl (omega arith) in
      record {
        k = inv.k - 1;
        left = rw (← e, splice_one list place b (omega arith)) (m ∙ (rw g at inv.left));
        fits = rw (← e) a.1;
        size = rw (← e) (omega arith);
        room = rw (length-set list place b) r;
      }

  pub writing_last : rest < 128 → set list place rest ≡ whole
  writing_last h = splice_one list place rest writing_room ∙ (rw (groups_last inv.k rest h) at inv.left)

  pub writing_end : rest < 128 → place + 1 ≡ end
  writing_end h = rw (groups_last inv.k rest h) at inv.size
