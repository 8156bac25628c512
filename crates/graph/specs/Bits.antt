-- Sets of numbers as one number: what a digit says.
use Rattle.std.specs.Prelude.{◌≡◌, refl, Bool, true, false, ◌⊎◌, ℕ, zero, suc, ◌+◌, ◌*◌, ◌/◌, ◌%◌, ◌^◌, ◌≤◌, ◌<◌, min, max, ltb, eqb}
use Rattle.std.proofs.Common.{sym, ap, ◌∙◌, inl, inr, pow-suc, div-one, arith, eq-eqb, ne_eqb, eqb-true, ltb-true, ltb-false}
use Rattle.std.proofs.lemmas.Bool.{false≢true, eqb-false}
use Rattle.std.proofs.Math.Nat.{pow-succ', div-div-eq-div-mul}
use Rattle.std.specs.Int.Bits.{bit_and, bit_or, and_step, or_step}
use Rattle.std.proofs.lemmas.Nat.{and_shr, or_shr}
use Rattle.laws.specs.Bool.{when◌then◌else◌, ◌and◌, ◌or◌, split}
use Rattle.graph.specs.Sets.{has, mark}

pub has_suc : (s n : ℕ) → has s (suc n) ≡ has (s / 2) n
has_suc s n = ap (λ (x : ℕ). eqb (x % 2) 1) (ap (λ (x : ℕ). s / x) (pow-succ' 2 n) ∙ sym (div-div-eq-div-mul s 2 (2 ^ n)))

pub has_zero : (s : ℕ) → has s 0 ≡ eqb (s % 2) 1
has_zero s = ap (λ (x : ℕ). eqb (x % 2) 1) (div-one s)

-- two digits, by cases
on_digits : (P : ℕ → ℕ → Type 0) → P 0 0 → P 0 1 → P 1 0 → P 1 1 → (x y : ℕ) → x < 2 → y < 2 → P x y
on_digits P a b c d zero zero h k = a
on_digits P a b c d zero (suc zero) h k = b
on_digits P a b c d (suc zero) zero h k = c
on_digits P a b c d (suc zero) (suc zero) h k = d
on_digits P a b c d zero (suc (suc y)) h k = absurd (omega arith)
on_digits P a b c d (suc zero) (suc (suc y)) h k = absurd (omega arith)
on_digits P a b c d (suc (suc x)) y h k = absurd (omega arith)

-- a digit of what an operation f on digits makes of two numbers, where g says of tests what f says of digits
module _ (op f : ℕ → ℕ → ℕ) (g : Bool → Bool → Bool) where
  abbrev Says : ℕ → ℕ → Type 0
  Says x y = (f x y < 2) × (eqb (f x y) 1 ≡ g (eqb x 1) (eqb y 1))

  has_op : ((a b : ℕ) → op a b ≡ op (a / 2) (b / 2) * 2 + f (a % 2) (b % 2)) → ((a b k : ℕ) → op a b / 2 ^ k ≡ op (a / 2 ^ k) (b / 2 ^ k))
      → Says 0 0 → Says 0 1 → Says 1 0 → Says 1 1 → (s u n : ℕ) → has (op s u) n ≡ g (has s n) (has u n)
  has_op step shr p q r t s u n =
      let a = s / 2 ^ n in
      let b = u / 2 ^ n in
      let w = on_digits Says p q r t (a % 2) (b % 2) (omega arith) (omega arith) in
      let e : op s u / 2 ^ n % 2 ≡ f (a % 2) (b % 2) = ap (λ (x : ℕ). x % 2) (shr s u n ∙ step a b) ∙ omega arith in
      rw e w.1

pub has_or : (s u n : ℕ) → has (bit_or s u) n ≡ (has s n or has u n)
unfolding ◌or◌
has_or = has_op bit_or max ◌or◌ or_step or_shr (omega arith, refl) (omega arith, refl) (omega arith, refl) (omega arith, refl)

pub has_and : (s u n : ℕ) → has (bit_and s u) n ≡ (has s n and has u n)
unfolding ◌and◌
has_and = has_op bit_and min ◌and◌ and_step and_shr (omega arith, refl) (omega arith, refl) (omega arith, refl) (omega arith, refl)

-- a digit of a power
pub has_none : (n : ℕ) → has 0 n ≡ false
has_none zero = refl
has_none (suc n) = has_suc 0 n ∙ has_none n

eqb_suc : (n t : ℕ) → eqb n t ≡ eqb (suc n) (suc t)
eqb_suc n t =
    split (eqb n t) (λ e. e ∙ sym (eq-eqb (suc n) (suc t) (ap suc (eqb-true n t e))))
    (λ e. e ∙ sym (ne_eqb (suc n) (suc t) (λ q. eqb-false n t e (omega arith))))

pub has_power : (t n : ℕ) → has (2 ^ t) n ≡ eqb n t
has_power zero zero = refl
has_power zero (suc n) = has_suc 1 n ∙ has_none n ∙ sym (ne_eqb (suc n) 0 (λ q. omega arith))
has_power (suc t) zero =
    has_zero (2 ^ suc t) ∙ ne_eqb (2 ^ suc t % 2) 1 (λ q. omega (arith, pow-suc 2 t)) ∙ sym (ne_eqb 0 (suc t) (λ q. omega arith))
has_power (suc t) (suc n) =
    let e : 2 ^ suc t / 2 ≡ 2 ^ t = omega (arith, pow-suc 2 t) in
    has_suc (2 ^ suc t) n ∙ ap (λ (x : ℕ). has x n) e ∙ has_power t n ∙ eqb_suc n t

pub has_mark : (s t n : ℕ) → has (mark s t) n ≡ (has s n or eqb n t)
has_mark s t n = has_or s (2 ^ t) n ∙ ap (λ (x : Bool). has s n or x) (has_power t n)

pub or_cases : (a c : Bool) → (a or c) ≡ true → (a ≡ true) ⊎ (c ≡ true)
unfolding ◌or◌
or_cases true c e = inl refl
or_cases false c e = inr e

pub or_left : (a c : Bool) → a ≡ true → (a or c) ≡ true
unfolding ◌or◌
or_left a c e = rw e

pub or_right : (a c : Bool) → c ≡ true → (a or c) ≡ true
unfolding ◌or◌
or_right true c e = refl
or_right false c e = e

pub lt_or_ge : (i k : ℕ) → (i < k) ⊎ (k ≤ i)
lt_or_ge i k = split (ltb i k) (λ e. inl (ltb-true i k e)) (λ e. inr (ltb-false i k e))

-- Equal digits, equal numbers.
digit : (s t : ℕ) → has s 0 ≡ has t 0 → s % 2 ≡ t % 2
digit s t e =
    on_digits (λ x y. eqb x 1 ≡ eqb y 1 → x ≡ y) (λ e. refl) (λ e. absurd (false≢true e)) (λ e. absurd (false≢true (sym e))) (λ e. refl)
    (s % 2) (t % 2) (omega arith) (omega arith) (sym (has_zero s) ∙ e ∙ has_zero t)

pub same_set : (k s t : ℕ) → s < 2 ^ k → t < 2 ^ k → ((n : ℕ) → n < k → has s n ≡ has t n) → s ≡ t
same_set zero s t h g e = omega arith
same_set (suc k) s t h g e =
    omega (
      arith,
      digit s t (e 0 (omega arith)),
      same_set k (s / 2) (t / 2) (omega (arith, pow-suc 2 k)) (omega (arith, pow-suc 2 k)) (λ n l. sym (has_suc s n) ∙ e (suc n) (omega arith) ∙ has_suc t n),
    )

-- One set within another, and how many of the numbers below k a set lacks.
abbrev pub Under : ℕ → ℕ → Type 0
Under s t = (n : ℕ) → has s n ≡ true → has t n ≡ true

unfoldable pub lacking : ℕ → ℕ → ℕ
lacking zero s = 0
lacking (suc k) s = (when has s k then 0 else 1) + lacking k s

pub lacking_le : (k s : ℕ) → lacking k s ≤ k
unfolding lacking when◌then◌else◌
lacking_le zero s = omega arith
lacking_le (suc k) s = split (has s k) (λ e. rw e (omega (arith, lacking_le k s))) (λ e. rw e (omega (arith, lacking_le k s)))

-- a larger set lacks no more, and where it lacks as many it is the same
lacking_under : (k s t : ℕ) → Under s t → lacking k t ≤ lacking k s
unfolding lacking when◌then◌else◌
lacking_under zero s t u = omega arith
lacking_under (suc k) s t u = go (has s k) (has t k) (u k) (lacking_under k s t u)
  where
    go : (b c : Bool) → (b ≡ true → c ≡ true) → lacking k t ≤ lacking k s → (when c then 0 else 1) + lacking k t ≤ (when b then 0 else 1) + lacking k s
    go true true h l = omega arith
    go true false h l = absurd (let p : false ≡ true = h refl in let z : ◌≡◌ {A = ℕ} 0 1 = cc in omega arith)
    go false true h l = omega arith
    go false false h l = omega arith

pub lacking_same : (k s t : ℕ) → Under s t → lacking k s ≤ lacking k t → (n : ℕ) → n < k → has s n ≡ has t n
unfolding lacking when◌then◌else◌
lacking_same zero s t u l n h = absurd (omega arith)
lacking_same (suc k) s t u l n h = go (has s k) (has t k) refl refl (u k) l (λ m g. lacking_same k s t u m n g)
  where
    last : has s k ≡ has t k → lacking k s ≤ lacking k t → (lacking k s ≤ lacking k t → n < k → has s n ≡ has t n) → has s n ≡ has t n
    last e m ih = split (ltb n k) (λ g. ih m (ltb-true n k g)) (λ g. let q : n ≡ k = omega (arith, ltb-false n k g) in rw q e)

    go : (b c : Bool) → has s k ≡ b → has t k ≡ c → (b ≡ true → c ≡ true) → (when b then 0 else 1) + lacking k s ≤ (when c then 0 else 1) + lacking k t
        → (lacking k s ≤ lacking k t → n < k → has s n ≡ has t n) → has s n ≡ has t n
    go true true p q h m ih = last (p ∙ sym q) (omega arith) ih
    go true false p q h m ih = absurd (let r : false ≡ true = h refl in let z : ◌≡◌ {A = ℕ} 0 1 = cc in omega arith)
    go false true p q h m ih = absurd (omega (arith, lacking_under k s t u))
    go false false p q h m ih = last (p ∙ sym q) (omega arith) ih
