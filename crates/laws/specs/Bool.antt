-- Tests and cases.
use Rattle.std.specs.Prelude.{◌≡◌, refl, Bool, true, false, not, ◌&&◌, ◌||◌}
use Rattle.std.proofs.Common.{sym, ◌∙◌}
use borrow.Author.Tests.{le-ltb, lt-ltb, le-leb, lt-leb, eq-eqb, ne_eqb}
use Rattle.std.proofs.lemmas.Bool.{false≢true, not-true, not-false}

infix 20 when◌then◌else◌
unfoldable pub when◌then◌else◌ : {A : Type 0} → Bool → A → A → A
when◌then◌else◌ true a b = a
when◌then◌else◌ false a b = b

infixr 35 ◌and◌
unfoldable pub ◌and◌ : Bool → Bool → Bool
◌and◌ true b = b
◌and◌ false b = false

infixr 30 ◌or◌
unfoldable pub ◌or◌ : Bool → Bool → Bool
◌or◌ true b = true
◌or◌ false b = b

-- By the two values of a test.
pub split : {G : Type 0} (b : Bool) → (b ≡ true → G) → (b ≡ false → G) → G
split true p q = p refl
split false p q = q refl

-- Both of two, and neither of two.
pub both : (a b : Bool) → a and b ≡ true → (a ≡ true) × (b ≡ true)
unfolding ◌and◌
both true b e = (refl, e)
both false b e = absurd (false≢true e)

pub join : (a b : Bool) → a ≡ true → b ≡ true → a and b ≡ true
unfolding ◌and◌
join true b e f = f
join false b e f = absurd (false≢true e)

pub neither : (a b : Bool) → a or b ≡ false → (a ≡ false) × (b ≡ false)
unfolding ◌or◌
neither true b e = absurd (false≢true (sym e))
neither false b e = (refl, e)

-- With what changes nothing.
pub and_true : (a : Bool) → a ≡ a and true
unfolding ◌and◌
and_true true = refl
and_true false = refl

pub or_false : (a : Bool) → a ≡ a or false
unfolding ◌or◌
or_false true = refl
or_false false = refl

-- The code's `&` and `|` are strict, and group from the left.
pub strict_and : (a b : Bool) → a and b ≡ (a && b)
unfolding ◌and◌
strict_and true b = refl
strict_and false b = refl

pub strict_or : (a b : Bool) → a or b ≡ (a || b)
unfolding ◌or◌
strict_or true b = refl
strict_or false b = refl

pub and_left : (a b c : Bool) → a and (b and c) ≡ (a and b) and c
unfolding ◌and◌
and_left true b c = refl
and_left false b c = refl

-- A test b of a part a: it passes and the rest x is left, or it ends there.
pub passed : {a b : Bool} → b ≡ a → not b ≡ false → (x : Bool) → (a and x) ≡ x
unfolding ◌and◌
passed {a} {b} e h x = let t : a ≡ true = sym e ∙ not-false b h in rw t

pub stopped : {a b : Bool} → b ≡ a → not b ≡ true → (x : Bool) → false ≡ (a and x)
unfolding ◌and◌
stopped {a} {b} e h x = let t : a ≡ false = sym e ∙ not-true b h in rw t

-- A conditional whose test is known.
pub if_true : {A : Type 0} (b : Bool) (x y : A) → b ≡ true → (when b then x else y) ≡ x
unfolding when◌then◌else◌
if_true true x y e = refl
if_true false x y e = absurd (false≢true e)

pub if_false : {A : Type 0} (b : Bool) (x y : A) → b ≡ false → (when b then x else y) ≡ y
unfolding when◌then◌else◌
if_false true x y e = absurd (false≢true (sym e))
if_false false x y e = refl

-- What the code's tests of numbers come to, and the branches that they take.
pub ruleset deciding = (if_true, if_false, le-ltb, lt-ltb, le-leb, lt-leb, eq-eqb, ne_eqb, strict_and)

-- What holds of both sides, by the value of the test.
pub either : {A : Type 0} (P : A → Type 0) (b : Bool) {x y : A} → (b ≡ true → P x) → (b ≡ false → P y) → P (when b then x else y)
unfolding when◌then◌else◌
either P true f g = f refl
either P false f g = g refl

-- Not both, and the first: not the second.
pub implied : (a b : Bool) → a and b ≡ false → a ≡ true → b ≡ false
unfolding ◌and◌
implied true b e h = e
implied false b e h = absurd (false≢true h)
