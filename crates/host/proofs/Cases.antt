-- What a passed test says of numbers, and numbers that pass it.
use Rattle.std.specs.Prelude.{◌≡◌, Bool, true, false, ◌&&◌, List, [], ◌∷◌, ◌++◌, ℕ, ◌^◌, ◌<◌, length, get_or, eqb, Option, Some, None}
use Rattle.std.proofs.Math.Path.{refl}
use Rattle.std.proofs.lemmas.Bool.{false≢true}
use Rattle.std.proofs.Common.{mod-eq_of_lt, arith}
use Rattle.std.proofs.Math.Nat.{mod-le}
use borrow.Author.Tests.{ltb-true, lt-ltb, eqb-true}
use Rattle.laws.specs.Bool.{when◌then◌else◌, split}
use Rattle.laws.specs.All.{All}
use Rattle.model.specs.declared.ErrorInfo.{ErrorInfo}
use Rattle.model.specs.declared.Output.{Output}
use Rattle.model.specs.Answers.{output_numbers, kept_numbers}
use Rattle.host.specs.Read.{at, narrow, error_of, output_of, kept_of, Field, field_fits, all_fit, output_fits, kept_fits}
use Rattle.host.specs.Fits.{Number, Name, Code, ErrorFits, OutputFits, KeptFits}
use Rattle.host.proofs.Lists.{all_at, every_all, all_every}

-- BOTH OF TWO, as the code's `&` joins them.
pub both_of : (a b : Bool) → (a && b) ≡ true → (a ≡ true) × (b ≡ true)
both_of true b e = (refl, e)
both_of false b e = absurd (false≢true e)

pub of_both : (a b : Bool) → a ≡ true → b ≡ true → (a && b) ≡ true
of_both true b e f = f
of_both false b e f = absurd (false≢true e)

-- THE LOWEST 32 BITS of a number of 32 bits are the number; of any number they are no more than it.
pub small : (x : ℕ) → x < 2 ^ 32 → narrow x ≡ x
unfolding narrow
small x h = mod-eq_of_lt h

pub name_small : (x : ℕ) → Name x → narrow x ≡ x
name_small x h = small x (omega arith)

pub code_small : (x : ℕ) → Code x → narrow x ≡ x
code_small x h = small x (omega arith)

pub narrow_below : (x : ℕ) {bound : ℕ} → x < bound → narrow x < bound
unfolding narrow
narrow_below x {bound} h = let m = mod-le x (2 ^ 32) in omega arith

-- FIELDS. Each is below its bound.
abbrev pub Below : List ℕ → Field → Type 0
Below numbers field = at numbers field.place < field.bound

module _ (numbers : List ℕ) (fields : List Field) where
  pub fields_below : all_fit numbers fields ≡ true → (n : ℕ) (d : Field) → n < length fields → Below numbers (get_or fields n d)
  unfolding all_fit
  fields_below e n d h = all_at (Below numbers) fields (every_all (field_fits numbers) (Below numbers) (λ field. ltb-true (at numbers field.place) field.bound) fields e) n d h

  pub below_fields : All (Below numbers) fields → all_fit numbers fields ≡ true
  unfolding all_fit
  below_fields a = all_every (field_fits numbers) (Below numbers) (λ field. lt-ltb (at numbers field.place) field.bound) fields a

-- AN OUTPUT: nothing, a handle or an error. A KEPT ERROR: none or one.
pub data OutputCase : (tag first second third : ℕ) → Type 0 where
  nothing : OutputCase 0 0 0 0
  handle : {x : ℕ} → Number x → OutputCase 1 x 0 0
  error : {a b c : ℕ} → Code a → Name b → Number c → OutputCase 2 a b c

pub data KeptCase : (tag first second third : ℕ) → Type 0 where
  nothing : KeptCase 0 0 0 0
  error : {a b c : ℕ} → Code a → Name b → Number c → KeptCase 1 a b c

-- three tests in a row
all_three : (a b c : Bool) → (a && b && c) ≡ true → (a ≡ true) × (b ≡ true) × (c ≡ true)
all_three true true true e = (refl, refl, refl)
all_three true true false e = absurd (false≢true e)
all_three true false c e = absurd (false≢true e)
all_three false b c e = absurd (false≢true e)

module _ (t a b c : ℕ) where
  pub output_case : output_fits t a b c ≡ true → OutputCase t a b c
  unfolding output_fits when◌then◌else◌
  output_case e =
      split (eqb t 0)
      (λ h.
      let p = all_three _ _ _ (rw h at e) in
      rw (eqb-true t 0 h, eqb-true a 0 p.0, eqb-true b 0 p.1, eqb-true c 0 p.2) nothing)
      (λ g. split (eqb t 1)
      (λ h.
      let p = all_three _ _ _ (rw (g, h) at e) in
      rw (eqb-true t 1 h, eqb-true b 0 p.1, eqb-true c 0 p.2) (handle (ltb-true a (2 ^ 32) p.0)))
      (λ h.
      let q = both_of _ _ (rw (g, h) at e) in
      let p = all_three _ _ _ q.1 in
      rw (eqb-true t 2 q.0) (error (ltb-true a 65536 p.0) (ltb-true b 256 p.1) (ltb-true c (2 ^ 32) p.2))))

  pub kept_case : kept_fits t a b c ≡ true → KeptCase t a b c
  unfolding kept_fits when◌then◌else◌
  kept_case e =
      split (eqb t 0)
      (λ h.
      let p = all_three _ _ _ (rw h at e) in
      rw (eqb-true t 0 h, eqb-true a 0 p.0, eqb-true b 0 p.1, eqb-true c 0 p.2) nothing)
      (λ h.
      let q = both_of _ _ (rw h at e) in
      let p = all_three _ _ _ q.1 in
      rw (eqb-true t 1 q.0) (error (ltb-true a 65536 p.0) (ltb-true b 256 p.1) (ltb-true c (2 ^ 32) p.2)))

error_read : (a b c : ℕ) → Code a → Name b → Number c → ErrorFits (error_of a b c)
unfolding error_of
error_read a b c f g h = record { code = narrow_below a f; node = narrow_below b g; detail = narrow_below c h }

-- Numbers that fit are read and written again without loss, and what is read fits.
pub output_again : {t a b c : ℕ} → OutputCase t a b c → output_numbers (output_of t a b c) ≡ t ∷ a ∷ b ∷ c ∷ []
unfolding output_of output_numbers error_of when◌then◌else◌
output_again nothing = refl
output_again (handle {x} h) = rw (small x h)
output_again (error {a} {b} {c} f g h) = rw (code_small a f, name_small b g, small c h)

pub kept_again : {t a b c : ℕ} → KeptCase t a b c → kept_numbers (kept_of t a b c) ≡ t ∷ a ∷ b ∷ c ∷ []
unfolding kept_of kept_numbers error_of when◌then◌else◌
kept_again nothing = refl
kept_again (error {a} {b} {c} f g h) = rw (code_small a f, name_small b g, small c h)

pub output_read : {t a b c : ℕ} → OutputCase t a b c → OutputFits (output_of t a b c)
unfolding output_of when◌then◌else◌
output_read nothing = tt
output_read (handle {x} h) = narrow_below x h
output_read (error {a} {b} {c} f g h) = error_read a b c f g h

pub kept_read : {t a b c : ℕ} → KeptCase t a b c → KeptFits (kept_of t a b c)
unfolding kept_of when◌then◌else◌
kept_read nothing = tt
kept_read (error {a} {b} {c} f g h) = error_read a b c f g h

-- An output or a kept error that fits: its numbers fit.
module _ (rest : List ℕ) where
  pub output_fit : (x : Output) → OutputFits x → output_fits (at (output_numbers x ++ rest) 0) (at (output_numbers x ++ rest) 1) (at (output_numbers x ++ rest) 2) (at (output_numbers x ++ rest) 3) ≡ true
  unfolding output_fits output_numbers when◌then◌else◌
  output_fit Output.Nothing f = refl
  output_fit (Output.Handle x) f = rw (lt-ltb x (2 ^ 32) f)
  output_fit (Output.Error e) f = rw (lt-ltb e.code 65536 f.code, lt-ltb e.node 256 f.node, lt-ltb e.detail (2 ^ 32) f.detail)

  pub kept_fit : (x : Option ErrorInfo) → KeptFits x → kept_fits (at (kept_numbers x ++ rest) 0) (at (kept_numbers x ++ rest) 1) (at (kept_numbers x ++ rest) 2) (at (kept_numbers x ++ rest) 3) ≡ true
  unfolding kept_fits kept_numbers when◌then◌else◌
  kept_fit None f = refl
  kept_fit (Some e) f = rw (lt-ltb e.code 65536 f.code, lt-ltb e.node 256 f.node, lt-ltb e.detail (2 ^ 32) f.detail)
