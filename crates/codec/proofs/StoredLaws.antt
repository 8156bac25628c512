-- What an answer says of what was read.
use Rattle.std.specs.Prelude.{◌≡◌, refl, Option, Some, None, List, ℕ, length}
use Rattle.std.proofs.Common.{sym, ap, ◌∙◌, arith}
use Rattle.laws.specs.Splice.{splice}
use Rattle.codec.specs.declared.number.Number.{Number}
use Rattle.codec.specs.Read.{Read, got, bad}
use Rattle.codec.specs.Stored.{number_of, place_of, Stored}
use Rattle.codec.proofs.ExactLaws.{not_bad}

-- A value was read, and the next place is behind it.
pub record Got {A : Type 0} (read : Read A) (next : ℕ) : Type 0 where
  pub value : A
  pub is : read ≡ got value next

place_got : {A : Type 0} {next : ℕ} (r : Read A) → place_of r ≡ Some next → Got r next
unfolding place_of
place_got {A} {next} (got x p) e =
    let y : p ≡ next = cc in
    record { value = x; is = ap (got x) y }
place_got bad e = let z : ◌≡◌ {A = ℕ} 0 1 = cc in absurd (omega arith)

place_bad : {A : Type 0} (r : Read A) → place_of r ≡ None → r ≡ bad
unfolding place_of
place_bad (got x p) e = let z : ◌≡◌ {A = ℕ} 0 1 = cc in absurd (omega arith)
place_bad bad e = refl

number_got : {n : Number} (r : Read ℕ) → number_of r ≡ Some n → r ≡ got n.value n.next
unfolding number_of
number_got {n} (got m p) e =
    let k : Number = record { value = m; next = p } in
    let x : k ≡ n = cc in
    ap (λ (j : Number). got j.value j.next) x
number_got bad e = let z : ◌≡◌ {A = ℕ} 0 1 = cc in absurd (omega arith)

number_bad : (r : Read ℕ) → number_of r ≡ None → r ≡ bad
unfolding number_of
number_bad (got m p) e = let z : ◌≡◌ {A = ℕ} 0 1 = cc in absurd (omega arith)
number_bad bad e = refl

-- THE ANSWER z OF A CALL, AND WHAT IT IS.
module _ {A : Type 0} {r : Read A} {z : Option ℕ} (answer : z ≡ place_of r) where
  pub at_got : {next : ℕ} → z ≡ Some next → Got r next
  at_got e = place_got r (sym answer ∙ e)

  pub at_bad : z ≡ None → r ≡ bad
  at_bad e = place_bad r (sym answer ∙ e)

module _ {r : Read ℕ} {z : Option Number} (answer : z ≡ number_of r) where
  pub value_got : {n : Number} → z ≡ Some n → r ≡ got n.value n.next
  value_got e = number_got r (sym answer ∙ e)

  pub value_bad : z ≡ None → r ≡ bad
  value_bad e = number_bad r (sym answer ∙ e)

-- BAD BYTES.
pub bad_place : {A : Type 0} {r : Read A} → r ≡ bad → None ≡ place_of r
unfolding place_of
bad_place e = rw e

pub bad_stored : {r : Read (List ℕ)} {before : List ℕ} {first : ℕ} {after : List ℕ} → r ≡ bad → length after ≡ length before → Stored r before first after
bad_stored e long = record { is = λ ns next f. not_bad (sym e ∙ f); long = long }

pub bad_number : {r : Read ℕ} → r ≡ bad → None ≡ number_of r
unfolding number_of
bad_number e = rw e

-- WHAT WAS READ.
pub got_number : {r : Read ℕ} {n next : ℕ} → r ≡ got n next → Some (record { value = n; next = next }) ≡ number_of r
unfolding number_of
got_number e = rw e

pub got_place : {A : Type 0} {r : Read A} {x : A} {next : ℕ} → r ≡ got x next → Some next ≡ place_of r
unfolding place_of
got_place e = rw e

pub got_stored : {r : Read (List ℕ)} {before : List ℕ} {first : ℕ} {after ns : List ℕ} {next : ℕ} → r ≡ got ns next → after ≡ splice before first ns → length after ≡ length before → Stored r before first after
got_stored {r} {before} {first} {after} {ns} {next} e s long =
    record {
      is = λ ms q f.
          let g : got ns next ≡ got ms q = sym e ∙ f in
          let x : ns ≡ ms = cc in
          s ∙ ap (λ (ks : List ℕ). splice before first ks) x;
      long = long;
    }
