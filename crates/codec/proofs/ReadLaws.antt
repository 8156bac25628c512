-- What was read by one read behind another.
use Rattle.std.specs.Prelude.{◌≡◌, refl, ℕ}
use Rattle.codec.specs.Read.{Read, got, bad, onward}
use Rattle.codec.proofs.ExactLaws.{not_bad}

-- The first read gave a value, and with it the second gave what was read.
pub record BothRead {A B : Type 0} (first : Read A) (more : A → ℕ → Read B) (x : B) (next : ℕ) : Type 0 where
  pub value : A
  pub place : ℕ
  pub one : first ≡ got value place
  pub two : more value place ≡ got x next

pub both_read : {A B : Type 0} (first : Read A) (more : A → ℕ → Read B) {x : B} {next : ℕ} → onward first more ≡ got x next → BothRead first more x next
unfolding onward
both_read bad more e = not_bad e
both_read (got y p) more e = record { value = y; place = p; one = refl; two = e }
