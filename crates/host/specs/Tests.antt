-- Tests of numbers as the code makes them: the fields one by one, strictly and from the left.
use Rattle.std.specs.Prelude.{◌≡◌, Bool, ◌&&◌, List, [], ◌∷◌, ℕ}
use Rattle.std.proofs.Math.Path.{sym}
use Rattle.std.proofs.Common.{◌∙◌}
use Rattle.laws.specs.Bool.{◌and◌, and_true, strict_and, and_left}
use Rattle.laws.specs.Every.{every}
use Rattle.host.specs.Read.{Field, field_fits, all_fit}

abbrev pub gathered : {A : Type 0} → (A → Bool) → Bool → List A → Bool
gathered p b [] = b
gathered p b (x ∷ xs) = gathered p (b && p x) xs

gathered_every : {A : Type 0} (p : A → Bool) (b : Bool) (xs : List A) → gathered p b xs ≡ b and every p xs
unfolding every
gathered_every p b [] = and_true b
gathered_every p b (x ∷ xs) = gathered_every p (b && p x) xs ∙ rw (← strict_and) (sym (and_left b (p x) (every p xs)))

pub fits_each : (numbers : List ℕ) (field : Field) (fields : List Field) → all_fit numbers (field ∷ fields) ≡ gathered (field_fits numbers) (field_fits numbers field) fields
unfolding all_fit every
fits_each numbers field fields = sym (gathered_every (field_fits numbers) (field_fits numbers field) fields)
