-- Tests of numbers.
use Rattle.std.specs.Prelude.{◌≡◌, false, ℕ, ◌+◌, ◌-◌, eqb}
use Rattle.std.proofs.Common.{sym, ◌∙◌, arith, eq-eqb, ne_eqb, eqb-true}
use Rattle.std.proofs.lemmas.Bool.{eqb-false}
use Rattle.laws.specs.Bool.{split}

-- s is one more than l, without a sum
pub eqb_next : (s l : ℕ) → (s ≡ 0 → ⊥) → eqb (s - 1) l ≡ eqb s (l + 1)
eqb_next s l h =
    split (eqb (s - 1) l) (λ e. e ∙ sym (eq-eqb s (l + 1) (let z = eqb-true (s - 1) l e in omega arith)))
    (λ e. e ∙ sym (ne_eqb s (l + 1) (λ q. eqb-false (s - 1) l e (omega arith))))

pub zero_next : (s l : ℕ) → s ≡ 0 → false ≡ eqb s (l + 1)
zero_next s l h = sym (ne_eqb s (l + 1) (λ e. omega arith))
