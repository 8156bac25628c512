-- A rule that applies to format 2.
use Rattle.std.specs.Prelude.{◌≡◌, refl, Bool, true, false, List, ℕ, Option, Some, None}
use Rattle.std.proofs.Math.Path.{sym}
use Rattle.std.proofs.Common.{◌∙◌}
use Rattle.std.proofs.lemmas.Bool.{false≢true}
use Rattle.laws.specs.Bool.{◌and◌}
use Rattle.laws.specs.Rows.{span}
use Rattle.laws.specs.In.{Hit, hit, miss, hits}
use Rattle.workflow.specs.View.{workflow}
use Rattle.workflow.specs.Lookup.{is_0_2}
use Rattle.graph.specs.Lowest.{lowest}

-- a rule that applies to format 2
none_passes : (m : ℕ) (p : ℕ → Bool) → ((n : ℕ) → p n ≡ false) → lowest m p ≡ None
none_passes m p h = by (hits p (λ _ n. Some n) None 0 (span (λ n. n) 0 m))
  where
    by : {x : Option ℕ} → Hit p (λ _ n. Some n) None (span (λ n. n) 0 m) x → x ≡ None
    by (hit j n i t) = absurd (false≢true (sym (h n) ∙ t))
    by (miss g) = refl

module _ (w : List ℕ) (p : ℕ → Bool) (m : ℕ) where
  pub in_0_2 : {t : Bool} {x : Option ℕ} → t ≡ is_0_2 (workflow w) → t ≡ true → x ≡ lowest m p → x ≡ lowest m (λ n. is_0_2 (workflow w) and p n)
  unfolding ◌and◌
  in_0_2 q h e = e ∙ rw (sym q ∙ h)

  pub in_0_1 : {t : Bool} → t ≡ is_0_2 (workflow w) → t ≡ false → None ≡ lowest m (λ n. is_0_2 (workflow w) and p n)
  unfolding ◌and◌
  in_0_1 q h = sym (none_passes m (λ n. is_0_2 (workflow w) and p n) (λ n. rw (sym q ∙ h)))
