-- The tests of numbers, from the code's to the definition's (specs/Tests); and an event's numbers in the call that has nothing else, and in any.
use Rattle.std.specs.Prelude.{◌≡◌, Bool, true, false, ◌&&◌, List, [], ◌∷◌, ◌++◌, ℕ, length, get_or, take, drop}
use Rattle.std.proofs.Math.Path.{refl, subst}
use Rattle.std.proofs.Common.{sym, ap, ◌∙◌}
use Rattle.laws.specs.Bool.{◌and◌}
use Rattle.laws.specs.Every.{every}
use Rattle.laws.specs.Rows.{rows, rows_all}
use Rattle.host.specs.Layout as layout
use Rattle.host.specs.Read.{Field, number, field_fits, all_fit, event_fields, call_fits, event_call, event_fits}
use Rattle.host.specs.Tests.{fits_each}
pub use Rattle.host.specs.Tests.{gathered}

pub each_fits : (numbers : List ℕ) (field : Field) (fields : List Field) → gathered (field_fits numbers) (field_fits numbers field) fields ≡ all_fit numbers (field ∷ fields)
each_fits numbers field fields = sym (fits_each numbers field fields)

and_true : (b : Bool) → (b && true) ≡ b
and_true true = refl
and_true false = refl

-- Its fields behind the first, but for the count of answers, which stands behind it.
abbrev own_fields : List Field
own_fields = take 15 (drop 1 event_fields)

module _ (ns : List ℕ) (long : length ns ≡ layout.event_length) where
  abbrev each : List ℕ
  each = rows (λ i. get_or ns i 0) 0 layout.event_length

  unfoldable pub tested : Bool
  tested = gathered (field_fits (event_call each)) (field_fits (event_call each) (number layout.call_event_id)) own_fields

  with_answered : (tested && true) ≡ all_fit (event_call each) event_fields
  unfolding tested event_call rows
  with_answered = each_fits (event_call each) (number layout.call_event_id) (own_fields ++ (number layout.call_answered ∷ []))

  others : ((all_fit (event_call each) event_fields && true) && true) ≡ event_fits each
  unfolding call_fits all_fit every event_call rows ◌and◌
  others = refl

  pub event_tested : tested ≡ event_fits ns
  event_tested =
      sym (and_true tested) ∙ with_answered ∙ sym (and_true (all_fit (event_call each) event_fields)) ∙ sym (and_true (all_fit (event_call each) event_fields && true)) ∙ others
      ∙ ap event_fits (rows_all 0 ns layout.event_length long)

-- The fields of a call's event are those of its numbers by themselves, and the count of answers.
module _ (c : List ℕ) (long : length c ≡ layout.call_length) where
  abbrev all : List ℕ
  all = rows (λ i. get_or c i 0) 0 layout.call_length

  abbrev event_in : List ℕ → List ℕ
  event_in ns = take layout.event_length (drop layout.call_sequence ns)

  wide : length (event_in all) ≡ layout.event_length
  unfolding rows
  wide = refl

  in_all : (tested (event_in all) wide && field_fits all (number layout.call_answered)) ≡ all_fit all event_fields
  unfolding tested event_call rows
  in_all = each_fits all (number layout.call_event_id) (own_fields ++ (number layout.call_answered ∷ []))

  beside : (a b d : Bool) → ((a && b) && d) ≡ (a && (b && d))
  beside true b d = refl
  beside false b d = refl

  pub event_in_call : (before : Bool) → ((before && event_fits (event_in c)) && field_fits c (number layout.call_answered)) ≡ (before && all_fit c event_fields)
  event_in_call before =
      subst (λ ns. ((before && event_fits (event_in ns)) && field_fits ns (number layout.call_answered)) ≡ (before && all_fit ns event_fields)) (rows_all 0 c layout.call_length long)
      (beside before (event_fits (event_in all)) (field_fits all (number layout.call_answered)) ∙ ap (λ b. before && (b && field_fits all (number layout.call_answered))) (sym (event_tested (event_in all) wide)) ∙ ap (λ b. before && b) in_all)
