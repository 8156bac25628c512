-- What is listed, in the code's arrays.
use Rattle.std.specs.Option.{is_some}
use Rattle.std.specs.Prelude.{◌≡◌, Option, Some, None, true, false, map, set}
use Rattle.std.proofs.Math.Path.{sym, ap}
use Rattle.std.proofs.Common.{◌∙◌}
use Rattle.std.proofs.lemmas.Bool.{false≢true}
use Rattle.std.proofs.lemmas.List.{length-map}
use mathlib.Core.List.{List, [], ◌∷◌, ◌++◌, map-append}
use Prim.Native.Nat.{ℕ, ◌+◌, ◌≤◌, ◌<◌}
use native.Mathlib.Omega.{arith}
use Rattle.std.proofs.Math.ListN.{length, length-append}
use Rattle.laws.specs.Listing.{padded, set_padded, splice_padded}
use Rattle.laws.specs.Splice.{splice}
use Rattle.kernel.specs.declared.listed.Listed.{Listed}
use Rattle.kernel.specs.Code.{list_room}
use Rattle.kernel.specs.Cost.{takes}
use Rattle.kernel.specs.Drive.{added}
use Rattle.kernel.specs.Listed.{listed}

-- There is room for what is said.
pub said_room : {A : Type 0} {n : ℕ} (o : Option A) → is_some o ≡ true → n + takes o ≤ 65 → n < 65
unfolding takes
said_room None h r = absurd (false≢true h)
said_room (Some x) h r = omega arith

module _ {A : Type 0} (l : Listed A) (xs : List A) (is : l ≡ listed xs) where
  -- It is counted.
  pub counted_is : l.count ≡ length xs
  unfolding listed
  counted_is = ap (λ (k : Listed A). k.count) is

  -- Nothing is said.
  pub added_none : (o : Option A) → is_some o ≡ false → l ≡ listed (added xs o)
  unfolding added
  added_none None h = is
  added_none (Some x) h = absurd (false≢true (sym h))

  -- Something is said.
  pub added_some : (o : Option A) → is_some o ≡ true → l.count + takes o ≤ 65 → record { rows = set l.rows l.count o; count = l.count + 1 } ≡ listed (added xs o)
  unfolding added takes listed
  added_some None h r = absurd (false≢true h)
  added_some (Some x) h r =
      let n : length (map Some xs) ≡ length xs = length-map xs Some in
      let e : set (padded list_room None (map Some xs)) (length xs) (Some x) ≡ padded list_room None (map Some xs ++ (Some x ∷ [])) =
      ap (λ j. set (padded list_room None (map Some xs)) j (Some x)) (sym n) ∙ set_padded None list_room (map Some xs) (Some x) (omega (arith, counted_is)) in
      rw (is, map-append, length-append, e)

  -- More is said.
  pub listed_more : (more : List (Option A)) (ys : List A) → more ≡ map Some ys → l.count + length more ≤ 65 → record { rows = splice l.rows l.count more; count = l.count + length more } ≡ listed (xs ++ ys)
  unfolding listed
  listed_more more ys h r =
      let n : length (map Some xs) ≡ length xs = length-map xs Some in
      let k : length (map Some ys) ≡ length ys = length-map ys Some in
      let m : length more ≡ length ys = ap length h ∙ k in
      let e : splice (padded list_room None (map Some xs)) (length xs) (map Some ys) ≡ padded list_room None (map Some xs ++ map Some ys) =
      ap (λ j. splice (padded list_room None (map Some xs)) j (map Some ys)) (sym n) ∙ splice_padded None list_room (map Some xs) (map Some ys) (omega (arith, counted_is)) in
      rw (is, m, h, map-append, length-append, e)
