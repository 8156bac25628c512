-- No value is read from bad bytes; bytes one behind another; and one shape behind another is exact if both are.
use Rattle.std.specs.Prelude.{◌≡◌, true, ℕ, ◌+◌, ◌≤◌}
use Rattle.std.proofs.Math.Path.{refl, sym, ap}
use Rattle.std.proofs.Common.{◌∙◌, drop-drop}
use mathlib.Core.List.{List, [], ◌∷◌, ◌++◌, flat_map, append_assoc}
use native.Mathlib.Omega.{arith}
use Rattle.std.proofs.Math.ListN.{length, take, drop, length-append, length-drop, take-append-drop}
use Rattle.std.proofs.Math.Seq.{length-take-le, take_at, drop_at}
use Rattle.laws.specs.Bool.{both, join}
use Rattle.codec.specs.Read.{Read, got, bad, onward}
use Rattle.codec.specs.Leb.{leb128}
use Rattle.codec.specs.Numbers.{bytes_of}
use Rattle.codec.specs.Stages.{Shape, beside}
use Rattle.codec.specs.Exact.{Bytes, IsRead, Exact}

-- No value is read from bad bytes.
pub not_bad : {A G : Type 0} {x : A} {p : ℕ} → bad ≡ got x p → G
not_bad {A} {G} {x} {p} e = let z : ◌≡◌ {A = ℕ} 0 1 = cc in absurd (omega arith)

pub bytes_append : (xs ys : List ℕ) → bytes_of (xs ++ ys) ≡ bytes_of xs ++ bytes_of ys
unfolding flat_map
bytes_append [] ys = refl
bytes_append (x ∷ xs) ys = rw (bytes_append xs ys) (sym (append_assoc (leb128 x) (bytes_of xs) (bytes_of ys)))

-- ONE SHAPE BEHIND ANOTHER.
module _ (one : Shape) (more : List ℕ → Shape) (width : ℕ) (first : Exact one) (second : (ns : List ℕ) → Exact (more ns)) (wide : (ns : List ℕ) → (more ns).width ≡ width) where
  abbrev both_shapes : Shape
  both_shapes = beside one more width

  long : (ns : List ℕ) → both_shapes.tidy ns ≡ true → length ns ≡ both_shapes.width
  unfolding beside
  long ns h =
      let t = both _ _ h in
      let a = first.long (take one.width ns) t.0 in
      let b = (second (take one.width ns)).long (drop one.width ns) t.1 in
      let w = wide (take one.width ns) in
      let e : length (take one.width ns ++ drop one.width ns) ≡ length ns = ap length (take-append-drop one.width ns) in
      let l = length-append (take one.width ns) (drop one.width ns) in
      omega arith

  few : (ns : List ℕ) → length ns ≡ both_shapes.width → length (both_shapes.fields ns) ≤ both_shapes.width
  unfolding beside
  few ns h =
      let n = length-take-le one.width ns (omega arith) in
      let d = length-drop one.width ns in
      let w = wide (take one.width ns) in
      let a = first.few (take one.width ns) n in
      let b = (second (take one.width ns)).few (drop one.width ns) (omega arith) in
      rw length-append (omega arith)

  back : (bytes rest ns : List ℕ) (at : ℕ) → both_shapes.tidy ns ≡ true → drop at bytes ≡ bytes_of (both_shapes.fields ns) ++ rest → both_shapes.read bytes at ≡ got ns (at + length (bytes_of (both_shapes.fields ns)))
  unfolding beside onward
  back bytes rest ns at h e =
      let t = both _ _ h in
      let xs = take one.width ns in
      let ys = drop one.width ns in
      let f = bytes_of (one.fields xs) in
      let g = bytes_of ((more xs).fields ys) in
      let s : bytes_of (one.fields xs ++ (more xs).fields ys) ≡ f ++ g = bytes_append (one.fields xs) ((more xs).fields ys) in
      let e₁ : drop at bytes ≡ f ++ (g ++ rest) = e ∙ rw (s, append_assoc) in
      let p = at + length f in
      let i : one.read bytes at ≡ got xs p = first.back bytes (g ++ rest) xs at t.0 e₁ in
      let d : drop p bytes ≡ g ++ rest = sym (drop-drop (length f) at bytes) ∙ rw e₁ (drop_at f (g ++ rest) (length f) refl) in
      let j : (more xs).read bytes p ≡ got ys (p + length g) = (second xs).back bytes rest ys p t.1 d in
      let q : p + length g ≡ at + length (bytes_of (one.fields xs ++ (more xs).fields ys)) = rw (s, length-append) (omega arith) in
      rw (i, j, take-append-drop one.width ns, q)

  module _ (bytes ns : List ℕ) (at next : ℕ) (good : Bytes bytes) where
    joined : (xs : List ℕ) (p : ℕ) → IsRead one bytes at xs p → (r : Read (List ℕ)) → (more xs).read bytes p ≡ r → onward r (λ ms q. got (xs ++ ms) q) ≡ got ns next → IsRead both_shapes bytes at ns next
    unfolding beside onward
    joined xs p i bad f e = not_bad e
    joined xs p i (got ys q) f e =
        let x : xs ++ ys ≡ ns = cc in
        let y : q ≡ next = cc in
        let j = (second xs).only bytes ys p q good f in
        let n = first.long xs i.tidy in
        let a : take one.width (xs ++ ys) ≡ xs = take_at xs ys one.width n in
        let b : drop one.width (xs ++ ys) ≡ ys = drop_at xs ys one.width n in
        let s = bytes_append (one.fields xs) ((more xs).fields ys) in
        let ip = i.place in
        let jp = j.place in
        record {
          tidy = rw (← x, a, b) (join _ _ i.tidy j.tidy);
          there = rw (← x, a, b, s, ← y, append_assoc) (rw j.there at i.there);
          place = rw (← x, a, b, s, ← y, length-append) (omega arith);
        }

    by_first : (r : Read (List ℕ)) → one.read bytes at ≡ r → onward r (λ xs p. onward ((more xs).read bytes p) (λ ms q. got (xs ++ ms) q)) ≡ got ns next → IsRead both_shapes bytes at ns next
    unfolding onward
    by_first bad f e = not_bad e
    by_first (got xs p) f e = joined xs p (first.only bytes xs at p good f) ((more xs).read bytes p) refl e

    only : both_shapes.read bytes at ≡ got ns next → IsRead both_shapes bytes at ns next
    unfolding beside
    only e = by_first (one.read bytes at) refl e

  pub beside_exact : Exact both_shapes
  beside_exact = record { long = long; few = few; back = back; only = only }
