-- Stages read one behind the other: what is left to read behind the numbers that were seen.
use Rattle.std.specs.Prelude.{◌≡◌, List, [], ◌∷◌, ◌++◌, ℕ, length}
use Rattle.std.proofs.Math.Path.{sym}
use Rattle.std.proofs.Common.{◌∙◌, append-nil}
use Rattle.codec.specs.Read.{Read, got, bad, onward}
use Rattle.codec.specs.Numbers.{numbers_at}
use Rattle.codec.specs.Stages.{Shape, numbers, beside, Stage, staged}
use Rattle.codec.specs.Exact.{Bytes, Exact}
use Rattle.codec.proofs.ShapesLoops.{nothing_yet, behind}

-- An exact shape gives as many numbers as it is wide.
pub read_long : {shape : Shape} {bytes ns : List ℕ} {at next : ℕ} → Exact shape → Bytes bytes → shape.read bytes at ≡ got ns next → length ns ≡ shape.width
read_long {shape} {bytes} {ns} {at} {next} exact good e = exact.long ns (exact.only bytes ns at next good e).tidy

-- A read gives one list.
pub same_read : {r : Read (List ℕ)} {ns ms : List ℕ} {p q : ℕ} → r ≡ got ns p → r ≡ got ms q → ns ≡ ms
same_read {r} {ns} {ms} {p} {q} e f = let g : got ns p ≡ got ms q = sym e ∙ f in cc

-- WHAT IS LEFT: the stages, by the numbers that were seen, and the whole is those and theirs.
pub record Left (stages : List Stage) (bytes : List ℕ) (whole : Read (List ℕ)) (seen : List ℕ) (at : ℕ) : Type 0 where
  pub is : onward ((staged stages seen).read bytes at) (λ ns p. got (seen ++ ns) p) ≡ whole

pub left_start : (stages : List Stage) (bytes : List ℕ) (at : ℕ) → Left stages bytes ((staged stages []).read bytes at) [] at
left_start stages bytes at = record { is = nothing_yet ((staged stages []).read bytes at) }

module _ {stage : Stage} {stages : List Stage} {bytes : List ℕ} {whole : Read (List ℕ)} {seen : List ℕ} {at : ℕ} (left : Left (stage ∷ stages) bytes whole seen at) where
  pub left_bad : (stage.shape seen).read bytes at ≡ bad → whole ≡ bad
  unfolding staged beside onward
  left_bad e = sym (rw e at left.is)

  pub left_more : {ns : List ℕ} {p : ℕ} → (stage.shape seen).read bytes at ≡ got ns p → Left stages bytes whole (seen ++ ns) p
  unfolding staged beside onward
  left_more {ns} {p} e = record { is = behind seen ns ((staged stages (seen ++ ns)).read bytes p) ∙ (rw e at left.is) }

pub left_end : {bytes : List ℕ} {whole : Read (List ℕ)} {seen : List ℕ} {at : ℕ} → Left [] bytes whole seen at → whole ≡ got seen at
unfolding staged numbers numbers_at onward
left_end left = sym (rw append-nil at left.is)
