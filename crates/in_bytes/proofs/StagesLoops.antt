-- Stages one behind the other in a lent list: read, tested and written.
use Rattle.std.specs.Prelude.{◌≡◌, Option, Some, None, Bool, true, ℕ, ◌+◌, ◌-◌, ◌≤◌, ◌<◌, min, leb, get_or, take, drop, replicate}
use Rattle.std.proofs.Math.Path.{refl, ap}
use Rattle.std.proofs.Common.{sym, ◌∙◌, take-take, take_all, leb-true, leb-false, eq-eqb}
use mathlib.Core.List.{List, [], ◌∷◌, ◌++◌}
use native.Mathlib.Omega.{arith}
use Rattle.std.proofs.Math.ListN.{length, length-append, length-take, get_or-append}
use Rattle.std.proofs.lemmas.List.{length-replicate}
use Rattle.laws.specs.All.{All}
use Rattle.laws.specs.Bool.{◌and◌, split}
use Rattle.laws.specs.Splice.{splice, splice_none, splice_more}
use Rattle.codec.specs.Read.{Read, got, bad}
use Rattle.codec.specs.Numbers.{bytes_of, numbers_at, part}
use Rattle.codec.specs.Stages.{Stage, widths, numbers, staged}
use Rattle.codec.specs.Stored.{place_of, Stored, ZeroFrom}
use Rattle.codec.specs.Exact.{Bytes}
use Rattle.codec.proofs.Loops.{BytesFirst}
use Rattle.codec.proofs.StoredLaws.{at_got, at_bad, bad_place, bad_stored}
use Rattle.codec.proofs.ColumnsLaws.{StageExact, staged_width}
use Rattle.codec.proofs.NumbersLoops.{part_all}
use Rattle.codec.proofs.Parts.{part_long, part_below}
use Rattle.codec.proofs.PartLaws.{length_part, part_zero, put_part, part_stored}
use Rattle.codec.proofs.ShapesLoops.{ReadingShapes, reading_start, reading_long, reading_room, reading_bad, reading_more, reading_place, reading_stored, held, neat, written, neat_next, neat_none, written_next, written_none}

-- READING into a list that is zero: the stages that are left, by the numbers of those before them.
pub record ReadingStages (stages : List Stage) (bytes : List ℕ) (whole : Read (List ℕ)) (before : List ℕ) (at i : ℕ) (list : List ℕ) : Type 0 where
  pub seen : List ℕ
  pub reading : ReadingShapes bytes whole before 0 (staged stages seen) at i list
  pub is : list ≡ splice before 0 seen
  pub long : i ≡ length seen

pub stages_start : (stages : List Stage) (bytes before : List ℕ) (at n : ℕ) → All StageExact stages → widths stages ≡ n → before ≡ replicate n 0 → ReadingStages stages bytes ((staged stages []).read bytes at) before at 0 before
stages_start stages bytes before at n exact all blank =
    let w = staged_width stages [] exact in
    let l : length before ≡ n = ap length blank ∙ length-replicate {A = ℕ} n 0 in
    let e : length before - 0 ≡ n = omega arith in
    record { seen = []; reading = reading_start bytes before 0 (staged stages []) at (omega arith) (rw e blank); is = sym (splice_none before 0); long = refl }

module _ {stages : List Stage} {bytes : List ℕ} {whole : Read (List ℕ)} {before : List ℕ} {at i : ℕ} {list : List ℕ} (inv : ReadingStages stages bytes whole before at i list) where
  pub stages_long : length list ≡ length before
  stages_long = reading_long inv.reading

  -- a number of the stages before
  pub stages_seen : (k : ℕ) → k < i → get_or list k 0 ≡ get_or inv.seen k 0
  unfolding splice
  stages_seen k h =
      let n = inv.long in
      rw inv.is (get_or-append inv.seen (drop (0 + length inv.seen) before) 0 k (omega arith))

module _ {stage : Stage} {stages : List Stage} {bytes : List ℕ} {whole : Read (List ℕ)} {before : List ℕ} {at i : ℕ} {list : List ℕ} (exact : All StageExact (stage ∷ stages)) (inv : ReadingStages (stage ∷ stages) bytes whole before at i list) where
  pub stage_room : i + stage.room ≤ length list
  unfolding staged
  stage_room =
      let w = exact.0.wide inv.seen in
      let r = reading_room inv.reading (stage.shape inv.seen) (λ ns. staged stages (inv.seen ++ ns)) (widths stages) refl in
      omega arith

  -- its part of the list is zero, and what is read into that stands in the list
  pub stage_ready : (stage.room ≤ length (part list i (i + stage.room))) × ZeroFrom 0 (part list i (i + stage.room))
  stage_ready =
      let r = stage_room in
      let n = length_part list i (i + stage.room) r in
      (omega arith, part_zero list i (i + stage.room) (omega arith) r inv.reading.blank)

  pub stage_stored : {ys : List ℕ} → Bytes bytes → Stored ((stage.shape inv.seen).read bytes at) (part list i (i + stage.room)) 0 ys → Stored ((stage.shape inv.seen).read bytes at) list i (put_part list i (i + stage.room) ys)
  stage_stored good s =
      let shape = exact.0.exact inv.seen in
      let w = exact.0.wide inv.seen in
      part_stored list i (i + stage.room) (omega arith) stage_room (λ ns p e. let n = shape.long ns (shape.only bytes ns at p good e).tidy in omega arith) s

  pub stage_bad : (stage.shape inv.seen).read bytes at ≡ bad → whole ≡ bad
  unfolding staged
  stage_bad e = reading_bad inv.reading (stage.shape inv.seen) (λ ns. staged stages (inv.seen ++ ns)) (widths stages) refl e

  pub stage_refused : {z : Option ℕ} → z ≡ place_of ((stage.shape inv.seen).read bytes at) → z ≡ None → whole ≡ bad
  stage_refused answer e = stage_bad (at_bad answer e)

  pub stage_more : {z : Option ℕ} {p : ℕ} {after : List ℕ} → Bytes bytes → z ≡ place_of ((stage.shape inv.seen).read bytes at) → z ≡ Some p → Stored ((stage.shape inv.seen).read bytes at) list i after → ReadingStages stages bytes whole before p (i + stage.room) after
  unfolding staged
  stage_more {z} {p} {after} good answer e s =
      let seen = inv.seen in
      let g = at_got answer e in
      let ns = g.value in
      let w = exact.0.wide seen in
      let shape = exact.0.exact seen in
      let n : length ns ≡ (stage.shape seen).width = shape.long ns (shape.only bytes ns at p good g.is).tidy in
      let l = inv.long in
      let b = stages_long inv in
      let r = stage_room in
      let a = length-append seen ns in
      record {
        seen = seen ++ ns;
        reading = rw w at (reading_more inv.reading (stage.shape seen) (λ ms. staged stages (seen ++ ms)) (widths stages) refl ns p after g.is n (staged_width stages (seen ++ ns) exact.1) s);
        is = s.is ns p g.is ∙ ap (λ (m : List ℕ). splice m i ns) inv.is ∙ splice_more before 0 seen ns i (omega arith) (omega arith);
        long = omega arith;
      }

module _ {bytes : List ℕ} {whole : Read (List ℕ)} {before : List ℕ} {at i : ℕ} {list : List ℕ} (inv : ReadingStages [] bytes whole before at i list) where
  stages_place : Some at ≡ place_of whole
  unfolding staged
  stages_place = reading_place inv.reading refl

  stages_stored : Stored whole before 0 list
  unfolding staged
  stages_stored = reading_stored inv.reading refl

-- a stage of numbers, all of them used, read into its part of the list
module _ (top : ℕ) {k : ℕ} {stages : List Stage} {bytes : List ℕ} {whole : Read (List ℕ)} {before : List ℕ} {at i : ℕ} {list : List ℕ} (exact : All StageExact (record { room = k; shape = λ _. numbers top k } ∷ stages)) (inv : ReadingStages (record { room = k; shape = λ _. numbers top k } ∷ stages) bytes whole before at i list) {z : Option ℕ} (answer : z ≡ place_of (numbers_at top (length (part list i (i + k))) bytes at)) where
  as_many : length (part list i (i + k)) ≡ k
  as_many = part_long list i k (stage_room exact inv)

  pub numbers_bad : z ≡ None → whole ≡ bad
  unfolding numbers
  numbers_bad b = stage_refused exact inv (rw as_many at answer) b

  pub numbers_more : {p : ℕ} {ys : List ℕ} → Bytes bytes → z ≡ Some p → Stored (numbers_at top (length (part list i (i + k))) bytes at) (part list i (i + k)) 0 ys → ReadingStages stages bytes whole before p (i + k) (put_part list i (i + k) ys)
  unfolding numbers
  numbers_more good e s = stage_more exact inv good (rw as_many at answer) e (stage_stored exact inv good (rw as_many at s))

-- The last stage, whatever came of it.
module _ {stage : Stage} {bytes : List ℕ} {whole : Read (List ℕ)} {before : List ℕ} {at i : ℕ} {list : List ℕ} (exact : All StageExact (stage ∷ [])) (inv : ReadingStages (stage ∷ []) bytes whole before at i list) {z : Option ℕ} {after : List ℕ} (good : Bytes bytes) (answer : z ≡ place_of ((stage.shape inv.seen).read bytes at)) (s : Stored ((stage.shape inv.seen).read bytes at) list i after) where
  by_read : (r : Read (List ℕ)) → (stage.shape inv.seen).read bytes at ≡ r → (z ≡ place_of whole) × Stored whole before 0 after
  unfolding place_of
  by_read bad e =
      let b = stage_bad exact inv e in
      (answer ∙ ap place_of e ∙ bad_place b, bad_stored b (s.long ∙ stages_long inv))
  by_read (got ns p) e =
      let a : z ≡ Some p = answer ∙ ap place_of e in
      let m = stage_more exact inv good answer a s in
      (a ∙ stages_place m, stages_stored m)

  pub last_stage : (z ≡ place_of whole) × Stored whole before 0 after
  last_stage = by_read ((stage.shape inv.seen).read bytes at) refl

-- STAGES IN A LIST, from i on: whether they are tidy, and their bytes, stage by stage.
module _ (xs : List ℕ) where
  unfoldable pub each_neat : (stages : List Stage) (seen : List ℕ) (i : ℕ) → Bool
  each_neat [] seen i = true
  each_neat (stage ∷ stages) seen i = (stage.shape seen).tidy (part xs i (i + stage.room)) and each_neat stages (seen ++ part xs i (i + stage.room)) (i + stage.room)

  unfoldable pub each_written : (stages : List Stage) (seen : List ℕ) (i : ℕ) → List ℕ
  each_written [] seen i = []
  each_written (stage ∷ stages) seen i = bytes_of ((stage.shape seen).fields (part xs i (i + stage.room))) ++ each_written stages (seen ++ part xs i (i + stage.room)) (i + stage.room)

  stages_neat : (stages : List Stage) (seen : List ℕ) (i : ℕ) → All StageExact stages → neat xs (staged stages seen) i ≡ each_neat stages seen i
  unfolding staged each_neat
  stages_neat [] seen i exact = neat_none xs i (staged [] seen) refl
  stages_neat (stage ∷ stages) seen i exact =
      let ns = part xs i (i + (stage.shape seen).width) in
      neat_next xs i (staged (stage ∷ stages) seen) (stage.shape seen) (λ ms. staged stages (seen ++ ms)) (widths stages) refl (staged_width stages (seen ++ ns) exact.1)
      ∙ rw (exact.0.wide seen, stages_neat stages (seen ++ part xs i (i + stage.room)) (i + stage.room) exact.1)

  stages_written : (stages : List Stage) (seen : List ℕ) (i : ℕ) → All StageExact stages → written xs (staged stages seen) i ≡ each_written stages seen i
  unfolding staged each_written
  stages_written [] seen i exact = written_none xs i (staged [] seen) refl
  stages_written (stage ∷ stages) seen i exact =
      let ns = part xs i (i + (stage.shape seen).width) in
      written_next xs i (staged (stage ∷ stages) seen) (stage.shape seen) (λ ms. staged stages (seen ++ ms)) (widths stages) refl (staged_width stages (seen ++ ns) exact.1)
      ∙ rw (exact.0.wide seen, stages_written stages (seen ++ part xs i (i + stage.room)) (i + stage.room) exact.1)

  -- a stage of numbers
  pub numbers_neat : (top i j k : ℕ) → j ≡ i + k → j ≤ length xs → ((n : ℕ) → get_or xs n 0 < top) → (numbers top k).tidy (part xs i j) ≡ true
  unfolding numbers ◌and◌
  numbers_neat top i j k e h small =
      let n : length (part xs i j) ≡ k = rw (← e) at (part_long xs i k (omega arith)) in
      rw (eq-eqb (length (part xs i j)) k n, part_below top xs i j small)

  -- all of the list
  module _ (stages : List Stage) (exact : All StageExact stages) (long : length xs ≡ widths stages) where
    all_held : held xs (staged stages []) 0 ≡ xs
    all_held = part_all xs (0 + (staged stages []).width) (let w = staged_width stages [] exact in omega arith)

    pub all_neat : (staged stages []).tidy xs ≡ each_neat stages [] 0
    all_neat = ap (λ (ns : List ℕ). (staged stages []).tidy ns) (sym all_held) ∙ stages_neat stages [] 0 exact

    pub all_written : bytes_of ((staged stages []).fields xs) ≡ each_written stages [] 0
    all_written = ap (λ (ns : List ℕ). bytes_of ((staged stages []).fields ns)) (sym all_held) ∙ stages_written stages [] 0 exact

-- BYTES IN TWO PARTS: how many they are; and both parts written.
module _ {whole xs ys : List ℕ} (parts : BytesFirst whole xs ys) where
  pub both_sizes : length xs + length ys ≡ length whole
  both_sizes = rw parts.is (sym (length-append xs ys))

  pub both_written : (l : List ℕ) {l₁ l₂ : List ℕ} {n : ℕ} → length whole ≤ length l → n ≡ length xs → l₁ ≡ splice l 0 xs → l₂ ≡ splice l₁ n ys → l₂ ≡ splice l 0 whole
  both_written l {l₁} {l₂} {n} room e f g =
      let s = both_sizes in
      g ∙ ap (λ (k : List ℕ). splice k n ys) f ∙ rw parts.is (splice_more l 0 xs ys n (omega arith) (omega arith))

-- The first numbers of the first numbers.
pub take_least : (m r k : ℕ) (l : List ℕ) → k ≡ min m r → take m (take r l) ≡ take k l
take_least m r k l e =
    split (leb m r)
    (λ h. let g = leb-true m r h in let q : k ≡ m = omega arith in rw q (take-take m r l g))
    (λ h. let g = leb-false m r h in let q : k ≡ r = omega arith in let n = length-take r l in rw q (take_all m (take r l) (omega arith)))
