-- An answer as bytes: both ways; and in two parts, what stands before the run, and the run.
use Rattle.std.specs.Prelude.{◌≡◌, eqb, length}
use Rattle.std.proofs.Common.{sym, ◌∙◌, length-append, drop_of_length-le, eq-eqb, ne_eqb}
use Rattle.std.proofs.Math.Path.{ap}
use mathlib.Core.List.{List, [], ◌++◌, append_assoc, append-nil}
use Prim.Native.Nat.{ℕ, ◌+◌, ◌*◌, ◌-◌, ◌≤◌, min}
use native.Mathlib.Omega.{arith}
use Rattle.std.proofs.Math.ListN.{get_or, take, drop, length-take}
use Rattle.std.proofs.Math.Seq.{take-add, drop-drop, get_or-take}
use Rattle.laws.specs.Bool.{when◌then◌else◌, split}
use Rattle.laws.specs.All.{All}
use Rattle.host.specs.Layout as layout
use Rattle.codec.specs.Numbers.{bytes_of, part}
use Rattle.codec.specs.Stages.{numbers, column, beside, widths, staged}
use Rattle.codec.specs.Exact.{Exact}
use Rattle.codec.proofs.ExactLaws.{bytes_append}
use Rattle.codec.proofs.Loops.{BytesFirst}
use Rattle.codec.proofs.ColumnsLaws.{bytes_few, StageExact, staged_width, staged_exact}
use Rattle.in_bytes.specs.Run.{run}
use Rattle.in_bytes.proofs.RunLaws.{numbers_stage, column_stage, run_width, run_exact}
use Rattle.in_bytes.proofs.StagesLoops.{take_least}
use Rattle.in_bytes.specs.Answer.{the_run, next_stages, next, want_stages, want, answer, answer_head}

-- BOTH WAYS. Each stage is exact.
run_stage : StageExact the_run
run_stage = record { exact = λ _. run_exact; wide = λ _. run_width }

next_stages_exact : All StageExact next_stages
next_stages_exact = (
  numbers_stage layout.answer_notes,
  (
    column_stage (layout.note_width * layout.notes) (λ seen. layout.note_width * get_or seen layout.answer_noted 0),
    (
      column_stage (layout.ending_width * layout.endings) (λ seen. layout.ending_width * get_or seen layout.answer_ended 0),
      (run_stage, tt),
    ),
  ),
)

want_stages_exact : All StageExact want_stages
want_stages_exact = (numbers_stage layout.want_width, (column_stage (layout.answer_record - layout.want_width) (λ _. 0), (run_stage, tt)))

module _ (kind : ℕ) where
  pub answer_exact : Exact (answer kind)
  unfolding answer next want when◌then◌else◌
  answer_exact = split (eqb kind 1) (λ h. rw h (staged_exact next_stages [] next_stages_exact)) (λ h. rw h (staged_exact want_stages [] want_stages_exact))

  pub answer_width : (answer kind).width ≡ layout.answer_length
  unfolding answer next want when◌then◌else◌ widths
  answer_width = split (eqb kind 1) (λ h. rw h (staged_width next_stages [] next_stages_exact)) (λ h. rw h (staged_width want_stages [] want_stages_exact))

-- ITS FIELDS.
module _ (ns : List ℕ) where
  abbrev notes_end : ℕ
  notes_end = layout.answer_notes + layout.note_width * min (get_or ns layout.answer_noted 0) layout.notes

  abbrev ended : ℕ
  ended = layout.ending_width * min (get_or ns layout.answer_ended 0) layout.endings

  -- the run, and what a list has that is too long
  abbrev from_run : List ℕ
  from_run = run.fields (part ns layout.answer_record (layout.answer_record + layout.record_length)) ++ drop layout.answer_length ns

  next_parts : next.fields ns ≡ take notes_end ns ++ (take ended (drop layout.answer_endings ns) ++ from_run)
  unfolding next staged beside numbers column widths part
  next_parts =
      let noted = get_or ns 11 0 in
      let a : get_or (take 13 ns) 11 0 ≡ noted = get_or-take 13 ns 11 0 (omega arith) in
      let b : get_or (take 13 ns ++ take 325 (drop 13 ns)) 12 0 ≡ get_or ns 12 0 = ap (λ (l : List ℕ). get_or l 12 0) (sym (take-add 13 325 ns)) ∙ get_or-take 338 ns 12 0 (omega arith) in
      let c : drop 325 (drop 13 ns) ≡ drop 338 ns = drop-drop 325 13 ns in
      let d : drop 130 (drop 338 ns) ≡ drop 468 ns = drop-drop 130 338 ns in
      let e : drop 918 (drop 468 ns) ≡ drop 1386 ns = drop-drop 918 468 ns in
      let p : take (5 * noted) (take 325 (drop 13 ns)) ≡ take (5 * min noted 65) (drop 13 ns) = take_least (5 * noted) 325 (5 * min noted 65) (drop 13 ns) (omega arith) in
      let q : take (2 * get_or ns 12 0) (take 130 (drop 338 ns)) ≡ take ended (drop 338 ns) = take_least (2 * get_or ns 12 0) 130 ended (drop 338 ns) (omega arith) in
      rw (a, b, c, d, run_width, e, p, q, take-add 13 (5 * min noted 65) ns) (sym (append_assoc (take 13 ns) (take (5 * min noted 65) (drop 13 ns)) _))

  want_parts : want.fields ns ≡ take layout.want_width ns ++ from_run
  unfolding want staged beside numbers column widths part
  want_parts =
      let d : drop 464 (drop 4 ns) ≡ drop 468 ns = drop-drop 464 4 ns in
      let e : drop 918 (drop 468 ns) ≡ drop 1386 ns = drop-drop 918 468 ns in
      rw (d, run_width, e)

  answer_parts : (answer (get_or ns layout.answer_kind 0)).fields ns ≡ answer_head ns ++ from_run
  unfolding answer answer_head when◌then◌else◌
  answer_parts = split (eqb (get_or ns 0 0) 1) (λ h. rw (h, append_assoc) next_parts) (λ h. rw h want_parts)

-- What stands before the run, by the kind.
module _ (ns : List ℕ) where
  pub next_head : {p q : ℕ} → get_or ns layout.answer_kind 0 ≡ 1 → p ≡ notes_end ns → q ≡ layout.answer_endings + ended ns → BytesFirst (bytes_of (answer_head ns)) (bytes_of (take p ns)) (bytes_of (part ns layout.answer_endings q))
  unfolding answer_head part when◌then◌else◌
  next_head {p} {q} kind e f =
      let b : q - layout.answer_endings ≡ ended ns = omega arith in
      record { is = rw (eq-eqb (get_or ns layout.answer_kind 0) 1 kind, ← e, b) (bytes_append _ _) }

  pub want_head : (get_or ns layout.answer_kind 0 ≡ 1 → ⊥) → answer_head ns ≡ take layout.want_width ns
  unfolding answer_head when◌then◌else◌
  want_head other = rw (ne_eqb (get_or ns layout.answer_kind 0) 1 other)

  head_long : length (answer_head ns) ≤ layout.answer_record
  unfolding answer_head when◌then◌else◌
  head_long =
      split (eqb (get_or ns layout.answer_kind 0) 1)
      (λ h.
      let a = length-take (notes_end ns) ns in
      let b = length-take (ended ns) (drop layout.answer_endings ns) in
      rw (h, length-append) (omega arith))
      (λ h. let a = length-take layout.want_width ns in rw h (omega arith))

  pub head_few : length (bytes_of (answer_head ns)) ≤ 10 * layout.answer_record
  head_few = let a = bytes_few (answer_head ns) in let b = head_long in omega arith

  -- there is room for it where there is for all
  pub head_within : length (bytes_of (answer_head ns)) ≤ length (bytes_of ((answer (get_or ns layout.answer_kind 0)).fields ns))
  head_within = rw (answer_parts ns, bytes_append (answer_head ns) (from_run ns), length-append) (omega arith)

  pub answer_bytes : length ns ≡ layout.answer_length → BytesFirst (bytes_of ((answer (get_or ns layout.answer_kind 0)).fields ns)) (bytes_of (answer_head ns)) (bytes_of (run.fields (part ns layout.answer_record (layout.answer_record + layout.record_length))))
  answer_bytes long =
      let h : length ns ≤ layout.answer_length = omega arith in
      let e : drop layout.answer_length ns ≡ [] = drop_of_length-le ns h in
      record { is = ap bytes_of (answer_parts ns) ∙ rw (e, append-nil) (bytes_append _ _) }
