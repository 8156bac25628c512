-- The bytes of an answer: what they are read as, how many they are, and where the run of a next record begins.
use Rattle.std.specs.Prelude.{◌≡◌, true, ℕ, ◌+◌, ◌*◌, ◌^◌, ◌≤◌, ◌<◌}
use Rattle.std.proofs.Math.Path.{refl}
use Rattle.std.proofs.Common.{sym, ap, ◌∙◌, arith, length-append, drop_of_length-le, drop-drop, drop_at}
use mathlib.Core.List.{List, [], ◌++◌, append_assoc, append-nil}
use Rattle.std.proofs.Math.ListN.{length, get_or, take, drop, length-drop, get_or-append}
use Rattle.std.proofs.Math.Seq.{take_all, length-take-le}
use borrow.Author.Tests.{eq-eqb, eqb-true}
use Rattle.laws.specs.Bool.{when◌then◌else◌, ◌and◌, both, join}
use Rattle.laws.specs.Every.{every_append}
use Rattle.host.specs.Layout as layout
use Rattle.codec.specs.Read.{got, onward}
use Rattle.codec.specs.Numbers.{bytes_of, numbers_at, all_below, part}
use Rattle.codec.specs.Stages.{numbers, column, beside, staged}
use Rattle.codec.proofs.ExactLaws.{bytes_append}
use Rattle.codec.proofs.NumbersLaws.{numbers_exact}
use Rattle.codec.proofs.ColumnsLaws.{tidy_column, bytes_few}
use Rattle.in_bytes.specs.Run.{run}
use Rattle.in_bytes.proofs.RunLaws.{run_width, run_few}
use Rattle.in_bytes.specs.Answer.{next, want, answer}
use Rattle.shipped.specs.InBytes.{behind, run_in_answer}

-- Behind what stands at a place.
pub past : (bytes : List ℕ) (at : ℕ) (xs rest : List ℕ) → drop at bytes ≡ xs ++ rest → drop (at + length xs) bytes ≡ rest
past bytes at xs rest e = sym (drop-drop (length xs) at bytes) ∙ rw e (drop_at xs rest (length xs) refl)

-- Numbers that stand in bytes are read.
pub numbers_there : (top k : ℕ) (bytes rest ns : List ℕ) (at : ℕ) → top ≤ 2 ^ 64 → length ns ≡ k → all_below top ns ≡ true → drop at bytes ≡ bytes_of ns ++ rest → numbers_at top k bytes at ≡ got ns (at + length (bytes_of ns))
unfolding numbers
numbers_there top k bytes rest ns at small long below e = (numbers_exact top k small).back bytes rest ns at (join _ _ (eq-eqb (length ns) k long) below) e

-- The run's numbers stand last, and their bytes are few.
module _ (ns : List ℕ) (long : length ns ≡ layout.answer_length) where
  run_last : (take run.width (drop 468 ns) ≡ drop 468 ns) × (drop run.width (drop 468 ns) ≡ [])
  run_last =
      let n = length-drop 468 ns in
      let w = run_width in
      let h : length (drop 468 ns) ≤ run.width = omega arith in
      (take_all run.width (drop 468 ns) h, drop_of_length-le (drop 468 ns) h)

  run_bytes_few : length (bytes_of (run.fields (drop 468 ns))) ≤ 10 * layout.record_length
  unfolding part
  run_bytes_few =
      let n = length-drop 468 ns in
      let e : part ns 468 (468 + layout.record_length) ≡ drop 468 ns = take_all layout.record_length (drop 468 ns) (omega arith) in
      rw e at (run_few ns 468 (omega arith))

-- OF A NEXT RECORD. What its numbers are: the first 13, and by their counts notes and endings; and behind them the run.
pub record Parts (ns : List ℕ) : Type 0 where
  pub head : List ℕ
  pub rows : List ℕ
  pub head_long : length head ≡ layout.answer_notes
  pub head_below : all_below (2 ^ 64) head ≡ true
  pub rows_long : length rows ≡ layout.note_width * get_or head layout.answer_noted 0 + layout.ending_width * get_or head layout.answer_ended 0
  pub rows_few : length rows ≤ layout.note_width * layout.notes + layout.ending_width * layout.endings
  pub rows_below : all_below (2 ^ 64) rows ≡ true
  pub run_tidy : run.tidy (drop layout.answer_record ns) ≡ true
  pub run_few : length (bytes_of (run.fields (drop layout.answer_record ns))) ≤ 10 * layout.record_length
  pub fields : (answer 1).fields ns ≡ head ++ (rows ++ run.fields (drop layout.answer_record ns))

module _ (ns : List ℕ) (long : length ns ≡ layout.answer_length) (tidy : (answer 1).tidy ns ≡ true) where
  abbrev head : List ℕ
  head = take 13 ns

  abbrev notes : List ℕ
  notes = take 325 (drop 13 ns)

  abbrev endings : List ℕ
  endings = take 130 (drop 325 (drop 13 ns))

  abbrev behind_all : List ℕ
  behind_all = drop 130 (drop 325 (drop 13 ns))

  abbrev noted : ℕ
  noted = 5 * get_or head 11 0

  abbrev ended : ℕ
  ended = 2 * get_or (head ++ notes) 12 0

  record TidyParts : Type 0 where
    of_head : (numbers (2 ^ 64) 13).tidy head ≡ true
    of_notes : (column (2 ^ 64) 325 noted).tidy notes ≡ true
    of_endings : (column (2 ^ 64) 130 ended).tidy endings ≡ true
    of_run : run.tidy (take run.width behind_all) ≡ true

  all_tidy : ((numbers (2 ^ 64) 13).tidy head and ((column (2 ^ 64) 325 noted).tidy notes and ((column (2 ^ 64) 130 ended).tidy endings and (run.tidy (take run.width behind_all) and (numbers 0 0).tidy (drop run.width behind_all))))) ≡ true
  unfolding answer next staged beside numbers column when◌then◌else◌
  all_tidy = tidy

  tidy_parts : TidyParts
  tidy_parts =
      let a = both _ _ all_tidy in
      let b = both _ _ a.1 in
      let c = both _ _ b.1 in
      let d = both _ _ c.1 in
      record { of_head = a.0; of_notes = b.0; of_endings = c.0; of_run = d.0 }

  all_fields : (answer 1).fields ns ≡ head ++ (take noted notes ++ (take ended endings ++ (run.fields (take run.width behind_all) ++ drop run.width behind_all)))
  unfolding answer next staged beside numbers column when◌then◌else◌
  all_fields = refl

  all_behind : behind_all ≡ drop 468 ns
  all_behind = drop-drop 130 325 (drop 13 ns) ∙ drop-drop 455 13 ns

  pub parts : Parts ns
  unfolding numbers
  parts =
      let t = tidy_parts in
      let a = tidy_column (2 ^ 64) 325 noted notes t.of_notes in
      let b = tidy_column (2 ^ 64) 130 ended endings t.of_endings in
      let h = both _ _ t.of_head in
      let n : length head ≡ 13 = eqb-true (length head) 13 h.0 in
      let al = a.long in
      let aw = a.low in
      let bl = b.long in
      let bw = b.low in
      let p : length (take noted notes) ≡ noted = length-take-le noted notes (omega arith) in
      let q : length (take ended endings) ≡ ended = length-take-le ended endings (omega arith) in
      let e : get_or (head ++ notes) 12 0 ≡ get_or head 12 0 = get_or-append head notes 0 12 (omega arith) in
      let w = all_behind in
      let r = run_last ns long in
      record {
        head = head;
        rows = take noted notes ++ take ended endings;
        head_long = n;
        head_below = h.1;
        rows_long = rw (length-append, p, q, e);
        rows_few = rw (length-append, p, q) (omega arith);
        rows_below = every_append _ (take noted notes) (take ended endings) a.below b.below;
        run_tidy = rw (w, r.0) at t.of_run;
        run_few = run_bytes_few ns long;
        fields = all_fields ∙ rw (w, r.0, r.1, append-nil) (ap (λ (x : List ℕ). head ++ x) (sym (append_assoc (take noted notes) (take ended endings) (run.fields (drop 468 ns)))));
      }

-- ITS BYTES. The run's are found in them.
module _ (ns : List ℕ) (p : Parts ns) where
  abbrev its_bytes : List ℕ
  its_bytes = bytes_of ((answer 1).fields ns)

  abbrev run_bytes : List ℕ
  run_bytes = bytes_of (run.fields (drop layout.answer_record ns))

  bytes_are : its_bytes ≡ bytes_of p.head ++ (bytes_of p.rows ++ run_bytes)
  bytes_are =
      ap bytes_of p.fields ∙ bytes_append p.head (p.rows ++ run.fields (drop layout.answer_record ns))
      ∙ ap (λ (x : List ℕ). bytes_of p.head ++ x) (bytes_append p.rows (run.fields (drop layout.answer_record ns)))

  pub run_found : run_in_answer its_bytes ≡ run_bytes
  unfolding behind onward
  run_found =
      let i = 0 + length (bytes_of p.head) in
      let a : numbers_at (2 ^ 64) layout.answer_notes its_bytes 0 ≡ got p.head i =
      numbers_there (2 ^ 64) layout.answer_notes its_bytes (bytes_of p.rows ++ run_bytes) p.head 0 (omega arith) p.head_long p.head_below bytes_are in
      let d : drop i its_bytes ≡ bytes_of p.rows ++ run_bytes = past its_bytes 0 (bytes_of p.head) (bytes_of p.rows ++ run_bytes) bytes_are in
      let b : numbers_at (2 ^ 64) (layout.note_width * get_or p.head layout.answer_noted 0 + layout.ending_width * get_or p.head layout.answer_ended 0) its_bytes i ≡ got p.rows (i + length (bytes_of p.rows)) =
      numbers_there (2 ^ 64) _ its_bytes run_bytes p.rows i (omega arith) p.rows_long p.rows_below d in
      rw (a, b) (past its_bytes i (bytes_of p.rows) run_bytes d)

  -- There are few.
  pub answer_few : length its_bytes < 2 ^ 32
  answer_few =
      let a = bytes_few p.head in
      let b = bytes_few p.rows in
      let n = p.head_long in
      let m = p.rows_few in
      let r = p.run_few in
      rw (bytes_are, length-append, length-append) (omega arith)

-- OF A WANT: four numbers and the run, and there are few.
module _ (ns : List ℕ) (long : length ns ≡ layout.answer_length) where
  want_fields : (answer 2).fields ns ≡ take 4 ns ++ (take 0 (take 464 (drop 4 ns)) ++ (run.fields (take run.width (drop 464 (drop 4 ns))) ++ drop run.width (drop 464 (drop 4 ns))))
  unfolding answer want staged beside numbers column when◌then◌else◌
  want_fields = refl

  pub want_few : length (bytes_of ((answer 2).fields ns)) < 2 ^ 32
  want_few =
      let w = drop-drop 464 4 ns in
      let r = run_last ns long in
      let n = length-take-le 4 ns (omega arith) in
      let a = bytes_few (take 4 ns) in
      let b = run_bytes_few ns long in
      let e : (answer 2).fields ns ≡ take 4 ns ++ run.fields (drop 468 ns) = want_fields ∙ rw (w, r.0, r.1, append-nil) in
      rw (e, bytes_append (take 4 ns) (run.fields (drop 468 ns)), length-append) (omega arith)
