-- An answer as bytes (docs/BYTES.md): a next record, with as many notes and endings as it has, or a want; the run stands last.
use Rattle.std.specs.Prelude.{List, [], ◌∷◌, ◌++◌, ℕ, ◌+◌, ◌*◌, ◌-◌, ◌^◌, min, eqb, get_or, take, drop}
use Rattle.laws.specs.Bool.{when◌then◌else◌}
use Rattle.host.specs.Layout as layout
use Rattle.codec.specs.Stages.{Shape, numbers, column, Stage, staged}
use Rattle.in_bytes.specs.Run.{run}

-- Some rows of a width, as many as the number at a place says.
abbrev pub counted_rows : (width capacity place : ℕ) → Stage
counted_rows width capacity place = record { room = width * capacity; shape = λ seen. column (2 ^ 64) (width * capacity) (width * get_or seen place 0) }

abbrev pub the_run : Stage
the_run = record { room = layout.record_length; shape = λ _. run }

abbrev pub next_stages : List Stage
next_stages =
    record { room = layout.answer_notes; shape = λ _. numbers (2 ^ 64) layout.answer_notes }
    ∷ counted_rows layout.note_width layout.notes layout.answer_noted
    ∷ counted_rows layout.ending_width layout.endings layout.answer_ended
    ∷ the_run
    ∷ []

unfoldable pub next : Shape
next = staged next_stages []

-- of a want nothing stands between its four numbers and the run
abbrev pub want_stages : List Stage
want_stages =
    record { room = layout.want_width; shape = λ _. numbers (2 ^ 64) layout.want_width }
    ∷ record { room = layout.answer_record - layout.want_width; shape = λ _. column (2 ^ 64) (layout.answer_record - layout.want_width) 0 }
    ∷ the_run
    ∷ []

unfoldable pub want : Shape
want = staged want_stages []

unfoldable pub answer : (kind : ℕ) → Shape
answer kind = when eqb kind 1 then next else want

-- What stands before the run: of a next record its single numbers and its notes, then its endings.
unfoldable pub answer_head : List ℕ → List ℕ
answer_head ns =
    when eqb (get_or ns layout.answer_kind 0) 1 then
    take (layout.answer_notes + layout.note_width * min (get_or ns layout.answer_noted 0) layout.notes) ns
    ++ take (layout.ending_width * min (get_or ns layout.answer_ended 0) layout.endings) (drop layout.answer_endings ns)
    else take layout.want_width ns
