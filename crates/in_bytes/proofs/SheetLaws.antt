-- A sheet as bytes, both ways; and its two stages in a lent list.
use Rattle.std.specs.Prelude.{◌≡◌, Option, true, List, [], ◌∷◌, ◌++◌, ℕ, ◌*◌, ◌^◌, ◌≤◌, ◌<◌, length, get_or, take, replicate}
use Rattle.std.proofs.Math.Path.{refl, sym, ap}
use Rattle.std.proofs.Common.{◌∙◌, append-nil, arith}
use Rattle.laws.specs.All.{All}
use Rattle.laws.specs.Bool.{◌and◌, both, and_true}
use Rattle.workflow.specs.Layout as layout
use Rattle.codec.specs.declared.columns.Column.{Column}
use Rattle.codec.specs.Read.{Read}
use Rattle.codec.specs.Numbers.{bytes_of, part}
use Rattle.codec.specs.Stages.{Shape, numbers, total, columns, widths}
use Rattle.codec.specs.Stored.{place_of, Stored, ZeroFrom}
use Rattle.codec.specs.Exact.{Bytes, Exact}
use Rattle.codec.proofs.Loops.{BytesFirst}
use Rattle.codec.proofs.NumbersLaws.{numbers_exact}
use Rattle.std.proofs.Math.Seq.{get_or-take}
use Rattle.codec.proofs.PartLaws.{length_part, put_part, part_in}
use Rattle.codec.proofs.ColumnsLaws.{StageExact, staged_exact, staged_width, columns_exact, columns_width, exact_few}
use Rattle.in_bytes.specs.Sheet.{plan, rooms, single_numbers, all_columns, sheet}
use Rattle.in_bytes.proofs.StagesLoops.{ReadingStages, stages_start, stages_seen, stage_ready, stage_stored, last_stage, each_neat, each_written, numbers_neat, all_neat, all_written}

-- However many slots are used, the columns are as wide.
plan_width : (seen : List ℕ) → (columns (2 ^ 32) (plan seen)).width ≡ rooms
unfolding plan total
plan_width seen = columns_width (2 ^ 32) (plan seen)

plan_total : (seen : List ℕ) → total (plan seen) ≡ rooms
unfolding plan total
plan_total seen = refl

-- THE STAGES, each exact.
pub columns_stage : All StageExact (all_columns ∷ [])
columns_stage = (record { exact = λ seen. columns_exact (2 ^ 32) (plan seen) (omega arith); wide = λ seen. plan_width seen }, tt)

pub head_stage : All StageExact (single_numbers ∷ all_columns ∷ [])
unfolding numbers
head_stage = (record { exact = λ seen. numbers_exact (2 ^ 32) layout.node_kind (omega arith); wide = λ seen. refl }, columns_stage)

-- BOTH WAYS.
pub sheet_exact : Exact sheet
unfolding sheet
sheet_exact = staged_exact (single_numbers ∷ all_columns ∷ []) [] head_stage

pub sheet_width : sheet.width ≡ layout.numbers
unfolding sheet widths total
sheet_width = staged_width (single_numbers ∷ all_columns ∷ []) [] head_stage

-- READING.
pub sheet_start : (bytes before : List ℕ) (start : ℕ) → before ≡ replicate layout.numbers 0 → ReadingStages (single_numbers ∷ all_columns ∷ []) bytes (sheet.read bytes start) before start 0 before
unfolding sheet widths total
sheet_start bytes before start blank = stages_start (single_numbers ∷ all_columns ∷ []) bytes before start layout.numbers head_stage refl blank

plan_same : (xs ys : List ℕ) → ((k : ℕ) → k < layout.node_kind → get_or xs k 0 ≡ get_or ys k 0) → plan xs ≡ plan ys
unfolding plan
plan_same xs ys h = rw (h layout.node_count (omega arith), h layout.route_count (omega arith), h layout.limit_count (omega arith), h layout.action_count (omega arith), h layout.declared_count (omega arith))

-- the columns, by the counts that the list has
module _ {bytes : List ℕ} {whole : Read (List ℕ)} {before : List ℕ} {at : ℕ} {list : List ℕ} (inv : ReadingStages (all_columns ∷ []) bytes whole before at layout.node_kind list) {counts : List Column} (are : counts ≡ plan list) where
  pub columns_ready : (total counts ≤ length (part list layout.node_kind layout.numbers)) × ZeroFrom 0 (part list layout.node_kind layout.numbers)
  unfolding total
  columns_ready = rw (are, plan_total list) (stage_ready columns_stage inv)

  pub columns_read : {z : Option ℕ} {ys : List ℕ} → Bytes bytes → z ≡ place_of ((columns (2 ^ 32) counts).read bytes at) → Stored ((columns (2 ^ 32) counts).read bytes at) (part list layout.node_kind layout.numbers) 0 ys → (z ≡ place_of whole) × Stored whole before 0 (put_part list layout.node_kind layout.numbers ys)
  unfolding total
  columns_read good a s =
      let e : counts ≡ plan inv.seen = are ∙ plan_same list inv.seen (stages_seen inv) in
      last_stage columns_stage inv good (rw e at a) (stage_stored columns_stage inv good (rw e at s))

-- A SHEET'S NUMBERS, and its columns by the counts that stand in it.
module _ (w : List ℕ) (long : length w ≡ layout.numbers) where
  module _ {counts : List Column} (are : counts ≡ plan w) where
    abbrev by_them : Shape
    by_them = columns (2 ^ 32) counts

    -- what a slice from the columns on has of them
    abbrev sliced : List ℕ
    sliced = part (part w layout.node_kind layout.numbers) 0 (total counts)

    sliced_in : sliced ≡ part w layout.node_kind layout.numbers
    unfolding total
    sliced_in = rw (are, plan_total w) (part_in w layout.node_kind layout.numbers rooms (omega arith))

    pub sliced_room : total counts ≤ length (part w layout.node_kind layout.numbers)
    unfolding total
    sliced_room = rw (are, plan_total w, length_part w layout.node_kind layout.numbers (omega arith)) (omega arith)

    plan_held : counts ≡ plan (part w 0 layout.node_kind)
    unfolding part
    plan_held = are ∙ plan_same w (take layout.node_kind w) (λ k h. sym (get_or-take layout.node_kind w k 0 h))

    parts_tidy : sheet.tidy w ≡ ((numbers (2 ^ 32) layout.node_kind).tidy (part w 0 layout.node_kind) and (by_them.tidy sliced and true))
    unfolding sheet widths total each_neat
    parts_tidy = rw (sliced_in, plan_held) (all_neat w (single_numbers ∷ all_columns ∷ []) head_stage long)

    pub columns_tidy : sheet.tidy w ≡ true → by_them.tidy sliced ≡ true
    columns_tidy t = (both _ _ (both _ _ (sym parts_tidy ∙ t)).1).0

    pub tidy_columns : ((n : ℕ) → get_or w n 0 < 2 ^ 32) → by_them.tidy sliced ≡ sheet.tidy w
    unfolding ◌and◌
    tidy_columns small = sym (parts_tidy ∙ rw (numbers_neat w (2 ^ 32) 0 layout.node_kind layout.node_kind refl (omega arith) small) (sym (and_true (by_them.tidy sliced))))

    -- its bytes
    pub sheet_first : BytesFirst (bytes_of (sheet.fields w)) (bytes_of (part w 0 layout.node_kind)) (bytes_of (by_them.fields sliced))
    unfolding sheet widths total numbers each_written
    sheet_first = record { is = rw (sliced_in, plan_held) (all_written w (single_numbers ∷ all_columns ∷ []) head_stage long ∙ ap (λ (l : List ℕ). bytes_of (part w 0 layout.node_kind) ++ l) (append-nil _)) }

  pub sheet_few : length (bytes_of (sheet.fields w)) ≤ 10 * layout.numbers
  sheet_few = rw sheet_width at (exact_few sheet sheet_exact w (long ∙ sym sheet_width))
