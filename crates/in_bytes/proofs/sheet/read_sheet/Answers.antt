use mathlib.Core.Path.{refl, ◌∙◌}
use native.Mathlib.Omega.{arith}
use mathlib.Core.List.{[], ◌∷◌}
use Prim.Native.Nat.{◌^◌}
use Rattle.codec.specs.Numbers.{part}
use Rattle.codec.specs.Exact.{Bytes}
use Rattle.codec.proofs.PartLaws.{put_part, put_long}
use Rattle.codec.proofs.StoredLaws.{bad_place, bad_stored}
use Rattle.in_bytes.specs.Sheet.{all_columns, sheet}
use Rattle.in_bytes.proofs.StagesLoops.{ReadingStages, stage_room, numbers_bad, numbers_more}
use Rattle.in_bytes.proofs.SheetLaws.{head_stage, sheet_start, columns_ready, columns_read}
use Rattle.in_bytes.proofs.sheet.read_sheet.Goals as goal
use Rattle.in_bytes.proofs.sheet.read_sheet.Goals.{In_ok-next}

pub returns-in_err-next : goal.returns-in_err-next
unfolding part
returns-in_err-next c =
    let i0 = sheet_start c.args.bytes.now c.args.w.now c.args.start c.requires in
    let o = numbers_bad (2 ^ 32) head_stage i0 c.in_err-next.ensures.value refl in
    record { value = c.from_residual.ensures ∙ bad_place o; stored = bad_stored o (put_long c.args.w.now 0 9 (omega arith) (stage_room head_stage i0) c.read_numbers.new.out c.in_err-next.ensures.stored.long) }

-- The single numbers are read.
head : (c : In_ok-next) → ReadingStages (all_columns ∷ []) c.args.bytes.now (sheet.read c.args.bytes.now c.args.start) c.args.w.now c.in_ok-next.next 9 (put_part c.args.w.now 0 9 c.read_numbers.new.out)
unfolding part
head c =
    let good : Bytes c.args.bytes.now = record { each = λ n. omega (arith, c.type_inv.bytes n) } in
    numbers_more (2 ^ 32) head_stage (sheet_start c.args.bytes.now c.args.w.now c.args.start c.requires) c.in_ok-next.ensures.value good refl c.in_ok-next.ensures.stored

pub read_columns-requires : goal.read_columns-requires
unfolding part
read_columns-requires c = columns_ready (head (goal.at.read_columns-requires c).In_ok-next) c.plan-plan.ensures

pub returns : goal.returns
unfolding part
returns c =
    let good : Bytes c.args.bytes.now = record { each = λ n. omega (arith, c.type_inv.bytes n) } in
    let z = columns_read (head (goal.at.returns c).In_ok-next) c.plan-plan.ensures good c.read_columns.ensures.value c.read_columns.ensures.stored in
    record { value = z.0; stored = z.1 }
