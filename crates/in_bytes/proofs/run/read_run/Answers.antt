use mathlib.Core.Path.{refl, ◌∙◌}
use native.Mathlib.Omega.{arith}
use Prim.Native.Nat.{◌^◌}
use Rattle.codec.specs.Numbers.{part}
use Rattle.codec.specs.Exact.{Bytes}
use Rattle.codec.proofs.PartLaws.{put_part, put_long}
use Rattle.codec.proofs.StoredLaws.{bad_place, bad_stored}
use Rattle.in_bytes.specs.Run.{run}
use Rattle.in_bytes.proofs.StagesLoops.{ReadingStages, stages_long, stage_room, stage_ready, stage_stored, stage_refused, stage_more, numbers_bad, numbers_more, last_stage}
use Rattle.in_bytes.proofs.RunLaws.{from_signals, from_visits, head_exact, visits_exact, streaks_exact, results_exact, run_start, signals_over, signals_within, signals_bad, signals_more}
use Rattle.in_bytes.proofs.run.read_run.Goals as goal
use Rattle.in_bytes.proofs.run.read_run.Goals.{In_ok-first, In_ok-second}

-- What is read after each step.
head : (c : In_ok-first) → ReadingStages from_signals c.args.bytes.now (run.read c.args.bytes.now c.args.start) c.args.r.now c.in_ok-first.first 22 (put_part c.args.r.now 0 22 c.read_numbers.new.out)
unfolding part
head c =
    let good : Bytes c.args.bytes.now = record { each = λ n. omega (arith, c.type_inv.bytes n) } in
    numbers_more (2 ^ 64) head_exact (run_start c.args.bytes.now c.args.r.now c.args.start c.requires) c.in_ok-first.ensures.value good refl c.in_ok-first.ensures.stored

pub returns-in_err-first : goal.returns-in_err-first
unfolding part
returns-in_err-first c =
    let i0 = run_start c.args.bytes.now c.args.r.now c.args.start c.requires in
    let o = numbers_bad (2 ^ 64) head_exact i0 c.in_err-first.ensures.value refl in
    record { value = c.from_residual.ensures ∙ bad_place o; stored = bad_stored o (put_long c.args.r.now 0 22 (omega arith) (stage_room head_exact i0) c.read_numbers.new.out c.in_err-first.ensures.stored.long) }

pub returns-then-stored-gt-CAPACITY : goal.returns-then-stored-gt-CAPACITY
returns-then-stored-gt-CAPACITY c =
    let i1 = head (goal.at.returns-then-stored-gt-CAPACITY c).In_ok-first in
    let o = signals_over i1 c.if-stored-gt-CAPACITY.true in
    record { value = bad_place o; stored = bad_stored o (stages_long i1) }

signals : (c : In_ok-second) → ReadingStages from_signals c.args.bytes.now (run.read c.args.bytes.now c.args.start) c.args.r.now c.in_ok-first.first 22 (put_part c.args.r.now 0 22 c.read_numbers.new.out) → ReadingStages from_visits c.args.bytes.now (run.read c.args.bytes.now c.args.start) c.args.r.now c.in_ok-second.second 342 (put_part (put_part c.args.r.now 0 22 c.read_numbers.new.out) 22 c.stored_end-end.result c.read_numbers-2.new.out)
unfolding part
signals c i1 =
    let good : Bytes c.args.bytes.now = record { each = λ n. omega (arith, c.type_inv.bytes n) } in
    signals_more i1 c.if-stored-gt-CAPACITY.false c.stored_end-end.ensures c.in_ok-second.ensures.value good refl c.in_ok-second.ensures.stored

pub returns-in_err-second : goal.returns-in_err-second
unfolding part
returns-in_err-second c =
    let i1 = head (goal.at.returns-in_err-second c).In_ok-first in
    let e = c.in_err-second.ensures in
    let low = c.if-stored-gt-CAPACITY.false in
    let end = c.stored_end-end.ensures in
    let o = signals_bad i1 low end e.value refl in
    record { value = c.from_residual-in_err-second.ensures ∙ bad_place o; stored = bad_stored o (put_long _ 22 _ (omega (arith, end)) (signals_within i1 low end) c.read_numbers-2.new.out e.stored.long ∙ stages_long i1) }

pub returns-in_err-third : goal.returns-in_err-third
unfolding part
returns-in_err-third c =
    let p = goal.at.returns-in_err-third c in
    let i2 = signals p.In_ok-second (head p.In_ok-first) in
    let e = c.in_err-third.ensures in
    let o = numbers_bad (2 ^ 64) visits_exact i2 e.value refl in
    record { value = c.from_residual-in_err-third.ensures ∙ bad_place o; stored = bad_stored o (put_long _ 342 406 (omega arith) (stage_room visits_exact i2) c.read_numbers-3.new.out e.stored.long ∙ stages_long i2) }

pub read_slots-requires : goal.read_slots-requires
unfolding part
read_slots-requires c =
    let good : Bytes c.args.bytes.now = record { each = λ n. omega (arith, c.type_inv.bytes n) } in
    let p = goal.at.read_slots-requires c in
    let e = c.in_ok-third.ensures in
    stage_ready streaks_exact (numbers_more (2 ^ 64) visits_exact (signals p.In_ok-second (head p.In_ok-first)) e.value good refl e.stored)

pub returns-in_err-fourth : goal.returns-in_err-fourth
unfolding part
returns-in_err-fourth c =
    let good : Bytes c.args.bytes.now = record { each = λ n. omega (arith, c.type_inv.bytes n) } in
    let p = goal.at.returns-in_err-fourth c in
    let e = c.in_ok-third.ensures in
    let i3 = numbers_more (2 ^ 64) visits_exact (signals p.In_ok-second (head p.In_ok-first)) e.value good refl e.stored in
    let f = c.in_err-fourth.ensures in
    let o = stage_refused streaks_exact i3 f.value refl in
    record { value = c.from_residual-in_err-fourth.ensures ∙ bad_place o; stored = bad_stored o (put_long _ 406 534 (omega arith) (stage_room streaks_exact i3) c.read_slots.new.out f.stored.long ∙ stages_long i3) }

pub read_slots-requires-2 : goal.read_slots-requires-2
unfolding part
read_slots-requires-2 c =
    let good : Bytes c.args.bytes.now = record { each = λ n. omega (arith, c.type_inv.bytes n) } in
    let p = goal.at.read_slots-requires-2 c in
    let e = c.in_ok-third.ensures in
    let i3 = numbers_more (2 ^ 64) visits_exact (signals p.In_ok-second (head p.In_ok-first)) e.value good refl e.stored in
    let f = c.in_ok-fourth.ensures in
    stage_ready results_exact (stage_more streaks_exact i3 good f.value refl (stage_stored streaks_exact i3 good f.stored))

pub returns : goal.returns
unfolding part
returns c =
    let good : Bytes c.args.bytes.now = record { each = λ n. omega (arith, c.type_inv.bytes n) } in
    let p = goal.at.returns c in
    let e = c.in_ok-third.ensures in
    let i3 = numbers_more (2 ^ 64) visits_exact (signals p.In_ok-second (head p.In_ok-first)) e.value good refl e.stored in
    let f = c.in_ok-fourth.ensures in
    let i4 = stage_more streaks_exact i3 good f.value refl (stage_stored streaks_exact i3 good f.stored) in
    let g = c.read_slots-2.ensures in
    let z = last_stage results_exact i4 good g.value (stage_stored results_exact i4 good g.stored) in
    record { value = z.0; stored = z.1 }
