use mathlib.Core.Path.{refl}
use Rattle.std.proofs.Common.{rules}
use Rattle.codec.specs.Numbers.{part}
use Rattle.codec.proofs.Loops.{writing_start, writing_room, writing_more, writing_place, writing_end}
use Rattle.in_bytes.proofs.RunLaws.{first_bytes, visits_first, streaks_first, results_first}
use Rattle.in_bytes.proofs.run.write_run.Goals as goal

pub write_numbers-first-requires : goal.write_numbers-first-requires
write_numbers-first-requires c = writing_room (writing_start {list = c.args.out.now} refl c.requires) (first_bytes c.args.r.now c.told-r c.stored_end-end.ensures)

pub write_numbers-second-requires : goal.write_numbers-second-requires
unfolding part
write_numbers-second-requires c =
    let r = c.args.r.now in
    let long = c.told-r in
    let one = c.write_numbers-first.ensures in
    let w1 = writing_more (writing_start {list = c.args.out.now} refl c.requires) (first_bytes r long c.stored_end-end.ensures) one.value one.out_after in
    writing_room w1 (visits_first r long)

pub write_slots-third-requires : goal.write_slots-third-requires
unfolding part
write_slots-third-requires c =
    let r = c.args.r.now in
    let long = c.told-r in
    let one = c.write_numbers-first.ensures in
    let two = c.write_numbers-second.ensures in
    let w1 = writing_more (writing_start {list = c.args.out.now} refl c.requires) (first_bytes r long c.stored_end-end.ensures) one.value one.out_after in
    let w2 = writing_more w1 (visits_first r long) two.value two.out_after in
    record { in_bounds = search rules; fits = writing_room w2 (streaks_first r long) }

pub write_slots-requires : goal.write_slots-requires
unfolding part
write_slots-requires c =
    let r = c.args.r.now in
    let long = c.told-r in
    let one = c.write_numbers-first.ensures in
    let two = c.write_numbers-second.ensures in
    let three = c.write_slots-third.ensures in
    let w1 = writing_more (writing_start {list = c.args.out.now} refl c.requires) (first_bytes r long c.stored_end-end.ensures) one.value one.out_after in
    let w2 = writing_more w1 (visits_first r long) two.value two.out_after in
    let w3 = writing_more w2 (streaks_first r long) three.value three.out_after in
    record { in_bounds = search rules; fits = writing_room w3 (results_first r long) }

pub returns : goal.returns
unfolding part
returns c =
    let r = c.args.r.now in
    let long = c.told-r in
    let one = c.write_numbers-first.ensures in
    let two = c.write_numbers-second.ensures in
    let three = c.write_slots-third.ensures in
    let w1 = writing_more (writing_start {list = c.args.out.now} refl c.requires) (first_bytes r long c.stored_end-end.ensures) one.value one.out_after in
    let w2 = writing_more w1 (visits_first r long) two.value two.out_after in
    let w3 = writing_more w2 (streaks_first r long) three.value three.out_after in
    let w4 = writing_more w3 (results_first r long) c.write_slots.ensures.value c.write_slots.ensures.out_after in
    record { value = writing_place w4 refl; out_after = writing_end w4 refl }
