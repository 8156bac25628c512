use Rattle.std.proofs.Common.{rules}
use native.Mathlib.Omega.{arith}
use mathlib.Core.Path.{◌≡◌, refl, ◌∙◌}
use lib.ListN.{length}
use Rattle.host.specs.Layout.{call_length}
use Rattle.codec.specs.Numbers.{part}
use Rattle.codec.specs.Exact.{Bytes}
use Rattle.codec.proofs.PartLaws.{put_part}
use Rattle.codec.proofs.StoredLaws.{bad_place}
use Rattle.in_bytes.specs.Call.{rest}
use Rattle.in_bytes.proofs.RestSteps.{Given, EventRead, bad_rest, mark_bad, mark_over, mark_read, given_bad, given_read, event_bad, event_read, count_bad, count_over, count_read, answers_read}
use Rattle.in_bytes.proofs.call.read_rest.Goals as goal
use Rattle.in_bytes.proofs.call.read_rest.Goals.{In_ok-second, In_ok-third}

pub returns-in_err-first : goal.returns-in_err-first
unfolding part
returns-in_err-first c =
    let long : length c.args.call.now ≡ call_length = search rules in
    let b = mark_bad c.args.bytes.now c.args.start c.args.call.now long c.in_err-first.ensures.value refl in
    record { value = c.from_residual.ensures ∙ bad_place b; rest_stored = bad_rest b }

pub returns-then-call-gt1 : goal.returns-then-call-gt1
unfolding part
returns-then-call-gt1 c =
    let long : length c.args.call.now ≡ call_length = search rules in
    let e = c.in_ok-first.ensures in
    let b = mark_over c.args.bytes.now c.args.start c.args.call.now long e.value refl e.stored c.if-call-gt1.true in
    record { value = bad_place b; rest_stored = bad_rest b }

pub returns-in_err-second : goal.returns-in_err-second
unfolding part
returns-in_err-second c =
    let long : length c.args.call.now ≡ call_length = search rules in
    let e = c.in_ok-first.ensures in
    let m = mark_read c.args.bytes.now c.args.start c.args.call.now long e.value refl e.stored c.if-call-gt1.false c.requires.0 in
    let b = given_bad m c.in_err-second.ensures.value refl in
    record { value = c.from_residual-in_err-second.ensures ∙ bad_place b; rest_stored = bad_rest b }

-- The mark and the run are read.
given : (c : In_ok-second) → Given c.args.bytes.now (rest.read c.args.bytes.now c.args.start) c.args.call.now c.in_ok-second.second (put_part c.args.call.now 7 8 c.read_numbers.new.out) c.read_given.new.run
unfolding part
given c =
    let good : Bytes c.args.bytes.now = record { each = λ i. omega (arith, c.type_inv.bytes i) } in
    let long : length c.args.call.now ≡ call_length = search rules in
    let e = c.in_ok-first.ensures in
    let m = mark_read c.args.bytes.now c.args.start c.args.call.now long e.value refl e.stored c.if-call-gt1.false c.requires.0 in
    given_read m c.in_ok-second.ensures.value refl good c.requires.1 c.in_ok-second.ensures.stored

pub returns-in_err-third : goal.returns-in_err-third
unfolding part
returns-in_err-third c =
    let b = event_bad (given (goal.at.returns-in_err-third c).In_ok-second) c.in_err-third.ensures.value refl in
    record { value = c.from_residual-in_err-third.ensures ∙ bad_place b; rest_stored = bad_rest b }

-- The event is read too.
event : (c : In_ok-third) → EventRead c.args.bytes.now (rest.read c.args.bytes.now c.args.start) c.args.call.now c.in_ok-third.third (put_part (put_part c.args.call.now 7 8 c.read_numbers.new.out) 8 27 c.read_numbers-2.new.out) c.read_given.new.run
unfolding part
event c = event_read (given (goal.at.In_ok-third c).In_ok-second) c.in_ok-third.ensures.value refl c.in_ok-third.ensures.stored

pub returns-in_err-fourth : goal.returns-in_err-fourth
unfolding part
returns-in_err-fourth c =
    let b = count_bad (event (goal.at.returns-in_err-fourth c).In_ok-third) c.in_err-fourth.ensures.value refl in
    record { value = c.from_residual-in_err-fourth.ensures ∙ bad_place b; rest_stored = bad_rest b }

pub returns-then-answered-gt2 : goal.returns-then-answered-gt2
unfolding part
returns-then-answered-gt2 c =
    let e = c.in_ok-fourth.ensures in
    let b = count_over (event (goal.at.returns-then-answered-gt2 c).In_ok-third) e.value refl e.stored c.if-answered-gt2.true in
    record { value = bad_place b; rest_stored = bad_rest b }

pub returns : goal.returns
unfolding part
returns c =
    let e = c.in_ok-fourth.ensures in
    let k = count_read (event (goal.at.returns c).In_ok-third) e.value refl e.stored c.if-answered-gt2.false in
    let z = answers_read k refl c.read_numbers-4.ensures.value c.read_numbers-4.ensures.stored in
    record { value = z.0; rest_stored = z.1 }
