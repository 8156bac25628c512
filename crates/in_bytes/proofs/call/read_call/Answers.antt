use mathlib.Core.Path.{refl, ◌∙◌}
use native.Mathlib.Omega.{arith}
use Rattle.codec.specs.Numbers.{part}
use Rattle.codec.specs.Exact.{Bytes}
use Rattle.codec.proofs.PartLaws.{put_part}
use Rattle.codec.proofs.StoredLaws.{bad_place}
use Rattle.in_bytes.proofs.CallSteps.{Limited, limits_bad, limited, limits_blank, sheet_bad, bad_call, call_read}
use Rattle.in_bytes.proofs.call.read_call.Goals as goal
use Rattle.in_bytes.proofs.call.read_call.Goals.{In_ok-first}

pub returns-in_err-first : goal.returns-in_err-first
unfolding part
returns-in_err-first c =
    let b = limits_bad c.args.bytes.now c.args.call.now c.requires.1 c.in_err-first.ensures.value refl in
    record { value = c.from_residual.ensures ∙ bad_place b; call_stored = bad_call b }

limits : (c : In_ok-first) → Limited c.args.bytes.now c.args.call.now (put_part c.args.call.now 0 7 c.read_numbers.new.out) c.in_ok-first.first
unfolding part
limits c =
    let good : Bytes c.args.bytes.now = record { each = λ i. omega (arith, c.type_inv.bytes i) } in
    limited c.args.bytes.now c.args.call.now c.requires.1 c.in_ok-first.ensures.value refl c.in_ok-first.ensures.stored good

pub returns-in_err-second : goal.returns-in_err-second
returns-in_err-second c =
    let b = sheet_bad (limits (goal.at.returns-in_err-second c).In_ok-first) c.in_err-second.ensures.value refl in
    record { value = c.from_residual-in_err-second.ensures ∙ bad_place b; call_stored = bad_call b }

pub read_rest-requires : goal.read_rest-requires
read_rest-requires c = (limits_blank (limits (goal.at.read_rest-requires c).In_ok-first), c.requires.2)

pub returns : goal.returns
returns c =
    let e = c.in_ok-second.ensures in
    let z = call_read (limits (goal.at.returns c).In_ok-first) e.value refl c.requires.0 e.stored c.read_rest.ensures.rest_stored c.read_rest.ensures.value in
    record { value = z.0; call_stored = z.1 }
