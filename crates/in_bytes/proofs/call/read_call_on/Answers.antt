use mathlib.Core.Path.{refl, ◌∙◌}
use native.Mathlib.Omega.{arith}
use Rattle.codec.specs.Numbers.{part}
use Rattle.codec.specs.Exact.{Bytes}
use Rattle.codec.proofs.PartLaws.{put_part}
use Rattle.codec.proofs.StoredLaws.{bad_place}
use Rattle.in_bytes.proofs.CallSteps.{Limited, on_bad, limited, limits_blank, bad_on, on_read}
use Rattle.in_bytes.proofs.call.read_call_on.Goals as goal
use Rattle.in_bytes.proofs.call.read_call_on.Goals.{In_ok-next}

pub returns-in_err-next : goal.returns-in_err-next
unfolding part
returns-in_err-next c =
    let b = on_bad c.args.bytes.now c.args.call.now c.requires.0 c.in_err-next.ensures.value refl in
    record { value = c.from_residual.ensures ∙ bad_place b; on_stored = bad_on b }

limits : (c : In_ok-next) → Limited c.args.bytes.now c.args.call.now (put_part c.args.call.now 0 7 c.read_numbers.new.out) c.in_ok-next.next
unfolding part
limits c =
    let good : Bytes c.args.bytes.now = record { each = λ i. omega (arith, c.type_inv.bytes i) } in
    limited c.args.bytes.now c.args.call.now c.requires.0 c.in_ok-next.ensures.value refl c.in_ok-next.ensures.stored good

pub read_rest-requires : goal.read_rest-requires
read_rest-requires c = (limits_blank (limits (goal.at.read_rest-requires c).In_ok-next), c.requires.1)

pub returns : goal.returns
returns c =
    let z = on_read (limits (goal.at.returns c).In_ok-next) c.read_rest.ensures.rest_stored c.read_rest.ensures.value in
    record { value = z.0; on_stored = z.1 }
