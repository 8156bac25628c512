use native.Mathlib.Omega.{arith}
use mathlib.Core.Path.{refl}
use Rattle.host.specs.Write.{head_numbers}
use Rattle.host.proofs.WriteLaws.{wrote_first, wrote_next, length_scalars, length_kept, length_output}
use Rattle.host.specs.Layout.{record_error, record_result, record_stored}
use Rattle.host.proofs.WriteRowsLaws.{put_spliced}
use Rattle.host.proofs.write.write_head.Goals as goal

pub returns : goal.returns
unfolding head_numbers
returns c =
    let w1 = wrote_first c.scalars-first.ensures (length_scalars _) c.write.ensures in
    let w2 = wrote_next w1 c.kept_numbers-kept.ensures (length_kept _) (omega arith) (omega (arith, c.requires)) (put_spliced _ _ _ record_error (omega arith) c.write-2.ensures) in
    let w3 = wrote_next w2 c.numbers-ended.ensures (length_output _) (omega arith) (omega (arith, c.requires)) (put_spliced _ _ _ record_result (omega arith) c.write-3.ensures) in
    let w4 = wrote_next w3 (rw c.from.ensures) refl (omega arith) (omega (arith, c.requires)) (put_spliced _ _ _ record_stored (omega arith) c.write-4.ensures) in
    w4.so_far
