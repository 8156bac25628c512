use mathlib.Core.Path.{◌≡◌, refl, ap, ◌∙◌}
use Prim.Native.Nat.{ℕ, ◌-◌}
use native.Mathlib.Omega.{arith}
use lib.ListN.{length}
use mathlib.Core.List.{List}
use Rattle.std.specs.Borrow.{Bor}
use Rattle.std.proofs.lemmas.List.{set-get_or}
use Rattle.codec.proofs.NumbersLaws.{tested_below}
use Rattle.codec.proofs.StoredLaws.{value_got, value_bad, bad_place, bad_stored, got_place, got_stored}
use Rattle.codec.proofs.NumbersLoops.{reading_start, reading_long, reading_bad, reading_more, reading_end}
use Rattle.codec.proofs.numbers.read_numbers.Goals as goal

pub loop-x-init : goal.loop-x-init
loop-x-init g c =
    let out = c.args.out.now in
    let e = c.new-reader.ensures in
    let z : length out - 0 ≡ length out = omega arith in
    let n = g.met.T.Unsigned.as_long out in
    record { same = ap (λ (r : Bor (List ℕ)). r.now) e.0; reading = rw e.1 (rw z at (reading_start {top = g.T.Unsigned.top} {bytes = c.args.bytes.now} {list = g.T.Unsigned.as_numbers out} {first = 0} {end = length out} {at = c.args.start} (omega arith) (omega arith))) }

pub returns-in_err-number : goal.returns-in_err-number
returns-in_err-number g c =
    let inv = c.loop-x.invariant in
    let none = reading_bad inv.reading (rw inv.same at (value_bad c.in_err-number.ensures.value refl)) c.loop-x-test.true in
    record { value = c.from_residual.ensures ∙ bad_place none; stored = rw set-get_or (bad_stored none (reading_long inv.reading)) }

pub narrowed-requires : goal.narrowed-requires
narrowed-requires g c = (tested_below g.T.Unsigned.top _ _ _ (value_got c.in_ok-number.ensures.value refl)).1

pub loop-x-preserved : goal.loop-x-preserved
loop-x-preserved g c =
    let inv = c.loop-x.invariant in
    let e = c.in_ok-number.ensures in
    let more = reading_more inv.reading (rw inv.same at (value_got e.value refl)) c.loop-x-test.true in
    record {
      same = ap (λ (r : Bor (List ℕ)). r.now) e.bytes_unchanged.0 ∙ inv.same;
      reading = rw (e.bytes_unchanged.1, g.met.T.Unsigned.set_in c.loop-x.out c.loop-x.x-index c.narrowed.result, c.narrowed.ensures) more;
    }

pub returns : goal.returns
returns g c =
    let inv = c.loop-x.invariant in
    let all = reading_end inv.reading c.loop-x-test.false in
    record { value = got_place all; stored = got_stored all inv.reading.so_far (reading_long inv.reading) }
