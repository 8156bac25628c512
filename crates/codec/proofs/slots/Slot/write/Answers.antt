use Prim.Native.Nat.{◌^◌}
use native.Mathlib.Omega.{arith}
use Rattle.codec.proofs.SlotSteps.{lead_fits, unused_written, front_fits, back_fits, used_written}
use Rattle.codec.proofs.slots.Slot.write.Goals as goal

pub write_number-place-requires : goal.write_number-place-requires
write_number-place-requires c =
    let a = c.args in
    lead_fits (2 ^ 64) a.self.before a.self.after a.xs.now c.requires.wide a.out.now a.at c.requires.fits

pub write_numbers-behind-requires : goal.write_numbers-behind-requires
write_numbers-behind-requires c =
    let a = c.args in
    let e = c.write_number-place.ensures in
    front_fits (2 ^ 64) a.self.before a.self.after a.xs.now c.requires.wide a.out.now a.at c.requires.fits e.value e.out_after (λ z. omega (arith, z, c.if-lead-gt0.true))

pub write_numbers-requires : goal.write_numbers-requires
write_numbers-requires c =
    let a = c.args in
    let e = c.write_number-place.ensures in
    let f = c.write_numbers-behind.ensures in
    back_fits (2 ^ 64) a.self.before a.self.after a.xs.now c.requires.wide a.out.now a.at c.requires.fits e.value e.out_after (λ z. omega (arith, z, c.if-lead-gt0.true)) f.value f.out_after

pub returns-then-lead-gt0 : goal.returns-then-lead-gt0
returns-then-lead-gt0 c =
    let a = c.args in
    let e = c.write_number-place.ensures in
    let f = c.write_numbers-behind.ensures in
    let both = used_written (2 ^ 64) a.self.before a.self.after a.xs.now c.requires.wide a.out.now a.at c.requires.fits e.value e.out_after (λ z. omega (arith, z, c.if-lead-gt0.true)) f.value f.out_after c.write_numbers.ensures.value c.write_numbers.ensures.out_after in
    record { value = both.0; out_after = both.1 }

pub returns : goal.returns
returns c =
    let a = c.args in
    let e = c.write_number-place.ensures in
    let both = unused_written (2 ^ 64) a.self.before a.self.after a.xs.now c.requires.wide a.out.now a.at c.requires.fits e.value e.out_after (omega (arith, c.if-lead-gt0.false)) in
    record { value = both.0; out_after = both.1 }
