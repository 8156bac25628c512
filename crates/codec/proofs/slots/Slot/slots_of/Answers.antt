use Rattle.std.specs.Prelude.{◌≡◌, suc, ◌+◌, ◌*◌, ◌-◌, take}
use Rattle.std.proofs.Common.{◌∙◌, ap}
use native.Mathlib.Omega.{arith}
use Rattle.codec.specs.Numbers.{part}
use Rattle.codec.proofs.SlotsLoops.{same_end}
use Rattle.codec.proofs.slots.Slot.slots_of.Goals as goal

pub returns-clause-rest : goal.returns-clause-rest
unfolding part
returns-clause-rest c =
    let a = c.args in
    let n = (a.self.before + suc a.self.after) * a.k in
    let z : n - 0 ≡ n = omega arith in
    rw z (c.chunks_exact.ensures.rest ∙ ap (λ n. take n a.xs.now) (same_end a.self.before a.self.after a.k c.saturating_add.ensures c.saturating_add-width.ensures (omega (arith, c.requires, c.well_formed))))
