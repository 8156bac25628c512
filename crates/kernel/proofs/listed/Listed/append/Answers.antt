use Rattle.std.specs.Prelude.{◌≡◌}
use native.Mathlib.Omega.{arith}
use Prim.Native.Nat.{◌+◌, ◌-◌}
use lib.ListN.{length}
use mathlib.Core.List.{append_assoc}
use Rattle.std.proofs.Math.Seq.{drop-drop}
use Rattle.laws.specs.Splice.{splice}
use Rattle.kernel.specs.ListedLaws.{listed_more}
use Rattle.kernel.proofs.listed.Listed.append.Goals as goal

pub returns : goal.returns
unfolding splice
returns g c = λ xs ys is more.
    let a = c.args in
    let size : a.self.now.count + length a.more.now - a.self.now.count ≡ length a.more.now = omega arith in
    rw (c.copy_from_slice.ensures.after, size, ← listed_more a.self.now xs is a.more.now ys more c.requires) (simp (append_assoc, drop-drop))
