use borrow.Author.Tests.{le-ltb, lt-ltb}
use Rattle.model.specs.Store.{appended}
use Rattle.laws.specs.Bool.{when◌then◌else◌}
use Rattle.model.proofs.State.append_signal.Goals as goal

pub returns-then-n-ge-STORE : goal.returns-then-n-ge-STORE
unfolding appended when◌then◌else◌
returns-then-n-ge-STORE c = simp (le-ltb _ _ c.if-n-ge-STORE.true)

pub returns : goal.returns
unfolding appended when◌then◌else◌
returns c = simp (lt-ltb _ _ c.if-n-ge-STORE.false)
