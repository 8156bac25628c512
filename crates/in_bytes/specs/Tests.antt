-- What the code tests: where a read ends, and whether a node of a run is used.
use Rattle.std.specs.Prelude.{Bool, Option, Some, None, false, ◌&&◌, List, ℕ, ◌+◌, eqb}
use Rattle.host.specs.Layout.{visits_place, streak_place, result_place}
use Rattle.host.specs.Read.{at}

-- What was read ends where the bytes end.
unfoldable pub ends_at : (size : ℕ) → Option ℕ → Bool
ends_at size (Some next) = eqb next size
ends_at size None = false

-- A node has no visits, and the leads of its streak and its result are 0.
unfoldable pub unused : List ℕ → ℕ → Bool
unused numbers node = eqb (at numbers (visits_place node)) 0 && eqb (at numbers (streak_place node + 1)) 0 && eqb (at numbers (result_place node + 2)) 0
