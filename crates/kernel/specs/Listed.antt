-- What the code lists, and how it holds a list: as options, with their count.
use Rattle.std.specs.Prelude.{List, map, length, Some, None}
use Rattle.laws.specs.Listing.{padded}
use Rattle.kernel.specs.declared.listed.Listed.{Listed}
use Rattle.kernel.specs.Code.{list_room}

unfoldable pub listed : {A : Type 0} → List A → Listed A
listed xs = record { rows = padded list_room None (map Some xs); count = length xs }
