-- How many notes, and how many endings, an answer has at most.
use Rattle.std.specs.Prelude.{ℕ}

abbrev pub list_room : ℕ
list_room = 65
