-- Slots of a fixed width, each with a lead: where the lead is 0 the slot is unused, and all of it is 0.
use Rattle.std.specs.Prelude.{true, [], ◌∷◌, ◌++◌, ℕ, zero, suc, ◌+◌, ◌*◌, eqb, length, get_or, take, drop, replicate}
use Rattle.laws.specs.Bool.{when◌then◌else◌, ◌and◌}
use Rattle.codec.specs.Read.{got, onward}
use Rattle.codec.specs.Numbers.{number_below, numbers_at, all_below}
use Rattle.codec.specs.Stages.{Shape, numbers, beside, all_zero}

-- In the bytes the lead stands first, and behind it, where it is not 0, the numbers before it and those after it.
unfoldable pub slot : (top before after : ℕ) → Shape
slot top before after =
    record {
      width = before + suc after;
      read = λ bytes at. onward (number_below top bytes at) (λ lead p.
          when eqb lead 0 then got (replicate (before + suc after) 0) p else
          onward (numbers_at top before bytes p) (λ xs q. onward (numbers_at top after bytes q) (λ ys r. got (xs ++ (lead ∷ ys)) r)));
      fields = λ ns. when eqb (get_or ns before 0) 0 then 0 ∷ [] else get_or ns before 0 ∷ take before ns ++ drop (suc before) ns;
      tidy = λ ns. eqb (length ns) (before + suc after) and all_below top ns and (when eqb (get_or ns before 0) 0 then all_zero ns else true);
    }

unfoldable pub slots : (top before after k : ℕ) → Shape
slots top before after zero = numbers 0 0
slots top before after (suc k) = beside (slot top before after) (λ _. slots top before after k) ((before + suc after) * k)
