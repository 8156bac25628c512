use Rattle.std.specs.Prelude.{◌≡◌, None, Some, map, take}
use Rattle.std.proofs.Common.{rules, ap, ◌∙◌}
use Rattle.std.proofs.lemmas.List.{length-map}
use Rattle.laws.specs.Arrays.{length_field}
use Rattle.laws.specs.Listing.{take_padded}
use Rattle.model.specs.Code.{store}
use Rattle.model.specs.Store.{stored, left_over}
use Rattle.model.specs.StoreLaws.{IsSlotted, stored_length, length_left}
use Rattle.kernel.proofs.drive.close.Goals as goal

pub returns : goal.returns
returns c = λ ns es noted ended.
    let s = c.args.state in
    let left = left_over (stored s) in
    -- the array of signals has its slots, and the count is within them
    let z : IsSlotted s = record { long = search (rules, length_field); room = c.requires.signal_count_bound_2 } in
    let all : take s.signal_count c.left_over-left.result ≡ map Some left =
    ap (take s.signal_count) c.left_over-left.ensures ∙ take_padded None store s.signal_count (map Some left) (length-map left Some ∙ length_left (stored s) ∙ stored_length s z) in
    simp (noted, c.append.ensures es left ended all, c.emptied.ensures)
