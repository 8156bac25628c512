-- A list of calls of the code is the list of the definition, so demand 3 speaks of the code.
use Rattle.std.specs.List.{filter_map}
use Rattle.std.specs.Prelude.{◌≡◌, refl, List, [], ◌∷◌, ◌++◌, map, length, Some, None}
use Rattle.std.proofs.Common.{sym, ap, subst}
use Rattle.std.proofs.lemmas.List.{length-map}
use Rattle.laws.specs.Listing.{take_padded}
use Rattle.workflow.specs.View.{Workflow}
use Rattle.kernel.specs.declared.Call.{Call}
use Rattle.kernel.specs.Call.{Answer, next, wants, refused, transition}
use Rattle.kernel.specs.Code.{list_room}
use Rattle.kernel.specs.Listed.{listed}
use Rattle.kernel.specs.Decision.{decision_of}
use Rattle.demand3.specs.Demand3.{Entry, next_entry, history, Demand3}
use Rattle.demand3.proofs.Holds.{holds}
use Rattle.demand3.specs.Calls.{Made, rows_of, read, entry, Ran, calls}

-- The rows of a list are the list.
all_rows : {A : Type 0} (xs : List A) → filter_map (λ row. row) (map Some xs) ≡ xs
all_rows [] = refl
all_rows (x ∷ xs) = ap (λ (zs : List _). x ∷ zs) (all_rows xs)

rows_back : {A : Type 0} (xs : List A) → rows_of (listed xs) ≡ xs
unfolding listed
rows_back xs = rw (take_padded None list_room (length xs) (map Some xs) (length-map xs Some)) (all_rows xs)

read_back : (a : Answer) → read (decision_of a) ≡ a
unfolding decision_of
read_back (next a) = rw (rows_back a.notes, rows_back a.endings)
read_back (wants n i b s) = refl
read_back (refused k i) = refl

pub history_more : (f : Workflow) (h : List Entry) (cs : List Call) (c : Call) → history f h (cs ++ (c ∷ [])) ≡ next_entry f (history f h cs) c ∷ history f h cs
unfolding history
history_more f h [] c = refl
history_more f h (d ∷ cs) c = history_more f (next_entry f h d ∷ h) cs c

-- THE LIST.
pub is_history : (f : Workflow) (h : List Made) → Ran f h → map entry h ≡ history f [] (calls h)
unfolding Ran calls history
is_history f [] r = refl
is_history f (x ∷ h) r =
    let g = is_history f h r.1 in
    let a : entry x ≡ next_entry f (map entry h) x.call = rw (r.0.returned_is, read_back (transition f x.given x.call)) (ap (λ w. record { call = x.call; given = w; said = transition f w x.call }) r.0.given_is) in
    rw (history_more f [] (calls h) x.call, sym g) (ap (λ (e : Entry). e ∷ map entry h) a)

pub code_holds : (f : Workflow) (h : List Made) → Ran f h → Demand3 f (map entry h)
code_holds f h r = subst (Demand3 f) (sym (is_history f h r)) (holds f (calls h))
