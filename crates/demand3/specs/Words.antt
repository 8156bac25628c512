-- The words of demand 3 that count: sequence numbers, visits, notes.
use Rattle.std.specs.Prelude.{◌≡◌, Bool, true, false, List, [], ◌∷◌, ℕ, ◌+◌, ◌≤◌, eqb}
use Rattle.laws.specs.Bool.{when◌then◌else◌}
use Rattle.laws.specs.All.{All}
use Rattle.workflow.specs.View.{Workflow}
use Rattle.model.specs.declared.BufferedSignal.{BufferedSignal}
use Rattle.model.specs.declared.Visits.{Visits}
use Rattle.model.specs.declared.answer.Noted.{Noted}
use Rattle.model.specs.declared.answer.Note.{Note}

-- 1 if the number is the sequence number, else 0.
unfoldable pub is_it : (sequence number : ℕ) → ℕ
is_it sequence number = when eqb number sequence then 1 else 0

-- How many of the signals have the sequence number.
unfoldable pub times : (sequence : ℕ) → List BufferedSignal → ℕ
times sequence [] = 0
times sequence (signal ∷ signals) = is_it sequence signal.sequence + times sequence signals

-- All visits of all nodes.
unfoldable pub total : List Visits → ℕ
total [] = 0
total (visits ∷ more) = visits.count + total more

-- The activations are the visits counted, and the sheet's two limits hold.
pub record Counts (sheet : Workflow) (visits : List Visits) (activations : ℕ) : Type 0 where
  pub sum : activations ≡ total visits
  pub each : All (λ visit. visit.count ≤ sheet.max_visits_per_node) visits
  pub few : activations ≤ sheet.max_activations

-- None of the notes 1 to 3.
abbrev pub is_plain : Noted → Bool
is_plain (Noted.Ignored kind) = false
is_plain (Noted.Stale node visit attempt) = false
is_plain (Noted.NotApplicable node visit reason) = false
is_plain (Noted.Overflow event_id) = true
is_plain (Noted.Unrouted event_id outcome) = true
is_plain (Noted.Unknown visit attempt status) = true
is_plain (Noted.Stuck visit attempt code) = true
is_plain (Noted.Retry attempt) = true
is_plain (Noted.Exhausted outcome limit) = true

unfoldable pub plain : Note → Bool
plain note = is_plain note.noted
