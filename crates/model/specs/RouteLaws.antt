-- Between the step rules and their code: routing and the next attempt, worked out before they are stored in a record.
use Rattle.std.specs.Prelude.{◌≡◌, Option, Some, None, Bool}
use Rattle.std.proofs.Math.Path.{refl}
use Rattle.std.proofs.Math.Bool.{true, false}
use Prim.Native.Nat.{ℕ, ◌+◌, ◌<◌}
use Rattle.std.proofs.Math.Dec.{leb}
use Rattle.laws.specs.Bool.{when◌then◌else◌}
use Rattle.workflow.specs.Code.{exhausted}
use Rattle.model.specs.Code.{running}
use Rattle.workflow.specs.View.{Workflow}
use Rattle.workflow.specs.Lookup.{node_of, route_of}
use Rattle.workflow.specs.declared.refusal.Refusal.{Refusal}
use Rattle.model.specs.declared.BufferedSignal.{BufferedSignal}
use Rattle.model.specs.declared.Streak.{Streak}
use Rattle.model.specs.declared.State.{State}
use Rattle.model.specs.declared.answer.Ending.{Ending}
use Rattle.model.specs.declared.answer.Noted.{Noted}
use Rattle.model.specs.declared.answer.Note.{Note}
use Rattle.model.specs.declared.retry.Attempt.{Attempt}
use Rattle.model.specs.declared.route.Routing.{Routing}
use Rattle.model.specs.declared.route.Stored.{Stored}
use Rattle.model.specs.declared.route.Routed.{Routed}
use Rattle.model.specs.declared.moves.Next.{Next}
use Rattle.model.specs.declared.moves.Next.TheVariants.{Rest, Enter, Take, Consume, Wants, Refuse}
use Rattle.model.specs.declared.moves.Move.{Move}
use Rattle.model.specs.Record.{placed, no_streak, streak_of, with_streak, with_result}
use Rattle.model.specs.Store.{first_signal, signal_at, removed}
use Rattle.model.specs.Step.{streak_count, still, noting, follow_to, route_limited, take}

-- The outcome that is followed, the next streak and the note.
abbrev pub exhausts : (node outcome limit : ℕ) → Routing
exhausts n o x = record { streak = no_streak; outcome = exhausted; note = Some (record { node = n; noted = Noted.Exhausted o x }) }

abbrev pub goes_on : (outcome : ℕ) → Streak → Routing
goes_on o k = record { streak = k; outcome = o; note = None }

unfoldable pub routing_of : Option ℕ → Streak → (node outcome : ℕ) → Routing
routing_of None k n o = goes_on o no_streak
routing_of (Some x) k n o = when leb x (streak_count k o) then exhausts n o x else goes_on o (record { outcome = o; count = streak_count k o + 1 })

-- Where a route leads.
unfoldable pub next_of : Option ℕ → (node : ℕ) → Next
next_of (Some t) n = Enter t n
next_of None n = Refuse Refusal.Invariant

-- A node that is there routes: what the code works out one by one is the move.
module _ (f : Workflow) (s : State) (n : ℕ) where
  abbrev along : Routing → Move
  along y = record { state = with_streak s n y.streak; next = next_of (route_of f n y.outcome) n; note = y.note; ending = None; order = None; read = 0 }

  pub follow_on : (x : Option ℕ) → follow_to f s n x ≡ still s (next_of x n)
  unfolding follow_to next_of
  follow_on (Some t) = refl
  follow_on None = refl

module _ (f : Workflow) (s : State) (n o : ℕ) where
  either_way : (b : Bool) (x : ℕ) (k : Streak) → (when b then noting n (Noted.Exhausted o x) (follow_to f (with_streak s n no_streak) n (route_of f n exhausted)) else follow_to f (with_streak s n k) n (route_of f n o)) ≡ along f s n (when b then exhausts n o x else goes_on o k)
  unfolding when◌then◌else◌
  either_way true x k = rw (follow_on f (with_streak s n no_streak) n (route_of f n exhausted))
  either_way false x k = follow_on f (with_streak s n k) n (route_of f n o)

  pub route_along : (l : Option ℕ) → route_limited f s n o l ≡ along f s n (routing_of l (streak_of s n) n o)
  unfolding route_limited routing_of
  route_along None = follow_on f (with_streak s n no_streak) n (route_of f n o)
  route_along (Some x) = either_way (leb x (streak_count (streak_of s n) o)) x (record { outcome = o; count = streak_count (streak_of s n) o + 1 })

-- WHAT IS STORED AND SAID, as the code works it out before it stores it: what it makes of a record.
abbrev pub stored_by : State → (node : ℕ) → Option Stored → State
stored_by s n (Some x) = with_streak (with_result s n x.result) n x.streak
stored_by s n None = s

abbrev pub said : State → Routed → Move
said s r = record { state = s; next = r.next; note = r.note; ending = r.ending; order = None; read = 0 }

abbrev pub made : State → Routed → Move
made s r = said (stored_by s s.position.node r.stored) r

-- Where something is stored, the node has its slot.
abbrev pub HasSlot : State → Option Stored → Type 0
HasSlot s o = (x : Stored) → o ≡ Some x → s.position.node < 64

abbrev pub unstored : Next → Option Note → Option Ending → Routed
unstored n t e = record { stored = None; next = n; note = t; ending = e }

-- THE MOVE THAT TAKES A SIGNAL, by what comes next. The store gives its oldest signal of the name that the node waits for; with none the run goes on waiting.
unfoldable pub consumed : Workflow → State → Option ℕ → Move
consumed f s (Some i) = take f (removed s i) (signal_at s i) Consume
consumed f s None = still s Rest

unfoldable pub taking : Workflow → State → Next → (arrived : BufferedSignal) → Move
taking f s Rest x = still s Rest
taking f s (Enter n c) x = still s (Enter n c)
taking f s Take x = take f s x Rest
taking f s Consume x = consumed f s (first_signal s (node_of f s.position.node).signal)
taking f s (Wants n i c) x = still s (Wants n i c)
taking f s (Refuse n) x = still s (Refuse n)

-- WHAT THE NEXT ATTEMPT MAKES of a record.
abbrev pub tried : State → Option Attempt → Move
tried s (Some r) = record { state = placed s running s.position r.invocation; next = Rest; note = Some r.note; ending = None; order = Some r.order; read = 0 }
tried s None = still s (Refuse Refusal.NoRetry)
