-- The refusals of document 01: the number of each, in one place, and the refusal of a number.
use Rattle.std.specs.Prelude.{List, [], ◌∷◌, ℕ, eqb}
use Rattle.laws.specs.First.{first}
use Rattle.workflow.specs.declared.refusal.Refusal.{Refusal}

abbrev pub number : Refusal → ℕ
number Refusal.Invariant = 0
number Refusal.Format = 1
number Refusal.Nodes = 3
number Refusal.Start = 5
number Refusal.Limits = 6
number Refusal.ActionPolicy = 7
number Refusal.Activity = 8
number Refusal.AwaitSignal = 9
number Refusal.LoopLimits = 12
number Refusal.Unreached = 14
number Refusal.Unending = 15
number Refusal.Reconcilable = 16
number Refusal.Form = 20
number Refusal.EventUnfit = 21
number Refusal.OutOfSequence = 22
number Refusal.NotStarted = 23
number Refusal.StartedBefore = 24
number Refusal.Inconsistent = 25
number Refusal.MicrostepsExceeded = 26
number Refusal.NoRetry = 27
number Refusal.Unencodable = 28
number Refusal.CommandsExceeded = 29
number Refusal.OperationsExceeded = 30
number Refusal.BadBytes = 31
number Refusal.ShortBuffer = 32

abbrev pub refusals : List Refusal
refusals =
    Refusal.Invariant
    ∷ Refusal.Format
    ∷ Refusal.Nodes
    ∷ Refusal.Start
    ∷ Refusal.Limits
    ∷ Refusal.ActionPolicy
    ∷ Refusal.Activity
    ∷ Refusal.AwaitSignal
    ∷ Refusal.LoopLimits
    ∷ Refusal.Unreached
    ∷ Refusal.Unending
    ∷ Refusal.Reconcilable
    ∷ Refusal.Form
    ∷ Refusal.EventUnfit
    ∷ Refusal.OutOfSequence
    ∷ Refusal.NotStarted
    ∷ Refusal.StartedBefore
    ∷ Refusal.Inconsistent
    ∷ Refusal.MicrostepsExceeded
    ∷ Refusal.NoRetry
    ∷ Refusal.Unencodable
    ∷ Refusal.CommandsExceeded
    ∷ Refusal.OperationsExceeded
    ∷ Refusal.BadBytes
    ∷ Refusal.ShortBuffer
    ∷ []

-- Invariant where there is none.
unfoldable pub refusal_of : (number : ℕ) → Refusal
refusal_of n = first (λ refusal. eqb (number refusal) n) (λ _ refusal. refusal) Refusal.Invariant 0 refusals
