-- Of every single call, on whatever sheet and record: no refusal is 0, which would be the original's internal failures; the run check takes the next record; an answer
-- has at most 65 notes and 65 endings; at most 130 microsteps are come to, an accepted answer reports them, and at a limit of 130 or more none is refused with 26.
use Rattle.std.specs.Prelude.{◌≡◌, ℕ, ◌≤◌, Some, None}
use Rattle.std.proofs.Math.Bool.{true}
use Rattle.std.proofs.Math.ListN.{length}
use Rattle.workflow.specs.View.{Workflow}
use Rattle.workflow.specs.Refusal.{number}
use Rattle.snapshot.specs.Check.{consistent}
use Rattle.kernel.specs.declared.Call.{Call}
use Rattle.kernel.specs.Call.{Answer, next, wants, refused, Last}
use Rattle.demand3.specs.Demand3.{Reports, Not26}
use Rattle.demand3.specs.Tidy.{Sized, Tidies}

-- THE CLAIM, of the answer to a call that came to a count of microsteps.
abbrev pub Proper : Workflow → Answer → Type 0
Proper f (next a) = record { checked : consistent f a.state ≡ true; few_notes : length a.notes ≤ 65; few_endings : length a.endings ≤ 65; sized : Sized a.state }
Proper f (wants n i b w) = Tidies f w
Proper f (refused r i) = number r ≡ 0 → ⊥

pub record Single (f : Workflow) (c : Call) (count : ℕ) (x : Answer) : Type 0 where
  pub proper : Proper f x
  pub few : count ≤ 130
  pub reports : Reports count x
  pub never_26 : Not26 c x

-- The arrays of the record that a call is given have 64 slots each.
abbrev pub SizedLast : Last → Type 0
SizedLast None = Unit {0}
SizedLast (Some s) = Sized s
