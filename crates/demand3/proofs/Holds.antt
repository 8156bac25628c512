-- The proof of demand 3.
use Rattle.graph.specs.Verdict.{Verdict}
use Rattle.std.specs.Prelude.{true, ◌≡◌, refl, List, [], ◌∷◌, ◌++◌, ℕ, zero, suc, ◌+◌, ◌≤◌, Ok, Err, Some, None}
use Rattle.std.proofs.Common.{sym, ◌∙◌, ap, arith}
use Rattle.laws.specs.Bool.{either}
use Rattle.laws.specs.All.{All, all_map}
use Rattle.laws.specs.Every.{every}
use Rattle.workflow.specs.View.{Workflow}
use Rattle.workflow.specs.Sound.{Sound}
use Rattle.model.specs.declared.State.{State}
use Rattle.model.specs.declared.moves.Next.{Next}
use Rattle.model.specs.declared.moves.Next.TheVariants.{Rest, Enter, Take, Consume, Wants, Refuse}
use Rattle.model.specs.Record.{is_terminal, fresh}
use Rattle.model.specs.Store.{listed, stored}
use Rattle.kernel.specs.Drive.{Machine, driven}
use Rattle.kernel.specs.declared.Call.{Call}
use Rattle.kernel.specs.Call.{Answer, next, wants, refused, Last, admission, given, finish_by, transition_by, transition}
use Rattle.demand3.specs.Words.{times, plain}
use Rattle.demand3.specs.Demand3.{Entry, standing_after, standing, next_entry, history, Done, done_by, accepted, signals, in_store, Fate, no_signal, still_stored, has_ended, counts, Demand3, endings, OrderedBefore, applied_were_ordered, all_ended, demand_3}
use Rattle.demand3.proofs.Driver.{Keeps, kept_driven, driven_frozen, driven_hears}
use Rattle.demand3.proofs.Closed.{ended_empty, checked_none_left, closes, live_closed, stands_closed, orders_closed, opens_closed, frozen_closed}
use Rattle.demand3.proofs.History.{Fact, History, fresh_history, one_more}
use Rattle.demand3.specs.Single.{SizedLast, Single, Proper}
use Rattle.demand3.proofs.Single.{admitted, Begins, begins, every_call}

-- After the accepted calls ds: the record that stands, or any fresh one.
abbrev Inv : (f : Workflow) → List Done → Last → Type 0
Inv f ds None = (x : ℕ) → History f ds (fresh x)
Inv f ds (Some s) = History f ds s

sized_last : (f : Workflow) (ds : List Done) (r : Last) → Inv f ds r → SizedLast r
sized_last f ds None i = tt
sized_last f ds (Some s) i = i.sized

given_history : (f : Workflow) (ds : List Done) (r : Last) (c : Call) → Inv f ds r → History f ds (given r c)
given_history f ds None c i = i c.event.input
given_history f ds (Some s) c i = i

-- AN ACCEPTED ANSWER, and what is known of it.
abbrev Told : Workflow → Call → State → Answer → Type 0
Told f c s (next a) = Fact f s c.event a
Told f c s (wants n i b w) = Unit {0}
Told f c s (refused k i) = Unit {0}

record Tells (f : Workflow) (c : Call) (s : State) (x : Answer) : Type 0 where
  tells : Told f c s x

module _ (f : Workflow) (sheet : Sound f) (c : Call) (ds : List Done) (s : State) (i : History f ds s) (b : Begins f s c.event) where
  abbrev x : Machine
  x = driven f c.limits.microsteps c.event c.mappings s

  tells_finish : (n : Next) → Keeps f sheet c.limits.microsteps c.event c.mappings s n 0 x → Tells f c s (finish_by n c.limits x)
  unfolding finish_by
  tells_finish Rest h =
      let y = closes f x h.base.checks.tidy h.base.checks.well (omega (arith, h.base.bounds.few_endings)) in
      either (Tells f c s) _ (λ _. record { tells = tt })
      (λ _. either (Tells f c s) _ (λ _. record { tells = tt })
      (λ _. record {
        tells =
            record {
              ready = record { slotted = b.slotted; nodes = i.sized.visits; counts = i.counts; owner = b.owner };
              sequence = b.sequence;
              live = live_closed f s c.event x h.keeps.live;
              stands = stands_closed f s c.event x h.keeps.stands;
              orders = orders_closed f s c.event x h.keeps.orders;
              frozen = λ o. frozen_closed f s c.event x b.none_left (driven_frozen f sheet c.limits.microsteps c.event c.mappings s o);
              hears = λ k g. driven_hears f sheet c.limits.microsteps c.event c.mappings s k (ap (every plain) (sym y.same_notes) ∙ g);
              checked = y.checked;
              sized = y.sized;
              opens = opens_closed f s c.event x h.opens;
            };
      }))
  tells_finish (Enter n j) h = record { tells = tt }
  tells_finish Take h = record { tells = tt }
  tells_finish Consume h = record { tells = tt }
  tells_finish (Wants n k j) h = record { tells = tt }
  tells_finish (Refuse k) h = record { tells = tt }

  tells_step : Tells f c s (finish_by x.next c.limits x)
  tells_step =
      tells_finish x.next
      (kept_driven f sheet c.limits.microsteps c.event c.mappings s (record { slotted = b.slotted; nodes = i.sized.visits; counts = i.counts; owner = b.owner }) b.tidy)

tells_by : (f : Workflow) (ds : List Done) (r : Last) (c : Call) (v : Verdict) → admission f r c ≡ v → Inv f ds r → Tells f c (given r c) (transition_by v f r c)
unfolding transition_by
tells_by f ds r c (Ok tt) e i =
    let a = admitted f r c e in
    tells_step f a.sheet c ds (given r c) (given_history f ds r c i) (begins f r c (sized_last f ds r i) a)
tells_by f ds r c (Err x) e i = record { tells = tt }

-- ONE CALL MORE, whatever its answer.
more : (f : Workflow) (c : Call) (ds : List Done) (r : Last) (z : Answer) → Inv f ds r → Told f c (given r c) z → Inv f (done_by c.event z ++ ds) (standing_after z r)
more f c ds r (next a) i t = one_more f ds (given r c) (given_history f ds r c i) c.event a t
more f c ds r (wants n j b w) i t = i
more f c ds r (refused k n) i t = i

record Kept (f : Workflow) (h : List Entry) : Type 0 where
  inv : Inv f (accepted h) (standing h)
  each : All (λ y. Single f y.call (counts f y) y.said) h

kept : (f : Workflow) (cs : List Call) (h : List Entry) → Kept f h → Kept f (history f h cs)
unfolding history accepted standing transition
kept f [] h g = g
kept f (c ∷ cs) h g =
    let r = standing h in
    kept f cs (next_entry f h c ∷ h)
    (record {
      inv = more f c (accepted h) r (transition f r c) g.inv (tells_by f (accepted h) r c _ refl g.inv).tells;
      each = (every_call f r c (sized_last f (accepted h) r g.inv), g.each);
    })

at_first : (f : Workflow) → Kept f []
unfolding accepted standing
at_first f = record { inv = λ y. fresh_history f y; each = tt }

all_of : (f : Workflow) (P : Entry → Type 0) (h : List Entry) → ((y : Entry) → Single f y.call (counts f y) y.said → P y) → All (λ y. Single f y.call (counts f y) y.said) h → All P h
all_of f P [] g a = tt
all_of f P (y ∷ h) g a = (g y a.0, all_of f P h g a.1)

fate : (a b c : ℕ) → b + c ≡ a → a ≤ 1 → Fate a b c
fate zero zero zero e h = no_signal
fate zero zero (suc c) e h = absurd (omega arith)
fate zero (suc b) c e h = absurd (omega arith)
fate (suc zero) zero zero e h = absurd (omega arith)
fate (suc zero) zero (suc zero) e h = has_ended
fate (suc zero) zero (suc (suc c)) e h = absurd (omega arith)
fate (suc zero) (suc zero) zero e h = still_stored
fate (suc zero) (suc zero) (suc c) e h = absurd (omega arith)
fate (suc zero) (suc (suc b)) c e h = absurd (omega arith)
fate (suc (suc a)) b c e h = absurd (omega arith)

-- the record that stands, or a fresh one, which holds no signal
told_by : (f : Workflow) (h : List Entry) (s : State) → History f (accepted h) s → Kept f h → ((q : ℕ) → in_store q (standing h) ≡ times q (stored s)) → Demand3 f h
told_by f h s i g z =
    record {
      checked = i.all_checked;
      ordered_once = i.ordered_once;
      applied_once = i.applied_once;
      counts_hold = i.all_counts;
      none_left = all_map _ _ (accepted h) (λ d c o. ended_empty d.answer.state (checked_none_left f d.answer.state c) o) i.all_checked;
      one_fate = λ q. fate _ _ _ (omega (arith, z q, i.conserved q)) (i.once q);
      frozen = i.frozen;
      at_most_130 = all_of f _ h (λ y a. a.few) g.each;
      reported = all_of f _ h (λ y a. a.reports) g.each;
      never_26 = all_of f _ h (λ y a. a.never_26) g.each;
    }

whole : (f : Workflow) (h : List Entry) (r : Last) → standing h ≡ r → Inv f (accepted h) r → Kept f h → Demand3 f h
unfolding times listed
whole f h None e i g = told_by f h (fresh 0) (i 0) g (λ q. ap (in_store q) e)
whole f h (Some s) e i g = told_by f h s i g (λ q. ap (in_store q) e)

-- DEMAND 3.
pub holds : demand_3
holds f calls = let g = kept f calls [] (at_first f) in whole f (history f [] calls) _ refl g.inv g

-- BESIDE IT: what was applied was ordered, every signal of an ended run has ended, and every answer of a list is a proper one.
were_ordered : (f : Workflow) (ds : List Done) (r : Last) → Inv f ds r → OrderedBefore ds
were_ordered f ds None i = (i 0).applied_ordered
were_ordered f ds (Some s) i = i.applied_ordered

pub all_ordered : applied_were_ordered
all_ordered f calls = let h = history f [] calls in were_ordered f (accepted h) (standing h) (kept f calls [] (at_first f)).inv

ended_all : (f : Workflow) (ds : List Done) (r : Last) (s : State) → r ≡ Some s → is_terminal s.status ≡ true → Inv f ds r → (q : ℕ) → endings q ds ≡ signals q ds
unfolding times
ended_all f ds None s e h i q = let w : ◌≡◌ {A = ℕ} 0 1 = cc in absurd (omega arith)
ended_all f ds (Some t) s e h i q =
    let z : s ≡ t = cc in
    omega (arith, i.conserved q, ap (times q) (ended_empty t i.none_left (rw z at h)))

pub every_signal_ended : all_ended
every_signal_ended f calls s e h q = ended_all f _ _ s e h (kept f calls [] (at_first f)).inv q

pub all_proper : (f : Workflow) (calls : List Call) → All (λ y. Proper f y.said) (history f [] calls)
all_proper f calls = all_of f (λ y. Proper f y.said) (history f [] calls) (λ y a. a.proper) (kept f calls [] (at_first f)).each
