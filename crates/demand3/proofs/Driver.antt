-- What the driver keeps: at every moment of a call the moves' laws hold of its machine, with what may still come.
use Rattle.std.specs.Prelude.{◌≡◌, Bool, false, ◌⊎◌, List, [], ◌∷◌, ◌++◌, eqb, ltb, Option, Some, None}
use Rattle.std.proofs.Math.Path.{refl, ap, subst, fun_ext}
use Rattle.std.proofs.Common.{sym, ◌∙◌, inl, arith}
use Rattle.std.proofs.Math.Bool.{true}
use Rattle.std.proofs.Math.Logic.{inr}
use Prim.Native.Nat.{ℕ, zero, suc, ◌+◌, ◌≤◌, ◌<◌}
use borrow.Author.Tests.{ltb-true}
use Rattle.laws.specs.Bool.{when◌then◌else◌, split, both, join, either}
use Rattle.laws.specs.Every.{every}
use Rattle.laws.specs.Settle.{settle, settle_rests}
use Rattle.workflow.specs.View.{Workflow}
use Rattle.workflow.specs.Lookup.{node_of}
use Rattle.workflow.specs.Sound.{Sound}
use Rattle.workflow.specs.declared.refusal.Refusal.{Refusal}
use Rattle.model.specs.declared.State.{State}
use Rattle.model.specs.declared.event.Event.{Event}
use Rattle.model.specs.declared.event.Mappings.{Mappings}
use Rattle.model.specs.declared.answer.Note.{Note}
use Rattle.model.specs.declared.answer.Ending.{Ending}
use Rattle.model.specs.declared.moves.Next.{Next}
use Rattle.model.specs.declared.moves.Next.TheVariants.{Rest, Enter, Take, Consume, Wants, Refuse}
use Rattle.model.specs.declared.moves.Move.{Move}
use Rattle.model.specs.Code.{activity_result}
use Rattle.model.specs.Record.{is_terminal, seen}
use Rattle.model.specs.Store.{first_signal, signal_at, removed}
use Rattle.model.specs.StoreLaws.{first_inside}
use Rattle.model.specs.Step.{still, arrival}
use Rattle.machine.specs.Events.{apply}
use Rattle.kernel.specs.Drive.{Machine, added, moved, counting, consume_by, advance_by, advance, moves_on, is_moving, opened, started, driven}
use Rattle.kernel.specs.Bounds.{Bounds, Bounded, fewer, stopped, bounded_advance, bounded_started}
use Rattle.demand3.specs.Words.{plain}
use Rattle.demand3.proofs.Counts.{ends_of}
use Rattle.demand3.specs.Demand3.{ends}
use Rattle.demand3.proofs.Tidy as Tidy
use Rattle.demand3.proofs.Keep as Keep
use Rattle.demand3.proofs.Keep.{Ready, heard, live_removed, stands_removed, good_waits, frozen, hears}
use Rattle.demand3.proofs.Opened as Opened

-- THE LISTS.
every_front : {A : Type 0} (p : A → Bool) (xs ys : List A) → every p (xs ++ ys) ≡ true → every p xs ≡ true
unfolding every
every_front p [] ys g = refl
every_front p (x ∷ xs) ys g = let h = both _ _ g in join _ _ h.0 (every_front p xs ys h.1)

pub ends_append : (q : ℕ) (xs ys : List Ending) → ends q (xs ++ ys) ≡ ends q xs + ends q ys
unfolding ends
ends_append q [] ys = omega arith
ends_append q (x ∷ xs) ys = omega (arith, ends_append q xs ys)

ends_add : (q : ℕ) (xs : List Ending) (o : Option Ending) → ends q xs + ends_of q o ≡ ends q (added xs o)
unfolding added ends_of ends
ends_add q xs None = omega arith
ends_add q xs (Some x) = omega (arith, ends_append q xs (x ∷ []))

module _ (f : Workflow) (sheet : Sound f) (limit : ℕ) (e : Event) (m : Mappings) where
  -- WHAT IS KEPT k moves before the last, from move to move, and by a machine that has come to rest, holds at the end.
  module _ (P : ℕ → Machine → Type 0) (moves : (k : ℕ) (x : Machine) → P (suc k) x → P k (advance f limit e m x)) (ends : (k : ℕ) (x : Machine) → is_moving f limit e m x ≡ false → P (suc k) x → P 0 x) where
    at_end : (k : ℕ) (x : Machine) → P k x → P 0 (settle (is_moving f limit e m) (advance f limit e m) k x)
    unfolding settle
    at_end zero x a = a
    at_end (suc k) x a = either (P 0) _ (λ _. at_end k _ (moves k x a)) (λ z. ends k x z a)

  -- THE RUN CHECK, on every record that it takes.
  -- Where it stands, by what comes next; a refusal is 27 or 28, or 26 at a limit below 130.
  abbrev Fine : State → Next → Type 0
  Fine s Rest = Tidy.After f s Rest
  Fine s (Enter n b) = Tidy.After f s (Enter n b)
  Fine s Take = Tidy.After f s Take
  Fine s Consume = Tidy.After f s Consume
  Fine s (Wants n i b) = Tidy.After f s (Wants n i b)
  Fine s (Refuse k) = ((k ≡ Refusal.NoRetry) ⊎ (k ≡ Refusal.Unencodable)) ⊎ ((k ≡ Refusal.MicrostepsExceeded) × (limit < 130))

  fine : (s : State) (n : Next) → Tidy.After f s n → Fine s n
  fine s Rest a = a
  fine s (Enter n b) a = a
  fine s Take a = a
  fine s Consume a = a
  fine s (Wants n i b) a = a
  fine s (Refuse k) a = inl a

  -- A machine with n next, and k moves left.
  pub record Checks (n : Next) (k : ℕ) (x : Machine) : Type 0 where
    pub checks : Fine x.state n
    pub bounds : Bounds n k x

  abbrev pub Checked : (k : ℕ) → Machine → Type 0
  Checked k x = Checks x.next k x

  checked_moved : (k j : ℕ) (x : Machine) (v : Move) → Tidy.Good f v → Bounded f limit e m k (moved f limit e m j x v) → Checked k (moved f limit e m j x v)
  checked_moved k j x v t b = record { checks = fine v.state v.next t.after; bounds = b }

  checked_counting : (k : ℕ) (x : Machine) (v : Move) → x.microsteps + 1 ≤ 130 → Tidy.Good f v → Bounded f limit e m k (counting f limit e m x v) → Checked k (counting f limit e m x v)
  unfolding counting when◌then◌else◌
  checked_counting k x v h t =
      split (ltb limit (x.microsteps + 1))
      (λ l. rw l (λ b. record { checks = inr (refl, omega (arith, ltb-true limit (x.microsteps + 1) l)); bounds = b }))
      (λ l. rw l (λ b. checked_moved k (x.microsteps + 1) x v t b))

  checked_consume : (k : ℕ) (x : Machine) → Checks Consume (suc k) x → (y : Option ℕ) → first_signal x.state (node_of f x.state.position.node).signal ≡ y
      → Bounded f limit e m k (consume_by f limit e m y x) → Checked k (consume_by f limit e m y x)
  unfolding consume_by
  checked_consume k x a (Some i) z b =
      let h = first_inside x.state _ i z in
      checked_counting k x _ (omega (arith, a.bounds.steps))
      (Tidy.good_take f sheet (removed x.state i) (signal_at x.state i) Consume Tidy.consumes (Tidy.after_removed f x.state i h a.checks)) b
  checked_consume k x a None z b = checked_moved k x.microsteps x (still x.state Rest) (record { after = record { tidy = a.checks.on.tidy; well = a.checks.well } }) b

  -- a machine at rest stays
  rests : (n : Next) (k j : ℕ) (x : Machine) → Checks n k x → Bounds n j x → Checks n j x
  rests n k j x a b = record { checks = a.checks; bounds = b }

  checked_by : (k : ℕ) (n : Next) (x : Machine) → x.next ≡ n → Checks n (suc k) x → Bounded f limit e m k (advance_by f limit e m n x) → Checked k (advance_by f limit e m n x)
  unfolding advance_by
  checked_by k Rest x z a b = subst (λ (n : Next). Checks n k x) (sym z) (rests Rest (suc k) k x a (subst (λ (n : Next). Bounds n k x) z b))
  checked_by k (Enter n j) x z a b = checked_counting k x _ (omega (arith, a.bounds.steps)) (Tidy.good_enter f sheet x.state n j m a.checks) b
  checked_by k Take x z a b = checked_counting k x _ (omega (arith, a.bounds.steps)) (Tidy.good_take f sheet x.state (arrival e) Rest Tidy.rests a.checks) b
  checked_by k Consume x z a b = checked_consume k x a _ refl b
  checked_by k (Wants n i j) x z a b = subst (λ (w : Next). Checks w k x) (sym z) (rests (Wants n i j) (suc k) k x a (subst (λ (w : Next). Bounds w k x) z b))
  checked_by k (Refuse r) x z a b = subst (λ (n : Next). Checks n k x) (sym z) (rests (Refuse r) (suc k) k x a (subst (λ (n : Next). Bounds n k x) z b))

  checked_advance : (k : ℕ) (x : Machine) → Checked (suc k) x → Checked k (advance f limit e m x)
  checked_advance k x a = checked_by k x.next x refl a (bounded_advance f limit e m k x a.bounds)

  checked_rests : (k : ℕ) (x : Machine) → is_moving f limit e m x ≡ false → Checked (suc k) x → Checked 0 x
  checked_rests k x z a = rests x.next (suc k) 0 x a (fewer f limit e m x.next (suc k) 0 x (omega (arith, stopped f limit e m x.next x.state.signal_count z)) a.bounds)

  checked_started : (s : State) → s.signal_count ≤ 64 → Tidy.Good f (apply f s e) → Checked 131 (started f limit e m s)
  checked_started s r t = checked_moved 131 0 (opened f limit e m s) (apply f s e) t (bounded_started f limit e m s r)

  -- A CALL ends with nothing next, and the run check takes what it hands back.
  pub checked_driven : (s : State) → s.signal_count ≤ 64 → Tidy.Good f (apply f s e) → Checked 0 (driven f limit e m s)
  unfolding driven
  checked_driven s r t = at_end Checked checked_advance checked_rests 131 (started f limit e m s) (checked_started s r t)

  -- WHAT DEMAND 3 COUNTS, on a record that a list of calls came to.
  module _ (s₀ : State) where
    abbrev told : Machine → ℕ → ℕ
    told x q = ends q x.endings

    pub record Keeps (n : Next) (k : ℕ) (x : Machine) : Type 0 where
      pub base : Checks n k x
      pub keeps : Keep.After f s₀ e (told x) x.state x.order n
      pub opens : Opened.After f s₀.invocation x.state x.order n

    abbrev pub Kept : (k : ℕ) → Machine → Type 0
    Kept k x = Keeps x.next k x

    kept_moved : (k j : ℕ) (x : Machine) (v : Move) → Keep.Good f s₀ e (told x) v → Opened.Good f s₀.invocation v → Checked k (moved f limit e m j x v) → Kept k (moved f limit e m j x v)
    kept_moved k j x v g o b =
        record {
          base = b;
          keeps = subst (λ (w : ℕ → ℕ). Keep.After f s₀ e w v.state v.order v.next) (fun_ext (λ q. ends_add q x.endings v.ending)) g.after;
          opens = o.after;
        }

    kept_counting : (k : ℕ) (x : Machine) (v : Move) → Keep.Good f s₀ e (told x) v → Opened.Good f s₀.invocation v → Checked k (counting f limit e m x v) → Kept k (counting f limit e m x v)
    unfolding counting when◌then◌else◌
    kept_counting k x v g o =
        split (ltb limit (x.microsteps + 1))
        (λ l. rw l (λ b. record { base = b; keeps = tt; opens = tt }))
        (λ l. rw l (λ b. kept_moved k (x.microsteps + 1) x v g o b))

    kept_consume : (k : ℕ) (x : Machine) → Keeps Consume (suc k) x → (y : Option ℕ) → first_signal x.state (node_of f x.state.position.node).signal ≡ y
        → Checked k (consume_by f limit e m y x) → Kept k (consume_by f limit e m y x)
    unfolding consume_by
    kept_consume k x a (Some i) z b =
        let s = removed x.state i in
        let g = signal_at x.state i in
        let t = a.base.checks.on.tidy.store.slotted in
        kept_counting k x _
        (Keep.good_take f s₀ e sheet s g Tidy.consumes (live_removed f s₀ e x.state i t (first_inside x.state _ i z) a.keeps.live) (stands_removed f s₀ e x.state i a.keeps.stands))
        (Opened.good_take f s₀.invocation s g Tidy.consumes (Opened.still_removed f s₀.invocation x.state i a.opens)) b
    kept_consume k x a None z b = kept_moved k x.microsteps x (still x.state Rest) (good_waits f s₀ e x.state a.keeps.live a.keeps.stands) (record { after = a.opens }) b

    stays : (n : Next) (k j : ℕ) (x : Machine) → Keeps n k x → Checks n j x → Keeps n j x
    stays n k j x a b = record { base = b; keeps = a.keeps; opens = a.opens }

    kept_by : (k : ℕ) (n : Next) (x : Machine) → x.next ≡ n → Keeps n (suc k) x → Checked k (advance_by f limit e m n x) → Kept k (advance_by f limit e m n x)
    unfolding advance_by
    kept_by k Rest x z a b = subst (λ (n : Next). Keeps n k x) (sym z) (stays Rest (suc k) k x a (subst (λ (n : Next). Checks n k x) z b))
    kept_by k (Enter n j) x z a b = kept_counting k x _ (Keep.good_enter f s₀ e sheet x.state n j m a.keeps.inside a.keeps.live) (Opened.good_enter f s₀.invocation x.state n j m) b
    kept_by k Take x z a b =
        kept_counting k x _ (Keep.good_take f s₀ e sheet x.state (arrival e) Tidy.rests a.keeps.live a.keeps.stands) (Opened.good_take f s₀.invocation x.state (arrival e) Tidy.rests a.opens) b
    kept_by k Consume x z a b = kept_consume k x a _ refl b
    kept_by k (Wants n i j) x z a b = subst (λ (w : Next). Keeps w k x) (sym z) (stays (Wants n i j) (suc k) k x a (subst (λ (w : Next). Checks w k x) z b))
    kept_by k (Refuse r) x z a b = subst (λ (n : Next). Keeps n k x) (sym z) (stays (Refuse r) (suc k) k x a (subst (λ (n : Next). Checks n k x) z b))

    kept_advance : (k : ℕ) (x : Machine) → Kept (suc k) x → Kept k (advance f limit e m x)
    kept_advance k x a = kept_by k x.next x refl a (checked_advance k x a.base)

    kept_rests : (k : ℕ) (x : Machine) → is_moving f limit e m x ≡ false → Kept (suc k) x → Kept 0 x
    kept_rests k x z a = stays x.next (suc k) 0 x a (checked_rests k x z a.base)

    pub kept_driven : Ready f s₀ → Tidy.Good f (apply f s₀ e) → Kept 0 (driven f limit e m s₀)
    unfolding driven ends
    kept_driven r t =
        at_end Kept kept_advance kept_rests 131 (started f limit e m s₀)
        (kept_moved 131 0 (opened f limit e m s₀) (apply f s₀ e) (Keep.good_react f s₀ e sheet r)
        (Opened.good_react f s₀.invocation (seen s₀ e.sequence e.accepted_at) e (Opened.as_before refl)) (checked_started s₀ r.slotted.room t))

    -- An ended run changes only in last sequence and last accepted time.
    pub driven_frozen : is_terminal s₀.status ≡ true → (driven f limit e m s₀).state ≡ seen s₀ e.sequence e.accepted_at
    unfolding driven
    driven_frozen h =
        let r = frozen f (seen s₀ e.sequence e.accepted_at) e h in
        ap (λ (x : Machine). x.state) (settle_rests (is_moving f limit e m) (advance f limit e m) 131 (started f limit e m s₀) (ap (moves_on f limit e m) r.over)) ∙ r.same

    -- With none of the notes 1 to 3 a result was heard: what is noted stays noted.
    plain_before : (xs : List Note) (o : Option Note) → every plain (added xs o) ≡ true → every plain xs ≡ true
    unfolding added
    plain_before xs None g = g
    plain_before xs (Some x) g = every_front plain xs (x ∷ []) g

    plain_counting : (x : Machine) (v : Move) → every plain (counting f limit e m x v).notes ≡ true → every plain x.notes ≡ true
    unfolding counting
    plain_counting x v =
        either (λ (y : Machine). every plain y.notes ≡ true → every plain x.notes ≡ true) (ltb limit (x.microsteps + 1)) (λ _ g. g) (λ _ g. plain_before x.notes v.note g)

    plain_consume : (y : Option ℕ) (x : Machine) → every plain (consume_by f limit e m y x).notes ≡ true → every plain x.notes ≡ true
    unfolding consume_by
    plain_consume (Some i) x g = plain_counting x _ g
    plain_consume None x g = plain_before x.notes None g

    plain_advance : (n : Next) (x : Machine) → every plain (advance_by f limit e m n x).notes ≡ true → every plain x.notes ≡ true
    unfolding advance_by
    plain_advance Rest x g = g
    plain_advance (Enter n b) x g = plain_counting x _ g
    plain_advance Take x g = plain_counting x _ g
    plain_advance Consume x g = plain_consume (first_signal x.state (node_of f x.state.position.node).signal) x g
    plain_advance (Wants n i b) x g = g
    plain_advance (Refuse k) x g = g

    plain_settle : (k : ℕ) (x : Machine) → every plain (settle (is_moving f limit e m) (advance f limit e m) k x).notes ≡ true → every plain x.notes ≡ true
    unfolding settle
    plain_settle zero x = λ g. g
    plain_settle (suc k) x =
        either (λ (y : Machine). every plain y.notes ≡ true → every plain x.notes ≡ true) (is_moving f limit e m x) (λ _ g. plain_advance x.next x (plain_settle k _ g)) (λ _ g. g)

    pub driven_hears : eqb e.kind activity_result ≡ true → every plain (driven f limit e m s₀).notes ≡ true → heard f s₀ e ≡ true
    unfolding driven
    driven_hears k g = hears f (seen s₀ e.sequence e.accepted_at) e k (plain_settle 131 (started f limit e m s₀) g)
