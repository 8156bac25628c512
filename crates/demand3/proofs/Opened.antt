-- Where an attempt is open, it is the one that the call orders, or it was open before: what every move keeps of it.
use Rattle.std.specs.Prelude.{◌≡◌, Bool, false, [], ◌∷◌, ℕ, eqb, Option, Some, None, Result, Ok, Err}
use Rattle.std.proofs.Math.Path.{refl}
use Rattle.laws.specs.Bool.{when◌then◌else◌, either}
use Rattle.workflow.specs.View.{Workflow}
use Rattle.model.specs.Code.{scheduled}
use Rattle.model.specs.declared.ErrorInfo.{ErrorInfo}
use Rattle.model.specs.declared.Output.{Output}
use Rattle.model.specs.declared.BufferedSignal.{BufferedSignal}
use Rattle.model.specs.declared.InvocationState.{InvocationState}
use Rattle.model.specs.declared.State.{State}
use Rattle.model.specs.declared.event.Event.{Event}
use Rattle.model.specs.declared.event.Mappings.{Mappings}
use Rattle.model.specs.declared.event.NoValue.{NoValue}
use Rattle.model.specs.declared.event.NoValue.TheVariants.{Fault, Unencodable, Lacking}
use Rattle.model.specs.declared.answer.Order.{Order}
use Rattle.model.specs.declared.answer.Field.{Field}
use Rattle.model.specs.declared.moves.Next.{Next}
use Rattle.model.specs.declared.moves.Next.TheVariants.{Rest, Enter, Take, Consume, Wants, Refuse}
use Rattle.model.specs.declared.moves.Move.{Move}
use Rattle.model.specs.Store.{removed, appended}
use Rattle.model.specs.Step.{arrival, terminate, evaluate, without_value, schedule, enter_activity, enter_await, enter_complete, arrive, enter, follow_to, route_limited, route, take_by, take, retry}
use Rattle.machine.specs.Events.{not_applicable, complete_invocation, stick, fail_invocation, on_signal, on_success, on_failure, on_unknown, on_result, resolve_as_complete, resolve_as_fail, on_resolved, on_ended, react}
use Rattle.demand3.specs.Demand3.{Attempt, attempt, ordered_by}
use Rattle.demand3.proofs.Tidy.{Missed, rests, consumes}

-- The attempt of an invocation.
abbrev pub its_attempt : InvocationState → Attempt
its_attempt i = attempt i.node i.visit i.attempt

-- No attempt is open; the open one is ordered by o; or it is the invocation that was there before.
pub data Opened (before i : InvocationState) (o : Option Order) : Type 0 where
  closed : eqb i.phase scheduled ≡ false → Opened before i o
  orders_it : ordered_by o ≡ its_attempt i ∷ [] → Opened before i o
  as_before : i ≡ before → Opened before i o

module _ (f : Workflow) (before : InvocationState) where
  -- After a move, by what comes next: only one that rests leaves an order.
  abbrev pub After : State → Option Order → Next → Type 0
  After s o Rest = Opened before s.invocation o
  After s o (Enter n b) = Opened before s.invocation None
  After s o Take = Opened before s.invocation None
  After s o Consume = Opened before s.invocation None
  After s o (Wants n i b) = Unit {0}
  After s o (Refuse k) = Unit {0}

  pub record Good (v : Move) : Type 0 where
    pub after : After v.state v.order v.next

  -- what is open before a move
  abbrev pub Still : State → Type 0
  Still s = Opened before s.invocation None

  good_if : (b : Bool) {x y : Move} → Good x → Good y → Good (when b then x else y)
  good_if b p q = either Good b (λ _. p) (λ _. q)

  good_terminate : (s : State) (x : ErrorInfo) → Good (terminate f s x)
  unfolding terminate
  good_terminate s x = record { after = closed refl }

  good_evaluate : (a : Result ℕ NoValue) (s : State) (n : ℕ) (i : Field) (b r : ℕ) (k : ℕ → Move) → ((x : ℕ) → Good (k x)) → Good (evaluate f a s n i b r k)
  unfolding evaluate without_value
  good_evaluate (Ok x) s n i b r k g = g x
  good_evaluate (Err (Fault c d)) s n i b r k g = record { after = (good_terminate s _).after }
  good_evaluate (Err Unencodable) s n i b r k g = record { after = tt }
  good_evaluate (Err Lacking) s n i b r k g = record { after = tt }

  -- the attempt that is opened is the one that is ordered
  good_arrive : (s : State) (n b : ℕ) (m : Mappings) → Good (arrive f s n b m)
  unfolding arrive enter_activity enter_await enter_complete schedule
  good_arrive s n b m =
      good_if _
      (good_evaluate _ s n _ b _ _ (λ x. good_if _ (good_evaluate _ s n _ b _ _ (λ p. record { after = orders_it refl })) (record { after = orders_it refl })))
      (good_if _ (record { after = closed refl })
      (good_if _ (good_evaluate _ s n _ b _ _ (λ x. record { after = closed refl })) (good_terminate s _)))

  pub good_enter : (s : State) (n b : ℕ) (m : Mappings) → Good (enter f s n b m)
  unfolding enter
  good_enter s n b m = good_if _ (record { after = tt }) (good_if _ (good_terminate s _) (good_if _ (good_terminate s _) (good_arrive _ n b m)))

  good_follow : (s : State) (n : ℕ) (x : Option ℕ) → Still s → Good (follow_to f s n x)
  unfolding follow_to
  good_follow s n (Some t) g = record { after = g }
  good_follow s n None g = record { after = tt }

  good_limited : (s : State) (n o : ℕ) (x : Option ℕ) → Still s → Good (route_limited f s n o x)
  unfolding route_limited
  good_limited s n o None g = good_follow _ n _ g
  good_limited s n o (Some x) g = good_if _ (record { after = (good_follow _ n _ g).after }) (good_follow _ n _ g)

  good_route : (s : State) (o : ℕ) (x : Output) → Still s → Good (route f s o x)
  unfolding route
  good_route s o x g = good_if _ (record { after = tt }) (good_limited _ _ o _ g)

  good_take_by : (y : Option ℕ) (s : State) (x : BufferedSignal) {k : Next} → Missed k → Still s → Good (take_by f y s x k)
  unfolding take_by
  good_take_by (Some t) s x m g = record { after = (good_route s _ _ g).after }
  good_take_by None s x rests g = record { after = g }
  good_take_by None s x consumes g = record { after = g }

  pub good_take : (s : State) (x : BufferedSignal) {k : Next} → Missed k → Still s → Good (take f s x k)
  good_take s x m g = good_take_by _ s x m g

  good_retry : (s : State) (d : ℕ) → Good (retry f s d)
  unfolding retry
  good_retry s d = good_if _ (record { after = tt }) (good_if _ (record { after = tt }) (record { after = orders_it refl }))

  good_complete : (s : State) (o : ℕ) (x : Output) → Good (complete_invocation f s o x)
  unfolding complete_invocation
  good_complete s o x = good_route _ o x (closed refl)

  good_fail : (s : State) (k d : ℕ) (p : Bool) → Good (fail_invocation f s k d p)
  unfolding fail_invocation stick
  good_fail s k d p = good_if _ (good_complete s _ _) (good_if _ (record { after = closed refl }) (good_terminate s _))

  good_resolve_as_fail : (x : Option ErrorInfo) (s : State) (e : Event) → Good (resolve_as_fail f x s e)
  unfolding resolve_as_fail
  good_resolve_as_fail (Some x) s e = good_terminate s x
  good_resolve_as_fail None s e = good_fail s _ _ _

  -- THE STORE holds no invocation.
  pub still_removed : (s : State) (i : ℕ) → Still s → Still (removed s i)
  unfolding removed
  still_removed s i g = either Still _ (λ _. g) (λ _. g)

  still_appended : (s : State) (x : BufferedSignal) → Still s → Still (appended s x)
  unfolding appended
  still_appended s x g = either Still _ (λ _. g) (λ _. g)

  -- THE EVENTS.
  good_result : (s : State) (e : Event) → Still s → Good (on_result f s e)
  unfolding on_result on_success on_failure on_unknown
  good_result s e g =
      good_if _ (record { after = g })
      (good_if _ (good_if _ (good_complete s _ _) (good_fail s _ _ _))
      (good_if _ (good_if _ (good_retry s _) (good_if _ (good_fail s _ _ _) (good_fail s _ _ _)))
      (good_if _ (record { after = closed refl }) (good_if _ (good_retry s _) (good_fail s _ _ _)))))

  good_resolved : (s : State) (e : Event) → Still s → Good (on_resolved f s e)
  unfolding on_resolved not_applicable resolve_as_complete
  good_resolved s e g =
      good_if _ (record { after = g })
      (good_if _ (record { after = g })
      (good_if _ (good_if _ (good_complete s _ _) (record { after = g }))
      (good_if _ (good_retry s 0) (good_resolve_as_fail _ s e))))

  pub good_react : (s : State) (e : Event) → Still s → Good (react f s e)
  unfolding react on_ended on_signal
  good_react s e g =
      good_if _ (good_if _ (record { after = g }) (record { after = g }))
      (good_if _ (record { after = g })
      (good_if _ (good_if _ (record { after = g }) (good_if _ (record { after = g }) (record { after = still_appended s (arrival e) g })))
      (good_if _ (good_result s e g)
      (good_if _ (good_resolved s e g) (record { after = g })))))
