-- What is written of a struct is what is written of its numbers, and is read back as the struct.
use Rattle.std.specs.Prelude.{◌≡◌, Bool, true, false, eqb, get_or, take}
use Rattle.std.proofs.Math.Path.{refl, sym, ap}
use Rattle.std.proofs.Common.{◌∙◌, take_at}
use mathlib.Core.List.{List, [], ◌∷◌, ◌++◌, flat_map, append_assoc, append-nil}
use Prim.Native.Nat.{ℕ, zero, suc, ◌+◌, ◌*◌, ◌^◌, ◌≤◌, ◌<◌}
use Rattle.std.proofs.Math.Nat.{mul-suc}
use native.Mathlib.Omega.{arith}
use Rattle.std.proofs.Math.ListN.{length}
use Rattle.std.proofs.Math.Seq.{take_all, drop_at, take-append-add}
use borrow.Author.Tests.{eq-eqb}
use Rattle.laws.specs.Bool.{when◌then◌else◌}
use Rattle.laws.specs.Rows.{rows, rows_all}
use Rattle.model.specs.declared.Streak.{Streak}
use Rattle.model.specs.declared.NodeResult.{NodeResult}
use Rattle.model.specs.declared.State.{State}
use Rattle.model.specs.declared.event.Event.{Event}
use Rattle.model.specs.Store.{stored, listed}
use Rattle.host.specs.Layout as layout
use Rattle.host.specs.Read.{record_of, event_of, record_fits}
use Rattle.host.specs.Write.{signal_numbers, visits_numbers, streak_numbers, result_numbers, head_numbers, record_numbers, marked, event_numbers}
use Rattle.host.proofs.WriteLaws.{Whole, length_head, length_signal, length_visits, length_streak, length_result, length_record, flat_size, record_laid, head_stored}
use Rattle.host.proofs.Cases.{small, name_small, code_small}
use Rattle.host.proofs.Round.{record_back, fits_read, event_field}
use Rattle.host.proofs.RecordSame.{record_back_whole}
use Rattle.codec.specs.Numbers.{all_below}
use Rattle.codec.specs.Stages.{Stage, numbers, column, beside, staged}
use Rattle.codec.specs.Slots.{slot, slots}
use Rattle.codec.proofs.SlotsLaws.{slots_width}
use Rattle.codec.specs.Exact.{Bytes}
use Rattle.in_bytes.specs.Run.{single_numbers, stored_signals, all_visits, all_streaks, all_results, run}
use Rattle.in_bytes.proofs.RunLaws.{run_width}
use Rattle.in_bytes.specs.Event.{event, event_call, event_fits}
use Rattle.in_bytes.specs.Boundary.{done, write_run, write_event, read_run, read_event}
use Rattle.in_bytes.proofs.BothWays.{passed, run_read, run_back, run_only, event_read, event_back as numbers_back, event_only as numbers_only}
use Rattle.in_bytes.specs.Structs.{streak_fields, result_fields, state_fields, of_state, of_event}

-- THE NUMBERS OF A RUN. The fields of one stage behind another.
stage_fields : (stage : Stage) (stages : List Stage) (seen xs rest : List ℕ) → length xs ≡ (stage.shape seen).width → (staged (stage ∷ stages) seen).fields (xs ++ rest) ≡ (stage.shape seen).fields xs ++ (staged stages (seen ++ xs)).fields rest
unfolding staged beside
stage_fields stage stages seen xs rest n = let w = (stage.shape seen).width in rw (take_at xs rest w n, drop_at xs rest w n)

no_stage_fields : (seen : List ℕ) → (staged [] seen).fields [] ≡ []
unfolding staged numbers
no_stage_fields seen = refl

-- rows, each of w numbers
module _ {A : Type 0} (f : A → List ℕ) (w : ℕ) (wide : (x : A) → length (f x) ≡ w) where
  -- the first of them
  flat_take : (k : ℕ) (xs : List A) → take (w * k) (flat_map f xs) ≡ flat_map f (take k xs)
  unfolding flat_map
  flat_take zero xs = let e : w * 0 ≡ 0 = omega arith in rw e
  flat_take (suc k) [] = take_all (w * suc k) [] (omega arith)
  flat_take (suc k) (x ∷ xs) =
      let n = wide x in
      let e : w * suc k ≡ length (f x) + w * k = rw mul-suc (omega arith) in
      rw e (take-append-add (f x) (flat_map f xs) (w * k) ∙ ap (λ (r : List ℕ). f x ++ r) (flat_take k xs))

  -- each in a slot
  slots_fields : (g : A → List ℕ) (top before after : ℕ) → w ≡ before + suc after → ((x : A) → (slot top before after).fields (f x) ≡ g x) → (n : ℕ) (xs : List A) → length xs ≡ n → (slots top before after n).fields (flat_map f xs) ≡ flat_map g xs
  unfolding slots slot beside numbers flat_map
  slots_fields g top before after is each zero [] n = refl
  slots_fields g top before after is each zero (x ∷ xs) n = absurd (omega arith)
  slots_fields g top before after is each (suc k) [] n = absurd (omega arith)
  slots_fields g top before after is each (suc k) (x ∷ xs) n =
      let m : length (f x) ≡ before + suc after = wide x ∙ is in
      rw (take_at (f x) (flat_map f xs) (before + suc after) m, drop_at (f x) (flat_map f xs) (before + suc after) m) (rw (each x, slots_fields g top before after is each k xs (omega arith)))

streak_slot : (x : Streak) → (slot (2 ^ 64) 1 0).fields (streak_numbers x) ≡ streak_fields x
unfolding slot streak_numbers streak_fields
streak_slot x = refl

result_slot : (x : NodeResult) → (slot (2 ^ 64) 2 3).fields (result_numbers x) ≡ result_fields x
unfolding slot result_numbers result_fields
result_slot x = refl

module _ (s : State) (h : Whole s) where
  abbrev signals : List ℕ
  signals = flat_map signal_numbers s.signals

  abbrev visits : List ℕ
  visits = flat_map visits_numbers s.visits

  abbrev streaks : List ℕ
  streaks = flat_map streak_numbers s.streaks

  abbrev results : List ℕ
  results = flat_map result_numbers s.results

  -- the store's signals are the first of the slots
  signals_listed : (stored_signals.shape (head_numbers s)).fields signals ≡ flat_map signal_numbers (stored s)
  unfolding column listed
  signals_listed = rw (head_stored s) (flat_take signal_numbers layout.signal_width length_signal s.signal_count s.signals)

  pub state_fields_are : run.fields (record_numbers s) ≡ state_fields s
  unfolding run state_fields numbers column
  state_fields_are =
      let a = flat_size signal_numbers layout.store length_signal s.signals h.signals in
      let b = flat_size visits_numbers layout.nodes length_visits s.visits h.visits in
      let c = flat_size streak_numbers layout.nodes length_streak s.streaks h.streaks ∙ sym (slots_width (2 ^ 64) 1 0 layout.nodes) in
      let d = flat_size result_numbers layout.nodes length_result s.results h.results ∙ sym (slots_width (2 ^ 64) 2 3 layout.nodes) in
      let after_visits = head_numbers s ++ signals ++ visits in
      rw (
        record_laid s,
        stage_fields single_numbers (stored_signals ∷ all_visits ∷ all_streaks ∷ all_results ∷ []) [] (head_numbers s) (signals ++ (visits ++ (streaks ++ (results ++ [])))) (length_head s),
        stage_fields stored_signals (all_visits ∷ all_streaks ∷ all_results ∷ []) (head_numbers s) signals (visits ++ (streaks ++ (results ++ []))) a,
        stage_fields all_visits (all_streaks ∷ all_results ∷ []) (head_numbers s ++ signals) visits (streaks ++ (results ++ [])) b,
        stage_fields all_streaks (all_results ∷ []) after_visits streaks (results ++ []) c,
        stage_fields all_results [] (after_visits ++ streaks) results [] d,
        no_stage_fields (after_visits ++ streaks ++ results),
        signals_listed,
        slots_fields streak_numbers layout.streak_width length_streak streak_fields (2 ^ 64) 1 0 refl streak_slot layout.nodes s.streaks h.streaks,
        slots_fields result_numbers layout.result_width length_result result_fields (2 ^ 64) 2 3 refl result_slot layout.nodes s.results h.results,
      ) (simp (append_assoc, append-nil))

  -- A state is written as its numbers are.
  pub state_written : (room : ℕ) {ns : List ℕ} → ns ≡ record_numbers s → write_run ns room ≡ of_state s room
  unfolding write_run of_state when◌then◌else◌
  state_written room e = rw (e, eq-eqb (length (record_numbers s)) layout.record_length (length_record s h), state_fields_are)

length_event : (e : Event) → length (event_numbers e) ≡ layout.event_length
unfolding event_numbers
length_event e = refl

pub event_written : (e : Event) (room : ℕ) {ns : List ℕ} → ns ≡ event_numbers e → write_event ns room ≡ of_event e room
unfolding write_event of_event event numbers when◌then◌else◌
event_written e room is = rw (is, eq-eqb (length (event_numbers e)) layout.event_length (length_event e))

-- BOTH WAYS. What is written of a state is read as its numbers, which are the state's; and bytes from which a run is read are what is written of its state.
pub state_back : (s : State) → Whole s → (room : ℕ) {size : ℕ} {bytes : List ℕ} → of_state s room ≡ done size bytes → (read_run bytes layout.record_length ≡ done 0 (record_numbers s)) × (record_of (record_numbers s) ≡ s)
unfolding of_state
state_back s h room e = let fits = (passed (record_fits (record_numbers s)) layout.bad_record 0 _ e).0 in (run_back (record_numbers s) room (state_written s h room refl ∙ e), record_back_whole s h fits)

pub state_only : (ns bytes : List ℕ) (room : ℕ) {size : ℕ} → Bytes bytes → read_run bytes layout.record_length ≡ done size ns → length bytes ≤ room → of_state (record_of ns) room ≡ done (length bytes) bytes
state_only ns bytes room good e h =
    let r = run_read ns bytes good e in
    let f = fits_read ns r.fit in
    let whole : Whole (record_of ns) = record { signals = f.signals_long; visits = f.visits_long; streaks = f.streaks_long; results = f.results_long } in
    sym (state_written (record_of ns) whole room (sym (record_back ns r.fit (r.long ∙ run_width)))) ∙ run_only ns bytes room good e h

-- What is written of an event, whose numbers have 64 bits, is read as them, and they are the event's.
mark_back : (is : Bool) → eqb (marked is) 1 ≡ is
unfolding when◌then◌else◌
mark_back true = refl
mark_back false = refl

module _ (e : Event) (fits : event_fits (event_numbers e) ≡ true) where
  event_is : event_of (event_call (event_numbers e)) ≡ e
  unfolding event_of event_call event_numbers
  event_is =
      let field = event_field (event_call (event_numbers e)) fits in
      rw (
        small e.event_id (field 0 (omega arith)),
        small e.kind (field 1 (omega arith)),
        small e.input (field 2 (omega arith)),
        name_small e.signal (field 3 (omega arith)),
        name_small e.outcome (field 4 (omega arith)),
        small e.«data» (field 5 (omega arith)),
        name_small e.node (field 6 (omega arith)),
        small e.visit (field 7 (omega arith)),
        small e.attempt (field 8 (omega arith)),
        small e.status (field 9 (omega arith)),
        small e.output (field 10 (omega arith)),
        code_small e.code (field 12 (omega arith)),
        small e.detail (field 13 (omega arith)),
        small e.resolution (field 15 (omega arith)),
        mark_back e.has_error,
        mark_back e.retryable,
      )

pub event_back : (e : Event) → all_below (2 ^ 64) (event_numbers e) ≡ true → (room : ℕ) {size : ℕ} {bytes : List ℕ} → of_event e room ≡ done size bytes → (read_event bytes layout.event_length ≡ done 0 (event_numbers e)) × (event_of (event_call (event_numbers e)) ≡ e)
unfolding of_event
event_back e below room o = let fits = (passed (event_fits (event_numbers e)) layout.bad_call 0 _ o).0 in (numbers_back (event_numbers e) room below (event_written e room refl ∙ o), event_is e fits)

-- Numbers of an event that fit are those of the event that is read from them; f gives them by their places.
mark_again : (x : ℕ) → x < 2 → marked (eqb x 1) ≡ x
unfolding when◌then◌else◌
mark_again zero h = refl
mark_again (suc zero) h = refl
mark_again (suc (suc x)) h = absurd (omega arith)

module _ (f : ℕ → ℕ) (fits : event_fits (rows f 0 layout.event_length) ≡ true) where
  numbers_again : event_numbers (event_of (event_call (rows f 0 layout.event_length))) ≡ rows f 0 layout.event_length
  unfolding event_of event_call event_numbers rows
  numbers_again =
      let field = event_field (event_call (rows f 0 layout.event_length)) fits in
      rw (
        small (f 2) (field 0 (omega arith)),
        small (f 3) (field 1 (omega arith)),
        small (f 4) (field 2 (omega arith)),
        name_small (f 5) (field 3 (omega arith)),
        name_small (f 6) (field 4 (omega arith)),
        small (f 7) (field 5 (omega arith)),
        name_small (f 8) (field 6 (omega arith)),
        small (f 9) (field 7 (omega arith)),
        small (f 10) (field 8 (omega arith)),
        small (f 11) (field 9 (omega arith)),
        small (f 12) (field 10 (omega arith)),
        mark_again (f 13) (field 11 (omega arith)),
        code_small (f 14) (field 12 (omega arith)),
        small (f 15) (field 13 (omega arith)),
        mark_again (f 16) (field 14 (omega arith)),
        small (f 18) (field 15 (omega arith)),
      )

pub event_only : (ns bytes : List ℕ) (room : ℕ) {size : ℕ} → Bytes bytes → read_event bytes layout.event_length ≡ done size ns → length bytes ≤ room → of_event (event_of (event_call ns)) room ≡ done (length bytes) bytes
unfolding event numbers
event_only ns bytes room good e h =
    let r = event_read ns bytes good e in
    let all : rows (λ i. get_or ns i 0) 0 layout.event_length ≡ ns = rows_all 0 ns layout.event_length r.long in
    let same : event_numbers (event_of (event_call ns)) ≡ ns = rw all at (numbers_again (λ i. get_or ns i 0) (rw (sym all) at r.fit)) in
    sym (event_written (event_of (event_call ns)) room (sym same)) ∙ numbers_only ns bytes room good e h
