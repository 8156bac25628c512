-- Joint A of document 01: its twelve cases, and those of document 02, as one computed table over the definition of the call.
use Rattle.std.specs.Prelude.{◌≡◌, Bool, true, false, List, [], ◌∷◌, ◌++◌, map, ℕ, ◌+◌, ◌-◌, ◌^◌, get_or, replicate, Some, None}
use Rattle.workflow.specs.View.{Workflow}
use Rattle.workflow.specs.declared.refusal.Refusal.{Refusal}
use Rattle.workflow.specs.Refusal.{number}
use Rattle.model.specs.declared.BufferedSignal.{BufferedSignal}
use Rattle.model.specs.declared.event.Event.{Event}
use Rattle.model.specs.Record.{no_node_result, streak_of, set_signals}
use Rattle.model.specs.Answers.{output_numbers, kept_numbers, order_numbers, note_numbers, ending_numbers, field_number}
use Rattle.kernel.specs.declared.Call.{Call}
use Rattle.kernel.specs.Call.{Answer, next, wants, refused, Last, transition}
use Rattle.demand3.specs.Demand3.{Entry, standing, history, dated}
use Rattle.laws.specs.Rows.{rows}

-- THE CALLS. Unless named, the microstep limit is 130, the four ceilings 64, the command and operation limits 10, times 0, and every call carries one value of 0 operations.
unfoldable pub event : (kind sequence time signal outcome visit attempt status delay resolution : ℕ) → (retryable : Bool) → Event
event k q t g o v a z d r y =
    record { sequence = q; accepted_at = t; delay = d; event_id = 100 + q; kind = k; input = 9; signal = g; outcome = o; «data» = 8; node = 0; visit = v; attempt = a; status = z; output = 7; code = 0; detail = 0; resolution = r; has_error = false; retryable = y }

unfoldable pub start : Event
start = event 1 1 0 0 0 0 0 0 0 0 false

unfoldable pub signal : (sequence signal outcome : ℕ) → Event
signal q g o = event 2 q 0 g o 0 0 0 0 0 false

-- an operator's fail, of visit 1
unfoldable pub failed : (sequence : ℕ) → Event
failed q = event 4 q 0 0 0 1 0 0 0 3 false

unfoldable pub noted : (sequence : ℕ) → Event
noted q = event 5 q 0 0 0 0 0 0 0 0 false

-- of attempt 1
unfoldable pub result : (sequence time visit status delay : ℕ) → (retryable : Bool) → Event
result q t v z d y = event 3 q t 0 255 v 1 z d 0 y

unfoldable pub call : (microsteps commands : ℕ) → Event → Call
call l k e =
    record {
      ceilings = record { nodes = 64; visits = 64; activations = 64; attempts = 64 };
      limits = record { microsteps = l; commands = k; operations = 10 };
      event = e;
      mappings = record { answers = replicate 2 (record { kind = 1; value = 5; code = 0; detail = 0; operations = 0 }); count = 1 };
    }

unfoldable pub plainly : Event → Call
plainly e = call 130 10 e

-- WHAT IS LOOKED AT: status, node, visit and phase; microsteps; order; notes; endings; the streak of node 1 and the outcome of its result; the run's result; the error
-- that the invocation keeps. Of a want or a refusal, its numbers.
pub record Seen : Type 0 where
  pub place : List ℕ
  pub microsteps : ℕ
  pub order : List ℕ
  pub notes : List (List ℕ)
  pub endings : List (List ℕ)
  pub node_1 : List ℕ
  pub result : List ℕ
  pub kept : List ℕ

unfoldable pub seen_of : Answer → Seen
seen_of (next accepted) =
    let state = accepted.state in
    record {
      place = state.status ∷ state.position.node ∷ state.position.visit ∷ state.invocation.phase ∷ [];
      microsteps = accepted.microsteps;
      order = order_numbers accepted.order;
      notes = map note_numbers accepted.notes;
      endings = map ending_numbers accepted.endings;
      node_1 = (streak_of state 1).count ∷ (get_or state.results 1 no_node_result).outcome ∷ [];
      result = output_numbers state.result.output;
      kept = kept_numbers state.invocation.error;
    }
seen_of (wants node field from state) = record { place = node ∷ field_number field ∷ from ∷ []; microsteps = 0; order = []; notes = []; endings = []; node_1 = []; result = []; kept = [] }
seen_of (refused refusal item) = record { place = number refusal ∷ item ∷ []; microsteps = 0; order = []; notes = []; endings = []; node_1 = []; result = []; kept = [] }

-- The answer to the last of a list of calls.
unfoldable pub newest : List Entry → Answer
newest [] = refused Refusal.Invariant 0
newest (x ∷ h) = x.said

-- The record that stands after some calls, with 64 of signal 6 stored, of the sequence numbers 3 to 66; and the answer to a call on it.
abbrev sixes : List BufferedSignal
sixes = rows (λ i. record { sequence = 3 + i; event_id = 6; signal = 6; outcome = 255; «data» = 6 }) 0 64

unfoldable pub sixty_four : Last → Last
sixty_four None = None
sixty_four (Some s) = Some (dated (set_signals s sixes 64) 66 0)

-- THE CASES.
abbrev to_1 : List Call
to_1 = plainly start ∷ []

abbrev to_2 : List Call
to_2 = plainly start ∷ plainly (result 2 0 1 1 0 false) ∷ []

abbrev to_3 : List Call
to_3 = to_2 ++ (plainly (signal 3 5 4) ∷ [])

abbrev to_7 : List Call
to_7 = plainly start ∷ plainly (result 2 0 1 3 0 false) ∷ []

unfoldable pub no_order : List ℕ
no_order = replicate 9 0

unfoldable pub scheduled : (visit : ℕ) → List ℕ
scheduled v = 1 ∷ 0 ∷ v ∷ 0 ∷ 1 ∷ 0 ∷ 5 ∷ 0 ∷ 0 ∷ []

unfoldable pub refusal : (number item : ℕ) → Seen
refusal number item = record { place = number ∷ item ∷ []; microsteps = 0; order = []; notes = []; endings = []; node_1 = []; result = []; kept = [] }

-- A run that has no result yet, and keeps no error.
unfoldable pub going : (place : List ℕ) → (microsteps : ℕ) → (order : List ℕ) → (notes endings : List (List ℕ)) → (node_1 : List ℕ) → Seen
going place microsteps order notes endings node_1 =
    record { place = place; microsteps = microsteps; order = order; notes = notes; endings = endings; node_1 = node_1; result = replicate 4 0; kept = replicate 4 0 }

unfoldable pub again : (sequence : ℕ) → Seen
again q = going (1 ∷ 0 ∷ 2 ∷ 1 ∷ []) 2 (scheduled 2) [] ((q ∷ 1 ∷ []) ∷ []) (1 ∷ 4 ∷ [])

-- A run that is completed with the value, by signal 5.
unfoldable pub completed : (microsteps : ℕ) → (notes endings : List (List ℕ)) → Seen
completed microsteps notes endings =
    record { place = 4 ∷ 255 ∷ 0 ∷ 0 ∷ []; microsteps = microsteps; order = no_order; notes = notes; endings = endings; node_1 = 0 ∷ 1 ∷ []; result = 1 ∷ 5 ∷ 0 ∷ 0 ∷ []; kept = replicate 4 0 }

pub record Case : Type 0 where
  pub is : Seen
  pub should_be : Seen

unfoldable pub case : Seen → Seen → Case
case x y = record { is = x; should_be = y }

-- on Joint A's sheet, by the limit on outcome 4
module _ (sheet : (limit : ℕ) → Workflow) where
  unfoldable pub after : (limit : ℕ) → List Call → Seen
  after limit calls = seen_of (newest (history (sheet limit) [] calls))

  unfoldable pub on_full : List Call → Event → Seen
  on_full calls event = seen_of (transition (sheet 1) (sixty_four (standing (history (sheet 1) [] calls))) (plainly event))

  unfoldable pub cases : List Case
  cases =
      -- 1. Start, one value: schedule 0, visit 1, attempt 1; 1 microstep.
      case (after 1 to_1) (going (1 ∷ 0 ∷ 1 ∷ 1 ∷ []) 1 (scheduled 1) [] [] (0 ∷ 0 ∷ []))
      -- 2. Then success: waiting at 1, visit 1.
      ∷ case (after 1 to_2) (going (2 ∷ 1 ∷ 1 ∷ 0 ∷ []) 1 no_order [] [] (0 ∷ 0 ∷ []))
      -- 3. Then signal 5 with 4: streak 1, schedule 0 visit 2; 2 microsteps.
      ∷ case (after 1 to_3) (again 3)
      -- 4. Again after success: node 3, failed, note 9, node 1 keeps outcome 4, no streak.
      ∷ case (after 1 (to_3 ++ (plainly (result 4 0 2 1 0 false) ∷ plainly (signal 5 5 4) ∷ [])))
      (record {
        place = 5 ∷ 255 ∷ 0 ∷ 0 ∷ [];
        microsteps = 2;
        order = no_order;
        notes = (9 ∷ 1 ∷ 4 ∷ 1 ∷ 0 ∷ []) ∷ [];
        endings = (5 ∷ 1 ∷ []) ∷ [];
        node_1 = 0 ∷ 4 ∷ [];
        result = 2 ∷ 77 ∷ 3 ∷ 0 ∷ [];
        kept = replicate 4 0;
      })
      -- 5. Case 3 at limit 1: 26; at 2 accepted.
      ∷ case (after 1 (to_2 ++ (call 1 10 (signal 3 5 4) ∷ []))) (refusal 26 255)
      ∷ case (after 1 (to_2 ++ (call 2 10 (signal 3 5 4) ∷ []))) (again 3)
      -- 6. Signal 5 with 3 while waiting: note 5, still waiting.
      ∷ case (after 1 (to_2 ++ (plainly (signal 3 5 3) ∷ []))) (going (2 ∷ 1 ∷ 1 ∷ 0 ∷ []) 1 no_order ((5 ∷ 1 ∷ 103 ∷ 3 ∷ 0 ∷ []) ∷ []) ((3 ∷ 2 ∷ []) ∷ []) (0 ∷ 0 ∷ []))
      -- 7. Status 3 after case 1: parked; the same result next: note 2.
      ∷ case (after 1 to_7) (going (3 ∷ 0 ∷ 1 ∷ 2 ∷ []) 0 no_order ((6 ∷ 0 ∷ 1 ∷ 1 ∷ 3 ∷ []) ∷ []) [] (0 ∷ 0 ∷ []))
      ∷ case (after 1 (to_7 ++ (plainly (result 3 0 1 3 0 false) ∷ []))) (going (3 ∷ 0 ∷ 1 ∷ 2 ∷ []) 0 no_order ((2 ∷ 0 ∷ 0 ∷ 1 ∷ 1 ∷ []) ∷ []) [] (0 ∷ 0 ∷ []))
      -- 8. Retryable failure, last time 0, delay 2^63 - 1: accepted at time 0, 27 at 1.
      ∷ case (after 1 (to_1 ++ (plainly (result 2 0 1 2 (2 ^ 63 - 1) true) ∷ [])))
      (going (1 ∷ 0 ∷ 1 ∷ 1 ∷ []) 0 (2 ∷ 0 ∷ 1 ∷ 0 ∷ 2 ∷ (2 ^ 63 - 1) ∷ 0 ∷ 0 ∷ 0 ∷ []) ((8 ∷ 0 ∷ 2 ∷ 0 ∷ 0 ∷ []) ∷ []) [] (0 ∷ 0 ∷ []))
      ∷ case (after 1 (to_1 ++ (plainly (result 2 1 1 2 (2 ^ 63 - 1) true) ∷ []))) (refusal 27 255)
      -- 9. Failure not retryable: stuck.
      ∷ case (after 1 (to_1 ++ (plainly (result 2 0 1 2 0 false) ∷ [])))
      (record {
        place = 3 ∷ 0 ∷ 1 ∷ 3 ∷ [];
        microsteps = 0;
        order = no_order;
        notes = (7 ∷ 0 ∷ 1 ∷ 1 ∷ 5 ∷ []) ∷ [];
        endings = [];
        node_1 = 0 ∷ 0 ∷ [];
        result = replicate 4 0;
        kept = 1 ∷ 5 ∷ 0 ∷ 0 ∷ [];
      })
      -- 10. Start with command limit 0: 29.
      ∷ case (after 1 (call 130 0 start ∷ [])) (refusal 29 255)
      -- 11. Limit 2 on outcome 4: accepted; 3: refusal 12, item 1.
      ∷ case (after 2 to_1) (going (1 ∷ 0 ∷ 1 ∷ 1 ∷ []) 1 (scheduled 1) [] [] (0 ∷ 0 ∷ []))
      ∷ case (after 3 to_1) (refusal 12 1)
      -- 12. Waiting, 64 of signal 6 stored: a matching arrival is taken; signal 6 gets note 4.
      ∷ case (on_full to_2 (signal 67 5 4)) (again 67)
      ∷ case (on_full to_2 (signal 67 6 255)) (going (2 ∷ 1 ∷ 1 ∷ 0 ∷ []) 0 no_order ((4 ∷ 255 ∷ 167 ∷ 0 ∷ 0 ∷ []) ∷ []) ((67 ∷ 3 ∷ []) ∷ []) (0 ∷ 0 ∷ []))
      -- Left over (document 02, T-02). The run ends while two of signal 6 are stored.
      ∷ case (after 1 (to_2 ++ (plainly (signal 3 6 255) ∷ plainly (signal 4 6 255) ∷ plainly (signal 5 5 255) ∷ [])))
      (completed 2 [] ((5 ∷ 1 ∷ []) ∷ (3 ∷ 5 ∷ []) ∷ (4 ∷ 5 ∷ []) ∷ []))
      -- Of the stored one has no route, one is routed to the end, and the others are left over.
      ∷ case (after 1 (to_1 ++ (plainly (signal 2 5 9) ∷ plainly (signal 3 6 255) ∷ plainly (signal 4 5 255) ∷ plainly (signal 5 5 255) ∷ plainly (result 6 0 1 1 0 false) ∷ [])))
      (completed 4 ((5 ∷ 1 ∷ 102 ∷ 9 ∷ 0 ∷ []) ∷ []) ((2 ∷ 2 ∷ []) ∷ (4 ∷ 1 ∷ []) ∷ (3 ∷ 5 ∷ []) ∷ (5 ∷ 5 ∷ []) ∷ []))
      -- With a full store there are 65 endings, the arrival's first.
      ∷ case (on_full to_2 (signal 67 5 255)) (completed 2 [] ((67 ∷ 1 ∷ []) ∷ rows (λ i. (3 + i) ∷ 5 ∷ []) 0 64))
      -- Stuck, and an operator's fail: failed with the kept error.
      ∷ case (after 1 (to_1 ++ (plainly (result 2 0 1 2 0 false) ∷ plainly (signal 3 5 255) ∷ plainly (failed 4) ∷ [])))
      (record {
        place = 5 ∷ 255 ∷ 0 ∷ 0 ∷ [];
        microsteps = 0;
        order = no_order;
        notes = [];
        endings = (3 ∷ 5 ∷ []) ∷ [];
        node_1 = 0 ∷ 0 ∷ [];
        result = 2 ∷ 5 ∷ 0 ∷ 0 ∷ [];
        kept = replicate 4 0;
      })
      -- An ended record with signals stored: noted 25, start 24.
      ∷ case (on_full (to_2 ++ (plainly (signal 3 5 255) ∷ [])) (noted 67)) (refusal 25 255)
      ∷ case (on_full (to_2 ++ (plainly (signal 3 5 255) ∷ [])) start) (refusal 24 255)
      ∷ []

  abbrev pub Agree : Type 0
  Agree = map (λ (it : Case). it.is) cases ≡ map (λ (it : Case). it.should_be) cases
