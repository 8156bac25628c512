-- A run as bytes: both ways; and its stages in a lent list.
use Rattle.std.specs.Prelude.{◌≡◌, Option, Some, None, Bool, true, false, ◌&&◌, leb, replicate}
use Rattle.std.proofs.Math.Path.{refl, sym}
use Rattle.std.proofs.Common.{◌∙◌, length-append}
use mathlib.Core.List.{List, [], ◌∷◌, ◌++◌, append_assoc}
use Prim.Native.Nat.{ℕ, suc, ◌+◌, ◌*◌, ◌^◌, ◌≤◌, ◌<◌, min}
use native.Mathlib.Omega.{arith}
use Rattle.std.proofs.Math.ListN.{length, get_or, take, drop}
use Rattle.std.proofs.Math.Seq.{take-add}
use borrow.Author.Tests.{leb-true, leb-false}
use Rattle.laws.specs.All.{All}
use Rattle.laws.specs.Bool.{split, ◌and◌}
use Rattle.codec.specs.Read.{Read, bad}
use Rattle.codec.specs.Numbers.{bytes_of, numbers_at, part}
use Rattle.codec.specs.Stages.{Stage, widths, numbers, column, all_zero}
use Rattle.codec.specs.Slots.{slots}
use Rattle.codec.specs.Stored.{place_of, Stored}
use Rattle.codec.specs.Exact.{Bytes, Exact}
use Rattle.codec.proofs.ExactLaws.{bytes_append}
use Rattle.codec.proofs.Loops.{BytesFirst}
use Rattle.codec.proofs.NumbersLaws.{numbers_exact, numbers_long}
use Rattle.codec.proofs.Parts.{part_long}
use Rattle.codec.proofs.PartLaws.{get_d_part, length_part, put_part, part_stored, part_in}
use Rattle.codec.proofs.SlotsLaws.{slots_width, slots_exact}
use Rattle.codec.proofs.ColumnsLaws.{column_exact, StageExact, staged_width, staged_exact, exact_few}
use Rattle.codec.proofs.ColumnsLoops.{column_over, column_place, column_stored, column_neat, column_crowded}
use Rattle.host.specs.Layout as layout
use Rattle.in_bytes.specs.Run.{single_numbers, stored_signals, all_visits, all_streaks, all_results, run}
use Rattle.in_bytes.proofs.StagesLoops.{ReadingStages, stages_start, stages_seen, stage_room, stage_bad, stage_refused, stage_more, each_neat, each_written, numbers_neat, all_neat, all_written, take_least}

-- THE STAGES, each exact.
pub numbers_stage : (k : ℕ) → StageExact (record { room = k; shape = λ _. numbers (2 ^ 64) k })
unfolding numbers
numbers_stage k = record { exact = λ _. numbers_exact (2 ^ 64) k (omega arith); wide = λ _. refl }

pub column_stage : (room : ℕ) (used : List ℕ → ℕ) → StageExact (record { room = room; shape = λ seen. column (2 ^ 64) room (used seen) })
unfolding column
column_stage room used = record { exact = λ seen. column_exact (2 ^ 64) room (used seen) (omega arith); wide = λ _. refl }

slots_stage : (before after k room : ℕ) → room ≡ (before + suc after) * k → StageExact (record { room = room; shape = λ _. slots (2 ^ 64) before after k })
slots_stage before after k room e = record { exact = λ _. slots_exact (2 ^ 64) before after k (omega arith); wide = λ _. slots_width (2 ^ 64) before after k ∙ sym e }

abbrev pub from_results : List Stage
from_results = all_results ∷ []

abbrev pub from_streaks : List Stage
from_streaks = all_streaks ∷ from_results

abbrev pub from_visits : List Stage
from_visits = all_visits ∷ from_streaks

abbrev pub from_signals : List Stage
from_signals = stored_signals ∷ from_visits

pub results_exact : All StageExact from_results
results_exact = (slots_stage 2 3 layout.nodes (layout.result_width * layout.nodes) refl, tt)

pub streaks_exact : All StageExact from_streaks
streaks_exact = (slots_stage 1 0 layout.nodes (layout.streak_width * layout.nodes) refl, results_exact)

pub visits_exact : All StageExact from_visits
visits_exact = (numbers_stage layout.nodes, streaks_exact)

signals_exact : All StageExact from_signals
signals_exact = (column_stage (layout.signal_width * layout.store) (λ seen. layout.signal_width * get_or seen layout.record_stored 0), visits_exact)

pub head_exact : All StageExact (single_numbers ∷ from_signals)
head_exact = (numbers_stage layout.record_signals, signals_exact)

-- BOTH WAYS.
pub run_width : run.width ≡ layout.record_length
unfolding run widths
run_width = staged_width (single_numbers ∷ from_signals) [] head_exact

pub run_exact : Exact run
unfolding run
run_exact = staged_exact (single_numbers ∷ from_signals) [] head_exact

-- READING.
pub run_start : (bytes before : List ℕ) (start : ℕ) → before ≡ replicate layout.record_length 0 → ReadingStages (single_numbers ∷ from_signals) bytes (run.read bytes start) before start 0 before
unfolding run widths
run_start bytes before start blank = stages_start (single_numbers ∷ from_signals) bytes before start layout.record_length head_exact refl blank

-- the stored signals, of which the list has the count
module _ {bytes : List ℕ} {whole : Read (List ℕ)} {before : List ℕ} {at : ℕ} {list : List ℕ} (inv : ReadingStages from_signals bytes whole before at layout.record_signals list) where
  abbrev count : ℕ
  count = get_or list layout.record_stored 0

  abbrev used : ℕ
  used = layout.signal_width * get_or inv.seen layout.record_stored 0

  used_is : used ≡ layout.signal_width * count
  used_is = rw (stages_seen inv layout.record_stored (omega arith))

  pub signals_over : layout.store < count → whole ≡ bad
  signals_over h =
      let u = used_is in
      stage_bad signals_exact inv (column_over (2 ^ 64) (layout.signal_width * layout.store) used bytes at (omega arith))

  module _ {end : ℕ} (low : count ≤ layout.store) (ends : end ≡ layout.record_signals + layout.signal_width * min count layout.store) where
    pub signals_within : end ≤ length list
    signals_within = let u = used_is in let r = stage_room signals_exact inv in omega arith

  module _ {end : ℕ} {z : Option ℕ} (low : count ≤ layout.store) (ends : end ≡ layout.record_signals + layout.signal_width * min count layout.store) (answer : z ≡ place_of (numbers_at (2 ^ 64) (length (part list layout.record_signals end)) bytes at)) where
    low_used : used ≤ layout.signal_width * layout.store
    low_used = let u = used_is in omega arith

    within : end ≤ length list
    within = signals_within low ends

    many : length (part list layout.record_signals end) ≡ used
    many = let u = used_is in length_part list layout.record_signals end within ∙ omega arith

    answered : z ≡ place_of ((stored_signals.shape inv.seen).read bytes at)
    answered = column_place (2 ^ 64) (layout.signal_width * layout.store) used bytes at low_used (rw many at answer)

    pub signals_bad : z ≡ None → whole ≡ bad
    signals_bad b = stage_refused signals_exact inv answered b

    pub signals_more : {p : ℕ} {ys : List ℕ} → Bytes bytes → z ≡ Some p → Stored (numbers_at (2 ^ 64) (length (part list layout.record_signals end)) bytes at) (part list layout.record_signals end) 0 ys → ReadingStages from_visits bytes whole before p layout.record_visits (put_part list layout.record_signals end ys)
    signals_more good e s =
        let u = used_is in
        let s' = part_stored list layout.record_signals end (omega arith) within (λ ns p e. let n = numbers_long (2 ^ 64) bytes used at ns p e in omega arith) (rw many at s) in
        stage_more signals_exact inv good answered e (column_stored (2 ^ 64) (layout.signal_width * layout.store) used bytes at low_used (stage_room signals_exact inv) inv.reading.blank s')

three : (a b c : Bool) → (a and (b and (c and true))) ≡ ((a && b) && c)
unfolding ◌and◌
three true true true = refl
three true true false = refl
three true false c = refl
three false b c = refl

-- A RECORD'S NUMBERS, by its five parts.
module _ (xs : List ℕ) (long : length xs ≡ layout.record_length) where
  abbrev head : List ℕ
  head = part xs 0 layout.record_signals

  abbrev stored : ℕ
  stored = get_or xs layout.record_stored 0

  abbrev signals : List ℕ
  signals = part xs layout.record_signals layout.record_visits

  abbrev visits : List ℕ
  visits = part xs layout.record_visits layout.record_streaks

  abbrev streaks : List ℕ
  streaks = part xs layout.record_streaks layout.record_results

  abbrev results : List ℕ
  results = part xs layout.record_results layout.record_length

  -- what a slice from the streaks or the results on has of them
  abbrev streaks_held : List ℕ
  streaks_held = part (part xs layout.record_streaks layout.record_length) 0 (layout.streak_width * layout.nodes)

  abbrev results_held : List ℕ
  results_held = part (part xs layout.record_results layout.record_length) 0 (layout.result_width * layout.nodes)

  streaks_in : streaks_held ≡ streaks
  streaks_in = part_in xs layout.record_streaks layout.record_length (layout.streak_width * layout.nodes) (omega arith)

  results_in : results_held ≡ results
  results_in = part_in xs layout.record_results layout.record_length (layout.result_width * layout.nodes) (omega arith)

  head_count : get_or head layout.record_stored 0 ≡ stored
  head_count = get_d_part xs 0 layout.record_signals layout.record_stored 0 (omega arith)

  -- TIDY.
  pub parts_neat : run.tidy xs ≡ ((numbers (2 ^ 64) layout.record_signals).tidy head and ((stored_signals.shape head).tidy signals and ((numbers (2 ^ 64) layout.nodes).tidy visits and ((slots (2 ^ 64) 1 0 layout.nodes).tidy streaks and ((slots (2 ^ 64) 2 3 layout.nodes).tidy results and true)))))
  unfolding run widths each_neat
  parts_neat = all_neat xs (single_numbers ∷ from_signals) head_exact long

  -- what is left to test
  open_tests : ((n : ℕ) → get_or xs n 0 < 2 ^ 64) → run.tidy xs ≡ ((stored_signals.shape head).tidy signals and ((slots (2 ^ 64) 1 0 layout.nodes).tidy streaks and ((slots (2 ^ 64) 2 3 layout.nodes).tidy results and true)))
  unfolding ◌and◌
  open_tests small = parts_neat ∙ rw (numbers_neat xs (2 ^ 64) 0 layout.record_signals layout.record_signals refl (omega arith) small, numbers_neat xs (2 ^ 64) layout.record_visits layout.record_streaks layout.nodes refl (omega arith) small)

  run_crowded : ((n : ℕ) → get_or xs n 0 < 2 ^ 64) → layout.store < stored → run.tidy xs ≡ false
  unfolding ◌and◌
  run_crowded small over =
      let c = head_count in
      let f : (stored_signals.shape head).tidy signals ≡ false = column_crowded (2 ^ 64) (layout.signal_width * layout.store) (layout.signal_width * get_or head layout.record_stored 0) xs layout.record_signals (omega arith) (omega arith) in
      open_tests small ∙ rw f

  module _ {end : ℕ} (ends : end ≡ layout.record_signals + layout.signal_width * min stored layout.store) where
    pub neat_parts : {a b c : Bool} → ((n : ℕ) → get_or xs n 0 < 2 ^ 64) → a ≡ all_zero (part xs end layout.record_visits) → b ≡ (slots (2 ^ 64) 1 0 layout.nodes).tidy streaks_held → c ≡ (slots (2 ^ 64) 2 3 layout.nodes).tidy results_held → (((leb stored layout.store && a) && b) && c) ≡ run.tidy xs
    neat_parts {a} {b} {c} small f g h =
        let n = head_count in
        let used = layout.signal_width * get_or head layout.record_stored 0 in
        split (leb stored layout.store)
        (λ low.
        let l = leb-true stored layout.store low in
        let j : layout.record_signals + used ≡ end = omega arith in
        let t : (stored_signals.shape head).tidy signals ≡ all_zero (part xs end layout.record_visits) =
        rw j at (column_neat (2 ^ 64) (layout.signal_width * layout.store) used xs layout.record_signals (omega arith) (omega arith) small) in
        let g₁ : b ≡ (slots (2 ^ 64) 1 0 layout.nodes).tidy streaks = rw streaks_in at g in
        let h₁ : c ≡ (slots (2 ^ 64) 2 3 layout.nodes).tidy results = rw results_in at h in
        rw low (sym (open_tests small ∙ rw (t, ← f, ← g₁, ← h₁) (three a b c))))
        (λ over. let l = leb-false stored layout.store over in rw over (sym (run_crowded small (omega arith))))

  -- ITS BYTES.
  abbrev visits_bytes : List ℕ
  visits_bytes = bytes_of visits

  abbrev streaks_bytes : List ℕ
  streaks_bytes = bytes_of ((slots (2 ^ 64) 1 0 layout.nodes).fields streaks_held)

  abbrev results_bytes : List ℕ
  results_bytes = bytes_of ((slots (2 ^ 64) 2 3 layout.nodes).fields results_held)

  abbrev streaks_left : List ℕ
  streaks_left = streaks_bytes ++ (results_bytes ++ [])

  abbrev visits_left : List ℕ
  visits_left = visits_bytes ++ streaks_left

  parts_written : bytes_of (run.fields xs) ≡ bytes_of head ++ (bytes_of ((stored_signals.shape head).fields signals) ++ visits_left)
  unfolding run widths numbers each_written
  parts_written = rw (streaks_in, results_in) (all_written xs (single_numbers ∷ from_signals) head_exact long)

  -- the signals that are stored
  stored_part : (stored_signals.shape head).fields signals ≡ take (layout.signal_width * min stored layout.store) (drop layout.record_signals xs)
  unfolding column part
  stored_part =
      let c = head_count in
      take_least (layout.signal_width * get_or head layout.record_stored 0) (layout.signal_width * layout.store) (layout.signal_width * min stored layout.store) (drop layout.record_signals xs) (omega arith)

  module _ {end : ℕ} (ends : end ≡ layout.record_signals + layout.signal_width * min stored layout.store) where
    pub first_bytes : BytesFirst (bytes_of (run.fields xs)) (bytes_of (take end xs)) visits_left
    unfolding part
    first_bytes =
        let k = layout.signal_width * min stored layout.store in
        let more = take k (drop layout.record_signals xs) in
        record { is = parts_written ∙ rw (ends, stored_part, take-add layout.record_signals k xs, bytes_append (take layout.record_signals xs) more) (sym (append_assoc (bytes_of head) (bytes_of more) visits_left)) }

    pub sizes : length (bytes_of (take end xs)) + length visits_bytes + length streaks_bytes + length results_bytes ≡ length (bytes_of (run.fields xs))
    sizes = rw (first_bytes.is, length-append, length-append, length-append, length-append) (omega arith)

  pub visits_first : BytesFirst visits_left visits_bytes streaks_left
  visits_first = record { is = refl }

  pub streaks_first : BytesFirst streaks_left streaks_bytes (results_bytes ++ [])
  streaks_first = record { is = refl }

  pub results_first : BytesFirst (results_bytes ++ []) results_bytes []
  results_first = record { is = refl }

  pub few : length (bytes_of (run.fields xs)) ≤ 10 * layout.record_length
  few = rw run_width at (exact_few run run_exact xs (long ∙ sym run_width))

-- A record's numbers that are a part of others.
pub run_few : (xs : List ℕ) (at : ℕ) → at + layout.record_length ≤ length xs → length (bytes_of (run.fields (part xs at (at + layout.record_length)))) ≤ 10 * layout.record_length
run_few xs at room = few (part xs at (at + layout.record_length)) (part_long xs at layout.record_length room)
