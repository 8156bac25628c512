use native.Mathlib.Omega.{arith}
use mathlib.Core.Path.{refl}
use Prim.Native.Nat.{◌-◌}
use Rattle.host.specs.Layout.{record_length, record_signals, record_visits, record_streaks, record_results, signal_width, streak_width, result_width}
use Rattle.host.specs.Write.{record_numbers}
use Rattle.host.proofs.WriteLaws.{Whole, length_head, length_signal, length_visits, length_streak, length_result}
use Rattle.host.proofs.WriteRowsLaws.{put_spliced, wrote_none, wrote_part, wrote_rows, wrote_all, leading_written, signal_zeros, visits_zeros, streak_zeros, result_zeros}
use Rattle.laws.specs.Arrays.{length_field}
use Rattle.std.proofs.Common.{rules}
use Rattle.host.proofs.write.write_record.Goals as goal

pub returns : goal.returns
unfolding record_numbers
returns c =
    let s = c.args.s.now in
    let h : Whole s = record { signals = search (rules, length_field); visits = search (rules, length_field); streaks = search (rules, length_field); results = search (rules, length_field) } in
    let w0 = wrote_none _ 0 record_length c.requires.0 c.requires.2 in
    let w1 = wrote_part w0 {m = record_length - record_signals} refl (length_head _) (omega arith) (omega arith) c.write_head.ensures in
    let w2 = wrote_rows w1 signal_width {m = record_length - record_visits} length_signal signal_zeros h.signals (omega arith) (omega arith) (leading_written h.signals c.leading.ensures (put_spliced _ _ _ record_signals (omega arith) c.write_rows.ensures)) in
    let w3 = wrote_rows w2 1 {m = record_length - record_streaks} length_visits visits_zeros h.visits (omega arith) (omega arith) (leading_written h.visits c.leading-2.ensures (put_spliced _ _ _ record_visits (omega arith) c.write_rows-2.ensures)) in
    let w4 = wrote_rows w3 streak_width {m = record_length - record_results} length_streak streak_zeros h.streaks (omega arith) (omega arith) (leading_written h.streaks c.leading-3.ensures (put_spliced _ _ _ record_streaks (omega arith) c.write_rows-3.ensures)) in
    let w5 = wrote_rows w4 result_width {m = 0} length_result result_zeros h.results (omega arith) (omega arith) (leading_written h.results c.leading-4.ensures (put_spliced _ _ _ record_results (omega arith) c.write_rows-4.ensures)) in
    wrote_all w5 refl
