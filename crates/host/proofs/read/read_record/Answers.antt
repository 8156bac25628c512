use Rattle.host.specs.Layout.{store, nodes}
use Rattle.host.specs.Read.{signal_of, visits_of, streak_of, result_of, record_of}
use Rattle.host.specs.ByCount.{record_rows}
use Rattle.host.proofs.ByCountLaws.{rows_padded}
use Rattle.host.proofs.read.read_record.Goals as goal

pub returns : goal.returns
unfolding record_rows record_of
returns c =
    let xs = c.args.xs.now in
    let used = c.args.used in
    let signals = rows_padded c.none-signals.result store used.signals (signal_of xs) c.requires.0 c.read_rows.ensures in
    let visits = rows_padded c.none-visits.result nodes used.nodes (visits_of xs) c.requires.1 c.read_rows-2.ensures in
    let streaks = rows_padded c.none-streaks.result nodes used.nodes (streak_of xs) c.requires.1 c.read_rows-3.ensures in
    let results = rows_padded c.none-results.result nodes used.nodes (result_of xs) c.requires.1 c.read_rows-4.ensures in
    rw (signals, visits, streaks, results, c.none-signals.ensures, c.none-visits.ensures, c.none-streaks.ensures, c.none-results.ensures)
    (simp (← c.position.ensures, ← c.invocation.ensures, ← c.run_result.ensures, ← c.number_at.ensures, ← c.number_at-2.ensures, ← c.number_at-3.ensures, ← c.number_at-4.ensures))
