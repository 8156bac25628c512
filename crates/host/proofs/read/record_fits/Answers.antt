use Rattle.std.proofs.Common.{rules}
use borrow.Author.Tests.{tests}
use Rattle.laws.specs.Chains.{range_all}
use Rattle.host.specs.Read.{signal_fits, node_fits}
use Rattle.host.proofs.ByCountLaws.{rows_fit}
use Rattle.host.proofs.read.record_fits.Goals as goal

pub returns : goal.returns
returns c =
    let xs = c.args.xs.now in
    let signals = range_all (signal_fits xs) 0 _ _ _ _ c.all.ensures.ran (λ x b q k. search (rules, tests)) in
    let nodes = range_all (node_fits xs) 0 _ _ _ _ c.all-2.ensures.ran (λ x b q k. search (rules, tests)) in
    rw (c.head_fits.ensures, signals, nodes) (rows_fit xs c.requires)
