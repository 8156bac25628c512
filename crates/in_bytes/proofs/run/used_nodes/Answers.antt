use Rattle.std.proofs.Common.{rules, arith, ◌≡◌}
use Rattle.std.proofs.Math.Path.{subst}
use borrow.Author.Tests.{tests}
use Rattle.host.specs.Layout.{nodes}
use Rattle.host.specs.ByCount.{NodesPast}
use Rattle.in_bytes.proofs.RunUsed.{nodes_start, nodes_more, highest}
use Rattle.in_bytes.proofs.run.used_nodes.Goals as goal

pub returns : goal.returns
returns c =
    let r = c.args.r.now in
    let e : nodes ≡ c.rev.result.iter.end = search rules in
    highest (NodesPast r) _ (λ x q k. (search rules, λ past. nodes_more r c.told-r c.requires (omega arith) past (search (rules, tests)))) c.rev.result c.find.new.self c.find.result c.map_or.result _ (search rules)
    (subst (NodesPast r) e (nodes_start r c.told-r c.requires)) c.find.ensures.ran c.map_or.ensures (λ x k. search rules)
