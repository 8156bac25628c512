use Rattle.std.proofs.Common.{refl, ap, arith}
use Rattle.laws.specs.First.{seek_start, seek_hit, seek_miss, seek_end}
use Rattle.graph.specs.declared.search.Rows.{Rows}
use Rattle.graph.specs.RulesLaws.{routes_rise, first_place}
use Rattle.graph.proofs.rules.Formed.lowest_breaking.Goals as goal

pub loop-node-init : goal.loop-node-init
loop-node-init g c = record { place = first_place _ _ _; seek = λ p h. seek_start }

pub starting_at-routes-requires : goal.starting_at-routes-requires
starting_at-routes-requires g c = (c.loop-node.invariant.place, rw c.capped-k.ensures (routes_rise _ c.args.self.now.formed))

pub returns-then-breaks : goal.returns-then-breaks
returns-then-breaks g c = λ p h. seek_hit (c.loop-node.invariant.seek p h) (omega arith) refl (h _ _ refl c.breaks.ensures) c.if-breaks.true

pub loop-node-preserved : goal.loop-node-preserved
loop-node-preserved g c = record {
  place = ap (λ (r : Rows). r.to) c.starting_at-routes.ensures;
  seek = λ p h. seek_miss (c.loop-node.invariant.seek p h) (omega arith) refl (h _ _ refl c.breaks.ensures) c.if-breaks.false;
}

pub returns : goal.returns
returns g c = λ p h. seek_end (c.loop-node.invariant.seek p h) (omega arith)
