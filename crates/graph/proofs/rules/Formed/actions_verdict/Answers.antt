use mathlib.Core.Path.{refl, ◌∙◌, ap, sym}
use native.Mathlib.Omega.{arith}
use Rattle.std.specs.Prelude.{is_err}
use Rattle.std.proofs.lemmas.Result.{err_from_is_err_and}
use Rattle.laws.specs.First.{seek_hit, seek_miss, seek_end}
use Rattle.graph.specs.declared.search.Rows.{Rows}
use Rattle.graph.specs.SearchLaws.{parts_of}
use Rattle.graph.specs.RulesLaws.{actions_rise, walk_start}
use Rattle.graph.specs.Verdict.{actions_verdict}
use Rattle.graph.proofs.rules.Formed.actions_verdict.Goals as goal

pub loop-action-init : goal.loop-action-init
unfolding actions_verdict
loop-action-init c = walk_start

pub starting_at-rows-requires : goal.starting_at-rows-requires
starting_at-rows-requires c = (c.loop-action.invariant.place, rw c.capped-k.ensures (actions_rise _ c.args.self.now.formed))

pub returns-in_err-action_verdict : goal.returns-in_err-action_verdict
returns-in_err-action_verdict c =
    let p = err_from_is_err_and c.from_residual.result c.from_residual.ensures.1 in
    let e = c.in_err-action_verdict.ensures in
    rw (p.1, p.2) (e ∙ seek_hit c.loop-action.invariant.seek (omega (arith, (parts_of _ c.args.self.now.formed).few_actions)) refl refl (ap is_err (sym e)))

pub loop-action-preserved : goal.loop-action-preserved
loop-action-preserved c = record { place = ap (λ (r : Rows). r.to) c.starting_at-rows.ensures; seek = seek_miss c.loop-action.invariant.seek (omega (arith, (parts_of _ c.args.self.now.formed).few_actions)) refl refl (ap is_err (sym c.in_ok-action_verdict.ensures)) }

pub returns : goal.returns
returns c = seek_end c.loop-action.invariant.seek (omega (arith, (parts_of _ c.args.self.now.formed).few_actions))
