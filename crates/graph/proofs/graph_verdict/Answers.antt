use Rattle.workflow.specs.declared.refusal.Refusal.{Refusal}
use Rattle.graph.specs.Chain.{stops, goes_on, rule_at_passed}
use Rattle.graph.proofs.graph_verdict.Goals as goal

pub returns-in_err-rule_8 : goal.returns-in_err-rule_8
returns-in_err-rule_8 c = stops _ c.in_err-rule_8.ensures c.from_residual.ensures.1

pub returns-in_err-rule_9 : goal.returns-in_err-rule_9
returns-in_err-rule_9 c = goes_on _ c.in_ok-rule_8.ensures (stops _ c.in_err-rule_9.ensures c.from_residual-in_err-rule_9.ensures.1)

pub returns-in_err-rule_12 : goal.returns-in_err-rule_12
returns-in_err-rule_12 c = goes_on _ c.in_ok-rule_8.ensures (goes_on _ c.in_ok-rule_9.ensures (stops _ c.in_err-rule_12.ensures c.from_residual-in_err-rule_12.ensures.1))

pub invariant_of-reach_verdict : goal.invariant_of-reach_verdict
invariant_of-reach_verdict c = record {
  ruled = record {
    formed = c.args.w.now.formed;
    rule_5 = c.requires;
    rule_8 = rule_at_passed Refusal.Activity c.in_ok-rule_8.ensures;
    rule_9 = rule_at_passed Refusal.AwaitSignal c.in_ok-rule_9.ensures;
    rule_12 = rule_at_passed Refusal.LoopLimits c.in_ok-rule_12.ensures;
  };
}

pub returns : goal.returns
returns c = goes_on _ c.in_ok-rule_8.ensures (goes_on _ c.in_ok-rule_9.ensures (goes_on _ c.in_ok-rule_12.ensures c.reach_verdict.ensures))
