use Rattle.workflow.specs.declared.refusal.Refusal.{Refusal}
use Rattle.graph.specs.Chain.{stops, goes_on, rule_passed}
use Rattle.graph.proofs.formed_verdict.Goals as goal

pub returns-in_err-rule_1 : goal.returns-in_err-rule_1
returns-in_err-rule_1 c = stops _ c.in_err-rule_1.ensures c.from_residual.ensures.1

pub returns-in_err-rule_1_params : goal.returns-in_err-rule_1_params
returns-in_err-rule_1_params c = goes_on _ c.in_ok-rule_1.ensures (stops _ c.in_err-rule_1_params.ensures c.from_residual-in_err-rule_1_params.ensures.1)

pub returns-in_err-rule_3 : goal.returns-in_err-rule_3
returns-in_err-rule_3 c = goes_on _ c.in_ok-rule_1.ensures (goes_on _ c.in_ok-rule_1_params.ensures (stops _ c.in_err-rule_3.ensures c.from_residual-in_err-rule_3.ensures.1))

pub returns-in_err-rule_5 : goal.returns-in_err-rule_5
returns-in_err-rule_5 c = goes_on _ c.in_ok-rule_1.ensures (goes_on _ c.in_ok-rule_1_params.ensures (goes_on _ c.in_ok-rule_3.ensures (stops _ c.in_err-rule_5.ensures c.from_residual-in_err-rule_5.ensures.1)))

pub returns-in_err-rule_6 : goal.returns-in_err-rule_6
returns-in_err-rule_6 c = goes_on _ c.in_ok-rule_1.ensures (goes_on _ c.in_ok-rule_1_params.ensures (goes_on _ c.in_ok-rule_3.ensures (goes_on _ c.in_ok-rule_5.ensures (stops _ c.in_err-rule_6.ensures c.from_residual-in_err-rule_6.ensures.1))))

pub returns-in_err-actions_verdict : goal.returns-in_err-actions_verdict
returns-in_err-actions_verdict c = goes_on _ c.in_ok-rule_1.ensures (goes_on _ c.in_ok-rule_1_params.ensures (goes_on _ c.in_ok-rule_3.ensures (goes_on _ c.in_ok-rule_5.ensures (goes_on _ c.in_ok-rule_6.ensures (stops _ c.in_err-actions_verdict.ensures c.from_residual-in_err-actions_verdict.ensures.1)))))

pub graph_verdict-requires : goal.graph_verdict-requires
graph_verdict-requires c = rule_passed Refusal.Start c.in_ok-rule_5.ensures

pub returns : goal.returns
returns c = goes_on _ c.in_ok-rule_1.ensures (goes_on _ c.in_ok-rule_1_params.ensures (goes_on _ c.in_ok-rule_3.ensures (goes_on _ c.in_ok-rule_5.ensures (goes_on _ c.in_ok-rule_6.ensures (goes_on _ c.in_ok-actions_verdict.ensures c.graph_verdict.ensures)))))
