-- The table of Joint A holds: it is computed.
use Rattle.std.specs.Prelude.{refl}
use Rattle.std.proofs.Common.{sym, subst}
use Rattle.std.proofs.Math.Path.{fun_ext}
use Rattle.workflow.specs.View.{workflow}
use Rattle.joint_a.specs.Sheet.{numbers}
use Rattle.joint_a.specs.SheetLaws.{sheet, is_sheet}
use Rattle.model.specs.Answers.{output_numbers, kept_numbers, params_numbers, order_numbers, note_numbers, ending_numbers}
use Rattle.demand3.specs.Demand3.{standing, history}
use Rattle.laws.specs.Bool.{when◌then◌else◌, ◌and◌, ◌or◌}
use Rattle.laws.specs.Rows.{rows, span}
use Rattle.laws.specs.First.{first}
use Rattle.laws.specs.Every.{every}
use Rattle.laws.specs.Shift.{remove_at, without}
use Rattle.laws.specs.Settle.{settle}
use Rattle.workflow.specs.Lookup.{node_of, policy_of, are, route_of, limit_of, declares}
use Rattle.graph.specs.Form.{formed_node, formed_route, formed_limit, formed_declared, chained_from, chained, ascends, form}
use Rattle.graph.specs.Rules.{reserved, declared_twice, breaks_7, unrouted, extra, leads_nowhere, breaks_8, breaks_9, bad_limit, breaks_12}
use Rattle.graph.specs.Sets.{pass, repeated, with_ends, reached, reaching_end}
use Rattle.graph.specs.Verdict.{rule_at, first_broken, actions_verdict, verdict}
use Rattle.model.specs.Record.{is_terminal}
use Rattle.model.specs.Store.{listed, first_signal, signal_at, removed, appended, leaves_over, left_over, emptied, signals_fit}
use Rattle.model.specs.Step.{answer as mapping_answer, terminate, evaluate, schedule, enter_activity, enter_await, enter_complete, arrive, enter, follow_to, route_limited, route, take_by, retry}
use Rattle.machine.specs.Events.{named, named_node, applies, not_applicable, complete_invocation, stick, fail_invocation, on_signal, on_success, on_failure, on_unknown, on_result, resolve_as_complete, resolve_as_fail, on_resolved, on_ended, react}
use Rattle.snapshot.specs.EventCheck.{event_fits}
use Rattle.snapshot.specs.Check.{counters_fit, slots_fit, stands, consistent}
use Rattle.kernel.specs.Drive.{operations_of, added, counting, consume_by, advance_by, driven}
use Rattle.kernel.specs.Call.{closed, finish_by, start_stage, next_stage, admission, transition_by, transition}
use Rattle.demand3.specs.Joint.{event, start, signal, failed, noted, result, call, plainly, seen_of, newest, after, sixty_four, on_full, no_order, scheduled, refusal, going, again, completed, case, cases, Agree}

on_rows : Agree sheet
unfolding event start signal failed noted result call plainly seen_of newest after sixty_four on_full no_order scheduled refusal going again completed case cases output_numbers kept_numbers params_numbers order_numbers note_numbers ending_numbers
    when◌then◌else◌ ◌and◌ ◌or◌ rows span first every remove_at without settle node_of policy_of are route_of limit_of declares formed_node formed_route formed_limit formed_declared chained_from chained ascends form reserved declared_twice breaks_7 unrouted extra leads_nowhere breaks_8 breaks_9 bad_limit breaks_12 pass repeated with_ends reached reaching_end rule_at first_broken actions_verdict verdict is_terminal listed first_signal signal_at removed appended leaves_over left_over emptied signals_fit mapping_answer terminate evaluate schedule enter_activity enter_await enter_complete arrive enter follow_to route_limited route take_by retry named named_node applies not_applicable complete_invocation stick fail_invocation on_signal on_success on_failure on_unknown on_result resolve_as_complete resolve_as_fail on_resolved on_ended react counters_fit slots_fit stands consistent operations_of added counting consume_by advance_by driven event_fits closed finish_by start_stage next_stage admission transition_by transition standing history
on_rows = refl

-- THE TABLE, on the sheet that is read from the numbers which the walking program has.
pub joint_A : Agree (λ limit. workflow (numbers limit))
joint_A = subst Agree (fun_ext (λ limit. sym (is_sheet limit))) on_rows
