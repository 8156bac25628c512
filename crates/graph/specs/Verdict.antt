-- The verdict on a sheet: the first broken rule, with the lowest node or action that breaks it.
use Rattle.std.specs.Prelude.{Bool, List, [], ◌∷◌, ℕ, ltb, eqb, Option, Some, None, Result, Ok, Err, is_err}
use Rattle.laws.specs.Bool.{when◌then◌else◌, ◌and◌, ◌or◌}
use Rattle.laws.specs.Rows.{span}
use Rattle.laws.specs.First.{first}
use Rattle.workflow.specs.Code.{none, format_0_1, reconcilable}
use Rattle.workflow.specs.View.{Workflow}
use Rattle.workflow.specs.Lookup.{is_0_2, policy_of}
use Rattle.workflow.specs.declared.refusal.Refusal.{Refusal}
use Rattle.graph.specs.declared.Ceilings.{Ceilings}
use Rattle.graph.specs.declared.Broken.{Broken}
use Rattle.graph.specs.Lowest.{lowest}
use Rattle.graph.specs.Form.{form}
use Rattle.graph.specs.Rules.{within, breaks_1, breaks_7, breaks_8, breaks_9, breaks_12}
use Rattle.graph.specs.Sets.{breaks_14, breaks_15}

-- A stage of a call passes, or it is broken: a rule with its item.
abbrev pub Verdict : Type 0
Verdict = Result (Unit {0}) (Broken Refusal)

abbrev pub broken : {R : Type 0} → R → (item : ℕ) → Result (Unit {0}) (Broken R)
broken refusal item = Err (record { refusal = refusal; item = item })

-- A rule of the whole sheet or of a call, and one whose item is the lowest that breaks it.
abbrev pub rule : {R : Type 0} → R → (holds : Bool) → Result (Unit {0}) (Broken R)
rule refusal holds = when holds then Ok tt else broken refusal none

unfoldable pub rule_at : Refusal → (broken_by : Option ℕ) → Verdict
rule_at refusal (Some item) = broken refusal item
rule_at refusal None = Ok tt

-- The first stage that is broken.
unfoldable pub first_broken : List Verdict → Verdict
first_broken [] = Ok tt
first_broken (Ok tt ∷ later) = first_broken later
first_broken (Err first ∷ later) = Err first

-- Per action: 16 (reconcilable), then 7.
abbrev pub action_verdict : Workflow → Ceilings → (action : ℕ) → Verdict
action_verdict sheet ceilings action =
    when eqb (policy_of sheet action).effect reconcilable then broken Refusal.Reconcilable action else
    when breaks_7 sheet ceilings.attempts action then broken Refusal.ActionPolicy action else
    Ok tt

unfoldable pub actions_verdict : Workflow → Ceilings → Verdict
actions_verdict sheet ceilings =
    first (λ action. is_err (action_verdict sheet ceilings action)) (λ _ action. action_verdict sheet ceilings action) (Ok tt)
    0 (span (λ n. n) 0 sheet.action_count)

-- The stages, in the order of document 01: the form, what a formed sheet is held to, its graph, and where its routes lead.
abbrev pub reach_stages : Workflow → List Verdict
reach_stages sheet =
    rule_at Refusal.Unreached (lowest sheet.node_count (breaks_14 sheet))
    ∷ rule_at Refusal.Unending (lowest sheet.node_count (breaks_15 sheet))
    ∷ []

abbrev pub graph_stages : Workflow → List Verdict
graph_stages sheet =
    rule_at Refusal.Activity (lowest sheet.node_count (breaks_8 sheet))
    ∷ rule_at Refusal.AwaitSignal (lowest sheet.node_count (breaks_9 sheet))
    ∷ rule_at Refusal.LoopLimits (lowest sheet.node_count (breaks_12 sheet))
    ∷ reach_stages sheet

abbrev pub formed_stages : Workflow → Ceilings → List Verdict
formed_stages sheet ceilings =
    rule Refusal.Format (eqb sheet.format format_0_1 or is_0_2 sheet)
    ∷ rule_at Refusal.Format (lowest sheet.node_count (breaks_1 sheet))
    ∷ rule Refusal.Nodes (within ceilings.nodes sheet.node_count)
    ∷ rule Refusal.Start (ltb sheet.start sheet.node_count)
    ∷ rule Refusal.Limits (within ceilings.visits sheet.max_visits_per_node and within ceilings.activations sheet.max_activations)
    ∷ actions_verdict sheet ceilings
    ∷ graph_stages sheet

abbrev pub stages : Workflow → Ceilings → List Verdict
stages sheet ceilings = rule Refusal.Form (form sheet) ∷ formed_stages sheet ceilings

unfoldable pub verdict : Workflow → Ceilings → Verdict
verdict sheet ceilings = first_broken (stages sheet ceilings)
