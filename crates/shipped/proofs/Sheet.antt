-- What the numbers of a sheet can be that a run takes over into its record.
use Rattle.std.specs.Prelude.{◌≡◌, Bool, true, false, List, ℕ, ◌+◌, ◌<◌, get_or, Option, Some, None, Ok}
use Rattle.std.proofs.lemmas.Bool.{false≢true}
use Rattle.std.proofs.Common.{arith}
use borrow.Author.Tests.{eq-eqb, eqb-true, ltb-true, leb-false}
use Rattle.laws.specs.Bool.{when◌then◌else◌, both, either, neither, implied}
use Rattle.laws.specs.All.{All, all_get_d, all_in}
use Rattle.laws.specs.In.{Hit, hit, miss, hits}
use Rattle.workflow.specs.Code.{activity}
use Rattle.workflow.specs.View.{Workflow, workflow, no_node, node_at, limit_at}
use Rattle.workflow.specs.Layout as layout
use Rattle.workflow.specs.Lookup.{node_of, is_limit, limit_of}
use Rattle.workflow.specs.declared.Node.{Node}
use Rattle.workflow.specs.declared.Limit.{Limit}
use Rattle.graph.specs.Form.{formed_node, form}
use Rattle.graph.specs.Rules.{breaks_8}
use Rattle.graph.specs.SearchLaws.{parts_of}
use Rattle.graph.specs.Lowest.{lowest_none}
use Rattle.graph.specs.Accepted.{Rules, rules}
use Rattle.graph.specs.Chain.{stage, stage_fine}
use Rattle.graph.specs.Verdict.{verdict}
use Rattle.kernel.specs.declared.Call.{Call}
use Rattle.kernel.specs.Call.{Last, admission}
use Rattle.host.specs.Fits.{Number, Name, Code}
use Rattle.host.proofs.Lists.{all_span, every_all}

-- The two ceilings, the details of fail nodes and the loop limits are numbers of 32 bits. Everything else of a sheet that a record can hold is
-- bounded by its form and its rules.
pub record SheetFits (f : Workflow) : Type 0 where
  pub visits : Number f.max_visits_per_node
  pub activations : Number f.max_activations
  pub details : All (λ (x : Node). Number x.detail) f.nodes
  pub limits : All (λ (x : Limit). Number x.limit) f.limits

-- A sheet of 32-bit numbers has that.
module _ (w : List ℕ) (small : All Number w) where
  number_at : (i : ℕ) → Number (get_or w i 0)
  number_at i = all_get_d Number w i 0 (omega arith) small

  detail_at : (i : ℕ) → Number (node_at w i).detail
  unfolding node_at
  detail_at i = either (λ (x : Node). Number x.detail) _ (λ _. number_at (layout.node_detail + i)) (λ _. omega arith)

  bound_at : (i : ℕ) → Number (limit_at w i).limit
  unfolding limit_at
  bound_at i = either (λ (x : Limit). Number x.limit) _ (λ _. number_at (layout.limit_limit + i)) (λ _. omega arith)

  pub sheet_fits : SheetFits (workflow w)
  sheet_fits =
      record {
        visits = number_at layout.max_visits_per_node;
        activations = number_at layout.max_activations;
        details = all_span _ (node_at w) _ (λ n _. detail_at n);
        limits = all_span _ (limit_at w) _ (λ n _. bound_at n);
      }

-- WHAT AN ACCEPTED SHEET HAS.
pub record Sheet (f : Workflow) : Type 0 where
  pub visits : Number f.max_visits_per_node
  pub activations : Number f.max_activations
  pub limits : (n o x : ℕ) → limit_of f n o ≡ Some x → Number x
  pub code_of : (n : ℕ) → Code (node_of f n).code
  pub detail_of : (n : ℕ) → Number (node_of f n).detail
  pub action_of : (n : ℕ) → n < f.node_count → (node_of f n).kind ≡ activity → Name (node_of f n).action

-- A code of 16 bits, by the node's kind: 0 but for a fail node.
by_test : {G : Type 0} (b x y : Bool) → (x ≡ true → G) → (y ≡ true → G) → (when b then x else y) ≡ true → G
unfolding when◌then◌else◌
by_test true x y p q e = p e
by_test false x y p q e = q e

node_code : (x : Node) → formed_node x ≡ true → Code x.code
unfolding formed_node
node_code x =
    by_test _ _ _ (λ h. omega (arith, eqb-true x.code 0 (both _ _ (both _ _ (both _ _ h).1).1).0))
    (by_test _ _ _ (λ h. omega (arith, eqb-true x.code 0 (both _ _ (both _ _ (both _ _ (both _ _ h).1).1).1).0))
    (by_test _ _ _ (λ h. omega (arith, eqb-true x.code 0 (both _ _ (both _ _ (both _ _ (both _ _ h).1).1).1).0))
    (by_test _ _ _ (λ h. ltb-true _ _ (both _ _ (both _ _ (both _ _ (both _ _ h).1).1).1).0)
    (λ h. absurd (false≢true h)))))

module _ (f : Workflow) (t : SheetFits f) (r : Rules f) where
  limit_there : (n o k : ℕ) {w : Option ℕ} → Hit (is_limit n o) (λ _ x. Some x.limit) None f.limits w → w ≡ Some k → Number k
  limit_there n o k (hit j x i p) e = let z : x.limit ≡ k = cc in omega (arith, all_in (λ (x : Limit). Number x.limit) t.limits i)
  limit_there n o k (miss g) e = let z : ◌≡◌ {A = ℕ} 0 1 = cc in absurd (omega arith)

  codes : All (λ (x : Node). Code x.code) f.nodes
  unfolding form
  codes = every_all formed_node _ node_code f.nodes (both _ _ (both _ _ r.formed).1).0

  its_action : (n : ℕ) → n < f.node_count → (node_of f n).kind ≡ activity → Name (node_of f n).action
  unfolding breaks_8
  its_action n h k =
      let a : (node_of f n).action < f.action_count = leb-false _ _ (neither _ _ (implied _ _ (lowest_none _ _ r.rule_8 n h) (eq-eqb _ _ k))).0 in
      omega (arith, (parts_of f r.formed).few_actions)

  sheet : Sheet f
  unfolding limit_of node_of
  sheet =
      record {
        visits = t.visits;
        activations = t.activations;
        limits = λ n o x e. limit_there n o x (hits _ _ _ 0 f.limits) e;
        code_of = λ n. all_get_d (λ (x : Node). Code x.code) f.nodes n no_node (omega arith) codes;
        detail_of = λ n. all_get_d (λ (x : Node). Number x.detail) f.nodes n no_node (omega arith) t.details;
        action_of = its_action;
      }

-- The sheet of an admitted call.
pub admitted_sheet : (f : Workflow) (r : Last) (c : Call) → SheetFits f → admission f r c ≡ Ok tt → Sheet f
unfolding admission
admitted_sheet f r c h e =
    let v : verdict f c.ceilings ≡ Ok tt = stage_fine e (search stage depth 8) in
    sheet f h (rules f c.ceilings v)
