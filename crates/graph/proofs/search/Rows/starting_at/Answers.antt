use Rattle.std.proofs.Common.{rules, arith, eqb, ap, ◌∙◌, ◌≤◌, ℕ, ◌+◌, ◌-◌, take, drop}
use Rattle.std.specs.List.{prefix_len}
use borrow.Author.Tests.{tests}
use Rattle.std.proofs.lemmas.Iterator.{YieldsList-from_slice}
use Rattle.laws.specs.Chains.{part_span, run_length}
use Rattle.graph.specs.RowsOf.{rows_are}
use Rattle.graph.specs.SearchLaws.{rows_below_within, run_end}
use Rattle.graph.proofs.search.Rows.starting_at.Goals as goal

pub overflow_add-keys : goal.overflow_add-keys
overflow_add-keys c = omega (arith, c.requires.0, rows_below_within c.args.w.now c.args.column c.args.count c.args.key, c.requires.1.fits)

pub offset_bounds-w-column : goal.offset_bounds-w-column
offset_bounds-w-column c = omega (arith, c.requires.0, rows_below_within c.args.w.now c.args.column c.args.count c.args.key, c.requires.1.fits)

pub slice_bounds-keys-count : goal.slice_bounds-keys-count
slice_bounds-keys-count c = omega (arith, c.requires.0, rows_below_within c.args.w.now c.args.column c.args.count c.args.key)

pub slice_bounds-keys-start : goal.slice_bounds-keys-start
slice_bounds-keys-start c = omega (arith, c.requires.0, rows_below_within c.args.w.now c.args.column c.args.count c.args.key, c.requires.1.fits)

pub returns : goal.returns
returns c =
    let l = c.requires.1.fits in
    let h : c.args.from ≤ c.args.count = omega (arith, c.requires.0, rows_below_within c.args.w.now c.args.column c.args.count c.args.key) in
    let w = c.args.w.now in
    let at = c.args.column + c.args.from in
    let test = λ (x : ℕ). eqb x c.args.key in
    let n = run_length test (take (c.args.column + c.args.count - at) (drop at w)) c.count.result c.take_while.ensures.closure c.take_while.ensures.done (λ x b q k. search (rules, tests)) (YieldsList-from_slice _ cc) c.count.ensures.ran in
    rows_are w c.args.column c.args.count c.args.key c.requires.0 (ap (λ m. c.args.from + m) (n ∙ ap (prefix_len test) (part_span w c.args.column c.args.from c.args.count h (omega arith))) ∙ run_end c.args.key c.requires.1 c.requires.0)
