use native.Mathlib.Omega.{arith}
use Rattle.laws.specs.Chains.{part_span}
use Rattle.graph.proofs.search.Rows.numbers.Goals as goal

pub returns : goal.returns
returns c = part_span c.args.w.now c.args.column c.args.self.from c.args.self.to c.requires.ordered (omega (arith, c.requires.fits))
