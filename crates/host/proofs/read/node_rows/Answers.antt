use Rattle.std.proofs.Common.{sym, ◌∙◌}
use Rattle.host.proofs.Cases.{both_of}
use Rattle.host.proofs.ByCountLaws.{blank_zeros}
use Rattle.host.proofs.read.node_rows.Goals as goal

pub returns-then-blank : goal.returns-then-blank
returns-then-blank c =
    let xs = c.args.xs.now in
    let both = both_of _ _ c.if-blank.true in
    let two = both_of _ _ both.0 in
    record {
      low = c.requires;
      visits = blank_zeros xs _ _ (sym c.blank.ensures ∙ two.0);
      streaks = blank_zeros xs _ _ (sym c.blank-2.ensures ∙ two.1);
      results = blank_zeros xs _ _ (sym c.blank-3.ensures ∙ both.1);
    }
