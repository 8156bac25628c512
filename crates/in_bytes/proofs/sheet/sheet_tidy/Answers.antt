use Rattle.codec.specs.Numbers.{part}
use Rattle.in_bytes.proofs.SheetLaws.{sliced_room, tidy_columns}
use Rattle.in_bytes.proofs.sheet.sheet_tidy.Goals as goal

pub columns_tidy-requires : goal.columns_tidy-requires
unfolding part
columns_tidy-requires c = sliced_room c.args.w.now c.told-w c.plan.ensures

pub returns : goal.returns
unfolding part
returns c = rw c.columns_tidy.ensures (tidy_columns c.args.w.now c.told-w c.plan.ensures c.fits-w)
