use Rattle.in_bytes.proofs.RestSteps.{one_given, none_place, none_stored}
use Rattle.in_bytes.proofs.call.read_given.Goals as goal

pub returns-then-has_record : goal.returns-then-has_record
returns-then-has_record c = rw (one_given _ c.if-has_record.true) c.read_run.ensures

pub returns : goal.returns
returns c =
    let a = c.args in
    record { value = none_place a.has_record a.bytes.now a.start c.if-has_record.false; stored = none_stored a.has_record a.bytes.now a.start c.if-has_record.false c.requires }
