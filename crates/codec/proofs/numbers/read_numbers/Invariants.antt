use Rattle.std.proofs.Common.{◌≡◌, length}
use Rattle.codec.specs.Numbers.{numbers_at}
use Rattle.codec.proofs.NumbersLoops.{Reading}
use Rattle.codec.proofs.numbers.read_numbers.Given as goal

abbrev pub invariant-loop-x : goal.invariant-loop-x
invariant-loop-x g l =
    let u = g.T.Unsigned in
    let n = length l.initial.out in
    record {
      same : l.reader.bytes.now ≡ l.bytes;
      reading : Reading u.top l.bytes (numbers_at u.top n l.bytes l.start) (u.as_numbers l.initial.out) 0 n l.reader.at l.x-index (u.as_numbers l.out);
    }
