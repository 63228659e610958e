-- What one read after another took of the bytes that a reader is known to have left.
use Rattle.std.proofs.Common.{ℕ, ◌+◌, ◌≤◌, ◌++◌, length, List, take, length-take-le, take_at, drop_at}
use Rattle.std.proofs.KnownBytes.{Consumes-trans}
use Rattle.std.specs.declared.option.Option.{Option}
use Rattle.std.specs.Io.KnownBytes.{Consumes}
use borrow.Rule.Slice.PartMut.{put_mid, post_of}
use lib.Seq.{take-add, take-append-le}

-- a read that went behind the bytes of those before it
pub consumes_more : (old mid new : Option (List ℕ)) (at n k : ℕ) (xs ys : List ℕ) → at ≤ length xs → n ≤ length ys
    → Consumes old mid (take at xs) → Consumes mid new (take n ys) → Consumes old new (take (at + n) (put_mid at k xs ys))
consumes_more old mid new at n k xs ys within fits first second =
    let front = length-take-le at xs within in
    let rest = ys ++ post_of at k xs in
    rw (take-add at n (take at xs ++ rest), take_at (take at xs) rest at front, drop_at (take at xs) rest at front, take-append-le n ys (post_of at k xs) fits)
    (Consumes-trans old mid new (take at xs) (take n ys) first second)
