-- Bytes that are laid at the start of a buffer, a piece behind the other, and what a reply and a lent buffer then hold.
use Rattle.std.specs.Prelude.{None, Some}
use Prim.Native.Nat.{ℕ, ◌+◌, ◌-◌, ◌≤◌, ◌<◌}
use mathlib.Core.Path.{◌≡◌, ap, sym, ◌∙◌}
use mathlib.Core.List.{List, ◌++◌, append_assoc}
use native.Mathlib.Omega.{arith}
use borrow.Author.Tests.{lt-leb, le-leb}
use lib.ListN.{length, take, drop, length-append, length-replicate, replicate-append-replicate, take-append-drop}
use lib.Seq.{length-take-le, drop_at, take_at}
use Rattle.std.proofs.lemmas.List.{drop-drop}
use Rattle.reply.specs.declared.array.Reply.{Reply}
use Rattle.reply.specs.declared.text.Line.{Line}
use Rattle.reply.specs.Line.{digits, laid, laid_from, zeros, length_for, held_after, Grown, Replied}
use Rattle.reply.proofs.Digits.{digits_some}

-- what is answered and what the buffer holds, where the line does not fit it and where it does
pub too_short_lem : (line buffer : List ℕ) → length buffer < length line → (None ≡ length_for line buffer) × (buffer ≡ held_after line buffer)
too_short_lem line buffer h = (simp (lt-leb _ _ h), simp (lt-leb _ _ h))

-- R62: the line fits: its length is answered, and it is laid at the start
pub fitting : (line buffer : List ℕ) → length line ≤ length buffer → (Some (length line) ≡ length_for line buffer) × (laid line buffer ≡ held_after line buffer)
fitting line buffer h = (simp (le-leb _ _ h), simp (le-leb _ _ h))

-- a line that is laid on zeros, and what is left of them
pub replied : (line : List ℕ) (r : Reply) → r.len ≡ length line → r.bytes ≡ laid line (zeros 72) → Replied line r
replied line r n e =
    let h = r.within in
    let sum : r.len + (72 - r.len) ≡ 72 = omega arith in
    let all : zeros r.len ++ zeros (72 - r.len) ≡ zeros 72 = replicate-append-replicate r.len (72 - r.len) 0 ∙ ap zeros sum in
    let left : drop r.len (zeros 72) ≡ zeros (72 - r.len) =
    ap (drop r.len) (sym all) ∙ drop_at (zeros r.len) (zeros (72 - r.len)) r.len (length-replicate r.len 0) in
    record {
      within = h;
      long = n;
      first = ap (take r.len) e ∙ take_at line (drop (length line) (zeros 72)) r.len (sym n);
      rest = ap (drop r.len) e ∙ drop_at line (drop (length line) (zeros 72)) r.len (sym n) ∙ rw (sym n) left;
    }

-- ds stands from a on, and every other byte is as it was
pub written : (old new ds : List ℕ) (a e : ℕ) → e ≡ a + length ds → drop a new ≡ ds ++ drop e old → take a new ≡ take a old → new ≡ laid_from a ds old
written old new ds a e h f g = sym (take-append-drop a new) ∙ rw (f, g, h, drop-drop (length ds) a old)

-- R61: a piece more behind what was laid: p after the first s bytes, which ends at a
pub lay_on : (s : ℕ) (l₀ p bs : List ℕ) {l m : List ℕ} {a b : ℕ} → s ≤ length l₀ → a ≡ s + length p → l ≡ laid_from s p l₀ → (b ≡ a + length bs) × (m ≡ laid_from a bs l)
    → (b ≡ s + length (p ++ bs)) × (m ≡ laid_from s (p ++ bs) l₀)
lay_on s l₀ p bs {l} {m} {a} {b} room ends same e =
    let k : length p + length bs ≡ length (p ++ bs) = sym (length-append p bs) in
    let front : List ℕ = take s l₀ ++ p in
    let long : length front ≡ a = length-append (take s l₀) p ∙ omega (arith, length-take-le s l₀ room) in
    let whole : l ≡ front ++ drop (length p) (drop s l₀) = same ∙ sym (append_assoc (take s l₀) p (drop (length p) (drop s l₀))) in
    let t : take a l ≡ front = ap (take a) whole ∙ take_at front (drop (length p) (drop s l₀)) a long in
    let d : drop a l ≡ drop (length p) (drop s l₀) = ap (drop a) whole ∙ drop_at front (drop (length p) (drop s l₀)) a long in
    (e.0 ∙ omega arith, e.1 ∙ rw (t, d, drop-drop (length bs) (length p) (drop s l₀), k) (simp append_assoc))

-- R61: a piece more behind the first
pub grown_on : {p q : List ℕ} {l m n : Line} → Grown p l m → Grown q m n → Grown (p ++ q) l n
grown_on {p} {q} {l} {m} {n} v w =
    let e = lay_on l.at l.out.now p q (omega (arith, v.size, v.end, v.within)) v.end v.same (w.end, w.same) in
    record {
      same_buffer = w.same_buffer ∙ v.same_buffer;
      size = w.size ∙ v.size;
      end = e.0;
      within = w.within;
      same = e.1;
    }

-- R61: a number of 64 bits has at most 20 digits: where `count` digits of n have been passed, and those of `rest` are left, no more are counted
pub count_small : (n count rest : ℕ) → length (digits n) ≤ 20 → count + length (digits rest) ≡ length (digits n) + 1 → count ≤ 20
count_small n count rest few same = omega (arith, digits_some rest)
