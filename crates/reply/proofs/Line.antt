-- The line as a whole. A byte below `0` ends a number, so the digits can be taken off the front of a line in one way only: a line says which answer it is.
use Rattle.std.specs.Prelude.{Option, Ok, Err}
use Prim.Native.Nat.{ℕ, ◌+◌, ◌≤◌, ◌<◌}
use mathlib.Core.Path.{◌≡◌, refl, ap, sym, subst, ◌∙◌}
use mathlib.Core.Bool.{Bool, true, false, not}
use mathlib.Core.List.{List, [], ◌∷◌, ◌++◌, append_assoc}
use native.Mathlib.Omega.{arith}
use Rattle.std.proofs.Math.Bridge.{le_prop}
use lib.Dec.{ltb}
use lib.ListN.{length, take, drop, get_or, length-append, take-append-drop}
use borrow.Author.Tests.{ltb-false, not-true, not-false}
use Rattle.line.specs.Slots.{pick}
use Rattle.line.proofs.Search.{true_false}
use Rattle.table.specs.declared.Refusal.{Refusal}
use Rattle.table.specs.Words.{refusal, short_refusal, Said}
use Rattle.reply.specs.declared.array.Reply.{Reply}
use Rattle.reply.specs.Line.{length_for, held_after, digits_in, digits, AllDigits, carries, lateness, lateness_of, answer_line, AnswerWidths, Replied, line_feed, space}
use Rattle.reply.proofs.Digits.{digits_one, digits_are_digits, digits_short, printed}

-- R61: case A's line
pub line_of_case_a : answer_line ((Ok 13)) ≡ 114 ∷ 101 ∷ 108 ∷ 101 ∷ 97 ∷ 115 ∷ 101 ∷ 32 ∷ 49 ∷ 51 ∷ 10 ∷ []
unfolding digits_in digits answer_line
line_of_case_a = refl

-- R61: refusal 9 at place 0 is `refused 9 0` and a newline
pub line_of_refusal_9 : answer_line ((Err (refusal 9 0))) ≡ 114 ∷ 101 ∷ 102 ∷ 117 ∷ 115 ∷ 101 ∷ 100 ∷ 32 ∷ 57 ∷ 32 ∷ 48 ∷ 10 ∷ []
unfolding digits_in digits answer_line
line_of_refusal_9 = refl

-- R61, R103: case J's line is `refused 10 0 3 2`
pub line_of_case_j : answer_line ((Err (short_refusal 3 2))) ≡ 114 ∷ 101 ∷ 102 ∷ 117 ∷ 115 ∷ 101 ∷ 100 ∷ 32 ∷ 49 ∷ 48 ∷ 32 ∷ 48 ∷ 32 ∷ 51 ∷ 32 ∷ 50 ∷ 10 ∷ []
unfolding digits_in digits answer_line
line_of_case_j = refl

-- R61: the line of the greatest numbers has 67 bytes
pub line_of_the_longest :
    length (answer_line ((Err (record { number = 65535; place = 18446744073709551615; tick = 18446744073709551615; excess = 4294967295 })))) ≡ 67
unfolding digits_in digits answer_line
line_of_the_longest = refl

-- two runs of digits, each before a byte that is none, are the same where the whole is, and so are that byte and what follows it
runs : (xs ys t u : List ℕ) (a b : ℕ) → AllDigits xs → AllDigits ys → a < 48 → b < 48 → xs ++ (a ∷ t) ≡ ys ++ (b ∷ u) → (xs ≡ ys) × (a ≡ b) × (t ≡ u)
unfolding AllDigits
runs [] [] t u a b p q ha hb e = (refl, cc, cc)
runs [] (y ∷ ys) t u a b p q ha hb e = let z : a ≡ y = cc in absurd (omega arith)
runs (x ∷ xs) [] t u a b p q ha hb e = let z : x ≡ b = cc in absurd (omega arith)
runs (x ∷ xs) (y ∷ ys) t u a b p q ha hb e =
    let z : x ≡ y = cc in
    let w : xs ++ (a ∷ t) ≡ ys ++ (b ∷ u) = cc in
    let r = runs xs ys t u a b p.2 q.2 ha hb w in
    (rw (z, r.0), r.1, r.2)

-- a run that is a number's
numbers : (m n : ℕ) (t u : List ℕ) (a b : ℕ) → a < 48 → b < 48 → digits m ++ (a ∷ t) ≡ digits n ++ (b ∷ u) → (m ≡ n) × (a ≡ b) × (t ≡ u)
numbers m n t u a b ha hb e =
    let r = runs (digits m) (digits n) t u a b (digits_are_digits m) (digits_are_digits n) ha hb e in
    (digits_one m n r.0, r.1, r.2)

gives_one : (r s : ℕ) → answer_line (Ok r) ≡ answer_line (Ok s) → r ≡ s
unfolding answer_line
gives_one r s e = (numbers r s [] [] 10 10 (omega arith) (omega arith) (ap (drop 8) e)).0

differ : (r : ℕ) (x : Refusal) → answer_line (Ok r) ≡ answer_line (Err x) → ⊥
unfolding answer_line
differ r x e = let z : ◌≡◌ {A = ℕ} 108 102 = ap (λ (l : List ℕ). get_or l 2 0) e in omega arith

-- ---- what stands behind the place

-- the byte behind the place, and what follows it
abbrev byte_behind : Bool → ℕ
byte_behind true = 32
byte_behind false = 10

abbrev rest_behind : Bool → (tick excess : ℕ) → List ℕ
rest_behind true d x = digits d ++ (32 ∷ (digits x ++ (10 ∷ [])))
rest_behind false d x = []

behind_low : (b : Bool) → byte_behind b < 48
behind_low true = omega arith
behind_low false = omega arith

-- the line from its number on, a number at a time
from_number : (m p : ℕ) (b : Bool) (d x : ℕ)
    → digits m ++ space ++ digits p ++ lateness b d x ++ line_feed ≡ digits m ++ (32 ∷ (digits p ++ (byte_behind b ∷ rest_behind b d x)))
from_number m p true d x = simp append_assoc
from_number m p false d x = simp append_assoc

-- R103: a refusal that says no tick and no excess has 0 for both
carries_none : (x : Refusal) → carries x ≡ false → (x.tick ≡ 0) × (x.excess ≡ 0)
carries_none x = go (ltb 0 x.excess) refl
  where
    go : (b : Bool) → ltb 0 x.excess ≡ b → pick b true (ltb 0 x.tick) ≡ false → (x.tick ≡ 0) × (x.excess ≡ 0)
    go true e h = absurd (true_false refl h)
    go false e h = (omega (arith, ltb-false 0 x.tick h), omega (arith, ltb-false 0 x.excess e))

behind_one : (x y : Refusal) (a b : Bool) → carries x ≡ a → carries y ≡ b → byte_behind a ≡ byte_behind b
    → rest_behind a x.tick x.excess ≡ rest_behind b y.tick y.excess → (x.tick ≡ y.tick) × (x.excess ≡ y.excess)
behind_one x y true true p q e f =
    let t = numbers x.tick y.tick _ _ 32 32 (omega arith) (omega arith) f in
    (t.0, (numbers x.excess y.excess [] [] 10 10 (omega arith) (omega arith) t.2).0)
behind_one x y true false p q e f = absurd (omega (arith, e))
behind_one x y false true p q e f = absurd (omega (arith, e))
behind_one x y false false p q e f =
    let s = carries_none x p in
    let t = carries_none y q in
    (s.0 ∙ sym t.0, s.1 ∙ sym t.1)

refuses_one : (x y : Refusal) → answer_line (Err x) ≡ answer_line (Err y) → x ≡ y
unfolding answer_line
refuses_one x y e =
    let w = sym (from_number x.number x.place (carries x) x.tick x.excess) ∙ ap (drop 8) e ∙ from_number y.number y.place (carries y) y.tick y.excess in
    let f = numbers x.number y.number _ _ 32 32 (omega arith) (omega arith) w in
    let g = numbers x.place y.place _ _ (byte_behind (carries x)) (byte_behind (carries y)) (behind_low (carries x)) (behind_low (carries y)) f.2 in
    let h = behind_one x y (carries x) (carries y) refl refl g.1 g.2 in
    rw (f.0, g.0, h.0, h.1)

-- R61: two different answers have different lines
pub line_unique : (s t : Said ℕ) → answer_line s ≡ answer_line t → s ≡ t
line_unique (Ok r) (Ok s) e = ap Ok (gives_one r s e)
line_unique (Ok r) (Err x) e = absurd (differ r x e)
line_unique (Err x) (Ok r) e = absurd (differ r x (sym e))
line_unique (Err x) (Err y) e = ap Err (refuses_one x y e)

-- ---- how long a line is

-- R61: how long a start's line is
pub gives_length : (r : ℕ) → length (answer_line (Ok r)) ≡ 9 + length (digits r)
unfolding answer_line
gives_length r = simp length-append (omega arith)

-- R61, R103: how many bytes a tick and an excess take
pub lateness_length : (b : Bool) (d x : ℕ) → length (lateness b d x) ≡ pick b (2 + length (digits d) + length (digits x)) 0
lateness_length true d x = simp length-append (omega arith)
lateness_length false d x = refl

-- R61: how long a refusal's line is
pub refuses_length : (x : Refusal) → length (answer_line (Err x)) ≡ 10 + length (digits x.number) + length (digits x.place) + length (lateness_of x)
unfolding answer_line
refuses_length x = simp length-append (omega arith)

-- R103: a refusal that the test finds to say a tick and an excess, or not
pub late_is : (x : Refusal) {b : Bool} → b ≡ carries x → (c : Bool) → b ≡ c → lateness_of x ≡ lateness c x.tick x.excess
late_is x e c f = ap (λ (b : Bool). lateness b x.tick x.excess) (sym e ∙ f)

-- R103: a refusal that the test finds to say no tick and no excess, and one that it finds to say them
pub none_said : {b : Bool} (x : Refusal) → b ≡ carries x → not b ≡ true → lateness_of x ≡ []
none_said {b} x e h = late_is x e false (not-true b h)

pub some_said : {b : Bool} (x : Refusal) → b ≡ carries x → not b ≡ false → lateness_of x ≡ lateness true x.tick x.excess
some_said {b} x e h = late_is x e true (not-false b h)

-- R103: how many bytes they take of it
pub late_length : (x : Refusal) (b : Bool) → b ≡ carries x → length (lateness_of x) ≡ pick b (2 + length (digits x.tick) + length (digits x.excess)) 0
late_length x b e = rw (sym e) (lateness_length b x.tick x.excess)

-- R61: how long a line and its pieces are
pub ruleset lengths = (gives_length, refuses_length, late_length, printed)

-- R61: 72 bytes are enough: a number of 64 bits has at most 20 digits, one of 32 at most 10, and one of 16 at most 5
pub line_length_lem : (s : Said ℕ) → AnswerWidths s → length (answer_line s) ≤ 72
line_length_lem (Ok r) h = omega (arith, gives_length r, digits_short 19 r (omega arith))
line_length_lem (Err x) h =
    omega (
      arith,
      refuses_length x,
      digits_short 4 x.number (omega arith),
      digits_short 19 x.place (omega arith),
      digits_short 19 x.tick (omega arith),
      digits_short 9 x.excess (omega arith),
      go (carries x),
    )
  where
    go : (b : Bool) → length (lateness b x.tick x.excess) ≤ 2 + length (digits x.tick) + length (digits x.excess)
    go true = omega (arith, lateness_length true x.tick x.excess)
    go false = omega arith

-- the fact that a reply carries has one proof
module _ (b : List ℕ) (m : ℕ) (w : m ≤ 72) where
  abbrev SameAs : List ℕ → ℕ → Type 0
  SameAs c n = (x : n ≤ 72) → ◌≡◌ {A = Reply} (record { bytes = b; len = m; within = w }) (record { bytes = c; len = n; within = x })

  one_proof : SameAs b m
  one_proof x i = record { bytes = b; len = m; within = le_prop w x i }

  same_reply : (c : List ℕ) (n : ℕ) → b ≡ c → m ≡ n → SameAs c n
  same_reply c n e f = subst (λ (n : ℕ). SameAs c n) f (subst (λ (c : List ℕ). SameAs c m) e one_proof)

-- R71: what a reply may be is one thing
pub reply_settled : (line : List ℕ) (r s : Reply) → Replied line r → Replied line s → r ≡ s
reply_settled line r s v w =
    let n : r.len ≡ s.len = v.long ∙ sym w.long in
    let f : take r.len r.bytes ≡ take s.len s.bytes = v.first ∙ sym w.first in
    let g : drop r.len r.bytes ≡ drop s.len s.bytes = rw (v.rest, w.rest, n) in
    let b : r.bytes ≡ s.bytes =
    sym (take-append-drop r.len r.bytes) ∙ rw (f, g) (take-append-drop s.len s.bytes) in
    same_reply r.bytes r.len r.within s.bytes s.len b n s.within

-- R71: and so are what putting a line into a buffer may answer and what the buffer may then hold
pub put_reply_settled : (line buffer : List ℕ) (r s : Option ℕ) (m n : List ℕ)
    → (r ≡ length_for line buffer) × (m ≡ held_after line buffer)
    → (s ≡ length_for line buffer) × (n ≡ held_after line buffer)
    → (r ≡ s) × (m ≡ n)
put_reply_settled line buffer r s m n v w = (v.0 ∙ sym w.0, v.1 ∙ sym w.1)
