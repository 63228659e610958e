-- The second demand is kept.
use Rattle.std.specs.Prelude.{Ok, Err}
use mathlib.Core.Path.{◌≡◌, refl, sym, ap, ap₂, ◌∙◌, subst}
use mathlib.Core.Logic.{inl, inr, ⊎_elim}
use mathlib.Core.List.{List, [], ◌∷◌, ◌++◌}
use Prim.Native.Nat.{ℕ, ◌/◌, ◌%◌, ◌^◌}
use borrow.Author.Tests.{le-leb}
use native.Mathlib.Omega.{arith}
use lib.ListN.{length, drop}
use Rattle.table.specs.declared.Table.{Table}
use Rattle.table.specs.declared.Request.{Request}
use Rattle.table.specs.declared.Refusal.{Refusal}
use Rattle.table.specs.Words.{Said}
use Rattle.table.specs.Grounds.{Row, grounds, FirstOf, NoneOf, Answers}
use Rattle.card.proofs.Written.{written_reads}
use Rattle.card.specs.Reading.{card_for, meaning, read_with}
use Rattle.card.specs.Twin.{turned_of}
use Rattle.card.proofs.Grounds.{Refuses, read_refuses}
use Rattle.card.proofs.Turned.{turned_bit}
use Rattle.card.proofs.Twins.{twin_reads}
use Rattle.card.proofs.WritesBack.{own_twin}
use Rattle.card.proofs.Exactly.{twin_is_new, read_alike}
use Rattle.card.proofs.Rewritten.{write_is, buffer_is}
use Rattle.image.proofs.ReadsBack.{one_image}
use Rattle.image.proofs.WritesBack.{loaded_length, stores_back}
use Rattle.image.proofs.Stored.{has_room, room_is, stored_is, stored_loads}
use Rattle.calls.specs.declared.Returned.{Returned}
use Rattle.calls.specs.Results.{granted_as}
use Rattle.calls.proofs.Theorems.{rewrites_twin}
use Rattle.promises.specs.Demand2.{LeastStart, SomeOf, ExactlyRefused, WrittenReadsBack, ReadWritesTwin, ReadWritesBack, RewritesTwin, ReadRefusesBroken, StoredLoadsBack, LoadedStoresBack, Demand2}

-- R14: the relation says so itself
pub least_start : LeastStart
least_start t q a r h e = (subst (Answers t q) e h.answers).1

-- the first that holds is one that holds
some_first : (rs : List Row) (t : Table) (q : Request) (x : Refusal) → FirstOf rs t q x → SomeOf rs t q
some_first [] t q x h = h
some_first (r ∷ rs) t q x h = ⊎_elim (λ a. inl (x, a)) (λ a. inr (some_first rs t q x a.1)) h

-- where none holds, not one does
none_some : (rs : List Row) (t : Table) (q : Request) → NoneOf rs t q → SomeOf rs t q → ⊥
none_some [] t q n s = s
none_some (r ∷ rs) t q n s = ⊎_elim (λ a. n.0 a.0 a.1) (λ a. none_some rs t q n.1 a) s

-- R18: refused exactly where a ground holds
pub exactly_refused : ExactlyRefused
exactly_refused = record {
  first = λ t q a x h e. subst (Answers t q) e h.answers;
  only = λ t q a x h e. some_first grounds t q x (subst (Answers t q) e h.answers);
  always = λ t q a h s. by t q a h.answers s;
}
  where
    by : (t : Table) (q : Request) (w : Said ℕ) → Answers t q w → SomeOf grounds t q → (x : Refusal) × (w ≡ Err x)
    by t q (Ok r) h s = absurd (none_some grounds t q h.0 s)
    by t q (Err x) h s = (x, refl)

-- R72: a written card reads back
pub written_reads_back : WrittenReadsBack
written_reads_back t q l a m n f w e = rw w.1 (written_reads 16 t q f l n (sym w.0 ∙ e))

-- R72: a card that reads is written as its twin
pub read_writes_twin : ReadWritesTwin
read_writes_twin card c l a m b e h w =
    let fits = le-leb (length card) (length l) h in
    (w.0 ∙ write_is 16 card l b c e fits, w.1 ∙ buffer_is 16 card l b c e fits)

-- R72: which is itself where it has no TA
pub read_writes_back : ReadWritesBack
read_writes_back card c l a m b e z h w =
    let t = read_writes_twin card c l a m b e h w in
    (t.0, t.1 ∙ ap (λ (x : List ℕ). x ++ drop (length card) l) (own_twin 16 card b c e z))

-- R65: the tool writes the twin, and names the slots of the TA records
pub rewrites_as_twin : RewritesTwin
unfolding read_with
rewrites_as_twin card d l r m b e h w =
    let t = rewrites_twin card l b (card_for d) (ap meaning e) h in
    let p : r.place ≡ turned_of card = ap (λ (x : Returned). x.place) (w.0 ∙ t.0) in (
      w.0 ∙ t.0 ∙ ap (λ (k : ℕ). granted_as k (length card)) (sym p),
      (λ k. ap (λ (x : ℕ). x / 2 ^ k % 2) p ∙ turned_bit 16 card d e k),
      w.1 ∙ t.1,
    )

-- R32, R57: the reader's refusal is 11
pub read_refuses_broken : ReadRefusesBroken
read_refuses_broken card x e = ap (λ (r : Refusal). r.number) (subst Refuses e (read_refuses 16 card))

-- R82: a stored table loads back
pub stored_loads_back : StoredLoadsBack
stored_loads_back t l a m n w s e =
    let g = room_is (length l) n (sym s.0 ∙ e) in
    rw (g.1, s.1) (stored_loads t l w g.0)

-- R82: an image that loads is stored byte for byte
pub loaded_stores_back : LoadedStoresBack
loaded_stores_back image t l a m b e h s =
    let n : length image ≡ 298 = loaded_length 16 image t e in
    (s.0 ∙ has_room (length l) (omega arith) ∙ ap Ok (sym n), s.1 ∙ stored_is t l (omega arith) ∙ ap₂ (λ (x : List ℕ) (k : ℕ). x ++ drop k l) (stores_back 16 image b t e).0 (sym n))

-- R14, R18, R65, R72, R82: the second demand
pub second_demand : Demand2
second_demand = record {
  least_start = least_start;
  exactly_refused = exactly_refused;
  written_reads_back = written_reads_back;
  read_writes_twin = read_writes_twin;
  read_writes_back = read_writes_back;
  twin_reads = λ card c b e. (twin_reads 16 card b ∙ e, twin_is_new 16 card b c e);
  read_alike = read_alike 16;
  rewrites_twin = rewrites_as_twin;
  read_refuses_broken = read_refuses_broken;
  stored_loads_back = stored_loads_back;
  loaded_stores_back = loaded_stores_back;
  one_image = one_image 16;
}
