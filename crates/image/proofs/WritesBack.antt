-- An image that loads is stored byte for byte as it was (R82).
use Rattle.std.specs.Prelude.{Ok, Option, None, Some}
use mathlib.Core.Path.{◌≡◌, refl, sym, ap, ap₂, ◌∙◌}
use mathlib.Core.List.{List, [], ◌∷◌, ◌++◌, append_assoc}
use mathlib.Core.Bool.{Bool, true, false}
use Prim.Native.Nat.{ℕ, zero, suc, ◌+◌, ◌*◌, ◌≤◌, ◌<◌}
use native.Mathlib.Omega.{arith}
use lib.ListN.{length, drop, length-drop, drop_of_length-le}
use lib.Seq.{drop-cons, drop-drop}
use lib.Dec.{eqb, ltb}
use borrow.Author.Tests.{ltb-false, le-leb, eqb-true}
use Rattle.periods.specs.Multiples.{All}
use Rattle.line.specs.declared.Follows.{Follows}
use Rattle.line.specs.declared.Follows.TheVariants.{Renews, Leaves}
use Rattle.line.specs.declared.Held.TheVariants.{Nothing, Running, Waiting}
use Rattle.line.specs.declared.Slot.{Slot}
use Rattle.line.specs.Slots.{pick, holding, or_else}
use Rattle.line.proofs.Search.{lowest_none}
use Rattle.table.specs.declared.Table.{Table}
use Rattle.card.specs.Bytes.{Bytes, le, value}
use Rattle.card.proofs.Numbers.{bytes_drop, le_value, value_lt}
use Rattle.image.specs.Image.{version, counts_at, idle_at, departed_at, last_at, size, run_kind, nine, slot_bytes, slots_bytes, counts_bytes, image_of, Narrow, AllNarrow, InEight, TableWidths}
use Rattle.image.specs.Loading.{byte, blank_from, is_wrong, slot_wrong, on_by, slots_wrong, version_wrong, length_wrong, wrong_in, run_in, wait_in, held_in, slots_in, counts_in, table_in, unless_wrong, load_with}
use Rattle.image.proofs.Series.{next_drop, length_found, series_stand}

-- where a first and a second find none, neither finds one
pub or_none : (o p : Option ℕ) → or_else o p ≡ None → (o ≡ None) × (p ≡ None)
or_none None p e = (refl, e)
or_none (Some k) p e = cc

on_none : (k : ℕ) (o : Option ℕ) → on_by k o ≡ None → o ≡ None
on_none k None e = refl
on_none k (Some i) e = cc

-- a ground that a failed test gives is not given where the test holds
pub pick_none : (o : Bool) (k : ℕ) → pick o None (Some k) ≡ None → o ≡ true
pick_none true k e = refl
pick_none false k e = cc

-- R81: any nine bytes are a kind and four numbers
nine_is : (l : List ℕ) → Bytes l → 9 ≤ length l
    → l ≡ nine (byte l 0) (value 2 l 1) (value 2 l 3) (value 2 l 5) (value 2 l 7) ++ drop 9 l
nine_is l b h =
    drop-cons l 0 0 (omega arith)
    ∙ ap (λ (x : List ℕ). byte l 0 ∷ x) (le_value 2 l 1 b (omega arith)
    ∙ ap (λ (x : List ℕ). le 2 (value 2 l 1) ++ x) (le_value 2 l 3 b (omega arith)
    ∙ ap (λ (x : List ℕ). le 2 (value 2 l 3) ++ x) (le_value 2 l 5 b (omega arith)
    ∙ ap (λ (x : List ℕ). le 2 (value 2 l 5) ++ x) (le_value 2 l 7 b (omega arith)))))

module _ (l : List ℕ) (w : slot_wrong l ≡ None) where
  -- R83: where nothing is wrong a byte that should be 0 is 0
  pub blank : (i : ℕ) → i < 9 → blank_from (byte l 0) ≤ i → byte l i ≡ 0
  blank i h k =
      let u : ltb 0 (byte l i) ≡ false = rw (le-leb (blank_from (byte l 0)) i k) at (lowest_none (is_wrong l) 9 w i h) in
      omega (arith, ltb-false 0 (byte l i) u)

  -- R83: no kind above 3
  kind_zero : eqb (byte l 0) 1 ≡ false → eqb (byte l 0) 2 ≡ false → eqb (byte l 0) 3 ≡ false → byte l 0 ≡ 0
  unfolding blank_from
  kind_zero p q r = go (eqb (byte l 0) 0) refl
    where
      go : (o : Bool) → eqb (byte l 0) 0 ≡ o → byte l 0 ≡ 0
      go true e = eqb-true (byte l 0) 0 e
      go false e = let z : blank_from (byte l 0) ≡ 0 = rw (e, p, q, r) in blank 0 (omega arith) (omega arith)

  -- R81: two bytes that should be 0 are the number 0
  blank_two : (i : ℕ) → i < 8 → blank_from (byte l 0) ≤ i → value 2 l i ≡ 0
  blank_two i h k = omega (arith, blank i (omega arith) k, blank (suc i) (omega arith) (omega arith))

  -- R82: the nine bytes are what the slot holds
  pub stands : Bytes l → 9 ≤ length l → (l ≡ slot_bytes (held_in l) ++ drop 9 l) × Narrow (held_in l)
  unfolding held_in blank_from
  stands b h = go (eqb (byte l 0) 1) (eqb (byte l 0) 2) (eqb (byte l 0) 3) refl refl refl
    where
      runs : (f : Follows) → byte l 0 ≡ run_kind f → (l ≡ slot_bytes (Running (run_in f l)) ++ drop 9 l) × Narrow (Running (run_in f l))
      runs f k = (
        nine_is l b h ∙ ap (λ (k : ℕ). nine k (value 2 l 1) (value 2 l 3) (value 2 l 5) (value 2 l 7) ++ drop 9 l) k,
        (value_lt 2 l 1 b, value_lt 2 l 3 b, value_lt 2 l 5 b, value_lt 2 l 7 b),
      )

      go : (o p q : Bool) → eqb (byte l 0) 1 ≡ o → eqb (byte l 0) 2 ≡ p → eqb (byte l 0) 3 ≡ q
          → (l ≡ slot_bytes (pick o (Running (run_in Renews l)) (pick p (Waiting (wait_in l)) (pick q (Running (run_in Leaves l)) Nothing))) ++ drop 9 l)
          × Narrow (pick o (Running (run_in Renews l)) (pick p (Waiting (wait_in l)) (pick q (Running (run_in Leaves l)) Nothing)))
      go true p q d e g = runs Renews (eqb-true (byte l 0) 1 d)
      go false true q d e g =
          let k : byte l 0 ≡ 2 = eqb-true (byte l 0) 2 e in
          let z : blank_from (byte l 0) ≡ 7 = ap blank_from k in (
            nine_is l b h ∙ ap₂ (λ (k v : ℕ). nine k (value 2 l 1) (value 2 l 3) (value 2 l 5) v ++ drop 9 l) k (blank_two 7 (omega arith) (omega arith)),
            (value_lt 2 l 1 b, value_lt 2 l 3 b, value_lt 2 l 5 b, omega arith),
          )
      go false false true d e g = runs Leaves (eqb-true (byte l 0) 3 g)
      go false false false d e g =
          let k : byte l 0 ≡ 0 = kind_zero d e g in
          let z : blank_from (byte l 0) ≡ 1 = ap blank_from k in (
            nine_is l b h
                ∙ rw (k, blank_two 1 (omega arith) (omega arith), blank_two 3 (omega arith) (omega arith), blank_two 5 (omega arith) (omega arith), blank_two 7 (omega arith) (omega arith)),
            (omega arith, omega arith, omega arith, omega arith),
          )

-- R83: where nothing is wrong with n slots nothing is wrong with one of them
each_right : (n at : ℕ) (l : List ℕ) → slots_wrong n at l ≡ None → (i : ℕ) → i < n → slot_wrong (drop (9 * i) l) ≡ None
unfolding slots_wrong
each_right zero at l w i h = absurd (omega arith)
each_right (suc n) at l w zero h = on_none at (slot_wrong l) (or_none (on_by at (slot_wrong l)) (slots_wrong n (at + 9) (drop 9 l)) w).0
each_right (suc n) at l w (suc i) h =
    let v = or_none (on_by at (slot_wrong l)) (slots_wrong n (at + 9) (drop 9 l)) w in
    rw (sym (next_drop 9 i l)) (each_right n (at + 9) (drop 9 l) v.1 i (omega arith))

-- R82: the bytes of n slots are what the slots hold
slots_stand : (n at : ℕ) (l : List ℕ) → Bytes l → 9 * n ≤ length l → slots_wrong n at l ≡ None
    → (slots_bytes (slots_in n l) ++ drop (9 * n) l ≡ l) × AllNarrow (slots_in n l)
slots_stand n at l b h w =
    series_stand 9 (λ (x : List ℕ). holding (held_in x)) (λ (s : Slot). slot_bytes s.held) (λ (s : Slot). Narrow s.held) n l
    (λ i k. stands (drop (9 * i) l) (each_right n at l w i k) (bytes_drop (9 * i) l b) (omega (arith, length-drop (9 * i) l)))

-- R82: the bytes of n counts are the counts
counts_stand : (n : ℕ) (l : List ℕ) → Bytes l → 8 * n ≤ length l
    → (counts_bytes (counts_in n l) ++ drop (8 * n) l ≡ l) × All InEight (counts_in n l)
counts_stand n l b h =
    series_stand 8 (λ (x : List ℕ). value 8 x 0) (le 8) InEight n l
    (λ i k. let c = bytes_drop (8 * i) l b in
    (le_value 8 (drop (8 * i) l) 0 c (omega (arith, length-drop (8 * i) l)), value_lt 8 (drop (8 * i) l) 0 c))

-- R83: where nothing is wrong the version is right, the slots are, and the length is
pub nothing_wrong : (n : ℕ) (l : List ℕ) → wrong_in n l ≡ None → (byte l 0 ≡ version) × (slots_wrong n 9 (drop 9 l) ≡ None) × (length l ≡ size n)
unfolding wrong_in length_wrong
nothing_wrong n l w =
    let v = or_none (version_wrong l) _ w in
    let s = or_none (slots_wrong n 9 (drop 9 l)) (length_wrong (size n) (length l)) v.1 in
    (eqb-true (byte l 0) version (pick_none _ _ v.0), s.0, eqb-true (length l) (size n) (pick_none _ _ s.1))

-- R83: nothing is wrong with bytes that load, and the table is the one that stands in them
pub loads_says : (n : ℕ) (l : List ℕ) (t : Table) → load_with n l ≡ Ok t → (wrong_in n l ≡ None) × (table_in n l ≡ t)
unfolding load_with
loads_says n l t e = go (wrong_in n l) e
  where
    go : (o : Option ℕ) → unless_wrong o (table_in n l) ≡ Ok t → (o ≡ None) × (table_in n l ≡ t)
    go None e = (refl, cc)
    go (Some at) e = cc

-- R81, R83: bytes that load have an image's length
pub loaded_length : (n : ℕ) (l : List ℕ) (t : Table) → load_with n l ≡ Ok t → length l ≡ size n
loaded_length n l t e = (nothing_wrong n l (loads_says n l t e).0).2

-- the version, the clock, and what follows
front_is : (l : List ℕ) → Bytes l → 9 ≤ length l → byte l 0 ≡ version → l ≡ (version ∷ le 8 (value 8 l 1)) ++ drop 9 l
front_is l b h v =
    drop-cons l 0 0 (omega arith) ∙ ap₂ (λ (k : ℕ) (x : List ℕ). k ∷ x) v (le_value 8 l 1 b (omega arith))

-- the idle count, the departed one and the last slot, where nothing follows
idle_on_lem : (n : ℕ) (l : List ℕ) → Bytes l → length l ≡ size n
    → le 8 (value 8 l (idle_at n)) ++ (le 8 (value 8 l (departed_at n)) ++ (byte l (last_at n) ∷ [])) ≡ drop (idle_at n) l
idle_on_lem n l b h =
    sym (le_value 8 l (idle_at n) b (omega arith)
    ∙ ap (λ (x : List ℕ). le 8 (value 8 l (idle_at n)) ++ x) (le_value 8 l (departed_at n) b (omega arith)
    ∙ ap (λ (x : List ℕ). le 8 (value 8 l (departed_at n)) ++ x) (drop-cons l (last_at n) 0 (omega arith)
    ∙ ap (λ (x : List ℕ). byte l (last_at n) ∷ x) (drop_of_length-le l {i = suc (last_at n)} (omega arith)))))

-- bytes f, s, c and d one after the other, each up to where the next begins
joined : (l : List ℕ) (a b : ℕ) (f s c d : List ℕ) → d ≡ drop b (drop a (drop 9 l)) → c ++ drop b (drop a (drop 9 l)) ≡ drop a (drop 9 l)
    → s ++ drop a (drop 9 l) ≡ drop 9 l → l ≡ f ++ drop 9 l → f ++ s ++ c ++ d ≡ l
joined l a b f s c d ed ec es ef =
    append_assoc (f ++ s) c d ∙ ap (λ (x : List ℕ). f ++ s ++ x) (ap (λ (x : List ℕ). c ++ x) ed ∙ ec)
    ∙ append_assoc f s (drop a (drop 9 l)) ∙ ap (λ (x : List ℕ). f ++ x) es ∙ sym ef

-- R82: the table that stands in right bytes has these bytes as its image
table_stands : (n : ℕ) (l : List ℕ) → Bytes l → wrong_in n l ≡ None → (image_of (table_in n l) ≡ l) × TableWidths n (table_in n l)
unfolding image_of
table_stands n l b w =
    let v = nothing_wrong n l w in
    let s = slots_stand n 9 (drop 9 l) (bytes_drop 9 l b) (omega (arith, length-drop 9 l, v.2)) v.1 in
    let c = counts_stand n (drop (counts_at n) l) (bytes_drop (counts_at n) l b) (omega (arith, length-drop (counts_at n) l, v.2)) in
    let front = version ∷ le 8 (value 8 l 1) in
    let slots = slots_bytes (slots_in n (drop 9 l)) in
    let counts = counts_bytes (counts_in n (drop (counts_at n) l)) in
    let idle = le 8 (value 8 l (idle_at n)) in
    let departed = le 8 (value 8 l (departed_at n)) in
    let last = byte l (last_at n) ∷ [] in
    let d : drop (9 * n) (drop 9 l) ≡ drop (counts_at n) l = drop-drop (9 * n) 9 l in
    let e : drop (8 * n) (drop (counts_at n) l) ≡ drop (idle_at n) l = drop-drop (8 * n) (counts_at n) l in (
      append_assoc (front ++ slots ++ counts ++ idle) departed last ∙ append_assoc (front ++ slots ++ counts) idle (departed ++ last)
          ∙ joined l (9 * n) (8 * n) front slots counts (idle ++ (departed ++ last))
          (rw (d, e) (idle_on_lem n l b v.2)) (rw d c.0) s.0 (front_is l b (omega (arith, v.2)) v.0),
      record {
        slots = length_found 9 (λ (x : List ℕ). holding (held_in x)) n (drop 9 l);
        clock = value_lt 8 l 1 b;
        lines = s.1;
        counts = length_found 8 (λ (x : List ℕ). value 8 x 0) n (drop (counts_at n) l);
        had = c.1;
        idle = value_lt 8 l (idle_at n) b;
        departed = value_lt 8 l (departed_at n) b;
        last = b (last_at n);
      },
    )

-- R82: an image that loads is stored byte for byte, and its table has the code's widths
pub stores_back : (n : ℕ) (l : List ℕ) → Bytes l → (t : Table) → load_with n l ≡ Ok t → (image_of t ≡ l) × TableWidths n t
stores_back n l b t e = let v = loads_says n l t e in rw v.1 at (table_stands n l b v.0)
