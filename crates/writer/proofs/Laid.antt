-- Bytes that are put behind bytes.
use Rattle.std.proofs.Common.{◌≡◌, ℕ, ◌+◌, ◌≤◌, List, [], ◌++◌, length, take, drop, sym, ap, ap₂, ◌∙◌, append_assoc, arith, length-append, length-take, length-drop}
use lib.ListN.{take-append-drop}
use lib.Seq.{take_at, drop_at, drop-drop}
use Rattle.writer.specs.Laid.{Laid}

-- nothing is put yet
pub laid_nothing : (l : List ℕ) (a : ℕ) → a ≤ length l → Laid l l a a []
laid_nothing l a h = record { room = h; end = omega arith; laid = sym (take-append-drop a l) }

module _ {l m : List ℕ} {a b : ℕ} {x : List ℕ} (p : Laid l m a b x) where
  -- the buffer keeps its length
  pub laid_length : length m ≡ length l
  laid_length =
      omega (
        arith,
        ap length p.laid,
        length-append (take a l) (x ++ drop b l),
        length-append x (drop b l),
        length-take a l,
        length-drop b l,
        p.room,
        p.end,
      )

  -- bytes y behind the bytes x
  pub and_then : {n : List ℕ} {c : ℕ} {y : List ℕ} → Laid m n b c y → Laid l n a c (x ++ y)
  and_then {n} {c} {y} q =
      let k : length (take a l) ≡ a = omega (arith, length-take a l, p.room, p.end) in
      let e : m ≡ (take a l ++ x) ++ drop b l = p.laid ∙ sym (append_assoc (take a l) x (drop b l)) in
      let i : length (take a l ++ x) ≡ b = omega (arith, length-append (take a l) x, p.end) in
      let t : take b m ≡ take a l ++ x = ap (take b) e ∙ take_at (take a l ++ x) (drop b l) b i in
      let j : c ≡ b + length y = q.end in
      let f : drop b m ≡ drop b l = ap (drop b) e ∙ drop_at (take a l ++ x) (drop b l) b i in
      let d : drop c m ≡ drop c l =
      ap (λ (z : ℕ). drop z m) j ∙ sym (drop-drop (length y) b m) ∙ ap (drop (length y)) f ∙ drop-drop (length y) b l ∙ ap (λ (z : ℕ). drop z l) (sym j) in
      record {
        room = omega (arith, q.room, laid_length);
        end = omega (arith, length-append x y, p.end, q.end);
        laid =
            q.laid ∙ ap₂ (λ (u v : List ℕ). u ++ (y ++ v)) t d
            ∙ append_assoc (take a l) x (y ++ drop c l)
            ∙ ap (λ (u : List ℕ). take a l ++ u) (sym (append_assoc x y (drop c l)));
      }
