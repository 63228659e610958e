-- Four slices gone through together are the lines that they make.
use Prim.Native.Nat.{ℕ, zero, suc}
use mathlib.Core.Path.{◌≡◌, refl, ap, sym, ◌∙◌}
use mathlib.Core.Bool.{Bool, true, false, ◌&&◌}
use mathlib.Core.List.{List, [], ◌∷◌, map}
use native.Mathlib.Omega.{arith}
use Prim.Native.Nat.{◌<◌}
use lib.ListN.{length, get_or}
use Rattle.std.proofs.lemmas.Slice.Zip.{length-zip}
use Rattle.std.specs.List.{zip, list_all}
use Rattle.std.specs.Iterator.Adapters.{zip_first, zip_second}
use Rattle.std.specs.Slice.Iter.{iter_rest}
use Rattle.std.specs.declared.iter.Zip.{Zip}
use Rattle.std.specs.declared.slice.Iter.{Iter}
use Rattle.std.proofs.iter.Yields.{fronts}
use Rattle.std.proofs.lemmas.Iterator.{YieldsList, zips, YieldsList-from_slice, YieldsList-from_zip}
use Rattle.line.specs.declared.Stream.{Stream}
use Rattle.line.specs.Slots.{both}
use Rattle.line.specs.Streams.{stream}
use Rattle.sums.specs.Lines.{along, all_of, line_at, lines_of}
use Rattle.sums.proofs.Along.{along_later}

-- the line of four numbers in a row
abbrev pub line_of_four : ((ℕ × ℕ) × ℕ) × ℕ → Stream
line_of_four q = stream q.0.0.0 q.0.0.1 q.0.1 q.1

-- four lists side by side
abbrev pub zip_four : (e c n p : List ℕ) → List (((ℕ × ℕ) × ℕ) × ℕ)
zip_four e c n p = zip (zip (zip e c) n) p

-- four slices gone through together give their numbers side by side
pub yields_four : {s : Zip (Zip (Zip (Iter ℕ) (Iter ℕ)) (Iter ℕ)) (Iter ℕ)} (e c n p : List ℕ) → iter_rest (zip_first (zip_first (zip_first s))) ≡ e
    → iter_rest (zip_second (zip_first (zip_first s))) ≡ c → iter_rest (zip_second (zip_first s)) ≡ n → iter_rest (zip_second s) ≡ p
    → YieldsList {B = ((ℕ × ℕ) × ℕ) × ℕ} (zips (zips (zips fronts fronts) fronts) fronts) (λ q. (((q.0.0.0.now, q.0.0.1.now), q.0.1.now), q.1.now)) s (zip_four e c n p)
yields_four e c n p he hc hn hp =
    YieldsList-from_zip
    (YieldsList-from_zip (YieldsList-from_zip (YieldsList-from_slice e he) (YieldsList-from_slice c hc)) (YieldsList-from_slice n hn))
    (YieldsList-from_slice p hp)

-- R9: side by side they are the lines
pub zipped : (e c n p : List ℕ) → length c ≡ length e → length n ≡ length e → length p ≡ length e → map line_of_four (zip_four e c n p) ≡ lines_of e c n p
unfolding along
zipped [] c n p a b d = refl
zipped (x ∷ e) [] n p a b d = absurd (omega arith)
zipped (x ∷ e) (y ∷ c) [] p a b d = absurd (omega arith)
zipped (x ∷ e) (y ∷ c) (z ∷ n) [] a b d = absurd (omega arith)
zipped (x ∷ e) (y ∷ c) (z ∷ n) (w ∷ p) a b d =
    ap {B = List Stream} (λ l. stream x y z w ∷ l)
    (zipped e c n p (omega arith) (omega arith) (omega arith) ∙ sym (along_later (line_at (x ∷ e) (y ∷ c) (z ∷ n) (w ∷ p)) 0 (length e)))

both_and : (b : Bool) {c d : Bool} → c ≡ d → (b && c) ≡ both b d
both_and true e = e
both_and false e = refl

-- a test of each line
pub list_all_of : {A B : Type 0} (test : B → Bool) (f : A → B) (l : List A) → list_all (λ x. test (f x)) l ≡ all_of test (map f l)
unfolding all_of
list_all_of test f [] = refl
list_all_of test f (x ∷ l) = both_and (test (f x)) (list_all_of test f l)

-- there are as many as there are ends
pub four_length : (e c n p : List ℕ) → length c ≡ length e → length n ≡ length e → length p ≡ length e → length (zip_four e c n p) ≡ length e
four_length e c n p a b d = omega (arith, length-zip (zip (zip e c) n) p, length-zip (zip e c) n, length-zip e c)

-- R9: line i is made of the numbers at i
pub four_at : (e c n p : List ℕ) (i : ℕ) (q : ((ℕ × ℕ) × ℕ) × ℕ) → length c ≡ length e → length n ≡ length e → length p ≡ length e → i < length e
    → line_of_four (get_or (zip_four e c n p) i q) ≡ line_at e c n p i
four_at [] c n p i q a b d h = absurd (omega arith)
four_at (x ∷ e) [] n p i q a b d h = absurd (omega arith)
four_at (x ∷ e) (y ∷ c) [] p i q a b d h = absurd (omega arith)
four_at (x ∷ e) (y ∷ c) (z ∷ n) [] i q a b d h = absurd (omega arith)
four_at (x ∷ e) (y ∷ c) (z ∷ n) (w ∷ p) zero q a b d h = refl
four_at (x ∷ e) (y ∷ c) (z ∷ n) (w ∷ p) (suc i) q a b d h = four_at e c n p i q (omega arith) (omega arith) (omega arith) (omega arith)
