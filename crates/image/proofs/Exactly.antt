-- Which bytes load: exactly the images of tables with the code's widths, each as its own table.
use Rattle.std.specs.Prelude.{Ok, Err}
use mathlib.Core.Path.{◌≡◌, refl, sym, ap, ◌∙◌}
use mathlib.Core.List.{List}
use Prim.Native.Nat.{ℕ}
use Rattle.table.specs.declared.Table.{Table}
use Rattle.table.specs.Words.{Said}
use Rattle.card.specs.Bytes.{Bytes}
use Rattle.image.specs.Image.{image_of, TableWidths}
use Rattle.image.specs.Loading.{load_with}
use Rattle.image.specs.Answers.{handed_out, said_loaded}
use Rattle.image.proofs.ReadsBack.{loads_back}
use Rattle.image.proofs.WritesBack.{stores_back}

-- R84: what is handed out says what was loaded
pub said_loaded_lem : (s : Said Table) → said_loaded (handed_out s) ≡ s
said_loaded_lem (Ok t) = refl
said_loaded_lem (Err x) = refl

module _ (n : ℕ) where
  -- R82: bytes load as a table where they are its image, and nowhere else
  pub loads_exactly : (l : List ℕ) → Bytes l → (t : Table)
      → (load_with n l ≡ Ok t → TableWidths n t × (l ≡ image_of t)) × (TableWidths n t × (l ≡ image_of t) → load_with n l ≡ Ok t)
  loads_exactly l b t = (
    λ e. let v = stores_back n l b t e in (v.1, sym v.0),
    λ w. ap (load_with n) w.1 ∙ loads_back n t w.0,
  )

  -- R82: a table is loaded from one image alone
  pub one_load : (l m : List ℕ) → Bytes l → Bytes m → (t : Table) → load_with n l ≡ Ok t → load_with n m ≡ Ok t → l ≡ m
  one_load l m a b t p q = sym (stores_back n l a t p).0 ∙ (stores_back n m b t q).0
