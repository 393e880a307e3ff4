-- What holds of each item of a text holds of the methods and the rows of the program that is put together of them.
use mathlib.Core.List.{List, [], ◌∷◌, ◌++◌}
use Prim.Native.Nat.{ℕ, zero, suc}
use lib.ListN.{get_or, drop}
use Rattle.rules.specs.Syntax.{Formula, Stmt, Row, Method, Program}
use Rattle.rules.specs.Items.{Item, a_class, a_field, a_method, a_requires, an_ensures, a_main, a_local, a_statement}
use Rattle.rules.specs.Reading.{no_program, on_last, with_requires, with_ensures, with_item, with_items, program}

-- LISTS
module _ {A : Type 0} (Q : A → Type 0) where
  abbrev pub All : List A → Type 0
  All [] = Unit {0}
  All (a ∷ l) = Q a × All l

  pub all-at : (l : List A) (d : A) → Q d → All l → (n : ℕ) → Q (get_or l n d)
  all-at [] d q h n = q
  all-at (a ∷ l) d q h zero = h.0
  all-at (a ∷ l) d q h (suc n) = all-at l d q h.1 n

  pub all_drop : (n : ℕ) (l : List A) → All l → All (drop n l)
  all_drop zero l h = h
  all_drop (suc n) [] h = tt
  all_drop (suc n) (a ∷ l) h = all_drop n l h.1

  all_more : (l : List A) (a : A) → All l → Q a → All (l ++ (a ∷ []))
  all_more [] a h q = (q, tt)
  all_more (b ∷ l) a h q = (h.0, all_more l a h.1 q)

  all-last : (f : A → A) → ((a : A) → Q a → Q (f a)) → (l : List A) → All l → All (on_last f l)
  unfolding on_last
  all-last f k [] h = tt
  all-last f k (a ∷ []) h = (k a h.0, tt)
  all-last f k (a ∷ b ∷ l) h = (h.0, all-last f k (b ∷ l) h.1)

-- what holds of the item of a line, and what of a method and a row
module _ (I : ℕ → Item → Type 0) where
  -- of the items after n lines
  abbrev pub ItemsHold : ℕ → List Item → Type 0
  ItemsHold n [] = Unit {0}
  ItemsHold n (a ∷ items) = I (suc n) a × ItemsHold (suc n) items

  module _ (M : Method → Type 0) (R : Row → Type 0) where
    -- a method of which nothing is known yet, and each item that adds to the program
    pub record Kept : Type 0 where
      pub method : (n : ℕ) → M (record { requires = []; ensures = []; first = n })
      pub requires : (l : ℕ) (φ : Formula ℕ) (N : Method) → I l (a_requires φ) → M N → M (with_requires φ N)
      pub ensures : (l : ℕ) (φ : Formula ℕ) (N : Method) → I l (an_ensures φ) → M N → M (with_ensures φ N)
      pub row : (l : ℕ) (s : Stmt) → I l (a_statement s) → R (record { line = l; stmt = s })

    pub record Parts (P : Program) : Type 0 where
      pub methods : All M P.methods
      pub rows : All R P.rows

    module _ (K : Kept) where
      with-item : (P : Program) (l : ℕ) (a : Item) → I l a → Parts P → Parts (with_item P l a)
      unfolding with_item
      with-item P l a_class i F = record { methods = F.methods; rows = F.rows }
      with-item P l (a_field f) i F = record { methods = F.methods; rows = F.rows }
      with-item P l a_method i F = record { methods = all_more M P.methods _ F.methods (K.method _); rows = F.rows }
      with-item P l (a_requires φ) i F =
          record { methods = all-last M (with_requires φ) (λ N. K.requires l φ N i) P.methods F.methods; rows = F.rows }
      with-item P l (an_ensures φ) i F =
          record { methods = all-last M (with_ensures φ) (λ N. K.ensures l φ N i) P.methods F.methods; rows = F.rows }
      with-item P l a_main i F = record { methods = F.methods; rows = F.rows }
      with-item P l (a_local x) i F = F
      with-item P l (a_statement s) i F =
          record { methods = F.methods; rows = all_more R P.rows _ F.rows (K.row l s i) }

      with-items : (P : Program) (n : ℕ) (items : List Item) → ItemsHold n items → Parts P → Parts (with_items P n items)
      unfolding with_items
      with-items P n [] h F = F
      with-items P n (a ∷ items) h F = with-items (with_item P (suc n) a) (suc n) items h.1 (with-item P (suc n) a h.0 F)

      pub parts : (items : List Item) → ItemsHold 0 items → Parts (program items)
      unfolding program
      parts items h = with-items no_program 0 items h (record { methods = tt; rows = tt })
