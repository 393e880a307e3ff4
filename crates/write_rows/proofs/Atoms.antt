-- One more atom: what was written is read back, and a formula grows.
use mathlib.Core.Path.{◌≡◌, refl, sym, ap, ◌∙◌}
use mathlib.Core.List.{List, [], ◌∷◌, ◌++◌}
use mathlib.Core.Logic.{inl, inr}
use Prim.Native.Nat.{ℕ, ◌+◌, ◌*◌, ◌/◌, ◌%◌, ◌<◌}
use native.Mathlib.Omega.{arith}
use lib.Dec.{T, ltb}
use lib.ListN.{length, get_or}
use borrow.Author.Count.{below_more}
use borrow.Author.Tests.{ltb-true}
use Rattle.rules.specs.Limits.{work_bytes}
use Rattle.rules.specs.Syntax.{Permit, Atom, Formula, num, var, path, own, if}
use Rattle.rules.specs.Syntax.{Program}
use Rattle.tables.specs.declared.Expr as Tables
use Rattle.rules.proofs.Lists.{T_true}
use Rattle.tables.specs.Numbers.{eq_atom}
use Rattle.tables.specs.Layout.{names_at, most_atom_rows}
use Rattle.tables.specs.Decode.{byte_at, word_at, expr_at, left_at, right_at, is_permission, permit_of, rel_of, run, atom_at, atoms_from, atom_place, if_at}
use Rattle.tables.specs.Tables.{SideFits, AtomFitsAt, Declared}
use Rattle.tables.specs.Stores.{meaning, put_word, Kept}
use Rattle.tables.proofs.BytesRead.{word-put}
use Rattle.write_rows.specs.Puts.{tag_of, word_of, bytes_of_atom, put_atom, SideBytes}
use Rattle.write_rows.specs.Holds.{AtomOk, access_of, atom_of, Holds, Building}
use Rattle.write_rows.proofs.Puts.{put-length, put_same, Clear, put-kept}
use Rattle.tables.proofs.Runs.{run_more, end-length}
use Rattle.tables.proofs.Kept.{all-rows, cond_same, atoms-kept}
use Rattle.write_rows.proofs.Kept.{operands-more, method-more, SameRows, holds_kept}

-- SIDES

-- the digits of a number, from the law of four bytes
digits :
    (v : ℕ) → v < 4294967296 →
    v % 256 + v / 256 % 256 * 256 + v / 65536 % 256 * 65536 + v / 16777216 % 256 * 16777216 ≡ v
unfolding put_word
digits v b = word-put (0 ∷ 0 ∷ 0 ∷ 0 ∷ []) 0 v (omega arith) b

second : (x f : ℕ) → x < 256 → f < 256 → (x + f * 256) / 256 % 256 ≡ f
second x f p q = let e : (x + f * 256) / 256 ≡ f = omega arith in rw e (omega arith)

-- the four bytes at i are those of a side
pub record SideAt (w : List ℕ) (i v : ℕ) : Type 0 where
  pub b0 : byte_at w i ≡ v % 256
  pub b1 : byte_at w (i + 1) ≡ v / 256 % 256
  pub b2 : byte_at w (i + 2) ≡ v / 65536 % 256
  pub b3 : byte_at w (i + 3) ≡ v / 16777216 % 256

side-read : (w : List ℕ) (i : ℕ) (e : Tables.Expr) → SideFits (meaning e) → SideAt w i (word_of e) → expr_at w (tag_of e) i ≡ meaning e
unfolding expr_at tag_of word_of meaning SideFits
side-read w i (Tables.Expr.Num n) ok s =
    ap num (let z : word_at w i ≡ n = omega (arith, s.b0, s.b1, s.b2, s.b3, digits n ok) in z)
side-read w i Tables.Expr.Null ok s = refl
side-read w i (Tables.Expr.Var x) ok s = ap var (let z : byte_at w i ≡ x = omega (arith, s.b0) in z)
side-read w i (Tables.Expr.Path x f) ok s =
    let z : byte_at w i ≡ x = omega (arith, s.b0) in
    let y : byte_at w (i + 1) ≡ f = s.b1 ∙ second x f (omega arith) (omega arith) in
    λ j. path (z j) (y j)

access-read :
    (p : Permit) (w : List ℕ) (i : ℕ) (e : Tables.Expr) → tag_of e ≡ 3 → SideFits (meaning e) → SideAt w i (word_of e) →
    own p (byte_at w i) (byte_at w (i + 1)) ≡ access_of p e
unfolding tag_of word_of meaning SideFits access_of
access-read p w i (Tables.Expr.Num n) t ok s = absurd (omega arith)
access-read p w i Tables.Expr.Null t ok s = absurd (omega arith)
access-read p w i (Tables.Expr.Var x) t ok s = absurd (omega arith)
access-read p w i (Tables.Expr.Path x f) t ok s =
    let z : byte_at w i ≡ x = omega (arith, s.b0) in
    let y : byte_at w (i + 1) ≡ f = s.b1 ∙ second x f (omega arith) (omega arith) in
    λ j. own p (z j) (y j)

-- what the writer asks
pub side_bytes : (e : Tables.Expr) → SideFits (meaning e) → SideBytes e
unfolding meaning SideFits SideBytes
side_bytes (Tables.Expr.Num n) ok = ok
side_bytes Tables.Expr.Null ok = tt
side_bytes (Tables.Expr.Var x) ok = omega arith
side_bytes (Tables.Expr.Path x f) ok = omega arith

-- THE ATOM
module _
    (w : List ℕ) (a k : ℕ) (l r : Tables.Expr) (size : length w ≡ work_bytes) (room : a < most_atom_rows) (ok : AtomOk k l r) where
  atom-byte :
      (j i : ℕ) → i ≡ atom_place a + j → j < 12 → byte_at (put_atom w a k l r) i ≡ get_or (bytes_of_atom k l r) j 0
  unfolding put_atom bytes_of_atom
  atom-byte j i e m = put_same w (atom_place a) (bytes_of_atom k l r) j i e m (omega arith)

  kind-read : byte_at (put_atom w a k l r) (atom_place a) ≡ k
  unfolding bytes_of_atom
  kind-read = atom-byte 0 (atom_place a) (omega arith) (omega arith)

  left-tag : byte_at (put_atom w a k l r) (atom_place a + 1) ≡ tag_of l
  unfolding bytes_of_atom
  left-tag = atom-byte 1 (atom_place a + 1) (omega arith) (omega arith)

  right-tag : byte_at (put_atom w a k l r) (atom_place a + 2) ≡ tag_of r
  unfolding bytes_of_atom
  right-tag = atom-byte 2 (atom_place a + 2) (omega arith) (omega arith)

  left-side : SideAt (put_atom w a k l r) (atom_place a + 4) (word_of l)
  unfolding bytes_of_atom
  left-side =
      record {
        b0 = atom-byte 4 (atom_place a + 4) (omega arith) (omega arith);
        b1 = atom-byte 5 (atom_place a + 4 + 1) (omega arith) (omega arith);
        b2 = atom-byte 6 (atom_place a + 4 + 2) (omega arith) (omega arith);
        b3 = atom-byte 7 (atom_place a + 4 + 3) (omega arith) (omega arith);
      }

  right_side : SideAt (put_atom w a k l r) (atom_place a + 8) (word_of r)
  unfolding bytes_of_atom
  right_side =
      record {
        b0 = atom-byte 8 (atom_place a + 8) (omega arith) (omega arith);
        b1 = atom-byte 9 (atom_place a + 8 + 1) (omega arith) (omega arith);
        b2 = atom-byte 10 (atom_place a + 8 + 2) (omega arith) (omega arith);
        b3 = atom-byte 11 (atom_place a + 8 + 3) (omega arith) (omega arith);
      }

  pub left-written : left_at (put_atom w a k l r) a ≡ meaning l
  unfolding left_at
  left-written = rw left-tag (side-read _ _ l ok.left left-side)

  -- the expression of a `let`
  pub right-written : right_at (put_atom w a k l r) a ≡ meaning r
  unfolding right_at
  right-written = rw right-tag (side-read _ _ r ok.right right_side)

  -- the condition of an `if`
  pub condition-written : if_at (put_atom w a k l r) a ≡ if (rel_of k) (meaning l) (meaning r)
  condition-written = simp (kind-read, left-written, right-written)

  pub atom-read : atom_at (put_atom w a k l r) a ≡ atom_of k l r
  unfolding atom_at atom_of is_permission
  atom-read =
      let e : atom_place a + 4 + 1 ≡ atom_place a + 5 = omega arith in
      let to-own : T (ltb k eq_atom) →
      own (permit_of k) (byte_at (put_atom w a k l r) (atom_place a + 4)) (byte_at (put_atom w a k l r) (atom_place a + 5)) ≡ access_of (permit_of k) l =
      λ t. rw e at (access-read (permit_of k) _ (atom_place a + 4) l (ok.access (ltb-true k eq_atom (T_true _ t))) ok.left left-side) in
      rw (kind-read, left-written, right-written) (cond_same (ltb k eq_atom) to-own (λ _. refl))

  pub atom_fits : AtomFitsAt (put_atom w a k l r) a
  atom_fits = rw (kind-read, left-tag, left-written, right-written) ok

  -- other bytes
  pub atom-kept : (b c : ℕ) → Clear (atom_place a) 12 b c → Kept b c w (put_atom w a k l r)
  unfolding put_atom bytes_of_atom
  atom-kept b c o = put-kept w (atom_place a) (bytes_of_atom k l r) b c o

  pub atom-names : Kept names_at work_bytes w (put_atom w a k l r)
  atom-names = atom-kept names_at work_bytes (inr (omega arith))

  pub atom-length : length (put_atom w a k l r) ≡ length w
  unfolding put_atom
  atom-length = put-length w (atom_place a) (bytes_of_atom k l r)

-- A FORMULA

-- nothing of it yet
pub building : (D : Declared) (w : List ℕ) (F : Program) (n : ℕ) → Holds D w F n → Building D w F n n []
unfolding run
building D w F n h = record { holds = h; place = omega arith; mean = refl }

module _
    (D : Declared) (w : List ℕ) (F : Program) (n : ℕ) (k : ℕ) (l r : Tables.Expr) (room : n < most_atom_rows) (ok : AtomOk k l r)
    (h : Holds D w F n) where
  same_rows : SameRows w (put_atom w n k l r) F n
  same_rows =
      let K : (b c : ℕ) → Clear (atom_place n) 12 b c → Kept b c w (put_atom w n k l r) = atom-kept w n k l r h.size room ok in
      record {
        size = atom-length w n k l r h.size room ok;
        atoms = K _ _ (inl (omega arith));
        rows = all-rows (length F.rows) w (put_atom w n k l r) (K _ _ (inl (omega (arith, h.rows.few))));
        methods = K _ _ (inl (omega (arith, h.methods.few)));
        classes = K _ _ (inl (omega (arith, h.classes.few)));
        places = K _ _ (inl (omega (arith, h.classes.few)));
      }

  atom-more : Holds D (put_atom w n k l r) F (n + 1)
  atom-more =
      let h' : Holds D (put_atom w n k l r) F n = holds_kept D w _ F n same_rows h in
      record {
        size = h'.size;
        main = h'.main;
        atoms =
            record {
              few = omega arith;
              fit = below_more _ n h'.atoms.fit (atom_fits w n k l r h.size room ok);
            };
        rows =
            record {
              few = h'.rows.few;
              mean = h'.rows.mean;
              fit = λ i m. operands-more (omega arith) (h'.rows.fit i m);
            };
        methods =
            record {
              few = h'.methods.few;
              mean = h'.methods.mean;
              fit = λ i m. method-more (omega arith) (omega arith) (h'.methods.fit i m);
            };
        classes = h'.classes;
      }

-- one more atom of it
pub atom-written :
    (D : Declared) (w : List ℕ) (F : Program) (a n : ℕ) (φ : Formula ℕ) (k : ℕ) (l r : Tables.Expr) → n < most_atom_rows →
    AtomOk k l r → Building D w F a n φ → Building D (put_atom w n k l r) F a (n + 1) (φ ++ (atom_of k l r ∷ []))
atom-written D w F a n φ k l r room ok b =
    let w' : List ℕ = put_atom w n k l r in
    let kept : atoms_from w' a (length φ) ≡ φ =
    atoms-kept w w' n (same_rows D w F n k l r room ok b.holds).atoms a (length φ) (omega (arith, b.place)) ∙ b.mean in
    record {
      holds = atom-more D w F n k l r room ok b.holds;
      place = omega (arith, b.place, end-length φ (atom_of k l r));
      mean =
          ap (atoms_from w' a) (end-length φ (atom_of k l r))
          ∙ (run_more (atom_at w') a (length φ)
          ∙ (ap (λ (ψ : Formula ℕ). ψ ++ (atom_at w' (a + length φ) ∷ [])) kept
          ∙ ap (λ (x : Atom ℕ). φ ++ (x ∷ []))
          (ap (atom_at w') (sym b.place) ∙ atom-read w n k l r b.holds.size room ok)));
    }
