-- The two ways in which the requires of a method is written anew: one of its atoms, and which atoms they are.
use mathlib.Core.Path.{◌≡◌, refl, ap, ◌∙◌}
use mathlib.Core.List.{List, [], ◌∷◌}
use mathlib.Core.Logic.{◌⊎◌, inl, inr, ⊎_elim}
use Prim.Native.Nat.{ℕ, zero, suc, ◌+◌, ◌%◌, ◌/◌, ◌≤◌, ◌<◌}
use native.Mathlib.Omega.{arith}
use lib.ListN.{length}
use Rattle.rules.specs.Limits.{most_filled, most_methods}
use Rattle.rules.specs.Syntax.{Formula, Method, own, acc}
use Rattle.rules.specs.Reading.{with_requires}
use Rattle.filling.specs.Sets.{methods_with, program_with}
use Rattle.tables.specs.declared.Expr as Tables
use Rattle.tables.specs.Numbers.{acc_atom}
use Rattle.tables.specs.Layout.{most_names, frame_variables, methods_at, atoms_at, names_at}
use Rattle.tables.specs.Decode.{atom_place, method_place, atom_at, atoms_from, atom_count, requires_first_at, requires_count_at, requires_at, program_in, is_permission, permit_of}
use Rattle.tables.specs.Tables.{SideFits, AtomFitsAt}
use Rattle.tables.specs.Stores.{meaning, Kept, put_half}
use Rattle.tables.proofs.BytesRead.{half-kept, half-put, put-half-byte, put-half-length, kept_trans}
use Rattle.tables.proofs.Runs.{three_ways}
use Rattle.tables.proofs.Kept.{atoms-kept, atom-fits-kept}
use Rattle.write_rows.specs.Puts.{tag_of, put_atom, put_requires}
use Rattle.write_rows.specs.Holds.{AtomOk, access_of, atom_of}
use Rattle.write_rows.proofs.Atoms.{atom-read, atom-kept, atom-length, atom_fits}
use Rattle.write_rows.proofs.Puts.{put-length, put_same, put-same-half, put-kept, Clear}
use Rattle.fill_rows.specs.Rewrites.{Spared, AtomsThere, SameBut, SetPut}
use Rattle.fill_rows.proofs.Rewriting.{Rewritten, program-rewritten, spared-rewritten}

-- WITH ANOTHER REQUIRES: the last counts

methods-again : (m : ℕ) (φ ψ : Formula ℕ) (Ms : List Method) → methods_with m φ (methods_with m ψ Ms) ≡ methods_with m φ Ms
unfolding methods_with with_requires
methods-again m φ ψ [] = refl
methods-again zero φ ψ (M ∷ Ms) = refl
methods-again (suc m) φ ψ (M ∷ Ms) = ap (λ r. M ∷ r) (methods-again m φ ψ Ms)

module _ (w w' : List ℕ) (m n : ℕ) (S : Spared w m n) (R : Rewritten w m n w') where
  pub same-but : SameBut m w w'
  unfolding program_with
  same-but φ =
      rw (program-rewritten w w' m n S R)
      (λ j. record {
        classes = (program_in w).classes;
        methods = methods-again m φ (requires_at w' m) (program_in w).methods j;
        rows = (program_in w).rows;
        main = (program_in w).main;
      })

-- AN ATOM `acc x f`

pub acc_ok : (x f : ℕ) → x < frame_variables → f < most_names → AtomOk acc_atom (Tables.Expr.Path x f) Tables.Expr.Null
unfolding tag_of meaning SideFits
acc_ok x f p q = record { least = omega arith; kind = omega arith; left = (p, q); right = tt; access = λ l. refl }

abbrev pub put_acc : List ℕ → ℕ → ℕ → ℕ → List ℕ
put_acc w a x f = put_atom w a acc_atom (Tables.Expr.Path x f) Tables.Expr.Null

module _ (w : List ℕ) (m n : ℕ) (S : Spared w m n) (a x f : ℕ) (low : n ≤ a) (high : a < n + most_filled) (p : x < frame_variables) (q : f < most_names) where
  ok : AtomOk acc_atom (Tables.Expr.Path x f) Tables.Expr.Null
  ok = acc_ok x f p q

  K : (b c : ℕ) → Clear (atom_place a) 12 b c → Kept b c w (put_acc w a x f)
  K = atom-kept w a acc_atom _ _ S.tables.size (omega (arith, S.room)) ok

  pub acc-read : atom_at (put_acc w a x f) a ≡ own acc x f
  unfolding atom_of access_of is_permission permit_of
  acc-read = atom-read w a acc_atom _ _ S.tables.size (omega (arith, S.room)) ok

  pub acc-fits : AtomFitsAt (put_acc w a x f) a
  acc-fits = atom_fits w a acc_atom _ _ S.tables.size (omega (arith, S.room)) ok

  -- the atoms before it stay
  pub before-kept : Kept atoms_at (atom_place a) w (put_acc w a x f)
  before-kept = K _ _ (inl (omega arith))

  fits_all : (b : ℕ) → n ≤ b → b < atom_count w → AtomFitsAt (put_acc w a x f) b
  fits_all b l k =
      ⊎_elim (λ e. rw e acc-fits)
      (λ o. ⊎_elim
      (λ g. atom-fits-kept w (put_acc w a x f) b (K _ _ (inl (omega arith))) (S.tables.atom_fits b k))
      (λ g. atom-fits-kept w (put_acc w a x f) b (K _ _ (inr (omega arith))) (S.tables.atom_fits b k))
      o)
      (three_ways b a)

  count_same : atom_count (put_acc w a x f) ≡ atom_count w
  count_same = half-kept 0 4 w (put_acc w a x f) (K _ _ (inl (omega arith))) 2 (omega arith) (omega arith)

  requires-first-same : requires_first_at (put_acc w a x f) m ≡ requires_first_at w m
  requires-first-same =
      half-kept methods_at atoms_at w (put_acc w a x f) (K _ _ (inl (omega arith))) (method_place m) (omega arith) (omega (arith, S.method, S.tables.methods))

  requires-count-same : requires_count_at (put_acc w a x f) m ≡ requires_count_at w m
  requires-count-same = K methods_at atoms_at (inl (omega arith)) (method_place m + 2) (omega arith) (omega (arith, S.method, S.tables.methods))

  acc-rewrites : Rewritten w m n (put_acc w a x f)
  acc-rewrites =
      record {
        size = atom-length w a acc_atom _ _ S.tables.size (omega (arith, S.room)) ok;
        keeps_count = K _ _ (inl (omega arith));
        rows = K _ _ (inl (omega arith));
        others = λ j l d. K (method_place j) (method_place j + 8) (inl (omega (arith, S.tables.methods)));
        after = K _ _ (inl (omega (arith, S.method, S.tables.methods)));
        classes = K _ _ (inl (omega arith));
        atoms = K _ _ (inl (omega arith));
        low = omega (arith, count_same, S.low);
        few = omega (arith, count_same, S.tables.atoms);
        fit = λ b l k. fits_all b l (omega (arith, count_same));
        requires =
            rw (count_same, requires-first-same, requires-count-same)
            (S.tables.method_fits m S.method).formulas.requires;
      }

  pub acc-size : length (put_acc w a x f) ≡ length w
  acc-size = acc-rewrites.size

  pub acc-spared : Spared (put_acc w a x f) m n
  acc-spared = spared-rewritten w (put_acc w a x f) m n S acc-rewrites

  pub acc-same : SameBut m w (put_acc w a x f)
  acc-same = same-but w (put_acc w a x f) m n S acc-rewrites

-- WHICH ATOMS

-- the header's count of atoms, and the requires of the method m
abbrev pub put_set : List ℕ → ℕ → ℕ → ℕ → List ℕ
put_set w m n k = put_requires (put_half w 2 (n + k)) m n k

module _ (w : List ℕ) (m n k : ℕ) (S : Spared w m n) (few : k ≤ most_filled) (there : AtomsThere w n k) where
  few-methods : m < most_methods
  few-methods = omega (arith, S.method, S.tables.methods)

  header-kept : (b c : ℕ) → (c ≤ 2) ⊎ (4 ≤ b) → Kept b c w (put_half w 2 (n + k))
  header-kept b c (inl l) i p q = put-half-byte w 2 (n + k) i (inl (omega arith))
  header-kept b c (inr l) i p q = put-half-byte w 2 (n + k) i (inr (omega arith))

  requires-kept : (b c : ℕ) → Clear (method_place m) 3 b c → Kept b c (put_half w 2 (n + k)) (put_set w m n k)
  unfolding put_requires
  requires-kept b c o = put-kept (put_half w 2 (n + k)) (method_place m) _ b c o

  both-kept : (b c : ℕ) → (c ≤ 2) ⊎ (4 ≤ b) → Clear (method_place m) 3 b c → Kept b c w (put_set w m n k)
  both-kept b c h r = kept_trans b c w (put_half w 2 (n + k)) (put_set w m n k) (header-kept b c h) (requires-kept b c r)

  set-size : length (put_set w m n k) ≡ length w
  unfolding put_requires
  set-size = put-length (put_half w 2 (n + k)) (method_place m) _ ∙ put-half-length w 2 (n + k)

  count-put : atom_count (put_set w m n k) ≡ n + k
  count-put =
      half-kept 0 methods_at (put_half w 2 (n + k)) (put_set w m n k) (requires-kept _ _ (inl (omega arith))) 2 (omega arith) (omega arith)
      ∙ half-put w 2 (n + k) (omega (arith, S.tables.size)) (omega (arith, S.room))

  first-put : requires_first_at (put_set w m n k) m ≡ n
  unfolding put_requires
  first-put =
      put-same-half (put_half w 2 (n + k)) (method_place m) (n % 256 ∷ n / 256 ∷ k ∷ []) 0 (method_place m) n (omega arith) (omega arith)
      (omega (arith, put-half-length w 2 (n + k), S.tables.size, few-methods)) refl refl

  requires-put : requires_count_at (put_set w m n k) m ≡ k
  unfolding put_requires
  requires-put =
      put_same (put_half w 2 (n + k)) (method_place m) (n % 256 ∷ n / 256 ∷ k ∷ []) 2 (method_place m + 2) refl (omega arith)
      (omega (arith, put-half-length w 2 (n + k), S.tables.size, few-methods))

  atoms-same : Kept atoms_at names_at w (put_set w m n k)
  atoms-same = both-kept _ _ (inr (omega arith)) (inr (omega (arith, few-methods)))

  set-rewrites : Rewritten w m n (put_set w m n k)
  set-rewrites =
      record {
        size = set-size;
        keeps_count = both-kept _ _ (inl (omega arith)) (inl (omega arith));
        rows = both-kept _ _ (inr (omega arith)) (inl (omega arith));
        others = λ j l d. both-kept _ _ (inr (omega arith))
            (⊎_elim (λ e. absurd (d e)) (λ o. ⊎_elim (λ g. inl (omega arith)) (λ g. inr (omega arith)) o) (three_ways j m));
        after = both-kept _ _ (inr (omega arith)) (inr (omega arith));
        classes = both-kept _ _ (inr (omega arith)) (inr (omega (arith, few-methods)));
        atoms = λ i p q. atoms-same i p (omega (arith, S.room));
        low = omega (arith, count-put);
        few = omega (arith, count-put, S.room);
        fit = λ a l h.
            let g : a < n + k = omega (arith, count-put) in
            atom-fits-kept w (put_set w m n k) a (λ i p q. atoms-same i (omega arith) (omega (arith, S.room))) (there a l g);
        requires = rw (count-put, first-put, requires-put) (omega arith);
      }

  requires-are : requires_at (put_set w m n k) m ≡ atoms_from w n k
  unfolding requires_at
  requires-are =
      rw (first-put, requires-put)
      (atoms-kept w (put_set w m n k) (n + k) (λ i p q. atoms-same i p (omega (arith, S.room))) n k (omega arith))

  pub set-put : SetPut w m n k (put_set w m n k)
  set-put =
      record {
        spared = spared-rewritten w (put_set w m n k) m n S set-rewrites;
        program = program-rewritten w (put_set w m n k) m n S set-rewrites ∙ ap (λ φ. program_with m φ (program_in w)) requires-are;
        atoms = atoms-same;
        size = set-size;
      }

-- SO MUCH AS WAS WRITTEN

pub same-trans : (m : ℕ) (w w' w'' : List ℕ) → SameBut m w w' → SameBut m w' w'' → SameBut m w w''
same-trans m w w' w'' s t φ = t φ ∙ s φ

pub set_same : (w w' : List ℕ) (m n k : ℕ) → SetPut w m n k w' → SameBut m w w'
unfolding program_with
set_same w w' m n k s φ =
    rw s.program
    (λ j. record {
      classes = (program_in w).classes;
      methods = methods-again m φ (atoms_from w n k) (program_in w).methods j;
      rows = (program_in w).rows;
      main = (program_in w).main;
    })
