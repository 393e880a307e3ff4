-- What stays while requires of the method change: the atoms to choose from, the blocks that do not call it, and each set's test.
use mathlib.Core.Path.{◌≡◌, refl, sym, ap, ◌∙◌}
use mathlib.Core.Bool.{Bool, true, false, ◌&&◌}
use mathlib.Core.List.{List, [], ◌++◌}
use Prim.Native.Nat.{ℕ, ◌+◌, ◌≤◌, ◌<◌}
use native.Mathlib.Omega.{arith}
use lib.ListN.{length, get_or}
use Rattle.rules.specs.Syntax.{Program}
use Rattle.rules.specs.Rules.{check_program}
use Rattle.rules.specs.Calls.{is_accepted}
use Rattle.filling.specs.Sets.{accesses_in, formula_of, program_with, is_accepted_with}
use Rattle.tables.specs.Layout.{atoms_at}
use Rattle.tables.specs.Decode.{atom_place, atoms_from, program_in}
use Rattle.tables.specs.Stores.{Kept}
use Rattle.tables.proofs.Kept.{one_atom, atom-fits-kept, atoms-kept}
use Rattle.fill_rows.specs.Rewrites.{Spared, AtomsThere, SameBut, SetPut}
use Rattle.fill_rows.proofs.Rewritten.{set_same}
use Rattle.fill_blocks.specs.Blocks.{block_verdict, others_pass}
use Rattle.fill_blocks.proofs.Calling.{methods-are}
use Rattle.fill_blocks.proofs.Apart.{others_apart}
use Rattle.fill_blocks.proofs.Passing.{accepted-by-parts}
use Rattle.filler.specs.declared.Sought.{Sought}
use Rattle.filler.specs.Search.{accesses_of, Ready, Tried, passes_with}

module _ (w w' : List ℕ) (m : ℕ) (same : SameBut m w w') where
  classes-same : (program_in w').classes ≡ (program_in w).classes
  unfolding program_with
  classes-same = ap (λ (P : Program). P.classes) (same [])

  apart-same : others_pass (program_in w') m false ≡ others_pass (program_in w) m false
  apart-same =
      sym (others_apart (program_in w') m [])
      ∙ (ap (λ P. others_pass P m false) (same []) ∙ others_apart (program_in w) m [])

module _ (w w' : List ℕ) (s : Sought) (same : SameBut s.method w w') where
  pub accesses-same : accesses_of w' s ≡ accesses_of w s
  accesses-same = ap (λ cs. accesses_in cs s.class s.parameter) (classes-same w w' s.method same)

  pub ready-same : Ready w s → Spared w' s.method s.first → Ready w' s
  ready-same r spared =
      let e : (program_in w').classes ≡ (program_in w).classes = classes-same w w' s.method same in
      record {
        spared = spared;
        own = r.own ∙ ap (λ cs. length (get_or cs s.class [])) (sym e);
        count = r.count ∙ ap (λ cs. s.own + length (get_or cs s.parameter [])) (sym e);
        own_few = r.own_few;
        few = r.few;
        apart = apart-same w w' s.method same ∙ r.apart;
      }

  -- a set passes now just if it did
  pub passes_same : (ps qs : List ℕ) → passes_with w' s ps qs ≡ passes_with w s ps qs
  unfolding passes_with is_accepted_with
  passes_same ps qs =
      ap (λ αs. is_accepted (check_program (program_with s.method (formula_of αs (ps ++ qs)) (program_in w')))) accesses-same
      ∙ ap (λ P. is_accepted (check_program P)) (same (formula_of (accesses_of w s) (ps ++ qs)))

-- ONE SET
and-true : (a b : Bool) → (a && (b && true)) ≡ (a && b)
and-true true true = refl
and-true true false = refl
and-true false b = refl

module _ (w : List ℕ) (s : Sought) (k : ℕ) (r : Ready w s) (w' : List ℕ) (p : SetPut w s.method s.first k w') where
  set-parts :
      is_accepted (check_program (program_with s.method (atoms_from w s.first k) (program_in w)))
      ≡ (is_accepted (block_verdict (program_in w') s.method) && others_pass (program_in w') s.method true)
  set-parts =
      let e : program_in w' ≡ program_with s.method (atoms_from w s.first k) (program_in w) = p.program in
      let l : s.method < length (program_in w').methods = omega (arith, methods-are w' 0, p.spared.method) in
      let apart : others_pass (program_in w') s.method false ≡ true =
      apart-same w w' s.method (set_same w w' s.method s.first k p) ∙ r.apart in
      ap (λ P. is_accepted (check_program P)) (sym e)
      ∙ (accepted-by-parts (program_in w') s.method l
      ∙ (ap (λ b. is_accepted (block_verdict (program_in w') s.method) && (others_pass (program_in w') s.method true && b)) apart
      ∙ and-true (is_accepted (block_verdict (program_in w') s.method)) (others_pass (program_in w') s.method true)))

  -- the method's own block is accepted, and then the others decide
  pub own-accepted : (a b : Bool) → a ≡ true → a ≡ is_accepted (block_verdict (program_in w') s.method) → b ≡ others_pass (program_in w') s.method true → Tried w s k b w'
  own-accepted a b t e f =
      record {
        answer = sym (set-parts ∙ (λ i. (sym e ∙ t) i && sym f i));
        put = p;
      }

  pub own-refused : (a : Bool) → a ≡ false → a ≡ is_accepted (block_verdict (program_in w') s.method) → Tried w s k false w'
  own-refused a t e =
      record {
        answer = sym (set-parts ∙ ap (λ b. b && others_pass (program_in w') s.method true) (sym e ∙ t));
        put = p;
      }

-- ATOMS BEFORE
pub there-kept : (w w' : List ℕ) (n k c : ℕ) → k ≤ c → Kept atoms_at (atom_place (n + c)) w w' → AtomsThere w n k → AtomsThere w' n k
there-kept w w' n k c l K h a p q = atom-fits-kept w w' a (one_atom w w' (n + c) K a (omega arith)) (h a p q)

pub formula-kept : (w w' : List ℕ) (n k c : ℕ) → k ≤ c → Kept atoms_at (atom_place (n + c)) w w' → atoms_from w' n k ≡ atoms_from w n k
formula-kept w w' n k c l K = atoms-kept w w' (n + c) K n k (omega arith)
