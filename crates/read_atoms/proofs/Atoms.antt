-- Laws of atoms by number: a word that begins an atom is told by its first letter, and its row says what `rules` say of it.
use mathlib.Core.Path.{◌≡◌, refl, sym, subst}
use mathlib.Core.Bool.{Bool, true, false, cond, ◌&&◌, ◌||◌}
use mathlib.Core.List.{[]}
use Prim.Native.Nat.{ℕ, zero, suc, ◌≤◌, ◌<◌}
use Prim.Native.String.{String}
use native.Mathlib.Omega.{arith}
use lib.ListN.{length, get_or}
use Rattle.rules.specs.Base as Base
use Rattle.rules.specs.Base.{Name, bytes, is, all, between}
use Rattle.rules.specs.Syntax.{own, cmp}
use Rattle.rules.specs.Text as Text
use Rattle.rules.specs.Text.{is_name, is_expr, expr_of, is_rel, is_permit, is_atom, atom_of}
use Rattle.tables.specs.Numbers.{read_atom, eq_atom, ne_atom}
use Rattle.tables.specs.Decode.{permit_of, rel_of}
use Rattle.read_bytes.specs.Marks.{wide_bytes}
use Rattle.read_bytes.proofs.Search.{true-false, both_true, same-is}
use Rattle.read_atoms.specs.Atoms as Atoms
use Rattle.read_grammar.specs.Rows as Rows
use Rattle.read_words.specs.Words.{packed}
use Rattle.rules.specs.Scope.{atom_operands}
use Rattle.std.specs.Prelude.{Option, Some, None, IsSome}
use Rattle.tables.specs.declared.kinds.AtomKind.{AtomKind}
use Rattle.tables.specs.Kinds.{kind_number}
use Rattle.read_atoms.specs.Atoms.{Begins, atom_word, atom_row, begins_atom, begun_by}

-- WORDS

-- what holds of `read`, `acc`, `chain`, `eq` and `ne` holds of each word that begins an atom
pub of-atom-word :
    (P : Name → Type 0) → P (bytes "read") → P (bytes "acc") → P (bytes "chain") → P (bytes "eq") → P (bytes "ne") →
    (w : Name) → begins_atom w ≡ true → P w
unfolding begins_atom is_permit is_rel is
of-atom-word P a b c d f w e = go (is "acc" w) (is "read" w) (is "chain" w) (is "eq" w) (is "ne" w) refl refl refl refl refl e
  where
    told : (s : String) → P (bytes s) → is s w ≡ true → P w
    told s x i = subst P (same-is (bytes s) w i) x

    go :
        (x y u z v : Bool) → is "acc" w ≡ x → is "read" w ≡ y → is "chain" w ≡ u → is "eq" w ≡ z → is "ne" w ≡ v →
        ((x || (y || u)) || (z || v)) ≡ true → P w
    go true y u z v p q t r o e = told "acc" b p
    go false true u z v p q t r o e = told "read" a q
    go false false true z v p q t r o e = told "chain" c t
    go false false false true v p q t r o e = told "eq" d r
    go false false false false true p q t r o e = told "ne" f o
    go false false false false false p q t r o e = true-false (sym e)

pub atom-begins : (w a b : Name) → is_atom w a b ≡ true → begins_atom w ≡ true
unfolding is_atom begins_atom
atom-begins w a b e = go (is_permit w) (is_rel w) e
  where
    go : (x y : Bool) → cond x (is_name a && is_name b) (y && (is_expr a && is_expr b)) ≡ true → (x || y) ≡ true
    go true y h = refl
    go false y h = (both_true y _ h).0

pub some_bytes : (w : Name) → begins_atom w ≡ true → 0 < length w
unfolding bytes
some_bytes = of-atom-word (λ w. 0 < length w) (omega arith) (omega arith) (omega arith) (omega arith) (omega arith)

-- BY THE FIRST LETTER

pub word-told : (w : Name) → begins_atom w ≡ true → atom_word (begun_by (get_or w 0 0)) ≡ w
unfolding Atoms.opened bytes
word-told = of-atom-word (λ w. atom_word (begun_by (get_or w 0 0)) ≡ w) refl refl refl refl refl

-- BY THE KIND

-- what holds of the word of each kind, and of nothing for every other number, holds of the word of a number
of_number :
    (P : ℕ → Name → Type 0) → ((k : ℕ) → (read_atom ≤ k → k ≤ ne_atom → ⊥) → P k []) → P 1 (bytes "read") → P 2 (bytes "acc") → P 3 (bytes "chain") →
    P 4 (bytes "eq") → P 5 (bytes "ne") → (k : ℕ) → P k (atom_word k)
unfolding atom_word bytes
of_number P n a b c d e zero = n 0 (λ l m. omega arith)
of_number P n a b c d e (suc zero) = a
of_number P n a b c d e (suc (suc zero)) = b
of_number P n a b c d e (suc (suc (suc zero))) = c
of_number P n a b c d e (suc (suc (suc (suc zero)))) = d
of_number P n a b c d e (suc (suc (suc (suc (suc zero))))) = e
of_number P n a b c d e (suc (suc (suc (suc (suc (suc k)))))) = n (suc (suc (suc (suc (suc (suc k)))))) (λ l m. omega arith)

pub no_kind : (k : ℕ) → (k ≡ 1 → ⊥) → (k ≡ 2 → ⊥) → (k ≡ 3 → ⊥) → (k ≡ 4 → ⊥) → (k ≡ 5 → ⊥) → atom_word k ≡ []
no_kind =
    of_number (λ k w. (k ≡ 1 → ⊥) → (k ≡ 2 → ⊥) → (k ≡ 3 → ⊥) → (k ≡ 4 → ⊥) → (k ≡ 5 → ⊥) → w ≡ []) (λ k n a b c d e. refl)
    (λ a b c d e. absurd (a refl)) (λ a b c d e. absurd (b refl)) (λ a b c d e. absurd (c refl)) (λ a b c d e. absurd (d refl))
    (λ a b c d e. absurd (e refl))

pub word-solid : (k : ℕ) → all (between 1 255) (atom_word k) ≡ true
unfolding Base.opened
word-solid = of_number (λ k w. all (between 1 255) w ≡ true) (λ k n. refl) refl refl refl refl refl

pub word-short : (k : ℕ) → length (atom_word k) ≤ wide_bytes
unfolding bytes
word-short = of_number (λ k w. length w ≤ wide_bytes) (λ k n. omega arith) (omega arith) (omega arith) (omega arith) (omega arith) (omega arith)

-- a number whose word begins an atom is a kind
pub kind-bounds : (k : ℕ) → begins_atom (atom_word k) ≡ true → (read_atom ≤ k) × (k ≤ ne_atom)
unfolding Atoms.opened Base.opened Text.opened
kind-bounds =
    of_number (λ k w. begins_atom w ≡ true → (read_atom ≤ k) × (k ≤ ne_atom)) (λ k n e. true-false (sym e)) (λ e. omega arith) (λ e. omega arith)
    (λ e. omega arith) (λ e. omega arith) (λ e. omega arith)

-- each kind has operands
pub operands-there : (k : AtomKind) → (atom_row (kind_number k)).operands ≡ 0 → ⊥
unfolding Atoms.opened Base.opened Text.opened Rows.opened atom_operands packed
operands-there AtomKind.Read = λ e. omega arith
operands-there AtomKind.Acc = λ e. omega arith
operands-there AtomKind.Chain = λ e. omega arith
operands-there AtomKind.Eq = λ e. omega arith
operands-there AtomKind.Ne = λ e. omega arith

-- a letter that begins a word has its kind
pub kind-there : (b : ℕ) (o : Option AtomKind) → Begins b o → begins_atom (atom_word (begun_by b)) ≡ true → IsSome o
kind-there b (Some k) h e = refl
kind-there b None h e = let l = kind-bounds (begun_by b) e in absurd (omega arith)

pub kind-begun : (b : ℕ) (o : Option AtomKind) (k : AtomKind) → Begins b o → o ≡ Some k → kind_number k ≡ begun_by b
kind-begun b o k h e = subst (Begins b) e h

-- the atom of a kind: a permission, or a comparison
module _ (a b : Name) where
  pub permission-of : (k : ℕ) → read_atom ≤ k → k < eq_atom → atom_of (atom_word k) a b ≡ own (permit_of k) a b
  unfolding Atoms.opened Base.opened Text.opened permit_of
  permission-of =
      of_number (λ k w. read_atom ≤ k → k < eq_atom → atom_of w a b ≡ own (permit_of k) a b) (λ k n l m. absurd (n l (omega arith))) (λ l m. refl) (λ l m. refl)
      (λ l m. refl) (λ l m. absurd (omega arith)) (λ l m. absurd (omega arith))

  pub comparison-of : (k : ℕ) → eq_atom ≤ k → k ≤ ne_atom → atom_of (atom_word k) a b ≡ cmp (rel_of k) (expr_of a) (expr_of b)
  unfolding Atoms.opened Base.opened Text.is_rel Text.rel_of is_permit atom_of rel_of
  comparison-of =
      of_number (λ k w. eq_atom ≤ k → k ≤ ne_atom → atom_of w a b ≡ cmp (rel_of k) (expr_of a) (expr_of b)) (λ k n l m. absurd (n (omega arith) m)) (λ l m. absurd (omega arith))
      (λ l m. absurd (omega arith)) (λ l m. absurd (omega arith)) (λ l m. refl) (λ l m. refl)

  pub comparison-form : (k : ℕ) → eq_atom ≤ k → k ≤ ne_atom → is_atom (atom_word k) a b ≡ true → (is_expr a ≡ true) × (is_expr b ≡ true)
  unfolding Atoms.opened Base.opened is_rel is_permit is_atom
  comparison-form =
      of_number (λ k w. eq_atom ≤ k → k ≤ ne_atom → is_atom w a b ≡ true → (is_expr a ≡ true) × (is_expr b ≡ true)) (λ k n l m. absurd (n (omega arith) m))
      (λ l m. absurd (omega arith)) (λ l m. absurd (omega arith)) (λ l m. absurd (omega arith)) (λ l m. both_true (is_expr a) (is_expr b))
      (λ l m. both_true (is_expr a) (is_expr b))
