-- What two droppings give a search: `set` drops one path; where x is removed and no variable takes its place, x and its paths go.
use mathlib.Core.Path.{◌≡◌, refl, sym, ap, ◌∙◌}
use mathlib.Core.Bool.{Bool, true, false, cond, not, ◌&&◌}
use mathlib.Core.List.{List, [], ◌∷◌, ◌++◌, map}
use mathlib.Core.Option.{Option, none, some}
use Prim.Native.Nat.{ℕ, zero, suc, ◌<◌}
use native.Mathlib.Omega.{arith}
use lib.Dec.{eqb, eqb_refl}
use lib.ListN.{get_or}
use borrow.Author.Tests.{ne_eqb}
use Rattle.rules.specs.Base.{first, keep, bind_option}
use Rattle.rules.specs.Syntax.{num, null, var, path, same, is_path}
use Rattle.rules.specs.State.{Term, Permission, Renaming, entry, is_left, path_of, paths, without_paths, rename_variable, rename_term, rename_permission, rename_permissions}
use Rattle.rules.proofs.Lists.{T_true}
use Rattle.rules.proofs.Closure.{same_refl}
use Rattle.check_equality.specs.Listing.{listed}
use Rattle.check_state.specs.States.{variable_at, field_at, kind_at, permit_of, permission_at, permissions_of, entries, is_path_at, left_at, path_at_entry}
use Rattle.check_state.specs.Questions.{places}
use Rattle.check_state.proofs.Entries.{path-kind}
use Rattle.check_successors.specs.Successors.{Drops}
use Rattle.check_entries.specs.Entries.{kept, appended}
use Rattle.check_entries.proofs.Keeping.{kept_map}
use Rattle.check_entries.proofs.Halves.{appended-listed, kept-parts}
use Rattle.check_labels.proofs.Rebuilding.{keep_append}
use Rattle.check_forgetting.proofs.Unlisted.{paths-left, lists-one}

-- a search over places, and over what stands there
first-append-both :
    {A : Type 0} (p : A → Bool) (l m : List A) → first p (l ++ m) ≡ elim (first p l) [ none ↦ first p m | some a ↦ some a ]
unfolding first
first-append-both p [] m = refl
first-append-both p (a ∷ l) m = go (p a) (first-append-both p l m)
  where
    go :
        (b : Bool) → first p (l ++ m) ≡ elim (first p l) [ none ↦ first p m | some a ↦ some a ] →
        cond b (some a) (first p (l ++ m)) ≡ elim (cond b (some a) (first p l)) [ none ↦ first p m | some a ↦ some a ]
    go true ih = refl
    go false ih = ih

map-++ : {A B : Type 0} (f : A → B) (l m : List A) → map f (l ++ m) ≡ map f l ++ map f m
map-++ f [] m = refl
map-++ f (a ∷ l) m = ap (λ (r : List _). f a ∷ r) (map-++ f l m)

-- SEARCHES over the paths of entries by their places; part i: what stands for the entry i
search :
    (test : Term → Bool) (b : List ℕ) (part : ℕ → List Permission) (entry : ℕ → Bool) (n : ℕ) →
    ((i : ℕ) → i < n → first test (map path_of (paths (part i))) ≡ cond (entry i) (some (path_at_entry b i)) none) →
    first test (map path_of (paths (appended part n))) ≡ bind_option (first entry (places n)) (λ i. some (path_at_entry b i))
unfolding appended listed first bind_option paths keep
search test b part entry zero h = refl
search test b part entry (suc n) h =
    ap (λ (l : List Permission). first test (map path_of l)) (keep_append _ (appended part n) (part n))
    ∙ ap (first test) (map-++ path_of (paths (appended part n)) (paths (part n)))
    ∙ first-append-both test (map path_of (paths (appended part n))) (map path_of (paths (part n)))
    ∙ rw (search test b part entry n (λ i g. h i (omega (arith, g))))
    (last (first entry (places n)) ∙ ap (λ (o : Option ℕ). bind_option o (λ i. some (path_at_entry b i))) (sym (first-append-both entry (places n) (n ∷ []))))
  where
    one : (c : Bool) → cond c (some (path_at_entry b n)) none ≡ bind_option (cond c (some n) none) (λ i. some (path_at_entry b i))
    one true = refl
    one false = refl

    last :
        (o : Option ℕ) →
        elim (bind_option o (λ i. some (path_at_entry b i))) [ none ↦ first test (map path_of (paths (part n))) | some a ↦ some a ]
        ≡ bind_option (elim o [ none ↦ first entry (n ∷ []) | some a ↦ some a ]) (λ i. some (path_at_entry b i))
    last none = h n (omega arith) ∙ one (entry n)
    last (some i) = refl

-- the entry itself
one-path :
    (test : Term → Bool) (b : List ℕ) (i : ℕ) (c : Bool) → (is_path_at b i && test (path_at_entry b i)) ≡ c →
    first test (map path_of (paths (permission_at b i ∷ []))) ≡ cond c (some (path_at_entry b i)) none
unfolding first paths keep path_of
one-path test b i c e = rw (path-kind (kind_at b i)) (go (is_path_at b i) e)
  where
    go : (p : Bool) → (p && test (path_at_entry b i)) ≡ c → first test (map path_of (cond p (permission_at b i ∷ []) [])) ≡ cond c (some (path_at_entry b i)) none
    go true d = rw d
    go false d = rw (← d)

-- the entries that are not out
pub kept-search :
    (ρ : Renaming) (b : List ℕ) (out : List Bool) (q : Term → Bool) (n : ℕ) →
    ((i : ℕ) → i < n → left_at b out i ≡ true → is_left ρ (path_at_entry b i) ≡ true) →
    first (λ u. is_left ρ u && q u) (map path_of (paths (kept out (permission_at b) n)))
    ≡ bind_option (first (λ i. left_at b out i && q (path_at_entry b i)) (places n)) (λ i. some (path_at_entry b i))
unfolding first paths keep
kept-search ρ b out q n left =
    ap (λ (l : List Permission). first test (map path_of (paths l))) (kept-parts out (permission_at b) n)
    ∙ search test b _ (λ i. left_at b out i && q (path_at_entry b i)) n (λ i h. one i h (get_or out i false) (is_path_at b i) refl refl)
  where
    test : Term → Bool
    test u = is_left ρ u && q u

    one :
        (i : ℕ) → i < n → (o p : Bool) → get_or out i false ≡ o → is_path_at b i ≡ p →
        first test (map path_of (paths (cond o [] (permission_at b i ∷ [])))) ≡ cond ((not o && p) && q (path_at_entry b i)) (some (path_at_entry b i)) none
    one i h true p d e = refl
    one i h false false d e = one-path test b i false (rw e)
    one i h false true d e = one-path test b i (q (path_at_entry b i)) (rw (e, left i h (rw (d, e))))

-- SET: every entry stays, and its path p is not left
module _ (p : Permission) (path-entry : is_path p.permit ≡ true) where
  other-left : (t : Term) → is_left (without_paths (p ∷ [])) t ≡ not (same (path_of p) t)
  other-left t = paths-left (p ∷ []) t ∙ ap not (lists-one p t path-entry)

  by-places :
      (b : List ℕ) (skip : List Bool) (q : Term → Bool) (n : ℕ) →
      ((i : ℕ) → i < n → get_or skip i false ≡ same (path_of p) (path_at_entry b i)) →
      first (λ u. is_left (without_paths (p ∷ [])) u && q u) (map path_of (paths (listed (permission_at b) n)))
      ≡ bind_option (first (λ i. left_at b skip i && q (path_at_entry b i)) (places n)) (λ i. some (path_at_entry b i))
  by-places b skip q n flags =
      ap (λ (l : List Permission). first test (map path_of (paths l))) (sym (appended-listed (permission_at b) n))
      ∙ search test b _ (λ i. left_at b skip i && q (path_at_entry b i)) n (λ i h. one-path test b i _ (left i h))
    where
      test : Term → Bool
      test u = is_left (without_paths (p ∷ [])) u && q u

      swap : (a b c : Bool) → (a && (b && c)) ≡ ((b && a) && c)
      swap true true c = refl
      swap true false c = refl
      swap false true c = refl
      swap false false c = refl

      left : (i : ℕ) → i < n → (is_path_at b i && test (path_at_entry b i)) ≡ (left_at b skip i && q (path_at_entry b i))
      left i h =
          rw (other-left (path_at_entry b i) ∙ ap not (sym (flags i h)))
          (swap (is_path_at b i) (not (get_or skip i false)) (q (path_at_entry b i)))

  pub path-drops :
      (b : List ℕ) (skip : List Bool) → ((i : ℕ) → i < entries b → get_or skip i false ≡ same (path_of p) (path_at_entry b i)) →
      Drops (without_paths (p ∷ [])) (permissions_of b) b skip 255
  unfolding path_of same
  path-drops b skip flags =
      record {
        variables = λ v h. other-left (var v) ∙ ap not (sym (ne_eqb v 255 (omega arith)));
        null = other-left null;
        numbers = λ n. other-left (num n);
        paths = λ q. by-places b skip q (entries b) flags;
      }

-- REMOVAL: the entries of x go, and x and their paths are not left
module _ (x : ℕ) where
  variable-left : (v : ℕ) → is_left (rename_term x none) (var v) ≡ not (eqb v x)
  unfolding is_left rename_term rename_variable bind_option same
  variable-left v = go (eqb v x)
    where
      go :
          (b : Bool) →
          ◌≡◌ {A = Bool}
          (elim (bind_option (cond b none (some v)) (λ w. some (var w))) [ none ↦ false | some u ↦ same u (var v) ])
          (not b)
      go true = refl
      go false = T_true (eqb v v) (eqb_refl v)

  path-left : (v f : ℕ) → is_left (rename_term x none) (path v f) ≡ not (eqb v x)
  unfolding is_left rename_term rename_variable bind_option
  path-left v f = go (eqb v x)
    where
      go :
          (b : Bool) →
          ◌≡◌ {A = Bool}
          (elim (bind_option (cond b none (some v)) (λ w. some (path w f))) [ none ↦ false | some u ↦ same u (path v f) ])
          (not b)
      go true = refl
      go false = T_true (same (path v f) (path v f)) (same_refl (path v f))

  number-left : (n : ℕ) → is_left (rename_term x none) (num n) ≡ true
  unfolding is_left rename_term
  number-left n = T_true (same (num n) (num n)) (same_refl (num n))

  null-left : is_left (rename_term x none) null ≡ true
  unfolding is_left rename_term same
  null-left = refl

  -- the entries of x
  entry_gone : (b : List ℕ) (i : ℕ) → rename_permission x none (permission_at b i) ≡ cond (eqb (variable_at b i) x) none (some (permission_at b i))
  unfolding rename_permission rename_variable bind_option
  entry_gone b i = go (eqb (variable_at b i) x)
    where
      go : (c : Bool) → bind_option (cond c none (some (variable_at b i))) (λ w. some (entry (permit_of (kind_at b i)) w (field_at b i))) ≡ cond c none (some (permission_at b i))
      go true = refl
      go false = refl

  module _ (b : List ℕ) (out : List Bool) (flags : (i : ℕ) → i < entries b → get_or out i false ≡ eqb (variable_at b i) x) where
    pub kept-entries : rename_permissions x none (permissions_of b) ≡ kept out (permission_at b) (entries b)
    unfolding rename_permissions
    kept-entries =
        kept_map (rename_permission x none) out (permission_at b) (permission_at b) (entries b)
        (λ i g. entry_gone b i ∙ ap (λ (c : Bool). cond c none (some (permission_at b i))) (sym (flags i g)))

    stays : (i : ℕ) → i < entries b → (o p : Bool) → get_or out i false ≡ o → (not o && p) ≡ true → is_left (rename_term x none) (path_at_entry b i) ≡ true
    stays i h true p d e = absurd (let z : ◌≡◌ {A = ℕ} 0 1 = cc in omega arith)
    stays i h false p d e = path-left (variable_at b i) (field_at b i) ∙ ap not (sym (flags i h) ∙ d)

    pub removed-drops : Drops (rename_term x none) (rename_permissions x none (permissions_of b)) b out x
    removed-drops =
        record {
          variables = λ v h. variable-left v;
          null = null-left;
          numbers = number-left;
          paths =
              λ q.
              ap (λ (l : List Permission). first (λ u. is_left (rename_term x none) u && q u) (map path_of (paths l))) kept-entries
              ∙ kept-search (rename_term x none) b out q (entries b) (λ i h l. stays i h (get_or out i false) (is_path_at b i) refl l);
        }
