-- A formula as the cursor passes it: three fields are an atom, and what is written grows with it.
use Rattle.std.proofs.Common.{Result, Ok, Err}
use mathlib.Core.Path.{◌≡◌, refl, sym, ap, ap₂, subst, ◌∙◌}
use mathlib.Core.Bool.{Bool, true, false}
use mathlib.Core.List.{List, [], ◌∷◌, ◌++◌, map, append-nil, append_assoc}
use Prim.Native.Nat.{ℕ, zero, suc, ◌+◌, ◌-◌, ◌≤◌, ◌<◌}
use native.Mathlib.Nat.{add-zero}
use native.Mathlib.Omega.{arith}
use lib.ListN.{length, get_or, take, drop, length-append, length-drop}
use lib.Seq.{get_or-take, get_or-drop, length-take-le}
use Rattle.rules.specs.Base.{Name}
use Rattle.rules.specs.Limits.{work_bytes}
use Rattle.rules.specs.Syntax.{Atom, Formula}
use Rattle.rules.specs.Text.{up_to, is_atom, atom_of, is_formula, formula_of}
use Rattle.rules.specs.Scope.{Declarations, Variable}
use Rattle.rules.specs.Items.{resolve_atom}
use Rattle.read_bytes.specs.Sets.{in_set, FirstInSet}
use Rattle.read_bytes.specs.declared.Set.TheVariants.{FieldEnd}
use Rattle.read_bytes.proofs.Search.{true-false, both_true, up_to-within}
use Rattle.read_atoms.specs.declared.Row.{Row}
use Rattle.std.specs.Prelude.{Option, IsSome}
use Rattle.tables.specs.declared.kinds.AtomKind.{AtomKind}
use Rattle.read_atoms.specs.Atoms.{Begins, atom_word, begins_atom, atom_row, begun_by}
use Rattle.read_atoms.proofs.Atoms.{kind-there, atom-begins, some_bytes, word-told}
use Rattle.read_fields.specs.Cuts.{part, more, NextField}
use Rattle.read_fields.proofs.Cuts.{byte-in, no_more, some_more, fields-from}
use Rattle.read_fields.proofs.Formulas as Atoms
use Rattle.read_fields.proofs.Formulas.{more-on, not_none, formula-full, atom-0, atom-1, atom-2, atom-3, atom-here}
use Rattle.tables.specs.Layout.{names_at, most_atom_rows, most_line_atoms}
use Rattle.tables.specs.Stores.{Kept}
use Rattle.read_scopes.specs.declared.Names.{Names}
use Rattle.read_scopes.specs.Meanings.{AreaFits, declarations_in, variables_in}
use Rattle.read_scopes.proofs.Scopes.{names-kept, variables-kept}
use Rattle.read_types.specs.declared.Fault.{Fault}
use Rattle.read_types.specs.Verdicts.{Verdict, lower}
use Rattle.read_types.proofs.Verdicts.{lower-assoc, lower_last, lower-good, not-bad}
use Rattle.rules.specs.Syntax.{Program}
use Rattle.tables.specs.Kinds.{kind_number}
use Rattle.write_rows.specs.Puts.{put_atom}
use Rattle.write_rows.specs.Holds as Holds
use Rattle.tables.specs.Tables.{Declared}
use Rattle.write_rows.specs.Holds.{AtomOk, Building}
use Rattle.write_rows.proofs.Atoms.{atom-names, atom-length, building, atom-written}
use Rattle.resolve_atoms.specs.declared.AtomRow.{AtomRow}
use Rattle.resolve_atoms.specs.declared.NextAtom.{NextAtom}
use Rattle.resolve_atoms.specs.Good.{atom_judged, atoms_judged}
use Rattle.resolve_atoms.specs.Written.{Resolved, AtomTried, formula_after, judged_after, AtomFollows, NextTried, FormulaFollows, FormulaTried}

-- THE WORD OF AN ATOM

-- the first field of a formula that is not empty
first_word : (n : ℕ) (w : Name) (ws : List Name) → is_formula (suc n) (w ∷ ws) ≡ true → begins_atom w ≡ true
unfolding is_formula
first_word n w [] e = true-false (sym e)
first_word n w (a ∷ []) e = true-false (sym e)
first_word n w (a ∷ b ∷ ws) e = atom-begins w a b (both_true (is_atom w a b) (is_formula n ws) e).0

module _ {t : List ℕ} {r : ℕ} (f : AtomFollows t r) where
  abbrev word-length : ℕ
  word-length = up_to (in_set FieldEnd) (drop (r + 1) t)

  in-text : r < length t
  in-text = byte-in t r 9 (omega arith) f.byte

  -- where the search for its end stops
  word-found : FirstInSet t (r + 1) FieldEnd (r + 1 + word-length)
  word-found =
      record {
        low = omega arith;
        high = omega (arith, in-text, up_to-within (in_set FieldEnd) (drop (r + 1) t), length-drop (r + 1) t);
        is = refl;
      }

  word_next : NextField t r (r + 1 + word-length)
  word_next =
      record {
        low = omega arith;
        high = word-found.high;
        none = λ e. absurd (omega arith);
        some = λ l. some_more t r f.byte ∙ fields-from t (r + 1) (r + 1 + word-length) word-found;
      }

  word-begins : begins_atom (take word-length (drop (r + 1) t)) ≡ true
  word-begins =
      let w = take word-length (drop (r + 1) t) in
      let z : r + 1 + word-length - (r + 1) ≡ word-length = omega arith in
      first_word f.most w _ (rw (word_next.some (omega arith), z) at f.form)

  -- its first letter tells it
  word-is : atom_word (begun_by (get_or t (r + 1) 0)) ≡ take word-length (drop (r + 1) t)
  word-is =
      let d = drop (r + 1) t in
      let w = take word-length d in
      let e : begins_atom w ≡ true = word-begins in
      let n : length w ≡ word-length = length-take-le word-length d (up_to-within (in_set FieldEnd) d) in
      let b : get_or w 0 0 ≡ get_or t (r + 1) 0 = get_or-take word-length d 0 0 (omega (arith, n, some_bytes w e)) ∙ (get_or-drop (r + 1) t 0 0 ∙ ap (λ k. get_or t k 0) (add-zero (r + 1))) in
      ap (λ b. atom_word (begun_by b)) (sym b) ∙ word-told w e

  pub letter-kind : (b : ℕ) (o : Option AtomKind) → b ≡ get_or t (r + 1) 0 → Begins b o → IsSome o
  letter-kind b o e h = kind-there b o h (ap (λ b. begins_atom (atom_word (begun_by b))) e ∙ (ap begins_atom word-is ∙ word-begins))

  module _ (k : ℕ) (i : k ≡ begun_by (get_or t (r + 1) 0)) (q : Row) (j : q ≡ atom_row k) where
    bytes-are : q.bytes ≡ word-length
    unfolding atom_row
    bytes-are =
        rw (j, i, word-is) (length-take-le word-length (drop (r + 1) t) (up_to-within (in_set FieldEnd) (drop (r + 1) t)))

    pub word-ends : NextField t r (r + 1 + q.bytes)
    word-ends = rw bytes-are word_next

    pub word_cut : part (r + 1) (r + 1 + q.bytes) t ≡ atom_word k
    word_cut = let z : r + 1 + word-length - (r + 1) ≡ word-length = omega arith in rw (bytes-are, z, i) (sym word-is)

-- THREE FIELDS
module _
    {t : List ℕ} {r x y z : ℕ} (f : NextField t r x) (g : NextField t x y) (h : NextField t y z) (tab : get_or t r 0 ≡ 9) (m : ℕ)
    (form : is_formula (suc m) (more (drop r t)) ≡ true) where
  never : {A : Type 0} → Atoms.NextAtom t r r → A
  never n = true-false (sym form ∙ n.none refl m (not_none t r tab))

  pub some-1 : x ≡ r → ⊥
  some-1 e = never (atom-0 f e)

  pub some-2 : y ≡ x → ⊥
  some-2 e = never (atom-1 f some-1 g e)

  pub some-3 : z ≡ y → ⊥
  some-3 e = never (atom-2 f some-1 g some-2 h e)

  is-atom : is_atom (part (r + 1) x t) (part (x + 1) y t) (part (y + 1) z t) ≡ true
  is-atom = go (is_atom (part (r + 1) x t) (part (x + 1) y t) (part (y + 1) z t)) refl
    where
      go : (q : Bool) → is_atom (part (r + 1) x t) (part (x + 1) y t) (part (y + 1) z t) ≡ q → q ≡ true
      go true e = refl
      go false e = never (atom-3 f some-1 g some-2 h some-3 e)

  -- by the kind of its word
  module _ (k : ℕ) (i : part (r + 1) x t ≡ atom_word k) where
    pub kind-atom : is_atom (atom_word k) (part (x + 1) y t) (part (y + 1) z t) ≡ true
    kind-atom = subst (λ w. is_atom w (part (x + 1) y t) (part (y + 1) z t) ≡ true) i is-atom

    pub kind-tried :
        (Γ : Declarations) (vs : List Variable) (q : Result AtomRow Fault) → AtomTried Γ vs (atom_of (atom_word k) (part (x + 1) y t) (part (y + 1) z t)) q →
        AtomTried Γ vs (atom_of (part (r + 1) x t) (part (x + 1) y t) (part (y + 1) z t)) q
    kind-tried Γ vs q a = subst (λ w. AtomTried Γ vs (atom_of w (part (x + 1) y t) (part (y + 1) z t)) q) (sym i) a

  abbrev here : Atom Name
  here = atom_of (part (r + 1) x t) (part (x + 1) y t) (part (y + 1) z t)

  formula-cut : formula_of (more (drop r t)) ≡ here ∷ formula_of (more (drop z t))
  unfolding formula_of
  formula-cut = rw (more-on f some-1, more-on g some-2, more-on h some-3)

  pub next-form : (n : ℕ) → is_formula (suc n) (more (drop r t)) ≡ is_formula n (more (drop z t))
  next-form n = (atom-here f some-1 g some-2 h some-3 is-atom).some (omega (arith, f.low, g.low, h.low, some-1)) n

  module _ (w : List ℕ) (c : Names) where
    judged-cut :
        judged_after t w c r ≡ lower (atom_judged (declarations_in t w c) (variables_in t w c) here) (judged_after t w c z)
    unfolding judged_after atoms_judged
    judged-cut = ap (atoms_judged (declarations_in t w c) (variables_in t w c)) formula-cut

    formula-on : formula_after t w c r ≡ resolve_atom (declarations_in t w c) (variables_in t w c) here ∷ formula_after t w c z
    unfolding formula_after
    formula-on = ap (map (resolve_atom (declarations_in t w c) (variables_in t w c))) formula-cut

    pub next-put :
        (k : AreaFits w c) (n : ℕ) (q : Result AtomRow Fault) (a : AtomRow) (u : List ℕ) → n < most_atom_rows →
        AtomTried (declarations_in t w c) (variables_in t w c) here q → q ≡ Ok a → u ≡ put_atom w n (kind_number a.kind) a.left a.right →
        NextTried t w c r n u (record { end = z; verdict = Ok tt })
    unfolding AtomTried
    next-put k n q a u l y i e =
        let x : (atom_judged (declarations_in t w c) (variables_in t w c) here ≡ Ok tt) × Resolved (declarations_in t w c) (variables_in t w c) here a =
        subst (AtomTried (declarations_in t w c) (variables_in t w c) here) i y in
        record {
          atom = resolve_atom (declarations_in t w c) (variables_in t w c) here;
          low = omega (arith, f.low, g.low, h.low, some-1);
          high = h.high;
          form = next-form;
          judged = judged-cut ∙ ap (λ v. lower v (judged_after t w c z)) x.0;
          is = formula-on;
          built = λ good D F i φ b.
              subst (λ v. Building D v F i (n + 1) (φ ++ (resolve_atom (declarations_in t w c) (variables_in t w c) here ∷ []))) (sym e)
              (subst (λ y. Building D (put_atom w n (kind_number a.kind) a.left a.right) F i (n + 1) (φ ++ (y ∷ []))) x.1.is
              (atom-written D w F i n φ (kind_number a.kind) a.left a.right l x.1.ok b));
          names = subst (Kept names_at work_bytes w) (sym e) (atom-names w n (kind_number a.kind) a.left a.right k.whole l x.1.ok);
          size = ap length e ∙ atom-length w n (kind_number a.kind) a.left a.right k.whole l x.1.ok;
        }

    pub next-bad :
        (n : ℕ) (q : Result AtomRow Fault) (b : Fault) → AtomTried (declarations_in t w c) (variables_in t w c) here q → q ≡ Err b →
        NextTried t w c r n w (record { end = z; verdict = Err b })
    unfolding AtomTried
    next-bad n q b y i =
        let x : atom_judged (declarations_in t w c) (variables_in t w c) here ≡ Err b =
        subst (AtomTried (declarations_in t w c) (variables_in t w c) here) i y in
        record {
          atom = resolve_atom (declarations_in t w c) (variables_in t w c) here;
          low = omega (arith, f.low, g.low, h.low, some-1);
          high = h.high;
          form = next-form;
          judged = judged-cut ∙ ap (λ v. lower v (judged_after t w c z)) x;
          is = formula-on;
          built = λ good D F i φ k. not-bad b good;
          names = λ j k l. refl;
          size = refl;
        }

-- the row of an atom that was tried
pub row_ok : (Γ : Declarations) (vs : List Variable) (x : Atom Name) (q : Result AtomRow Fault) (a : AtomRow) → AtomTried Γ vs x q → q ≡ Ok a →
    AtomOk (kind_number a.kind) a.left a.right
unfolding AtomTried
row_ok Γ vs x q a y i =
    let z : (atom_judged Γ vs x ≡ Ok tt) × Resolved Γ vs x a = subst (AtomTried Γ vs x) i y in z.1.ok

-- THE LOOP

-- the atoms before r are tried, and written if they are good; u is what the tests say of them
pub record Writing (t v : List ℕ) (c : Names) (from first : ℕ) (w : List ℕ) (r n : ℕ) (u : Verdict) : Type 0 where
  pub high : r ≤ length t
  pub most : ℕ
  pub form : is_formula most (more (drop r t)) ≡ true
  pub judged : judged_after t v c from ≡ lower u (judged_after t v c r)
  pub done : Formula ℕ
  pub all : formula_after t v c from ≡ done ++ formula_after t v c r
  pub count : n ≡ first + length done
  pub built : u ≡ Ok tt → (D : Declared) (F : Program) → Holds.Holds D v F first → Building D w F first n done
  pub names : Kept names_at work_bytes v w
  pub size : length w ≡ length v

pub writing-first : {t v : List ℕ} {c : Names} {from first : ℕ} → FormulaFollows t v c most_line_atoms from first → Writing t v c from first v from first (Ok tt)
unfolding lower
writing-first {t} {v} {c} {from} {first} x =
    record {
      high = x.high;
      most = most_line_atoms;
      form = x.form;
      judged = refl;
      done = [];
      all = refl;
      count = omega arith;
      built = λ good D F h. building D v F first h;
      names = λ i a b. refl;
      size = refl;
    }

module _ {t v : List ℕ} {c : Names} {from first : ℕ} {w : List ℕ} {r n : ℕ} {u : Verdict} (x : Writing t v c from first w r n u) (k : AreaFits v c) where
  pub still-ready : AreaFits w c
  still-ready = record { whole = x.size ∙ k.whole; fits = k.fits }

  same-judged : (e : ℕ) → judged_after t w c e ≡ judged_after t v c e
  unfolding judged_after
  same-judged e =
      ap₂ (λ Γ vs. atoms_judged Γ vs (formula_of (more (drop e t)))) (names-kept t v w c k.fits x.names)
      (variables-kept t v w c k.fits x.names)

  same-formula : (e : ℕ) → formula_after t w c e ≡ formula_after t v c e
  unfolding formula_after
  same-formula e =
      ap₂ (λ Γ vs. map (resolve_atom Γ vs) (formula_of (more (drop e t)))) (names-kept t v w c k.fits x.names)
      (variables-kept t v w c k.fits x.names)

  module _ (e : get_or t r 0 ≡ 9 → ⊥) where
    judged-last : judged_after t v c from ≡ u
    unfolding judged_after formula_of atoms_judged
    judged-last =
        x.judged
        ∙ (ap (λ ws. lower u (atoms_judged (declarations_in t v c) (variables_in t v c) (formula_of ws))) (no_more t r e) ∙ lower_last u)

    pub writing-done : u ≡ Ok tt → FormulaTried t v c from first w (Ok n)
    unfolding formula_of formula_after FormulaTried
    writing-done good =
        let z : formula_after t v c r ≡ [] =
        ap (λ ws. map (resolve_atom (declarations_in t v c) (variables_in t v c)) (formula_of ws)) (no_more t r e) in
        let a : formula_after t v c from ≡ x.done = x.all ∙ (ap (λ φ. x.done ++ φ) z ∙ append-nil x.done) in (
          judged-last ∙ good,
          record {
            count = x.count ∙ ap (λ φ. first + length φ) (sym a);
            built = λ D F h. subst (Building D w F first n) (sym a) (x.built good D F h);
            names = x.names;
            size = x.size;
          },
        )

    pub writing-bad : (f : Fault) → u ≡ Err f → FormulaTried t v c from first w (Err f)
    unfolding FormulaTried
    writing-bad f bad = (judged-last ∙ bad, x.size)

  module _ (tab : get_or t r 0 ≡ 9) where
    pub writing-follows : AtomFollows t r
    writing-follows = go x.most x.form
      where
        go : (m : ℕ) → is_formula m (more (drop r t)) ≡ true → AtomFollows t r
        go zero f = true-false (sym f ∙ formula-full t r tab)
        go (suc m) f = record { high = x.high; byte = tab; most = m; form = f }

    pub writing-on :
        (a : List ℕ) (q : NextAtom) (b : Verdict) → NextTried t w c r n a q → b ≡ lower u q.verdict →
        Writing t v c from first a q.end (n + 1) b
    writing-on a q b y i =
        let l : formula_after t v c r ≡ y.atom ∷ formula_after t v c q.end =
        sym (same-formula r) ∙ (y.is ∙ ap (λ φ. y.atom ∷ φ) (same-formula q.end)) in
        record {
          high = y.high;
          most = writing-follows.most;
          form = sym (y.form writing-follows.most) ∙ writing-follows.form;
          judged =
              x.judged
              ∙ (ap (lower u) (sym (same-judged r) ∙ (y.judged ∙ ap (lower q.verdict) (same-judged q.end)))
              ∙ (lower-assoc u q.verdict (judged_after t v c q.end) ∙ ap (λ z. lower z (judged_after t v c q.end)) (sym i)));
          done = x.done ++ (y.atom ∷ []);
          all = x.all ∙ (ap (λ φ. x.done ++ φ) l ∙ sym (append_assoc x.done (y.atom ∷ []) (formula_after t v c q.end)));
          count = omega (arith, x.count, length-append x.done (y.atom ∷ []));
          built = λ good D F h.
              let both = lower-good u q.verdict (sym i ∙ good) in y.built both.1 D F first x.done (x.built both.0 D F h);
          names = λ i a b. y.names i a b ∙ x.names i a b;
          size = y.size ∙ x.size;
        }

    pub writing-room : first + length (formula_after t v c from) ≤ most_atom_rows → n < most_atom_rows
    unfolding formula_after formula_of is_formula
    writing-room l = some (formula_after t v c r) refl (not-empty x.most x.form)
      where
        some : (φ : Formula ℕ) → formula_after t v c r ≡ φ → (φ ≡ [] → ⊥) → n < most_atom_rows
        some [] e h = absurd (h refl)
        some (a ∷ φ) e h = omega (arith, l, x.count, ap length x.all, length-append x.done (formula_after t v c r), ap length e)

        not-empty : (m : ℕ) → is_formula m (more (drop r t)) ≡ true → formula_after t v c r ≡ [] → ⊥
        not-empty m f e = cut m (more (drop r t)) f (not_none t r tab) e
          where
            cut :
                (m : ℕ) (ws : List Name) → is_formula m ws ≡ true → (ws ≡ [] → ⊥) →
                map (resolve_atom (declarations_in t v c) (variables_in t v c)) (formula_of ws) ≡ [] → ⊥
            cut m [] f h e = h refl
            cut zero (a ∷ ws) f h e = true-false (sym f)
            cut (suc m) (a ∷ []) f h e = true-false (sym f)
            cut (suc m) (a ∷ b ∷ []) f h e = true-false (sym f)
            cut (suc m) (a ∷ b ∷ d ∷ ws) f h e = let z : ◌≡◌ {A = ℕ} 0 1 = cc in omega arith
