-- A line by its kind: what the writer of its row or formula asks, and that what it leaves is the line's item.
use Rattle.std.proofs.Common.{Result, Ok, Err}
use Rattle.read_types.specs.Verdicts.{Verdict}
use mathlib.Core.Path.{◌≡◌, refl, sym, ap, subst, ◌∙◌}
use mathlib.Core.Bool.{Bool, true, false, not, cond, ◌||◌}
use mathlib.Core.List.{List, [], ◌∷◌, ◌++◌, map}
use mathlib.Core.Logic.{◌⊎◌, inl, inr, ⊎_elim}
use Prim.Native.Nat.{ℕ, zero, suc, ◌+◌, ◌-◌, ◌≤◌, ◌<◌}
use native.Mathlib.Omega.{arith}
use native.Mathlib.Numerals.{add-one}
use lib.Dec.{T, T_not, eqb}
use lib.ListN.{length, get_or, drop}
use borrow.Author.Tests.{eqb-true, eq-eqb, ne_eqb, le-leb, lt-leb}
use Rattle.rules.specs.Base.{Name, any, all}
use Rattle.rules.specs.Limits.{work_bytes, most_methods, most_statements, most_atoms}
use Rattle.rules.specs.Syntax.{Atom, Formula, own, cmp}
use Rattle.rules.specs.Text.{rel_of, expr_of, is_condition, is_formula, formula_of}
use Rattle.rules.specs.declared.Kind as Numbered
use Rattle.rules.specs.declared.Kind.TheVariants as Variants
use Rattle.rules.specs.Numbered.{number}
use Rattle.rules.specs.Grammar as Grammar
use Rattle.rules.specs.Grammar.{Kind, Statement, Line, statement, form, first_statement, IsKindNumber, IsStatementNumber, is_formed, is_tail}
use Rattle.rules.specs.Grammar.{is_kind, is_statement, kind_number, statement_number}
use Rattle.rules.specs.Scope.{Declarations, Variable, Scope, operand, atoms_of}
use Rattle.rules.specs.Items as Items
use Rattle.rules.specs.Items.{Item, item_of, a_statement, a_requires, an_ensures}
use Rattle.rules.proofs.Lists.{T_true, or_cases, decide_eq}
use Rattle.rules.proofs.LineKinds.{every-kind}
use Rattle.read_bytes.proofs.Search.{true-false, both_true}
use Rattle.read_fields.specs.Cuts.{more}
use Rattle.read_grammar.specs.Rows.{kind_numbered}
use Rattle.read_grammar.proofs.Rows.{number-of-kind, kind-of-number, kind-numbered, statement-numbered}
use Rattle.tables.specs.Layout.{names_at, most_atom_rows, most_line_atoms, atom_limit}
use Rattle.tables.specs.Decode as Decode
use Rattle.tables.specs.Decode.{run, byte_at, atom_place, left_at, right_at, atom_at, atoms_from, framed_from}
use Rattle.tables.specs.Stores.{Kept}
use Rattle.read_scopes.specs.declared.Names.{Names}
use Rattle.read_scopes.specs.Meanings.{AreaFits, NamesFit, declarations_in, variables_in, scope_in}
use Rattle.rules.specs.Syntax.{Program}
use Rattle.rules.specs.Reading.{with_item}
use Rattle.write_rows.specs.Holds.{Holds}
use Rattle.resolve_pass.specs.declared.Pass.{Pass}
use Rattle.resolve_pass.specs.Passes.{counts, after, with_block, names_after, seen_by, has_atoms, atoms_at_most, is_framed, stated_formula, framed_formula, item, Stands, line_after, line_judged, judged_here, BadLine}
use Rattle.read_declarations.specs.Declares.{line_with}
use Rattle.resolve_atoms.specs.Written.{formula_after, judged_after, FormulaFollows}
use Rattle.read_types.specs.declared.Fault.{Fault}
use Rattle.resolve_atoms.proofs.Goods.{formula-judged}
use Rattle.write_plain.specs.Plain.{is_plain, PlainFollows, PlainPut, PlainTried}
use Rattle.write_formulas.specs.Claims.{is_claim, has_condition, loop_with, claim_of, ClaimFollows, ClaimPut, HeaderPut, ClaimTried, HeaderTried}
use Rattle.write_formulas.proofs.Claims.{claim-cases, some-atoms, formula-few}
use Rattle.write_sides.specs.Sides.{SideFollows, SidePut, SideTried}
use Rattle.write_sides.proofs.Sides.{if-form}
use Rattle.resolve_bodies.specs.Bodies.{Follows, ItemPut, ItemTried, done_if}
use Rattle.resolve_bodies.proofs.Lines.{statement-quiet, names-is}

-- KINDS BY THEIR NUMBERS
pub kind-as : (K : Kind) (k : ℕ) → k ≡ kind_number K → kind_numbered k ≡ K
kind-as K k e = ap kind_numbered e ∙ kind-of-number K

eqb-flip : (m n : ℕ) → eqb m n ≡ eqb n m
eqb-flip m n = go (eqb n m) refl
  where
    go : (q : Bool) → eqb n m ≡ q → eqb m n ≡ q
    go true e = eq-eqb m n (sym (eqb-true n m e))
    go false e = ne_eqb m n (λ z. true-false (sym (eq-eqb n m (sym z)) ∙ e))

pub statement-kind : {k : ℕ} → IsStatementNumber k → IsKindNumber k
statement-kind h = (omega arith, h.1)

pub seen-result : (k : ℕ) → IsKindNumber k → is_kind Grammar.Requires (kind_numbered k) ≡ eqb k 4
unfolding kind_number
seen-result k h = kind-numbered k h Grammar.Requires ∙ eqb-flip 4 k

pub is-statement : (k : ℕ) → IsStatementNumber k → is_statement (kind_numbered k) ≡ true
is-statement k h = statement-numbered k (statement-kind h) ∙ le-leb first_statement k h.0

pub no-statement : (k : ℕ) → 1 ≤ k → k < first_statement → is_statement (kind_numbered k) ≡ false
no-statement k a b = statement-numbered k (a, omega arith) ∙ lt-leb first_statement k b

-- `end`, and other statements
module _ (k : ℕ) (h : IsStatementNumber k) where
  ends : is_kind (statement Grammar.End) (kind_numbered k) ≡ eqb 18 k
  unfolding kind_number statement_number
  ends = kind-numbered k (statement-kind h) (statement Grammar.End)

  names-end : (c : Names) → names_after (kind_numbered k) c ≡ cond (eqb 18 k) (with_block false c) c
  names-end c =
      names-is (kind_numbered k) (statement-quiet (kind_numbered k) (omega (arith, number-of-kind k (statement-kind h)))) c
      ∙ ap (λ e. cond e (with_block false c) c) ends

  pub stays_open : (k ≡ 18 → ⊥) → (c : Names) → c ≡ names_after (kind_numbered k) c
  stays_open n c = sym (names-end c ∙ ap (λ e. cond e (with_block false c) c) (ne_eqb 18 k (λ z. n (sym z))))

  pub closes : k ≡ 18 → (c : Names) → with_block false c ≡ names_after (kind_numbered k) c
  closes z c = sym (names-end c ∙ ap (λ e. cond e (with_block false c) c) (eq-eqb 18 k (sym z)))

not-framed : (k : ℕ) → IsStatementNumber k → (k ≡ 17 → ⊥) → (k ≡ 21 → ⊥) → is_framed (kind_numbered k) ≡ false
unfolding is_framed kind_number statement_number
not-framed k h n m =
    let is = kind-numbered k (statement-kind h) in
    rw (
      is Grammar.Requires,
      is Grammar.Ensures,
      is (statement Grammar.Join),
      is (statement Grammar.Loop),
      ne_eqb 4 k (λ z. omega arith),
      ne_eqb 5 k (λ z. omega arith),
      ne_eqb 17 k (λ z. n (sym z)),
      ne_eqb 21 k (λ z. m (sym z)),
    )

-- n is none of these
abbrev NoneOf : ℕ → List ℕ → Type 0
NoneOf n [] = Unit {0}
NoneOf n (k ∷ ks) = NoneOf n ks × (n ≡ k → ⊥)

none_any : (n : ℕ) (ks : List ℕ) → NoneOf n ks → any (eqb n) ks ≡ false
unfolding any
none_any n [] r = refl
none_any n (k ∷ ks) r = rw (ne_eqb n k r.1) (none_any n ks r.0)

-- `loop`, `join`, `if`, `release`, `assert` and `let` have writers of their own: every other statement is plain
abbrev others : List ℕ
others = 21 ∷ 17 ∷ 15 ∷ 14 ∷ 13 ∷ 9 ∷ []

has_writer : Kind → Bool
has_writer k = not (is_statement k) || (is_plain (kind_number k) || any (eqb (kind_number k)) others)

pub plain-left : (k : ℕ) → IsStatementNumber k → NoneOf k others → is_plain k ≡ true
unfolding Grammar.opened is_plain any all has_writer
plain-left k h r =
    let K : Kind = kind_numbered k in
    let e = number-of-kind k (statement-kind h) in
    ⊎_elim (λ t. absurd (T_not (is_statement K) t (subst T (sym (is-statement k h)) tt)))
    (λ t.
    ⊎_elim (λ t. sym (ap is_plain e) ∙ T_true (is_plain (kind_number K)) t)
    (λ t. true-false (sym (T_true (any (eqb (kind_number K)) others) t) ∙ (ap (λ n. any (eqb n) others) e ∙ none_any k others r)))
    (or_cases (is_plain (kind_number K)) _ t))
    (or_cases (not (is_statement K)) _ (every-kind has_writer tt K))

-- THE LINE OF A LOOP

-- its first atom is a condition
record LoopForm (ws : List Name) : Type 0 where
  formula : formula_of ws ≡ cmp (rel_of (get_or ws 0 [])) (expr_of (get_or ws 1 [])) (expr_of (get_or ws 2 [])) ∷ formula_of (drop 3 ws)
  form : is_formula most_line_atoms ws ≡ true

loop-form : (ws : List Name) → is_tail Grammar.both ws ≡ true → LoopForm ws
unfolding Grammar.opened is_tail is_condition is_formula formula_of
loop-form [] e = true-false (sym e)
loop-form (u ∷ []) e = true-false (sym e)
loop-form (u ∷ a ∷ []) e = true-false (sym e)
loop-form (u ∷ a ∷ b ∷ ws) e =
    let c = both_true (is_condition (u ∷ a ∷ b ∷ [])) (is_formula most_atoms ws) e in
    let f = if-form (u ∷ a ∷ b ∷ []) c.0 in
    record { formula = ap (λ x. x ∷ formula_of ws) f.compared; form = rw f.form c.1 }

-- number 10 takes it last
loop-framed :
    (w : List ℕ) (i n : ℕ) (φ : Formula ℕ) → has_condition φ ≡ true → atoms_from w i n ≡ φ → framed_from w 21 i n ≡ stated_formula (loop_with φ)
unfolding framed_from run atom_at has_condition loop_with stated_formula
loop-framed w i zero φ h e = true-false (sym (ap has_condition e ∙ h))
loop-framed w i (suc n) φ h e =
    let m : suc n - 1 ≡ n = omega arith in
    let ψ : Formula ℕ = atoms_from w (suc i) n in
    (λ j. atoms_from w (add-one i j) (m j) ++ (atom_at w i ∷ []))
    ∙ (go (Decode.is_permission (byte_at w (atom_place i))) ψ (ap has_condition e ∙ h) ∙ ap (λ φ. stated_formula (loop_with φ)) e)
  where
    atom : Bool → Atom ℕ
    atom b =
        cond b (own (Decode.permit_of (byte_at w (atom_place i))) (byte_at w (atom_place i + 4)) (byte_at w (atom_place i + 5)))
        (cmp (Decode.rel_of (byte_at w (atom_place i))) (left_at w i) (right_at w i))

    go : (b : Bool) (ψ : Formula ℕ) → has_condition (atom b ∷ ψ) ≡ true → ψ ++ (atom b ∷ []) ≡ stated_formula (loop_with (atom b ∷ ψ))
    go true ψ h = true-false (sym h)
    go false ψ h = refl

-- KINDS WHOSE LINE IS A FORMULA

-- z is the item with the formula
pub record Formulaic (K : Kind) (z : Formula ℕ → Item) : Type 0 where
  pub most : (ws : List Name) → is_tail (form K).tail ws ≡ true → is_formula (atom_limit (kind_number K)) ws ≡ true
  pub condition :
      (Γ : Declarations) (vs : List Variable) (ws : List Name) → is_tail (form K).tail ws ≡ true → kind_number K ≡ 21 →
      has_condition (map (Items.resolve_atom Γ vs) (formula_of ws)) ≡ true
  pub item :
      (Γ : Declarations) (vs : List Variable) (ws : List Name) → is_tail (form K).tail ws ≡ true →
      item_of Γ vs K (line_with K ws) ≡ z (map (Items.resolve_atom Γ vs) (formula_of ws))
  pub framed :
      (φ : Formula ℕ) → (kind_number K ≡ 21 → has_condition φ ≡ true) → is_framed K ≡ true → (w : List ℕ) (i n : ℕ) → atoms_from w i n ≡ φ →
      framed_from w (kind_number K) i n ≡ framed_formula (z φ)
  pub atoms : has_atoms K ≡ true
  pub operands : (form K).operands ≡ []

pub requires-is : Formulaic Grammar.Requires a_requires
unfolding Grammar.opened item_of Items.resolve_statement Items.resolve_formula Items.resolve_atoms atoms_of framed_from framed_formula has_atoms atom_limit
requires-is =
    record {
      most = λ ws e. e;
      condition = λ Γ vs ws e k. absurd (omega arith);
      item = λ Γ vs ws e. refl;
      framed = λ φ h f w i n e. e;
      atoms = refl;
      operands = refl;
    }

pub ensures-is : Formulaic Grammar.Ensures an_ensures
unfolding Grammar.opened item_of Items.resolve_statement Items.resolve_formula Items.resolve_atoms atoms_of framed_from framed_formula has_atoms atom_limit
ensures-is =
    record {
      most = λ ws e. e;
      condition = λ Γ vs ws e k. absurd (omega arith);
      item = λ Γ vs ws e. refl;
      framed = λ φ h f w i n e. e;
      atoms = refl;
      operands = refl;
    }

assert-is : Formulaic (statement Grammar.Assert) (λ φ. a_statement (claim_of 13 φ))
unfolding Grammar.opened item_of Items.resolve_statement Items.resolve_formula Items.resolve_atoms atoms_of has_atoms atom_limit is_framed claim_of
assert-is =
    record {
      most = λ ws e. e;
      condition = λ Γ vs ws e k. absurd (omega arith);
      item = λ Γ vs ws e. refl;
      framed = λ φ h f. true-false (sym f);
      atoms = refl;
      operands = refl;
    }

release-is : Formulaic (statement Grammar.Release) (λ φ. a_statement (claim_of 14 φ))
unfolding Grammar.opened item_of Items.resolve_statement Items.resolve_formula Items.resolve_atoms atoms_of has_atoms atom_limit is_framed claim_of
release-is =
    record {
      most = λ ws e. e;
      condition = λ Γ vs ws e k. absurd (omega arith);
      item = λ Γ vs ws e. refl;
      framed = λ φ h f. true-false (sym f);
      atoms = refl;
      operands = refl;
    }

join_is : Formulaic (statement Grammar.Join) (λ φ. a_statement (claim_of 17 φ))
unfolding Grammar.opened item_of Items.resolve_statement Items.resolve_formula Items.resolve_atoms atoms_of framed_from framed_formula stated_formula has_atoms atom_limit claim_of
join_is =
    record {
      most = λ ws e. e;
      condition = λ Γ vs ws e k. absurd (omega arith);
      item = λ Γ vs ws e. refl;
      framed = λ φ h f w i n e. e;
      atoms = refl;
      operands = refl;
    }

loop-is : Formulaic (statement Grammar.Loop) (λ φ. a_statement (claim_of 21 φ))
unfolding Grammar.opened item_of Items.resolve_statement Items.resolve_loop Items.resolve_atoms Items.resolve_atom atoms_of operand framed_formula has_atoms atom_limit has_condition loop_with claim_of
loop-is =
    record {
      most = λ ws e. (loop-form ws e).form;
      condition = λ Γ vs ws e k. ap (λ ψ. has_condition (map (Items.resolve_atom Γ vs) ψ)) (loop-form ws e).formula;
      item = λ Γ vs ws e. ap (λ ψ. a_statement (loop_with (map (Items.resolve_atom Γ vs) ψ))) (sym (loop-form ws e).formula);
      framed = λ φ h f w i n e. loop-framed w i n φ (h refl) e;
      atoms = refl;
      operands = refl;
    }

pub claim-is : (k : ℕ) → is_claim k ≡ true → Formulaic (kind_numbered k) (λ φ. a_statement (claim_of k φ))
unfolding kind_number statement_number
claim-is k i =
    ⊎_elim (λ e. of-kind (statement Grammar.Assert) e assert-is)
    (λ o.
    ⊎_elim (λ e. of-kind (statement Grammar.Release) e release-is)
    (λ o. ⊎_elim (λ e. of-kind (statement Grammar.Join) e join_is) (λ e. of-kind (statement Grammar.Loop) e loop-is) o) o)
    (claim-cases k i)
  where
    of-kind : (K : Kind) → k ≡ kind_number K → Formulaic K (λ φ. a_statement (claim_of (kind_number K) φ)) → Formulaic (kind_numbered k) (λ φ. a_statement (claim_of k φ))
    of-kind K e x =
        subst (λ k. Formulaic (kind_numbered k) (λ φ. a_statement (claim_of k φ))) (sym e)
        (subst (λ L. Formulaic L (λ φ. a_statement (claim_of (kind_number K) φ))) (sym (kind-of-number K)) x)

pub claims : {k : Numbered.Kind} → (k ≡ Variants.Assert) ⊎ ((k ≡ Variants.Release) ⊎ ((k ≡ Variants.Join) ⊎ (k ≡ Variants.Loop))) → is_claim (number k) ≡ true
unfolding is_claim
claims (inl z) = ap (λ k. is_claim (number k)) z
claims (inr (inl z)) = ap (λ k. is_claim (number k)) z
claims (inr (inr (inl z))) = ap (λ k. is_claim (number k)) z
claims (inr (inr (inr z))) = ap (λ k. is_claim (number k)) z

pub header-kind : (k : ℕ) → 4 ≤ k → k ≤ 5 → (k ≡ 4) ⊎ (k ≡ 5)
header-kind k a b = ⊎_elim inl (λ n. inr (omega arith)) (decide_eq k 4)

-- more than one atom
limit-some : (k : ℕ) → 8 ≤ atom_limit k
unfolding atom_limit
limit-some k = go (eqb k 21)
  where
    go : (b : Bool) → 8 ≤ cond b most_line_atoms most_atoms
    go true = omega arith
    go false = omega arith

-- WHAT IS ASKED
module _ {t w : List ℕ} {p : Pass} {k r : ℕ} (x : Follows t w p k r) where
  abbrev ws : List Name
  ws = more (drop r t)

  abbrev S : Scope
  S = scope_in t w p.names p.above

  pub line_small : p.line + 1 < 65536
  line_small = omega (arith, x.room.line)

  pub row_room : IsStatementNumber k → p.rows < most_statements
  row_room h = x.room.rows (is-statement k h)

  pub method-room : 4 ≤ k → k ≤ 5 → (1 ≤ after p.above.methods) × (after p.above.methods ≤ most_methods)
  unfolding is_kind is_statement kind_number
  method-room a b =
      let is : Kind → Bool = λ K. is_kind Grammar.Requires K || is_kind Grammar.Ensures K in
      let i : is (kind_numbered k) ≡ true =
      ⊎_elim (λ e. ap is (kind-as Grammar.Requires k e)) (λ e. ap is (kind-as Grammar.Ensures k e)) (header-kind k a b) in
      (x.room.header i, x.ready.above.methods)

  module _ {c : Names} (g : c ≡ seen_by (kind_numbered k) p.names) where
    seen-fits : NamesFit c
    unfolding seen_by
    seen-fits =
        let f = x.ready.names in
        subst NamesFit (sym g) (record { classes = f.classes; fields = f.fields; methods = f.methods; locals = f.locals })

    pub area-fits : AreaFits w c
    area-fits = record { whole = x.ready.whole; fits = seen-fits }

    module _ (K : Kind) (e : kind_numbered k ≡ K) where
      formed-as : is_formed (form K).operands (form K).tail ws ≡ true
      formed-as = subst (λ K. is_formed (form K).operands (form K).tail ws ≡ true) e x.formed

      judged-as : judged_here t w p (line_after t r k) ≡ line_judged (declarations_in t w c) (variables_in t w c) S (line_with K ws)
      unfolding seen_by declarations_in judged_here
      judged-as = λ j. line_judged (declarations_in t w (sym g j)) (variables_in t w (sym g j)) S (line_with (e j) ws)

      item-as : item t w p (line_after t r k) ≡ item_of (declarations_in t w c) (variables_in t w c) K (line_with K ws)
      unfolding seen_by declarations_in
      item-as = λ j. item_of (declarations_in t w (sym g j)) (variables_in t w (sym g j)) (e j) (line_with (e j) ws)

      module _ (h : has_atoms K ≡ true) where
        atoms-room : p.atoms + atom_limit (kind_number K) ≤ most_atom_rows
        atoms-room = subst (λ L. p.atoms + atom_limit (kind_number L) ≤ most_atom_rows) e (x.room.atoms (ap has_atoms e ∙ h))

        atoms-most : atoms_at_most (kind_numbered k) ≡ atom_limit (kind_number K)
        unfolding atoms_at_most
        atoms-most = ap atoms_at_most e ∙ rw h

      tail-formed : (form K).operands ≡ [] → is_tail (form K).tail ws ≡ true
      unfolding is_formed
      tail-formed o = sym (ap (λ os. is_formed os (form K).tail ws) o) ∙ formed-as

      -- of a formula, what is said of its atoms
      pub formula-here : (form K).operands ≡ [] → judged_here t w p (line_after t r k) ≡ judged_after t w c r
      unfolding line_judged judged_after
      formula-here o = judged-as ∙ formula-judged (declarations_in t w c) (variables_in t w c) S (line_with K ws) o

    pub side-follows : (a : Statement) (e : kind_numbered k ≡ statement a) → has_atoms (statement a) ≡ true → SideFollows a t r p.atoms
    side-follows a e h =
        record { high = x.high; formed = formed-as (statement a) e; room = omega (arith, atoms-room (statement a) e h, limit-some (kind_number (statement a))) }

    pub plain_follows : is_plain k ≡ true → PlainFollows t k r
    plain_follows i = record { kind = i; high = x.high; formed = x.formed }

-- WHAT IS LEFT
module _ {t w : List ℕ} {p : Pass} {k r : ℕ} (x : Follows t w p k r) {c : Names} (g : c ≡ seen_by (kind_numbered k) p.names) where
  -- the tables with the item z of the next line, which is the line's
  placed :
      (K : Kind) (e : kind_numbered k ≡ K) {z : Item} {v : List ℕ} {m : ℕ} (F : Program) →
      z ≡ item_of (declarations_in t w c) (variables_in t w c) K (line_with K (more (drop r t))) →
      Holds (counts p.names) v (with_item F (p.line + 1) z) m → Holds (counts p.names) v (with_item F (suc p.line) (item t w p (line_after t r k))) m
  placed K e {z} {v} {m} F i h =
      subst (λ G. Holds (counts p.names) v G m) (λ j. with_item F (add-one p.line j) ((i ∙ sym (item-as x g K e)) j)) h

  seen-counts : counts c ≡ counts p.names
  unfolding seen_by
  seen-counts = ap counts g

  pub side-put :
      (a : Statement) (e : kind_numbered k ≡ statement a) → has_atoms (statement a) ≡ true → is_framed (statement a) ≡ false → {v : List ℕ} {m : ℕ} →
      SidePut a t w c r p.rows p.atoms (p.line + 1) v m → ItemPut t w p (line_after t r k) v m
  side-put a e h n y =
      record {
        grown = omega (arith, y.count);
        count = omega (arith, y.count, atoms-most x g (statement a) e h, limit-some (kind_number (statement a)));
        condition = λ _. omega (arith, y.count);
        built = λ F s. placed (statement a) e F refl (y.built (counts p.names) F s.rows s.holds);
        formula = λ f F s. true-false (sym (sym (ap is_framed e ∙ n) ∙ f));
        names = y.names;
        size = y.size;
      }

  pub plain-put :
      IsStatementNumber k → (k ≡ 17 → ⊥) → (k ≡ 21 → ⊥) → {v : List ℕ} → PlainPut t w c k r p.rows (p.line + 1) v →
      ItemPut t w p (line_after t r k) v p.atoms
  unfolding kind_number statement_number
  plain-put h n m {v} y =
      record {
        grown = omega arith;
        count = omega arith;
        condition = λ e. absurd (m (sym (number-of-kind k (statement-kind h)) ∙ ap kind_number e));
        built = λ F s.
            placed (kind_numbered k) refl F refl
            (subst
            (λ d.
            Holds d v
            (with_item F (p.line + 1) (item_of (declarations_in t w c) (variables_in t w c) (kind_numbered k) (line_after t r k))) p.atoms)
            seen-counts (y.built F p.atoms s.rows (subst (λ d. Holds d w F p.atoms) (sym seen-counts) s.holds)));
        formula = λ f F s. true-false (sym (sym (not-framed k h n m) ∙ f));
        names = y.names;
        size = y.size;
      }

  -- FORMULAS
  abbrev φ : Formula ℕ
  φ = formula_after t w c r

  module _ {K : Kind} {z : Formula ℕ → Item} (y : Formulaic K z) (e : kind_numbered k ≡ K) where
    tail-as : is_tail (form K).tail (more (drop r t)) ≡ true
    tail-as = tail-formed x g K e y.operands

    form-as : is_formula (atom_limit (kind_number K)) (more (drop r t)) ≡ true
    form-as = y.most (more (drop r t)) tail-as

    condition-as : kind_number K ≡ 21 → has_condition φ ≡ true
    unfolding formula_after
    condition-as i = y.condition (declarations_in t w c) (variables_in t w c) (more (drop r t)) tail-as i

    pub follows-as : FormulaFollows t w c (atom_limit (kind_number K)) r p.atoms
    follows-as =
        record { high = x.high; form = form-as; room = omega (arith, atoms-room x g K e y.atoms, formula-few t w c (atom_limit (kind_number K)) r form-as) }

  pub claim-follows : IsStatementNumber k → is_claim k ≡ true → ClaimFollows t w c k r p.atoms
  claim-follows h i =
      let n = number-of-kind k (statement-kind h) in
      record {
        claim = i;
        formula = subst (λ m. FormulaFollows t w c (atom_limit m) r p.atoms) n (follows-as (claim-is k i) refl);
        condition = λ e. condition-as (claim-is k i) refl (n ∙ e);
      }

  -- the formula φ is written, and the item with it
  pub formula-put :
      {K : Kind} {z : Formula ℕ → Item} → Formulaic K z → (e : kind_numbered k ≡ K) → {v : List ℕ} {m : ℕ} → m ≡ p.atoms + length φ →
      ((F : Program) → Stands t w p F → Holds (counts p.names) v (with_item F (p.line + 1) (z φ)) m) →
      ((F : Program) → Stands t w p F → atoms_from v p.atoms (m - p.atoms) ≡ φ) → Kept names_at work_bytes w v → length v ≡ length w →
      ItemPut t w p (line_after t r k) v m
  unfolding formula_after kind_number statement_number
  formula-put {K} {z} y e {v} {m} count built formula names size =
      let i = y.item (declarations_in t w c) (variables_in t w c) (more (drop r t)) (tail-as y e) in
      record {
        grown = omega (arith, count);
        count = omega (arith, count, formula-few t w c (atom_limit (kind_number K)) r (form-as y e), atoms-most x g K e y.atoms);
        condition = λ l. omega (arith, count, some-atoms φ (condition-as y e (ap kind_number (sym e ∙ l))));
        built = λ F s. placed K e F (sym i) (built F s);
        formula = λ f F s.
            (λ j. framed_from v (kind_number (e j)) p.atoms (m - p.atoms))
            ∙ (y.framed φ (condition-as y e) (sym (ap is_framed e) ∙ f) v p.atoms (m - p.atoms) (formula F s)
            ∙ sym (ap framed_formula (item-as x g K e ∙ i)));
        names = names;
        size = size;
      }

  pub claim-put : is_claim k ≡ true → {v : List ℕ} {m : ℕ} → ClaimPut t w c k r p.rows p.atoms (p.line + 1) v m → ItemPut t w p (line_after t r k) v m
  claim-put i y =
      formula-put (claim-is k i) refl y.count
      (λ F s. y.built (counts p.names) F s.rows s.holds) (λ F s. y.formula (counts p.names) F s.holds) y.names y.size

  pub header-put :
      {K : Kind} {z : Formula ℕ → Item} → Formulaic K z → kind_numbered k ≡ K → (n : ℕ) → suc n ≡ after p.above.methods → {v : List ℕ} {m : ℕ} →
      HeaderPut z t w c r n p.atoms v m → ItemPut t w p (line_after t r k) v m
  header-put {K} {z} f e n l y =
      formula-put f e y.count
      (λ F s. y.built (counts p.names) F (p.line + 1) (s.methods ∙ sym l) s.holds) (λ F s. y.formula (counts p.names) F s.holds)
      y.names y.size

  -- AS IT IS TRIED
  pub side-tried :
      (a : Statement) (e : kind_numbered k ≡ statement a) → has_atoms (statement a) ≡ true → is_framed (statement a) ≡ false → (v : List ℕ) (y : Result ℕ Fault) →
      SideTried a t w c r p.rows p.atoms (p.line + 1) v y → ItemTried t w p (line_after t r k) v y
  unfolding SideTried ItemTried
  side-tried a e h n v (Ok m) y = (judged-as x g (statement a) e ∙ y.0 (S x), side-put a e h n y.1)
  side-tried a e h n v (Err f) y = (judged-as x g (statement a) e ∙ y.0 (S x), y.1)

  pub plain-tried :
      IsStatementNumber k → (k ≡ 17 → ⊥) → (k ≡ 21 → ⊥) → (v : List ℕ) (b : Verdict) (z : Result ℕ Fault) → z ≡ done_if b p.atoms →
      PlainTried t w c k r p.rows (p.line + 1) v b → ItemTried t w p (line_after t r k) v z
  unfolding PlainTried ItemTried done_if
  plain-tried h n m v (Ok u) z i y =
      subst (ItemTried t w p (line_after t r k) v) (sym i) (judged-as x g (kind_numbered k) refl ∙ y.0 (S x), plain-put h n m y.1)
  plain-tried h n m v (Err f) z i y =
      subst (ItemTried t w p (line_after t r k) v) (sym i) (judged-as x g (kind_numbered k) refl ∙ y.0 (S x), ap length y.1)

  pub claim-tried :
      is_claim k ≡ true → (v : List ℕ) (y : Result ℕ Fault) → ClaimTried t w c k r p.rows p.atoms (p.line + 1) v y → ItemTried t w p (line_after t r k) v y
  unfolding ClaimTried ItemTried
  claim-tried i v (Ok m) y = (formula-here x g (kind_numbered k) refl (claim-is k i).operands ∙ y.0, claim-put i y.1)
  claim-tried i v (Err f) y = (formula-here x g (kind_numbered k) refl (claim-is k i).operands ∙ y.0, y.1)

  pub header-tried :
      {K : Kind} {z : Formula ℕ → Item} → Formulaic K z → kind_numbered k ≡ K → (n : ℕ) → suc n ≡ after p.above.methods → (v : List ℕ) (y : Result ℕ Fault) →
      HeaderTried z t w c r n p.atoms v y → ItemTried t w p (line_after t r k) v y
  unfolding HeaderTried ItemTried
  header-tried {K} f e n l v (Ok m) y = (formula-here x g K e f.operands ∙ y.0, header-put f e n l y.1)
  header-tried {K} f e n l v (Err b) y = (formula-here x g K e f.operands ∙ y.0, y.1)

-- BY ITS CASES
module _ {t w : List ℕ} {p : Pass} {l : Line} {v : List ℕ} {y : Result ℕ Fault} (x : ItemTried t w p l v y) where
  pub item-done : (m : ℕ) → y ≡ Ok m → (judged_here t w p l ≡ Ok tt) × ItemPut t w p l v m
  unfolding ItemTried
  item-done m e = subst (ItemTried t w p l v) e x

pub item-bad :
    (t w : List ℕ) (p : Pass) (l : Line) (v : List ℕ) (y : Result ℕ Fault) (f : Fault) → ItemTried t w p l v y → y ≡ Err f → BadLine t w p l v f
unfolding ItemTried
item-bad t w p l v y f x e = subst (ItemTried t w p l v) e x
