-- A line that is judged: its kind, its tests, and what resolving it gives.
use Rattle.std.proofs.Common.{Ok, Err}
use mathlib.Core.Path.{◌≡◌, refl, sym, ap, ap₂, subst, ◌∙◌}
use mathlib.Core.Bool.{Bool, true, false, not, cond, ◌&&◌}
use mathlib.Core.List.{List, [], ◌∷◌, ◌++◌, append-nil}
use Prim.Native.Nat.{ℕ}
use native.Mathlib.Omega.{arith}
use Rattle.rules.specs.Base as Base
use Rattle.rules.specs.Base.{Try, ok, no, check, ◌>>◌}
use Rattle.rules.specs.Answers as Answers
use Rattle.rules.specs.Grammar.{Kind, Line, IsKindNumber, is_kind, Requires, form, is_formed}
use Rattle.rules.proofs.LineKinds.{kind-bounds}
use Rattle.rules.specs.Scope.{Declarations, Variable, Scope, visible}
use Rattle.rules.specs.Items.{Item, item_of, resolve_line}
use Rattle.read_scan.specs.declared.Word.{Word}
use Rattle.read_grammar.specs.Rows.{kind_numbered}
use Rattle.read_scan.specs.Table.{WordAt}
use Rattle.read_grammar.proofs.Rows.{kind-of-number}
use Rattle.read_scopes.specs.declared.Names.{Names}
use Rattle.read_scopes.specs.Meanings.{declarations_in, variables_in, scope_in, block_in, result_in, own_variables}
use Rattle.read_types.specs.declared.Fault.{Fault}
use Rattle.read_types.specs.Verdicts.{Verdict, test, judged}
use Rattle.read_declarations.specs.Texts.{line_at, FormedAt}
use Rattle.read_declarations.specs.Declares.{line_with}
use Rattle.read_declarations.proofs.Adds.{word-kind}
use Rattle.resolve_pass.specs.declared.Pass.{Pass}
use Rattle.resolve_pass.specs.Passes.{seen_by, line_judged, judged_here, PassFits, item, line_after}
use Rattle.reader.specs.declared.Refusal.{Refusal}
use Rattle.reader.specs.Readings.{refusal_of, number_of, Begins}

-- THE LINE BY ITS WORD
module _ {t : List ℕ} {a : ℕ} {r : Word} (x : WordAt t a r) (f : FormedAt t a) where
  pub word-bounds : IsKindNumber r.kind
  word-bounds = let b = kind-bounds (line_at t a).kind in (omega (arith, b.0, word-kind f x), omega (arith, b.1, word-kind f x))

  kind-is : kind_numbered r.kind ≡ (line_at t a).kind
  kind-is = ap kind_numbered (word-kind f x) ∙ kind-of-number (line_at t a).kind

  pub word_line : line_after t r.end r.kind ≡ line_at t a
  unfolding line_at
  word_line = ap₂ line_with kind-is x.fields

  pub word-begins : {w : List ℕ} {p : Pass} → PassFits t w p → Begins t w p r
  word-begins y =
      record {
        ready = y;
        high = x.high;
        kind = word-bounds;
        formed = subst (λ (l : Line). is_formed (form l.kind).operands (form l.kind).tail l.fields ≡ true) (sym word_line) f.formed;
      }

-- THE VARIABLES THAT IT MAY NAME
may-name : (vs rs : List Variable) (m q : Bool) → vs ++ cond (m && not q) rs [] ≡ cond q vs (vs ++ cond m rs [])
may-name vs rs true true = append-nil vs
may-name vs rs true false = refl
may-name vs rs false true = append-nil vs
may-name vs rs false false = refl

-- `result` is among them in a method, but for `requires`
visible-is :
    (t w : List ℕ) (c : Names) (k : Kind) → c.result ≡ (c.method && not (is_kind Requires k)) → variables_in t w c ≡ visible (block_in t w c) k
unfolding variables_in visible block_in
visible-is t w c k e =
    ap (λ (b : Bool). (block_in t w c).variables ++ cond b (result_in t w ∷ []) []) e
    ∙ may-name (block_in t w c).variables (result_in t w ∷ []) c.method (is_kind Requires k)

-- THE TESTS
unless_bad : Verdict → Item → Try Answers.Refusal Item
unless_bad (Ok u) i = ok i
unless_bad (Err f) i = no (number_of f)

three-checks :
    (a b d : Bool) (i : Item) →
    (check a Answers.undeclared >> (check b Answers.wrong_type >> (check d Answers.wrong_target >> ok i))) ≡ unless_bad (judged a b d) i
unfolding unless_bad judged test number_of Base.opened
three-checks true true true i = refl
three-checks true true false i = refl
three-checks true false d i = refl
three-checks false b d i = refl

line-resolved :
    (Γ : Declarations) (s : Scope) (l : Line) →
    resolve_line Γ s l
    ≡ unless_bad (line_judged Γ (visible s.block l.kind) s l) (item_of Γ (visible s.block l.kind) l.kind l)
unfolding resolve_line line_judged
line-resolved Γ s l = three-checks _ _ _ _

-- THE LINE OF p
module _ (t w : List ℕ) (p : Pass) (l : Line) where
  d : Names
  d = seen_by l.kind p.names

  seen-result : d.result ≡ (d.method && not (is_kind Requires l.kind))
  unfolding d seen_by
  seen-result = refl

  seen-variables : variables_in t w d ≡ visible (scope_in t w p.names p.above).block l.kind
  unfolding d scope_in block_in own_variables seen_by
  seen-variables = visible-is t w d l.kind seen-result

  resolved : resolve_line (declarations_in t w p.names) (scope_in t w p.names p.above) l ≡ unless_bad (judged_here t w p l) (item t w p l)
  unfolding d judged_here
  resolved =
      let Γ = declarations_in t w p.names in
      let s = scope_in t w p.names p.above in
      subst (λ (vs : List Variable). resolve_line Γ s l ≡ unless_bad (line_judged Γ vs s l) (item_of Γ vs l.kind l)) (sym seen-variables)
      (line-resolved Γ s l)

  pub good-resolved :
      judged_here t w p l ≡ Ok tt → resolve_line (declarations_in t w p.names) (scope_in t w p.names p.above) l ≡ ok (item t w p l)
  unfolding unless_bad
  good-resolved e = resolved ∙ rw e

  pub bad-resolved :
      (f : Fault) (q : Refusal) → judged_here t w p l ≡ Err f → refusal_of q ≡ number_of f →
      resolve_line (declarations_in t w p.names) (scope_in t w p.names p.above) l ≡ no (refusal_of q)
  unfolding unless_bad
  bad-resolved f q e i = resolved ∙ rw (e, i)
