-- Laws of a line by its word and by where its last field ends.
use mathlib.Core.Path.{◌≡◌, sym, ap, subst, ◌∙◌}
use mathlib.Core.List.{List, ◌∷◌}
use mathlib.Core.Logic.{⊎_elim}
use Prim.Native.Nat.{ℕ, ◌≤◌, ◌<◌}
use lib.ListN.{length, get_or, drop}
use Rattle.rules.specs.Text.{fields}
use Rattle.rules.specs.Grammar.{last_kind, IsKindNumber, kind_of}
use Rattle.rules.proofs.Lists.{decide_eq}
use Rattle.read_bytes.specs.Sets.{FirstInSet}
use Rattle.read_words.specs.Words.{kind_or0}
use Rattle.read_bytes.specs.declared.Set.TheVariants.{LineEnd}
use Rattle.read_bytes.proofs.Search.{true-false}
use Rattle.read_scan.specs.declared.Word.{Word}
use Rattle.read_grammar.specs.declared.Place.{Place}
use Rattle.read_scan.specs.declared.Refusal.{Refusal}
use Rattle.read_scan.specs.declared.Refusal.TheVariants.{BadByte, Malformed}
use Rattle.std.proofs.Common.{Some, None, Result, Ok, Err}
use Rattle.read_scan.specs.declared.NextLine.{NextLine}
use Rattle.read_fields.specs.Cuts.{part, more}
use Rattle.read_grammar.specs.Rows.{formed_kind}
use Rattle.read_fields.specs.Spans.{FieldsRead, formed_as}
use Rattle.read_scan.specs.Scans.{WhenTaken, PlacesLineTo, Unformed, RefusesLine, ScansLine}
use Rattle.read_scan.specs.Table.{FirstWord, Noted, NotesLine}
use Rattle.read_fields.proofs.Clean.{kind-clean}
use Rattle.read_fields.proofs.Cuts.{fields-from, clean_line, bad-line, first-clean, first-bad}
use Rattle.read_grammar.proofs.Rows.{most-kind, word-bounds, no_kind, formed, unformed}
use Rattle.read_fields.proofs.Spans.{span-on, field-ends, field-span, line-found, formed-as, formed-none}
use Rattle.read_scan.proofs.Scans.{bad-scan, unformed-scan, formed-scan}
use Rattle.read_scan.proofs.Table.{FormedWord}

-- THE WORD OF A LINE
module _ {t : List ℕ} {a : ℕ} {w : Word} (x : FirstWord t a w) where
  cut : fields (drop a t) ≡ part a w.end t ∷ more (drop w.end t)
  cut = fields-from t a w.end x.end

  pub kind-most : w.kind ≤ last_kind
  kind-most = most-kind (kind_of (part a w.end t)) w.kind x.kind

  pub unformed-line : FieldsRead (formed_as w.kind) t w.end None → Unformed t a
  unformed-line f =
      ⊎_elim
      (no_kind _ _ _ cut w.kind x.kind)
      (λ n. unformed _ _ _ cut w.kind x.kind n (sym (formed-as w.kind _ n) ∙ f))
      (decide_eq w.kind 0)

  module _ {e : ℕ} (f : FieldsRead (formed_as w.kind) t w.end (Some e)) where
    pub has-kind : w.kind ≡ 0 → ⊥
    has-kind z = true-false (sym f.1 ∙ formed-none w.kind _ z)

    pub kind-in : IsKindNumber w.kind
    kind-in = word-bounds _ _ _ cut w.kind x.kind has-kind

    pub formed-first : FormedWord t a w
    formed-first =
        record {
          kind = sym (formed _ _ _ cut w.kind x.kind has-kind (sym (formed-as w.kind _ has-kind) ∙ f.1));
          end = x.end;
        }

    -- its last field ends where the search for the line's end would stop
    pub formed-end : FirstInSet t a LineEnd e
    formed-end =
        line-found
        (span-on (field-span x.end (kind-clean _ (λ z. has-kind (x.kind ∙ z)))) f.0)
        (f.0.ends (field-ends x.end))
        f.2

-- THE ANSWER ON A LINE

-- what holds of e holds of a line that has its LF there
pub when-at : (P : ℕ → Type 0) (e : ℕ) (r : Result NextLine Refusal) → P e → WhenTaken (λ i. i ≡ e) r → WhenTaken P r
when-at P e (Ok n) x z = subst P (sym z) x
when-at P e (Err q) x z = tt

module _ {t : List ℕ} {a e : ℕ} (f : FirstInSet t a LineEnd e) where
  pub refuses-byte : a < length t → (get_or t e 0 ≡ 10 → ⊥) → RefusesLine t a BadByte
  refuses-byte h n p = let b = bad-line t a e f h n in rw (first-bad _ b) (sym (bad-scan p b.line b.bad))

  module _ (g : get_or t e 0 ≡ 10) where
    pub refuses-form : Unformed t a → RefusesLine t a Malformed
    refuses-form u p =
        let l = clean_line t a e f g in
        rw (first-clean t a e l) (sym (unformed-scan p _ l.clean (ap (λ ws. kind_or0 (formed_kind ws)) l.fields ∙ u)))

    pub places-line :
        (k : ℕ) → k ≡ kind_or0 (formed_kind (fields (drop a t))) → (k ≡ 0 → ⊥) → {s : Place} {r : Result NextLine Refusal} → PlacesLineTo s k e r → ScansLine t a s r
    places-line k i n {s} {r} y =
        let l = clean_line t a e f g in
        record {
          is = λ p j. rw (first-clean t a e l) (y.0 p j ∙ sym (formed-scan p _ k l.clean (i ∙ sym (ap (λ ws. kind_or0 (formed_kind ws)) l.fields)) n));
          ends = when-at (λ i. FirstInSet t a LineEnd i × (get_or t i 0 ≡ 10)) e r (f, g) y.1;
        }

pub refuses-line : {t : List ℕ} {a : ℕ} {s : Place} {r : Refusal} → RefusesLine t a r → ScansLine t a s (Err r)
refuses-line x = record { is = λ p e. x p; ends = tt }

-- a line that is taken: its LF, and its word in the table
pub taken-ends :
    {t : List ℕ} {a : ℕ} {s : Place} {r : Result NextLine Refusal} {n : NextLine} → ScansLine t a s r → r ≡ Ok n →
    FirstInSet t a LineEnd n.feed × (get_or t n.feed 0 ≡ 10)
taken-ends {t} {a} x z = subst (WhenTaken (λ i. FirstInSet t a LineEnd i × (get_or t i 0 ≡ 10))) z x.ends

pub taken-noted :
    {t w w' : List ℕ} {a n : ℕ} {r : Result NextLine Refusal} {x : NextLine} → NotesLine t w a n r w' → r ≡ Ok x → Noted t w a x.feed n w'
taken-noted {t} {w} {w'} {a} {n} x z = subst (WhenTaken (λ i. Noted t w a i n w')) z x.noted
