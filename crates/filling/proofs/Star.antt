-- The lines of a text with one star: what stands above it and below it is read alike, whatever requires line stands there.
use mathlib.Core.Path.{◌≡◌, refl, sym, ap, ap₂, ◌∙◌}
use mathlib.Core.Bool.{Bool, true, false, cond}
use mathlib.Core.List.{List, [], ◌∷◌, ◌++◌}
use Prim.Native.Nat.{ℕ, suc, ◌+◌}
use native.Mathlib.Omega.{arith}
use lib.ListN.{length}
use Rattle.rules.specs.Base.{Name, ok}
use Rattle.rules.specs.Answers.{accepted, at_line, then}
use Rattle.rules.specs.Grammar.{Line, Requires}
use Rattle.rules.specs.Grammar as Grammar
use Rattle.rules.specs.Places.{Place, Placed, scan_line, scan_lines}
use Rattle.rules.specs.Scope.{Declarations, Scope, classes_of, classes_above, fields_of, methods_of, declarations, scope_after}
use Rattle.rules.specs.Scope as Scope
use Rattle.rules.specs.Items.{Item, resolve_line, resolve_lines}
use Rattle.rules.specs.Fill.{Access, is_starred, stars_from, scope_from, requires_line, atom_words, with_atoms}
use Rattle.rules.proofs.Lists.{cons_head, cons_tail}
use Rattle.rules.proofs.Tries.{accepted-inj, at_line-accepted, then-accepted}

-- THE LINE WITH THE STAR

-- above and below it, after n lines
pub record Parts (ls : List Name) (n l : ℕ) : Type 0 where
  pub above : List Name
  pub below : List Name
  pub filled : (αs : List Access) → with_atoms αs ls ≡ above ++ (requires_line (atom_words αs) ∷ below)
  pub place : l ≡ suc (n + length above)

cons-nil : {A B : Type 0} {a : A} {l : List A} → a ∷ l ≡ [] → B
cons-nil e = absurd (let z : ◌≡◌ {A = ℕ} 0 1 = cc in omega arith)

no-star : (αs : List Access) (ls : List Name) (n : ℕ) → stars_from n ls ≡ [] → with_atoms αs ls ≡ ls
unfolding stars_from with_atoms
no-star αs [] n e = refl
no-star αs (l ∷ ls) n e = go (is_starred l) e (no-star αs ls (suc n))
  where
    go :
        (b : Bool) → cond b (suc n ∷ stars_from (suc n) ls) (stars_from (suc n) ls) ≡ [] →
        (stars_from (suc n) ls ≡ [] → with_atoms αs ls ≡ ls) →
        cond b (requires_line (atom_words αs)) l ∷ with_atoms αs ls ≡ l ∷ ls
    go true e ih = cons-nil e
    go false e ih = ap (λ r. l ∷ r) (ih e)

pub one-star : (ls : List Name) (n l : ℕ) → stars_from n ls ≡ l ∷ [] → Parts ls n l
unfolding stars_from with_atoms
one-star [] n l e = cons-nil (sym e)
one-star (w ∷ ls) n l e = go (is_starred w) refl e (one-star ls (suc n) l)
  where
    go :
        (b : Bool) → is_starred w ≡ b → cond b (suc n ∷ stars_from (suc n) ls) (stars_from (suc n) ls) ≡ l ∷ [] →
        (stars_from (suc n) ls ≡ l ∷ [] → Parts ls (suc n) l) → Parts (w ∷ ls) n l
    go true h e ih =
        record {
          above = [];
          below = ls;
          filled = λ αs. ap₂ ◌∷◌ (ap (λ b. cond b (requires_line (atom_words αs)) w) h) (no-star αs ls (suc n) (cons_tail e));
          place = sym (cons_head e) ∙ omega arith;
        }
    go false h e ih =
        let P = ih e in
        record {
          above = w ∷ P.above;
          below = P.below;
          filled = λ αs. ap₂ ◌∷◌ (ap (λ b. cond b (requires_line (atom_words αs)) w) h) (P.filled αs);
          place = P.place ∙ omega arith;
        }

-- FIRST PASS

scan-line :
    (w : Name) (ws : List Name) (n : ℕ) (p : Place) (a : Placed) (rest : List Line) → scan_line p w ≡ ok a →
    scan_lines ws (suc n) a.next ≡ accepted rest → scan_lines (w ∷ ws) n p ≡ accepted (a.line ∷ rest)
unfolding scan_lines at_line then
scan-line w ws n p a rest i j = rw (i, j)

pub record Scanned (us : List Name) (x : Name) (bs : List Name) (n : ℕ) (p : Place) (ks : List Line) : Type 0 where
  pub above : List Line
  pub below : List Line
  pub place : Place
  pub star : Placed
  pub as_many : length above ≡ length us
  pub parts : ks ≡ above ++ (star.line ∷ below)
  pub scanned : scan_line place x ≡ ok star
  pub replaced :
      (y : Name) (b : Line) → scan_line place y ≡ ok (record { line = b; next = star.next }) →
      scan_lines (us ++ (y ∷ bs)) n p ≡ accepted (above ++ (b ∷ below))

scan-further :
    (w : Name) (us : List Name) (x : Name) (bs : List Name) (n : ℕ) (p : Place) (a : Placed) (rest ks : List Line) →
    scan_line p w ≡ ok a → a.line ∷ rest ≡ ks → Scanned us x bs (suc n) a.next rest → Scanned (w ∷ us) x bs n p ks
scan-further w us x bs n p a rest ks i e S =
    record {
      above = a.line ∷ S.above;
      below = S.below;
      place = S.place;
      star = S.star;
      as_many = ap suc S.as_many;
      parts = sym e ∙ ap (λ r. a.line ∷ r) S.parts;
      scanned = S.scanned;
      replaced = λ y b h. scan-line w (us ++ (y ∷ bs)) n p a _ i (S.replaced y b h);
    }

pub scan-parts :
    (us : List Name) (x : Name) (bs : List Name) (n : ℕ) (p : Place) (ks : List Line) →
    scan_lines (us ++ (x ∷ bs)) n p ≡ accepted ks → Scanned us x bs n p ks
unfolding scan_lines
scan-parts [] x bs n p ks e =
    let (a, i, e₁) = at_line-accepted (suc n) (scan_line p x) _ ks e in
    let (rest, j, e₂) = then-accepted (scan_lines bs (suc n) a.next) _ ks e₁ in
    record {
      above = [];
      below = rest;
      place = p;
      star = a;
      as_many = refl;
      parts = sym (accepted-inj e₂);
      scanned = i;
      replaced = λ y b h. scan-line y bs n p _ rest h j;
    }
scan-parts (w ∷ us) x bs n p ks e =
    let (a, i, e₁) = at_line-accepted (suc n) (scan_line p w) _ ks e in
    let (rest, j, e₂) = then-accepted (scan_lines (us ++ (x ∷ bs)) (suc n) a.next) _ ks e₁ in
    scan-further w us x bs n p a rest ks i (accepted-inj e₂) (scan-parts us x bs (suc n) a.next rest j)

-- SECOND PASS

resolve-line :
    (Γ : Declarations) (l : Line) (ls : List Line) (n : ℕ) (s t : Scope) (a : Item) (rest : List Item) →
    resolve_line Γ s l ≡ ok a → scope_after s l ≡ t → resolve_lines Γ ls (suc n) t ≡ accepted rest →
    resolve_lines Γ (l ∷ ls) n s ≡ accepted (a ∷ rest)
unfolding resolve_lines at_line then
resolve-line Γ l ls n s t a rest i q j = rw (i, q, j)

pub record Resolved (Γ : Declarations) (above : List Line) (k : Line) (below : List Line) (n : ℕ) (s : Scope) (items : List Item) : Type 0 where
  pub before : List Item
  pub after : List Item
  pub star : Item
  pub as_many : length before ≡ length above
  pub parts : items ≡ before ++ (star ∷ after)
  pub resolved : resolve_line Γ (scope_from s above) k ≡ ok star
  pub replaced :
      (c : Line) (a : Item) → scope_after (scope_from s above) c ≡ scope_after (scope_from s above) k →
      resolve_line Γ (scope_from s above) c ≡ ok a →
      resolve_lines Γ (above ++ (c ∷ below)) n s ≡ accepted (before ++ (a ∷ after))

resolve-further :
    (Γ : Declarations) (l : Line) (above : List Line) (k : Line) (below : List Line) (n : ℕ) (s : Scope) (a : Item) (rest items : List Item) →
    resolve_line Γ s l ≡ ok a → a ∷ rest ≡ items → Resolved Γ above k below (suc n) (scope_after s l) rest →
    Resolved Γ (l ∷ above) k below n s items
unfolding scope_from
resolve-further Γ l above k below n s a rest items i e S =
    record {
      before = a ∷ S.before;
      after = S.after;
      star = S.star;
      as_many = ap suc S.as_many;
      parts = sym e ∙ ap (λ r. a ∷ r) S.parts;
      resolved = S.resolved;
      replaced = λ c b q h. resolve-line Γ l (above ++ (c ∷ below)) n s _ a _ i refl (S.replaced c b q h);
    }

pub resolve-parts :
    (Γ : Declarations) (above : List Line) (k : Line) (below : List Line) (n : ℕ) (s : Scope) (items : List Item) →
    resolve_lines Γ (above ++ (k ∷ below)) n s ≡ accepted items → Resolved Γ above k below n s items
unfolding resolve_lines scope_from
resolve-parts Γ [] k below n s items e =
    let (a, i, e₁) = at_line-accepted (suc n) (resolve_line Γ s k) _ items e in
    let (rest, j, e₂) = then-accepted (resolve_lines Γ below (suc n) (scope_after s k)) _ items e₁ in
    record {
      before = [];
      after = rest;
      star = a;
      as_many = refl;
      parts = sym (accepted-inj e₂);
      resolved = i;
      replaced = λ c b q h. resolve-line Γ c below n s _ b rest h q j;
    }
resolve-parts Γ (l ∷ above) k below n s items e =
    let (a, i, e₁) = at_line-accepted (suc n) (resolve_line Γ s l) _ items e in
    let (rest, j, e₂) = then-accepted (resolve_lines Γ (above ++ (k ∷ below)) (suc n) (scope_after s l)) _ items e₁ in
    resolve-further Γ l above k below n s a rest items i (accepted-inj e₂) (resolve-parts Γ above k below (suc n) (scope_after s l) rest j)

-- DECLARATIONS: a requires line adds none

abbrev requires : List Name → Line
requires ws = record { kind = Requires; fields = ws }

module _ (ws vs : List Name) (below : List Line) where
  same-classes : (above : List Line) → classes_of (above ++ (requires ws ∷ below)) ≡ classes_of (above ++ (requires vs ∷ below))
  unfolding classes_of Grammar.opened
  same-classes [] = refl
  same-classes (l ∷ above) = let e = same-classes above in rw e

  same-fields :
      (above : List Line) (c : ℕ) → fields_of c (above ++ (requires ws ∷ below)) ≡ fields_of c (above ++ (requires vs ∷ below))
  unfolding fields_of classes_above Grammar.opened
  same-fields [] c = refl
  same-fields (l ∷ above) c = let e = same-fields above (classes_above c l) in rw e

  same-methods :
      (above : List Line) (c : ℕ) → methods_of c (above ++ (requires ws ∷ below)) ≡ methods_of c (above ++ (requires vs ∷ below))
  unfolding methods_of classes_above Grammar.opened
  same-methods [] c = refl
  same-methods (l ∷ above) c = let e = same-methods above (classes_above c l) in rw e

  pub same-declarations :
      (above : List Line) → declarations (above ++ (requires ws ∷ below)) ≡ declarations (above ++ (requires vs ∷ below))
  unfolding declarations
  same-declarations above = cc (same-classes above, same-fields above 0, same-methods above 0)

-- nor to a scope
pub same-scope : (s : Scope) (ws vs : List Name) → scope_after s (requires ws) ≡ scope_after s (requires vs)
unfolding Scope.opened Grammar.opened
same-scope s ws vs = refl
