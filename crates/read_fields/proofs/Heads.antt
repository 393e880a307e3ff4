-- Laws of atoms at a cursor: the word that bytes spell, and the operands after it.
use mathlib.Core.Path.{◌≡◌, refl, sym, ap, subst, ◌∙◌}
use mathlib.Core.Bool.{Bool, true, false, not, cond, ◌&&◌, ◌||◌, and-true}
use mathlib.Core.List.{List, [], ◌∷◌}
use mathlib.Core.Logic.{⊎_elim}
use Prim.Native.Nat.{ℕ, zero, suc, ◌+◌, ◌-◌, ◌≤◌, ◌<◌}
use native.Mathlib.Omega.{arith}
use lib.Dec.{eqb, leb}
use native.Mathlib.Decide.{dec_lt}
use lib.ListN.{length, get_or, drop, take, length-drop, get_or-eq_default}
use lib.Seq.{get_or-drop, get_or-take, length-take-le}
use borrow.Author.Tests.{ne_eqb, leb-true, le-leb, not-true}
use Rattle.rules.specs.Base as Base
use Rattle.rules.specs.Base.{Name, bytes, all, is, eq_name, between}
use Rattle.rules.specs.Text as Text
use Rattle.rules.specs.Text.{up_to, is_name, is_expr, is_rel, is_permit, is_atom, is_formula, is_condition}
use Rattle.rules.specs.Grammar.{Operand, variable, member, expression, read, field, is_operand}
use Rattle.rules.specs.Scope.{atom_operands}
use Rattle.rules.proofs.Lists.{decide_eq}
use Rattle.read_bytes.specs.Marks.{wide_bytes}
use Rattle.read_bytes.specs.Sets.{in_set, FirstInSet}
use Rattle.read_bytes.specs.declared.Set.TheVariants.{LineEnd, FieldEnd}
use Rattle.read_bytes.proofs.Search.{true-false, both_true, and-false, or-false, all-at, up_to-within, up_to-is, same-is, same_refl}
use Rattle.read_fields.specs.Cuts.{part, more}
use Rattle.read_grammar.specs.Rows as Rows
use Rattle.read_grammar.specs.Rows.{operands_number}
use Rattle.read_words.specs.Words.{packed}
use Rattle.read_words.proofs.Words.{spelled}
use Rattle.read_atoms.specs.declared.Row.{Row}
use Rattle.read_atoms.specs.Atoms as Atoms
use Rattle.read_atoms.specs.Atoms.{atom_word, begins_atom, operands_of, atom_row, begun_by}
use Rattle.read_atoms.proofs.Atoms.{of-atom-word, atom-begins, some_bytes, word-told, word-solid, word-short, kind-bounds}
use Rattle.read_fields.specs.Spans.{Span, FieldFits, operands_then, Spells, HeadIs, AtomHead, AtomEnd, OperandsRead, condition_first}
use Rattle.read_fields.specs.declared.Head.{Head}
use Rattle.std.proofs.Common.{Option, Some, None}
use Rattle.read_fields.proofs.Clean.{in_line}
use Rattle.read_fields.proofs.Cuts.{byte-in, fields-from, no_more, some_more}
use Rattle.read_fields.proofs.Formulas.{formula-full}
use Rattle.read_fields.proofs.Spans.{span-on, more-fits, fits-span}

-- WORDS

-- of bytes that end neither a line nor a field
abbrev within : ℕ → Bool
within b = not (in_set LineEnd b || in_set FieldEnd b)

word-within : (s : Name) → begins_atom s ≡ true → all within s ≡ true
unfolding Text.opened Base.opened
word-within = of-atom-word (λ s. all within s ≡ true) refl refl refl refl refl

within-clean : (s : Name) → all within s ≡ true → all in_line s ≡ true
unfolding all
within-clean [] e = refl
within-clean (b ∷ s) e =
    let q = both_true (within b) (all within s) e in
    rw (or-false (in_set LineEnd b) (in_set FieldEnd b) (not-true _ q.0)).0 (within-clean s q.1)

-- A WORD SPELLED BY BYTES

-- After the tab at r, bytes spell s, and a tab follows.
record Spelled (t : List ℕ) (r : ℕ) (s : Name) : Type 0 where
  letters : (i : ℕ) → i < length s → get_or t (r + 1 + i) 0 ≡ get_or s i 0
  after : get_or t (r + 1 + length s) 0 ≡ 9

take_same : (s l : List ℕ) → length s ≤ length l → ((i : ℕ) → i < length s → get_or l i 0 ≡ get_or s i 0) → take (length s) l ≡ s
take_same [] [] h f = refl
take_same [] (c ∷ l) h f = refl
take_same (b ∷ s) [] h f = absurd (omega arith)
take_same (b ∷ s) (c ∷ l) h f =
    let x : c ≡ b = f 0 (omega arith) in
    let y = take_same s l (omega arith) (λ i k. f (suc i) (omega arith)) in
    rw (x, y)

pub bytes-short : (k : ℕ) (q : Row) → q ≡ atom_row k → q.bytes ≤ wide_bytes
unfolding atom_row
bytes-short k q e = rw e (word-short k)

-- bytes spell a word where they pack as it does
pub packs :
    (t : List ℕ) (a m k n : ℕ) (s : Name) → ((i : ℕ) → get_or t i 0 < 256) → a + m ≤ length t → k ≡ packed 0 (part a (a + m) t) →
    all (between 1 255) s ≡ true → n ≡ packed 0 s → m ≡ length s → eqb k n ≡ (leb (a + m) (length t) && eq_name s (part a (a + m) t))
packs t a m k n s b h e f i l =
    let z : a + m - a ≡ m = omega arith in
    let w : length (part a (a + m) t) ≡ length s = length-take-le (a + m - a) (drop a t) (omega (arith, length-drop a t)) ∙ (z ∙ l) in
    rw (e, i, le-leb _ _ h) (spelled (part a (a + m) t) s w bounded f)
  where
    bounded : (i : ℕ) → get_or (part a (a + m) t) i 0 < 256
    bounded i =
        elim (dec_lt i (a + m - a)) [
          | yes l ↦ rw (get_or-take (a + m - a) (drop a t) i 0 l, get_or-drop a t i 0) (b (a + i))
          | no l ↦ omega (arith, get_or-eq_default (part a (a + m) t) 0 {n = i} (omega (arith, length-take-le (a + m - a) (drop a t) (omega (arith, length-drop a t)))))
        ]

module _ (t : List ℕ) (r : ℕ) (g : get_or t r 0 ≡ 9) where
  -- the field is the word
  module _ (s : Name) (w : begins_atom s ≡ true) (x : Spelled t r s) where
    from : (i : ℕ) → get_or (drop (r + 1) t) i 0 ≡ get_or t (r + 1 + i) 0
    from i = get_or-drop (r + 1) t i 0

    found : FirstInSet t (r + 1) FieldEnd (r + 1 + length s)
    found =
        let m = length-drop (r + 1) t in
        let h = byte-in t (r + 1 + length s) 9 (omega arith) x.after in
        record {
          low = omega arith;
          high = omega arith;
          is = ap (λ n. r + 1 + n) (sym (up_to-is (in_set FieldEnd) (drop (r + 1) t) (length s) (omega arith)
              (λ k j. rw (from k, x.letters k j) (or-false (in_set LineEnd (get_or s k 0)) (in_set FieldEnd (get_or s k 0)) (not-true _ (all-at within s k (word-within s w) j))).1)
              (λ j. rw (from (length s), x.after))));
        }

    cut : part (r + 1) (r + 1 + length s) t ≡ s
    cut =
        let m = length-drop (r + 1) t in
        let h = byte-in t (r + 1 + length s) 9 (omega arith) x.after in
        let z : r + 1 + length s - (r + 1) ≡ length s = omega arith in
        rw z (take_same s (drop (r + 1) t) (omega arith) (λ i k. from i ∙ x.letters i k))

    fits : FieldFits (all within) t r (r + 1 + length s)
    fits = record { tab = g; end = found; fits = rw cut (word-within s w) }

    word_more : more (drop r t) ≡ s ∷ more (drop (r + 1 + length s) t)
    word_more = more-fits fits ∙ rw cut

    word-span : Span t r (r + 1 + length s)
    word-span = fits-span fits within-clean

-- OPERANDS OF AN ATOM
both-and : (a b c : Bool) → ((a && b) && c) ≡ (a && (b && c))
both-and true b c = refl
both-and false b c = refl

module _ (s : Name) where
  permit-then : is_permit s ≡ true → (vs : List Name) (n : ℕ) → is_formula (suc n) (s ∷ vs) ≡ operands_then (atom_operands s) (is_formula n) vs
  unfolding is_formula is_atom operands_then is_operand atom_operands
  permit-then i [] n = rw i
  permit-then i (a ∷ []) n = rw i (sym (and-false (is_name a)))
  permit-then i (a ∷ b ∷ vs) n = rw i (both-and (is_name a) (is_name b) (is_formula n vs))

  rel-then :
      is_permit s ≡ false → is_rel s ≡ true → (vs : List Name) (n : ℕ) → is_formula (suc n) (s ∷ vs) ≡ operands_then (atom_operands s) (is_formula n) vs
  unfolding is_formula is_atom operands_then is_operand atom_operands
  rel-then i j [] n = rw i
  rel-then i j (a ∷ []) n = rw i (sym (and-false (is_expr a)))
  rel-then i j (a ∷ b ∷ vs) n = rw (i, j) (both-and (is_expr a) (is_expr b) (is_formula n vs))

  word-then : begins_atom s ≡ true → (vs : List Name) (n : ℕ) → is_formula (suc n) (s ∷ vs) ≡ operands_then (atom_operands s) (is_formula n) vs
  unfolding begins_atom
  word-then e = go (is_permit s) refl e
    where
      go :
          (q : Bool) → is_permit s ≡ q → (q || is_rel s) ≡ true → (vs : List Name) (n : ℕ) →
          is_formula (suc n) (s ∷ vs) ≡ operands_then (atom_operands s) (is_formula n) vs
      go true i h = permit-then i
      go false i h = rel-then i h

some-operands : (os : List Operand) → (operands_number os ≡ 0 → ⊥) → (k : List Name → Bool) → operands_then os k [] ≡ false
unfolding operands_number operands_then
some-operands [] n k = absurd (n refl)
some-operands (o ∷ os) n k = refl

operands-some : (s : Name) → operands_number (atom_operands s) ≡ 0 → ⊥
unfolding atom_operands Rows.opened
operands-some s e = go (is_permit s) e
  where
    go : (q : Bool) → operands_number (cond q (variable read ∷ member field ∷ []) (expression ∷ expression ∷ [])) ≡ 0 → ⊥
    go true i = omega arith
    go false i = omega arith

-- WHAT A FORMULA BEGINS WITH
formula-word : (n : ℕ) (w : Name) (vs : List Name) → is_formula (suc n) (w ∷ vs) ≡ true → (begins_atom w ≡ true) × (vs ≡ [] → ⊥)
unfolding is_formula
formula-word n w [] e = true-false (sym e)
formula-word n w (a ∷ []) e = true-false (sym e)
formula-word n w (a ∷ b ∷ vs) e =
    (atom-begins w a b (both_true (is_atom w a b) (is_formula n vs) e).0, λ z. absurd (let y : ◌≡◌ {A = ℕ} 0 1 = cc in omega arith))

module _ (t : List ℕ) (r : ℕ) (g : get_or t r 0 ≡ 9) where
  field_end : FirstInSet t (r + 1) FieldEnd (r + 1 + up_to (in_set FieldEnd) (drop (r + 1) t))
  field_end =
      let h = byte-in t r 9 (omega arith) g in
      record { low = omega arith; high = omega (arith, up_to-within (in_set FieldEnd) (drop (r + 1) t), length-drop (r + 1) t); is = refl }

  -- the word of its first atom is spelled
  heads : (n : ℕ) → is_formula (suc n) (more (drop r t)) ≡ true → (s : Name) × (begins_atom s ≡ true) × Spelled t r s
  heads n e = go (r + 1 + up_to (in_set FieldEnd) (drop (r + 1) t)) field_end
    where
      go : (z : ℕ) → FirstInSet t (r + 1) FieldEnd z → (s : Name) × (begins_atom s ≡ true) × Spelled t r s
      go z f =
          let w : Name = part (r + 1) z t in
          let c : more (drop r t) ≡ w ∷ more (drop z t) = some_more t r g ∙ fields-from t (r + 1) z f in
          let q = formula-word n w (more (drop z t)) (sym (ap (is_formula (suc n)) c) ∙ e) in
          let k : length w ≡ z - (r + 1) = length-take-le (z - (r + 1)) (drop (r + 1) t) (omega (arith, length-drop (r + 1) t, f.high)) in
          let y : r + 1 + length w ≡ z = omega (arith, k, f.low) in
          let tab : get_or t z 0 ≡ 9 = ⊎_elim (λ i. i) (λ i. absurd (q.1 (no_more t z i))) (decide_eq (get_or t z 0) 9) in (
            w,
            q.0,
            record {
              letters = λ i h. sym (get_or-take (z - (r + 1)) (drop (r + 1) t) i 0 (omega (arith, k)) ∙ get_or-drop (r + 1) t i 0);
              after = ap (λ j. get_or t j 0) y ∙ tab;
            },
          )

  no-formula : ((s : Name) → begins_atom s ≡ true → Spelled t r s → ⊥) → (n : ℕ) → is_formula (suc n) (more (drop r t)) ≡ false
  no-formula f n = go (is_formula (suc n) (more (drop r t))) refl
    where
      go : (q : Bool) → is_formula (suc n) (more (drop r t)) ≡ q → q ≡ false
      go true e = let (s, w, x) = heads n e in absurd (f s w x)
      go false e = refl

  first_byte : (s : Name) → begins_atom s ≡ true → Spelled t r s → get_or t (r + 1) 0 ≡ get_or s 0 0
  first_byte s w x = let z : r + 1 + 0 ≡ r + 1 = omega arith in ap (λ j. get_or t j 0) (sym z) ∙ x.letters 0 (some_bytes s w)

  -- the first byte leaves one word
  abbrev kind : ℕ
  kind = begun_by (get_or t (r + 1) 0)

  abbrev begun : Name
  begun = atom_word kind

  only : (s : Name) → begins_atom s ≡ true → Spelled t r s → s ≡ begun
  only s w x = sym (ap (λ b. atom_word (begun_by b)) (first_byte s w x) ∙ word-told s w)

  unspelled : (begins_atom begun ≡ true → Spelled t r begun → ⊥) → (n : ℕ) → is_formula (suc n) (more (drop r t)) ≡ false
  unspelled f = no-formula (λ s w x. let e = only s w x in f (subst (λ s. begins_atom s ≡ true) e w) (subst (Spelled t r) e x))

  -- is it spelled there?
  abbrev stands : Bool
  stands = leb (r + 1 + length begun) (length t) && eq_name begun (part (r + 1) (r + 1 + length begun) t)

  spelled-stands : begins_atom begun ≡ true → Spelled t r begun → stands ≡ true
  spelled-stands w x =
      let l : r + 1 + length begun ≤ length t = omega (arith, byte-in t (r + 1 + length begun) 9 (omega arith) x.after) in
      rw (le-leb _ _ l, cut t r g begun w x) (same_refl begun)

  stands-spelled : stands ≡ true → get_or t (r + 1 + length begun) 0 ≡ 9 → Spelled t r begun
  stands-spelled e i =
      let m : ℕ = r + 1 + length begun - (r + 1) in
      let f : begun ≡ part (r + 1) (r + 1 + length begun) t = same-is begun _ (both_true (leb (r + 1 + length begun) (length t)) _ e).1 in
      record {
        letters = λ j l. sym (ap (λ w. get_or w j 0) f ∙ (get_or-take m (drop (r + 1) t) j 0 (omega arith) ∙ get_or-drop (r + 1) t j 0));
        after = i;
      }

  pub head-empty : kind ≡ 0 → AtomHead t r None
  head-empty z = unspelled (λ w x. let b = kind-bounds kind w in absurd (omega arith))

  -- by the row of that word
  module _ (q : Row) (e : q ≡ atom_row kind) where
    number : (b : Bool) → begins_atom begun ≡ b → q.operands ≡ operands_number (cond b (atom_operands begun) [])
    unfolding atom_row operands_of operands_number
    number b w = ap (λ q. q.operands) e ∙ rw w

    module _ (s : Bool) (f : Spells t (r + 1) q.word q.bytes s) where
      by_row : s ≡ stands
      unfolding atom_row
      by_row = f begun (word-solid kind) (ap (λ q. q.word) e) (ap (λ q. q.bytes) e) ∙ rw e

      pub head-none : s ≡ false → AtomHead t r None
      head-none i = unspelled (λ w x. true-false (sym (spelled-stands w x) ∙ (sym by_row ∙ i)))

      pub head-some : s ≡ true → (h : Head) → (h.operands ≡ 0 → ⊥) → h.operands ≡ q.operands → h.end ≡ r + 1 + q.bytes → AtomHead t r (Some h)
      unfolding atom_row operands_number
      head-some i h k m z = (k, go (begins_atom begun) refl)
        where
          here : stands ≡ true
          here = sym by_row ∙ i

          end : h.end ≡ r + 1 + length begun
          end = z ∙ rw e

          go : (b : Bool) → begins_atom begun ≡ b → (os : List Operand) × HeadIs t r h os
          go false w = absurd (k (m ∙ number false w))
          go true w = (
            atom_operands begun,
            record {
              number = m ∙ number true w;
              high = omega (arith, end, leb-true (r + 1 + length begun) (length t) (both_true (leb (r + 1 + length begun) (length t)) _ here).0);
              later = omega (arith, end);
              span = λ k. subst (Span t r) (sym end) (word-span t r g begun w (at-tab k));
              is = λ n. ⊎_elim
                  (λ k. ap (is_formula (suc n)) (word_more t r g begun w (at-tab k)) ∙ (word-then begun w _ n ∙ rw end))
                  (λ k. unspelled (λ w x. k (rw end x.after)) n ∙ sym (ap (operands_then (atom_operands begun) (is_formula n)) (no_more t h.end k) ∙ some-operands (atom_operands begun) (operands-some begun) (is_formula n)))
                  (decide_eq (get_or t h.end 0) 9);
            },
          )
            where
              at-tab : get_or t h.end 0 ≡ 9 → Spelled t r begun
              at-tab k = stands-spelled here (rw (← end) k)

-- AN ATOM
pub atom-by :
    {t : List ℕ} {r : ℕ} {h : Head} {os : List Operand} → HeadIs t r h os → (h.operands ≡ 0 → ⊥) → (f : Option ℕ) →
    OperandsRead os t h.end f → AtomEnd t r f
atom-by {t} {r} {h} {os} x n (Some e) f = (span-on (x.span tab) f.0, λ n. x.is n ∙ f.1 (is_formula n))
  where
    tab : get_or t h.end 0 ≡ 9
    tab =
        ⊎_elim (λ i. i)
        (λ i. true-false (sym (f.1 (λ vs. true)) ∙ (ap (operands_then os (λ vs. true)) (no_more t h.end i) ∙ some-operands os (λ z. n (x.number ∙ z)) _)))
        (decide_eq (get_or t h.end 0) 9)
atom-by x n None f = λ n. x.is n ∙ f (is_formula n)

-- CONDITIONS
pub condition-then : (n : ℕ) (ws : List Name) → (is_condition (take 3 ws) && is_formula n (drop 3 ws)) ≡ condition_first (suc n) ws
unfolding condition_first is_condition is_formula is_rel is Base.eq_name bytes
condition-then n [] = refl
condition-then n (w ∷ []) = sym (and-false (is_rel w))
condition-then n (w ∷ a ∷ []) = sym (and-false (is_rel w))
condition-then n (w ∷ a ∷ b ∷ ws) = rw (and-true (is_atom w a b)) (both-and (is_rel w) (is_atom w a b) (is_formula n ws))

pub condition-only : (ws : List Name) → is_condition ws ≡ condition_first 1 ws
unfolding condition_first is_condition is_formula is_rel is Base.eq_name bytes
condition-only [] = refl
condition-only (w ∷ []) = sym (and-false (is_rel w))
condition-only (w ∷ a ∷ []) = sym (and-false (is_rel w))
condition-only (w ∷ a ∷ b ∷ []) = refl
condition-only (w ∷ a ∷ b ∷ d ∷ ws) =
    rw (ne_eqb (length (w ∷ a ∷ b ∷ d ∷ ws)) 3 (λ e. omega arith), and-false (is_atom w a b)) (sym (and-false (is_rel w)))

pub no-condition : (n : ℕ) (ws : List Name) → ws ≡ [] → condition_first n ws ≡ false
unfolding condition_first is_rel is Base.eq_name bytes
no-condition n ws e = rw e

module _ (t : List ℕ) (r : ℕ) (g : get_or t r 0 ≡ 9) where
  -- the row of the word that the first byte leaves decides
  pub condition-case :
      (q : Row) → q ≡ atom_row (kind t r g) → (c : Bool) → q.condition ≡ c → (n : ℕ) →
      condition_first n (more (drop r t)) ≡ (c && is_formula n (more (drop r t)))
  unfolding condition_first atom_row
  condition-case q row c h n = go n (is_formula n (more (drop r t))) refl
    where
      by : {w : Name} {ws : List Name} (f : Bool) → more (drop r t) ≡ w ∷ ws → (is_rel (get_or (more (drop r t)) 0 []) && f) ≡ (is_rel w && f)
      by f c = ap (λ vs. is_rel (get_or vs 0 []) && f) c

      go : (n : ℕ) (f : Bool) → is_formula n (more (drop r t)) ≡ f → (is_rel (get_or (more (drop r t)) 0 []) && is_formula n (more (drop r t))) ≡ (c && f)
      go zero true e = true-false (sym e ∙ formula-full t r g)
      go (suc n) true e =
          let (s, w, x) = heads t r g n e in
          let i : is_rel s ≡ c = ap is_rel (only t r g s w x) ∙ (sym (ap (λ (q : Row). q.condition) row) ∙ h) in
          by _ (word_more t r g s w x) ∙ rw (e, i)
      go n false e = rw (e, and-false c) (and-false (is_rel (get_or (more (drop r t)) 0 [])))

  pub condition-empty : kind t r g ≡ 0 → (n : ℕ) → condition_first n (more (drop r t)) ≡ false
  unfolding Atoms.opened Base.opened Text.opened
  condition-empty e n = condition-case (atom_row 0) (ap atom_row (sym e)) false refl n
