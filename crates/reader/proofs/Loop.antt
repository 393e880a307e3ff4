-- Pass 2, line by line: the items of the lines above, and what resolving the lines that are left gives.
use mathlib.Core.Path.{◌≡◌, refl, sym, ap, ap₂, subst, ◌∙◌}
use mathlib.Core.Bool.{false}
use mathlib.Core.List.{List, [], ◌∷◌, ◌++◌, append-nil, append_assoc}
use Prim.Native.Nat.{ℕ, zero, suc, ◌+◌, ◌≤◌, ◌<◌}
use native.Mathlib.Nat.{zero-add}
use native.Mathlib.Omega.{arith}
use native.Mathlib.Numerals.{add-one}
use lib.ListN.{length, drop}
use Rattle.rules.specs.Limits.{most_bytes, work_bytes}
use Rattle.rules.specs.Base.{Name, ok, no}
use Rattle.rules.specs.Answers.{Refusal, Verdict, accepted, refused, at_line, then}
use Rattle.rules.specs.Text.{lines}
use Rattle.rules.specs.Grammar.{Line}
use Rattle.rules.specs.Places.{Place, first_place, place_after, scan_lines}
use Rattle.rules.specs.Scope.{Declarations, Scope, declarations, first_scope, scope_after, classes_of, methods_of}
use Rattle.rules.specs.Items.{Item, resolve_line, resolve_lines}
use Rattle.rules.specs.Reading.{check_framed}
use Rattle.read_bytes.specs.Sets.{FirstInSet}
use Rattle.read_bytes.specs.declared.Set.TheVariants.{LineEnd}
use Rattle.read_fields.proofs.Cuts.{no_lines}
use Rattle.read_scan.specs.declared.Word.{Word}
use Rattle.read_scan.specs.Table.{WordAt, LineTable, line_end, start_of}
use Rattle.read_scan.proofs.Table.{found-end, next_start, table_kept}
use Rattle.read_scopes.specs.declared.Names.{Names}
use Rattle.tables.specs.Decode.{run}
use Rattle.read_scopes.specs.Meanings.{declarations_in, names_from, block_in, own_variables, class_above, scope_in}
use Rattle.tables.proofs.Runs.{run_length, end-length}
use Rattle.read_declarations.specs.Texts.{lines_of, TextTaken, line_at, FormedAt}
use Rattle.read_declarations.specs.Declares.{Declares}
use Rattle.read_declarations.proofs.Walks.{Walking, walking-first, walking-done, walking-clean, walking-formed, walking-placed, walking-lines, walking_on}
use Rattle.rules.specs.Syntax.{Program}
use Rattle.rules.specs.Reading.{no_program, with_items, with_item}
use Rattle.write_rows.proofs.Kept.{none_written}
use Rattle.resolve_pass.specs.declared.Pass.{Pass}
use Rattle.resolve_pass.specs.Passes.{counts, first_pass, last_class, PassFits, Stands, LineRoom, item, line_after}
use Rattle.resolve_pass.proofs.Places.{At, at_first, at-fits, at_ready, at_last, at_room, at_on}
use Rattle.resolve_pass.proofs.Unframed.{framed_after, framed-first, framed-on, framed-last, unframed-last}
use Rattle.reader.specs.Readings.{refusal_of, framed_verdict, Written, Begins, LineRead, StepIs, resolved_text, AllRead}
use Rattle.reader.specs.declared.Refusal as Reasons
use Rattle.std.proofs.Common.{Option, Some, None, Result, Ok, Err}
use Rattle.reader.proofs.Judged.{word_line, word-begins}

-- LISTS AND VERDICTS
flat-more : (F : Program) (n : ℕ) (xs : List Item) (a : Item) → with_items F n (xs ++ (a ∷ [])) ≡ with_item (with_items F n xs) (suc (n + length xs)) a
unfolding with_items
flat-more F n [] a = let e : n + 0 ≡ n = omega arith in ap (λ (m : ℕ). with_item F (suc m) a) (sym e)
flat-more F n (x ∷ xs) a =
    let e : suc n + length xs ≡ n + suc (length xs) = omega arith in
    flat-more (with_item F (suc n) x) (suc n) xs a ∙ ap (λ (m : ℕ). with_item (with_items (with_item F (suc n) x) (suc n) xs) (suc m) a) e

then-all : {A : Type 0} (v : Verdict A) → v ≡ then v accepted
unfolding then
then-all (accepted a) = refl
then-all (refused r l) = refl

-- one item more before the rest
then-more :
    (v : Verdict (List Item)) (xs : List Item) (a : Item) →
    then (then v (λ rest. accepted (a ∷ rest))) (λ rest. accepted (xs ++ rest)) ≡ then v (λ rest. accepted ((xs ++ (a ∷ [])) ++ rest))
unfolding then
then-more (accepted rest) xs a = ap accepted (sym (append_assoc xs (a ∷ []) rest))
then-more (refused r l) xs a = refl

-- nothing of a list is left
all_above : {A : Type 0} (l : List A) (n : ℕ) → n ≤ length l → drop n l ≡ [] → n ≡ length l
all_above [] zero h e = refl
all_above [] (suc n) h e = absurd (omega (arith, h))
all_above (a ∷ l) zero h e = absurd (let z : ◌≡◌ {A = ℕ} 0 1 = cc in omega arith)
all_above (a ∷ l) (suc n) h e = ap suc (all_above l n (omega (arith, h)) e)

-- before the first line nothing is in scope
first-scope : (t w : List ℕ) (c : Names) → c.method ≡ false → c.locals ≡ 0 → scope_in t w c (first_pass c).above ≡ first_scope
unfolding scope_in names_from run class_above block_in own_variables
first-scope t w c m l = rw (m, l)

-- A STEP BY ITS CASES
module _ (t w : List ℕ) (p : Pass) (l : Line) (w' : List ℕ) (s : Result Pass Reasons.Refusal) (x : StepIs t w p l w' s) where
  pub step-refused :
      (r : Reasons.Refusal) → s ≡ Err r →
      (resolve_line (declarations_in t w p.names) (scope_in t w p.names p.above) l ≡ no (refusal_of r)) × (length w' ≡ length w)
  unfolding StepIs
  step-refused r e = subst (StepIs t w p l w') e x

  pub step-on : (q : Pass) → s ≡ Ok q → LineRead t w p l w' q
  unfolding StepIs
  step-on q e = subst (StepIs t w p l w') e x

-- the table of lines stays
pub table_on : {t w : List ℕ} {p : Pass} {l : Line} {w' : List ℕ} {q : Pass} {n : ℕ} → LineTable t w n → LineRead t w p l w' q → LineTable t w' n
table_on {w' = w'} x y = table_kept {w' = w'} x y.taken.put.lines

-- THE LOOP
pub record Resolving (t : List ℕ) (a : ℕ) (p : Pass) (w : List ℕ) : Type 0 where
  pub place : Place
  pub walk : Walking t a place p.line
  pub stand : At t w p place (lines_of (drop a t))
  pub whole : length w ≡ work_bytes
  pub early : p.line ≤ a
  pub declared : declarations_in t w p.names ≡ declarations (lines_of t)
  pub items : List Item
  pub count : length items ≡ p.line
  pub stands : Stands t w p (with_items no_program 0 items)
  pub framed : (rest : List Item) → check_framed (items ++ rest) 0 ≡ framed_after p.unframed p.line rest
  pub resolved :
      resolved_text t
      ≡ then (resolve_lines (declarations (lines_of t)) (lines_of (drop a t)) p.line (scope_in t w p.names p.above))
      (λ rest. accepted (items ++ rest))

-- number 10 after the last line
framed-end : (u : Option ℕ) (n : ℕ) → framed_after u n [] ≡ framed_verdict u
unfolding framed_verdict
framed-end None n = framed-last n
framed-end (Some u) n = unframed-last u n

first-stands : (t w : List ℕ) (c : Names) → length w ≡ work_bytes → Stands t w (first_pass c) (with_items no_program 0 [])
unfolding with_items last_class scope_in names_from run
first-stands t w c n =
    record { holds = none_written (counts c) w n; rows = refl; classes = refl; methods = refl; main = refl; fields = refl }

pub resolving-first :
    (t w : List ℕ) (c : Names) (p : Pass) → p ≡ first_pass c → TextTaken t → length w ≡ work_bytes → Declares t w w c → Resolving t 0 p w
resolving-first t w c p e k n d =
    subst (λ (p : Pass). Resolving t 0 p w) (sym e)
    (record {
      place = first_place;
      walk = walking-first k;
      stand = at_first t w w c d;
      whole = n;
      early = omega arith;
      declared = d.are;
      items = [];
      count = refl;
      stands = first-stands t w c n;
      framed = λ rest. sym (framed-first rest);
      resolved = then-all _ ∙ ap (λ (s : Scope). then (resolve_lines (declarations (lines_of t)) (lines_of t) 0 s) accepted) (sym (first-scope t w c d.method d.locals));
    })

module _ {t : List ℕ} {a : ℕ} {p : Pass} {w : List ℕ} (x : Resolving t a p w) where
  -- what the lines above leave to be resolved
  abbrev left : List Line → ℕ → Scope → Verdict (List Item)
  left = resolve_lines (declarations (lines_of t))

  abbrev here : Scope
  here = scope_in t w p.names p.above

  pub resolving-ready : length t ≤ most_bytes → PassFits t w p
  resolving-ready h = at_ready x.stand h x.whole

  pub resolving-written : Written t w p
  resolving-written = record { flat = _; stands = x.stands }

  class-count : length (declarations_in t w p.names).classes ≡ p.names.classes
  unfolding declarations_in names_from
  class-count = run_length _ _ _

  method-count : length (declarations_in t w p.names).methods ≡ p.names.methods
  unfolding declarations_in
  method-count = run_length _ _ _

  pub resolving-done : {n : ℕ} → LineTable t w n → length t ≤ a → AllRead t w p
  unfolding framed_verdict resolve_lines then classes_of methods_of
  resolving-done {n} d h =
      let e : lines_of (drop a t) ≡ [] = walking-done t a h in
      let f = (subst (λ (ls : List Line). At t w p x.place ls) e x.stand).follow in
      record {
        items = x.items;
        resolved = x.resolved ∙ (ap (λ (ls : List Line). then (left ls p.line here) (λ rest. accepted (x.items ++ rest))) e ∙ ap accepted (append-nil x.items));
        stands = x.stands;
        classes = all_above _ _ f.classes.low f.classes.are ∙ class-count;
        methods = all_above _ _ f.methods.low f.methods.are ∙ method-count;
        unframed = ap (λ (xs : List Item). check_framed xs 0) (sym (append-nil x.items)) ∙ (x.framed [] ∙ framed-end p.unframed p.line);
        declared = x.declared;
        fits = at-fits x.stand;
        lines = n;
        table = d;
        spare = at_last x.stand p.line _ (subst (λ (ls : List Name). scan_lines ls p.line x.place ≡ accepted (lines_of (drop a t))) (no_lines t a h) x.walk.rest);
      }

  module _ (size : length t ≤ most_bytes) {e : ℕ} (l : a < length t) (f : FirstInSet t a LineEnd e) where
    stand-here : At t w p x.place (line_at t a ∷ lines_of (drop (e + 1) t))
    stand-here = subst (At t w p x.place) (walking-lines x.walk l f) x.stand

    pub resolving-formed : FormedAt t a
    resolving-formed = walking-formed x.walk l f

    pub resolving-room : LineRoom t w p (line_at t a)
    resolving-room =
        let m = walking-placed x.walk l f in
        at_room stand-here m.is_in_place m.room (lines (drop (e + 1) t)) (suc p.line) (walking_on x.walk l f).rest (omega (arith, x.early, l, size))

    -- what is left, by its first line
    resolved-here :
        resolved_text t
        ≡ then (left (line_at t a ∷ lines_of (drop (e + 1) t)) p.line here) (λ rest. accepted (x.items ++ rest))
    resolved-here = x.resolved ∙ ap (λ (ls : List Line). then (left ls p.line here) (λ rest. accepted (x.items ++ rest))) (walking-lines x.walk l f)

    pub resolving-refused :
        (r : Refusal) → resolve_line (declarations_in t w p.names) here (line_at t a) ≡ no r → resolved_text t ≡ refused r (suc p.line)
    unfolding resolve_lines at_line then
    resolving-refused r h =
        let g : resolve_line (declarations (lines_of t)) here (line_at t a) ≡ no r = subst (λ (Γ : Declarations). resolve_line Γ here (line_at t a) ≡ no r) x.declared h in
        resolved-here ∙ rw g

    resolved-line :
        resolve_line (declarations_in t w p.names) here (line_at t a) ≡ ok (item t w p (line_at t a)) →
        resolved_text t
        ≡ then (left (lines_of (drop (e + 1) t)) (suc p.line) (scope_after here (line_at t a)))
        (λ rest. accepted ((x.items ++ (item t w p (line_at t a) ∷ [])) ++ rest))
    unfolding resolve_lines at_line
    resolved-line h =
        let g : resolve_line (declarations (lines_of t)) here (line_at t a) ≡ ok (item t w p (line_at t a)) =
        subst (λ (Γ : Declarations). resolve_line Γ here (line_at t a) ≡ ok (item t w p (line_at t a))) x.declared h in
        resolved-here ∙ rw g (then-more _ x.items (item t w p (line_at t a)))

    pub resolving-on : {w' : List ℕ} {q : Pass} → LineRead t w p (line_at t a) w' q → Resolving t (e + 1) q w'
    resolving-on {w'} {q} y =
        let m = walking-placed x.walk l f in
        let z = y.taken.put in
        let n : q.line ≡ suc p.line = z.counted.line ∙ add-one p.line in
        record {
          place = place_after (line_at t a).kind x.place;
          walk = subst (Walking t (e + 1) (place_after (line_at t a).kind x.place)) (sym n) (walking_on x.walk l f);
          stand = at_on stand-here m.is_in_place m.room z;
          whole = z.size ∙ x.whole;
          early = omega (arith, n, x.early, (walking-clean x.walk l f).low);
          declared = z.declared ∙ x.declared;
          items = x.items ++ (item t w p (line_at t a) ∷ []);
          count = end-length x.items _ ∙ (ap suc x.count ∙ sym n);
          stands = subst (Stands t w' q) (sym (flat-more no_program 0 x.items _ ∙ ap (λ (k : ℕ). with_item (with_items no_program 0 x.items) (suc k) (item t w p (line_at t a))) (zero-add (length x.items) ∙ x.count))) (z.built _ x.stands);
          framed = λ rest.
              ap (λ (xs : List Item). check_framed xs 0) (append_assoc x.items (item t w p (line_at t a) ∷ []) rest)
              ∙ (x.framed (item t w p (line_at t a) ∷ rest)
              ∙ (sym (framed-on p.unframed p.line (item t w p (line_at t a)) rest)
              ∙ ap₂ (λ (u : Option ℕ) (k : ℕ). framed_after u k rest) (sym y.taken.unframed) (sym n)));
          resolved = resolved-line y.resolved
              ∙ ap₂ (λ (k : ℕ) (s : Scope). then (left (lines_of (drop (e + 1) t)) k s) (λ rest. accepted ((x.items ++ (item t w p (line_at t a) ∷ [])) ++ rest))) (sym n) (sym z.scope);
        }

  -- the line here by its word
  module _ (size : length t ≤ most_bytes) (l : a < length t) {r : Word} (y : WordAt t a r) where
    ends : FirstInSet t a LineEnd (line_end t a)
    ends = found-end t a (omega arith)

    same_line : line_after t r.end r.kind ≡ line_at t a
    same_line = word_line y (resolving-formed size l ends)

    pub word-ready : Begins t w p r
    word-ready = word-begins y (resolving-formed size l ends) (resolving-ready size)

    pub word_room : LineRoom t w p (line_after t r.end r.kind)
    word_room = subst (LineRoom t w p) (sym same_line) (resolving-room size l ends)

    pub word-refused :
        (q : Refusal) → resolve_line (declarations_in t w p.names) here (line_after t r.end r.kind) ≡ no q → resolved_text t ≡ refused q (suc p.line)
    word-refused q h = resolving-refused size l ends q (subst (λ (k : Line). resolve_line (declarations_in t w p.names) here k ≡ no q) same_line h)

    word_on : {w' : List ℕ} {q : Pass} → LineRead t w p (line_after t r.end r.kind) w' q → Resolving t (line_end t a + 1) q w'
    word_on {w'} {q} z = resolving-on size l ends (subst (λ (k : Line). LineRead t w p k w' q) same_line z)

-- at the next line of the table
pub resolving-next :
    {t : List ℕ} (i : ℕ) {p : Pass} {w : List ℕ} (x : Resolving t (start_of t i) p w) (size : length t ≤ most_bytes) (l : start_of t i < length t) {r : Word}
    (y : WordAt t (start_of t i) r) {w' : List ℕ} {q : Pass} → LineRead t w p (line_after t r.end r.kind) w' q → Resolving t (start_of t (i + 1)) q w'
resolving-next {t} i x size l y {w'} {q} z = subst (λ (a : ℕ). Resolving t a q w') (sym (next_start t i)) (word_on x size l y z)
