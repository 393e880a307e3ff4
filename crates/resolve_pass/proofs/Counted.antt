-- The counts of pass 2 at each place of a text that pass 1 takes: what the limits leave room for.
use mathlib.Core.Path.{◌≡◌, refl, ap, sym, subst, ◌∙◌}
use mathlib.Core.Bool.{Bool, true, false, cond, ◌||◌}
use Prim.Native.Nat.{ℕ, suc, ◌+◌, ◌*◌, ◌≤◌, ◌<◌}
use native.Mathlib.Omega.{arith}
use native.Mathlib.Numerals.{add-one}
use lib.Dec.{T}
use Rattle.rules.specs.Grammar as Grammar
use Rattle.rules.specs.Grammar.{Kind, Statement, form, is_kind, is_statement, kind_number, next_stage}
use Rattle.rules.specs.Grammar.{Class, Field, Method, Requires, Ensures, Main, Var, statement, End}
use Rattle.rules.specs.Grammar.{in_class, after_method, after_main}
use Rattle.rules.specs.Base.{between}
use Rattle.rules.proofs.LineKinds.{is_same}
use Rattle.rules.specs.Limits.{most_fields, most_locals, most_statements, most_atoms, most_filled}
use Rattle.rules.specs.Places as Places
use Rattle.rules.specs.Places.{Place, first_place, stage_number, fits, in_place, branches_after, place_after, within_limits, one_more_if}
use Rattle.read_bytes.proofs.Search.{true-false, both_true}
use Rattle.read_grammar.specs.Coded.{coded}
use Rattle.tables.specs.Layout.{most_atom_rows, atom_limit}
use Rattle.read_scopes.specs.declared.Names.{Names}
use Rattle.read_scopes.specs.declared.Above.{Above}
use Rattle.read_scopes.specs.Meanings.{more_locals}
use Rattle.resolve_pass.specs.declared.Pass.{Pass}
use Rattle.resolve_pass.specs.Passes.{first_pass, after, one_more, next_range, above_after, with_block, names_after, has_atoms, atoms_at_most, Counts}
use Rattle.resolve_pass.proofs.Stages.{needed_at, spare_at, locals_at, stage_classes, stage_methods, at_least, limits, Inside, next-inside, open_loops, loops-within, loops-ended, loops-pay}
use Rattle.resolve_pass.proofs.Stages.{at-header, at-requires, at_body, at-between, at-class, at-end, stage-from, stage-to, statement-to}

-- what the stage of a place says of the locals and atoms so far; the `again` to come of each open loop pays for its condition
pub record Staged (place : Place) (v a : ℕ) : Type 0 where
  pub locals : v ≡ locals_at place.stage place.locals
  pub late : stage_number place.stage ≤ 4 → place.main ≡ false
  pub classes : stage_classes place.stage place.main ≤ place.classes
  pub methods : stage_methods place.stage ≤ place.methods
  pub atoms : a + 8 ≤ 8 * (place.statements + place.methods + spare_at place.stage place.main) + open_loops place.branches
  pub closed : stage_number after_main ≤ stage_number place.stage → open_loops place.branches ≡ 0

-- the counts of what stands above a place
pub record Counted (place : Place) (p : Pass) : Type 0 where
  pub rows : p.rows ≡ place.statements
  pub classes : p.above.classes ≡ place.classes
  pub fields : p.above.fields.count ≡ place.fields
  pub methods : after p.above.methods ≡ place.methods
  pub result : p.names.result ≡ p.names.method
  pub staged : Staged place p.names.locals p.atoms

pub counted-first : (r : Names) → r.method ≡ false → r.locals ≡ 0 → r.result ≡ false → Counted first_place (first_pass r)
unfolding stage_number
counted-first r m l e =
    record {
      rows = refl;
      classes = refl;
      fields = refl;
      methods = refl;
      result = e ∙ sym m;
      staged = record { locals = l; late = λ h. refl; classes = omega arith; methods = omega arith; atoms = omega arith; closed = λ h. refl };
    }

-- ONE LINE MORE: what stands above
pub record AboveOn (k : Kind) (a : Above) : Type 0 where
  pub classes : (above_after k a).classes ≡ one_more_if (is_kind Class k) a.classes
  pub count : (above_after k a).fields.count ≡ cond (is_kind Class k) 0 (one_more_if (is_kind Field k) a.fields.count)
  pub fields : after (above_after k a).fields ≡ one_more_if (is_kind Field k) (after a.fields)
  pub methods : after (above_after k a).methods ≡ one_more_if (is_kind Method k) (after a.methods)

pub above_on : (k : Kind) (a : Above) → AboveOn k a
unfolding above_after one_more next_range one_more_if Grammar.opened
above_on Class a = record { classes = omega arith; count = refl; fields = omega arith; methods = omega arith }
above_on Field a = record { classes = refl; count = omega arith; fields = omega arith; methods = omega arith }
above_on Method a = record { classes = refl; count = refl; fields = omega arith; methods = omega arith }
above_on Requires a = record { classes = refl; count = refl; fields = refl; methods = refl }
above_on Ensures a = record { classes = refl; count = refl; fields = refl; methods = refl }
above_on Main a = record { classes = refl; count = refl; fields = refl; methods = refl }
above_on Var a = record { classes = refl; count = refl; fields = refl; methods = refl }
above_on (statement s) a = record { classes = refl; count = refl; fields = refl; methods = refl }

result-on : (k : Kind) (c : Names) → c.result ≡ c.method → (names_after k c).result ≡ (names_after k c).method
unfolding names_after with_block more_locals
result-on k c e = go (is_kind Method k) (is_kind Var k) (is_kind (statement End) k)
  where
    go :
        (x y z : Bool) → let n : Names = cond x (with_block true c) (cond y (more_locals c) (cond z (with_block false c) c)) in
        n.result ≡ n.method
    go true y z = refl
    go false true z = e
    go false false true = refl
    go false false false = e

-- ONE LINE MORE: locals and atoms
module _ {p : Place} {v a : ℕ} (x : Staged p v a) (b : ℕ) where
  -- a statement that is not `end`
  staged-body :
      (q : Place) (u : ℕ) → 5 ≤ stage_number p.stage → stage_number p.stage ≤ 7 → Inside q.stage → q.main ≡ p.main →
      q.locals ≡ p.locals → q.classes ≡ p.classes → q.methods ≡ p.methods → q.statements ≡ suc p.statements →
      u ≡ v → b + open_loops p.branches ≤ a + 8 + open_loops q.branches → Staged q u b
  unfolding stage_number
  staged-body q u l h (z, k) m o c d n e g =
      let y = at_body p.stage l h in
      record {
        locals = e ∙ (x.locals ∙ (y.locals p.locals ∙ (sym o ∙ sym (z.locals q.locals))));
        late = λ i. absurd (omega (arith, k.0));
        classes = rw (z.classes q.main, m, c) (rw (y.classes p.main) at x.classes);
        methods = omega (arith, z.methods);
        atoms = rw (z.spare q.main, m, d, n) (omega (arith, g, x.atoms, y.spare p.main));
        closed = λ i. absurd (omega (arith, i, k.1));
      }

  staged-class :
      (q : Place) (u : ℕ) → stage_number p.stage ≤ 2 → q.stage ≡ in_class → q.main ≡ p.main → 1 ≤ q.classes →
      q.methods ≡ p.methods → q.statements ≡ p.statements → q.branches ≡ p.branches → u ≡ v → b ≤ a → Staged q u b
  unfolding stage_number
  staged-class q u h s m c d n o e g =
      let y = at-between p.stage h in
      record {
        locals = e ∙ (x.locals ∙ (y.locals p.locals ∙ ap (λ r. locals_at r q.locals) (sym s)));
        late = λ i. m ∙ x.late (omega arith);
        classes = rw s c;
        methods = rw s (omega arith);
        atoms = rw (s, d, n, o) (omega (arith, g, x.atoms, y.spare p.main));
        closed = λ i. absurd (omega (arith, ap stage_number s, i));
      }

  staged-method : 1 ≤ stage_number p.stage → stage_number p.stage ≤ 2 → b ≤ a → Staged (place_after Method p) 0 b
  unfolding Places.opened Grammar.opened
  staged-method l h g =
      record {
        locals = refl;
        late = λ i. x.late (omega arith);
        classes = omega (arith, x.classes, at-class p.stage p.main l h);
        methods = omega arith;
        atoms = omega (arith, g, x.atoms, (at-between p.stage h).spare p.main);
        closed = λ i. absurd (omega arith);
      }

  staged-main : stage_number p.stage ≤ 2 → b ≤ a → Staged (place_after Main p) v b
  unfolding Places.opened Grammar.opened
  staged-main h g =
      let y = at-between p.stage h in
      record {
        locals = x.locals ∙ y.locals p.locals;
        late = λ i. absurd (omega arith);
        classes = omega arith;
        methods = omega arith;
        atoms = omega (arith, g, x.atoms, y.spare p.main);
        closed = λ i. absurd (omega arith);
      }

  staged-requires : stage_number p.stage ≡ 3 → b ≤ a + 8 → Staged (place_after Requires p) v b
  unfolding Places.opened Grammar.opened
  staged-requires h g =
      let y = at-header p.stage h in
      record {
        locals = x.locals ∙ y.locals p.locals;
        late = λ i. x.late (omega arith);
        classes = omega (arith, x.classes, y.classes p.main);
        methods = omega (arith, x.methods, y.methods);
        atoms = omega (arith, g, x.atoms, y.spare p.main);
        closed = λ i. absurd (omega arith);
      }

  staged-ensures : stage_number p.stage ≡ 4 → b ≤ a + 8 → Staged (place_after Ensures p) v b
  unfolding Places.opened Grammar.opened
  staged-ensures h g =
      let y = at-requires p.stage h in
      let m = x.late (omega arith) in
      record {
        locals = x.locals ∙ y.locals p.locals;
        late = λ i. absurd (omega arith);
        classes = rw m (omega (arith, x.classes, y.classes p.main));
        methods = omega arith;
        atoms = rw m (omega (arith, g, x.atoms, y.spare p.main));
        closed = λ i. absurd (omega arith);
      }

  staged-var : stage_number p.stage ≡ 5 → b ≤ a → Staged (place_after Var p) (v + 1) b
  unfolding Places.opened Grammar.opened
  staged-var h g =
      let y = at_body p.stage (omega arith) (omega arith) in
      record {
        locals = add-one v ∙ ap suc (x.locals ∙ y.locals p.locals);
        late = λ i. absurd (omega arith);
        classes = rw (y.classes p.main) at x.classes;
        methods = omega arith;
        atoms = omega (arith, g, x.atoms, y.spare p.main);
        closed = λ i. absurd (omega arith);
      }

  staged-end :
      5 ≤ stage_number p.stage → stage_number p.stage ≤ 7 → open_loops p.branches ≡ 0 → b ≤ a → Staged (place_after (statement End) p) 0 b
  unfolding Places.opened Grammar.opened
  staged-end l h o g = go p.main refl
    where
      go : (m : Bool) → p.main ≡ m → Staged (place_after (statement End) p) 0 b
      go true e =
          record {
            locals = rw e;
            late = rw e (λ i. absurd (omega arith));
            classes = rw e (omega arith);
            methods = rw e (omega arith);
            atoms = let y = rw e at ((at_body p.stage l h).spare p.main) in rw e (omega (arith, g, rw e at x.atoms, y));
            closed = λ i. o;
          }
      go false e =
          let y = at_body p.stage l h in
          record {
            locals = rw e;
            late = λ i. e;
            classes = rw e (omega (arith, rw e at (y.classes p.main), rw e at x.classes));
            methods = rw e (omega arith);
            atoms = rw e (omega (arith, g, rw e at x.atoms, rw e at (y.spare p.main)));
            closed = λ i. o;
          }

staged-statement :
    {p : Place} {a : ℕ} (c : Names) → Staged p c.locals a → (b : ℕ) (s : Statement) → in_place (statement s) p ≡ true →
    b ≤ a + atoms_at_most (statement s) → Staged (place_after (statement s) p) (names_after (statement s) c).locals b
unfolding Places.opened Grammar.opened names_after with_block has_atoms atoms_at_most
staged-statement {p} {a} c x b s i g = go (is_kind (statement End) (statement s)) refl
  where
    ends :
        in_place (statement End) p ≡ true → b ≤ a + atoms_at_most (statement End) →
        Staged (place_after (statement End) p) (names_after (statement End) c).locals b
    ends i g =
        let k : Kind = statement End in
        let f = (both_true (between (stage_number (form k).first) (stage_number (form k).last) (stage_number p.stage)) (fits k p) i).1 in
        staged-end x b (stage-from k p i) (stage-to k p i) (loops-ended p.branches f) (omega arith)

    go : (e : Bool) → is_kind (statement End) (statement s) ≡ e → Staged (place_after (statement s) p) (names_after (statement s) c).locals b
    go true e =
        subst
        (λ k. in_place k p ≡ true → b ≤ a + atoms_at_most k → Staged (place_after k p) (names_after k c).locals b)
        (is_same (statement End) (statement s) (subst T (sym e) tt)) ends i g
    go false e =
        staged-body x b (place_after (statement s) p) _ (stage-from (statement s) p i) (statement-to s p i)
        (subst (λ y. Inside (cond y (cond p.main after_main after_method) (next_stage s))) (sym e) (next-inside s)) refl refl refl refl refl
        (ap (λ y. (cond y (with_block false c) c).locals) e) (omega (arith, g, loops-pay s p i))

staged-on :
    {p : Place} {a : ℕ} (c : Names) → Staged p c.locals a → (b : ℕ) (k : Kind) → in_place k p ≡ true →
    b ≤ a + atoms_at_most k → Staged (place_after k p) (names_after k c).locals b
unfolding Places.opened Grammar.opened names_after with_block more_locals has_atoms atoms_at_most atom_limit
staged-on {p} c x b Class i g = staged-class x b (place_after Class p) c.locals (stage-to Class p i) refl refl (omega arith) refl refl refl refl (omega arith)
staged-on {p} c x b Field i g =
    staged-class x b (place_after Field p) c.locals (omega (arith, stage-to Field p i)) refl refl
    (omega (arith, x.classes, at-class p.stage p.main (stage-from Field p i) (omega (arith, stage-to Field p i)))) refl refl refl refl (omega arith)
staged-on {p} c x b Method i g = staged-method x b (stage-from Method p i) (stage-to Method p i) (omega arith)
staged-on {p} c x b Requires i g = staged-requires x b (omega (arith, stage-from Requires p i, stage-to Requires p i)) g
staged-on {p} c x b Ensures i g = staged-ensures x b (omega (arith, stage-from Ensures p i, stage-to Ensures p i)) g
staged-on {p} c x b Main i g = staged-main x b (stage-to Main p i) (omega arith)
staged-on {p} c x b Var i g = staged-var x b (omega (arith, stage-from Var p i, stage-to Var p i)) (omega arith)
staged-on {p} c x b (statement s) i g = staged-statement c x b s i g

module _ {place : Place} {p : Pass} (x : Counted place p) (k : Kind) (i : in_place k place ≡ true) where
  pub counted-on : {q : Pass} → Counts p k q → Counted (place_after k place) q
  unfolding place_after
  counted-on {q} y =
      let z = above_on k p.above in
      let n = y.names in
      let a = y.above in
      record {
        rows = y.rows ∙ ap (one_more_if (is_statement k)) x.rows;
        classes = ap (λ c. c.classes) a ∙ (z.classes ∙ ap (one_more_if (is_kind Class k)) x.classes);
        fields = ap (λ c. c.fields.count) a ∙ (z.count ∙ ap (λ c. cond (is_kind Class k) 0 (one_more_if (is_kind Field k) c)) x.fields);
        methods = ap (λ c. after c.methods) a ∙ (z.methods ∙ ap (one_more_if (is_kind Method k)) x.methods);
        result = ap (λ c. c.result) n ∙ (result-on k p.names x.result ∙ ap (λ c. c.method) (sym n));
        staged = subst (λ v. Staged (place_after k place) v.locals q.atoms) (sym n) (staged-on p.names x.staged q.atoms k i y.atoms);
      }

-- ROOM
module _ {place : Place} {p : Pass} (x : Counted place p) (k : Kind) (i : in_place k place ≡ true) (w : within_limits (place_after k place) ≡ true) where
  pub rows-room : is_statement k ≡ true → p.rows < most_statements
  unfolding coded place_after one_more_if
  rows-room e = omega (arith, rw e at (limits (place_after k place) w).statements, x.rows)

  pub fields-room : k ≡ Field → (1 ≤ p.above.classes) × (p.above.fields.count < most_fields)
  unfolding coded Places.opened Grammar.opened
  fields-room e =
      let j = subst (λ q. in_place q place ≡ true) e i in
      let l = stage-from Field place j in
      let h = stage-to Field place j in
      let n = subst (λ q. (place_after q place).fields ≤ 8) e (limits (place_after k place) w).fields in
      (omega (arith, x.classes, x.staged.classes, at-class place.stage place.main l (omega arith)), omega (arith, n, x.fields))

  pub method-room : k ≡ Method → 1 ≤ p.above.classes
  unfolding Places.opened Grammar.opened
  method-room e =
      let j = subst (λ q. in_place q place ≡ true) e i in
      omega (arith, x.classes, x.staged.classes, at-class place.stage place.main (stage-from Method place j) (stage-to Method place j))

  pub local-room : k ≡ Var → p.names.locals < most_locals
  unfolding coded Places.opened Grammar.opened
  local-room e =
      let j = subst (λ q. in_place q place ≡ true) e i in
      let l = stage-from Var place j in
      let h = stage-to Var place j in
      let n = subst (λ q. (place_after q place).locals ≤ 12) e (limits (place_after k place) w).locals in
      omega (arith, n, x.staged.locals, (at_body place.stage l (omega arith)).locals place.locals)

module _ {place : Place} {p : Pass} (x : Counted place p) where
  pub header-room : (k : Kind) → in_place k place ≡ true → is_kind Requires k || is_kind Ensures k ≡ true → 1 ≤ after p.above.methods
  unfolding Places.opened Grammar.opened
  header-room Class i e = true-false (sym e)
  header-room Field i e = true-false (sym e)
  header-room Method i e = true-false (sym e)
  header-room Requires i e = omega (arith, x.methods, x.staged.methods, (at-header place.stage (omega (arith, stage-from Requires place i, stage-to Requires place i))).methods)
  header-room Ensures i e = omega (arith, x.methods, x.staged.methods, (at-requires place.stage (omega (arith, stage-from Ensures place i, stage-to Ensures place i))).methods)
  header-room Main i e = true-false (sym e)
  header-room Var i e = true-false (sym e)
  header-room (statement s) i e = true-false (sym e)

  -- m: the atoms that the line has at most
  body-atoms :
      (q : Place) (m : ℕ) → 5 ≤ stage_number place.stage → stage_number place.stage ≤ 7 → q.statements ≡ suc place.statements →
      q.methods ≡ place.methods → needed_at q.stage q.main ≡ cond place.main 1 2 →
      open_loops place.branches + m ≤ 8 + open_loops q.branches → within_limits q ≡ true → at_least q ≤ 256 →
      p.atoms + m ≤ most_atom_rows
  unfolding coded
  body-atoms q m l h s e n o w r =
      omega (arith, x.staged.atoms, (at_body place.stage l h).spare place.main, (limits q w).methods, loops-within q w)

  requires-atoms :
      stage_number place.stage ≡ 3 → within_limits (place_after Requires place) ≡ true → at_least (place_after Requires place) ≤ 256 →
      p.atoms + most_atoms ≤ most_atom_rows
  unfolding coded Places.opened Grammar.opened
  requires-atoms h w r =
      omega (arith, x.staged.atoms, (at-header place.stage h).spare place.main, (limits (place_after Requires place) w).methods, loops-within (place_after Requires place) w, rw (x.staged.late (omega arith)) at r)

  ensures-atoms :
      stage_number place.stage ≡ 4 → within_limits (place_after Ensures place) ≡ true → at_least (place_after Ensures place) ≤ 256 →
      p.atoms + most_atoms ≤ most_atom_rows
  unfolding coded Places.opened Grammar.opened
  ensures-atoms h w r =
      omega (arith, x.staged.atoms, (at-requires place.stage h).spare place.main, (limits (place_after Ensures place) w).methods, loops-within (place_after Ensures place) w, rw (x.staged.late (omega arith)) at r)

  -- `end` has no atoms
  statement-atoms :
      (s : Statement) → let k = statement s in
      in_place k place ≡ true → within_limits (place_after k place) ≡ true → at_least (place_after k place) ≤ 256 → has_atoms k ≡ true →
      p.atoms + atom_limit (kind_number k) ≤ most_atom_rows
  unfolding Places.opened Grammar.opened has_atoms atoms_at_most
  statement-atoms s i w r e = go (is_kind (statement End) (statement s)) refl
    where
      pays : open_loops place.branches + atom_limit (kind_number (statement s)) ≤ 8 + open_loops (branches_after (statement s) place.branches)
      pays = rw e at (loops-pay s place i)

      go : (y : Bool) → is_kind (statement End) (statement s) ≡ y → p.atoms + atom_limit (kind_number (statement s)) ≤ most_atom_rows
      go true z = true-false (sym (ap has_atoms (is_same (statement End) (statement s) (subst T (sym z) tt)) ∙ e))
      go false z =
          body-atoms (place_after (statement s) place) (atom_limit (kind_number (statement s))) (stage-from (statement s) place i) (statement-to s place i) refl refl
          (ap (λ y. needed_at (cond y (cond place.main after_main after_method) (next_stage s)) place.main) z ∙ (next-inside s).0.needed place.main) pays w r

  pub atoms-room :
      (k : Kind) → in_place k place ≡ true → within_limits (place_after k place) ≡ true → at_least (place_after k place) ≤ 256 → has_atoms k ≡ true →
      p.atoms + atom_limit (kind_number k) ≤ most_atom_rows
  unfolding Places.opened Grammar.opened has_atoms atom_limit
  atoms-room Class i w r e = true-false (sym e)
  atoms-room Field i w r e = true-false (sym e)
  atoms-room Method i w r e = true-false (sym e)
  atoms-room Requires i w r e = requires-atoms (omega (arith, stage-from Requires place i, stage-to Requires place i)) w r
  atoms-room Ensures i w r e = ensures-atoms (omega (arith, stage-from Ensures place i, stage-to Ensures place i)) w r
  atoms-room Main i w r e = true-false (sym e)
  atoms-room Var i w r e = true-false (sym e)
  atoms-room (statement s) i w r e = statement-atoms s i w r e

  -- after the last line, which has no atoms, there is room for those of a line that is filled in
  pub last-room : stage_number place.stage ≡ stage_number after_main → within_limits place ≡ true → p.atoms + most_filled ≤ most_atom_rows
  unfolding coded
  last-room h w =
      let e = x.staged.closed (omega (arith, h)) in
      omega (arith, x.staged.atoms, e, (at-end place.stage h).spare place.main, (limits place w).methods, (limits place w).statements)
