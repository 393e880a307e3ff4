-- Pass 2 at each line of a text that pass 1 takes: what the line asks is there, and it holds again at the next.
use mathlib.Core.Path.{◌≡◌, refl}
use mathlib.Core.Bool.{Bool, true, false, cond}
use mathlib.Core.List.{List, [], ◌∷◌}
use Prim.Native.Nat.{ℕ, ◌+◌, ◌≤◌, ◌<◌}
use native.Mathlib.Omega.{arith}
use lib.ListN.{length}
use Rattle.rules.specs.Base.{Name}
use Rattle.rules.specs.Limits.{most_bytes, most_classes, most_methods, most_filled, work_bytes}
use Rattle.rules.specs.Answers.{accepted}
use Rattle.rules.specs.Grammar.{Kind, Line, Stage, Method, Var, statement, End, is_kind}
use Rattle.rules.specs.Grammar.{beginning, in_class, after_method, after_header, after_requires, in_locals, in_body, after_return, after_main}
use Rattle.rules.specs.Places as Places
use Rattle.rules.specs.Places.{Place, first_place, in_place, place_after, within_limits, scan_lines}
use Rattle.read_grammar.specs.Coded.{coded}
use Rattle.tables.specs.Layout.{most_names, most_atom_rows}
use Rattle.read_scopes.specs.declared.Names.{Names}
use Rattle.read_scopes.specs.Meanings.{NamesFit, more_locals, declarations_in}
use Rattle.read_declarations.specs.Texts.{lines_of}
use Rattle.read_declarations.specs.Declares.{Declares}
use Rattle.resolve_pass.specs.declared.Pass.{Pass}
use Rattle.resolve_pass.specs.Passes.{first_pass, names_after, with_block, PassFits, LineRoom, LinePut}
use Rattle.resolve_pass.proofs.Stages.{locals_at, limits, text-ends, at-least}
use Rattle.resolve_pass.proofs.Counted.{Counted, counted-first, counted-on}
use Rattle.resolve_pass.proofs.Counted.{rows-room, fields-room, method-room, local-room, header-room, atoms-room, last-room}
use Rattle.resolve_pass.proofs.Declared.{Follow, follow-first, follow-on, above-fits, class-next, field_next, method-next}

-- there are rows for what the text declares
pub record Sized (c : Names) : Type 0 where
  pub classes : c.classes ≤ most_classes
  pub fields : c.fields ≤ most_names
  pub methods : c.methods ≤ most_methods

sized_on : (k : Kind) (c : Names) → Sized c → Sized (names_after k c)
unfolding names_after with_block more_locals
sized_on k c x = go (is_kind Method k) (is_kind Var k) (is_kind (statement End) k)
  where
    same : (d : Names) → d.classes ≡ c.classes → d.fields ≡ c.fields → d.methods ≡ c.methods → Sized d
    same d e f m = record { classes = omega (arith, x.classes); fields = omega (arith, x.fields); methods = omega (arith, x.methods) }

    go : (a b z : Bool) → Sized (cond a (with_block true c) (cond b (more_locals c) (cond z (with_block false c) c)))
    go true b z = same (with_block true c) refl refl refl
    go false true z = same (more_locals c) refl refl refl
    go false false true = same (with_block false c) refl refl refl
    go false false false = x

few-locals : (s : Stage) (n : ℕ) → locals_at s n ≤ n
few-locals beginning n = omega arith
few-locals in_class n = omega arith
few-locals after_method n = omega arith
few-locals after_header n = omega arith
few-locals after_requires n = omega arith
few-locals in_locals n = omega arith
few-locals in_body n = omega arith
few-locals after_return n = omega arith
few-locals after_main n = omega arith

-- t is the text, w the work area, p how far pass 2 is, place that of the next line, and ls the lines to come
pub record At (t w : List ℕ) (p : Pass) (place : Place) (ls : List Line) : Type 0 where
  pub counted : Counted place p
  pub follow : Follow (declarations_in t w p.names) p.above ls
  pub within : within_limits place ≡ true
  pub sized : Sized p.names

pub at_first : (t v w : List ℕ) (r : Names) → Declares t v w r → At t w (first_pass r) first_place (lines_of t)
unfolding Places.opened
at_first t v w r x =
    record {
      counted = counted-first r x.method x.locals x.result;
      follow = follow-first (declarations_in t w r) (first_pass r).above (lines_of t) x.are refl refl refl;
      within = refl;
      sized = record { classes = x.fits.classes; fields = x.fits.fields; methods = x.fits.methods };
    }

module _ {t w : List ℕ} {p : Pass} {place : Place} {ls : List Line} (x : At t w p place ls) where
  pub at-fits : NamesFit p.names
  unfolding coded
  at-fits =
      let n = few-locals place.stage place.locals in
      record {
        classes = x.sized.classes;
        fields = x.sized.fields;
        methods = x.sized.methods;
        locals = omega (arith, x.counted.staged.locals, n, (limits place x.within).locals);
      }

  pub at_ready : length t ≤ most_bytes → length w ≡ work_bytes → PassFits t w p
  at_ready a b =
      record { text = a; whole = b; names = at-fits; above = above-fits t w p.names at-fits x.follow; result = x.counted.result }

  -- where no line is to come
  pub at_last : (n : ℕ) (out : List Line) → scan_lines [] n place ≡ accepted out → p.atoms + most_filled ≤ most_atom_rows
  at_last n out e = last-room x.counted (text-ends place n out e) x.within

module _ {t w : List ℕ} {p : Pass} {place : Place} {l : Line} {ls : List Line} (x : At t w p place (l ∷ ls))
    (i : in_place l.kind place ≡ true) (m : within_limits (place_after l.kind place) ≡ true) where
  -- where the lines to come are taken
  pub at_room : (raw : List Name) (n : ℕ) → scan_lines raw n (place_after l.kind place) ≡ accepted ls → p.line < most_bytes → LineRoom t w p l
  at_room raw n e h =
      let k : Kind = l.kind in
      let c = x.counted in
      record {
        line = h;
        rows = rows-room c k i m;
        atoms = atoms-room c k i m (at-least raw n (place_after k place) ls m e);
        class = class-next t w p.names x.follow;
        field = λ f. (fields-room c k i m f, field_next t w p.names x.follow f);
        method = λ f. (method-room c k i m f, method-next t w p.names x.follow f);
        header = header-room c k i;
        local = local-room c k i m;
      }

  pub at_on : {w' : List ℕ} {q : Pass} → LinePut t w p l w' q → At t w' q (place_after l.kind place) ls
  at_on {w'} {q} y =
      record {
        counted = counted-on x.counted l.kind i y.counted;
        follow = rw (y.declared, y.counted.above) (follow-on x.follow);
        within = m;
        sized = rw y.counted.names (sized_on l.kind p.names x.sized);
      }
