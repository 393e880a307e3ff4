-- What the stage of a text says of the lines above and of those to come.
use mathlib.Core.Path.{◌≡◌, refl, sym, subst, ◌∙◌}
use mathlib.Core.Bool.{Bool, true, false, cond}
use mathlib.Core.List.{List, [], ◌∷◌}
use Prim.Native.Nat.{ℕ, suc, ◌+◌, ◌≤◌}
use native.Mathlib.Omega.{arith}
use lib.Dec.{eqb, leb}
use lib.ListN.{length}
use borrow.Author.Tests.{eqb-true, leb-true}
use Rattle.rules.specs.Base.{Name, ok, between}
use Rattle.rules.specs.Answers.{accepted, refused, malformed, limit_passed, text_ends}
use Rattle.rules.specs.Grammar as Grammar
use Rattle.rules.specs.Grammar.{Kind, Statement, Stage, Line, form, stands, is_kind, is_closing_number, statement_number, last_stage, next_stage}
use Rattle.rules.specs.Grammar.{Class, Field, Method, Requires, Ensures, Main, Var, statement}
use Rattle.rules.specs.Grammar.{Set, Let, New, Call, Return, Assert, Release, If, Else, Join, End, Add, Sub, Loop, Again, Open, Shut}
use Rattle.rules.specs.Grammar.{beginning, in_class, after_method, after_header, after_requires, in_locals, in_body, after_return, after_main}
use Rattle.rules.specs.Places as Places
use Rattle.rules.specs.Places.{Place, Branch, before_else, behind_else, in_loop, stage_number, may_join, may_end, outer, fits, in_place, branches_after, place_after, place_line, within_limits, ended, scan_lines}
use Rattle.rules.proofs.Lists.{T_true}
use Rattle.rules.proofs.Tries.{ok-inj, check-ok, refused-accepted}
use Rattle.read_bytes.proofs.Search.{both_true, true-false, between-true}
use Rattle.read_grammar.specs.Coded.{coded}
use Rattle.tables.specs.Layout.{atom_limit}
use Rattle.read_scan.specs.Scans.{line_of}
use Rattle.read_grammar.proofs.Coded.{within-is, low, Low}
use Rattle.read_scan.proofs.Scans.{first_taken}
use Rattle.resolve_pass.specs.Passes.{has_atoms, atoms_at_most}

-- TABLES: m, where `main` is above

-- how many `end` lines are to come at least: that of the open block, and main's
abbrev pub needed_at : Stage → Bool → ℕ
needed_at beginning m = 1
needed_at in_class m = 1
needed_at after_method m = 1
needed_at after_header m = cond m 1 2
needed_at after_requires m = cond m 1 2
needed_at in_locals m = cond m 1 2
needed_at in_body m = cond m 1 2
needed_at after_return m = cond m 1 2
needed_at after_main m = 0

-- formulas that may stand above, with one more, beside one for each statement line and each method
abbrev pub spare_at : Stage → Bool → ℕ
spare_at beginning m = 1
spare_at in_class m = 1
spare_at after_method m = 1
spare_at after_header m = 0
spare_at after_requires m = 1
spare_at in_locals m = cond m 1 2
spare_at in_body m = cond m 1 2
spare_at after_return m = cond m 1 2
spare_at after_main m = 0

-- locals of the open block, of which n are counted
abbrev pub locals_at : Stage → ℕ → ℕ
locals_at beginning n = 0
locals_at in_class n = 0
locals_at after_method n = 0
locals_at after_header n = n
locals_at after_requires n = n
locals_at in_locals n = n
locals_at in_body n = n
locals_at after_return n = n
locals_at after_main n = 0

-- classes above at least
abbrev pub stage_classes : Stage → Bool → ℕ
stage_classes beginning m = 0
stage_classes in_class m = 1
stage_classes after_method m = 1
stage_classes after_header m = 1
stage_classes after_requires m = 1
stage_classes in_locals m = cond m 0 1
stage_classes in_body m = cond m 0 1
stage_classes after_return m = cond m 0 1
stage_classes after_main m = 0

-- methods above at least
abbrev pub stage_methods : Stage → ℕ
stage_methods beginning = 0
stage_methods in_class = 0
stage_methods after_method = 0
stage_methods after_header = 1
stage_methods after_requires = 1
stage_methods in_locals = 0
stage_methods in_body = 0
stage_methods after_return = 0
stage_methods after_main = 0

-- two stages that the tables do not tell apart
pub record Like (s r : Stage) : Type 0 where
  pub needed : (m : Bool) → needed_at s m ≡ needed_at r m
  pub spare : (m : Bool) → spare_at s m ≡ spare_at r m
  pub locals : (n : ℕ) → locals_at s n ≡ locals_at r n
  pub classes : (m : Bool) → stage_classes s m ≡ stage_classes r m
  pub methods : stage_methods s ≡ stage_methods r

like : (s : Stage) → Like s s
like s = record { needed = λ m. refl; spare = λ m. refl; locals = λ n. refl; classes = λ m. refl; methods = refl }

pub at-header : (s : Stage) → stage_number s ≡ 3 → Like s after_header
unfolding stage_number
at-header beginning e = absurd (omega arith)
at-header in_class e = absurd (omega arith)
at-header after_method e = absurd (omega arith)
at-header after_header e = like after_header
at-header after_requires e = absurd (omega arith)
at-header in_locals e = absurd (omega arith)
at-header in_body e = absurd (omega arith)
at-header after_return e = absurd (omega arith)
at-header after_main e = absurd (omega arith)

pub at-requires : (s : Stage) → stage_number s ≡ 4 → Like s after_requires
unfolding stage_number
at-requires beginning e = absurd (omega arith)
at-requires in_class e = absurd (omega arith)
at-requires after_method e = absurd (omega arith)
at-requires after_header e = absurd (omega arith)
at-requires after_requires e = like after_requires
at-requires in_locals e = absurd (omega arith)
at-requires in_body e = absurd (omega arith)
at-requires after_return e = absurd (omega arith)
at-requires after_main e = absurd (omega arith)

pub at_body : (s : Stage) → 5 ≤ stage_number s → stage_number s ≤ 7 → Like s in_body
unfolding stage_number
at_body beginning l h = absurd (omega arith)
at_body in_class l h = absurd (omega arith)
at_body after_method l h = absurd (omega arith)
at_body after_header l h = absurd (omega arith)
at_body after_requires l h = absurd (omega arith)
at_body in_locals l h = record { needed = λ m. refl; spare = λ m. refl; locals = λ n. refl; classes = λ m. refl; methods = refl }
at_body in_body l h = like in_body
at_body after_return l h = record { needed = λ m. refl; spare = λ m. refl; locals = λ n. refl; classes = λ m. refl; methods = refl }
at_body after_main l h = absurd (omega arith)

-- a stage at which a statement may stand, unless it is an early one
abbrev pub Inside : Stage → Type 0
Inside s = Like s in_body × ((5 ≤ stage_number s) × (stage_number s ≤ 7))

-- after a statement that is not `end`
pub next-inside : (s : Statement) → Inside (next_stage s)
unfolding next_stage stage_number
next-inside s = go (eqb (statement_number s) (statement_number Return))
  where
    go : (b : Bool) → Inside (cond b after_return in_body)
    go true = (at_body after_return (omega arith) (omega arith), (omega arith, omega arith))
    go false = (like in_body, (omega arith, omega arith))

-- a stage between blocks
pub record Between (s : Stage) : Type 0 where
  pub needed : (m : Bool) → needed_at s m ≡ 1
  pub spare : (m : Bool) → spare_at s m ≡ 1
  pub locals : (n : ℕ) → locals_at s n ≡ 0

pub at-between : (s : Stage) → stage_number s ≤ 2 → Between s
unfolding stage_number
at-between beginning h = record { needed = λ m. refl; spare = λ m. refl; locals = λ n. refl }
at-between in_class h = record { needed = λ m. refl; spare = λ m. refl; locals = λ n. refl }
at-between after_method h = record { needed = λ m. refl; spare = λ m. refl; locals = λ n. refl }
at-between after_header h = absurd (omega arith)
at-between after_requires h = absurd (omega arith)
at-between in_locals h = absurd (omega arith)
at-between in_body h = absurd (omega arith)
at-between after_return h = absurd (omega arith)
at-between after_main h = absurd (omega arith)

pub at-class : (s : Stage) (m : Bool) → 1 ≤ stage_number s → stage_number s ≤ 2 → stage_classes s m ≡ 1
unfolding stage_number
at-class beginning m l h = absurd (omega arith)
at-class in_class m l h = refl
at-class after_method m l h = refl
at-class after_header m l h = absurd (omega arith)
at-class after_requires m l h = absurd (omega arith)
at-class in_locals m l h = absurd (omega arith)
at-class in_body m l h = absurd (omega arith)
at-class after_return m l h = absurd (omega arith)
at-class after_main m l h = absurd (omega arith)

pub at-end : (s : Stage) → stage_number s ≡ stage_number after_main → Like s after_main
unfolding stage_number
at-end beginning e = absurd (omega arith)
at-end in_class e = absurd (omega arith)
at-end after_method e = absurd (omega arith)
at-end after_header e = absurd (omega arith)
at-end after_requires e = absurd (omega arith)
at-end in_locals e = absurd (omega arith)
at-end in_body e = absurd (omega arith)
at-end after_return e = absurd (omega arith)
at-end after_main e = like after_main

-- A LINE IN PLACE
pub limits : (p : Place) → within_limits p ≡ true → Low (coded p)
limits p e = low (coded p) (within-is p ∙ e)

pub stage-from : (k : Kind) (p : Place) → in_place k p ≡ true → stage_number (form k).first ≤ stage_number p.stage
unfolding in_place
stage-from k p i = (between-true _ _ _ (both_true (between (stage_number (form k).first) (stage_number (form k).last) (stage_number p.stage)) (fits k p) i).0).0

pub stage-to : (k : Kind) (p : Place) → in_place k p ≡ true → stage_number p.stage ≤ stage_number (form k).last
unfolding in_place
stage-to k p i = (between-true _ _ _ (both_true (between (stage_number (form k).first) (stage_number (form k).last) (stage_number p.stage)) (fits k p) i).0).1

last-inside : (b : Bool) → stage_number (cond b after_return in_body) ≤ 7
unfolding stage_number
last-inside true = omega arith
last-inside false = omega arith

pub statement-to : (s : Statement) (p : Place) → in_place (statement s) p ≡ true → stage_number p.stage ≤ 7
unfolding form stands last_stage
statement-to s p i = omega (arith, stage-to (statement s) p i, last-inside (is_closing_number (statement_number s)))

-- LOOPS THAT ARE OPEN
abbrev pub open_loops : List Branch → ℕ
open_loops [] = 0
open_loops (before_else ∷ bs) = open_loops bs
open_loops (behind_else ∷ bs) = open_loops bs
open_loops (in_loop ∷ bs) = suc (open_loops bs)

loops-few : (bs : List Branch) → open_loops bs ≤ length bs
loops-few [] = omega arith
loops-few (before_else ∷ bs) = omega (arith, loops-few bs)
loops-few (behind_else ∷ bs) = omega (arith, loops-few bs)
loops-few (in_loop ∷ bs) = omega (arith, loops-few bs)

pub loops-within : (p : Place) → within_limits p ≡ true → open_loops p.branches ≤ 4
unfolding within_limits
loops-within p e =
    let a = (both_true (leb p.classes 16) _ e).1 in
    let b = (both_true (leb p.fields 8) _ a).1 in
    let c = (both_true (leb p.methods 64) _ b).1 in
    let d = (both_true (leb p.locals 12) _ c).1 in
    let f = (both_true (leb p.statements 256) (leb (length p.branches) 4) d).1 in
    omega (arith, leb-true (length p.branches) 4 f, loops-few p.branches)

loops-outer : (bs : List Branch) → open_loops bs ≤ suc (open_loops (outer bs))
unfolding outer
loops-outer [] = omega arith
loops-outer (before_else ∷ bs) = omega arith
loops-outer (behind_else ∷ bs) = omega arith
loops-outer (in_loop ∷ bs) = omega arith

-- a block ends where no loop is open
pub loops-ended : (bs : List Branch) → may_end bs ≡ true → open_loops bs ≡ 0
unfolding may_end
loops-ended [] e = refl
loops-ended (b ∷ bs) e = true-false (sym e)

loops-joined : (bs : List Branch) → may_join bs ≡ true → open_loops bs ≡ open_loops (outer bs)
unfolding may_join outer
loops-joined [] e = true-false (sym e)
loops-joined (before_else ∷ bs) e = true-false (sym e)
loops-joined (behind_else ∷ bs) e = refl
loops-joined (in_loop ∷ bs) e = true-false (sym e)

-- a statement line pays for eight atoms, and a loop that is opened for one more
pub loops-pay :
    (s : Statement) (p : Place) → in_place (statement s) p ≡ true →
    open_loops p.branches + atoms_at_most (statement s) ≤ 8 + open_loops (branches_after (statement s) p.branches)
unfolding Places.opened Grammar.opened has_atoms atoms_at_most atom_limit
loops-pay Set p i = omega arith
loops-pay Let p i = omega arith
loops-pay New p i = omega arith
loops-pay Call p i = omega arith
loops-pay Return p i = omega arith
loops-pay Assert p i = omega arith
loops-pay Release p i = omega arith
loops-pay If p i = omega arith
loops-pay Else p i = omega (arith, loops-outer p.branches)
loops-pay Join p i =
    let k : Kind = statement Join in
    let f = (both_true (between (stage_number (form k).first) (stage_number (form k).last) (stage_number p.stage)) (fits k p) i).1 in
    omega (arith, loops-joined p.branches f)
loops-pay End p i = omega arith
loops-pay Add p i = omega arith
loops-pay Sub p i = omega arith
loops-pay Loop p i = omega arith
loops-pay Again p i = omega (arith, loops-outer p.branches)
loops-pay Open p i = omega arith
loops-pay Shut p i = omega arith

-- what a line that is placed shows
pub record InPlace (k : Kind) (p q : Place) : Type 0 where
  pub place : in_place k p ≡ true
  pub within : within_limits (place_after k p) ≡ true
  pub next : q ≡ place_after k p

pub placed : (k : Kind) (p q : Place) → place_line p k ≡ ok q → InPlace k p q
unfolding place_line
placed k p q e =
    let (i, m) = check-ok (in_place k p) malformed e in
    let (u, n) = check-ok (within_limits (place_after k p)) limit_passed m in
    record { place = T_true _ i; within = T_true _ u; next = sym (ok-inj n) }

-- LINES TO COME: statement lines, with the `end` lines that are needed

abbrev pub at_least : Place → ℕ
at_least p = p.statements + needed_at p.stage p.main

one-or-two : (m : Bool) → 1 ≤ cond m 1 2
one-or-two true = omega arith
one-or-two false = omega arith

module _ (p : Place) where
  -- a line between blocks
  outer-on : (q : Place) → stage_number p.stage ≤ 2 → q.statements ≡ p.statements → 1 ≤ needed_at q.stage q.main → at_least p ≤ at_least q
  outer-on q h s n = omega (arith, (at-between p.stage h).needed p.main)

  body-on :
      (q : Place) → 5 ≤ stage_number p.stage → stage_number p.stage ≤ 7 → p.statements ≤ q.statements →
      needed_at q.stage q.main ≡ cond p.main 1 2 → at_least p ≤ at_least q
  body-on q l h s n = omega (arith, (at_body p.stage l h).needed p.main)

  -- e: the statement is `end`
  statement-on :
      (e : Bool) (s : Statement) → 5 ≤ stage_number p.stage → stage_number p.stage ≤ 7 →
      at_least p ≤ suc p.statements + needed_at (cond e (cond p.main after_main after_method) (next_stage s)) p.main
  statement-on e s l h = go e p.main ((at_body p.stage l h).needed p.main)
    where
      go :
          (e m : Bool) → needed_at p.stage p.main ≡ cond m 1 2 →
          at_least p ≤ suc p.statements + needed_at (cond e (cond m after_main after_method) (next_stage s)) p.main
      go true true i = omega arith
      go true false i = omega arith
      go false true i = omega (arith, one-or-two p.main, (next-inside s).0.needed p.main)
      go false false i = omega (arith, one-or-two p.main, (next-inside s).0.needed p.main)

  pub at-least-on : (k : Kind) → in_place k p ≡ true → at_least p ≤ at_least (place_after k p)
  unfolding Places.opened Grammar.opened
  at-least-on Class i = outer-on (place_after Class p) (stage-to Class p i) refl (omega arith)
  at-least-on Field i = outer-on (place_after Field p) (omega (arith, stage-to Field p i)) refl (omega arith)
  at-least-on Method i = outer-on (place_after Method p) (stage-to Method p i) refl (one-or-two p.main)
  at-least-on Requires i = omega (arith, (at-header p.stage (omega (arith, stage-from Requires p i, stage-to Requires p i))).needed p.main)
  at-least-on Ensures i = omega (arith, (at-requires p.stage (omega (arith, stage-from Ensures p i, stage-to Ensures p i))).needed p.main)
  at-least-on Main i = outer-on (place_after Main p) (stage-to Main p i) refl (omega arith)
  at-least-on Var i = body-on (place_after Var p) (stage-from Var p i) (omega (arith, stage-to Var p i)) (omega arith) refl
  at-least-on (statement s) i = statement-on (is_kind (statement End) (statement s)) s (stage-from (statement s) p i) (statement-to s p i)

  -- a text ends after main
  pub text-ends : (n : ℕ) (out : List Line) → scan_lines [] n p ≡ accepted out → stage_number p.stage ≡ stage_number after_main
  unfolding scan_lines ended
  text-ends n out e = go (eqb (stage_number p.stage) (stage_number after_main)) refl e
    where
      go :
          (b : Bool) → eqb (stage_number p.stage) (stage_number after_main) ≡ b → cond b (accepted []) (refused text_ends n) ≡ accepted out →
          stage_number p.stage ≡ stage_number after_main
      go true f g = eqb-true _ _ f
      go false f g = refused-accepted g

  no_lines : (n : ℕ) (out : List Line) → within_limits p ≡ true → scan_lines [] n p ≡ accepted out → at_least p ≤ 256
  unfolding coded
  no_lines n out w e = omega (arith, (at-end p.stage (text-ends n out e)).needed p.main, (limits p w).statements)

-- the `end` lines that are needed are within the limit, where the lines to come are taken
pub at-least : (ls : List Name) (n : ℕ) (p : Place) (out : List Line) → within_limits p ≡ true → scan_lines ls n p ≡ accepted out → at_least p ≤ 256
at-least [] n p out w e = no_lines p n out w e
at-least (l ∷ ls) n p out w e =
    let x = first_taken l ls n p out e in
    let y = placed (line_of l).kind p x.placed.next x.taken.place in
    let r = at-least ls (suc n) x.placed.next x.rest x.taken.within x.others in
    let z = subst (λ q. at_least q ≤ 256) y.next r in
    omega (arith, z, at-least-on p (line_of l).kind y.place)
