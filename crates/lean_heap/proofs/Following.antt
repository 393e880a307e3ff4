-- From a step of the full machine on the ghost to the lean machine's, and what a step that is not stuck cannot lack.
use mathlib.Core.Path.{◌≡◌, refl, sym, ap, ◌∙◌, subst}
use mathlib.Core.Bool.{Bool, true, false}
use mathlib.Core.List.{List}
use Prim.Native.Nat.{ℕ, ◌+◌, ◌*◌, ◌-◌, ◌≤◌, ◌<◌}
use native.Mathlib.Omega.{arith}
use lib.Dec.{T}
use lib.ListN.{length}
use Rattle.rules.specs.Limits.{heap_fields, most_statements, most_frames}
use Rattle.rules.specs.Base.{Try, ok, no, ◌>>=◌, ◌>>◌, check}
use Rattle.rules.specs.Answers as Answers
use Rattle.rules.specs.Syntax.{Expr, Program}
use Rattle.rules.specs.Machine.{Config, Step, stop, took, step}
use Rattle.rules.specs.Calls.{whole_heap}
use Rattle.rules.proofs.Tries.{bind_ok, ok-inj}
use Rattle.soundness.specs.Endings.{MayStop}
use Rattle.soundness.proofs.LeanFollows.{Only}
use Rattle.tables.specs.Layout.{frame_variables, most_atom_rows, frames_at}
use Rattle.tables.specs.declared.Expr as Tables
use Rattle.tables.specs.declared.Operands.{Operands}
use Rattle.rules.specs.Grammar.{IsStatementNumber}
use Rattle.tables.specs.Decode.{byte_at, expr_at, atom_place, left_at, right_at, kind_at, x_at, y_at, z_at, member_at, first_atom_at, operands_at, target_at, atom_count, program_in}
use Rattle.tables.specs.Tables.{Tables, OperandsFit, SideFits, declared_in}
use Rattle.tables.specs.Stores.{SameTables, put_word, meaning}
use Rattle.tables.proofs.BytesRead.{same_refl, half-kept}
use Rattle.tables.proofs.Kept.{all-rows, operands-kept}
use Rattle.tables.proofs.Decoding.{tables-same, program-same, kind-same}
use Rattle.run_heap.specs.declared.Fault.{Fault}
use Rattle.run_heap.specs.Views as Views
use Rattle.run_heap.specs.Views.{frame_holder, frame_at, variable_at, cell_value, spot, read_in, view_of, ObjectFits}
use Rattle.run_heap.proofs.Reading.{spot-is, cell-small}
use Rattle.run_footprint.proofs.Regions.{only-word, only-tables}
use Rattle.run_footprint.proofs.Cells.{SameObjects, cell-kept, fits_kept}
use Rattle.run_steps.specs.States as States
use Rattle.run_steps.specs.States.{most_count}
use Rattle.run_steps.proofs.Moves.{readable, row_fits}
use Rattle.lean_heap.specs.declared.Counters.{Counters}
use Rattle.lean_heap.specs.declared.Stop.{Stop}
use Rattle.std.specs.Prelude.{Some, Ok, Err}
use Rattle.lean_heap.specs.Ghosts.{Turn}
use Rattle.lean_heap.specs.Ghosts.{Bare, Stands, Unstuck, Follows, Does, CanStep, There, cell_in, value_in, Readable, full, stop_of}
use Rattle.lean_heap.proofs.Bares.{bare-tables, bare-class, bare-first, bare-variable, bare-value}
use Rattle.lean_heap.proofs.Finding.{there-cell}

-- TESTS
pub try_ok :
    {A : Type 0} (t : Try Answers.Stop A) (Q : A → Type 0) (k : A → Try Answers.Stop Config) → Only Q t → Unstuck (took (t >>= k)) →
    (a : A) × (t ≡ ok a) × Unstuck (took (k a))
unfolding ◌>>=◌ took
try_ok (ok a) Q k o u = (a, refl, u)
try_ok (no s) Q k o u = absurd (o u)

pub check-passes :
    (c : Bool) (s : Answers.Stop) (t : Try Answers.Stop Config) → (MayStop s → ⊥) → Unstuck (took (check c s >> t)) → T c × Unstuck (took t)
unfolding ◌>>◌ check took
check-passes true s t n u = (tt, u)
check-passes false s t n u = absurd (n u)

module _ {w : List ℕ} {c : Counters} {m : Config} (S : Stands w c m) where
  -- WHAT STANDS
  pub ghost-ready : c.steps < most_count → States.CanStep S.ghost (full c S.holder S.holders)
  ghost-ready l = record { state = m; represents = S.represents; more = l }

  pub ghost-tables : SameTables S.ghost w
  ghost-tables = bare-tables S.bare

  pub tables : Tables w
  tables = tables-same S.ghost w ghost-tables S.represents.tables

  pub ghost-size : length S.ghost ≡ 65536
  ghost-size = S.represents.tables.size

  pub row_small : c.row < most_statements
  row_small = omega (arith, S.represents.frame.row_fits, S.represents.tables.rows)

  pub frames-fit : (1 ≤ c.frames) × (c.frames ≤ most_frames)
  frames-fit = (omega (arith, S.represents.frames), S.represents.most)

  pub fits : OperandsFit (declared_in S.ghost) (atom_count S.ghost) (operands_at S.ghost c.row)
  fits = (row_fits S.represents).operands

  -- the row is the ghost's
  byte-is : (i : ℕ) → i < 36880 → byte_at w i ≡ byte_at S.ghost i
  byte-is i l = ghost-tables.bytes i (omega arith) l

  pub row_is : operands_at w c.row ≡ operands_at S.ghost c.row
  row_is =
      operands-kept S.ghost w most_statements (all-rows most_statements S.ghost w (λ i _ l. byte-is i (omega (arith, l)))) c.row row_small

  pub x-is : x_at w c.row ≡ x_at S.ghost c.row
  x-is = ap (λ (r : Operands). r.x) row_is

  pub y-is : y_at w c.row ≡ y_at S.ghost c.row
  y-is = ap (λ (r : Operands). r.y) row_is

  pub z-is : z_at w c.row ≡ z_at S.ghost c.row
  z-is = ap (λ (r : Operands). r.z) row_is

  pub member_is : member_at w c.row ≡ member_at S.ghost c.row
  member_is = ap (λ (r : Operands). r.member) row_is

  pub first-is : first_atom_at w c.row ≡ first_atom_at S.ghost c.row
  first-is = ap (λ (r : Operands). r.first) row_is

  pub kind-is : {k : ℕ} → kind_at w c.row ≡ k → kind_at S.ghost c.row ≡ k
  kind-is e = sym (kind-same S.ghost w ghost-tables c.row row_small) ∙ e

  pub target_is : target_at w c.row ≡ target_at S.ghost c.row
  target_is = half-kept 0 36880 S.ghost w ghost-tables.bytes _ (omega arith) (omega (arith, row_small))

  pub program-is : program_in w ≡ program_in S.ghost
  program-is = program-same S.ghost w ghost-tables S.represents.tables

  -- its atoms too
  expr-is : (t t' i : ℕ) → t' ≡ t → i + 4 ≤ 36880 → expr_at w t' i ≡ expr_at S.ghost t i
  unfolding expr_at
  expr-is t t' i e l =
      let p : byte_at w i ≡ byte_at S.ghost i = byte-is i (omega arith) in
      let q : byte_at w (i + 1) ≡ byte_at S.ghost (i + 1) = byte-is (i + 1) (omega arith) in
      let r : byte_at w (i + 2) ≡ byte_at S.ghost (i + 2) = byte-is (i + 2) (omega arith) in
      let s : byte_at w (i + 3) ≡ byte_at S.ghost (i + 3) = byte-is (i + 3) (omega arith) in
      rw e (simp (p, q, r, s))

  pub left_is : (a : ℕ) → a < most_atom_rows → left_at w a ≡ left_at S.ghost a
  unfolding left_at
  left_is a l = expr-is _ _ (atom_place a + 4) (byte-is (atom_place a + 1) (omega arith)) (omega arith)

  pub right_is : (a : ℕ) → a < most_atom_rows → right_at w a ≡ right_at S.ghost a
  unfolding right_at
  right_is a l = expr-is _ _ (atom_place a + 8) (byte-is (atom_place a + 2) (omega arith)) (omega arith)

  pub atom-kind-is : (a : ℕ) → a < most_atom_rows → byte_at w (atom_place a) ≡ byte_at S.ghost (atom_place a)
  atom-kind-is a l = byte-is (atom_place a) (omega arith)

  -- THE GHOST'S STEP
  pub step_is : (s : Step) → step whole_heap (program_in S.ghost) m ≡ s → step whole_heap (program_in w) m ≡ s
  step_is s e = ap (λ (P : Program). step whole_heap P m) program-is ∙ e

  pub on-as :
      {v' w' : List ℕ} {d : Counters} (h hs : ℕ) → d.base ≡ frame_at (d.frames - 1) →
      States.Does S.ghost (full c S.holder S.holders) v' (Ok (Some (full d h hs))) (step whole_heap (program_in S.ghost)) →
      Bare v' w' → Follows w' c (Ok (Some d)) m (step whole_heap (program_in w) m)
  on-as {v'} {w'} {d} h hs b D B =
      let N = D.follows m S.represents in
      record {
        next = N.next;
        is_next = step_is _ N.is_next;
        stands = record { ghost = v'; holder = h; holders = hs; represents = N.represents; bare = B; base = b };
        counted = N.counted;
      }

  -- a stop leaves the lean machine's stores as they are
  pub stop-as :
      {v' : List ℕ} {f : Fault} (s : Stop) → stop_of s ≡ Views.stop_of f →
      States.Does S.ghost (full c S.holder S.holders) v' (Err f) (step whole_heap (program_in S.ghost)) →
      Follows w c (Err s) m (step whole_heap (program_in w) m)
  stop-as s e D = (step_is _ (D.follows m S.represents).0 ∙ ap stop (sym e), S)

  -- READING
  fit : (i : ℕ) → i < c.objects → ObjectFits S.ghost heap_fields i
  fit i l = (readable S.represents).object i l

  objects-same : SameObjects c.objects S.ghost w
  objects-same =
      record {
        class = λ i l. bare-class S.bare i (omega (arith, S.represents.heap.most_objects));
        first = λ i l. bare-first S.bare i (omega (arith, S.represents.heap.most_objects));
      }

  pub variable-is : (x : ℕ) → x < frame_variables → variable_at w (frame_at (c.frames - 1)) x ≡ variable_at S.ghost (frame_at (c.frames - 1)) x
  variable-is x l = bare-variable S.bare (c.frames - 1) x l

  -- a location of which n halves are held is there
  pub path-there :
      (n x f j : ℕ) → x < frame_variables → spot S.ghost (view_of (full c S.holder S.holders)) n x f ≡ ok j →
      There w (variable_at w (frame_at (c.frames - 1)) x) f
      × (cell_in w (variable_at w (frame_at (c.frames - 1)) x) f ≡ j)
      × (j < heap_fields)
  path-there n x f j l e =
      let o : ℕ = variable_at S.ghost (frame_at (c.frames - 1)) x in
      let k = (spot-is S.ghost (view_of (full c S.holder S.holders)) n x f j e).0 in
      let there : There w o f =
      record {
        tables = tables;
        objects = c.objects;
        few = S.represents.heap.most_objects;
        fit = λ i h. fits_kept S.ghost w ghost-tables S.represents.tables heap_fields i (objects-same.class i h) (objects-same.first i h) (fit i h);
        cell = j;
        is_cell = cell-kept S.ghost w ghost-tables S.represents.tables c.objects heap_fields o f fit objects-same ∙ k;
      } in
      rw (variable-is x l) (there, there-cell there, cell-small o f S.represents.tables fit k)

  pub read-there :
      (e : Tables.Expr) (E : Expr ℕ) → meaning e ≡ E → SideFits E → (n : ℕ) →
      read_in S.ghost (view_of (full c S.holder S.holders)) E ≡ ok n →
      Readable w (frame_at (c.frames - 1)) e × (value_in w (frame_at (c.frames - 1)) E ≡ n)
  unfolding meaning read_in value_in SideFits
  read-there (Tables.Expr.Num a) E q l n r = (tt, ap (value_in w _) (sym q) ∙ ok-inj (ap (read_in S.ghost _) q ∙ r))
  read-there Tables.Expr.Null E q l n r = (tt, ap (value_in w _) (sym q) ∙ ok-inj (ap (read_in S.ghost _) q ∙ r))
  read-there (Tables.Expr.Var x) E q l n r =
      let k : SideFits (meaning (Tables.Expr.Var x)) = subst SideFits (sym q) l in
      (k, ap (value_in w _) (sym q) ∙ (variable-is x k ∙ ok-inj (ap (read_in S.ghost _) q ∙ r)))
  read-there (Tables.Expr.Path x f) E q l n r =
      let k : SideFits (meaning (Tables.Expr.Path x f)) = subst SideFits (sym q) l in
      let (j, s, t) = bind_ok (spot S.ghost (view_of (full c S.holder S.holders)) 1 x f) (ap (read_in S.ghost _) q ∙ r) in
      let (T, i, h) = path-there 1 x f j k.0 s in
      ((k.0, k.1, T), ap (value_in w _) (sym q) ∙ (ap (cell_value w) i ∙ (bare-value S.bare j h ∙ ok-inj t)))

-- ANSWERS OF THE CODE, known
pub does-answer : {w w' : List ℕ} {c : Counters} {r t : Turn} → r ≡ t → Does w c w' r → Does w c w' t
does-answer {w} {w'} {c} {r} {t} e D = subst (λ (u : Turn). Does w c w' u) e D

pub does-on :
    {w w' w'' : List ℕ} {c d d' : Counters} → w' ≡ w'' → d ≡ d' → SameTables w w'' →
    ((m : Config) → Stands w c m → Unstuck (step whole_heap (program_in w) m) → Follows w'' c (Ok (Some d')) m (step whole_heap (program_in w) m)) →
    Does w c w' (Ok (Some d))
does-on {w} {w'} {w''} {c} {d} {d'} e q t h =
    subst (λ (u : List ℕ). Does w c u (Ok (Some d))) (sym e)
    (subst (λ (g : Counters). Does w c w'' (Ok (Some g))) (sym q) (record { tables = t; follows = h }))

pub does-stop :
    {w : List ℕ} {c : Counters} (s : Stop) →
    ((m : Config) → Stands w c m → Unstuck (step whole_heap (program_in w) m) → Follows w c (Err s) m (step whole_heap (program_in w) m)) →
    Does w c w (Err s)
does-stop {w} s h = record { tables = same_refl w; follows = h }

-- WHAT A MACHINE HAS THAT CAN STEP
module _ {w : List ℕ} {c : Counters} (R : CanStep w c) where
  pub has-size : length w ≡ 65536
  has-size = (tables R.stands).size

  pub has-row : c.row < most_statements
  has-row = row_small R.stands

  -- every row is a statement's
  pub has-kind : IsStatementNumber (kind_at w c.row)
  has-kind = subst IsStatementNumber (kind-is R.stands refl) (fits R.stands).kind

  pub has-frames : (1 ≤ c.frames) × (c.frames ≤ most_frames)
  has-frames = frames-fit R.stands

  pub has_base : {b : ℕ} → b ≡ frame_at (c.frames - 1) → b + frame_holder ≤ length w
  has_base e = omega (arith, e, has-frames.1, has-size)

  pub x-small : {x : ℕ} → x ≡ x_at w c.row → x < frame_variables
  x-small e = omega (arith, e, x-is R.stands, (fits R.stands).x)

  pub y-small : {y : ℕ} → y ≡ y_at w c.row → y < frame_variables
  y-small e = omega (arith, e, y-is R.stands, (fits R.stands).y)

  pub z-small : {z : ℕ} → z ≡ z_at w c.row → z < frame_variables
  z-small e = omega (arith, e, z-is R.stands, (fits R.stands).z)

  -- a word of the running frame
  pub word-tables : (b x n : ℕ) → b ≡ frame_at (c.frames - 1) → x < frame_variables → SameTables w (put_word w (b + x * 4) n)
  word-tables b x n e l =
      only-tables (only-word frames_at (frames_at + 8192) w (b + x * 4) n (omega (arith, e)) (omega (arith, e, has-frames.1)))
      (omega arith)
