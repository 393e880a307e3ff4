-- The whole text: what the passes give is what `read_text` says.
use mathlib.Core.Path.{◌≡◌, sym, ap, subst, ◌∙◌}
use mathlib.Core.List.{List, []}
use Prim.Native.Nat.{ℕ, ◌≤◌, ◌<◌}
use native.Mathlib.Omega.{arith}
use lib.ListN.{length}
use borrow.Author.Tests.{lt-ltb, le-ltb}
use Rattle.rules.specs.Limits.{most_bytes}
use Rattle.rules.specs.Answers as Answers
use Rattle.rules.specs.Answers.{Verdict, accepted, refused, then, text_too_long}
use Rattle.rules.specs.Text.{lines}
use Rattle.rules.specs.Places.{first_place, scan_lines}
use Rattle.rules.specs.Scope.{Declarations, declarations, first_scope}
use Rattle.rules.specs.Items.{resolve_lines}
use Rattle.rules.specs.Reading.{read_text, program}
use Rattle.read_scan.specs.Scans.{scan_text}
use Rattle.read_scan.proofs.Scans.{text-taken}
use Rattle.read_scan.proofs.Table.{table_kept}
use Rattle.tables.specs.Decode.{run}
use Rattle.read_names.specs.Rows.{entry_at, classes_first, methods_first}
use Rattle.read_scopes.specs.Meanings.{as_method, names_from, declarations_in}
use Rattle.read_scopes.proofs.Scopes.{names-kept}
use Rattle.read_declarations.specs.Texts.{lines_of, TextTaken}
use Rattle.rules.specs.Syntax.{Program}
use Rattle.rules.specs.Reading.{no_program, with_items}
use Rattle.write_rows.specs.Puts.{put_header}
use Rattle.targets.specs.Targets.{targets_from}
use Rattle.targets.proofs.Finished.{ended_tables, Ended, read-tables}
use Rattle.resolve_pass.specs.declared.Pass.{Pass}
use Rattle.resolve_pass.specs.Passes.{counts}
use Rattle.reader.specs.declared.Refusal.{Refusal}
use Rattle.reader.specs.declared.RefusedLine.{RefusedLine}
use Rattle.std.proofs.Common.{Result, Ok, Err}
use Rattle.reader.specs.Readings.{refusal_of, resolved_text, AllRead, ResolvedIs, Noted, Tabled}

-- THE PASSES IN THEIR ORDER

pub too_long : (t : List ℕ) → most_bytes < length t → read_text t ≡ refused text_too_long 0
unfolding read_text
too_long t h = rw (lt-ltb most_bytes (length t) h)

module _ (t : List ℕ) (short : length t ≤ most_bytes) where
  by-passes : read_text t ≡ then (scan_lines (lines t) 0 first_place) (λ ls. resolve_lines (declarations ls) ls 0 first_scope)
  unfolding read_text
  by-passes = rw (le-ltb most_bytes (length t) short)

  pub scan-refused : {q r : Answers.Refusal} {l : ℕ} → q ≡ r → refused r l ≡ scan_text t → read_text t ≡ refused q l
  unfolding scan_text then
  scan-refused {q} {r} {l} i e = by-passes ∙ (go (scan_lines (lines t) 0 first_place) e ∙ ap (λ (q : Answers.Refusal). refused q l) (sym i))
    where
      go :
          (v : Verdict (List Rattle.rules.specs.Grammar.Line)) → refused r l ≡ then v (λ ls. accepted (length ls)) →
          then v (λ ls. resolve_lines (declarations ls) ls 0 first_scope) ≡ refused r l
      go (accepted ls) e = absurd (let z : ◌≡◌ {A = ℕ} 0 1 = cc in omega arith)
      go (refused q m) e = cc

  pub scan-taken : (n : ℕ) → accepted n ≡ scan_text t → TextTaken t
  unfolding lines_of
  scan-taken n e = (text-taken t n (sym e)).0

  pub read-resolved : TextTaken t → read_text t ≡ resolved_text t
  unfolding then
  read-resolved k = by-passes ∙ rw k

-- PASS 2 BY ITS CASES
module _ (t w : List ℕ) (r : Result Pass RefusedLine) (x : ResolvedIs t w r) where
  pub lines-refused : (q : RefusedLine) → r ≡ Err q → resolved_text t ≡ refused (refusal_of q.why) q.line
  unfolding ResolvedIs
  lines-refused q e = subst (ResolvedIs t w) e x

  pub all_read : (p : Pass) → r ≡ Ok p → AllRead t w p
  unfolding ResolvedIs
  all_read p e = subst (ResolvedIs t w) e x

-- THE END
module _ {t w : List ℕ} {p : Pass} (x : AllRead t w p) where
  F : Program
  F = with_items no_program 0 x.items

  pub finish-fits :
      ((p.rows ≤ 256) × (p.atoms < 65536))
      × ((p.names.classes < 256) × ((p.names.methods < 256) × (p.main < 65536)))
  finish-fits =
      let h = x.stands.holds in
      let s = x.stands in (
        (omega (arith, h.rows.few, s.rows), omega (arith, h.atoms.few)),
        (omega (arith, h.classes.few, s.classes, x.classes), (omega (arith, h.methods.few, s.methods, x.methods), omega (arith, h.main, h.rows.few, s.main))),
      )

  -- what `finish` leaves
  unfoldable pub ended : List ℕ
  ended = put_header (targets_from w 0 p.rows []) p.rows p.atoms p.names.classes p.names.methods p.main

  ended_is : ended ≡ ended_tables w F p.atoms
  unfolding ended F
  ended_is =
      let s = x.stands in
      rw (← s.rows, ← s.main, ← x.classes, ← x.methods, ← s.classes, ← s.methods)

  noted : TextTaken t → {w' : List ℕ} → Ended w w' F p.atoms → Noted t w'
  unfolding declarations_in F
  noted k {w'} e =
      let s = x.stands in
      let d : declarations_in t w' p.names ≡ declarations (lines_of t) = names-kept t w w' p.names x.fits e.names ∙ x.declared in
      record {
        taken = k;
        lines = x.lines;
        table = table_kept {w' = w'} x.table (λ i a b. e.names i (omega (arith, a)) b);
        classes = ap (names_from t w' classes_first) (e.classes ∙ (s.classes ∙ x.classes)) ∙ ap (λ (Γ : Declarations). Γ.classes) d;
        methods = ap (run (λ j. as_method (entry_at t w' j)) methods_first) (e.methods ∙ (s.methods ∙ x.methods)) ∙ ap (λ (Γ : Declarations). Γ.methods) d;
      }

  pub tabled : TextTaken t → length t ≤ most_bytes → {w' : List ℕ} → w' ≡ ended → Tabled t w' p.unframed
  unfolding F program
  tabled k h {w'} i =
      let s = x.stands in
      let r = read-resolved t h k ∙ x.resolved in
      let e : Ended w w' F p.atoms =
      subst (λ (v : List ℕ). Ended w v F p.atoms) (sym (i ∙ ended_is)) (read-tables t x.items r (counts p.names) w p.atoms s.holds (sym x.classes ∙ sym s.classes) (sym x.methods ∙ sym s.methods)) in
      record {
        items = x.items;
        read = r;
        resolved = x.resolved;
        tables = e.tables;
        program = e.program;
        framed = x.unframed;
        spare = omega (arith, e.atoms, x.spare);
        noted = noted k e;
      }
