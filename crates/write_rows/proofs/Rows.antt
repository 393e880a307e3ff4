-- One more statement row.
use mathlib.Core.Path.{◌≡◌, refl, ap, ◌∙◌}
use mathlib.Core.List.{List, [], ◌∷◌, ◌++◌}
use mathlib.Core.Logic.{inl, inr, ⊎_elim}
use Prim.Native.Nat.{ℕ, suc, ◌+◌, ◌/◌, ◌%◌, ◌≤◌, ◌<◌}
use native.Mathlib.Omega.{arith}
use lib.ListN.{length, get_or}
use borrow.Author.Count.{below_more}
use Rattle.rules.specs.Limits.{most_statements, work_bytes}
use Rattle.rules.specs.Grammar.{set_kind, open_kind}
use Rattle.rules.specs.Syntax.{Stmt, Row, Program}
use Rattle.rules.specs.Items.{a_statement}
use Rattle.rules.specs.Reading.{with_item}
use Rattle.tables.specs.declared.Operands.{Operands}
use Rattle.tables.specs.Layout.{names_at, most_atom_rows}
use Rattle.tables.specs.Decode.{byte_at, half_at, row_place, operands_at, stmt_of, row_at}
use Rattle.tables.specs.Tables.{Declared, HasField, OperandsFit}
use Rattle.tables.specs.Stores.{Kept}
use Rattle.tables.proofs.Runs.{run-grown, end-length}
use Rattle.tables.proofs.Kept.{all-rows, stmt-kept}
use Rattle.write_rows.specs.Puts.{bytes_of_row, put_row, RowBytes}
use Rattle.write_rows.specs.Holds.{Holds}
use Rattle.write_rows.proofs.Puts.{put-length, put_same, put-same-half, Clear, put-kept}
use Rattle.write_rows.proofs.Kept.{method-more, SameRows, holds_kept}

-- the kinds between that of `set` and that of `open` name no field
pub no_field : {A : Type 0} (k : ℕ) → (set_kind < k) × (k < open_kind) → HasField k → A
no_field k l h = ⊎_elim (λ e. absurd (omega arith)) (λ h. ⊎_elim (λ e. absurd (omega arith)) (λ e. absurd (omega arith)) h) h

module _ (w : List ℕ) (i : ℕ) (r : Operands) (size : length w ≡ work_bytes) (room : i < most_statements) where
  row-byte : (k j : ℕ) → j ≡ row_place i + k → k < 12 → byte_at (put_row w i r) j ≡ get_or (bytes_of_row r) k 0
  unfolding put_row bytes_of_row
  row-byte k j e l = put_same w (row_place i) (bytes_of_row r) k j e l (omega arith)

  row-half :
      (k v : ℕ) → k + 2 ≤ 12 → get_or (bytes_of_row r) k 0 ≡ v % 256 → get_or (bytes_of_row r) (k + 1) 0 ≡ v / 256 →
      half_at (put_row w i r) (row_place i + k) ≡ v
  unfolding put_row bytes_of_row
  row-half k v l p q = put-same-half w (row_place i) (bytes_of_row r) k (row_place i + k) v refl l (omega arith) p q

  pub operands-written : operands_at (put_row w i r) i ≡ r
  unfolding bytes_of_row
  operands-written = λ j.
      record {
        kind = row-byte 0 (row_place i) (omega arith) (omega arith) j;
        x = row-byte 1 (row_place i + 1) refl (omega arith) j;
        y = row-byte 2 (row_place i + 2) refl (omega arith) j;
        z = row-byte 3 (row_place i + 3) refl (omega arith) j;
        member = row-byte 4 (row_place i + 4) refl (omega arith) j;
        atoms = row-byte 5 (row_place i + 5) refl (omega arith) j;
        first = row-half 6 r.first (omega arith) refl refl j;
        line = row-half 8 r.line (omega arith) refl refl j;
      }

  -- other bytes
  pub row_kept : (a b : ℕ) → Clear (row_place i) 12 a b → Kept a b w (put_row w i r)
  unfolding put_row bytes_of_row
  row_kept a b o = put-kept w (row_place i) (bytes_of_row r) a b o

  pub row-names : Kept names_at work_bytes w (put_row w i r)
  row-names = row_kept names_at work_bytes (inr (omega arith))

  pub row-length : length (put_row w i r) ≡ length w
  unfolding put_row
  row-length = put-length w (row_place i) (bytes_of_row r)

module _
    (D : Declared) (w : List ℕ) (F : Program) (n : ℕ) (r : Operands) (room : length F.rows < most_statements) (ok : OperandsFit D n r)
    (h : Holds D w F n) where
  after : List ℕ
  after = put_row w (length F.rows) r

  same_rows : SameRows w after F n
  unfolding after
  same_rows =
      let K : (a b : ℕ) → Clear (row_place (length F.rows)) 12 a b → Kept a b w (put_row w (length F.rows) r) =
      row_kept w (length F.rows) r h.size room in
      record {
        size = row-length w (length F.rows) r h.size room;
        atoms = K _ _ (inr (omega arith));
        rows = all-rows (length F.rows) w after (K _ _ (inl (omega arith)));
        methods = K _ _ (inr (omega arith));
        classes = K _ _ (inr (omega arith));
        places = K _ _ (inr (omega arith));
      }

  here : operands_at after (length F.rows) ≡ r
  unfolding after
  here = operands-written w (length F.rows) r h.size room

  new_row : row_at after (length F.rows) ≡ record { line = r.line; stmt = stmt_of w r }
  unfolding row_at
  new_row =
      let s : stmt_of after (operands_at after (length F.rows)) ≡ stmt_of w r =
      ap (stmt_of after) here ∙ stmt-kept w after n same_rows.atoms D r ok in
      λ j. record { line = (here j).line; stmt = s j }

  row_more : Holds D after (with_item F r.line (a_statement (stmt_of w r))) n
  unfolding with_item
  row_more =
      let h' : Holds D after F n = holds_kept D w _ F n same_rows h in
      let new : Row = record { line = r.line; stmt = stmt_of w r } in
      let one : length (F.rows ++ (new ∷ [])) ≡ suc (length F.rows) = end-length F.rows new in
      record {
        size = h'.size;
        main = omega (arith, h.main, one);
        atoms = h'.atoms;
        rows =
            record {
              few = omega (arith, one);
              mean =
                  run-grown (row_at after) (row_at after) F.rows h'.rows.mean new (λ k l. refl)
                  new_row;
              fit = λ i l.
                  below_more (λ (k : ℕ). OperandsFit D n (operands_at after k)) (length F.rows) h'.rows.fit (rw here ok) i
                  (omega (arith, one));
            };
        methods =
            record {
              few = h'.methods.few;
              mean = h'.methods.mean;
              fit = λ i l. method-more (omega arith) (omega (arith, one)) (h'.methods.fit i l);
            };
        classes = h'.classes;
      }

-- the next row, with operands that fit, which means s
pub row_written :
    (D : Declared) (w : List ℕ) (F : Program) (n : ℕ) (r : Operands) (s : Stmt) → length F.rows < most_statements →
    OperandsFit D n r → stmt_of w r ≡ s → Holds D w F n →
    Holds D (put_row w (length F.rows) r) (with_item F r.line (a_statement s)) n
unfolding after
row_written D w F n r s room ok means h = rw (← means) (row_more D w F n r room ok h)

-- what the writer asks
pub row_bytes :
    (D : Declared) (n : ℕ) (r : Operands) → n ≤ most_atom_rows → r.member < 256 → r.line < 65536 → OperandsFit D n r → RowBytes r
row_bytes D n r few m l o =
    record {
      kind = omega (arith, o.kind);
      x = omega (arith, o.x);
      y = omega (arith, o.y);
      z = omega (arith, o.z);
      member = m;
      atoms = omega (arith, o.atoms);
      first = omega (arith, o.atoms);
      line = l;
    }
