-- Laws of what is written: a row reads back as it was written, and all else stays.
use mathlib.Core.Path.{◌≡◌, sym, ap, ◌∙◌}
use mathlib.Core.List.{List, [], ◌∷◌, ◌++◌}
use mathlib.Core.Bool.{cond}
use mathlib.Core.Logic.{◌⊎◌, inl, inr}
use Prim.Native.Nat.{ℕ, ◌+◌, ◌≤◌, ◌<◌}
use native.Mathlib.Omega.{arith}
use native.Mathlib.Numerals.{add-one}
use lib.Dec.{eqb}
use lib.ListN.{length, length-set}
use lib.Seq.{get_or-set_same, get_or-set_other}
use Rattle.rules.specs.Limits.{work_bytes}
use Rattle.tables.specs.Decode.{byte_at, half_at}
use Rattle.tables.specs.Stores.{put_byte, put_half, Kept, SameTables}
use Rattle.tables.proofs.BytesRead.{Outside, put-half-length, put-half-byte, half-put, half-kept}
use Rattle.read_names.specs.declared.Span.{Span}
use Rattle.read_names.specs.declared.Row.{Row}
use Rattle.tables.specs.Decode.{run}
use Rattle.read_names.specs.Rows.{row_bytes, row_place, most_rows, name_in, span_at, no_span, owner_at, written_at, gives_at, takes_at, key_of, key_at, name_at, Entry, entry_at, entry_of, SpanFits, RowFits, put_span, put_row}
use Rattle.tables.proofs.Runs.{run_moved, run_more}
use Rattle.read_names.proofs.Keys.{named}

pub none-fits : SpanFits no_span
none-fits = record { start = omega arith; len = omega arith }

-- A PLACE
byte-other : (w : List ℕ) (i v j : ℕ) → Outside i 1 j → byte_at (put_byte w i v) j ≡ byte_at w j
byte-other w i v j (inl l) = get_or-set_other w i j v 0 (λ e. omega arith)
byte-other w i v j (inr l) = get_or-set_other w i j v 0 (λ e. omega arith)

-- of a part of what is outside
outside-part : (i n j p m : ℕ) → Outside i n j → i ≤ p → p + m ≤ i + n → Outside p m j
outside-part i n j p m (inl l) a b = inl (omega arith)
outside-part i n j p m (inr l) a b = inr (omega arith)

module _ (w : List ℕ) (p : ℕ) (s : Span) where
  pub span-length : length (put_span w p s) ≡ length w
  unfolding put_span
  span-length = length-set (put_half w p s.start) (p + 2) s.len ∙ put-half-length w p s.start

  pub span-other : (j : ℕ) → Outside p 3 j → byte_at (put_span w p s) j ≡ byte_at w j
  unfolding put_span
  span-other j o =
      byte-other (put_half w p s.start) (p + 2) s.len j (outside-part p 3 j (p + 2) 1 o (omega arith) (omega arith))
      ∙ put-half-byte w p s.start j (outside-part p 3 j p 2 o (omega arith) (omega arith))

  pub span-put : p + 3 ≤ length w → SpanFits s → span_at (put_span w p s) p ≡ s
  unfolding put_span
  span-put l f =
      let h : List ℕ = put_half w p s.start in
      let a : byte_at (put_byte h (p + 2) s.len) p ≡ byte_at h p = get_or-set_other h (p + 2) p s.len 0 (λ e. omega arith) in
      let b : byte_at (put_byte h (p + 2) s.len) (p + 1) ≡ byte_at h (p + 1) =
      get_or-set_other h (p + 2) (p + 1) s.len 0 (λ e. omega arith) in
      let n : length h ≡ length w = put-half-length w p s.start in
      let start : half_at (put_byte h (p + 2) s.len) p ≡ s.start =
      omega (arith, a, b, half-put w p s.start (omega arith) f.start) in
      let len : byte_at (put_byte h (p + 2) s.len) (p + 2) ≡ s.len = get_or-set_same h (p + 2) s.len 0 (omega (arith, n)) in
      λ j. record { start = start j; len = len j }

span-kept : (w w' : List ℕ) (p : ℕ) → Kept p (p + 3) w w' → span_at w' p ≡ span_at w p
span-kept w w' p k =
    let start : half_at w' p ≡ half_at w p = half-kept p (p + 3) w w' k p (omega arith) (omega arith) in
    let len : byte_at w' (p + 2) ≡ byte_at w (p + 2) = k (p + 2) (omega arith) (omega arith) in
    λ j. record { start = start j; len = len j }

-- A ROW
-- rows that have the same bytes mean the same
pub entry_kept : (t w w' : List ℕ) (i : ℕ) → Kept (row_place i) (row_place i + row_bytes) w w' → entry_at t w' i ≡ entry_at t w i
unfolding entry_at name_at
entry_kept t w w' i k =
    let part : (p : ℕ) → row_place i ≤ p → p + 3 ≤ row_place i + row_bytes → span_at w' p ≡ span_at w p =
    λ p a b. span-kept w w' p (λ j l m. k j (omega arith) (omega arith)) in
    let owner : owner_at w' i ≡ owner_at w i = k (row_place i) (omega arith) (omega arith) in
    let key : key_at w' i ≡ key_at w i = k (row_place i + 10) (omega arith) (omega arith) in
    let written : written_at w' i ≡ written_at w i = part (row_place i + 1) (omega arith) (omega arith) in
    let name : name_at t w' i ≡ name_at t w i = λ j. cond (eqb (key j) (key_of (name_in t (written j)))) (written j) no_span in
    let gives : name_in t (gives_at w' i) ≡ name_in t (gives_at w i) = ap (name_in t) (part (row_place i + 4) (omega arith) (omega arith)) in
    let takes : name_in t (takes_at w' i) ≡ name_in t (takes_at w i) = ap (name_in t) (part (row_place i + 7) (omega arith) (omega arith)) in
    λ j. record { owner = owner j; name = name_in t (name j); gives = gives j; takes = takes j }

module _ (t w : List ℕ) (i : ℕ) (r : Row) where
  abbrev key : ℕ
  key = key_of (name_in t r.name)

  -- the area with one part more each
  abbrev one : List ℕ
  one = put_byte w (row_place i) r.owner

  abbrev two : List ℕ
  two = put_span one (row_place i + 1) r.name

  abbrev three : List ℕ
  three = put_span two (row_place i + 4) r.gives

  abbrev four : List ℕ
  four = put_span three (row_place i + 7) r.takes

  pub row-length : length (put_row t w i r) ≡ length w
  unfolding put_row
  row-length =
      length-set four (row_place i + 10) key
      ∙ (span-length three (row_place i + 7) r.takes
      ∙ (span-length two (row_place i + 4) r.gives
      ∙ (span-length one (row_place i + 1) r.name ∙ length-set w (row_place i) r.owner)))

  -- all bytes but those of the row
  pub row_other : (j : ℕ) → Outside (row_place i) row_bytes j → byte_at (put_row t w i r) j ≡ byte_at w j
  unfolding put_row
  row_other j o =
      byte-other four (row_place i + 10) key j (outside-part (row_place i) row_bytes j (row_place i + 10) 1 o (omega arith) (omega arith))
      ∙ (span-other three (row_place i + 7) r.takes j (outside-part (row_place i) row_bytes j (row_place i + 7) 3 o (omega arith) (omega arith))
      ∙ (span-other two (row_place i + 4) r.gives j (outside-part (row_place i) row_bytes j (row_place i + 4) 3 o (omega arith) (omega arith))
      ∙ (span-other one (row_place i + 1) r.name j (outside-part (row_place i) row_bytes j (row_place i + 1) 3 o (omega arith) (omega arith))
      ∙ byte-other w (row_place i) r.owner j (outside-part (row_place i) row_bytes j (row_place i) 1 o (omega arith) (omega arith)))))

  -- the tables stand below
  pub row-tables : SameTables w (put_row t w i r)
  row-tables = record { size = row-length; bytes = λ j a b. row_other j (inl (omega arith)) }

  pub other_row : (j : ℕ) → (j < i) ⊎ (i < j) → entry_at t (put_row t w i r) j ≡ entry_at t w j
  other_row j (inl l) = entry_kept t w (put_row t w i r) j (λ k a b. row_other k (inl (omega arith)))
  other_row j (inr l) = entry_kept t w (put_row t w i r) j (λ k a b. row_other k (inr (omega arith)))

  pub row_put : length w ≡ work_bytes → i < most_rows → RowFits r → entry_at t (put_row t w i r) i ≡ entry_of t r
  unfolding put_row entry_at entry_of
  row_put size l f =
      let n1 : length one ≡ length w = length-set w (row_place i) r.owner in
      let n2 : length two ≡ length one = span-length one (row_place i + 1) r.name in
      let n3 : length three ≡ length two = span-length two (row_place i + 4) r.gives in
      let n4 : length four ≡ length three = span-length three (row_place i + 7) r.takes in
      let five : List ℕ = put_byte four (row_place i + 10) key in
      let k5 : (j : ℕ) → j < row_place i + 10 → byte_at five j ≡ byte_at four j = λ j m. byte-other four (row_place i + 10) key j (inl m) in
      let k4 : (j : ℕ) → j < row_place i + 7 → byte_at five j ≡ byte_at three j =
      λ j m. k5 j (omega arith) ∙ span-other three (row_place i + 7) r.takes j (inl m) in
      let k3 : (j : ℕ) → j < row_place i + 4 → byte_at five j ≡ byte_at two j =
      λ j m. k4 j (omega arith) ∙ span-other two (row_place i + 4) r.gives j (inl m) in
      let owner : owner_at five i ≡ r.owner =
      k3 (row_place i) (omega arith)
      ∙ (span-other one (row_place i + 1) r.name (row_place i) (inl (omega arith)) ∙ get_or-set_same w (row_place i) r.owner 0 (omega arith)) in
      let written : written_at five i ≡ r.name =
      span-kept two five (row_place i + 1) (λ j a b. k3 j (omega arith)) ∙ span-put one (row_place i + 1) r.name (omega arith) f.name in
      let gives : gives_at five i ≡ r.gives =
      span-kept three five (row_place i + 4) (λ j a b. k4 j (omega arith)) ∙ span-put two (row_place i + 4) r.gives (omega arith) f.gives in
      let takes : takes_at five i ≡ r.takes =
      span-kept four five (row_place i + 7) (λ j a b. k5 j (omega arith)) ∙ span-put three (row_place i + 7) r.takes (omega arith) f.takes in
      let keyed : key_at five i ≡ key = get_or-set_same four (row_place i + 10) key 0 (omega arith) in
      let name : name_at t five i ≡ r.name = named t five i (keyed ∙ ap (λ s. key_of (name_in t s)) (sym written)) ∙ written in
      λ j. record { owner = owner j; name = name_in t (name j); gives = name_in t (gives j); takes = name_in t (takes j) }

-- RANGES OF ROWS: read by f
module _ {A : Type 0} (f : Entry → A) (t : List ℕ) where
  -- n rows from `from` on that have the same bytes
  pub range-kept :
      (w w' : List ℕ) (from n : ℕ) → Kept (row_place from) (row_place (from + n)) w w' →
      run (λ j. f (entry_at t w' j)) from n ≡ run (λ j. f (entry_at t w j)) from n
  range-kept w w' from n k =
      run_moved (λ j. f (entry_at t w' j)) (λ j. f (entry_at t w j)) from from n
      (λ i l. ap f (entry_kept t w w' (from + i) (λ j a b. k j (omega arith) (omega arith))))

  module _ (w : List ℕ) (i : ℕ) (r : Row) where
    pub range_other :
        (from n : ℕ) → (i < from) ⊎ (from + n ≤ i) →
        run (λ j. f (entry_at t (put_row t w i r) j)) from n ≡ run (λ j. f (entry_at t w j)) from n
    range_other from n (inl o) = range-kept w (put_row t w i r) from n (λ j a b. row_other t w i r j (inr (omega arith)))
    range_other from n (inr o) = range-kept w (put_row t w i r) from n (λ j a b. row_other t w i r j (inl (omega arith)))

    -- one row more, at the end
    pub range-more :
        (from n : ℕ) → from + n ≡ i → length w ≡ work_bytes → i < most_rows → RowFits r →
        run (λ j. f (entry_at t (put_row t w i r) j)) from (n + 1) ≡ run (λ j. f (entry_at t w j)) from n ++ (f (entry_of t r) ∷ [])
    range-more from n e size l fits =
        rw (add-one, run_more (λ j. f (entry_at t (put_row t w i r) j)) from n, range_other from n (inr (omega arith)), e, row_put t w i r size l fits)
