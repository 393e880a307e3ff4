-- Laws of the table of lines: a line that is taken has at least 4 bytes, its word is put and read back, and the table grows line by line.
use mathlib.Core.Path.{◌≡◌, refl, sym, ap, subst, ◌∙◌}
use mathlib.Core.Bool.{Bool, true, false, ◌||◌}
use mathlib.Core.List.{List, [], ◌∷◌}
use mathlib.Core.Logic.{◌⊎◌, inl, inr, ⊎_elim}
use mathlib.Core.Option.{Option, none, some}
use Prim.Native.Nat.{ℕ, ◌+◌, ◌-◌, ◌*◌, ◌≤◌, ◌<◌}
use native.Mathlib.Omega.{arith}
use native.Mathlib.Numerals.{add-one}
use native.Mathlib.Decide.{dec_lt}
use lib.Dec.{leb, leb→le}
use lib.ListN.{length, get_or, drop, length-drop, length-set}
use lib.Seq.{get_or-drop, get_or-set_same, get_or-set_other, length-take-le}
use Rattle.rules.specs.Base.{Name, bytes, bind_option, all}
use Rattle.rules.specs.Base as Base
use Rattle.rules.specs.Limits.{most_bytes, work_bytes}
use Rattle.rules.specs.Text as Text
use Rattle.rules.specs.Text.{up_to, fields}
use Rattle.rules.specs.Grammar as Grammar
use Rattle.rules.specs.Grammar.{Kind, form, kinds, kind_of, is_formed}
use Rattle.rules.specs.Grammar.{statement, If, condition, is_kind}
use Rattle.rules.proofs.Lists.{or_cases, first-in, same_name}
use Rattle.rules.proofs.LineKinds.{every-kind, is_same}
use Rattle.read_bytes.specs.Sets.{in_set, FirstInSet}
use Rattle.read_words.specs.Words.{kind_or0}
use Rattle.read_bytes.specs.declared.Set.TheVariants.{LineEnd, FieldEnd}
use Rattle.read_bytes.proofs.Search.{true-false, up_to-within, up_to-passed}
use Rattle.tables.specs.Layout.{lines_at}
use Rattle.tables.specs.Decode.{byte_at, half_at}
use Rattle.tables.specs.Stores.{put_byte, put_half, Kept}
use Rattle.tables.proofs.BytesRead.{put-half-length, put-half-byte, half-put, half-kept}
use Rattle.read_scan.specs.declared.Word.{Word}
use Rattle.read_fields.specs.Cuts.{part}
use Rattle.read_grammar.specs.Rows.{when_true, formed_kind}
use Rattle.read_scan.specs.Table.{WordAt, line_end, start_of, most_lines, line_place, word_in, put_line, LineTable, Noted}
use Rattle.read_fields.proofs.Cuts.{fields-from, no_more}
use Rattle.read_grammar.proofs.Rows.{kind-known}

-- THE LENGTH OF A LINE

-- the kind of fields that have its form
record FormedAs (ws : List Name) (k : Kind) : Type 0 where
  known : kind_of (get_or ws 0 []) ≡ some k
  formed : is_formed (form k).operands (form k).tail (drop 1 ws) ≡ true

formed-as : (ws : List Name) (k : Kind) → formed_kind ws ≡ some k → FormedAs ws k
unfolding formed_kind bind_option
formed-as ws k e = go (kind_of (get_or ws 0 [])) refl e
  where
    is_of : Kind → Bool
    is_of j = is_formed (form j).operands (form j).tail (drop 1 ws)

    step : (j : Kind) (b : Bool) → is_of j ≡ b → kind_of (get_or ws 0 []) ≡ some j → when_true b j ≡ some k → FormedAs ws k
    step j true q o h = let z : j ≡ k = cc in record { known = o ∙ ap some z; formed = subst (λ i. is_of i ≡ true) z q }
    step j false q o h = absurd (let z : ◌≡◌ {A = ℕ} 0 1 = cc in omega arith)

    go : (o : Option Kind) → kind_of (get_or ws 0 []) ≡ o → bind_option o (λ j. when_true (is_formed (form j).operands (form j).tail (drop 1 ws)) j) ≡ some k → FormedAs ws k
    go none o h = absurd (let z : ◌≡◌ {A = ℕ} 0 1 = cc in omega arith)
    go (some j) o h = step j (is_of j) refl o h

-- its word is that of its kind
word-is : (w : Name) (k : Kind) → kind_of w ≡ some k → bytes (form k).word ≡ w
unfolding kind_of Base.is
word-is w k e = same_name _ _ (first-in _ kinds k e).1

-- of 3 letters or more, but for `if`, which has fields after it
abbrev Long : ℕ → List Name → Type 0
Long n vs = (3 ≤ n) ⊎ ((2 ≤ n) × (vs ≡ [] → ⊥))

if-long : (vs : List Name) → is_formed [] condition vs ≡ true → vs ≡ [] → ⊥
unfolding Grammar.opened Text.is_condition
if-long [] e = true-false (sym e)
if-long (v ∷ vs) e = λ z. absurd (let y : ◌≡◌ {A = ℕ} 0 1 = cc in omega arith)

-- of 3 letters or more, or `if`
long : Kind → Bool
long k = leb 3 (length (bytes (form k).word)) || is_kind (statement If) k

long-word : (k : Kind) (vs : List Name) → is_formed (form k).operands (form k).tail vs ≡ true → Long (length (bytes (form k).word)) vs
unfolding Grammar.opened bytes all long
long-word k vs e =
    ⊎_elim (λ h. inl (leb→le 3 _ h))
    (λ h. let z : statement If ≡ k = is_same (statement If) k h in
    subst (λ k. is_formed (form k).operands (form k).tail vs ≡ true → Long (length (bytes (form k).word)) vs) z
    (λ e. inr (omega arith, if-long vs e)) e)
    (or_cases (leb 3 (length (bytes (form k).word))) (is_kind (statement If) k) (every-kind long tt k))

-- the word of a line ends at its LF or before it
word-before : (t : List ℕ) (a r e : ℕ) → FirstInSet t a FieldEnd r → a ≤ e → get_or t e 0 ≡ 10 → r ≤ e
word-before t a r e f l g = elim (dec_lt e r) [
  | no h ↦ omega arith
  | yes h ↦ (
      let n : up_to (in_set FieldEnd) (drop a t) ≡ r - a = omega (arith, f.is) in
      let z : a + (e - a) ≡ e = omega arith in
      let p = up_to-passed (in_set FieldEnd) (drop a t) (e - a) (omega arith) in
      let q : get_or (drop a t) (e - a) 0 ≡ 10 = get_or-drop a t (e - a) 0 ∙ rw z g in
      true-false (sym (ap (in_set FieldEnd) q) ∙ p))
]

-- the kind and the word's end of a line that has its form
pub record FormedWord (t : List ℕ) (a : ℕ) (r : Word) : Type 0 where
  pub kind : r.kind ≡ kind_or0 (formed_kind (fields (drop a t)))
  pub end : FirstInSet t a FieldEnd r.end

module _ {t : List ℕ} {a : ℕ} {r : Word} (x : FormedWord t a r) (z : r.kind ≡ 0 → ⊥) where
  pub formed-word : WordAt t a r
  formed-word =
      let (k, o, h) = kind-known (formed_kind (fields (drop a t))) r.kind x.kind z in
      let f = formed-as (fields (drop a t)) k o in
      record {
        kind = h ∙ sym (ap kind_or0 f.known);
        high = x.end.high;
        fields = sym (ap (drop 1) (fields-from t a r.end x.end));
      }

  pub long-line : (e : ℕ) → a ≤ e → get_or t e 0 ≡ 10 → a + 3 ≤ e
  long-line e l g =
      let (k, o, h) = kind-known (formed_kind (fields (drop a t))) r.kind x.kind z in
      let f = formed-as (fields (drop a t)) k o in
      let c = fields-from t a r.end x.end in
      let w : bytes (form k).word ≡ part a r.end t = word-is _ k f.known ∙ ap (λ ws. get_or ws 0 []) c in
      let n : length (bytes (form k).word) ≡ r.end - a =
      ap length w ∙ length-take-le (r.end - a) (drop a t) (omega (arith, length-drop a t, x.end.high)) in
      let b = word-before t a r.end e x.end l g in
      ⊎_elim
      (λ m. omega (arith, n, b, m, x.end.low))
      (λ m.
      let d : r.end ≡ e → ⊥ = λ i. m.1 (ap (drop 1) c ∙ no_more t r.end (λ y. omega (arith, y, g, ap (λ j. get_or t j 0) i))) in
      omega (arith, n, b, m.0, d, x.end.low))
      (long-word k (drop 1 (fields (drop a t))) f.formed)

-- WHERE LINES BEGIN
pub found-end : (t : List ℕ) (a : ℕ) → a ≤ length t → FirstInSet t a LineEnd (line_end t a)
unfolding line_end
found-end t a h = record { low = omega arith; high = omega (arith, up_to-within (in_set LineEnd) (drop a t), length-drop a t); is = refl }

pub next_start : (t : List ℕ) (i : ℕ) → start_of t (i + 1) ≡ line_end t (start_of t i) + 1
unfolding start_of
next_start t i = rw (add-one i)

-- WHAT IS PUT
module _ (w : List ℕ) (i : ℕ) (x : Word) where
  abbrev ended : List ℕ
  ended = put_half w (line_place i) x.end

  pub line-length : length (put_line w i x) ≡ length w
  unfolding put_line
  line-length = length-set ended (line_place i + 2) x.kind ∙ put-half-length w (line_place i) x.end

  pub line-others : Kept lines_at (line_place i) w (put_line w i x)
  unfolding put_line
  line-others j a b =
      get_or-set_other ended (line_place i + 2) j x.kind 0 (λ e. omega arith)
      ∙ put-half-byte w (line_place i) x.end j (inl b)

  pub line-put : length w ≡ work_bytes → i < most_lines → x.end < 65536 → word_in (put_line w i x) i ≡ x
  unfolding put_line
  line-put l h b =
      let u : List ℕ = put_byte ended (line_place i + 2) x.kind in
      let n : length ended ≡ length w = put-half-length w (line_place i) x.end in
      let kind : byte_at u (line_place i + 2) ≡ x.kind = get_or-set_same ended (line_place i + 2) x.kind 0 (omega (arith, n)) in
      let p : byte_at u (line_place i) ≡ byte_at ended (line_place i) = get_or-set_other ended (line_place i + 2) (line_place i) x.kind 0 (λ e. omega arith) in
      let q : byte_at u (line_place i + 1) ≡ byte_at ended (line_place i + 1) =
      get_or-set_other ended (line_place i + 2) (line_place i + 1) x.kind 0 (λ e. omega arith) in
      let end : half_at u (line_place i) ≡ x.end = omega (arith, p, q, half-put w (line_place i) x.end (omega arith) b) in
      λ j. record { kind = kind j; end = end j }

word_kept : (b : ℕ) (w w' : List ℕ) (i : ℕ) → Kept lines_at b w w' → line_place i + 3 ≤ b → word_in w' i ≡ word_in w i
word_kept b w w' i k h =
    let kind : byte_at w' (line_place i + 2) ≡ byte_at w (line_place i + 2) = k (line_place i + 2) (omega arith) (omega arith) in
    let end : half_at w' (line_place i) ≡ half_at w (line_place i) = half-kept lines_at b w w' k (line_place i) (omega arith) (omega arith) in
    λ j. record { kind = kind j; end = end j }

-- a line that is taken is noted where its word is put
pub line-noted :
    {t w u : List ℕ} {a e n : ℕ} {r : Word} → FormedWord t a r → (r.kind ≡ 0 → ⊥) → a ≤ e → get_or t e 0 ≡ 10 →
    length t ≤ most_bytes → length w ≡ work_bytes → n < most_lines → u ≡ put_line w n r → Noted t w a e n u
line-noted {t} {w} {u} {a} {e} {n} {r} x z h g b l m i =
    subst (Noted t w a e n) (sym i)
    (record {
      word = subst (WordAt t a) (sym (line-put w n r l m (omega (arith, x.end.high)))) (formed-word x z);
      long = long-line x z e h g;
      others = line-others w n r;
    })

-- THE TABLE AS IT GROWS

-- the n lines before a are noted
pub record Tabled (t w : List ℕ) (a n : ℕ) : Type 0 where
  pub words : (i : ℕ) → i < n → WordAt t (start_of t i) (word_in w i)
  pub within : (i : ℕ) → i < n → start_of t i < length t
  pub begins : a ≡ start_of t n
  pub short : 4 * n ≤ a

pub tabled-first : (t w : List ℕ) → Tabled t w 0 0
unfolding start_of
tabled-first t w =
    record { words = λ i h. absurd (omega arith); within = λ i h. absurd (omega arith); begins = refl; short = omega arith }

module _ {t w : List ℕ} {a n : ℕ} (x : Tabled t w a n) where
  pub tabled-on : {e : ℕ} {w' : List ℕ} → a < length t → FirstInSet t a LineEnd e → Noted t w a e n w' → Tabled t w' (e + 1) (n + 1)
  unfolding line_end
  tabled-on {e} {w'} l f y =
      record {
        words = λ i h. elim (dec_lt i n) [
          | yes m ↦ subst (WordAt t (start_of t i)) (sym (word_kept (line_place n) w w' i y.others (omega arith))) (x.words i m)
          | no m ↦ (let z : n ≡ i = omega arith in subst (λ j. WordAt t (start_of t j) (word_in w' j)) z (subst (λ b. WordAt t b (word_in w' n)) x.begins y.word))
        ];
        within = λ i h. elim (dec_lt i n) [
          | yes m ↦ x.within i m
          | no m ↦ (let z : n ≡ i = omega arith in subst (λ j. start_of t j < length t) z (subst (λ b. b < length t) x.begins l))
        ];
        begins = ap (λ k. k + 1) (f.is ∙ ap (line_end t) x.begins) ∙ sym (next_start t n);
        short = omega (arith, y.long, x.short);
      }

  pub tabled-all : length t ≤ most_bytes → a ≤ length t → length t ≤ a → LineTable t w n
  tabled-all b h l =
      record {
        words = x.words;
        within = x.within;
        room = omega (arith, x.short);
        all = subst (λ b. length t ≤ b) x.begins l;
      }

-- a table whose bytes stay
pub table_kept : {t w w' : List ℕ} {n : ℕ} → LineTable t w n → Kept lines_at work_bytes w w' → LineTable t w' n
table_kept {t} {w} {w'} {n} x k =
    record {
      words = λ i h. subst (WordAt t (start_of t i)) (sym (word_kept work_bytes w w' i k (omega (arith, x.room)))) (x.words i h);
      within = x.within;
      room = x.room;
      all = x.all;
    }
