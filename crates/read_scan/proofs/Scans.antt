-- Laws of the pass: one line, the loop over all lines, and what a text that is taken consists of.
use mathlib.Core.Path.{◌≡◌, refl, sym, ap, ◌∙◌}
use mathlib.Core.Bool.{Bool, true, false, cond}
use mathlib.Core.List.{List, [], ◌∷◌, map}
use mathlib.Core.Option.{Option, none, some}
use Prim.Native.Nat.{ℕ, suc, ◌+◌, ◌≤◌, ◌<◌}
use native.Mathlib.Omega.{arith}
use native.Mathlib.Numerals.{add-one}
use lib.Dec.{eqb}
use lib.ListN.{length, get_or, drop, length-drop, length-map}
use borrow.Author.Tests.{eq-eqb, ne_eqb}
use Rattle.rules.specs.Base.{Name, Try, ok, no, check, or_else, ◌>>=◌, ◌>>◌, bind_option, with_default}
use Rattle.rules.specs.Answers.{Verdict, accepted, refused, at_line, then, bad_byte, malformed, limit_passed, text_ends}
use Rattle.rules.specs.Answers as Answers
use Rattle.rules.specs.Text as Text
use Rattle.rules.specs.Text.{lines, onto, clean}
use Rattle.rules.specs.Grammar.{Kind, Line, after_main, form, IsKindNumber, kind_of, is_formed, read_line}
use Rattle.rules.specs.Places as Places
use Rattle.rules.specs.Places.{Placed, stage_number, place_line, scan_line, scan_lines, ended, first_place}
use Rattle.rules.proofs.Lists.{T_true}
use Rattle.rules.proofs.Tries.{no_ok, ok-inj, bind_ok, check-ok, or_else-ok, at_line-accepted, then-accepted, accepted-inj, refused-accepted}
use Rattle.read_words.specs.Words.{kind_or0}
use Rattle.read_grammar.specs.declared.Place.{Place}
use Rattle.read_scan.specs.declared.Refusal.{Refusal}
use Rattle.read_fields.specs.Cuts.{part, first_line, CleanLine}
use Rattle.read_grammar.specs.Rows.{when_true, kind_numbered, formed_kind}
use Rattle.read_grammar.specs.Coded.{coded, in_place, place_after, within_limits}
use Rattle.read_scan.specs.Scans.{refusal_of, next_place, scan_text, line_of}
use Rattle.read_fields.proofs.Cuts.{first-clean, no_lines}
use Rattle.read_grammar.proofs.Rows.{kind-known, kind-none, kind-of-number}
use Rattle.read_grammar.proofs.Coded.{within-is, in-place-is, place-after-is}

-- THE PLACE OF A LINE
pub place-line-is :
    (s : Place) (k : ℕ) → IsKindNumber k → (p : Places.Place) → s ≡ coded p →
    next_place (in_place k s) (within_limits (place_after k s)) (place_after k s) ≡ (place_line p (kind_numbered k) >>= λ q. ok (coded q))
unfolding place_line next_place check ◌>>◌ ◌>>=◌
place-line-is s k h p e =
    rw (e, in-place-is p k h, place-after-is p k h, within-is)
    (go (Places.in_place (kind_numbered k) p) (Places.within_limits (Places.place_after (kind_numbered k) p)) _)
  where
    go :
        (x y : Bool) (q : Places.Place) →
        next_place x y (coded q) ≡ (check x malformed >> (check y limit_passed >> ok q) >>= λ r. ok (coded r))
    go true true q = refl
    go true false q = refl
    go false y q = refl

-- ONE LINE
abbrev line_with : Name → Kind → Try Answers.Refusal Line
line_with l k = ok (record { kind = k; fields = drop 1 (Text.fields l) })

abbrev placed_with : Line → Places.Place → Try Answers.Refusal Placed
placed_with a q = ok (record { line = a; next = q })

abbrev next_of : Placed → Try Answers.Refusal Place
next_of x = ok (coded x.next)

read-is :
    (l : Name) →
    read_line l ≡ (check (clean l) bad_byte >> (or_else (formed_kind (Text.fields l)) malformed >>= line_with l))
unfolding read_line formed_kind bind_option or_else check ◌>>◌ ◌>>=◌
read-is l = ap (check (clean l) bad_byte >>◌) (go (kind_of (get_or (Text.fields l) 0 [])))
  where
    well : Kind → Bool
    well k = is_formed (form k).operands (form k).tail (drop 1 (Text.fields l))

    more : (k : Kind) (b : Bool) → (check b malformed >> line_with l k) ≡ (or_else (when_true b k) malformed >>= line_with l)
    more k true = refl
    more k false = refl

    go :
        (o : Option Kind) →
        (or_else o malformed >>= λ k. check (well k) malformed >> line_with l k)
        ≡ (or_else (bind_option o (λ k. when_true (well k) k)) malformed >>= line_with l)
    go none = refl
    go (some k) = more k (well k)

module _ (p : Places.Place) (l : Name) where
  pub bad-scan : clean l ≡ false → (scan_line p l >>= next_of) ≡ no bad_byte
  unfolding scan_line check ◌>>◌ ◌>>=◌
  bad-scan e = rw (read-is l, e)

  pub unformed-scan : clean l ≡ true → kind_or0 (formed_kind (Text.fields l)) ≡ 0 → (scan_line p l >>= next_of) ≡ no malformed
  unfolding scan_line check or_else ◌>>◌ ◌>>=◌
  unformed-scan e z = rw (read-is l, e, kind-none (formed_kind (Text.fields l)) z)

  pub formed-scan :
      (n : ℕ) → clean l ≡ true → n ≡ kind_or0 (formed_kind (Text.fields l)) → (n ≡ 0 → ⊥) →
      (scan_line p l >>= next_of) ≡ (place_line p (kind_numbered n) >>= λ q. ok (coded q))
  unfolding scan_line check or_else ◌>>◌ ◌>>=◌
  formed-scan n e h z = let (k, f, g) = kind-known (formed_kind (Text.fields l)) n h z in known k f (ap kind_numbered g ∙ kind-of-number k)
    where
      same : (a : Line) (r : Try Answers.Refusal Places.Place) → (r >>= placed_with a >>= next_of) ≡ (r >>= λ q. ok (coded q))
      same a (ok q) = refl
      same a (no e) = refl

      known :
          (k : Kind) → formed_kind (Text.fields l) ≡ some k → kind_numbered n ≡ k →
          (scan_line p l >>= next_of) ≡ (place_line p (kind_numbered n) >>= λ q. ok (coded q))
      known k f m = rw (read-is l, e, f, m) (same _ (place_line p k))

-- A LINE THAT IS TAKEN
pub read-line-of : (l : Name) (a : Line) → read_line l ≡ ok a → a ≡ line_of l
unfolding read_line line_of with_default
read-line-of l a e =
    let (c, f) = check-ok (clean l) bad_byte e in
    let (k, g, h) = bind_ok (or_else (kind_of (get_or (Text.fields l) 0 [])) malformed) f in
    let (w, i) = check-ok (is_formed (form k).operands (form k).tail (drop 1 (Text.fields l))) malformed h in
    rw (or_else-ok (kind_of (get_or (Text.fields l) 0 [])) malformed k g) (sym (ok-inj i))

-- what a line that is taken shows
pub record LinePlaced (p : Places.Place) (l : Name) (x : Placed) : Type 0 where
  pub read : read_line l ≡ ok (line_of l)
  pub line : x.line ≡ line_of l
  pub place : place_line p (line_of l).kind ≡ ok x.next
  pub within : Places.within_limits x.next ≡ true

pub line_taken : (p : Places.Place) (l : Name) (x : Placed) → scan_line p l ≡ ok x → LinePlaced p l x
unfolding scan_line place_line
line_taken p l x e =
    let (a, r, f) = bind_ok (read_line l) e in
    let (q, g, h) = bind_ok (place_line p a.kind) f in
    let (i, m) = check-ok (Places.in_place a.kind p) malformed g in
    let (w, n) = check-ok (Places.within_limits (Places.place_after a.kind p)) limit_passed m in
    let o = read-line-of l a r in
    let j : record { line = a; next = q } ≡ x = ok-inj h in
    record {
      read = r ∙ ap ok o;
      line = ap (λ (y : Placed). y.line) (sym j) ∙ o;
      place = ap (λ (b : Line). place_line p b.kind) (sym o) ∙ (g ∙ ap (λ (y : Placed). ok y.next) j);
      within = rw (← j, ← ok-inj n) (T_true _ w);
    }

-- ALL LINES
some-lines : (t : List ℕ) → 0 < length t → lines t ≡ first_line t ∷ drop 1 (lines t)
unfolding lines onto first_line
some-lines [] h = absurd (omega arith)
some-lines (b ∷ t) h = go (eqb b 10) (lines t)
  where
    go :
        (q : Bool) (ws : List Name) →
        cond q ((10 ∷ []) ∷ ws) (onto b ws) ≡ get_or (cond q ((10 ∷ []) ∷ ws) (onto b ws)) 0 [] ∷ drop 1 (cond q ((10 ∷ []) ∷ ws) (onto b ws))
    go true ws = refl
    go false [] = refl
    go false (w ∷ ws) = refl

-- a verdict on the lines after n others, by the count of all
abbrev counted : ℕ → Verdict (List Line) → Verdict ℕ
counted n v = then v (λ ls. accepted (n + length ls))

counted-zero : (v : Verdict (List Line)) → then v (λ ls. accepted (length ls)) ≡ counted 0 v
unfolding then
counted-zero (accepted ls) = ap accepted (omega arith)
counted-zero (refused r l) = refl

counted-on : (n : ℕ) (a : Line) (v : Verdict (List Line)) → counted n (then v (λ rest. accepted (a ∷ rest))) ≡ counted (suc n) v
unfolding then
counted-on n a (accepted ls) = ap accepted (omega arith)
counted-on n a (refused r l) = refl

bind-no : (m : Try Answers.Refusal Placed) (r : Answers.Refusal) → (m >>= next_of) ≡ no r → m ≡ no r
unfolding ◌>>=◌
bind-no (ok y) r e = no_ok (sym e)
bind-no (no q) r e = let z : q ≡ r = cc in ap no z

-- n lines are passed, up to a place of the text: what the rest gives is what the text gives
pub record Passed (t : List ℕ) (a n : ℕ) (s : Place) : Type 0 where
  pub place : Places.Place
  pub is : s ≡ coded place
  pub within : within_limits s ≡ true
  pub rest : scan_text t ≡ counted n (scan_lines (lines (drop a t)) n place)

pub pass-start : (t : List ℕ) (s : Place) → s ≡ coded first_place → Passed t 0 0 s
unfolding scan_text coded within_limits stage_number Rattle.read_grammar.specs.Coded.branches_number
pass-start t s e = record { place = first_place; is = e; within = rw e; rest = counted-zero (scan_lines (lines t) 0 first_place) }

module _ {t : List ℕ} {a n : ℕ} {s : Place} (x : Passed t a n s) where
  pub pass_on :
      (e : ℕ) (q : Place) → CleanLine t a e → ok q ≡ (scan_line x.place (first_line (drop a t)) >>= next_of) →
      Passed t (e + 1) (n + 1) q
  unfolding scan_lines at_line
  pass_on e q c i =
      let (y, f, g) = bind_ok (scan_line x.place (first_line (drop a t))) (sym i) in
      let k = ok-inj g in
      let f' : scan_line x.place (part a (e + 1) t) ≡ ok y = ap (scan_line x.place) (sym (first-clean t a e c)) ∙ f in
      record {
        place = y.next;
        is = sym k;
        within = rw (← k) (within-is y.next ∙ (line_taken _ _ y f).within);
        rest = x.rest ∙ rw (c.cut, f', add-one n) (counted-on n y.line (scan_lines (lines (drop (e + 1) t)) (suc n) y.next));
      }

  pub pass-stop :
      (r : Refusal) → a < length t → no (refusal_of r) ≡ (scan_line x.place (first_line (drop a t)) >>= next_of) →
      refused (refusal_of r) (n + 1) ≡ scan_text t
  unfolding scan_lines at_line then
  pass-stop r h i =
      let f = bind-no (scan_line x.place (first_line (drop a t))) (refusal_of r) (sym i) in
      let m = some-lines (drop a t) (omega (arith, length-drop a t)) in
      sym (x.rest ∙ rw (m, f, ← add-one n))

  module _ (h : length t ≤ a) where
    pub pass-done : s.stage ≡ stage_number after_main → accepted n ≡ scan_text t
    unfolding scan_lines then ended coded stage_number
    pass-done e =
        let z : stage_number x.place.stage ≡ stage_number after_main = ap (λ (q : Place). q.stage) (sym x.is) ∙ e in
        sym (x.rest ∙ rw (no_lines t a h, eq-eqb _ _ z) (ap accepted (omega arith)))

    pub pass-ends : (s.stage ≡ stage_number after_main → ⊥) → refused text_ends n ≡ scan_text t
    unfolding scan_lines then ended coded stage_number
    pass-ends e =
        let z : stage_number x.place.stage ≡ stage_number after_main → ⊥ = λ w. e (ap (λ (q : Place). q.stage) x.is ∙ w) in
        sym (x.rest ∙ rw (no_lines t a h, ne_eqb _ _ z))

-- A TEXT THAT IS TAKEN

-- one line of it
pub record FirstTaken (l : Name) (ls : List Name) (n : ℕ) (p : Places.Place) (found : List Line) : Type 0 where
  pub placed : Placed
  pub rest : List Line
  pub taken : LinePlaced p l placed
  pub are : found ≡ line_of l ∷ rest
  pub others : scan_lines ls (suc n) placed.next ≡ accepted rest

pub first_taken :
    (l : Name) (ls : List Name) (n : ℕ) (p : Places.Place) (found : List Line) → scan_lines (l ∷ ls) n p ≡ accepted found →
    FirstTaken l ls n p found
unfolding scan_lines
first_taken l ls n p found e =
    let (x, f, g) = at_line-accepted (suc n) (scan_line p l) _ found e in
    let (rest, h, i) = then-accepted (scan_lines ls (suc n) x.next) _ found g in
    let y = line_taken p l x f in
    record { placed = x; rest = rest; taken = y; are = sym (accepted-inj i) ∙ ap (λ (a : Line). a ∷ rest) y.line; others = h }

nil-taken : (n : ℕ) (p : Places.Place) (found : List Line) → scan_lines [] n p ≡ accepted found → found ≡ []
unfolding scan_lines
nil-taken n p found e = go (ended p) e
  where
    go : (q : Bool) → cond q (accepted []) (refused text_ends n) ≡ accepted found → found ≡ []
    go true i = sym (accepted-inj i)
    go false i = refused-accepted i

-- the lines of a text that is taken, each by itself
pub lines-taken : (ls : List Name) (n : ℕ) (p : Places.Place) (found : List Line) → scan_lines ls n p ≡ accepted found → found ≡ map line_of ls
lines-taken [] n p found e = nil-taken n p found e
lines-taken (l ∷ ls) n p found e =
    let x = first_taken l ls n p found e in
    x.are ∙ ap (λ (m : List Line). line_of l ∷ m) (lines-taken ls (suc n) x.placed.next x.rest x.others)

pub text-taken :
    (t : List ℕ) (n : ℕ) → scan_text t ≡ accepted n →
    (scan_lines (lines t) 0 first_place ≡ accepted (map line_of (lines t))) × (n ≡ length (lines t))
unfolding scan_text
text-taken t n e =
    let (ls, f, g) = then-accepted (scan_lines (lines t) 0 first_place) _ n e in
    let h = lines-taken (lines t) 0 first_place ls f in
    (f ∙ ap accepted h, sym (accepted-inj g) ∙ (ap length h ∙ length-map (lines t) line_of))
