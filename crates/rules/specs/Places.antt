-- Where each line stands, and the limits of the text: numbers 3, 4, 5 line by line, then 8.
use Rattle.std.specs.Prelude.{Bool, true, false, not, cond, ◌&&◌, ◌||◌, List, [], ◌∷◌, ℕ, suc, eqb, leb, length}
use Rattle.rules.specs.Base.{Name, Try, ok, ◌>>=◌, ◌>>◌, check, between}
use Rattle.rules.specs.Limits.{most_classes, most_fields, most_methods, most_locals, most_statements, most_branches}
use Rattle.rules.specs.Answers.{Refusal, Verdict, accepted, refused, at_line, then, malformed, limit_passed, text_ends}
use Rattle.rules.specs.Grammar.{Kind, Stage, Line, form, read_line, is_kind, is_statement}
use Rattle.rules.specs.Grammar.{Class, Field, Method, Main, Var, statement, Return, If, Else, Join, End, Loop, Again}
use Rattle.rules.specs.Grammar.{beginning, in_class, after_method, after_header, after_requires, in_locals, in_body, after_return, after_main}

-- the stages in the order of a text
unfoldable pub stage_number : Stage → ℕ
stage_number beginning = 0
stage_number in_class = 1
stage_number after_method = 2
stage_number after_header = 3
stage_number after_requires = 4
stage_number in_locals = 5
stage_number in_body = 6
stage_number after_return = 7
stage_number after_main = 8

-- an open branch, before or after its `else`, or an open loop
pub data Branch : Type 0 where
  before_else : Branch
  behind_else : Branch
  in_loop : Branch

-- where the next line stands: main, where `main` is above it; the open branches and loops, innermost first; what the lines above have
-- used of each limit
pub record Place : Type 0 where
  pub stage : Stage
  pub main : Bool
  pub branches : List Branch
  pub classes : ℕ
  pub fields : ℕ
  pub methods : ℕ
  pub locals : ℕ
  pub statements : ℕ

abbrev pub first_place : Place
first_place =
    record {
      stage = beginning;
      main = false;
      branches = [];
      classes = 0;
      fields = 0;
      methods = 0;
      locals = 0;
      statements = 0;
    }

unfoldable pub may_else : List Branch → Bool
may_else [] = false
may_else (before_else ∷ bs) = true
may_else (behind_else ∷ bs) = false
may_else (in_loop ∷ bs) = false

unfoldable pub may_join : List Branch → Bool
may_join [] = false
may_join (before_else ∷ bs) = false
may_join (behind_else ∷ bs) = true
may_join (in_loop ∷ bs) = false

unfoldable pub may_again : List Branch → Bool
may_again [] = false
may_again (before_else ∷ bs) = false
may_again (behind_else ∷ bs) = false
may_again (in_loop ∷ bs) = true

unfoldable pub may_end : List Branch → Bool
may_end [] = true
may_end (b ∷ bs) = false

unfoldable pub outer : List Branch → List Branch
outer [] = []
outer (b ∷ bs) = bs

-- "`return x` (methods only)"; "`if` .. `else` .. `join`"; "`loop` .. `again` closes it"; and then `end`
unfoldable pub fits : Kind → Place → Bool
fits k p =
    cond (is_kind (statement Return) k) (not p.main)
    (cond (is_kind (statement Else) k) (may_else p.branches)
    (cond (is_kind (statement Join) k) (may_join p.branches)
    (cond (is_kind (statement Again) k) (may_again p.branches)
    (cond (is_kind (statement End) k) (may_end p.branches)
    true))))

unfoldable pub in_place : Kind → Place → Bool
in_place k p = between (stage_number (form k).first) (stage_number (form k).last) (stage_number p.stage) && fits k p

unfoldable pub stage_after : Kind → Place → Stage
stage_after k p = cond (is_kind (statement End) k) (cond p.main after_main after_method) (form k).next

unfoldable pub branches_after : Kind → List Branch → List Branch
branches_after k bs =
    cond (is_kind (statement If) k) (before_else ∷ bs)
    (cond (is_kind (statement Else) k) (behind_else ∷ outer bs)
    (cond (is_kind (statement Join) k) (outer bs)
    (cond (is_kind (statement Loop) k) (in_loop ∷ bs)
    (cond (is_kind (statement Again) k) (outer bs)
    bs))))

unfoldable pub one_more_if : Bool → ℕ → ℕ
one_more_if b n = cond b (suc n) n

unfoldable pub place_after : Kind → Place → Place
place_after k p =
    record {
      stage = stage_after k p;
      main = is_kind Main k || p.main;
      branches = branches_after k p.branches;
      classes = one_more_if (is_kind Class k) p.classes;
      fields = cond (is_kind Class k) 0 (one_more_if (is_kind Field k) p.fields);
      methods = one_more_if (is_kind Method k) p.methods;
      locals = cond (is_kind Method k || is_kind Main k) 0 (one_more_if (is_kind Var k) p.locals);
      statements = one_more_if (is_statement k) p.statements;
    }

-- "16 classes; 8 fields a class; 64 methods; 12 locals a block; 256 statement lines in the text ..; branches nest at most 4 deep";
-- "Loops count toward the nesting limit of 4, both lines toward the 256."
unfoldable pub within_limits : Place → Bool
within_limits p =
    leb p.classes most_classes
    && (leb p.fields most_fields
    && (leb p.methods most_methods
    && (leb p.locals most_locals
    && (leb p.statements most_statements && leb (length p.branches) most_branches))))

-- 4: "line out of place"; 5: "a limit of the text passed"
unfoldable pub place_line : Place → Kind → Try Refusal Place
place_line p k = do
  check (in_place k p) malformed
  check (within_limits (place_after k p)) limit_passed
  ok (place_after k p)

-- a line and the place of the next
pub record Placed : Type 0 where
  pub line : Line
  pub next : Place

unfoldable pub scan_line : Place → Name → Try Refusal Placed
scan_line p l = read_line l >>= λ a. place_line p a.kind >>= λ q. ok (record { line = a; next = q })

unfoldable pub ended : Place → Bool
ended p = eqb (stage_number p.stage) (stage_number after_main)

-- the lines of a text, after n lines above; 8: "text ends before main's `end`", "count of lines"
unfoldable pub scan_lines : List Name → ℕ → Place → Verdict (List Line)
scan_lines [] n p = cond (ended p) (accepted []) (refused text_ends n)
scan_lines (l ∷ ls) n p =
    at_line (suc n) (scan_line p l) λ a. then (scan_lines ls (suc n) a.next) λ rest. accepted (a.line ∷ rest)

-- Everything above computes where this unfolds.
unfoldable pub opened : Unit {0}
unfolding stage_number may_else may_join may_again may_end outer fits in_place stage_after branches_after one_more_if place_after within_limits place_line scan_line ended scan_lines
opened = tt
