-- Places as the code has them. Each definition is that of the rules' `Places`, over numbers.
use Rattle.std.specs.Prelude.{◌≡◌, Bool, true, not, cond, ◌&&◌, ◌||◌, List, [], ◌∷◌, ℕ, ◌+◌, ◌*◌, ◌/◌, ◌%◌, eqb, leb, ltb}
use Rattle.rules.specs.Base.{between}
use Rattle.rules.specs.Limits.{most_classes, most_fields, most_methods, most_locals, most_statements}
use Rattle.rules.specs.Grammar.{form, first_statement, after_method, after_main, class_kind, field_kind, method_kind, main_kind, var_kind, return_kind, if_kind, else_kind, join_kind, end_kind, loop_kind, again_kind}
use Rattle.rules.specs.Places as Places
use Rattle.rules.specs.Places.{Branch, before_else, behind_else, in_loop, stage_number, one_more_if}
use Rattle.read_grammar.specs.Rows.{kind_numbered}
use Rattle.read_grammar.specs.declared.Place.{Place}

-- the open branches and loops are below this number: four, each of two bits
abbrev pub open_limit : ℕ
open_limit = 256

unfoldable pub branch_number : Branch → ℕ
branch_number before_else = 1
branch_number behind_else = 2
branch_number in_loop = 3

-- to the base 4, the innermost lowest
unfoldable pub branches_number : List Branch → ℕ
branches_number [] = 0
branches_number (b ∷ bs) = branch_number b + 4 * branches_number bs

unfoldable pub coded : Places.Place → Place
coded p =
    record {
      stage = stage_number p.stage;
      main = p.main;
      branches = branches_number p.branches;
      classes = p.classes;
      fields = p.fields;
      methods = p.methods;
      locals = p.locals;
      statements = p.statements;
    }

unfoldable pub fits : ℕ → Place → Bool
fits k s =
    cond (eqb k return_kind) (not s.main)
    (cond (eqb k else_kind) (eqb (s.branches % 4) 1)
    (cond (eqb k join_kind) (eqb (s.branches % 4) 2)
    (cond (eqb k again_kind) (eqb (s.branches % 4) 3)
    (cond (eqb k end_kind) (eqb s.branches 0)
    true))))

unfoldable pub in_place : ℕ → Place → Bool
in_place k s = between (stage_number (form (kind_numbered k)).first) (stage_number (form (kind_numbered k)).last) s.stage && fits k s

unfoldable pub stage_after : ℕ → Bool → ℕ → ℕ
stage_after k main next = cond (eqb k end_kind) (cond main (stage_number after_main) (stage_number after_method)) next

unfoldable pub branches_after : ℕ → ℕ → ℕ
branches_after k n =
    cond (eqb k if_kind) (1 + 4 * n)
    (cond (eqb k else_kind) (2 + 4 * (n / 4))
    (cond (eqb k join_kind) (n / 4)
    (cond (eqb k loop_kind) (3 + 4 * n)
    (cond (eqb k again_kind) (n / 4)
    n))))

unfoldable pub place_after : ℕ → Place → Place
place_after k s =
    record {
      stage = stage_after k s.main (stage_number (form (kind_numbered k)).next);
      main = eqb k main_kind || s.main;
      branches = branches_after k s.branches;
      classes = one_more_if (eqb k class_kind) s.classes;
      fields = cond (eqb k class_kind) 0 (one_more_if (eqb k field_kind) s.fields);
      methods = one_more_if (eqb k method_kind) s.methods;
      locals = cond (eqb k method_kind || eqb k main_kind) 0 (one_more_if (eqb k var_kind) s.locals);
      statements = one_more_if (leb first_statement k) s.statements;
    }

unfoldable pub within_limits : Place → Bool
within_limits s =
    leb s.classes most_classes
    && (leb s.fields most_fields
    && (leb s.methods most_methods
    && (leb s.locals most_locals
    && (leb s.statements most_statements && ltb s.branches open_limit))))

-- q is the place after a line of kind k, at a place that is within the limits
pub record AfterWithin (k : ℕ) (q : Place) : Type 0 where
  pub place : Place
  pub after : q ≡ place_after k place
  pub within : within_limits place ≡ true

-- Everything above computes where this unfolds.
unfoldable pub opened : Unit {0}
unfolding branch_number branches_number coded fits in_place stage_after branches_after place_after within_limits
opened = tt
