-- The kinds of line of the program, by the numbers of the grammar.
use Rattle.std.specs.Prelude.{◌≡◌, ℕ, Result, MatchResult}
use Rattle.rules.specs.declared.Kind.{Kind}
use Rattle.rules.specs.declared.Kind.TheVariants.{Class, Field, Method, Requires, Ensures, Main, Var, Set, Let, New, Call, Return, Assert, Release, If, Else, Join, End, Add, Sub, Loop, Again, Open, Shut}
use Rattle.rules.specs.declared.NoKind.{NoKind}
use Rattle.rules.specs.Grammar.{IsKindNumber, class_kind, field_kind, method_kind, requires_kind, ensures_kind, main_kind, var_kind, set_kind, let_kind, new_kind, call_kind, return_kind, assert_kind, release_kind, if_kind, else_kind, join_kind, end_kind, add_kind, sub_kind, loop_kind, again_kind, open_kind, shut_kind}

abbrev pub number : Kind → ℕ
number Class = class_kind
number Field = field_kind
number Method = method_kind
number Requires = requires_kind
number Ensures = ensures_kind
number Main = main_kind
number Var = var_kind
number Set = set_kind
number Let = let_kind
number New = new_kind
number Call = call_kind
number Return = return_kind
number Assert = assert_kind
number Release = release_kind
number If = if_kind
number Else = else_kind
number Join = join_kind
number End = end_kind
number Add = add_kind
number Sub = sub_kind
number Loop = loop_kind
number Again = again_kind
number Open = open_kind
number Shut = shut_kind

-- the kind of this number, or an error where no kind has it
abbrev pub Numbers : ℕ → Result Kind NoKind → Type 0
Numbers n r = MatchResult r (λ kind. number kind ≡ n) (λ e. IsKindNumber n → ⊥)
