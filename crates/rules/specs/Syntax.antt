-- Scripts: expressions, atoms and formulas, over names as written or resolved to numbers; resolved statements and programs.
use Rattle.std.specs.Prelude.{Bool, true, false, ◌&&◌, List, [], ℕ, ◌+◌, ◌%◌, eqb, length, get_or}

-- `eq` or `ne`
pub data Rel : Type 0 where
  eq : Rel
  ne : Rel

-- "An expression e is a number, `null`, a variable x, or a path `x.f`." A number is held by its 32 bits, two's complement.
pub data Expr (N : Type 0) : Type 0 where
  num : ℕ → Expr N
  null : Expr N
  var : N → Expr N
  path : N → N → Expr N

-- how many numbers 32 bits hold, and the first that is negative
abbrev pub words : ℕ
words = 4294967296

abbrev pub sign : ℕ
sign = 2147483648

-- a number by its 32 bits, plus 2^31: the order of these is that of signed numbers
unfoldable pub offset : ℕ → ℕ
offset v = (v + sign) % words

-- what an atom claims: `acc x f` the permission to `x.f`, `read x f` half of it, `chain x f` those of the walk by f from x
pub data Permit : Type 0 where
  acc : Permit
  read : Permit
  chain : Permit

-- "An atom is three fields: `acc x f`, `eq e e` or `ne e e`."; W8: "A new atom `read x f` is half a permission"; W9: "The atom
-- `chain x f`"
pub data Atom (N : Type 0) : Type 0 where
  own : Permit → N → N → Atom N
  cmp : Rel → Expr N → Expr N → Atom N

-- a path may be read by it: a chain is no path
unfoldable pub is_path : Permit → Bool
is_path acc = true
is_path read = true
is_path chain = false

-- "A formula is 0 to 8 atoms .., joined by the separating star; 0 atoms means true"
abbrev pub Formula : Type 0 → Type 0
Formula N = List (Atom N)

-- Resolved names. A variable: 0 is `this`, 1 the parameter (w), 2 to 13 the locals, 14 `result`: the paper's order of variables.
-- A field: the number of its name, which several classes may have. Classes and methods: their place in the text.
abbrev pub this_variable : ℕ
this_variable = 0

abbrev pub parameter : ℕ
parameter = 1

abbrev pub first_local : ℕ
first_local = 2

abbrev pub result_variable : ℕ
result_variable = 14

-- `add` or `sub`
pub data Operation : Type 0 where
  sum : Operation
  difference : Operation

-- statements that go on to the next line; `assign` is `let`, `compute` is `add` or `sub`; W9: `open_chain y x f` is `open`,
-- `shut_chain x f` is `shut`
pub data Simple : Type 0 where
  set : ℕ → ℕ → ℕ → Simple
  assign : ℕ → Expr ℕ → Simple
  compute : Operation → ℕ → ℕ → ℕ → Simple
  new : ℕ → ℕ → Simple
  call : ℕ → ℕ → ℕ → ℕ → Simple
  assert : Formula ℕ → Simple
  release : Formula ℕ → Simple
  open_chain : ℕ → ℕ → ℕ → Simple
  shut_chain : ℕ → ℕ → Simple

-- of a `loop` its condition, then its invariant
pub data Stmt : Type 0 where
  simple : Simple → Stmt
  return : ℕ → Stmt
  if : Rel → Expr ℕ → Expr ℕ → Stmt
  else : Stmt
  join : Formula ℕ → Stmt
  loop : Rel → Expr ℕ → Expr ℕ → Formula ℕ → Stmt
  again : Stmt
  end : Stmt

-- a statement line with its number
pub record Row : Type 0 where
  pub line : ℕ
  pub stmt : Stmt

pub record Field : Type 0 where
  pub name : ℕ
  pub int : Bool

-- first: the number of its first row; its own rows end with the first `end`
pub record Method : Type 0 where
  pub requires : Formula ℕ
  pub ensures : Formula ℕ
  pub first : ℕ

-- classes: the fields of each; rows: the statement lines of the text, numbered from 0; main: the number of main's first row
pub record Program : Type 0 where
  pub classes : List (List Field)
  pub methods : List Method
  pub rows : List Row
  pub main : ℕ

-- what stands for a row that is not there, and for a method
abbrev pub no_row : Row
no_row = record { line = 0; stmt = end }

abbrev pub no_method : Program → Method
no_method P = record { requires = []; ensures = []; first = length P.rows }

-- by number
unfoldable pub row_numbered : Program → ℕ → Row
row_numbered P i = get_or P.rows i no_row

unfoldable pub method_numbered : Program → ℕ → Method
method_numbered P n = get_or P.methods n (no_method P)

-- the same expression, as written
unfoldable pub same : Expr ℕ → Expr ℕ → Bool
same (num m) (num n) = eqb m n
same (num m) null = false
same (num m) (var y) = false
same (num m) (path y g) = false
same null (num n) = false
same null null = true
same null (var y) = false
same null (path y g) = false
same (var x) (num n) = false
same (var x) null = false
same (var x) (var y) = eqb x y
same (var x) (path y g) = false
same (path x f) (num n) = false
same (path x f) null = false
same (path x f) (var y) = false
same (path x f) (path y g) = eqb x y && eqb f g

-- Everything above computes where this unfolds.
unfoldable pub opened : Unit {0}
unfolding offset is_path row_numbered method_numbered same
opened = tt
