-- A term as one number, its key: two terms are the same where their keys are.
use Rattle.std.specs.Prelude.{cond, ℕ, ◌+◌, ◌*◌, ◌-◌, ◌/◌, ◌%◌, eqb, ltb}
use Rattle.rules.specs.Syntax as Syntax
use Rattle.rules.specs.Syntax.{num, null, var, path}
use Rattle.check_equality.specs.declared.Term.{Term}

abbrev pub null_key : ℕ
null_key = 256

abbrev pub first_path : ℕ
first_path = 257

-- so many for each variable
abbrev pub paths : ℕ
paths = 256

abbrev pub first_number : ℕ
first_number = 65793

-- below null's a variable; null; paths; numbers
unfoldable pub term_of : ℕ → Syntax.Expr ℕ
term_of k =
    cond (ltb k null_key) (var k)
    (cond (eqb k null_key) null
    (cond (ltb k first_number) (path ((k - first_path) / paths) ((k - first_path) % paths))
    (num (k - first_number))))

-- the way back
unfoldable pub key_of : Syntax.Expr ℕ → ℕ
key_of (num n) = first_number + n
key_of null = null_key
key_of (var x) = x
key_of (path x f) = first_path + x * paths + f

-- the term that a value of the code is
unfoldable pub meaning : Term → Syntax.Expr ℕ
meaning (Term.Num n) = num n
meaning Term.Null = null
meaning (Term.Var x) = var x
meaning (Term.Path x f) = path x f
