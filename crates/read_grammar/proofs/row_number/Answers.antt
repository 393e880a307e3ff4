use Rattle.rules.specs.Base as Base
use Rattle.rules.specs.Grammar as Grammar
use Rattle.rules.specs.Places.{stage_number}
use Rattle.read_words.specs.Words as Words
use Rattle.read_grammar.specs.Rows as Rows
use Rattle.read_grammar.proofs.row_number.Goals as goal

-- `row_number` meets its contract, kind by kind. Assumes nothing.
pub returns-in-Class : goal.returns-in-Class
unfolding Rows.opened Words.opened Grammar.opened Base.opened stage_number
returns-in-Class c = rw c.in-Class.is

pub returns-in-Field : goal.returns-in-Field
unfolding Rows.opened Words.opened Grammar.opened Base.opened stage_number
returns-in-Field c = rw c.in-Field.is

pub returns-in-Method : goal.returns-in-Method
unfolding Rows.opened Words.opened Grammar.opened Base.opened stage_number
returns-in-Method c = rw c.in-Method.is

pub returns-in-Requires : goal.returns-in-Requires
unfolding Rows.opened Words.opened Grammar.opened Base.opened stage_number
returns-in-Requires c = rw c.in-Requires.is

pub returns-in-Ensures : goal.returns-in-Ensures
unfolding Rows.opened Words.opened Grammar.opened Base.opened stage_number
returns-in-Ensures c = rw c.in-Ensures.is

pub returns-in-Main : goal.returns-in-Main
unfolding Rows.opened Words.opened Grammar.opened Base.opened stage_number
returns-in-Main c = rw c.in-Main.is

pub returns-in-Var : goal.returns-in-Var
unfolding Rows.opened Words.opened Grammar.opened Base.opened stage_number
returns-in-Var c = rw c.in-Var.is

pub returns-in-Set : goal.returns-in-Set
unfolding Rows.opened Words.opened Grammar.opened Base.opened stage_number
returns-in-Set c = rw c.in-Set.is

pub returns-in-Let : goal.returns-in-Let
unfolding Rows.opened Words.opened Grammar.opened Base.opened stage_number
returns-in-Let c = rw c.in-Let.is

pub returns-in-New : goal.returns-in-New
unfolding Rows.opened Words.opened Grammar.opened Base.opened stage_number
returns-in-New c = rw c.in-New.is

pub returns-in-Call : goal.returns-in-Call
unfolding Rows.opened Words.opened Grammar.opened Base.opened stage_number
returns-in-Call c = rw c.in-Call.is

pub returns-in-Return : goal.returns-in-Return
unfolding Rows.opened Words.opened Grammar.opened Base.opened stage_number
returns-in-Return c = rw c.in-Return.is

pub returns-in-Assert : goal.returns-in-Assert
unfolding Rows.opened Words.opened Grammar.opened Base.opened stage_number
returns-in-Assert c = rw c.in-Assert.is

pub returns-in-Release : goal.returns-in-Release
unfolding Rows.opened Words.opened Grammar.opened Base.opened stage_number
returns-in-Release c = rw c.in-Release.is

pub returns-in-If : goal.returns-in-If
unfolding Rows.opened Words.opened Grammar.opened Base.opened stage_number
returns-in-If c = rw c.in-If.is

pub returns-in-Else : goal.returns-in-Else
unfolding Rows.opened Words.opened Grammar.opened Base.opened stage_number
returns-in-Else c = rw c.in-Else.is

pub returns-in-Join : goal.returns-in-Join
unfolding Rows.opened Words.opened Grammar.opened Base.opened stage_number
returns-in-Join c = rw c.in-Join.is

pub returns-in-End : goal.returns-in-End
unfolding Rows.opened Words.opened Grammar.opened Base.opened stage_number
returns-in-End c = rw c.in-End.is

pub returns-in-Add : goal.returns-in-Add
unfolding Rows.opened Words.opened Grammar.opened Base.opened stage_number
returns-in-Add c = rw c.in-Add.is

pub returns-in-Sub : goal.returns-in-Sub
unfolding Rows.opened Words.opened Grammar.opened Base.opened stage_number
returns-in-Sub c = rw c.in-Sub.is

pub returns-in-Loop : goal.returns-in-Loop
unfolding Rows.opened Words.opened Grammar.opened Base.opened stage_number
returns-in-Loop c = rw c.in-Loop.is

pub returns-in-Again : goal.returns-in-Again
unfolding Rows.opened Words.opened Grammar.opened Base.opened stage_number
returns-in-Again c = rw c.in-Again.is

pub returns-in-Open : goal.returns-in-Open
unfolding Rows.opened Words.opened Grammar.opened Base.opened stage_number
returns-in-Open c = rw c.in-Open.is

pub returns-in-Shut : goal.returns-in-Shut
unfolding Rows.opened Words.opened Grammar.opened Base.opened stage_number
returns-in-Shut c = rw c.in-Shut.is
