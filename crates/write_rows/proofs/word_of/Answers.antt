use native.Mathlib.Omega.{arith}
use Rattle.write_rows.specs.Puts.{word_of, SideBytes}
use Rattle.write_rows.proofs.word_of.Goals as goal

pub pair-requires : goal.pair-requires
unfolding SideBytes
pair-requires c = (rw c.in-Var.is at c.requires, omega arith)

pub pair-requires-in-Path : goal.pair-requires-in-Path
unfolding SideBytes
pair-requires-in-Path c = rw c.in-Path.is at c.requires

pub returns-in-Num : goal.returns-in-Num
unfolding word_of
returns-in-Num c = rw c.in-Num.is

pub returns-in-Null : goal.returns-in-Null
unfolding word_of
returns-in-Null c = rw c.in-Null.is

pub returns-in-Var : goal.returns-in-Var
unfolding word_of
returns-in-Var c = rw c.in-Var.is (omega (arith, c.pair.ensures))

pub returns-in-Path : goal.returns-in-Path
unfolding word_of
returns-in-Path c = rw c.in-Path.is c.pair-in-Path.ensures
