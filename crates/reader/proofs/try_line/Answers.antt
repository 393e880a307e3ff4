use mathlib.Core.Path.{ap, refl}
use Rattle.rules.specs.Numbered.{number}
use Rattle.rules.specs.Grammar.{Field, Method, Var, kind_number}
use Rattle.reader.proofs.Lines.{declares, has-statement, kind-room, kind-formed}
use Rattle.reader.proofs.try_line.Goals as goal

pub put_declaration-requires : goal.put_declaration-requires
put_declaration-requires c =
    (c.requires.0.ready, c.requires.0.high, (c.requires.0.formed, declares refl c.in-Class.is), c.requires.0.room)

pub put_field-requires : goal.put_field-requires
unfolding kind_number
put_field-requires c =
    let e = ap number c.in-Field.is in
    (c.requires.0.ready, c.requires.0.high, kind-formed c.args.text.now c.args.work.now c.args.p c.args.r Field e c.requires.0.formed, kind-room c.args.text.now c.args.work.now c.args.p c.args.r Field e c.requires.0.room, c.requires.1)

pub put_method-requires : goal.put_method-requires
unfolding kind_number
put_method-requires c =
    let e = ap number c.in-Method.is in
    (c.requires.0.ready, c.requires.0.high, kind-formed c.args.text.now c.args.work.now c.args.p c.args.r Method e c.requires.0.formed, kind-room c.args.text.now c.args.work.now c.args.p c.args.r Method e c.requires.0.room, c.requires.1)

pub put_var-requires : goal.put_var-requires
unfolding kind_number
put_var-requires c =
    let e = ap number c.in-Var.is in
    (c.requires.0.ready, c.requires.0.high, kind-formed c.args.text.now c.args.work.now c.args.p c.args.r Var e c.requires.0.formed, kind-room c.args.text.now c.args.work.now c.args.p c.args.r Var e c.requires.0.room)

pub put_statement-requires : goal.put_statement-requires
put_statement-requires c = (c.requires.0, has-statement refl c.in-Set.is)

pub returns-in-Field : goal.returns-in-Field
returns-in-Field c = rw (ap number c.in-Field.is) c.put_field.ensures

pub returns-in-Method : goal.returns-in-Method
returns-in-Method c = rw (ap number c.in-Method.is) c.put_method.ensures

pub returns-in-Var : goal.returns-in-Var
returns-in-Var c = rw (ap number c.in-Var.is) c.put_var.ensures
