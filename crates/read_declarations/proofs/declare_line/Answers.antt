use mathlib.Core.Path.{refl, sym, ◌∙◌}
use Rattle.rules.specs.declared.Kind.TheVariants as Kind
use Rattle.rules.proofs.KindNumbers.{one_number}
use Rattle.rules.specs.Grammar.{Class, Field, Method, kind_number}
use Rattle.read_grammar.proofs.Rows.{kind-numbered}
use Rattle.read_declarations.proofs.Lines.{class-names, field-names, method-names}
use Rattle.read_declarations.proofs.Adds.{none-adds, ready-room, ready-formed, adds-numbered}
use borrow.Author.Tests.{ne_eqb}
use Rattle.read_declarations.proofs.declare_line.Goals as goal

-- `declare_line` meets its contract. Assumes nothing.
pub numbered-requires : goal.numbered-requires
numbered-requires c = c.requires.1.kind

pub declare_class-requires : goal.declare_class-requires
unfolding kind_number
declare_class-requires c =
    let m = class-names _ (ready-formed c.requires.1 Class (sym c.in-Class.ensures)) in
    (c.requires.0, c.requires.1.high, (ready-room c.requires.1 Class (sym c.in-Class.ensures)).class refl, m)

pub declare_field-requires : goal.declare_field-requires
unfolding kind_number
declare_field-requires c =
    let m = field-names _ (ready-formed c.requires.1 Field (sym c.in-Field.ensures)) in
    (c.requires.0, c.requires.1.high, (ready-room c.requires.1 Field (sym c.in-Field.ensures)).field refl, m.0, m.1)

pub declare_method-requires : goal.declare_method-requires
unfolding kind_number
declare_method-requires c =
    let m = method-names _ (ready-formed c.requires.1 Method (sym c.in-Method.ensures)) in
    (c.requires.0, c.requires.1.high, (ready-room c.requires.1 Method (sym c.in-Method.ensures)).method refl, m.0, m.1, m.2)

pub returns-in-Class : goal.returns-in-Class
unfolding kind_number
returns-in-Class c = adds-numbered c.requires.1 Class (sym c.in-Class.ensures) c.declare_class.ensures

pub returns-in-Field : goal.returns-in-Field
unfolding kind_number
returns-in-Field c = adds-numbered c.requires.1 Field (sym c.in-Field.ensures) c.declare_field.ensures

pub returns-in-Method : goal.returns-in-Method
unfolding kind_number
returns-in-Method c = adds-numbered c.requires.1 Method (sym c.in-Method.ensures) c.declare_method.ensures

pub returns-in_default : goal.returns-in_default
unfolding kind_number
returns-in_default c =
    let is = kind-numbered c.args.kind c.requires.1.kind in
    none-adds _ _ _ _
    (is Class ∙ ne_eqb 1 _ (λ e. c.in_default.not-Class (one_number _ Kind.Class (c.numbered.ensures ∙ sym e))))
    (is Field ∙ ne_eqb 2 _ (λ e. c.in_default.not-Field (one_number _ Kind.Field (c.numbered.ensures ∙ sym e))))
    (is Method ∙ ne_eqb 3 _ (λ e. c.in_default.not-Method (one_number _ Kind.Method (c.numbered.ensures ∙ sym e))))
