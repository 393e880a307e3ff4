use mathlib.Core.Path.{refl, ◌∙◌}
use native.Mathlib.Omega.{arith}
use Rattle.star_reader.proofs.Headers.{method-is, method-here, owner-is}
use Rattle.star_reader.proofs.star_at.Goals as goal

pub overflow_add-method : goal.overflow_add-method
overflow_add-method c =
    let x = method-here c.requires c.last_method-method.ensures in
    omega (arith, x.within, x.methods)

pub owner_at-class-requires : goal.owner_at-class-requires
owner_at-class-requires c =
    let x = method-here c.requires c.last_method-method.ensures in
    omega (arith, x.within, x.methods)

pub parameter_class-parameter-requires : goal.parameter_class-parameter-requires
parameter_class-parameter-requires c = method-here c.requires c.last_method-method.ensures

pub returns : goal.returns
returns c =
    record {
      line = refl;
      unframed = refl;
      method = method-is c.requires c.last_method-method.ensures;
      class = c.owner_at-class.ensures ∙ owner-is (method-here c.requires c.last_method-method.ensures);
      parameter = c.parameter_class-parameter.ensures;
    }
