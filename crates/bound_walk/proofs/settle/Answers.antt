use mathlib.Core.Path.{◌≡◌, sym, subst}
use native.Mathlib.Omega.{arith}
use lib.ListN.{get_or}
use Rattle.bound_walk.specs.Counting.{fresh}
use Rattle.bound_walk.specs.declared.Route.{Route}
use Rattle.bound_walk.specs.Walk.{Walking, is_new}
use Rattle.bound_walk.proofs.Walks.{begun-walking, begun-keeps, begun-start, walk_ends}
use Rattle.bound_walk.proofs.settle.Goals as goal

pub loop-r-init : goal.loop-r-init
loop-r-init c =
    (subst (Walking _) (sym c.begin-r.ensures) (begun-walking _ c.requires.0 _ c.requires.1.0 _ c.requires.1.1.0 c.requires.1.1.1), λ n z. z)

pub returns : goal.returns
returns c =
    let same = sym c.begin-r.ensures in (
      walk_ends _ c.requires.0 _ c.loop-r.invariant.0 (omega (arith, c.loop-r-test.false)),
      (λ n z.
          c.loop-r.invariant.1 n
          (subst (λ (r : Route). is_new (get_or r.marks n fresh).visit ≡ 0) same
          (begun-keeps _ c.requires.0 _ c.requires.1.0 _ c.requires.1.1.0 c.requires.1.1.1 n z))),
      c.loop-r.invariant.1 _
          (subst (λ (r : Route). is_new (get_or r.marks c.args.start fresh).visit ≡ 0) same
          (begun-start _ c.requires.0 _ c.requires.1.0 _ c.requires.1.1.0 c.requires.1.1.1)),
    )
