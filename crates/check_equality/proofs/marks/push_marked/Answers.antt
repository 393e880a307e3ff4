use Rattle.check_equality.proofs.Labels.{pushed, marked_more}
use Rattle.check_equality.specs.Links.{Marked}
use lib.ListN.{length, length-set}
use mathlib.Core.Bool.{Bool}
use mathlib.Core.List.{List}
use mathlib.Core.Path.{◌≡◌, ap, ◌∙◌, subst}
use Prim.Native.Nat.{ℕ, ◌+◌}
use native.Mathlib.Omega.{arith}
use Rattle.check_equality.proofs.marks.push_marked.Goals as goal

marks-on : (m : ℕ) (key : List ℕ) (marks : List Bool) → Marked key marks (m + 1 + 1) → Marked key marks (m + 2)
marks-on m key marks M = let e : m + 1 + 1 ≡ m + 2 = omega arith in subst (λ (n : ℕ). Marked key marks n) e M

pub returns : goal.returns
returns c = (
  pushed _ _ c.args.m c.args.left c.args.right (omega (arith, c.requires.2.size)) _ _ _ _ c.add_slot.ensures
      c.add_slot-2.ensures c.requires.1 (omega (arith, c.add_slot.ensures.size, c.add_slot-2.ensures.size, c.told-label)) _ _ c.link_unless.ensures,
  marks-on c.args.m _ _ (marked_more _ _ _ _ _ _ c.add_slot-2.ensures.keys (omega (
    arith,
    ap length c.add_slot.ensures.keys ∙ length-set c.args.key.now c.args.m c.args.left,
    c.requires.2.size,
  )) c.place-q.ensures (marked_more
      _ _ _ _ _ _ c.add_slot.ensures.keys (omega (arith, c.requires.2.size)) c.place-p.ensures c.requires.3)),
)
