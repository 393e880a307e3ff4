-- W3's sentence on what is dropped, of every state that the check of a read text comes to: the statement is that of rules' specs/Reached.
-- And that an accepted check goes from row to row as that statement says.
use mathlib.Core.Path.{◌≡◌, refl}
use mathlib.Core.List.{List, [], ◌∷◌}
use mathlib.Core.Logic.{◌⊎◌, inl, inr}
use mathlib.Core.Option.{none, some}
use Prim.Native.Nat.{ℕ, suc}
use Rattle.rules.specs.Answers.{accepted}
use Rattle.rules.specs.Syntax.{Formula, Stmt, Program, row_numbered, simple, return, if, else, join, loop, again, end}
use Rattle.rules.specs.Reading.{program}
use Rattle.rules.specs.State.{State, empty, show, add, remainder}
use Rattle.rules.specs.Rules.{End, Open, in_first, in_second, in_loop, rule, return_rule, if_rule, loop_rule, join_rule, show_end, reached, else_row, join_row, again_row, check_row, check_from}
use Rattle.rules.specs.Reached.{Leads, by_rule, by_return, by_if, by_else, by_join, by_loop, by_again, Comes, at_method, at_main, by_row, Formed, DropsKeep, DroppingKeeps}
use Rattle.rules.proofs.Tries.{bind_ok, at_line-accepted, refused-accepted}
use Rattle.rules.proofs.Dropping.{remainder-law, set-law, removed-law}
use Rattle.rules.proofs.FormedStates.{formed-empty, formed-add, formed-remainder, formed-if, formed-rule}
use Rattle.soundness.proofs.Branches.{Accepts, accepts-row}
use Rattle.soundness.proofs.RowsNamed.{StmtNamed, ProgramNamed, read_named, simple-named}

-- WHAT IS KNOWN AND OPEN
abbrev EndFormed : End → Type 0
EndFormed none = Unit {0}
EndFormed (some s) = Formed s

abbrev OpenFormed : List Open → Type 0
OpenFormed [] = Unit {0}
OpenFormed (in_first s ∷ os) = Formed s × OpenFormed os
OpenFormed (in_second e ∷ os) = OpenFormed os
OpenFormed (in_loop φ s ∷ os) = Formed s × OpenFormed os

module _ (P : Program) (N : ProgramNamed P) where
  leads-formed :
      (φ : Formula ℕ) (t : Stmt) (e e' : End) (os os' : List Open) → StmtNamed t → EndFormed e → OpenFormed os → Leads P φ t e os e' os' →
      EndFormed e' × OpenFormed os'
  unfolding join_rule loop_rule
  leads-formed φ t e e' os os' n F O (by_rule {p} {s} {s'} r) = (formed-rule P p s s' (simple-named P p N n) F r, O)
  leads-formed φ t e e' os os' n F O (by_return r) = (tt, O)
  leads-formed φ t e e' os os' n F O (by_if {n = k} {a} {b} {s} {c} r) =
      let (x, y) = formed-if k a b s c n.0 n.1 F r in (x, (y, O))
  leads-formed φ t e e' os os' n F O by_else = (O.0, O.1)
  leads-formed φ t e e' os os' n F O (by_join {ψ} {e₁ = d} {s = s} r) =
      let (_, _, r₁) = bind_ok (show_end ψ d) r in
      let (_, _, r₂) = bind_ok (show_end ψ e) r₁ in
      (formed-add ψ empty s n formed-empty r₂, O)
  leads-formed φ t e e' os os' n F O (by_loop {n = k} {a} {b} {ψ} {s} {c} r) =
      let (_, _, r₁) = bind_ok (show s ψ) r in
      let (s₀, i, r₂) = bind_ok (add ψ empty) r₁ in
      let (x, y) = formed-if k a b s₀ c n.0 n.1 (formed-add ψ empty s₀ n.2 formed-empty i) r₂ in
      (x, (y, O))
  leads-formed φ t e e' os os' n F O (by_again r) = (O.0, O.1)

  comes-formed : (φ : Formula ℕ) (i : ℕ) (e : End) (os : List Open) → Comes P φ i e os → EndFormed e × OpenFormed os
  comes-formed φ i e os (at_method n {s} r) = (formed-add _ empty s (N.methods n).requires formed-empty r, tt)
  comes-formed φ i e os at_main = (formed-empty, tt)
  comes-formed φ i e os (by_row {i = j} {e = d} {os = qs} c l) =
      let (F, O) = comes-formed φ j d qs c in leads-formed φ _ d e qs os (N.rows j) F O l

-- THE CLAIM
drops-keep : (s : State) → Formed s → DropsKeep s
drops-keep s F =
    record {
      at_remainder = λ kept. remainder-law s kept F;
      at_set = λ p. set-law s p F;
      at_removing = λ x. removed-law s x F;
    }

pub dropping_keeps : DroppingKeeps
dropping_keeps t items e φ i s os c =
    let (F, _) = comes-formed (program items) (read_named t items e) φ i (some s) os c in (
      F,
      drops-keep s F,
      λ kept. let G = formed-remainder s kept F in (G, drops-keep (remainder s kept) G),
    )

-- AN ACCEPTED CHECK goes on from each row but an `end` as `Leads` says
module _ (P : Program) (φ : Formula ℕ) where
  pub record Onward (t : Stmt) (i : ℕ) (e : End) (os : List Open) : Type 0 where
    pub end_after : End
    pub open_after : List Open
    pub leads : Leads P φ t e os end_after open_after
    pub checks : check_from P φ (suc i) end_after open_after ≡ accepted tt

  row-leads :
      (t : Stmt) (l i : ℕ) (e : End) (os : List Open) →
      check_row P t l φ (λ e os. check_from P φ (suc i) e os) e os ≡ accepted tt → (t ≡ end) ⊎ Onward t i e os
  unfolding check_row reached else_row join_row again_row
  row-leads (simple p) l i none os c = refused-accepted c
  row-leads (simple p) l i (some s) os c =
      let (s', r, k) = at_line-accepted l (rule P p s) _ tt c in
      inr (record { end_after = some s'; open_after = os; leads = by_rule r; checks = k })
  row-leads (return x) l i none os c = refused-accepted c
  row-leads (return x) l i (some s) os c =
      let (_, r, k) = at_line-accepted l (return_rule x φ s) _ tt c in
      inr (record { end_after = none; open_after = os; leads = by_return r; checks = k })
  row-leads (if n a b) l i none os c = refused-accepted c
  row-leads (if n a b) l i (some s) os c =
      let (d, r, k) = at_line-accepted l (if_rule n a b s) _ tt c in
      inr (record { end_after = some d.0; open_after = in_first d.1 ∷ os; leads = by_if r; checks = k })
  row-leads else l i e [] c = refused-accepted c
  row-leads else l i e (in_first s ∷ os) c = inr (record { end_after = some s; open_after = in_second e ∷ os; leads = by_else; checks = c })
  row-leads else l i e (in_second d ∷ os) c = refused-accepted c
  row-leads else l i e (in_loop ψ s ∷ os) c = refused-accepted c
  row-leads (join ψ) l i e [] c = refused-accepted c
  row-leads (join ψ) l i e (in_first s ∷ os) c = refused-accepted c
  row-leads (join ψ) l i e (in_second d ∷ os) c =
      let (s, r, k) = at_line-accepted l (join_rule ψ d e) _ tt c in
      inr (record { end_after = some s; open_after = os; leads = by_join r; checks = k })
  row-leads (join ψ) l i e (in_loop χ s ∷ os) c = refused-accepted c
  row-leads (loop n a b ψ) l i none os c = refused-accepted c
  row-leads (loop n a b ψ) l i (some s) os c =
      let (d, r, k) = at_line-accepted l (loop_rule n a b ψ s) _ tt c in
      inr (record { end_after = some d.0; open_after = in_loop ψ d.1 ∷ os; leads = by_loop r; checks = k })
  row-leads again l i e [] c = refused-accepted c
  row-leads again l i e (in_first s ∷ os) c = refused-accepted c
  row-leads again l i e (in_second d ∷ os) c = refused-accepted c
  row-leads again l i e (in_loop ψ s ∷ os) c =
      let (_, r, k) = at_line-accepted l (show_end ψ e) _ tt c in
      inr (record { end_after = some s; open_after = os; leads = by_again r; checks = k })
  row-leads end l i e os c = inl refl

  pub accepted-leads :
      (i : ℕ) (e : End) (os : List Open) → Accepts P φ i e os → ((row_numbered P i).stmt ≡ end) ⊎ Onward (row_numbered P i).stmt i e os
  accepted-leads i e os a = row-leads (row_numbered P i).stmt (row_numbered P i).line i e os (accepts-row P φ i e os a).checks
