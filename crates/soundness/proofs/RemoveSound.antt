-- Removing x from a state keeps what is known, whatever value x gets.
use mathlib.Core.Path.{◌≡◌, refl, sym, ap, ◌∙◌, subst}
use mathlib.Core.Bool.{Bool, true, false, cond}
use mathlib.Core.List.{List, [], ◌∷◌}
use mathlib.Core.Logic.{⊎_elim}
use mathlib.Core.Option.{Option, some}
use Prim.Native.Nat.{ℕ, ◌+◌, ◌≤◌}
use native.Mathlib.Omega.{arith}
use lib.Dec.{T, eqb, eqb→eq, eqb_refl}
use lib.ListN.{replicate}
use Rattle.rules.specs.Base.{map_option, bind_option}
use Rattle.rules.specs.Syntax.{Permit, acc, read, chain, num, null, var, path}
use Rattle.rules.specs.State.{Term, Permission, State, entry, rename_variable, rename_term, rename_permission, rename_permissions, stand_in, removed_term, remove_to, remove}
use Rattle.rules.specs.Machine.{Frame, Heap, Location, halves, value_at, value_of, bind}
use Rattle.rules.proofs.Lists.{some_inj, bind-some, option_cases, map_option-none, map_option-some, went_to, update_same, update_other}
use Rattle.rules.proofs.Sets.{location-eq}
use Rattle.rules.specs.Runs.{Walk}
use Rattle.rules.proofs.Dropping.{stand_in-is}
use Rattle.soundness.proofs.Satisfied.{term_value, location_of, Stock, OwnsPath, OwnsAs, Stocked, Reads, Knows, Satisfied}
use Rattle.soundness.proofs.ShowSound.{equal-variable}
use Rattle.soundness.proofs.DropSound.{became, facts-became}

-- A FRAME WITH A NEW VALUE OF x
pub bound-same : (F : Frame) (x v : ℕ) → value_of (bind x v F) x ≡ v
unfolding value_of bind
bound-same F x v = update_same 0 F.values x v

pub bound-other : (F : Frame) (x v y : ℕ) → (x ≡ y → ⊥) → value_of (bind x v F) y ≡ value_of F y
unfolding value_of bind
bound-other F x v y n = update_other 0 F.values x y v n

pub bound-held : (F : Frame) (x v : ℕ) → (bind x v F).held ≡ F.held
unfolding bind
bound-held F x v = refl

-- A RENAMING: G gives what it leaves the values that F gave
module _ (h : Heap) (F G : Frame) (x : ℕ) (to : Option ℕ)
    (K : (v w : ℕ) → rename_variable x to v ≡ some w → value_of G w ≡ value_of F v) where
  renamed-value : (t u : Term) → rename_term x to t ≡ some u → term_value h G u ≡ term_value h F t
  unfolding rename_term term_value
  renamed-value (num n) u e = ap (term_value h G) (sym (some_inj e))
  renamed-value null u e = ap (term_value h G) (sym (some_inj e))
  renamed-value (var v) u e =
      let (w, m, q) = bind-some (rename_variable x to v) _ u e in
      ap (term_value h G) (sym (some_inj q)) ∙ K v w m
  renamed-value (path v f) u e =
      let (w, m, q) = bind-some (rename_variable x to v) _ u e in
      ap (term_value h G) (sym (some_inj q)) ∙ ap (λ (o : ℕ). value_at h o f) (K v w m)

  renamed-permit : (p q : Permission) → rename_permission x to p ≡ some q → p.permit ≡ q.permit
  unfolding rename_permission
  renamed-permit p q e =
      let (w, m, r) = bind-some (rename_variable x to p.variable) _ q e in ap (λ (w : Permission). w.permit) (some_inj r)

  renamed-location : (p q : Permission) → rename_permission x to p ≡ some q → location_of G q ≡ location_of F p
  unfolding rename_permission
  renamed-location p q e =
      let (w, m, r) = bind-some (rename_variable x to p.variable) _ q e in
      ap (location_of G) (sym (some_inj r)) ∙ location-eq (K p.variable w m) refl

  renamed-path : (n : ℕ) (p q : Permission) (a : Stock) → rename_permission x to p ≡ some q → OwnsPath n F p a → OwnsPath n G q a
  renamed-path n p q a e O =
      record {
        object = λ z. O.object (sym (ap (λ (l : Location). l.object) (renamed-location p q e)) ∙ z);
        amount = λ l. O.amount l ∙ ap (λ (w : Location). halves (replicate n w) l) (sym (renamed-location p q e));
      }

  renamed-owned :
      (k : Permit) (p q : Permission) (a : Stock) → rename_permission x to p ≡ some q → OwnsAs k h F p a → OwnsAs k h G q a
  renamed-owned acc p q a e O = renamed-path 2 p q a e O
  renamed-owned read p q a e O = renamed-path 1 p q a e O
  renamed-owned chain p q a e O =
      let is : location_of G q ≡ location_of F p = renamed-location p q e in
      record {
        walk_of = O.walk_of;
        is-walk = subst (λ (l : Location). Walk h l.field l.object O.walk_of) (sym is) O.is-walk;
        amount = O.amount;
      }

  -- what goes owned something
  renamed-stocked :
      (ps : List Permission) (a : Stock) → Stocked h F ps a →
      (b : Stock) × Stocked h G (map_option (rename_permission x to) ps) b × ((l : Location) → b l ≤ a l)
  unfolding map_option
  renamed-stocked [] a S = (λ l. 0, λ l. refl, λ l. omega arith)
  renamed-stocked (p ∷ ps) a (u, v, O, S, k) =
      let (b, B, m) = renamed-stocked ps v S in
      ⊎_elim
      (λ e. (
        b,
        subst (λ l. Stocked h G l b) (sym (map_option-none (rename_permission x to) p ps e)) B,
        λ l. omega (arith, m l, k l),
      ))
      (λ (r, e). (
        λ l. u l + b l,
        subst (λ l. Stocked h G l (λ l. u l + b l)) (sym (map_option-some (rename_permission x to) p ps r e))
            (u, b, subst (λ (k : Permit). OwnsAs k h G r u) (renamed-permit p r e) (renamed-owned p.permit p r u e O), B, λ l. refl),
        λ l. omega (arith, m l, k l),
      ))
      (option_cases (rename_permission x to p))

  renamed-reads :
      (ps : List Permission) (t u : Term) → rename_term x to t ≡ some u → Reads ps t →
      Reads (rename_permissions x to ps) u
  unfolding rename_term rename_permission rename_permissions bind_option
  renamed-reads ps (num n) u e r = subst (Reads _) (some_inj e) tt
  renamed-reads ps null u e r = subst (Reads _) (some_inj e) tt
  renamed-reads ps (var v) u e r =
      let (w, m, q) = bind-some (rename_variable x to v) _ u e in subst (Reads _) (some_inj q) tt
  renamed-reads ps (path v f) u e (k, t, i) =
      let (w, m, q) = bind-some (rename_variable x to v) _ u e in
      subst (Reads _) (some_inj q) (
        k,
        t,
        went_to (rename_permission x to) ps (entry k v f) (entry k w f)
            (ap (λ (o : Option ℕ). bind_option o (λ w. some (entry k w f))) m) i,
      )

  module _ (s : State) (S : Satisfied h F s) where
    -- a term that is left or renamed has its value, and one that is dropped has its successor's
    pub renamed-term :
        (t u : Term) → removed_term x to s t ≡ some u → Reads s.permissions t →
        Reads (rename_permissions x to s.permissions) u × (term_value h G u ≡ term_value h F t)
    unfolding removed_term
    renamed-term =
        became h h F G s S (rename_term x to) (rename_permissions x to s.permissions)
        (λ t u e r. (renamed-reads s.permissions t u e r, renamed-value t u e)) (λ u e r. renamed-value u u e)

    pub renamed-knows : (b : Stock) × Knows h G (remove_to x to s) b × ((l : Location) → b l ≤ S.stock l)
    unfolding remove_to removed_term rename_permissions
    renamed-knows =
        let (b, B, m) = renamed-stocked s.permissions S.stock S.knows.stocked in (
          b,
          record {
            stocked = B;
            facts =
                facts-became h h F G s S (rename_term x to) (rename_permissions x to s.permissions)
                (λ t u e r. (renamed-reads s.permissions t u e r, renamed-value t u e)) (λ u e r. renamed-value u u e);
          },
          m,
        )

-- REMOVING x: the variable that takes its place has the value that x had
module _ (h : Heap) (F : Frame) (s : State) (S : Satisfied h F s) (x v : ℕ) where
  removed-variable : (y w : ℕ) → rename_variable x (stand_in s x) y ≡ some w → value_of (bind x v F) w ≡ value_of F y
  unfolding rename_variable
  removed-variable y w e = go (eqb y x) refl e
    where
      go : (b : Bool) → b ≡ eqb y x → cond b (stand_in s x) (some y) ≡ some w → value_of (bind x v F) w ≡ value_of F y
      go true r k =
          let (a, l) = stand_in-is s x w k in
          bound-other F x v w a ∙ (equal-variable h F s S w x l ∙ ap (value_of F) (sym (eqb→eq y x (subst T r tt))))
      go false r k =
          rw (← some_inj k) (bound-other F x v y (λ p. subst T (sym r) (subst (λ z. T (eqb y z)) (sym p) (eqb_refl y))))

  -- the lemma on removing
  pub removed-knows : (b : Stock) × Knows h (bind x v F) (remove x s) b × ((l : Location) → b l ≤ S.stock l)
  unfolding remove
  removed-knows = renamed-knows h F (bind x v F) x (stand_in s x) removed-variable s S

  pub remove-sound : Satisfied h (bind x v F) (remove x s)
  unfolding bind
  remove-sound =
      let (b, K, m) = removed-knows in record { stock = b; knows = K; within = λ l. omega (arith, m l, S.within l) }

  -- what becomes of a term has the value from before, and reads what is listed
  pub removed-term :
      (t u : Term) → removed_term x (stand_in s x) s t ≡ some u → Reads s.permissions t →
      Reads (remove x s).permissions u × (term_value h (bind x v F) u ≡ term_value h F t)
  unfolding remove remove_to
  removed-term = renamed-term h F (bind x v F) x (stand_in s x) removed-variable s S
