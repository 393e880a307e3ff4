-- A formula that reads only what it takes before is decided by what it takes: so what requires hands over, after number 10.
use mathlib.Core.Path.{◌≡◌, refl, sym, ap, ◌∙◌, subst}
use mathlib.Core.Bool.{Bool, true, false, cond, ◌&&◌}
use mathlib.Core.List.{List, [], ◌∷◌, ◌++◌}
use mathlib.Core.Logic.{⊎_elim}
use Prim.Native.Nat.{ℕ, zero, suc, ◌+◌, ◌≤◌}
use native.Mathlib.Omega.{arith}
use lib.Dec.{T, eqb, leb, le→leb, eqb→eq}
use lib.ListN.{length, replicate}
use Rattle.rules.specs.Base.{ok, Member}
use Rattle.rules.specs.Answers.{accepted, refused, unframed, formula_false}
use Rattle.rules.specs.Syntax.{Permit, Expr, Formula, Method, Program, method_numbered, num, null, var, path, acc, read, chain, is_path, own, cmp}
use Rattle.rules.specs.Items.{Item}
use Rattle.rules.specs.Reading.{Access, framed_expr, framed, framed_item, check_framed, with_requires, with_ensures, program}
use Rattle.rules.specs.Runs.{handed_over}
use Rattle.rules.specs.Machine.{Config, Frame, Heap, Location, holding, halves, walk, take_walk, take_halves, take_share, take_from, footprint, locate, value, value_of, value_at, compared, call_frame}
use Rattle.rules.proofs.Lists.{and_both, decide_eq, F-false, in-any, head-or}
use Rattle.rules.proofs.Tries.{bind_ok, check-ok, ok-inj, no_ok, bind-of-ok, pass, refused-accepted}
use Rattle.rules.proofs.Sets.{location-eq, halves-nil, halves-cons, halves-append, at_same, locate-is, halves-replicate}
use Rattle.rules.proofs.Walks.{walk-walks, walk-taken, walk-goes, walk_ends, fewer}
use Rattle.rules.proofs.Footprints.{taken-grows, halves-taken}
use Rattle.rules.proofs.Changes.{step-enters, call_enters}
use Rattle.soundness.proofs.ProgramParts.{all-at, ItemsHold, Kept, parts}
use Rattle.unseen.specs.Unseen.{SameAt}
use Rattle.unseen.specs.Handed.{DecidedByFootprint, HandsTheSame}
use Rattle.unseen.proofs.Handed.{handed-is}

-- A WALK THAT IS DONE

module _ (h : Heap) (F : Frame) (B : List Location) (f : ℕ) where
  -- its first step passes a location that is held whole
  walk_step :
      (n o : ℕ) (passed C : List Location) → (o ≡ 0 → ⊥) → walk h F B f (suc n) o passed ≡ ok C →
      (halves passed (record { object = o; field = f }) ≡ 0) × (halves B (record { object = o; field = f }) ≡ 0)
      × (walk h F B f n (value_at h o f) (record { object = o; field = f } ∷ passed) ≡ ok C)
  unfolding walk
  walk_step n o passed C z e =
      let p : Location = record { object = o; field = f } in
      let (a, e₁) = check-ok _ _ (rw (F-false (eqb o 0) (λ t. z (eqb→eq o 0 t))) at e) in
      let (b, e₂) = check-ok _ _ e₁ in (
        eqb→eq _ 0 a,
        eqb→eq _ 0 (and_both (leb 2 (halves F.held p)) (eqb (halves B p) 0) b).1,
        e₂,
      )

  walk_none : (o : ℕ) (passed C : List Location) → (o ≡ 0 → ⊥) → walk h F B f zero o passed ≡ ok C → ⊥
  unfolding walk
  walk_none o passed C z e = no_ok (rw (F-false (eqb o 0) (λ t. z (eqb→eq o 0 t))) at e)

  -- what was passed stays so
  walk-grows : (n o : ℕ) (passed C : List Location) → walk h F B f n o passed ≡ ok C → (p : Location) → halves passed p ≤ halves C p
  walk-grows n o passed C e p = let (ws, _, k) = walk-walks h F B f n o passed C e in omega (arith, k p)

-- TWO HEAPS, TWO SETS
-- F over the heap h, and with the set H over the heap h'
module _ (h h' : Heap) (F : Frame) (H : List Location) where
  -- n halves of each of these locations are in H, and it has one value in both heaps
  abbrev Both : ℕ → List Location → Type 0
  Both n C = (p : Location) → 1 ≤ halves C p → SameAt h h' p × (n ≤ halves H p)

  locate-again :
      (n x f : ℕ) (B : List Location) (p : Location) → locate F B n x f ≡ ok p → n + halves B p ≤ halves H p →
      locate (holding H F) B n x f ≡ ok p
  unfolding locate holding value_of
  locate-again n x f B p e l =
      let is : p ≡ record { object = value_of F x; field = f } = locate-is F B n x f p e in
      pass _ _ _ (check-ok _ _ e).0
      ∙ (pass _ _ _ (le→leb _ _ (subst (λ (r : Location). n + halves B r ≤ halves H r) is l)) ∙ ap ok (sym is))

  walk-again :
      (B : List Location) (f n n' o : ℕ) (passed C : List Location) → walk h F B f n o passed ≡ ok C → length C ≤ n' + length passed →
      Both 2 C → walk h' (holding H F) B f n' o passed ≡ ok C
  unfolding holding
  walk-again B f zero n' o passed C e l k =
      ⊎_elim
      (λ z. walk_ends h' (holding H F) B f n' o passed z ∙ (sym (walk_ends h F B f zero o passed z) ∙ e))
      (λ z. absurd (walk_none h F B f o passed C z e))
      (decide_eq o 0)
  walk-again B f (suc n) zero o passed C e l k =
      ⊎_elim
      (λ z. walk_ends h' (holding H F) B f zero o passed z ∙ (sym (walk_ends h F B f (suc n) o passed z) ∙ e))
      (λ z.
      let p : Location = record { object = o; field = f } in
      let (_, _, e₁) = walk_step h F B f n o passed C z e in
      absurd (omega (arith, l, fewer (p ∷ passed) C (walk-grows h F B f n _ (p ∷ passed) C e₁))))
      (decide_eq o 0)
  walk-again B f (suc n) (suc n') o passed C e l k =
      ⊎_elim
      (λ z. walk_ends h' (holding H F) B f (suc n') o passed z ∙ (sym (walk_ends h F B f (suc n) o passed z) ∙ e))
      (λ z.
      let p : Location = record { object = o; field = f } in
      let (a, b, e₁) = walk_step h F B f n o passed C z e in
      let (s, t) = k p (omega (arith, walk-grows h F B f n _ (p ∷ passed) C e₁ p, halves-cons p passed p, at_same p)) in
      walk-goes h' (holding H F) B f n' o passed z a t b
      ∙ (ap (λ (v : ℕ). walk h' (holding H F) B f n' v (p ∷ passed)) s
      ∙ walk-again B f n n' (value_at h o f) (p ∷ passed) C e₁ (omega (arith, l)) k))
      (decide_eq o 0)

  -- WHAT AN ATOM TAKES: C, of which H has as much
  abbrev Has : List Location → Type 0
  Has C = Both 1 C × ((p : Location) → halves C p ≤ halves H p)

  halves-again : (n x f : ℕ) (B C : List Location) → take_halves F n x f B ≡ ok C → Has C → take_halves (holding H F) n x f B ≡ ok C
  unfolding take_halves
  halves-again n x f B C e k =
      let (q, i, j) = halves-taken F n x f B C e in
      let sum : halves C q ≡ n + halves B q =
      ap (λ (D : List Location). halves D q) (sym j) ∙ (halves-append (replicate n q) B q ∙ ap (λ (c : ℕ). c + halves B q) (halves-replicate n q)) in
      bind-of-ok (locate (holding H F) B n x f) q _ (locate-again n x f B q i (omega (arith, sum, k.1 q))) ∙ ap ok j

  chain-again : (f o : ℕ) (B C : List Location) → take_walk h F f o B ≡ ok C → Has C → take_walk h' (holding H F) f o B ≡ ok C
  unfolding take_walk holding
  chain-again f o B C e k =
      let (ws, i, j) = bind_ok (walk h F B f (length F.held) o []) e in
      let sum : (p : Location) → halves C p ≡ halves ws p + (halves ws p + halves B p) =
      λ p. ap (λ (D : List Location). halves D p) (sym (ok-inj j)) ∙ (halves-append ws (ws ++ B) p ∙ ap (λ (c : ℕ). halves ws p + c) (halves-append ws B p)) in
      bind-of-ok (walk h' (holding H F) B f (length H) o []) ws _
      (walk-again B f (length F.held) (length H) o [] ws i
      (omega (arith, fewer ws H (λ p. omega (arith, sum p, k.1 p))))
      (λ p l. ((k.0 p (omega (arith, l, sum p))).0, omega (arith, l, sum p, k.1 p))))
      ∙ j

  share_again :
      (k : Permit) (x f : ℕ) (B C : List Location) → take_share h F k x f B ≡ ok C → Has C → take_share h' (holding H F) k x f B ≡ ok C
  unfolding take_share value_of holding
  share_again acc x f B C e k = halves-again 2 x f B C e k
  share_again read x f B C e k = halves-again 1 x f B C e k
  share_again chain x f B C e k = chain-again f (value_of F x) B C e k

  -- WHAT IS READ: each access that stands before is taken
  abbrev Taken : List Access → List Location → Type 0
  Taken before B = (a : Access) → Member a before → 1 ≤ halves B (record { object = value_of F a.variable; field = a.field })

  value-again :
      (before : List Access) (B : List Location) → Taken before B → Has B → (e : Expr ℕ) → T (framed_expr before e) → (v : ℕ) →
      value h F e ≡ ok v → value h' (holding H F) e ≡ ok v
  unfolding value framed_expr value_of holding
  value-again before B t k (num n) g v e = e
  value-again before B t k null g v e = e
  value-again before B t k (var x) g v e = e
  value-again before B t k (path x f) g v e =
      let (p, i, j) = bind_ok (locate F [] 1 x f) e in
      let is : p ≡ record { object = value_of F x; field = f } = locate-is F [] 1 x f p i in
      in-any (λ a. eqb a.variable x && eqb a.field f) before g λ a m u.
      let (b, c) = and_both (eqb a.variable x) (eqb a.field f) u in
      let l : 1 ≤ halves B p =
      subst (λ (r : Location). 1 ≤ halves B r) (location-eq (ap (value_of F) (eqb→eq _ _ b)) (eqb→eq _ _ c) ∙ sym is) (t a m) in
      let (s, o) = k.0 p l in
      bind-of-ok (locate (holding H F) [] 1 x f) p _ (locate-again 1 x f [] p i (omega (arith, o, halves-nil p)))
      ∙ (ap ok (subst (λ (g : ℕ). value_at h' p.object g ≡ value_at h p.object g) (ap (λ (r : Location). r.field) is) s) ∙ j)

  -- A FORMULA
  taken-too :
      (n x f : ℕ) (before : List Access) (B C : List Location) → 1 ≤ n → take_halves F n x f B ≡ ok C → Taken before B →
      Taken (record { variable = x; field = f } ∷ before) C
  taken-too n x f before B C l e t a m =
      let (q, i, j) = halves-taken F n x f B C e in
      let sum : (p : Location) → halves C p ≡ halves (replicate n q) p + halves B p =
      λ p. ap (λ (D : List Location). halves D p) (sym j) ∙ halves-append (replicate n q) B p in
      ⊎_elim
      (λ k. omega (arith, t a k, sum (record { object = value_of F a.variable; field = a.field })))
      (λ w.
      subst (λ (b : Access). 1 ≤ halves C (record { object = value_of F b.variable; field = b.field })) (sym w)
      (subst (λ (p : Location). 1 ≤ halves C p) (locate-is F B n x f q i) (omega (arith, l, sum q, halves-replicate n q))))
      (head-or m)

  taken-still : (before : List Access) (B C : List Location) → ((p : Location) → halves B p ≤ halves C p) → Taken before B → Taken before C
  taken-still before B C g t a m =
      omega (arith, t a m, g (record { object = value_of F a.variable; field = a.field }))

  has-less : (B C : List Location) → ((p : Location) → halves B p ≤ halves C p) → Has C → Has B
  has-less B C g k = (λ p l. k.0 p (omega (arith, l, g p)), λ p. omega (arith, g p, k.1 p))

  take_again :
      (φ : Formula ℕ) (before : List Access) (B A : List Location) → T (framed before φ) → Taken before B → take_from h F φ B ≡ ok A →
      Has A → take_from h' (holding H F) φ B ≡ ok A
  unfolding take_from framed is_path take_share
  take_again [] before B A g t e k = e
  take_again (own acc x f ∷ φ) before B A g t e k =
      let (C, i, e₁) = bind_ok (take_share h F acc x f B) e in
      let c = share_again acc x f B C i (has-less C A (taken-grows h F φ C A e₁) k) in
      bind-of-ok (take_share h' (holding H F) acc x f B) C _ c
      ∙ take_again φ _ C A g (taken-too 2 x f before B C (omega arith) i t) e₁ k
  take_again (own read x f ∷ φ) before B A g t e k =
      let (C, i, e₁) = bind_ok (take_share h F read x f B) e in
      let c = share_again read x f B C i (has-less C A (taken-grows h F φ C A e₁) k) in
      bind-of-ok (take_share h' (holding H F) read x f B) C _ c
      ∙ take_again φ _ C A g (taken-too 1 x f before B C (omega arith) i t) e₁ k
  take_again (own chain x f ∷ φ) before B A g t e k =
      let (C, i, e₁) = bind_ok (take_share h F chain x f B) e in
      let c = share_again chain x f B C i (has-less C A (taken-grows h F φ C A e₁) k) in
      let (ws, _, s) = walk-taken h F f (value_of F x) B C i in
      bind-of-ok (take_share h' (holding H F) chain x f B) C _ c
      ∙ take_again φ before C A g (taken-still before B C (λ p. omega (arith, s p)) t) e₁ k
  take_again (cmp n a b ∷ φ) before B A g t e k =
      let (ga, g₁) = and_both (framed_expr before a) (framed_expr before b && framed before φ) g in
      let (gb, g₂) = and_both (framed_expr before b) (framed before φ) g₁ in
      let (v, ea, e₁) = bind_ok (value h F a) e in
      let (w, eb, e₂) = bind_ok (value h F b) e₁ in
      let (c, e₃) = check-ok (compared n v w) formula_false e₂ in
      let less = has-less B A (taken-grows h F φ B A e₃) k in
      bind-of-ok (value h' (holding H F) a) v _ (value-again before B t less a ga v ea)
      ∙ (bind-of-ok (value h' (holding H F) b) w _ (value-again before B t less b gb w eb)
      ∙ (pass (compared n v w) formula_false _ c ∙ take_again φ before B A g₂ t e₃ k))

pub decided-by-footprint : DecidedByFootprint
unfolding footprint
decided-by-footprint h h' F H φ A g e same has =
    take_again h h' F H φ [] [] A g (λ a m. elim m [ ]) e (λ p l. (same p l, omega (arith, l, has p)), has)

-- WHAT REQUIRES HANDS OVER

-- of a text that number 10 lets pass
abbrev Framed : Method → Type 0
Framed M = T (framed [] M.requires)

abbrev FramedItem : ℕ → Item → Type 0
FramedItem l a = T (framed_item a)

framed_kept : Kept FramedItem Framed (λ r. Unit {0})
unfolding with_requires with_ensures framed_item framed
framed_kept = record { method = λ n. tt; requires = λ l φ N i G. i; ensures = λ l φ N i G. G; row = λ l s i. tt }

items-framed : (items : List Item) (n : ℕ) → check_framed items n ≡ accepted tt → ItemsHold FramedItem n items
unfolding check_framed
items-framed [] n e = tt
items-framed (a ∷ items) n e = go (framed_item a) e (λ c. items-framed items (suc n) c)
  where
    go :
        (b : Bool) → cond b (check_framed items (suc n)) (refused unframed (suc n)) ≡ accepted tt →
        (check_framed items (suc n) ≡ accepted tt → ItemsHold FramedItem (suc n) items) → T b × ItemsHold FramedItem (suc n) items
    go true c ih = (tt, ih c)
    go false c ih = refused-accepted c

requires-framed : (items : List Item) → check_framed items 0 ≡ accepted tt → (n : ℕ) → Framed (method_numbered (program items) n)
unfolding method_numbered framed
requires-framed items e n =
    all-at Framed (program items).methods _ tt (parts FramedItem Framed (λ r. Unit {0}) framed_kept items (items-framed items 0 e)).methods n

-- the frame of the second call is that of the first, with another set
frame-again :
    (m m' : Config) (M : Method) (y z y' z' : ℕ) → value_of m'.frame y' ≡ value_of m.frame y → value_of m'.frame z' ≡ value_of m.frame z →
    call_frame m' M y' z' ≡ holding m'.frame.held (call_frame m M y z)
unfolding call_frame holding
frame-again m m' M y z y' z' a b = rw (a, b) refl

pub hands-the-same : HandsTheSame
hands-the-same t items r c room n m a y z C m' y' z' receiver argument same has =
    let P : Program = program items in
    let M : Method = method_numbered P n in
    let (A, f, e) = call_enters y M z m a (step-enters room P C.x y n z m a C.is_call C.is_done) in
    let is : handed_over P m y n z ≡ A = handed-is P m y n z A f in
    let again : footprint m'.heap (holding m'.frame.held (call_frame m M y z)) M.requires ≡ ok A =
    decided-by-footprint m.heap m'.heap (call_frame m M y z) m'.frame.held M.requires A (requires-framed items c n) f
    (λ p l. same p (subst (λ (B : List Location). 1 ≤ halves B p) (sym is) l))
    (λ p. subst (λ (B : List Location). halves B p ≤ halves m'.frame.held p) is (has p)) in
    handed-is P m' y' n z' A
    (ap (λ (F : Frame). footprint m'.heap F M.requires) (frame-again m m' M y z y' z' receiver argument) ∙ again)
    ∙ sym is
