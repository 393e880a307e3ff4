-- Values by rounds: where no method reaches itself, as many rounds as methods give every method its value from those of the methods
-- that it calls.
use mathlib.Core.Path.{◌≡◌, refl, sym, ap, ◌∙◌, subst}
use mathlib.Core.Bool.{Bool, false, ◌||◌}
use mathlib.Core.List.{List, [], ◌∷◌, map}
use mathlib.Core.Logic.{◌⊎◌, inl, inr, ⊎_elim}
use Prim.Native.Nat.{ℕ, zero, suc, ◌≤◌, ◌<◌}
use native.Mathlib.Omega.{arith}
use lib.Dec.{T, eqb, ltb, eqb→eq, eqb_refl, ltb→lt, nltb→le, not_T}
use lib.ListN.{length, get_or}
use Rattle.rules.specs.Base.{Member}
use Rattle.rules.specs.Base as Base
use Rattle.rules.specs.Bounds.{Block, no_block, callees, round, value_by, block_reaches, reaches}
use Rattle.rules.specs.Bounds as Bounds
use Rattle.rules.proofs.Lists.{any-in, in-any, or_left, or_right, or_cases, decide_eq, decide-test}
use Rattle.bound_laws.specs.Routes.{block_at, calls, Reaches, directly, through, Acyclic, Clear}
use Rattle.bound_laws.proofs.Removal.{below, below-member, below_length, removed, removed-member, removed-from, removed-length}

clear-called : (bs : List Block) (n c : ℕ) → Member c (calls bs n) → Clear bs n → Clear bs c
clear-called bs n c e C = record { itself = C.others c (directly e); others = λ a r. C.others a (through e r) }

pub acyclic-clear : (bs : List Block) → Acyclic bs → (n : ℕ) → Clear bs n
acyclic-clear bs A n = record { itself = A n; others = λ a r. A a }

-- WHAT IS NOT THERE
get_d_map : {A : Type 0} (g : Block → A) (bs : List Block) (n : ℕ) → get_or (map g bs) n (g no_block) ≡ g (block_at bs n)
get_d_map g [] n = refl
get_d_map g (b ∷ bs) zero = refl
get_d_map g (b ∷ bs) (suc n) = get_d_map g bs n

pub block_at-past : (bs : List Block) (n : ℕ) → length bs ≤ n → block_at bs n ≡ no_block
block_at-past [] n l = refl
block_at-past (b ∷ bs) zero l = absurd (omega arith)
block_at-past (b ∷ bs) (suc n) l = block_at-past bs n (omega arith)

pub no-calls : callees no_block ≡ []
unfolding Bounds.opened Base.opened
no-calls = refl

decide-lt : (a n : ℕ) → (a < n) ⊎ (n ≤ a)
decide-lt a n = ⊎_elim (λ t. inl (ltb→lt a n t)) (λ t. inr (nltb→le a n (not_T (ltb a n) t))) (decide-test (ltb a n))

pub none_of : {c : ℕ} {l : List ℕ} → l ≡ [] → Member c l → ⊥
none_of {c} e m = go (subst (Member c) e m)
  where
    go : Member c [] → ⊥
    go m = elim m [ ]

pub calls-exist : (bs : List Block) (a c : ℕ) → Member c (calls bs a) → a < length bs
calls-exist bs a c i =
    ⊎_elim (λ l. l) (λ l. absurd (none_of (ap callees (block_at-past bs a l) ∙ no-calls) i))
    (decide-lt a (length bs))

-- VALUES
module _ {A : Type 0} (d : A) (f : (ℕ → A) → Block → A) (bs : List Block) (absent : (v : ℕ → A) → f v no_block ≡ d) where
  -- a method's value after k rounds
  unfoldable pub after : ℕ → ℕ → A
  after k n = get_or (round d f bs k) n d

  pub after-suc : (k n : ℕ) → after (suc k) n ≡ f (after k) (block_at bs n)
  unfolding after round
  after-suc k n =
      subst (λ (w : A). get_or (map (f (after k)) bs) n w ≡ f (after k) (block_at bs n)) (absent (after k))
      (get_d_map (f (after k)) bs n)

  after-past : (k n : ℕ) → length bs ≤ n → after k n ≡ d
  unfolding after round
  after-past zero n l = refl
  after-past (suc k) n l = after-suc k n ∙ ap (f (after k)) (block_at-past bs n l) ∙ absent (after k)

  -- f looks only at the methods that are called
  module _
      (local : (v w : ℕ → A) (b : Block) → ((c : ℕ) → Member c (callees b) → v c ≡ w c) → f v b ≡ f w b) where
    -- set: the methods that n is or reaches
    stable :
        (k : ℕ) (set : List ℕ) (n : ℕ) → Clear bs n → length set ≤ k → (n < length bs → Member n set) →
        ((c : ℕ) → Reaches bs n c → c < length bs → Member c set) → (i j : ℕ) → k ≤ i → k ≤ j → after i n ≡ after j n
    stable zero set n C s m r i j p q =
        ⊎_elim (λ l. absurd (nothing set s (m l))) (λ l. after-past i n l ∙ sym (after-past j n l)) (decide-lt n (length bs))
      where
        nothing : (set : List ℕ) → length set ≤ 0 → Member n set → ⊥
        nothing [] s m = elim m [ ]
        nothing (a ∷ set) s m = omega arith
    stable (suc k) set n C s m r zero j p q = absurd (omega arith)
    stable (suc k) set n C s m r (suc i) zero p q = absurd (omega arith)
    stable (suc k) set n C s m r (suc i) (suc j) p q =
        after-suc i n
        ∙ local (after i) (after j) (block_at bs n)
        (λ c e.
        stable k (removed n set) c (clear-called bs n c e C) (omega (arith, removed-length n set (m (calls-exist bs n c e)), s))
        (λ l. removed-member n c set (r c (directly e) l) (λ w. C.itself (directly (subst (λ c. Member c (calls bs n)) w e))))
        (λ b t l. removed-member n b set (r b (through e t) l) (λ w. C.itself (through e (subst (Reaches bs c) w t))))
        i j (omega arith) (omega arith))
        ∙ sym (after-suc j n)

    -- the value of a method from the values of those that it calls
    pub value-law : (n : ℕ) → Clear bs n → value_by d f bs n ≡ f (value_by d f bs) (block_at bs n)
    unfolding after value_by
    value-law n C =
        let N : ℕ = length bs in
        stable N (below N) n C (omega (arith, below_length N)) (λ l. below-member N n l) (λ c r l. below-member N c l) N (suc N)
        (omega arith) (omega arith)
        ∙ after-suc N n

-- REACHING: the rounds find a route wherever there is one
module _ (bs : List Block) (a : ℕ) where
  reach-absent : (v : ℕ → Bool) → block_reaches a v no_block ≡ false
  unfolding Bounds.opened Base.opened
  reach-absent v = refl

  abbrev found : ℕ → ℕ → Bool
  found = after false (block_reaches a) bs reach-absent

  found-suc : (k n : ℕ) → found (suc k) n ≡ block_reaches a (found k) (block_at bs n)
  found-suc = after-suc false (block_reaches a) bs reach-absent

  -- a route on which no method comes twice, over the methods of a set
  data Way : List ℕ → ℕ → Type 0 where
    last : {set : List ℕ} {n : ℕ} → Member n set → Member a (calls bs n) → Way set n
    more : {set : List ℕ} {n c : ℕ} → Member n set → Member c (calls bs n) → Way (removed n set) c → Way set n

  wider : {set : List ℕ} {n : ℕ} (set' : List ℕ) → Way set n → ((i : ℕ) → Member i set → Member i set') → Way set' n
  wider set' (last i j) s = last (s _ i) j
  wider {set = set} {n = n} set' (more i j w) s =
      more (s _ i) j
      (wider (removed n set') w (λ b m. let (x, y) = removed-from n b set m in removed-member n b set' (s b x) y))

  -- the rest of a route after it leaves n
  data From (n : ℕ) (set : List ℕ) : Type 0 where
    at_once : Member a (calls bs n) → From n set
    by_way : (c : ℕ) → Member c (calls bs n) → Way set c → From n set

  -- a route misses n, or from its last visit of n on it is one that misses n
  cut : (n : ℕ) {set : List ℕ} {c : ℕ} → Way set c → Way (removed n set) c ⊎ From n (removed n set)
  cut n {set} {c} (last i j) =
      ⊎_elim (λ e. inr (at_once (subst (λ c. Member a (calls bs c)) e j))) (λ d. inl (last (removed-member n c set i d) j))
      (decide_eq c n)
  cut n {set} {c} (more {c = b} i j w) =
      ⊎_elim
      (λ e.
      inr (by_way b (subst (λ c. Member b (calls bs c)) e j) (subst (λ c. Way (removed c set) b) e w)))
      (λ d.
      ⊎_elim
      (λ v. inl (more (removed-member n c set i d) j (wider (removed c (removed n set)) v (λ x m.
      let (p, q) = removed-from n x (removed c set) m in
      let (s, t) = removed-from c x set p in
      removed-member c x (removed n set) (removed-member n x set s q) t))))
      (λ v. inr (narrow v))
      (cut n w))
      (decide_eq c n)
    where
      narrow : From n (removed n (removed c set)) → From n (removed n set)
      narrow (at_once j) = at_once j
      narrow (by_way x j v) =
          by_way x j
          (wider (removed n set) v
          (λ y m. let (p, q) = removed-from n y (removed c set) m in removed-member n y set (removed-from c y set p).0 q))

  way : {n b : ℕ} → Reaches bs n b → b ≡ a → Way (below (length bs)) n
  way {n} (directly {b = b} j) e =
      last (below-member (length bs) n (calls-exist bs n b j)) (subst (λ b. Member b (calls bs n)) e j)
  way {n} (through {c = c} j r) e =
      let i : Member n (below (length bs)) = below-member (length bs) n (calls-exist bs n c j) in
      ⊎_elim (λ w. more i j w) (λ r. go i r) (cut n (way r e))
    where
      go : Member n (below (length bs)) → From n (removed n (below (length bs))) → Way (below (length bs)) n
      go i (at_once j) = last i j
      go i (by_way c j w) = more i j w

  way-found : (k : ℕ) (set : List ℕ) (n : ℕ) → length set ≤ k → Way set n → T (found k n)
  unfolding block_reaches
  way-found zero [] n l (last i j) = elim i [ ]
  way-found zero [] n l (more i j w) = elim i [ ]
  way-found zero (x ∷ set) n l w = absurd (omega arith)
  way-found (suc k) set n l (last i j) =
      subst T (sym (found-suc k n)) (any-in (λ c. eqb c a || found k c) (calls bs n) a j (or_left (eqb a a) _ (eqb_refl a)))
  way-found (suc k) set n l (more {c = c} i j w) =
      subst T (sym (found-suc k n))
      (any-in (λ c. eqb c a || found k c) (calls bs n) c j
      (or_right (eqb c a) _ (way-found k (removed n set) c (omega (arith, l, removed-length n set i)) w)))

  pub route-found : (n : ℕ) → Reaches bs n a → T (reaches bs a n)
  unfolding reaches value_by after
  route-found n r = way-found (length bs) (below (length bs)) n (omega (arith, below_length (length bs))) (way r refl)

  found-way : (k n : ℕ) → T (found k n) → Reaches bs n a
  unfolding after round block_reaches
  found-way zero n t = absurd t
  found-way (suc k) n t =
      in-any (λ c. eqb c a || found k c) (calls bs n) (subst T (found-suc k n) t)
      (λ c i t.
      ⊎_elim (λ e. directly (subst (λ c. Member c (calls bs n)) (eqb→eq c a e) i)) (λ r. through i (found-way k c r))
      (or_cases (eqb c a) _ t))

  pub found-route : (n : ℕ) → T (reaches bs a n) → Reaches bs n a
  unfolding reaches value_by after
  found-route n t = found-way (length bs) n t
