-- Laws of the queue: what is added, what the rows of a method add, and what the search holds at its end.
use mathlib.Core.Path.{◌≡◌, refl, sym, ap, ◌∙◌, subst}
use mathlib.Core.Bool.{Bool, true, false, cond, ◌||◌}
use mathlib.Core.List.{List, [], ◌∷◌}
use mathlib.Core.Logic.{◌⊎◌, inl, inr, ⊎_elim}
use Prim.Native.Nat.{ℕ, zero, suc, ◌+◌, ◌≤◌, ◌<◌}
use native.Mathlib.Omega.{arith}
use lib.Dec.{T, eqb, leb, leb→le, le→leb, eqb→eq, eqb_refl}
use lib.ListN.{length, get_or, set, replicate, length-set}
use lib.Seq.{get_or-set_same, get_or-set_other}
use Rattle.rules.specs.Base.{Member, at_head, further}
use Rattle.rules.specs.Limits.{most_methods}
use Rattle.rules.specs.Syntax.{Program, row_numbered}
use Rattle.rules.specs.Bounds.{Block, block, callees, reaches}
use Rattle.rules.proofs.Lists.{head-or, decide_eq, T_true, F-false, or_left, or_right, or_cases}
use Rattle.tables.specs.Decode.{row_count, method_count, first_row_at, program_in}
use Rattle.tables.specs.Tables.{Tables}
use Rattle.bound_laws.specs.Routes.{calls, Reaches, directly, through}
use Rattle.bound_laws.proofs.Routes.{none_of, route-found, found-route}
use Rattle.bound_laws.proofs.Blocks.{block_goes, block-ends, callees-nil, callees-none, callees-some}
use Rattle.bound_rows.specs.declared.Line.{Line}
use Rattle.bound_rows.specs.declared.Line.TheVariants as Lines
use Rattle.bound_rows.specs.Lines.{line_in, Says, blocks_in}
use Rattle.bound_rows.proofs.Lines.{says, row-after, call-there, block-there}
use Rattle.bound_lines.specs.declared.Reached.{Reached}
use Rattle.bound_lines.specs.Reach as Reach
use Rattle.bound_lines.specs.Reach.{pushed, added, missing, Has, Seeking, Grows, Gathered, begun}

missing-set : (l : List Bool) (i : ℕ) → i < length l → get_or l i false ≡ false → missing (set l i true) + 1 ≡ missing l
unfolding missing
missing-set [] i h e = absurd (omega arith)
missing-set (b ∷ l) zero h e = rw e (omega arith)
missing-set (b ∷ l) (suc i) h e = omega (arith, missing-set l i (omega arith) e)

false-or-true : (b : Bool) → (b ≡ true) ⊎ (b ≡ false)
false-or-true true = inl refl
false-or-true false = inr refl

clash : false ≡ true → ⊥
clash e = cc

grows_same : (q : Reached) → Grows q q
grows_same q = record { keeps = λ n h. h; same = λ k l. refl; more = omega arith }

grows-both : (q r s : Reached) → Grows q r → Grows r s → Grows q s
grows-both q r s G H =
    record {
      keeps = λ n h. H.keeps n (G.keeps n h);
      same = λ k l. H.same k (omega (arith, l, G.more)) ∙ G.same k l;
      more = omega (arith, G.more, H.more);
    }

module _ (w : List ℕ) (tables : Tables w) (c : ℕ) where
  abbrev bs : List Block
  bs = blocks_in w

  -- ONE METHOD MORE
  record Adds (q r : Reached) (d : ℕ) : Type 0 where
    seeking : Seeking w c r
    grows : Grows q r
    there : Has r d

  module _ (q : Reached) (d : ℕ) (S : Seeking w c q) (l : d < method_count w) (R : (d ≡ c) ⊎ Reaches bs c d) where
    d_small : d < length q.has
    d_small = omega (arith, l, tables.methods, S.has_length)

    module _ (e : get_or q.has d false ≡ false) where
      counted : missing (set q.has d true) + 1 ≡ missing q.has
      counted = missing-set q.has d d_small e

      small : q.count < length q.order
      small = omega (arith, S.room, counted, S.order_length)

      has-d : get_or (set q.has d true) d false ≡ true
      has-d = get_or-set_same q.has d true false d_small

      keep : (n : ℕ) → get_or q.has n false ≡ true → get_or (set q.has d true) n false ≡ true
      keep n h =
          ⊎_elim (λ v. subst (λ n. get_or (set q.has d true) n false ≡ true) (sym v) has-d)
          (λ v. get_or-set_other q.has d n true false v ∙ h) (decide_eq n d)

      at :
          (k : ℕ) → k < q.count + 1 → (Q : ℕ → Type 0) → Q d → (k < q.count → Q (get_or q.order k 0)) →
          Q (get_or (set q.order q.count d) k 0)
      at k b Q x y =
          ⊎_elim
          (λ v. subst (λ k. Q (get_or (set q.order q.count d) k 0)) (sym v) (subst Q (sym (get_or-set_same q.order q.count d 0 small)) x))
          (λ v. subst Q (sym (get_or-set_other q.order q.count k d 0 v)) (y (less v)))
          (decide_eq k q.count)
        where
          less : (k ≡ q.count → ⊥) → k < q.count
          less v = omega (arith, b, v)

      push : Adds q (pushed q d) d
      unfolding pushed
      push =
          record {
            seeking =
                record {
                  sound =
                      λ n h.
                      ⊎_elim (λ v. subst (λ n. (n ≡ c) ⊎ Reaches bs c n) (sym v) R)
                      (λ v. S.sound n (sym (get_or-set_other q.has d n true false v) ∙ h)) (decide_eq n d);
                  exist = λ k b. at k b (λ m. m < method_count w) l (λ b. S.exist k b);
                  listed = λ k b. at k b (λ m. get_or (set q.has d true) m false ≡ true) has-d (λ b. keep (get_or q.order k 0) (S.listed k b));
                  covered =
                      λ n h.
                      ⊎_elim (λ v. (q.count, omega arith, get_or-set_same q.order q.count d 0 small ∙ sym v))
                      (λ v.
                      let (k, b, g) = S.covered n (sym (get_or-set_other q.has d n true false v) ∙ h) in
                      (k, omega (arith, b), get_or-set_other q.order q.count k d 0 (λ z. omega (arith, b, z)) ∙ g))
                      (decide_eq n d);
                  starts = keep c S.starts;
                  room = omega (arith, S.room, counted);
                  has_length = length-set q.has d true ∙ S.has_length;
                  order_length = length-set q.order q.count d ∙ S.order_length;
                };
            grows =
                record {
                  keeps = keep;
                  same = λ k b. get_or-set_other q.order q.count k d 0 (λ z. omega (arith, b, z));
                  more = omega arith;
                };
            there = has-d;
          }

    adds : Adds q (added q d) d
    unfolding added
    adds =
        ⊎_elim (λ h. rw h (record { seeking = S; grows = grows_same q; there = h })) (λ h. go h) (false-or-true (get_or q.has d false))
      where
        go : get_or q.has d false ≡ false → Adds q (cond (get_or q.has d false) q (cond (leb most_methods q.count) q (pushed q d))) d
        go h =
            rw (h, F-false (leb most_methods q.count) (λ t. omega (arith, leb→le most_methods q.count t, S.room, counted h)))
            (push h)

  pub small_count : (q : Reached) → Seeking w c q → q.count ≤ most_methods
  small_count q S = omega (arith, S.room)

  append : {a b d : ℕ} → Reaches bs a b → Member d (calls bs b) → Reaches bs a d
  append (directly j) i = through j (directly i)
  append (through j r) i = through j (append r i)

  -- THE ROWS OF THE METHOD m
  module _ (m : ℕ) (q : Reached) where
    pub record Gathering (k : Reached) (row : ℕ) : Type 0 where
      pub seeking : Seeking w c k
      pub grows : Grows q k
      pub owner : Has q m
      pub inside : (d : ℕ) → Member d (callees (block (program_in w) row)) → Member d (calls bs m)
      pub rest : (d : ℕ) → Member d (calls bs m) → Member d (callees (block (program_in w) row)) ⊎ Has k d
      pub within : row < row_count w

    pub gather-start : Seeking w c q → Has q m → m < method_count w → (n : ℕ) → n ≡ first_row_at w m → Gathering q n
    gather-start S h l n e =
        rw e
        (record {
          seeking = S;
          grows = grows_same q;
          owner = h;
          inside = λ d i. subst (λ b. Member d (callees b)) (sym (block-there w m l)) i;
          rest = λ d i. inl (subst (λ b. Member d (callees b)) (block-there w m l) i);
          within = (tables.method_fits m l).block.0;
        })

    module _ (k : Reached) (row : ℕ) (G : Gathering k row) where
      abbrev P : Program
      P = program_in w

      stmt_says : (v : Line) → v ≡ line_in w row → Says v (row_numbered P row).stmt
      stmt_says v e = subst (λ v. Says v (row_numbered P row).stmt) (sym e) (says (row_numbered P row).stmt)

      pub gather-end : Lines.End ≡ line_in w row → Gathered w c m q k
      gather-end e =
          let (a, b, _) = stmt_says Lines.End e in
          let is : callees (block P row) ≡ [] = ap callees (block-ends P row a) ∙ callees-none (row_numbered P row) [] b ∙ callees-nil in
          record {
            seeking = G.seeking;
            grows = G.grows;
            all = λ d i. ⊎_elim (λ j. absurd (none_of is j)) (λ h. h) (G.rest d i);
          }

      not_end : (v : Line) → v ≡ line_in w row → (v ≡ Lines.End → ⊥) → suc row < row_count w
      not_end v e n = row-after w tables row G.within (λ x. n (e ∙ x))

      skip : (n : ℕ) → n ≡ row + 1 → callees (block P row) ≡ callees (block P (suc row)) → suc row < row_count w → Gathering k n
      skip n r is l =
          subst (Gathering k) (omega (arith, r))
          (record {
            seeking = G.seeking;
            grows = G.grows;
            owner = G.owner;
            inside = λ d i. G.inside d (subst (Member d) (sym is) i);
            rest = λ d i. ⊎_elim (λ j. inl (subst (Member d) is j)) (λ h. inr h) (G.rest d i);
            within = l;
          })

      pub gather-plain : (n : ℕ) → n ≡ row + 1 → Lines.Plain ≡ line_in w row → Gathering k n
      gather-plain n r e =
          let (a, b, _) = stmt_says Lines.Plain e in
          skip n r (ap callees (block_goes P row a) ∙ callees-none (row_numbered P row) (block P (suc row)) b)
          (not_end Lines.Plain e (λ x. cc))

      pub gather-loop : (n : ℕ) → n ≡ row + 1 → Lines.Loop ≡ line_in w row → Gathering k n
      gather-loop n r e =
          let (a, b, _) = stmt_says Lines.Loop e in
          skip n r (ap callees (block_goes P row a) ∙ callees-none (row_numbered P row) (block P (suc row)) b)
          (not_end Lines.Loop e (λ x. cc))

      pub called-small : (d : ℕ) → Lines.Call d ≡ line_in w row → (d < most_methods) × (k.count ≤ most_methods)
      called-small d e =
          (omega (arith, call-there w tables row G.within d (sym e), tables.methods), small_count k G.seeking)

      pub gather-call : (n : ℕ) → n ≡ row + 1 → (d : ℕ) → Lines.Call d ≡ line_in w row → (r : Reached) → r ≡ added k d → Gathering r n
      gather-call n t d e r h =
          let (a, b, _) = stmt_says (Lines.Call d) e in
          let is : callees (block P row) ≡ d ∷ callees (block P (suc row)) =
          ap callees (block_goes P row a) ∙ callees-some (row_numbered P row) (block P (suc row)) d b in
          let i : Member d (calls bs m) = G.inside d (subst (Member d) (sym is) at_head) in
          let A : Adds k (added k d) d =
          adds k d G.seeking (call-there w tables row G.within d (sym e))
          (inr (⊎_elim (λ z. directly (subst (λ n. Member d (calls bs n)) z i)) (λ r. append r i) (G.seeking.sound m (G.grows.keeps m G.owner)))) in
          subst (Gathering r) (omega (arith, t))
          (subst (λ r. Gathering r (suc row)) (sym h)
          (record {
            seeking = A.seeking;
            grows = grows-both q k (added k d) G.grows A.grows;
            owner = G.owner;
            inside = λ x j. G.inside x (subst (Member x) (sym is) (further j));
            rest =
                λ x j.
                ⊎_elim
                (λ u. ⊎_elim (λ y. inl y) (λ z. inr (subst (Has (added k d)) (sym z) A.there)) (head-or (subst (Member x) is u)))
                (λ u. inr (A.grows.keeps x u))
                (G.rest x j);
            within = not_end (Lines.Call d) e (λ x. cc);
          }))

  -- THE SEARCH
  pub record Search (q : Reached) (head : ℕ) : Type 0 where
    pub seeking : Seeking w c q
    pub within : head ≤ q.count
    pub closed : (k : ℕ) → k < head → (d : ℕ) → Member d (calls bs (get_or q.order k 0)) → Has q d

  complete : (q : Reached) (head : ℕ) → Search q head → q.count ≤ head → {n m : ℕ} → Reaches bs n m → Has q n → Has q m
  complete q head S l {n} (directly {b = b} i) h =
      let (k, x, y) = S.seeking.covered n h in S.closed k (omega (arith, x, l)) b (subst (λ n. Member b (calls bs n)) (sym y) i)
  complete q head S l {n} (through {c = e} i r) h =
      let (k, x, y) = S.seeking.covered n h in
      complete q head S l r (S.closed k (omega (arith, x, l)) e (subst (λ n. Member e (calls bs n)) (sym y) i))

  pub search-done : (q : Reached) (head : ℕ) → Search q head → q.count ≤ head → Reach.Reaches w c q
  search-done q head S l a =
      ⊎_elim (λ h. h ∙ sym (T_true _ (yes-route (S.seeking.sound a h)))) (λ h. h ∙ sym (F-false _ (λ t. no-route h t)))
      (false-or-true (get_or q.has a false))
    where
      yes-route : (a ≡ c) ⊎ Reaches bs c a → T (eqb c a || reaches bs a c)
      yes-route (inl v) = or_left (eqb c a) _ (subst (λ b. T (eqb c b)) (sym v) (eqb_refl c))
      yes-route (inr r) = or_right (eqb c a) _ (route-found bs a c r)

      no-route : get_or q.has a false ≡ false → T (eqb c a || reaches bs a c) → ⊥
      no-route h t =
          ⊎_elim
          (λ v. clash (sym h ∙ subst (Has q) (eqb→eq c a v) S.seeking.starts))
          (λ v. clash (sym h ∙ complete q head S l (found-route bs a c v) S.seeking.starts))
          (or_cases (eqb c a) _ t)

  falses : (k i : ℕ) → get_or (replicate k false) i false ≡ false
  falses zero i = refl
  falses (suc k) zero = refl
  falses (suc k) (suc i) = falses k i

  search-start : c < method_count w → Search (begun c) 0
  unfolding begun missing
  search-start l =
      record {
        seeking =
            record {
              sound = λ n h. ⊎_elim (λ v. inl v) (λ v. absurd (clash (other n v h))) (decide_eq n c);
              exist = λ k b. one k b (λ m. m < method_count w) l;
              listed = λ k b. one k b (λ m. get_or (set (replicate 64 false) c true) m false ≡ true) has-c;
              covered = λ n h. ⊎_elim (λ v. (0, omega arith, sym v)) (λ v. absurd (clash (other n v h))) (decide_eq n c);
              starts = has-c;
              room = omega (arith, missing-set (replicate 64 false) c c-small (falses 64 c), all-missing);
              has_length = length-set (replicate 64 false) c true;
              order_length = refl;
            };
        within = omega arith;
        closed = λ k b. absurd (omega (arith, b));
      }
    where
      c-small : c < 64
      c-small = omega (arith, l, tables.methods)

      other : (n : ℕ) → (n ≡ c → ⊥) → get_or (set (replicate 64 false) c true) n false ≡ true → false ≡ true
      other n v h = sym (falses 64 n) ∙ sym (get_or-set_other (replicate 64 false) c n true false v) ∙ h

      all-missing : missing (replicate 64 false) ≡ 64
      all-missing = refl

      has-c : get_or (set (replicate 64 false) c true) c false ≡ true
      has-c = get_or-set_same (replicate 64 false) c true false c-small

      one : (k : ℕ) → k < 1 → (Q : ℕ → Type 0) → Q c → Q (get_or (set (replicate 64 0) 0 c) k 0)
      one zero b Q x = x
      one (suc k) b Q x = absurd (omega arith)

  pub search-begun : (q : Reached) → q ≡ begun c → c < method_count w → Search q 0
  search-begun q e l = subst (λ q. Search q 0) (sym e) (search-start l)

-- CODE
pub add-there : (q : Reached) (c : ℕ) → get_or q.has c false ≡ true → q ≡ added q c
unfolding added
add-there q c h = rw h refl

pub add-full : (q : Reached) (c : ℕ) → get_or q.has c false ≡ false → most_methods ≤ q.count → q ≡ added q c
unfolding added
add-full q c h l = rw (h, T_true (leb most_methods q.count) (le→leb most_methods q.count l)) refl

pub add-new : (q : Reached) (c : ℕ) → get_or q.has c false ≡ false → q.count < most_methods → pushed q c ≡ added q c
unfolding added
add-new q c h l = rw (h, F-false (leb most_methods q.count) (λ t. omega (arith, leb→le most_methods q.count t, l))) refl
