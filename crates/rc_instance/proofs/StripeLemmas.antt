-- What a change of one stripe leaves of an instance.
use Rattle.std.specs.Prelude.{◌≡◌, ℕ, zero, suc, ◌+◌, ◌<◌, Bool, true, false, cond, ◌==◌, List, [], ◌∷◌, ◌++◌, ◌⊎◌, Option, None, Some, Result, Ok, Err, IfOk, OnOk, OnErr, length, map}
use Rattle.rc_instance.proofs.Imports.{slice_get, set, eqb-true, eq-eqb, append_assoc, length-set, map-append, none-some, same_Some, slice_get_within, In, slice_get_in, append_in_left, append_in_right, map_in, EdgeRow, Mode, Spec, FragmentRows, HeldStripe, LentStripe, IsHeld, IsHeldExclusive, IsAbove, with_now, IsAtRest, held_part, held_from, lent_part, lent_from, offered_at, table_of, IsOfOneRelation, IsInstance, Stripe, IsHeldFrom, in_held_from, as_held, held_from_in, held-lent, lent_as}
use Rattle.std.proofs.Common.{inl, inr, refl, sym, ap, subst, ◌∙◌, arith}

-- ---- held stripes by their numbers

-- a held stripe is one of the instance's
pub held_below : (ss : List Stripe) (k : ℕ) → IsHeld (held_from 0 ss) k → k < length ss
held_below ss k q =
    let w : IsHeldFrom 0 ss q.0 = in_held_from 0 ss q.0 q.1 in
    let l : w.place < length ss = slice_get_within ss w.place w.stripe w.there in
    omega (arith, l, w.numbered, q.2)

pub exclusive_is_held : (held : List HeldStripe) (k : ℕ) → IsHeldExclusive held k → IsHeld held k
exclusive_is_held held k q = (q.0, q.1, q.2)

-- what a held stripe with the number says of the stripe
pub record IsHeldAs (s : Stripe) (h : HeldStripe) : Type 0 where
  pub held : s.held ≡ Some h.mode
  pub now : s.fragment.now ≡ h.now
  pub taken : s.fragment.taken ≡ h.taken

pub held_as : (ss : List Stripe) (k : ℕ) (s : Stripe) → slice_get ss k ≡ Some s → (h : HeldStripe) → In h (held_from 0 ss) → h.stripe ≡ k → IsHeldAs s h
held_as ss k s e h i p =
    let w : IsHeldFrom 0 ss h = in_held_from 0 ss h i in
    let n : w.place ≡ k = omega (arith, w.numbered, p) in
    let q : w.stripe ≡ s = same_Some _ _ (sym w.there ∙ ap (slice_get ss) n ∙ e) in
    record {
      held = ap (λ (z : Stripe). z.held) (sym q) ∙ w.held;
      now = ap (λ (z : Stripe). z.fragment.now) (sym q) ∙ sym w.now;
      taken = ap (λ (z : Stripe). z.fragment.taken) (sym q) ∙ sym w.taken;
    }

-- a held stripe isn't free
pub held_not_free : (ss : List Stripe) (k : ℕ) (s : Stripe) → slice_get ss k ≡ Some s → IsHeld (held_from 0 ss) k → s.held ≡ None → ⊥
held_not_free ss k s e q f = none-some q.0.mode (sym f ∙ (held_as ss k s e q.0 q.1 q.2).held)

-- ---- outcomes

pub on_ok_from : {X E : Type 0} (P Q : Type 0) (r : Result X E) → OnOk r P → (P → Q) → OnOk r Q
on_ok_from P Q (Ok x) p f = f p
on_ok_from P Q (Err e) p f = tt

pub on_err_from : {X E : Type 0} (P Q : Type 0) (r : Result X E) → OnErr r P → (P → Q) → OnErr r Q
on_err_from P Q (Ok x) p f = tt
on_err_from P Q (Err e) p f = f p

pub either_way : {X E : Type 0} (P Q R : Type 0) (r : Result X E) → OnOk r P → OnErr r Q → (P → R) → (Q → R) → R
either_way P Q R (Ok x) p q f g = f p
either_way P Q R (Err e) p q f g = g q

pub if_ok_from : {X E : Type 0} {P Q : X → Type 0} (r : Result X E) → IfOk r P → ((x : X) → P x → Q x) → IfOk r Q
if_ok_from (Ok x) p f = f x p
if_ok_from (Err e) p f = tt

-- ---- one stripe set

in_set : (ss : List Stripe) (k : ℕ) (t x : Stripe) → In x (set ss k t) → (x ≡ t) ⊎ In x ss
in_set [] k t x i = absurd i
in_set (s ∷ ss) zero t x (inl p) = inl p
in_set (s ∷ ss) zero t x (inr i) = inr (inr i)
in_set (s ∷ ss) (suc k) t x (inl p) = inr (inl p)
in_set (s ∷ ss) (suc k) t x (inr i) = elim (in_set ss k t x i) [ inl a ↦ inl a | inr b ↦ inr (inr b) ]

pub table_of-set : (ss : List Stripe) (k : ℕ) (s t : Stripe) → slice_get ss k ≡ Some s → t.fragment.table ≡ s.fragment.table → table_of (set ss k t) ≡ table_of ss
table_of-set [] k s t e p = refl
table_of-set (x ∷ ss) zero s t e p = p ∙ ap (λ (z : Stripe). z.fragment.table) (sym (same_Some _ _ e))
table_of-set (x ∷ ss) (suc k) s t e p = refl

pub instance-set : (ss : List Stripe) (k : ℕ) (s t : Stripe) → IsInstance ss → slice_get ss k ≡ Some s → t.fragment.table ≡ s.fragment.table → (t.held ≡ None → IsAtRest t.fragment)
    → IsInstance (set ss k t)
instance-set ss k s t i e p f =
    let same : table_of (set ss k t) ≡ table_of ss = table_of-set ss k s t e p in
    record {
      table = λ x m. elim (in_set ss k t x m) [
        | inl a ↦ ap (λ (z : Stripe). z.fragment.table) a ∙ p ∙ i.table s (slice_get_in ss k s e) ∙ sym same
        | inr b ↦ i.table x b ∙ sym same
      ];
      free = λ x m n. elim (in_set ss k t x m) [
        | inl a ↦ subst (λ (z : Stripe). IsAtRest z.fragment) (sym a) (f (ap (λ (z : Stripe). z.held) (sym a) ∙ n))
        | inr b ↦ i.free x b n
      ];
    }

pub offered_at-set : (ss : List Stripe) (k : ℕ) (s t : Stripe) → slice_get ss k ≡ Some s → t.fragment.taken ≡ s.fragment.taken → (p : ℕ) → offered_at (set ss k t) p ≡ offered_at ss p
offered_at-set [] k s t e q p = refl
offered_at-set (x ∷ ss) zero s t e q zero = ap Some (q ∙ ap (λ (z : Stripe). z.fragment.taken) (sym (same_Some _ _ e)))
offered_at-set (x ∷ ss) zero s t e q (suc p) = refl
offered_at-set (x ∷ ss) (suc k) s t e q zero = refl
offered_at-set (x ∷ ss) (suc k) s t e q (suc p) = offered_at-set ss k s t e q p

-- ---- what soundness rests on

pub same_sound : (old new : List Stripe) → table_of new ≡ table_of old → length new ≡ length old → ((p : ℕ) → offered_at new p ≡ offered_at old p)
    → (spec : Spec) → IsOfOneRelation old spec → IsOfOneRelation new spec
same_sound old new t l f spec o = (
  o.0,
  record {
    table = t ∙ o.1.table;
    relation = o.1.relation;
    satisfies = o.1.satisfies;
    few = o.1.few;
    stripes = l ∙ o.1.stripes;
    rows = λ n m. f n ∙ o.1.rows n m;
  },
)

pub sound-set : (ss : List Stripe) (k : ℕ) (s t : Stripe) → slice_get ss k ≡ Some s → t.fragment.table ≡ s.fragment.table → t.fragment.taken ≡ s.fragment.taken
    → (spec : Spec) → IsOfOneRelation ss spec → IsOfOneRelation (set ss k t) spec
sound-set ss k s t e p q = same_sound ss (set ss k t) (table_of-set ss k s t e p) (length-set ss k t) (offered_at-set ss k s t e q)

-- ---- what is held

pub with_now-here : (k : ℕ) (change : List EdgeRow → List EdgeRow) (h : HeldStripe) → h.stripe ≡ k → with_now k change h ≡ record { stripe = h.stripe; mode = h.mode; now = change h.now; taken = h.taken }
with_now-here k change h e = ap (λ b. cond b (let z : HeldStripe = record { stripe = h.stripe; mode = h.mode; now = change h.now; taken = h.taken } in z) h) (eq-eqb h.stripe k e)

pub not_equal : (a b : ℕ) → (a ≡ b → ⊥) → (a == b) ≡ false
not_equal a b d = go (a == b) refl
  where
    go : (c : Bool) → (a == b) ≡ c → (a == b) ≡ false
    go true e = absurd (d (eqb-true a b e))
    go false e = e

pub with_now-other : (k : ℕ) (change : List EdgeRow → List EdgeRow) (h : HeldStripe) → (h.stripe ≡ k → ⊥) → with_now k change h ≡ h
with_now-other k change h d = ap (λ b. cond b (let z : HeldStripe = record { stripe = h.stripe; mode = h.mode; now = change h.now; taken = h.taken } in z) h) (not_equal h.stripe k d)

part_numbered : (n : ℕ) (f : FragmentRows) (m : Option Mode) (h : HeldStripe) → In h (held_part n f m) → h.stripe ≡ n
part_numbered n f None h i = absurd i
part_numbered n f (Some mode) h (inl p) = ap (λ (z : HeldStripe). z.stripe) p
part_numbered n f (Some mode) h (inr i) = absurd i

-- a lent stripe is held
pub lent_held : (n : ℕ) (ss : List Stripe) (l : LentStripe) → In l (lent_from n ss) → In l.held (held_from n ss)
lent_held n ss l m = subst (In l.held) (held-lent n ss) (map_in (λ (z : LentStripe). z.held) l (lent_from n ss) m)

each_stays : (g : LentStripe → LentStripe) (ls : List LentStripe) → ((l : LentStripe) → In l ls → g l ≡ l) → map g ls ≡ ls
each_stays g [] d = refl
each_stays g (l ∷ ls) d = λ i. d l (inl refl) i ∷ each_stays g ls (λ z m. d z (inr m)) i

lent_numbered : (n : ℕ) (f : FragmentRows) (m : Option Mode) (l : LentStripe) → In l (lent_part n f m) → l.held.stripe ≡ n
lent_numbered n f None l i = absurd i
lent_numbered n f (Some mode) l (inl p) = ap (λ (z : LentStripe). z.held.stripe) p
lent_numbered n f (Some mode) l (inr i) = absurd i

-- what is done to a stripe is done to it as lent, and to no other
pub lent_from-set : (g : LentStripe → LentStripe) (n : ℕ) (ss : List Stripe) (k m : ℕ) (s t : Stripe) → slice_get ss k ≡ Some s → m ≡ n + k → t.held ≡ s.held
    → ((l : LentStripe) → (l.held.stripe ≡ m → ⊥) → g l ≡ l) → ((mode : Mode) → g (lent_as m mode s.fragment) ≡ lent_as m mode t.fragment)
    → lent_from n (set ss k t) ≡ map g (lent_from n ss)
lent_from-set g n [] k m s t e l h other here = cc
lent_from-set g n (x ∷ ss) zero m s t e l h other here =
    let rest : map g (lent_from (suc n) ss) ≡ lent_from (suc n) ss =
    each_stays g (lent_from (suc n) ss) (λ z i. other z (λ d.
    let w : IsHeldFrom (suc n) ss z.held = in_held_from (suc n) ss z.held (lent_held (suc n) ss z i) in let f : z.held.stripe ≡ suc n + w.place = w.numbered in omega (arith, f, l, d))) in
    let same : x ≡ s = same_Some _ _ e in
    let at : m ≡ n = omega (arith, l) in
    ap (λ z. lent_part n t.fragment z ++ lent_from (suc n) ss) h
    ∙ ap (λ z. z ++ lent_from (suc n) ss) (part at s.held)
    ∙ ap (λ z. map g (lent_part n s.fragment s.held) ++ z) (sym rest)
    ∙ ap (λ (z : Stripe). map g (lent_part n z.fragment z.held) ++ map g (lent_from (suc n) ss)) (sym same)
    ∙ sym (map-append g (lent_part n x.fragment x.held) (lent_from (suc n) ss))
  where
    part : m ≡ n → (b : Option Mode) → lent_part n t.fragment b ≡ map g (lent_part n s.fragment b)
    part at None = refl
    part at (Some mode) = ap (λ (z : LentStripe). z ∷ []) (sym (subst (λ z. g (lent_as z mode s.fragment) ≡ lent_as z mode t.fragment) at (here mode)))
lent_from-set g n (x ∷ ss) (suc k) m s t e l h other here =
    let first : map g (lent_part n x.fragment x.held) ≡ lent_part n x.fragment x.held =
    each_stays g (lent_part n x.fragment x.held) (λ z i. other z (λ d. let f : z.held.stripe ≡ n = lent_numbered n x.fragment x.held z i in omega (arith, f, l, d))) in
    let rest : lent_from (suc n) (set ss k t) ≡ map g (lent_from (suc n) ss) = lent_from-set g (suc n) ss k m s t e (omega (arith, l)) h other here in
    (λ i. sym first i ++ rest i) ∙ sym (map-append g (lent_part n x.fragment x.held) (lent_from (suc n) ss))

-- each stripe that is held is lent
pub lent_from_in : (n : ℕ) (ss : List Stripe) (k m : ℕ) (s : Stripe) (mode : Mode) → slice_get ss k ≡ Some s → m ≡ n + k → s.held ≡ Some mode → In (lent_as m mode s.fragment) (lent_from n ss)
lent_from_in n [] k m s mode e l h = cc
lent_from_in n (x ∷ ss) zero m s mode e l h =
    let w : LentStripe = lent_as m mode s.fragment in
    let same : s ≡ x = sym (same_Some _ _ e) in
    let at : m ≡ n = omega (arith, l) in
    let own : In w (lent_part m s.fragment (Some mode)) = inl refl in
    let part : In w (lent_part m s.fragment s.held) = subst (λ z. In w (lent_part m s.fragment z)) (sym h) own in
    let moved : In w (lent_part n s.fragment s.held) = subst (λ z. In w (lent_part z s.fragment s.held)) at part in
    append_in_left w (lent_part n x.fragment x.held) (lent_from (suc n) ss) (subst (λ (z : Stripe). In w (lent_part n z.fragment z.held)) same moved)
lent_from_in n (x ∷ ss) (suc k) m s mode e l h =
    append_in_right (lent_as m mode s.fragment) (lent_part n x.fragment x.held) (lent_from (suc n) ss) (lent_from_in (suc n) ss k m s mode e (omega (arith, l)) h)

-- a stripe above all that are held is free, and none above it is held
nothing_lent : (lent : List LentStripe) → ((l : LentStripe) → In l lent → ⊥) → lent ≡ []
nothing_lent [] f = refl
nothing_lent (l ∷ lent) f = absurd (f l (inl refl))

part_free : (n : ℕ) (f : FragmentRows) (m : Option Mode) → ((h : HeldStripe) → In h (held_part n f m) → ⊥) → m ≡ None
part_free n f None d = refl
part_free n f (Some mode) d = absurd (d _ (inl refl))

-- the stripe is lent as it stood, at the end
pub lent_from-taken : (n : ℕ) (ss : List Stripe) (k m : ℕ) (s t : Stripe) (mode : Mode) → slice_get ss k ≡ Some s → m ≡ n + k → IsAbove (held_from n ss) m → t.held ≡ Some mode
    → lent_from n (set ss k t) ≡ lent_from n ss ++ lent_as m mode t.fragment ∷ []
lent_from-taken n [] k m s t mode e l a h = cc
lent_from-taken n (x ∷ ss) zero m s t mode e l a h =
    let at : n ≡ m = omega (arith, l) in
    let free : x.held ≡ None = part_free n x.fragment x.held (λ g i. let u : g.stripe < m = a g (append_in_left g _ _ i) in let f : g.stripe ≡ n = part_numbered n x.fragment x.held g i in omega (arith, u, f, at)) in
    let rest : lent_from (suc n) ss ≡ [] =
    nothing_lent (lent_from (suc n) ss) (λ z i.
    let j : In z.held (held_from (suc n) ss) = lent_held (suc n) ss z i in
    let w : IsHeldFrom (suc n) ss z.held = in_held_from (suc n) ss z.held j in
    let f : z.held.stripe ≡ suc n + w.place = w.numbered in
    let u : z.held.stripe < m = a z.held (append_in_right z.held (held_part n x.fragment x.held) (held_from (suc n) ss) j) in omega (arith, f, u, at)) in
    let one : List LentStripe = lent_as m mode t.fragment ∷ [] in
    ap (λ z. lent_part n t.fragment z ++ lent_from (suc n) ss) h
    ∙ ap (λ z. lent_part n t.fragment (Some mode) ++ z) rest
    ∙ ap (λ z. lent_part z t.fragment (Some mode)) at
    ∙ ap (λ z. (lent_part n x.fragment z ++ []) ++ one) (sym free)
    ∙ ap (λ z. (lent_part n x.fragment x.held ++ z) ++ one) (sym rest)
lent_from-taken n (x ∷ ss) (suc k) m s t mode e l a h =
    let rest = lent_from-taken (suc n) ss k m s t mode e (omega (arith, l)) (λ g i. a g (append_in_right g (held_part n x.fragment x.held) (held_from (suc n) ss) i)) h in
    ap (λ z. lent_part n x.fragment x.held ++ z) rest ∙ sym (append_assoc (lent_part n x.fragment x.held) (lent_from (suc n) ss) _)

-- a stripe above all that are held is free
pub above_is_free : (ss : List Stripe) (k : ℕ) (s : Stripe) → slice_get ss k ≡ Some s → IsAbove (held_from 0 ss) k → s.held ≡ None
above_is_free ss k s e a = go s.held refl
  where
    go : (m : Option Mode) → s.held ≡ m → s.held ≡ None
    go None p = p
    go (Some mode) p = absurd (let u : k < k = a (as_held k mode s.fragment) (held_from_in 0 ss k k s mode e (omega arith) p) in omega (arith, u))
