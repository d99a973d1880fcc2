-- Laws of instances: what they hold and offer, and what they represent.
use Rattle.std.specs.Prelude.{◌≡◌, ℕ, zero, suc, ◌+◌, ◌<◌, ◌^◌, ◌⊎◌, ◌==◌, Bool, true, false, List, [], ◌∷◌, Option, None, Some, length, map, ◌++◌}
use Rattle.rc_instance.specs.Imports.{range_with_len, slice_get, In, in_append, append_in_left, append_in_right, IsRelation, Satisfies, Pairs, IsSealed, all_columns, fragment_of, class_of, class_of_known, physical_stripe_below, physical_stripe, stripe_total, Mode, Spec, edge_table, shape_of, FragmentRows, KeptRows, HeldStripe, LentStripe, AreOfRelation, AreOfOneRelation, IsHeld, held_of}
use Rattle.std.proofs.Common.{inl, inr, refl, sym, ap, subst, ◌∙◌, arith}
use Rattle.std.proofs.lemmas.Bool.{eqb-true, eq-eqb, false≢true}
use Rattle.std.proofs.lemmas.List.{length-map}
use Rattle.std.proofs.lemmas.Option.{same_Some, slice_get_within}
use Rattle.rc_instance.specs.Instance.{held_part, held_from, holding, lent_part, lent_from, IsOfOneRelation, kept_stripe, offered_at, table_of, taken_in, AreReleased, IsOfRelation, Stripe}

-- ---- held stripes

-- a held stripe of those from a number on
pub record IsHeldFrom (n : ℕ) (ss : List Stripe) (h : HeldStripe) : Type 0 where
  pub place : ℕ
  pub stripe : Stripe
  pub there : slice_get ss place ≡ Some stripe
  pub numbered : h.stripe ≡ n + place
  pub held : stripe.held ≡ Some h.mode
  pub now : h.now ≡ stripe.fragment.now
  pub taken : h.taken ≡ stripe.fragment.taken

in_held_part : (n : ℕ) (s : Stripe) (rest : List Stripe) (m : Option Mode) → s.held ≡ m → (h : HeldStripe) → In h (held_part n s.fragment m) → IsHeldFrom n (s ∷ rest) h
in_held_part n s rest None e h i = absurd i
in_held_part n s rest (Some mode) e h (inl p) = record {
  place = 0;
  stripe = s;
  there = refl;
  numbered = ap (λ (z : HeldStripe). z.stripe) p ∙ omega arith;
  held = e ∙ ap (λ (z : HeldStripe). Some z.mode) (sym p);
  now = ap (λ (z : HeldStripe). z.now) p;
  taken = ap (λ (z : HeldStripe). z.taken) p;
}
in_held_part n s rest (Some mode) e h (inr i) = absurd i

-- a stripe that is held, as a plan has it
abbrev pub as_held : ℕ → Mode → FragmentRows → HeldStripe
as_held n mode f = record { stripe = n; mode = mode; now = f.now; taken = f.taken }

-- and as a holder lends it
abbrev pub lent_as : ℕ → Mode → FragmentRows → LentStripe
lent_as n mode f = record { held = as_held n mode f; room = f.room }

pub in_held_from : (n : ℕ) (ss : List Stripe) (h : HeldStripe) → In h (held_from n ss) → IsHeldFrom n ss h
in_held_from n [] h i = absurd i
in_held_from n (s ∷ ss) h i = elim (in_append h (held_part n s.fragment s.held) (held_from (suc n) ss) i) [
  | inl a ↦ in_held_part n s ss s.held refl h a
  | inr b ↦
      let w : IsHeldFrom (suc n) ss h = in_held_from (suc n) ss h b in
      record {
        place = suc w.place;
        stripe = w.stripe;
        there = w.there;
        numbered = omega (arith, w.numbered);
        held = w.held;
        now = w.now;
        taken = w.taken;
      }
]

-- the stripes held are those lent
pub held-lent : (n : ℕ) (ss : List Stripe) → map (λ (l : LentStripe). l.held) (lent_from n ss) ≡ held_from n ss
held-lent n [] = refl
held-lent n (s ∷ ss) = go s.held (held-lent (suc n) ss)
  where
    go : (m : Option Mode) → map (λ (l : LentStripe). l.held) (lent_from (suc n) ss) ≡ held_from (suc n) ss
        → map (λ (l : LentStripe). l.held) (lent_part n s.fragment m ++ lent_from (suc n) ss) ≡ held_part n s.fragment m ++ held_from (suc n) ss
    go None rest = rest
    go (Some mode) rest = ap (λ (z : List HeldStripe). as_held n mode s.fragment ∷ z) rest

pub held_of-holding : (ss : List Stripe) → held_of (holding ss) ≡ held_from 0 ss
held_of-holding ss = held-lent 0 ss

-- and each stripe that is held stands among them
pub held_from_in : (n : ℕ) (ss : List Stripe) (k m : ℕ) (s : Stripe) (mode : Mode) → slice_get ss k ≡ Some s → m ≡ n + k → s.held ≡ Some mode
    → In (as_held m mode s.fragment) (held_from n ss)
held_from_in n [] k m s mode e l h = cc
held_from_in n (x ∷ ss) zero m s mode e l h =
    let w : HeldStripe = as_held m mode s.fragment in
    let here : s ≡ x = sym (same_Some _ _ e) in
    let at : m ≡ n = omega (arith, l) in
    let own : In w (held_part m s.fragment (Some mode)) = inl refl in
    let part : In w (held_part m s.fragment s.held) = subst (λ z. In w (held_part m s.fragment z)) (sym h) own in
    let moved : In w (held_part n s.fragment s.held) = subst (λ z. In w (held_part z s.fragment s.held)) at part in
    append_in_left w (held_part n x.fragment x.held) (held_from (suc n) ss) (subst (λ (z : Stripe). In w (held_part n z.fragment z.held)) here moved)
held_from_in n (x ∷ ss) (suc k) m s mode e l h =
    append_in_right (as_held m mode s.fragment) (held_part n x.fragment x.held) (held_from (suc n) ss) (held_from_in (suc n) ss k m s mode e (omega (arith, l)) h)

-- ---- soundness

pub offered-length : (ss : List Stripe) → length (holding ss).offered ≡ length ss
offered-length ss = length-map ss (λ (s : Stripe). Some s.fragment.taken)

pub sound_table : (ss : List Stripe) (spec : Spec) → IsOfOneRelation ss spec → ((holding ss).table ≡ edge_table spec) × (length (holding ss).offered ≡ stripe_total spec)
sound_table ss spec o = (o.1.table, offered-length ss ∙ o.1.stripes)

pub sound_rows : (ss : List Stripe) (spec : Spec) → IsOfOneRelation ss spec → AreOfOneRelation spec (held_of (holding ss))
sound_rows ss spec o = (
  o.0,
  subst (λ z. AreOfRelation spec z o.0) (sym (held_of-holding ss)) record {
    relation = o.1.relation;
    satisfies = o.1.satisfies;
    few = o.1.few;
    rows = λ h i.
        let w : IsHeldFrom 0 ss h = in_held_from 0 ss h i in
        let l : w.place < length ss = slice_get_within ss w.place w.stripe w.there in
        let e : h.stripe ≡ w.place = omega (arith, w.numbered) in
        let f : Some w.stripe.fragment.taken ≡ Some (fragment_of spec o.0 w.place) = ap taken_in (sym w.there) ∙ o.1.rows w.place (omega (arith, l, o.1.stripes)) in
        w.taken ∙ same_Some _ _ f ∙ ap (fragment_of spec o.0) (sym e);
  },
)

-- ---- new soundness

-- a specification without stripes has no edge
pub no_table : (spec : Spec) → IsSealed spec → stripe_total spec ≡ 0 → edge_table spec ≡ []
no_table spec sealed none = ap (λ n. map (shape_of spec) (range_with_len 0 n)) (go (length spec.edges) refl)
  where
    go : (n : ℕ) → length spec.edges ≡ n → length spec.edges ≡ 0
    go zero e = e
    go (suc n) e =
        let l : 0 < length spec.edges = omega (arith, e) in
        let k : physical_stripe spec (class_of spec 0) [] < stripe_total spec = physical_stripe_below spec (class_of spec 0) [] sealed.accepted.placed (class_of_known spec 0 sealed.in_range (sealed.accepted.placed.p1 0 l)) in
        absurd (omega (arith, k, none))

-- free stripes with kept fragments that are those of a relation are of it
abbrev pub MadeOfRelation : Type 0
MadeOfRelation = (spec : Spec) (ks : List KeptRows) → IsSealed spec → length ks ≡ stripe_total spec
    → (r : List Pairs) → IsRelation (all_columns spec) r → Satisfies r spec.deps → length r < 2 ^ 63
    → ((n : ℕ) (k : KeptRows) → slice_get ks n ≡ Some k → (k.table ≡ edge_table spec) × (k.rows ≡ fragment_of spec r n))
    → IsOfRelation spec (map kept_stripe ks) r

-- released stripes are of a relation where each that was held had its fragment, and each other offered it
abbrev pub ReleasedToRelation : Type 0
ReleasedToRelation = (spec : Spec) (old new : List Stripe) → AreReleased old new → table_of old ≡ edge_table spec → length old ≡ stripe_total spec
    → (r : List Pairs) → IsRelation (all_columns spec) r → Satisfies r spec.deps → length r < 2 ^ 63
    → ((h : HeldStripe) → In h (held_from 0 old) → h.now ≡ fragment_of spec r h.stripe)
    → ((n : ℕ) → n < stripe_total spec → (IsHeld (held_from 0 old) n → ⊥) → offered_at old n ≡ Some (fragment_of spec r n)) → IsOfRelation spec new r

-- a place within a list has an element
pub place_in : {A : Type 0} (xs : List A) (n : ℕ) → n < length xs → (x : A) × (slice_get xs n ≡ Some x)
place_in [] n l = absurd (let f : n < 0 = l in omega (arith, f))
place_in (x ∷ xs) zero l = (x, refl)
place_in (x ∷ xs) (suc n) l = place_in xs n (let f : suc n < suc (length xs) = l in omega (arith, f))

kept_offered : (ks : List KeptRows) (n : ℕ) (k : KeptRows) → slice_get ks n ≡ Some k → offered_at (map kept_stripe ks) n ≡ Some k.rows
kept_offered [] n k e = cc
kept_offered (j ∷ ks) zero k e = ap (λ (z : KeptRows). Some z.rows) (same_Some _ _ e)
kept_offered (j ∷ ks) (suc n) k e = kept_offered ks n k e

kept_table : (spec : Spec) (ks : List KeptRows) → IsSealed spec → length ks ≡ stripe_total spec → ((n : ℕ) (k : KeptRows) → slice_get ks n ≡ Some k → k.table ≡ edge_table spec)
    → table_of (map kept_stripe ks) ≡ edge_table spec
kept_table spec [] sealed l each = sym (no_table spec sealed (sym l))
kept_table spec (k ∷ ks) sealed l each = each 0 k refl

pub made_law : MadeOfRelation
made_law spec ks sealed l r i h few each = record {
  table = kept_table spec ks sealed l (λ n k e. (each n k e).0);
  relation = i;
  satisfies = h;
  few = few;
  stripes = length-map ks kept_stripe ∙ l;
  rows = λ n m.
      let p : (k : KeptRows) × (slice_get ks n ≡ Some k) = place_in ks n (omega (arith, m, l)) in
      kept_offered ks n p.0 p.1 ∙ ap Some (each n p.0 p.1).1;
}

-- a stripe is held or it is not
held_or_not : (held : List HeldStripe) (n : ℕ) → IsHeld held n ⊎ (IsHeld held n → ⊥)
held_or_not [] n = inr (λ q. q.1)
held_or_not (h ∷ held) n = go (h.stripe == n) refl (held_or_not held n)
  where
    go : (b : Bool) → (h.stripe == n) ≡ b → IsHeld held n ⊎ (IsHeld held n → ⊥) → IsHeld (h ∷ held) n ⊎ (IsHeld (h ∷ held) n → ⊥)
    go true e rest = inl (h, inl refl, eqb-true h.stripe n e)
    go false e (inl q) = inl (q.0, inr q.1, q.2)
    go false e (inr d) = inr (λ q. elim q.1 [ inl p ↦ false≢true (sym e ∙ eq-eqb h.stripe n (ap (λ (z : HeldStripe). z.stripe) (sym p) ∙ q.2)) | inr m ↦ d (q.0, m, q.2) ])

pub released_law : ReleasedToRelation
released_law spec old new a t l r i h few held others = record {
  table = a.table ∙ t;
  relation = i;
  satisfies = h;
  few = few;
  stripes = a.stripes ∙ l;
  rows = λ n k. elim (held_or_not (held_from 0 old) n) [
    | inl q ↦ ap (offered_at new) (sym q.2) ∙ a.settled q.0 q.1 ∙ ap Some (held q.0 q.1 ∙ ap (fragment_of spec r) q.2)
    | inr d ↦ a.others n d ∙ others n k d
  ];
}
