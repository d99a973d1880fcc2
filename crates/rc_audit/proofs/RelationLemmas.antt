-- A call that is made on the judge's relation, and released.
use Rattle.std.specs.Prelude.{◌≡◌, ℕ, zero, suc, ◌+◌, ◌<◌, ◌^◌, List, [], ◌∷◌, None, get_or, length}
use Rattle.std.proofs.Common.{inl, inr, refl, sym, ap, subst, arith, ◌∙◌}
use Rattle.rc_audit.proofs.Imports.{slice_get_within, In, Pairs, Fits, plain_keeps_relation, plain, plain_satisfies, stripe_total, Call, Reply, Spec, GoesOn, HasRisen, HeldStripe, IsHeld, held_of, AreReleased, IsOfRelation, Stripe, held_from, holding, offered_at, IsHeldFrom, held_of-holding, in_held_from, offered-length, released_law, SpecWithPlans, plan_at, AreTakenAsOffered, HasAnswered, HasServed, OffersAll, others_after, still_offers, taken_of_relation}

-- an instance has no refused take
pub none_risen : (old new : List Stripe) → HasRisen (holding old).refusals (holding new).refusals → ⊥
none_risen old new (inl l) = let f : 0 < 0 = l in omega (arith, f)
none_risen old new (inr e) = let f : 0 + 1 ≡ 2 ^ 64 = e.1 in omega (arith, f)

told_offer : (ss : List Stripe) (n : ℕ) → get_or (holding ss).offered n None ≡ offered_at ss n
told_offer [] n = refl
told_offer (s ∷ ss) zero = refl
told_offer (s ∷ ss) (suc n) = told_offer ss n

offers_all : (spec : Spec) (ss : List Stripe) (r : List Pairs) → IsOfRelation spec ss r → OffersAll spec (holding ss) r
offers_all spec ss r o = record { relation = o.relation; satisfies = o.satisfies; few = o.few; rows = λ n l. told_offer ss n ∙ o.rows n l }

-- what an instance holds is one of its stripes
known_held : (ss : List Stripe) (total : ℕ) → length ss ≡ total → (h : HeldStripe) → In h (held_of (holding ss)) → h.stripe < total
known_held ss total stripes h m =
    let w : IsHeldFrom 0 ss h = in_held_from 0 ss h (subst (In h) (held_of-holding ss) m) in
    let k : w.place < length ss = slice_get_within ss w.place w.stripe w.there in
    let same : h.stripe ≡ 0 + w.place = w.numbered in
    omega (arith, k, stripes, same)

-- The instance `old` makes a call, by which it becomes `made`, and then all stripes are released.
module _ (compiled : SpecWithPlans) (call : Call) (old made : List Stripe) (answer : Reply) (r : List Pairs)
    (o : IsOfRelation compiled.spec old r) (on : GoesOn (holding old) (holding made)) (taken : AreTakenAsOffered (holding made))
    (answered : HasAnswered compiled call (holding made) answer) where
  stripes : length made ≡ stripe_total compiled.spec
  stripes = sym (offered-length made) ∙ ap length on.offered ∙ offered-length old ∙ o.stripes

  all : OffersAll compiled.spec (holding made) r
  all = still_offers compiled.spec (holding old) (holding made) r on (offers_all compiled.spec old r o)

  served : HasServed compiled.spec (plan_at compiled.plans call.op) call (held_of (holding made)) answer r
  unfolding stripes all
  served = answered.served r (taken_of_relation compiled.spec (holding made) r all (known_held made (stripe_total compiled.spec) stripes) taken)

  pub reply_is : answer ≡ (plain compiled.spec r call).reply
  unfolding served
  reply_is = sym served.reply

  pub of_relation_after : (new : List Stripe) → AreReleased made new → Fits compiled.spec call → length (plain compiled.spec r call).relation < 2 ^ 63
      → IsOfRelation compiled.spec new (plain compiled.spec r call).relation
  unfolding stripes all served
  of_relation_after new released fits few =
      let held : held_of (holding made) ≡ held_from 0 made = held_of-holding made in
      released_law compiled.spec made new released (on.table ∙ o.table) stripes (plain compiled.spec r call).relation
      (plain_keeps_relation compiled.spec r call fits o.relation) (plain_satisfies compiled.spec r call o.satisfies) few
      (λ h m. served.rows h (subst (In h) (sym held) m))
      (λ n l d. sym (told_offer made n)
      ∙ others_after compiled.spec (plan_at compiled.plans call.op) call (holding made) answer r all served n l (λ q. d (subst (λ hs. IsHeld hs n) held q)))
