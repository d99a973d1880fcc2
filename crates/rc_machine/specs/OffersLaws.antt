-- What a served call takes from a holder that offers a relation, and what is offered of the other stripes.
use Rattle.std.specs.Prelude.{◌≡◌, ℕ, ◌<◌, List, None, Some, get_or}
use Rattle.std.proofs.Common.{sym, ap, subst, ◌∙◌}
use Rattle.rc_machine.specs.Imports.{In, in_map, Pairs, Call, Reply, Exclusive, Spec, fragment_of, plain, stripe_total, AreOffered, AreOfRelation, GoesOn, HeldStripe, Holding, IsHeld, held_of, offered_at, StripeLock, Statement}
use Rattle.rc_machine.specs.Machine.{AreTakenAsOffered, HasServed}
use Rattle.rc_machine.specs.Offers.{OffersAll}

-- a holder offers what it offered before
pub still_offers : (spec : Spec) (old new : Holding) (r : List Pairs) → GoesOn old new → OffersAll spec old r → OffersAll spec new r
still_offers spec old new r on all = record {
  relation = all.relation;
  satisfies = all.satisfies;
  few = all.few;
  rows = λ n l. ap (λ offered. get_or offered n None) on.offered ∙ all.rows n l;
}

-- rows taken from a holder that offers all of a relation are that relation's
pub taken_of_relation : (spec : Spec) (s : Holding) (r : List Pairs) → OffersAll spec s r → ((h : HeldStripe) → In h (held_of s) → h.stripe < stripe_total spec) → AreTakenAsOffered s → AreOfRelation spec (held_of s) r
taken_of_relation spec s r all known told = record {
  relation = all.relation;
  satisfies = all.satisfies;
  few = all.few;
  rows = λ h m. subst (λ o. AreOffered o h.taken) (all.rows h.stripe (known h m)) (told h m);
}

-- and a stripe that a served call doesn't hold is offered as of the relation after the call
pub others_after : (spec : Spec) (plan : List Statement) (call : Call) (s : Holding) (answer : Reply) (r : List Pairs) → OffersAll spec s r → HasServed spec plan call (held_of s) answer r
    → (n : ℕ) → n < stripe_total spec → (IsHeld (held_of s) n → ⊥) → offered_at s n ≡ Some (fragment_of spec (plain spec r call).relation n)
others_after spec plan call s answer r all served n known out =
    all.rows n known ∙ ap Some (sym (served.others n (λ m.
    let q : (h : HeldStripe) × In h (held_of s) × ((n, Exclusive) ≡ (h.stripe, h.mode)) = in_map (λ (h : HeldStripe). (h.stripe, h.mode)) (n, Exclusive) (held_of s) m in
    out (q.0, q.1, sym (ap (λ (l : StripeLock). l.0) q.2)))))
