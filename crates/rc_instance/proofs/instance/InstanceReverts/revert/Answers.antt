use Rattle.std.proofs.Common.{◌≡◌, ◌<◌, ◌++◌, ℕ, refl, length, take, drop, sym, ap, subst, ◌∙◌, arith}
use Rattle.rc_instance.proofs.Imports.{List, map, In, FragmentRows, rolled_back, each_at, holding, stripes_of, IsOfOneRelation, IsWholeInstance}
use Rattle.rc_instance.proofs.AlikeLemmas.{written}
use Rattle.rc_instance.proofs.NumberLemmas.{all_rolled_back, are_below, whole_reverted}
use Rattle.rc_instance.proofs.RevertLemmas.{holding-reverted, reverted_stripe, sound-reverted, stripes_of-reverted}
use Rattle.rc_instance.proofs.instance.InstanceReverts.revert.Goals as goal

pub revert_held-requires : goal.revert_held-requires
revert_held-requires c n m =
    let l : n < length c.self.inside.fragments.items = are_below c.self.inside.fragments.items c.self.inside.held c.self.inside.numbers c.self.invariant n (subst (In n) c.list.ensures m) in
    subst (λ z. n < length z) (sym c.deref_mut.ensures.value) l

pub invariant_of-self : goal.invariant_of-self
invariant_of-self c =
    let fs : List FragmentRows = c.self.inside.fragments.items in
    let ns : List ℕ = c.self.inside.numbers in
    let new : List FragmentRows = c.revert_held.new.fragments in
    let a : new ≡ each_at rolled_back ns fs = c.revert_held.ensures ∙ (λ i. each_at rolled_back (c.list.ensures i) (c.deref_mut.ensures.value i)) in
    let same : length new ≡ length fs = c.revert_held.auto.fragments ∙ ap length c.deref_mut.ensures.value in
    let w : take c.self.inside.fragments.len (new ++ drop (length new) fs) ≡ new = written c.self.inside.fragments.len new fs (omega (arith, c.self.inside.fragments.ok)) same in
    let e : take c.self.inside.fragments.len (new ++ drop (length new) fs) ≡ map rolled_back fs = w ∙ a ∙ all_rolled_back fs c.self.inside.held ns c.self.invariant in
    subst (λ z. IsWholeInstance z c.self.inside.held ns) (sym e) (whole_reverted fs c.self.inside.held ns c.self.invariant ns refl)

pub returns-clause-value : goal.returns-clause-value
returns-clause-value c =
    let fs : List FragmentRows = c.self.inside.fragments.items in
    let ns : List ℕ = c.self.inside.numbers in
    let new : List FragmentRows = c.revert_held.new.fragments in
    let a : new ≡ each_at rolled_back ns fs = c.revert_held.ensures ∙ (λ i. each_at rolled_back (c.list.ensures i) (c.deref_mut.ensures.value i)) in
    let same : length new ≡ length fs = c.revert_held.auto.fragments ∙ ap length c.deref_mut.ensures.value in
    let w : take c.self.inside.fragments.len (new ++ drop (length new) fs) ≡ new = written c.self.inside.fragments.len new fs (omega (arith, c.self.inside.fragments.ok)) same in
    let e : take c.self.inside.fragments.len (new ++ drop (length new) fs) ≡ map rolled_back fs = w ∙ a ∙ all_rolled_back fs c.self.inside.held ns c.self.invariant in
    ap (λ z. holding (stripes_of z c.self.inside.held)) e ∙ ap holding (stripes_of-reverted fs c.self.inside.held ∙ ap (map reverted_stripe) c.self.view_is) ∙ holding-reverted c.args.self.now

pub returns-clause-sound : goal.returns-clause-sound
returns-clause-sound c spec o =
    let fs : List FragmentRows = c.self.inside.fragments.items in
    let ns : List ℕ = c.self.inside.numbers in
    let new : List FragmentRows = c.revert_held.new.fragments in
    let a : new ≡ each_at rolled_back ns fs = c.revert_held.ensures ∙ (λ i. each_at rolled_back (c.list.ensures i) (c.deref_mut.ensures.value i)) in
    let same : length new ≡ length fs = c.revert_held.auto.fragments ∙ ap length c.deref_mut.ensures.value in
    let w : take c.self.inside.fragments.len (new ++ drop (length new) fs) ≡ new = written c.self.inside.fragments.len new fs (omega (arith, c.self.inside.fragments.ok)) same in
    let e : take c.self.inside.fragments.len (new ++ drop (length new) fs) ≡ map rolled_back fs = w ∙ a ∙ all_rolled_back fs c.self.inside.held ns c.self.invariant in
    subst (λ z. IsOfOneRelation z spec) (sym (ap (λ z. stripes_of z c.self.inside.held) e ∙ stripes_of-reverted fs c.self.inside.held ∙ ap (map reverted_stripe) c.self.view_is)) (sound-reverted c.args.self.now spec o)
