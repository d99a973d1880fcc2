use Rattle.std.proofs.Common.{◌≡◌, ◌<◌, ◌++◌, ℕ, None, length, take, drop, sym, ap, subst, ◌∙◌, arith}
use Rattle.rc_instance.proofs.Imports.{List, Option, map, In, Mode, FragmentRows, settled, each_at, stripes_of, AreReleased, IsWholeInstance}
use Rattle.rc_instance.proofs.AlikeLemmas.{written}
use Rattle.rc_instance.proofs.NumberLemmas.{all_settled, are_below, are_released, whole_released}
use Rattle.rc_instance.proofs.instance.Instance.release_all.Goals as goal

pub settle_held-requires : goal.settle_held-requires
settle_held-requires c n m =
    let l : n < length c.self.inside.fragments.items = are_below c.self.inside.fragments.items c.self.inside.held c.self.inside.numbers c.self.invariant n (subst (In n) c.list.ensures m) in
    subst (λ z. n < length z) (sym c.deref_mut.ensures.value) l

pub free_held-requires : goal.free_held-requires
free_held-requires c n m =
    let l : n < length c.self.inside.fragments.items = are_below c.self.inside.fragments.items c.self.inside.held c.self.inside.numbers c.self.invariant n (subst (In n) c.list-2.ensures m) in
    omega (arith, l, c.self.invariant.few)

pub invariant_of-self : goal.invariant_of-self
invariant_of-self c =
    let fs : List FragmentRows = c.self.inside.fragments.items in
    let ns : List ℕ = c.self.inside.numbers in
    let new : List FragmentRows = c.settle_held.new.fragments in
    let a : new ≡ each_at settled ns fs = c.settle_held.ensures ∙ (λ i. each_at settled (c.list.ensures i) (c.deref_mut.ensures.value i)) in
    let same : length new ≡ length fs = c.settle_held.auto.fragments ∙ ap length c.deref_mut.ensures.value in
    let w : take c.self.inside.fragments.len (new ++ drop (length new) fs) ≡ new = written c.self.inside.fragments.len new fs (omega (arith, c.self.inside.fragments.ok)) same in
    let e : take c.self.inside.fragments.len (new ++ drop (length new) fs) ≡ map settled fs = w ∙ a ∙ all_settled fs c.self.inside.held ns c.self.invariant in
    let free : Option Mode → Option Mode = λ _. None in
    let h : c.free_held.new.held ≡ each_at free ns c.self.inside.held = c.free_held.ensures ∙ ap (λ z. each_at free z c.self.inside.held) c.list-2.ensures in
    subst (λ z. IsWholeInstance z c.free_held.new.held c.clear.new.self) (sym e)
    (subst (λ z. IsWholeInstance (map settled fs) z c.clear.new.self) (sym h)
    (subst (IsWholeInstance (map settled fs) (each_at free ns c.self.inside.held)) (sym c.clear.ensures) (whole_released fs c.self.inside.held ns c.self.invariant)))

pub returns : goal.returns
returns c =
    let fs : List FragmentRows = c.self.inside.fragments.items in
    let ns : List ℕ = c.self.inside.numbers in
    let new : List FragmentRows = c.settle_held.new.fragments in
    let a : new ≡ each_at settled ns fs = c.settle_held.ensures ∙ (λ i. each_at settled (c.list.ensures i) (c.deref_mut.ensures.value i)) in
    let same : length new ≡ length fs = c.settle_held.auto.fragments ∙ ap length c.deref_mut.ensures.value in
    let w : take c.self.inside.fragments.len (new ++ drop (length new) fs) ≡ new = written c.self.inside.fragments.len new fs (omega (arith, c.self.inside.fragments.ok)) same in
    let e : take c.self.inside.fragments.len (new ++ drop (length new) fs) ≡ map settled fs = w ∙ a ∙ all_settled fs c.self.inside.held ns c.self.invariant in
    let free : Option Mode → Option Mode = λ _. None in
    let h : c.free_held.new.held ≡ each_at free ns c.self.inside.held = c.free_held.ensures ∙ ap (λ z. each_at free z c.self.inside.held) c.list-2.ensures in
    subst (λ z. AreReleased c.args.self.now (stripes_of z c.free_held.new.held)) (sym e)
    (subst (λ z. AreReleased c.args.self.now (stripes_of (map settled fs) z)) (sym h)
    (subst (λ z. AreReleased z (stripes_of (map settled fs) (each_at free ns c.self.inside.held))) c.self.view_is (are_released fs c.self.inside.held ns c.self.invariant)))
