use Rattle.std.proofs.Common.{◌≡◌, ◌<◌, length, ap, arith}
use Rattle.rc_instance.proofs.Imports.{FragmentRows, holding}
use Rattle.rc_instance.proofs.ChangeLemmas as change
use Rattle.rc_instance.proofs.StripeLemmas.{either_way, exclusive_is_held, on_err_from, on_ok_from}
use Rattle.rc_instance.proofs.instance.InstanceHolder.own.Goals as goal

pub index_mut-fragment-requires : goal.index_mut-fragment-requires
index_mut-fragment-requires c =
    let l : c.args.stripe < length c.self.inside.fragments.items = change.fragment_held c.self.inside.fragments.items c.self.inside.held c.args.self.now c.self.view_is c.args.stripe (exclusive_is_held _ _ c.requires) in
    omega (arith, l, c.self.inside.fragments.ok)

pub invariant_of-self : goal.invariant_of-self
invariant_of-self c =
    let f : FragmentRows = c.index_mut-fragment.result.now in
    let g : FragmentRows = c.own.new.self in
    let table : g.table ≡ f.table = either_way _ _ _ c.own.result c.own.ensures.ok c.own.ensures.err (ap (λ (z : FragmentRows). z.table)) (ap (λ (z : FragmentRows). z.table)) in
    let taken : g.taken ≡ f.taken = either_way _ _ _ c.own.result c.own.ensures.ok c.own.ensures.err (ap (λ (z : FragmentRows). z.taken)) (ap (λ (z : FragmentRows). z.taken)) in
    change.whole c.self.inside.fragments.items c.self.inside.held c.args.self.now c.self.view_is c.args.stripe f (exclusive_is_held _ _ c.requires) c.index_mut-fragment.ensures.value g table taken c.self.inside.numbers c.self.invariant

pub returns-clause-ok : goal.returns-clause-ok
returns-clause-ok c =
    let f : FragmentRows = c.index_mut-fragment.result.now in
    on_ok_from _ _ c.own.result c.own.ensures.ok (change.tells_room c.self.inside.fragments.items c.self.inside.held c.args.self.now c.self.view_is c.args.stripe f (exclusive_is_held _ _ c.requires) c.index_mut-fragment.ensures.value c.args.changes c.own.new.self)

pub returns-clause-err : goal.returns-clause-err
returns-clause-err c =
    let f : FragmentRows = c.index_mut-fragment.result.now in
    on_err_from _ _ c.own.result c.own.ensures.err (λ e. ap holding (change.stays c.self.inside.fragments.items c.self.inside.held c.args.self.now c.self.view_is c.args.stripe f (exclusive_is_held _ _ c.requires) c.index_mut-fragment.ensures.value c.own.new.self e))

pub returns-clause-sound : goal.returns-clause-sound
returns-clause-sound c =
    let f : FragmentRows = c.index_mut-fragment.result.now in
    let g : FragmentRows = c.own.new.self in
    let table : g.table ≡ f.table = either_way _ _ _ c.own.result c.own.ensures.ok c.own.ensures.err (ap (λ (z : FragmentRows). z.table)) (ap (λ (z : FragmentRows). z.table)) in
    let taken : g.taken ≡ f.taken = either_way _ _ _ c.own.result c.own.ensures.ok c.own.ensures.err (ap (λ (z : FragmentRows). z.taken)) (ap (λ (z : FragmentRows). z.taken)) in
    change.sound c.self.inside.fragments.items c.self.inside.held c.args.self.now c.self.view_is c.args.stripe f (exclusive_is_held _ _ c.requires) c.index_mut-fragment.ensures.value g table taken
