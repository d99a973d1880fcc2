use Rattle.std.proofs.Common.{◌≡◌, ◌<◌, length, ap, arith}
use Rattle.rc_instance.proofs.Imports.{FragmentRows, raised_all}
use Rattle.rc_instance.proofs.ChangeLemmas as change
use Rattle.rc_instance.proofs.StripeLemmas.{either_way, exclusive_is_held, on_err_from, on_ok_from}
use Rattle.rc_instance.proofs.instance.InstanceHolder.add_tuple.Goals as goal

pub index_mut-fragment-requires : goal.index_mut-fragment-requires
index_mut-fragment-requires c =
    let l : c.args.stripe < length c.self.inside.fragments.items = change.fragment_held c.self.inside.fragments.items c.self.inside.held c.args.self.now c.self.view_is c.args.stripe (exclusive_is_held _ _ c.requires.exclusive) in
    omega (arith, l, c.self.inside.fragments.ok)

pub add_tuple-requires-clause-owned : goal.add_tuple-requires-clause-owned
add_tuple-requires-clause-owned c =
    let f : FragmentRows = c.index_mut-fragment.result.now in
    change.has_room c.self.inside.fragments.items c.self.inside.held c.args.self.now c.self.view_is c.args.stripe f (exclusive_is_held _ _ c.requires.exclusive) c.index_mut-fragment.ensures.value c.args.class c.self.invariant.stripes c.requires.owned

pub add_tuple-requires-clause-some : goal.add_tuple-requires-clause-some
add_tuple-requires-clause-some c =
    let f : FragmentRows = c.index_mut-fragment.result.now in
    change.has_some c.self.inside.fragments.items c.self.inside.held c.args.self.now c.self.view_is c.args.stripe f (exclusive_is_held _ _ c.requires.exclusive) c.index_mut-fragment.ensures.value c.args.class c.requires.owned

pub add_tuple-requires-clause-can : goal.add_tuple-requires-clause-can
add_tuple-requires-clause-can c =
    let f : FragmentRows = c.index_mut-fragment.result.now in
    change.can_add c.self.inside.fragments.items c.self.inside.held c.args.self.now c.self.view_is c.args.stripe f (exclusive_is_held _ _ c.requires.exclusive) c.index_mut-fragment.ensures.value c.args.class c.args.tuple.now c.self.invariant.stripes c.requires.can

pub invariant_of-self : goal.invariant_of-self
invariant_of-self c =
    let f : FragmentRows = c.index_mut-fragment.result.now in
    let g : FragmentRows = c.add_tuple.new.self in
    let table : g.table ≡ f.table = either_way _ _ _ c.add_tuple.result c.add_tuple.ensures.ok c.add_tuple.ensures.err (ap (λ (z : FragmentRows). z.table)) (λ b. ap (λ (z : FragmentRows). z.table) b.value) in
    let taken : g.taken ≡ f.taken = either_way _ _ _ c.add_tuple.result c.add_tuple.ensures.ok c.add_tuple.ensures.err (ap (λ (z : FragmentRows). z.taken)) (λ b. ap (λ (z : FragmentRows). z.taken) b.value) in
    change.whole c.self.inside.fragments.items c.self.inside.held c.args.self.now c.self.view_is c.args.stripe f (exclusive_is_held _ _ c.requires.exclusive) c.index_mut-fragment.ensures.value g table taken c.self.inside.numbers c.self.invariant

pub returns-clause-ok : goal.returns-clause-ok
returns-clause-ok c =
    let f : FragmentRows = c.index_mut-fragment.result.now in
    on_ok_from _ _ c.add_tuple.result c.add_tuple.ensures.ok
    (change.tells_tuple c.self.inside.fragments.items c.self.inside.held c.args.self.now c.self.view_is c.args.stripe f (exclusive_is_held _ _ c.requires.exclusive) c.index_mut-fragment.ensures.value raised_all c.args.class c.args.tuple.now c.add_tuple.new.self c.self.invariant.stripes)

pub returns-clause-err : goal.returns-clause-err
returns-clause-err c =
    let f : FragmentRows = c.index_mut-fragment.result.now in
    on_err_from _ _ c.add_tuple.result c.add_tuple.ensures.err
    (change.tells_partly c.self.inside.fragments.items c.self.inside.held c.args.self.now c.self.view_is c.args.stripe f (exclusive_is_held _ _ c.requires.exclusive) c.index_mut-fragment.ensures.value c.args.class c.args.tuple.now c.add_tuple.new.self c.self.invariant.stripes)

pub returns-clause-sound : goal.returns-clause-sound
returns-clause-sound c =
    let f : FragmentRows = c.index_mut-fragment.result.now in
    let g : FragmentRows = c.add_tuple.new.self in
    let table : g.table ≡ f.table = either_way _ _ _ c.add_tuple.result c.add_tuple.ensures.ok c.add_tuple.ensures.err (ap (λ (z : FragmentRows). z.table)) (λ b. ap (λ (z : FragmentRows). z.table) b.value) in
    let taken : g.taken ≡ f.taken = either_way _ _ _ c.add_tuple.result c.add_tuple.ensures.ok c.add_tuple.ensures.err (ap (λ (z : FragmentRows). z.taken)) (λ b. ap (λ (z : FragmentRows). z.taken) b.value) in
    change.sound c.self.inside.fragments.items c.self.inside.held c.args.self.now c.self.view_is c.args.stripe f (exclusive_is_held _ _ c.requires.exclusive) c.index_mut-fragment.ensures.value g table taken
