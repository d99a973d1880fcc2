use Rattle.std.proofs.Common.{◌<◌, length, ap, arith}
use Rattle.rc_instance.proofs.Imports.{FragmentRows, lowered_all}
use Rattle.rc_instance.proofs.ChangeLemmas as change
use Rattle.rc_instance.proofs.StripeLemmas.{exclusive_is_held}
use Rattle.rc_instance.proofs.instance.InstanceHolder.sub_tuple.Goals as goal

pub index_mut-fragment-requires : goal.index_mut-fragment-requires
index_mut-fragment-requires c =
    let l : c.args.stripe < length c.self.inside.fragments.items = change.fragment_held c.self.inside.fragments.items c.self.inside.held c.args.self.now c.self.view_is c.args.stripe (exclusive_is_held _ _ c.requires.exclusive) in
    omega (arith, l, c.self.inside.fragments.ok)

pub sub_tuple-requires-clause-owned : goal.sub_tuple-requires-clause-owned
sub_tuple-requires-clause-owned c =
    let f : FragmentRows = c.index_mut-fragment.result.now in
    change.has_room c.self.inside.fragments.items c.self.inside.held c.args.self.now c.self.view_is c.args.stripe f (exclusive_is_held _ _ c.requires.exclusive) c.index_mut-fragment.ensures.value c.args.class c.self.invariant.stripes c.requires.owned

pub sub_tuple-requires-clause-some : goal.sub_tuple-requires-clause-some
sub_tuple-requires-clause-some c =
    let f : FragmentRows = c.index_mut-fragment.result.now in
    change.has_some c.self.inside.fragments.items c.self.inside.held c.args.self.now c.self.view_is c.args.stripe f (exclusive_is_held _ _ c.requires.exclusive) c.index_mut-fragment.ensures.value c.args.class c.requires.owned

pub sub_tuple-requires-clause-there : goal.sub_tuple-requires-clause-there
sub_tuple-requires-clause-there c =
    let f : FragmentRows = c.index_mut-fragment.result.now in
    change.has_tuple c.self.inside.fragments.items c.self.inside.held c.args.self.now c.self.view_is c.args.stripe f (exclusive_is_held _ _ c.requires.exclusive) c.index_mut-fragment.ensures.value c.args.class c.args.tuple.now c.self.invariant.stripes c.requires.can

pub invariant_of-self : goal.invariant_of-self
invariant_of-self c =
    let f : FragmentRows = c.index_mut-fragment.result.now in
    change.whole c.self.inside.fragments.items c.self.inside.held c.args.self.now c.self.view_is c.args.stripe f (exclusive_is_held _ _ c.requires.exclusive) c.index_mut-fragment.ensures.value c.sub_tuple.new.self
    (ap (λ (z : FragmentRows). z.table) c.sub_tuple.ensures) (ap (λ (z : FragmentRows). z.taken) c.sub_tuple.ensures) c.self.inside.numbers c.self.invariant

pub returns-clause-value : goal.returns-clause-value
returns-clause-value c =
    let f : FragmentRows = c.index_mut-fragment.result.now in
    change.tells_tuple c.self.inside.fragments.items c.self.inside.held c.args.self.now c.self.view_is c.args.stripe f (exclusive_is_held _ _ c.requires.exclusive) c.index_mut-fragment.ensures.value lowered_all c.args.class c.args.tuple.now c.sub_tuple.new.self c.self.invariant.stripes c.sub_tuple.ensures

pub returns-clause-sound : goal.returns-clause-sound
returns-clause-sound c =
    let f : FragmentRows = c.index_mut-fragment.result.now in
    change.sound c.self.inside.fragments.items c.self.inside.held c.args.self.now c.self.view_is c.args.stripe f (exclusive_is_held _ _ c.requires.exclusive) c.index_mut-fragment.ensures.value c.sub_tuple.new.self
    (ap (λ (z : FragmentRows). z.table) c.sub_tuple.ensures) (ap (λ (z : FragmentRows). z.taken) c.sub_tuple.ensures)
