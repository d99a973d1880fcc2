use Rattle.std.proofs.Common.{◌<◌, length, sym, subst, arith}
use Rattle.rc_instance.proofs.Imports.{IsWholeInstance, offered-length}
use Rattle.rc_instance.proofs.ChangeLemmas as change
use Rattle.rc_instance.proofs.instance.InstanceHolder.take.Goals as goal

pub bounds-self-inside-stripe : goal.bounds-self-inside-stripe
bounds-self-inside-stripe c =
    let known : c.args.stripe < length c.args.self.now = omega (arith, c.requires.known, offered-length c.args.self.now) in
    let l : c.args.stripe < length c.self.inside.fragments.items = change.fragment_below c.self.inside.fragments.items c.self.inside.held c.args.self.now c.self.view_is c.args.stripe known in
    omega (arith, l, c.self.invariant.few)

pub push-requires : goal.push-requires
push-requires c =
    let known : c.args.stripe < length c.args.self.now = omega (arith, c.requires.known, offered-length c.args.self.now) in
    let l : c.args.stripe < length c.self.inside.fragments.items = change.fragment_below c.self.inside.fragments.items c.self.inside.held c.args.self.now c.self.view_is c.args.stripe known in
    let place : c.args.stripe < length c.self.inside.held = omega (arith, l, c.self.invariant.few) in
    change.taken_few c.self.inside.fragments.items c.self.inside.held c.args.self.now c.self.view_is c.args.stripe known c.requires.above c.self.invariant.stripes place c.args.mode c.self.inside.numbers c.self.invariant

pub invariant_of-self : goal.invariant_of-self
invariant_of-self c =
    let known : c.args.stripe < length c.args.self.now = omega (arith, c.requires.known, offered-length c.args.self.now) in
    let l : c.args.stripe < length c.self.inside.fragments.items = change.fragment_below c.self.inside.fragments.items c.self.inside.held c.args.self.now c.self.view_is c.args.stripe known in
    let place : c.args.stripe < length c.self.inside.held = omega (arith, l, c.self.invariant.few) in
    subst (IsWholeInstance c.self.inside.fragments.items _) (sym c.push.ensures) (change.taken_whole c.self.inside.fragments.items c.self.inside.held c.args.self.now c.self.view_is c.args.stripe known c.requires.above c.self.invariant.stripes place c.args.mode c.self.inside.numbers c.self.invariant)

pub returns-clause-ok : goal.returns-clause-ok
returns-clause-ok c =
    let known : c.args.stripe < length c.args.self.now = omega (arith, c.requires.known, offered-length c.args.self.now) in
    let l : c.args.stripe < length c.self.inside.fragments.items = change.fragment_below c.self.inside.fragments.items c.self.inside.held c.args.self.now c.self.view_is c.args.stripe known in
    let place : c.args.stripe < length c.self.inside.held = omega (arith, l, c.self.invariant.few) in
    change.is_taken c.self.inside.fragments.items c.self.inside.held c.args.self.now c.self.view_is c.args.stripe known c.requires.above c.self.invariant.stripes place c.args.mode

pub returns-clause-sound : goal.returns-clause-sound
returns-clause-sound c =
    let known : c.args.stripe < length c.args.self.now = omega (arith, c.requires.known, offered-length c.args.self.now) in
    let l : c.args.stripe < length c.self.inside.fragments.items = change.fragment_below c.self.inside.fragments.items c.self.inside.held c.args.self.now c.self.view_is c.args.stripe known in
    let place : c.args.stripe < length c.self.inside.held = omega (arith, l, c.self.invariant.few) in
    change.taken_sound c.self.inside.fragments.items c.self.inside.held c.args.self.now c.self.view_is c.args.stripe known c.requires.above c.self.invariant.stripes place c.args.mode
