use Rattle.std.proofs.Common.{rules, ◌≡◌, ◌<◌, ◌^◌, Some, None, IfOk, sym, ap, subst, ◌∙◌}
use Rattle.std.specs.FinMap as fin
use Rattle.rc_maps.proofs.Imports.{option_and_then, entry_value, on_err_weaker, on_ok_weaker, HasExtra, count_of, present, pairs_of, raised, stays, changed_two, found_two, two-changed}
use Rattle.rc_maps.proofs.pair_keys.PairKeys+Entry.raise.Goals as goal
use Rattle.rc_maps.proofs.pair_keys.PairKeys+Entry.raise.Goals.{After-into_mut, In-Vacant}

-- the entry that is there is the map's at the key
kept : (c : After-into_mut) → fin.get (pairs_of c.args.self.now) c.args.key.now ≡ Some c.into_mut.result.now
kept c =
    found_two c.args.key.now (Some c.into_mut.result.now) c.args.self.now.map.entries
    (sym c.into_mut.ensures.value ∙ ap entry_value (sym c.in-Occupied.is) ∙ c.in_ok-own.ensures.value)

-- where there is none the map has none at the key
none : (c : In-Vacant) → fin.get (pairs_of c.args.self.now) c.args.key.now ≡ None
none c = found_two c.args.key.now None c.args.self.now.map.entries (sym (rw c.in-Vacant.is at c.in_ok-own.ensures.found))

pub raise-requires-clause-room : goal.raise-requires-clause-room
raise-requires-clause-room c =
    subst (λ z. count_of z < 2 ^ 63) (kept (goal.at.raise-requires-clause-room c).After-into_mut) c.requires.room

pub raise-requires-clause-same : goal.raise-requires-clause-same
raise-requires-clause-same c =
    let at = kept (goal.at.raise-requires-clause-same c).After-into_mut in
    subst (λ z. HasExtra (option_and_then present z) c.args.extra.now) at c.requires.same

pub invariant_of-self-in-Occupied : goal.invariant_of-self-in-Occupied
invariant_of-self-in-Occupied c =
    let w = c.raise.new.self in
    let u = c.in_ok-own.ensures.update.0 w in
    let all = two-changed c.args.key.now w c.args.self.now.map.entries _ c.requires.two c.args.self.now.all_have_two u.3 u.1 in
    record { all_have_two = search rules }

pub invariant_of-self-in-Vacant : goal.invariant_of-self-in-Vacant
invariant_of-self-in-Vacant c =
    let w = c.in_ok-entry-in-Vacant.entry in
    let u = c.in_ok-own.ensures.update.0 w in
    let all = two-changed c.args.key.now w c.args.self.now.map.entries _ c.requires.two c.args.self.now.all_have_two u.3 u.1 in
    record { all_have_two = search rules }

pub returns-in-Occupied-clause-ok : goal.returns-in-Occupied-clause-ok
returns-in-Occupied-clause-ok c =
    let key = c.args.key.now in
    let old = c.args.self.now in
    let at = kept (goal.at.returns-in-Occupied-clause-ok c).After-into_mut in
    let w = c.raise.new.self in
    let u = c.in_ok-own.ensures.update.0 w in
    on_ok_weaker c.raise.result
    (raised (pairs_of old) _ key w (Some c.into_mut.result.now) at
    (changed_two key (Some w) old.map.entries _ (search rules) (search rules)) c.args.extra.now) c.raise.ensures.ok

pub returns-in-Occupied-clause-before : goal.returns-in-Occupied-clause-before
returns-in-Occupied-clause-before c =
    let at = kept (goal.at.returns-in-Occupied-clause-before c).After-into_mut in
    subst (λ z. IfOk c.raise.result (λ before. before ≡ count_of z)) (sym at) c.raise.ensures.before

pub returns-in-Occupied-clause-err : goal.returns-in-Occupied-clause-err
returns-in-Occupied-clause-err c =
    let key = c.args.key.now in
    let old = c.args.self.now in
    let at = kept (goal.at.returns-in-Occupied-clause-err c).After-into_mut in
    let w = c.raise.new.self in
    let u = c.in_ok-own.ensures.update.0 w in
    on_err_weaker c.raise.result
    (λ e. stays (pairs_of old) _ key w (Some c.into_mut.result.now) at
    (changed_two key (Some w) old.map.entries _ (search rules) (search rules)) (ap Some e)) c.raise.ensures.err

pub returns-in_ok-entry-in-Vacant-clause-ok : goal.returns-in_ok-entry-in-Vacant-clause-ok
returns-in_ok-entry-in-Vacant-clause-ok c =
    let key = c.args.key.now in
    let old = c.args.self.now in
    let at = none (goal.at.returns-in_ok-entry-in-Vacant-clause-ok c).In-Vacant in
    let w = c.in_ok-entry-in-Vacant.entry in
    let u = c.in_ok-own.ensures.update.0 w in
    raised (pairs_of old) _ key w None at
    (changed_two key (Some w) old.map.entries _ (search rules) (search rules)) c.args.extra.now c.in_ok-entry-in-Vacant.ensures

pub returns-in_ok-entry-in-Vacant-clause-before : goal.returns-in_ok-entry-in-Vacant-clause-before
returns-in_ok-entry-in-Vacant-clause-before c = ap count_of (sym (none (goal.at.returns-in_ok-entry-in-Vacant-clause-before c).In-Vacant))
