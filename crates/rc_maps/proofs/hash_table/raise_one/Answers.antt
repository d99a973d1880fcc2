use Rattle.std.proofs.Common.{rules, ◌≡◌, ◌<◌, ◌^◌, [], ◌∷◌, Some, None, IfOk, refl, sym, ap, subst, ◌∙◌}
use Rattle.std.specs.FinMap as fin
use Rattle.rc_maps.proofs.Imports.{option_and_then, entry_value, on_err_weaker, on_ok_weaker, HasExtra, count_of, present, entries_one, raised, stays, changed_one, found_one}
use Rattle.rc_maps.proofs.hash_table.raise_one.Goals as goal
use Rattle.rc_maps.proofs.hash_table.raise_one.Goals.{After-into_mut, In-Vacant}

-- the entry that is there is the map's at the key
kept : (c : After-into_mut) → fin.get (entries_one c.args.map.now.entries) (c.args.key ∷ []) ≡ Some c.into_mut.result.now
kept c =
    found_one (c.args.key ∷ []) c.args.key (Some c.into_mut.result.now) c.args.map.now.entries refl
    (sym c.into_mut.ensures.value ∙ ap entry_value (sym c.in-Occupied.is) ∙ c.in_ok-own.ensures.value)

-- where there is none the map has none at the key
none : (c : In-Vacant) → fin.get (entries_one c.args.map.now.entries) (c.args.key ∷ []) ≡ None
none c = found_one (c.args.key ∷ []) c.args.key None c.args.map.now.entries refl (sym (rw c.in-Vacant.is at c.in_ok-own.ensures.found))

pub raise-requires-clause-room : goal.raise-requires-clause-room
raise-requires-clause-room c =
    subst (λ z. count_of z < 2 ^ 63) (kept (goal.at.raise-requires-clause-room c).After-into_mut) c.requires.room

pub raise-requires-clause-same : goal.raise-requires-clause-same
raise-requires-clause-same c =
    let at = kept (goal.at.raise-requires-clause-same c).After-into_mut in
    subst (λ z. HasExtra (option_and_then present z) c.args.extra.now) at c.requires.same

pub returns-in-Occupied-clause-ok : goal.returns-in-Occupied-clause-ok
returns-in-Occupied-clause-ok c =
    let key = c.args.key ∷ [] in
    let old = c.args.map.now.entries in
    let at = kept (goal.at.returns-in-Occupied-clause-ok c).After-into_mut in
    let w = c.raise.new.self in
    let u = c.in_ok-own.ensures.update.0 w in
    on_ok_weaker c.raise.result
    (raised (entries_one old) _ key w (Some c.into_mut.result.now) at
    (changed_one key c.args.key (Some w) old _ refl (search rules) (search rules)) c.args.extra.now) c.raise.ensures.ok

pub returns-in-Occupied-clause-before : goal.returns-in-Occupied-clause-before
returns-in-Occupied-clause-before c =
    let at = kept (goal.at.returns-in-Occupied-clause-before c).After-into_mut in
    subst (λ z. IfOk c.raise.result (λ before. before ≡ count_of z)) (sym at) c.raise.ensures.before

pub returns-in-Occupied-clause-err : goal.returns-in-Occupied-clause-err
returns-in-Occupied-clause-err c =
    let key = c.args.key ∷ [] in
    let old = c.args.map.now.entries in
    let at = kept (goal.at.returns-in-Occupied-clause-err c).After-into_mut in
    let w = c.raise.new.self in
    let u = c.in_ok-own.ensures.update.0 w in
    on_err_weaker c.raise.result
    (λ e. stays (entries_one old) _ key w (Some c.into_mut.result.now) at
    (changed_one key c.args.key (Some w) old _ refl (search rules) (search rules)) (ap Some e)) c.raise.ensures.err

pub returns-in_ok-entry-in-Vacant-clause-ok : goal.returns-in_ok-entry-in-Vacant-clause-ok
returns-in_ok-entry-in-Vacant-clause-ok c =
    let key = c.args.key ∷ [] in
    let old = c.args.map.now.entries in
    let at = none (goal.at.returns-in_ok-entry-in-Vacant-clause-ok c).In-Vacant in
    let w = c.in_ok-entry-in-Vacant.entry in
    let u = c.in_ok-own.ensures.update.0 w in
    raised (entries_one old) _ key w None at
    (changed_one key c.args.key (Some w) old _ refl (search rules) (search rules)) c.args.extra.now c.in_ok-entry-in-Vacant.ensures

pub returns-in_ok-entry-in-Vacant-clause-before : goal.returns-in_ok-entry-in-Vacant-clause-before
returns-in_ok-entry-in-Vacant-clause-before c = ap count_of (sym (none (goal.at.returns-in_ok-entry-in-Vacant-clause-before c).In-Vacant))
