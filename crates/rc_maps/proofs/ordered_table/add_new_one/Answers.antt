use Rattle.std.proofs.Common.{rules, ◌≡◌, [], ◌∷◌, Some, None, refl, sym, ap, ◌∙◌}
use Rattle.std.specs.FinMap as fin
use Rattle.std.specs.BTreeMap.Entry.{entry_value}
use Rattle.rc_maps.proofs.Imports.{on_err_weaker, if_ok, started_at, started_new, entries_one, stays}
use Rattle.rc_maps.specs.OrderedLaws.{changed_one, found_one}
use Rattle.rc_maps.proofs.ordered_table.add_new_one.Goals as goal
use Rattle.rc_maps.proofs.ordered_table.add_new_one.Goals.{After-into_mut, In-Vacant}

-- the entry that is there is the map's at the key
kept : (c : After-into_mut) → fin.get (entries_one c.args.map.now.entries) (c.args.key ∷ []) ≡ Some c.into_mut.result.now
kept c =
    found_one (c.args.key ∷ []) c.args.key (Some c.into_mut.result.now) c.args.map.now.entries refl
    (sym c.into_mut.ensures.value ∙ ap entry_value (sym c.in-Occupied.is) ∙ c.in_ok-own.ensures.value)

-- where there is none the map has none at the key
none : (c : In-Vacant) → fin.get (entries_one c.args.map.now.entries) (c.args.key ∷ []) ≡ None
none c = found_one (c.args.key ∷ []) c.args.key None c.args.map.now.entries refl (sym (rw c.in-Vacant.is at c.in_ok-own.ensures.found))

pub returns-in-Occupied-clause-ok : goal.returns-in-Occupied-clause-ok
returns-in-Occupied-clause-ok c =
    let key = c.args.key ∷ [] in
    let old = c.args.map.now.entries in
    let at = kept (goal.at.returns-in-Occupied-clause-ok c).After-into_mut in
    let w = c.start.new.self in
    let u = c.in_ok-own.ensures.update.0 w in
    if_ok c.start.result
    (started_at (entries_one old) _ key c.args.extra.now c.into_mut.result.now w at
    (changed_one key c.args.key (Some w) old _ refl (search rules) (search rules))) c.start.ensures.ok

pub returns-in-Occupied-clause-err : goal.returns-in-Occupied-clause-err
returns-in-Occupied-clause-err c =
    let key = c.args.key ∷ [] in
    let old = c.args.map.now.entries in
    let at = kept (goal.at.returns-in-Occupied-clause-err c).After-into_mut in
    let w = c.start.new.self in
    let u = c.in_ok-own.ensures.update.0 w in
    on_err_weaker c.start.result
    (λ e. stays (entries_one old) _ key w (Some c.into_mut.result.now) at
    (changed_one key c.args.key (Some w) old _ refl (search rules) (search rules)) (ap Some e)) c.start.ensures.err

pub returns-in_ok-entry-in-Vacant-clause-ok : goal.returns-in_ok-entry-in-Vacant-clause-ok
returns-in_ok-entry-in-Vacant-clause-ok c =
    let key = c.args.key ∷ [] in
    let old = c.args.map.now.entries in
    let at = none (goal.at.returns-in_ok-entry-in-Vacant-clause-ok c).In-Vacant in
    let w = c.in_ok-entry-in-Vacant.entry in
    let u = c.in_ok-own.ensures.update.0 w in
    started_new (entries_one old) _ key c.args.extra.now w at
    (changed_one key c.args.key (Some w) old _ refl (search rules) (search rules)) c.in_ok-entry-in-Vacant.ensures
