use Rattle.rc_maps.proofs.Imports.{None, refl, sym, found_many, has_other, passed-changed, many}
use Rattle.rc_maps.specs.HashLaws.{changed_many}
use Rattle.rc_maps.proofs.other_keys.OtherKeys.remove.Goals as goal

pub invariant_of-self : goal.invariant_of-self
invariant_of-self g c =
    let key = c.args.key.now in
    let old = c.args.self.now.map.entries in
    let new = c.remove.new.self.entries in
    let u = c.remove.ensures.updates in
    record {
      none_has_two = passed-changed many has_other old new key None c.args.self.now.none_has_two (λ n. refl) (changed_many key None old new u.3 u.1);
    }

pub returns-clause-value : goal.returns-clause-value
returns-clause-value g c = sym (found_many c.args.key.now _ c.args.self.now.map.entries c.remove.ensures.value)

pub returns-clause-entries : goal.returns-clause-entries
returns-clause-entries g c =
    let u = c.remove.ensures.updates in
    changed_many c.args.key.now None c.args.self.now.map.entries c.remove.new.self.entries u.3 u.1
