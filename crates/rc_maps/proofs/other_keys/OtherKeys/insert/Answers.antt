use Rattle.rc_maps.proofs.Imports.{Some, not, ap, has_other, other_from, passed-put, many}
use Rattle.rc_maps.specs.HashLaws.{changed_many}
use Rattle.rc_maps.proofs.other_keys.OtherKeys.insert.Goals as goal

pub invariant_of-self : goal.invariant_of-self
invariant_of-self g c =
    let old = c.args.self.now.map.entries in
    let new = c.insert.new.self.entries in
    record {
      none_has_two =
          passed-put many has_other c.insert.result old new c.args.key.items c.args.value c.args.self.now.none_has_two
          (ap not (other_from c.args.key.items c.requires))
          (λ u. changed_many c.args.key.items (Some c.args.value) old new u.3 u.1) c.insert.ensures.updates c.insert.ensures.err;
    }

pub returns-clause-ok : goal.returns-clause-ok
returns-clause-ok g c =
    let u = c.in_ok-insert.ensures.updates in
    changed_many c.args.key.items (Some c.args.value) c.args.self.now.map.entries c.insert.new.self.entries u.3 u.1
