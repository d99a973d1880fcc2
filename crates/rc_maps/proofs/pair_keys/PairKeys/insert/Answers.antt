use Rattle.rc_maps.proofs.Imports.{Some, has_two, changed_two, pair, two_from, passed-put}
use Rattle.rc_maps.proofs.pair_keys.PairKeys.insert.Goals as goal

pub invariant_of-self : goal.invariant_of-self
invariant_of-self g c =
    let key = c.args.key.now in
    let old = c.args.self.now.map.entries in
    let new = c.insert.new.self.entries in
    record {
      all_have_two = passed-put pair has_two c.insert.result old new key c.args.value c.args.self.now.all_have_two (two_from key c.requires)
          (λ u. changed_two key (Some c.args.value) old new u.3 u.1) c.insert.ensures.updates c.insert.ensures.err;
    }

pub returns-clause-ok : goal.returns-clause-ok
returns-clause-ok g c =
    let u = c.in_ok-insert.ensures.updates in
    changed_two c.args.key.now (Some c.args.value) c.args.self.now.map.entries c.insert.new.self.entries u.3 u.1
