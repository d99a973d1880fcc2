use Rattle.rc_maps.proofs.Imports.{refl, sym, on_found, found_many}
use Rattle.rc_maps.specs.HashLaws.{changed_many}
use Rattle.rc_maps.proofs.other_keys.OtherKeys.get_mut.Goals as goal

pub returns : goal.returns
returns g c =
    let key = c.args.key.now in
    let es = c.args.self.now.map.entries in
    let value = c.get_mut.ensures.value in (
      (
        refl,
        (λ w. on_found (λ x. x.now) c.get_mut.result _ value (λ there.
            let u = (c.get_mut.follows.holds w).3 there in
            changed_many key _ es (c.get_mut.follows.lender w).entries u.3 u.1)),
        c.get_mut.follows.holds-at-none,
      ),
      record { writes_back = tt; value = sym (found_many key _ es value) },
    )
