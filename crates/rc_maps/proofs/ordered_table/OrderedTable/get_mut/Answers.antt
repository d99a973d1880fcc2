use Rattle.std.proofs.Common.{Some, refl, sym, ap, ◌∙◌}
use Rattle.rc_maps.specs.TableLaws.{no_one, on_found}
use Rattle.rc_maps.specs.OrderedLaws.{changed_many, changed_one, found_many, found_one}
use Rattle.rc_maps.specs.declared.ordered_table.OrderedTable.TheVariants as table
use Rattle.rc_maps.proofs.ordered_table.OrderedTable.get_mut.Goals as goal

pub returns-in-Some : goal.returns-in-Some
returns-in-Some g c =
    let key = c.args.key.now in
    let n = c.in-Some.value.now in
    let es = c.in-One.map.entries in
    let value = rw c.in-One.map-is at c.get_mut.ensures.value in
    rw c.in-One.is (
      (
        refl,
        (λ w. on_found (λ x. x.now) c.get_mut.result _ value (λ there.
            let u = (rw c.in-One.map-is at (c.get_mut.follows.holds w).3) there in
            record { entries = changed_one key n (Some w) es (c.get_mut.follows.lender w).entries c.in-Some.ensures.one u.3 u.1; width = refl })),
        ap table.One (c.get_mut.follows.holds-at-none ∙ c.in-One.map-is),
      ),
      record { writes_back = tt; value = sym (found_one key n _ es c.in-Some.ensures.one value) },
    )

pub returns-in-None : goal.returns-in-None
returns-in-None g c =
    rw c.in-One.is
    ((refl, (λ w. tt), refl), record { writes_back = tt; value = sym (no_one c.args.key.now c.in-One.map.entries c.in-None.ensures.other) })

pub returns-in-Many : goal.returns-in-Many
returns-in-Many g c =
    let key = c.args.key.now in
    let es = c.in-Many.map.entries in
    let value = rw c.in-Many.map-is at c.get_mut-in-Many.ensures.value in
    rw c.in-Many.is (
      (
        refl,
        (λ w. on_found (λ x. x.now) c.get_mut-in-Many.result _ value (λ there.
            let u = (rw c.in-Many.map-is at (c.get_mut-in-Many.follows.holds w).3) there in
            record { entries = changed_many key (Some w) es (c.get_mut-in-Many.follows.lender w).entries u.3 u.1; width = refl })),
        ap (λ z. table.Many z c.in-Many.field-1) (c.get_mut-in-Many.follows.holds-at-none ∙ c.in-Many.map-is),
      ),
      record { writes_back = tt; value = sym (found_many key _ es value) },
    )
