use Rattle.std.proofs.Common.{◌≡◌, Some, length, refl, sym, ap, ◌∙◌, arith}
use Rattle.std.specs.FinMap as fin
use Rattle.rc_maps.proofs.Imports.{IfSome_then, no_one, on_found, changed_one, found_one, same_others, same_pairs, others-changed, others-found, pairs-changed, pairs-found}
use Rattle.rc_maps.specs.HashTable.{entries_of}
use Rattle.rc_maps.specs.declared.hash_table.HashTable.TheVariants as table
use Rattle.rc_maps.proofs.hash_table.HashTable.get_mut.Goals as goal

pub returns-in-One : goal.returns-in-One
returns-in-One g c =
    let other : length c.args.key.now ≡ 1 → ⊥ = λ h.
    absurd (let two : length c.args.key.now ≡ 2 = c.in-Some.ensures.two in omega (arith, h, two)) in
    let value = sym (no_one c.args.key.now c.in-One.field-0.entries other) ∙ ap (λ z. fin.get (entries_of z) c.args.key.now) (sym c.in-One.is) in
    ((refl, (λ w. tt), refl), record { writes_back = tt; value = value })

pub returns-in-Many : goal.returns-in-Many
returns-in-Many g c =
    let key = c.args.key.now in
    let t = c.in-Many in
    let es = t.pairs.map.entries in
    let fs = t.others.map.entries in
    let k = c.in-Some.pair.now in
    let value = rw t.pairs-is at c.get_mut.ensures.value in
    rw t.is (
      (
        refl,
        (λ w. IfSome_then c.get_mut.result (rw t.pairs-is at c.get_mut.follows.holds w) (λ r e. record {
          entries =
              pairs-changed key k es fs c.in-Some.ensures.same c.in-Some.ensures.two t.others.none_has_two
              (c.get_mut.follows.lender w).map.entries (Some w) e;
          width = refl;
        })),
        ap (λ z. table.Many z t.others t.alloc) (same_pairs _ t.pairs (rw t.pairs-is at c.get_mut.follows.holds-at-none)),
      ),
      record { writes_back = tt; value = pairs-found key k es fs c.in-Some.ensures.same c.in-Some.ensures.two t.others.none_has_two _ value },
    )

pub returns-in-Some-only : goal.returns-in-Some-only
returns-in-Some-only g c =
    let key = c.args.key.now in
    let n = c.in-Some-only.value.now in
    let es = c.in-One-self.map.entries in
    let one = c.in-Some-only.ensures.one in
    let value = rw c.in-One-self.map-is at c.get_mut-in-Some-only.ensures.value in
    rw c.in-One-self.is (
      (
        refl,
        (λ w. on_found (λ x. x.now) c.get_mut-in-Some-only.result _ value (λ there.
            let u = (rw c.in-One-self.map-is at (c.get_mut-in-Some-only.follows.holds w).3) there in
            record { entries = changed_one key n (Some w) es (c.get_mut-in-Some-only.follows.lender w).entries one u.3 u.1; width = refl })),
        ap table.One (c.get_mut-in-Some-only.follows.holds-at-none ∙ c.in-One-self.map-is),
      ),
      record { writes_back = tt; value = sym (found_one key n _ es one value) },
    )

pub returns-in-None-only : goal.returns-in-None-only
returns-in-None-only g c =
    rw c.in-One-self.is (
      (refl, (λ w. tt), refl),
      record { writes_back = tt; value = sym (no_one c.args.key.now c.in-One-self.map.entries c.in-None-only.ensures.other) },
    )

pub returns-in-Many-self : goal.returns-in-Many-self
returns-in-Many-self g c =
    let key = c.args.key.now in
    let t = c.in-Many-self in
    let es = t.pairs.map.entries in
    let fs = t.others.map.entries in
    let value = rw t.others-is at c.get_mut-in-Many-self.ensures.value in
    rw t.is (
      (
        refl,
        (λ w. IfSome_then c.get_mut-in-Many-self.result (rw t.others-is at c.get_mut-in-Many-self.follows.holds w) (λ r e. record {
          entries =
              others-changed key es fs c.in-None.ensures.other t.pairs.all_have_two
              (c.get_mut-in-Many-self.follows.lender w).map.entries (Some w) e;
          width = refl;
        })),
        ap (λ z. table.Many t.pairs z t.alloc) (same_others _ t.others (rw t.others-is at c.get_mut-in-Many-self.follows.holds-at-none)),
      ),
      record { writes_back = tt; value = others-found key es fs c.in-None.ensures.other t.pairs.all_have_two _ value },
    )
