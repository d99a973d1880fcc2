-- What a hash map from keys of any number of columns but two keeps.
use Rattle.std.specs.Prelude.{◌≡◌, IsTrue, Option}
use mathlib.Core.Bool.{Bool-set}
use mathlib.Core.HLevel.{is_prop→PathP}
use Rattle.rc_maps.specs.Imports.{keys_of, LendsSo, MutBor, Fml, RattleType, OnSome, FinMap, Values, values_cmp}
use Rattle.std.specs.FinMap as fin
use Rattle.rc_maps.specs.KeyLengths.{none_has_two}
use Rattle.rc_maps.specs.Keyed.{by_many}
use Rattle.rc_maps.specs.declared.other_keys.OtherKeys.{OtherKeys}
use Rattle.rc_maps.specs.contracts.other_keys.OtherKeys.{the_row}

-- the values by their keys
abbrev pub others_of : {X : Type 0} → OtherKeys X → FinMap values_cmp X
others_of others = fin.from_entries (by_many others.map.entries)

-- the value at the key ends as the last one written through r, and at `None` the map stays
abbrev pub lends_other : (X : RattleType) → MutBor (OtherKeys X.Denot) → Values → Option (MutBor X.Denot) → Fml
lends_other X others key r =
    LendsSo (the_row X) X others r (λ new x. OnSome r (others_of new ≡ fin.insert (others_of others.now) key x)) (λ new. new.map ≡ others.now.map)

-- the map is all that there is
pub same_others : {X : Type 0} (x y : OtherKeys X) → x.map ≡ y.map → x ≡ y
same_others x y e i =
    record {
      map = e i;
      none_has_two = is_prop→PathP (λ j. IsTrue (none_has_two (keys_of (e j).entries))) (λ j. Bool-set _ _) x.none_has_two y.none_has_two i;
    }
