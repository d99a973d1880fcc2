-- What a hash map from keys of two columns keeps.
use Rattle.std.specs.Prelude.{◌≡◌, IsTrue, Option}
use mathlib.Core.Bool.{Bool-set}
use mathlib.Core.HLevel.{is_prop→PathP}
use Rattle.rc_maps.specs.Imports.{keys_of, LendsSo, MutBor, Fml, RattleType, OnSome, FinMap, Values, values_cmp}
use Rattle.std.specs.FinMap as fin
use Rattle.rc_maps.specs.KeyLengths.{all_have_two}
use Rattle.rc_maps.specs.Keyed.{by_two}
use Rattle.rc_maps.specs.declared.pair_keys.PairKeys.{PairKeys}
use Rattle.rc_maps.specs.contracts.pair_keys.PairKeys.{the_row}

-- the values by their keys
abbrev pub pairs_of : {X : Type 0} → PairKeys X → FinMap values_cmp X
pairs_of pairs = fin.from_entries (by_two pairs.map.entries)

-- the value at the key ends as the last one written through r, and at `None` the map stays
abbrev pub lends_paired : (X : RattleType) → MutBor (PairKeys X.Denot) → Values → Option (MutBor X.Denot) → Fml
lends_paired X pairs key r =
    LendsSo (the_row X) X pairs r (λ new x. OnSome r (pairs_of new ≡ fin.insert (pairs_of pairs.now) key x)) (λ new. new.map ≡ pairs.now.map)

-- the map is all that there is
pub same_pairs : {X : Type 0} (x y : PairKeys X) → x.map ≡ y.map → x ≡ y
same_pairs x y e i =
    record {
      map = e i;
      all_have_two = is_prop→PathP (λ j. IsTrue (all_have_two (keys_of (e j).entries))) (λ j. Bool-set _ _) x.all_have_two y.all_have_two i;
    }
