-- The stripes of lock classes. All stripes are numbered class by class; those of a class are its band. (PLDI 2012, lock striping.)
use Rattle.std.specs.Prelude.{ℕ, ◌+◌, ◌*◌, ◌%◌, ◌^◌, List, length}
use Rattle.rc_spec.specs.Imports.{fold, Pairs, value}
use Rattle.rc_spec.specs.declared.items.Class.{Class}
use Rattle.rc_spec.specs.declared.spec.Spec.{Spec}
use Rattle.rc_spec.specs.Placement.{class_at, stripes_of_first}

-- a hash of 32 bits with one more value
unfoldable pub mix : ℕ → ℕ → ℕ
mix hash value = (hash * 31 + value % 2 ^ 32) % 2 ^ 32

-- the hash of a tuple's values at the columns
abbrev pub hash_of : List ℕ → Pairs → ℕ
hash_of cols t = fold (λ hash c. mix hash (value t c)) 7 cols

-- the stripe of a class, from 0, on which a tuple falls
abbrev pub stripe_of : Class → Pairs → ℕ
stripe_of class t = hash_of class.cols t % class.stripes

-- where the class's band begins
abbrev pub band_start : Spec → ℕ → ℕ
band_start spec c = stripes_of_first spec c

abbrev pub stripe_total : Spec → ℕ
stripe_total spec = stripes_of_first spec (length spec.classes)

-- the physical stripe of the class on which a tuple falls, numbered over all classes
abbrev pub physical_stripe : Spec → ℕ → Pairs → ℕ
physical_stripe spec c t = band_start spec c + stripe_of (class_at spec c) t
