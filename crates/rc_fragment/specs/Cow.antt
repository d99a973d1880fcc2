-- What is seen of a fragment that is copied before its first change.
use Rattle.rc_fragment.specs.FragmentRows.{FragmentRows}
use Rattle.rc_fragment.specs.Keep.{at_rest}
use Rattle.rc_fragment.specs.declared.cow.CowFragment.TheInside.{Inside}
use Rattle.rc_fragment.specs.declared.cow.Possession.{Possession}
use Rattle.rc_fragment.specs.declared.cow.Possession.TheVariants.{Alone, Kept}

-- the fragment that is had: what others may have has no change pending
abbrev pub had_in : Possession → FragmentRows
had_in (Alone fragment) = fragment
had_in (Kept keep) = at_rest keep

abbrev pub cow_seen : Inside → FragmentRows
cow_seen a = had_in a.possession
