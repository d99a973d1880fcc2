use Rattle.rc_journal.specs.MergeLaws as laws
use Rattle.rc_journal.proofs.laws.own_places_are_numbers.Goals as goal

pub returns : goal.returns
returns c = laws.places_are_numbers
