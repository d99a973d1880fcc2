use Rattle.rc_inline.specs.PlacingLaws as laws
use Rattle.rc_inline.proofs.laws.placing_shares_classes.Goals as goal

pub returns-clause-columns : goal.returns-clause-columns
returns-clause-columns c = laws.striping_stays

pub returns-clause-tested : goal.returns-clause-tested
returns-clause-tested c = laws.order_tested

pub returns-clause-shared : goal.returns-clause-shared
returns-clause-shared c = laws.classes_shared

pub returns-clause-widest : goal.returns-clause-widest
returns-clause-widest c = laws.classes_widest

pub returns-clause-stay : goal.returns-clause-stay
returns-clause-stay c = laws.unordered_stay
