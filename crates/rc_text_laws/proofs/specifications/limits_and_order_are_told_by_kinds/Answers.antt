use Rattle.rc_text_laws.specs.KindsLaws.{limit_told, order_told, too_many, out_of_order, in_its_place, few_lines}
use Rattle.rc_text_laws.proofs.specifications.limits_and_order_are_told_by_kinds.Goals as goal

pub returns-clause-limit : goal.returns-clause-limit
returns-clause-limit c = limit_told

pub returns-clause-order : goal.returns-clause-order
returns-clause-order c = order_told

pub returns-clause-too_many : goal.returns-clause-too_many
returns-clause-too_many c = too_many

pub returns-clause-out_of_order : goal.returns-clause-out_of_order
returns-clause-out_of_order c = out_of_order

pub returns-clause-taken : goal.returns-clause-taken
returns-clause-taken c = in_its_place

pub returns-clause-few : goal.returns-clause-few
returns-clause-few c = few_lines
