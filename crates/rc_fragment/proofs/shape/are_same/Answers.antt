use Rattle.rc_fragment.proofs.Imports.{same_bool, values_eq}
use Rattle.rc_edges.specs.ValuesLaws.{same_from_test as values_same, test_from_same as values_test}
use Rattle.rc_fragment.proofs.shape.are_same.Goals as goal

pub returns : goal.returns
returns c = same_bool c.equals.result (values_eq c.args.left c.args.right) (λ t. values_test c.args.left c.args.right (c.equals.ensures.0 t)) (λ t. c.equals.ensures.1 (values_same c.args.left c.args.right t))
