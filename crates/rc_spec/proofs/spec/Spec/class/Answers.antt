use Rattle.rc_spec.proofs.Imports.{length, subst, Class, no_class, at_found, class_among, IsSetBelow}
use Rattle.rc_spec.proofs.spec.Spec.class.Goals as goal

pub returns-clause-known : goal.returns-clause-known
returns-clause-known c = λ range.
    subst (λ (x : Class). IsSetBelow (length c.args.self.now.columns) x.cols)
    (at_found c.list.result.now c.args.self.now.classes c.args.number no_class c.index-list-number.result c.list.ensures c.requires c.index-list-number.is)
    (class_among c.args.self.now c.args.number range c.requires)
