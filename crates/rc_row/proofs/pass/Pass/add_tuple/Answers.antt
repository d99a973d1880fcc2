use Rattle.rc_row.proofs.Imports.{refl, ap, subst, on_err_weaker, with_tuple, ArePartlyAddedOn, CanAddTo, PassSeen}
use Rattle.rc_row.proofs.WholeLemmas.{fact_there, written_there, whole_partly}
use Rattle.rc_row.proofs.pass.Pass.add_tuple.Goals as goal

pub add_tuple_at-requires-clause-held : goal.add_tuple_at-requires-clause-held
add_tuple_at-requires-clause-held c = written_there c.self.inside c.self.invariant c.args.self.now c.self.view_is c.args.stripe c.requires.held

pub add_tuple_at-requires-clause-can : goal.add_tuple_at-requires-clause-can
add_tuple_at-requires-clause-can c = fact_there c.self.inside c.self.invariant c.args.self.now c.self.view_is c.args.stripe (CanAddTo c.args.class c.args.tuple.now) c.requires.can

pub invariant_of-self : goal.invariant_of-self
invariant_of-self c =
    whole_partly c.add_tuple_at.result c.self.inside c.add_tuple_at.new.held c.args.stripe c.args.class c.args.tuple.now (with_tuple c.args.class c.args.tuple.now) (λ f. refl) c.self.invariant c.add_tuple_at.ensures.ok c.add_tuple_at.ensures.err
    c.add_tuple_at.ensures.room

pub returns-clause-err : goal.returns-clause-err
returns-clause-err c =
    on_err_weaker c.add_tuple_at.result
    (λ partly. record {
      held = subst (λ (s : PassSeen). ArePartlyAddedOn c.args.stripe c.args.class c.args.tuple.now s.held c.add_tuple_at.new.held.items) c.self.view_is partly;
      value = ap (λ (s : PassSeen). record s { held = c.add_tuple_at.new.held.items }) c.self.view_is;
    })
    c.add_tuple_at.ensures.err
