use Rattle.std.proofs.Common.{List, refl, ap, subst, ◌∙◌}
use Rattle.rc_row.proofs.Imports.{on_err_weaker, on_ok_weaker, with_tuple, ArePartlyAddedOn, CanAddNewTo, HasNoRowIn, HasRowIn, OfHeld, PassSeen, HeldRows}
use Rattle.rc_row.proofs.WholeLemmas.{fact_there, written_there, whole_partly}
use Rattle.rc_row.proofs.pass.Pass.add_new_tuple.Goals as goal

pub add_new_tuple_at-requires-clause-held : goal.add_new_tuple_at-requires-clause-held
add_new_tuple_at-requires-clause-held c = written_there c.self.inside c.self.invariant c.args.self.now c.self.view_is c.args.stripe c.requires.held

pub add_new_tuple_at-requires-clause-can : goal.add_new_tuple_at-requires-clause-can
add_new_tuple_at-requires-clause-can c = fact_there c.self.inside c.self.invariant c.args.self.now c.self.view_is c.args.stripe (CanAddNewTo c.args.class c.args.edge c.args.tuple.now) c.requires.can

pub invariant_of-self : goal.invariant_of-self
invariant_of-self c =
    whole_partly c.add_new_tuple_at.result c.self.inside c.add_new_tuple_at.new.held c.args.stripe c.args.class c.args.tuple.now (with_tuple c.args.class c.args.tuple.now) (λ f. refl) c.self.invariant c.add_new_tuple_at.ensures.ok c.add_new_tuple_at.ensures.err
    c.add_new_tuple_at.ensures.room

pub returns-clause-err : goal.returns-clause-err
returns-clause-err c =
    on_err_weaker c.add_new_tuple_at.result
    (λ partly. record {
      held = subst (λ (s : PassSeen). ArePartlyAddedOn c.args.stripe c.args.class c.args.tuple.now s.held c.add_new_tuple_at.new.held.items) c.self.view_is partly;
      value = ap (λ (s : PassSeen). record s { held = c.add_new_tuple_at.new.held.items }) c.self.view_is;
    })
    c.add_new_tuple_at.ensures.err

pub returns-clause-none : goal.returns-clause-none
returns-clause-none c =
    on_ok_weaker c.add_new_tuple_at.result (λ none. subst (λ (s : PassSeen). OfHeld s.held c.args.stripe (HasNoRowIn c.args.edge c.args.tuple.now)) c.self.view_is none) c.add_new_tuple_at.ensures.none

pub returns-clause-there : goal.returns-clause-there
returns-clause-there c e =
    let there = c.add_new_tuple_at.ensures.there e in (
      subst (λ (s : PassSeen). OfHeld s.held c.args.stripe (HasRowIn c.args.edge c.args.tuple.now)) c.self.view_is there.0,
      ap (λ (s : PassSeen). record s { held = c.add_new_tuple_at.new.held.items }) c.self.view_is
          ∙ ap (λ (hs : List HeldRows). let q : PassSeen = record c.args.self.now { held = hs } in q) (there.1 ∙ ap (λ (s : PassSeen). s.held) c.self.view_is),
    )
