use Rattle.std.proofs.Common.{sym, ◌∙◌, ap, subst}
use Rattle.rc_tuple.proofs.Imports.{nat_cmp, gather, nat_order, gather-rising, IsTuple, cols_of}
use Rattle.rc_tuple.proofs.tuple.Tuple.cols.Goals as goal

pub columns_of-requires : goal.columns_of-requires
columns_of-requires c = (subst IsTuple (sym c.deref.ensures.value) c.self.invariant).columns

pub returns-clause-cols : goal.returns-clause-cols
returns-clause-cols c =
    c.columns_of.ensures ∙ ap (λ l. gather nat_cmp (cols_of l)) (c.deref.ensures.value ∙ c.self.view_is)
    ∙ gather-rising nat_cmp nat_order (cols_of c.args.self.now) (subst IsTuple c.self.view_is c.self.invariant).rising
