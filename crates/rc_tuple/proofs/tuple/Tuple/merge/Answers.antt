use Rattle.std.proofs.Common.{◌≡◌, ◌++◌, sym, ◌∙◌, ap, subst}
use Rattle.rc_tuple.proofs.Imports.{gather, IsTuple, pair_cmp, merge, rising_pairs, IsTuple-merge, agree_from}
use Rattle.rc_tuple.proofs.tuple.Tuple.merge.Goals as goal

pub merged_pairs-requires : goal.merged_pairs-requires
merged_pairs-requires c = rising_pairs c.deref.result.now (subst IsTuple (sym c.deref.ensures.value) c.self.invariant)

pub invariant_of-result : goal.invariant_of-result
invariant_of-result c =
    let whole : c.in_ok-pairs.pairs.items ≡ merge c.args.self.now c.args.other.now =
    c.in_ok-pairs.ensures ∙ ap (λ l. gather pair_cmp (l ++ c.deref-2.result.now)) (c.deref.ensures.value ∙ c.self.view_is)
    ∙ ap (λ l. gather pair_cmp (c.args.self.now ++ l)) (c.deref-2.ensures.value ∙ c.other.view_is) in
    subst IsTuple (sym whole)
    (IsTuple-merge c.args.self.now c.args.other.now (subst IsTuple c.self.view_is c.self.invariant) (subst IsTuple c.other.view_is c.other.invariant)
    (agree_from c.args.self.now c.args.other.now (sym c.if-not-agrees.ensures)))
