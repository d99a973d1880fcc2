use Rattle.std.proofs.Common.{bytes_eq, sym, subst, ◌∙◌}
use Rattle.std.specs.Cmp.Lexicographic.{texts_ties}
use Rattle.std.proofs.lemmas.List.Filters.{dedup_is}
use Rattle.rc_tuple.specs.RisingSet.{IsRising}
use Rattle.rc_tuple.specs.RisingSetLaws.{kept_once, number_lists_order}
use Rattle.rc_values.specs.Ranks.{text_cmp}
use Rattle.rc_values.specs.RanksLaws.{rising_texts_of}
use Rattle.rc_values.proofs.ranks.Ranks.build.Goals as goal

pub returns : goal.returns
returns c =
    dedup_is _ _ _ c.dedup.ensures.filtered ∙ kept_once text_cmp number_lists_order bytes_eq texts_ties c.args.texts.items _ c.sort.ensures.permutation c.in_ok-sort.ensures.sorted

pub invariant_of-result : goal.invariant_of-result
invariant_of-result c = subst (IsRising text_cmp) (sym (returns c)) (rising_texts_of c.args.texts.items)
