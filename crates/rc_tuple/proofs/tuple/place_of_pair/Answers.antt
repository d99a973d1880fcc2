use Rattle.std.proofs.Common.{◌≡◌, ◌-◌, ◌∙◌, Some, length, sym, ap, arith}
use Rattle.rc_tuple.proofs.Imports.{slice_get, option_copied, insert_end, slice_get_within, put_behind, pair_cmp, pair_order}
use Rattle.rc_tuple.proofs.tuple.place_of_pair.Goals as goal

pub returns-in-Greater : goal.returns-in-Greater
returns-in-Greater c =
    let last : slice_get c.args.pairs.now (length c.args.pairs.now - 1) ≡ Some c.in-Some.last.now =
    sym c.last.ensures.value ∙ ap option_copied c.in-Some.is in
    let within = slice_get_within c.args.pairs.now (length c.args.pairs.now - 1) c.in-Some.last.now last in (
      omega arith,
      put_behind pair_cmp pair_order c.args.pair.now c.in-Some.last.now c.args.pairs.now (length c.args.pairs.now - 1) c.requires last (omega (arith, within)) (sym c.cmp.ensures ∙ c.in-Greater.is)
          ∙ sym (insert_end c.args.pairs.now c.args.pair.now),
    )
