use Rattle.std.proofs.Common.{◌≡◌, ◌-◌, ◌∙◌, Some, length, sym, ap, arith}
use Rattle.rc_tuple.proofs.Imports.{slice_get, option_copied, ltb-true, slice_get_within, put_above}
use Rattle.rc_tuple.proofs.tuple.is_behind.Goals as goal

pub returns-in-Some : goal.returns-in-Some
returns-in-Some c above val =
    let last : slice_get c.args.pairs.now (length c.args.pairs.now - 1) ≡ Some c.in-Some.last.now =
    sym c.last.ensures.value ∙ ap option_copied c.in-Some.is in
    let within = slice_get_within c.args.pairs.now (length c.args.pairs.now - 1) c.in-Some.last.now last in
    put_above c.args.pairs.now c.args.col val c.in-Some.last.now (length c.args.pairs.now - 1) c.requires last (omega (arith, within)) (ltb-true c.in-Some.last.now.0 c.args.col above)
