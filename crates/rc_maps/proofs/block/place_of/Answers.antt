use Rattle.std.proofs.Common.{◌≡◌, ◌∷◌, [], None, sym, subst}
use Rattle.std.specs.FinMap as fin
use Rattle.rc_maps.proofs.Imports.{rows_in, got_none, items_of, none_other}
use Rattle.rc_maps.proofs.block.place_of.Goals as goal

pub returns-in_default-clause-none : goal.returns-in_default-clause-none
returns-in_default-clause-none g c = none_other c.args.rows.now c.args.key.now c.in_default.ensures.other

pub returns-in-Err-clause-none : goal.returns-in-Err-clause-none
returns-in-Err-clause-none g c =
    subst (λ key. fin.get (rows_in (items_of c.args.rows.now)) key ≡ None) (sym c.in-Some.ensures.one)
    (got_none (c.in-Some.key.now ∷ []) (items_of c.args.rows.now) c.in-Err.field-0 c.requires c.in-Err.ensures.gap)
