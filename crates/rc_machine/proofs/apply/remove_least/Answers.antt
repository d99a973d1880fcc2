use Rattle.std.proofs.Common.{◌≡◌, ◌<◌, [], get_or, length, subst, sym, ◌∙◌, arith}
use Rattle.rc_machine.proofs.Imports.{eqb-false, In, get_or_in}
use Rattle.rc_machine.proofs.StripeLemmas.{no_stripes}
use Rattle.rc_machine.proofs.apply.remove_least.Given.{Over}
use Rattle.rc_machine.proofs.apply.remove_least.Goals.{In_ok-removed}
use Rattle.rc_machine.proofs.apply.remove_least.Goals as goal

-- the tuple is the least of the bindings
least : (g : Over) (c : In_ok-removed g) → c.in_ok-removed.removed ≡ get_or c.args.space.now.bindings.tuples 0 []
least g c = c.in_ok-removed.ensures ∙ c.get.ensures.tuple

some : (g : Over) (c : In_ok-removed g) → 0 < length c.args.space.now.bindings.tuples
some g c = let n = eqb-false (length c.args.space.now.bindings.tuples) 0 (sym c.is_empty.ensures ∙ c.if-is_empty.false) in omega (arith, n)

pub sub_rows-requires-clause-can : goal.sub_rows-requires-clause-can
sub_rows-requires-clause-can g c =
    let at = (goal.at.sub_rows-requires-clause-can g c).In_ok-removed in
    c.requires.can c.in_ok-removed.removed (subst (λ z. In z c.args.space.now.bindings.tuples) (sym (least g at)) (get_or_in c.args.space.now.bindings.tuples 0 [] (some g at)))

pub sub_rows-requires-clause-stripes : goal.sub_rows-requires-clause-stripes
sub_rows-requires-clause-stripes g c = no_stripes c.args.compiled.now.spec c.in_ok-removed.removed _ c.clear.ensures.items
