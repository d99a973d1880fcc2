use Rattle.std.proofs.Common.{◌≡◌, Some, length, refl, sym, ap, ◌∙◌}
use Rattle.rc_fragment.proofs.Imports.{eq-eqb, eqb-true, false≢true, IfSome_then}
use Rattle.rc_fragment.proofs.SourceTableLemmas.{on_some_any, root-changed, root-here, root-other}
use Rattle.rc_fragment.specs.declared.source_table.SourceTable.TheVariants as table
use Rattle.rc_fragment.proofs.source_table.SourceTable.get_mut.Goals as goal

pub returns-then-is_empty : goal.returns-then-is_empty
returns-then-is_empty c =
    let place = c.in-Root.place in
    let source = c.args.source.now in
    let none : length source ≡ 0 = eqb-true _ 0 (sym c.is_empty.ensures ∙ c.if-is_empty.true) in
    rw c.in-Root.is (
      (refl, (λ w. on_some_any c.as_mut.result record { containers = root-changed place source (Some w) none; width = refl }), refl),
      record { writes_back = tt; value = (rw c.in-Root.place-is at c.as_mut.ensures.value) ∙ sym (root-here place source none) },
    )

pub returns-else-is_empty : goal.returns-else-is_empty
returns-else-is_empty c =
    rw c.in-Root.is (
      (refl, (λ w. tt), refl),
      record { writes_back = tt; value = sym (root-other c.in-Root.place c.args.source.now (λ h. false≢true (sym (sym c.is_empty.ensures ∙ c.if-is_empty.false) ∙ eq-eqb _ 0 h))) },
    )

pub returns-in-Keyed : goal.returns-in-Keyed
returns-in-Keyed c =
    let t = c.in-Keyed in
    rw t.is (
      (
        refl,
        (λ w. IfSome_then c.get_mut.result (rw t.table-is at c.get_mut.follows.holds w) (λ x s. record { containers = s.entries; width = ap Some s.width })),
        ap table.Keyed (rw t.table-is at c.get_mut.follows.holds-at-none),
      ),
      record { writes_back = tt; value = rw t.table-is at c.get_mut.ensures.value },
    )
