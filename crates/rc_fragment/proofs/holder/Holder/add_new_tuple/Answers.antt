use Rattle.rc_fragment.proofs.Imports.{refl, subst, HasNoRowOf, HasRowOf, FragmentRows, HasNoRowAt, none_partly, IsRowOf}
use Rattle.rc_fragment.proofs.holder.Holder.add_new_tuple.Given.{Over}
use Rattle.rc_fragment.proofs.holder.Holder.add_new_tuple.Goals.{Else-has}
use Rattle.rc_fragment.proofs.holder.Holder.add_new_tuple.Goals as goal

pub returns-in_default-clause-err : goal.returns-in_default-clause-err
returns-in_default-clause-err g c = none_partly c.args.stripe c.args.class c.args.tuple.now (g.Self.Holder.seen c.args.self.now)

pub returns-then-has-clause-err : goal.returns-then-has-clause-err
returns-then-has-clause-err g c = none_partly c.args.stripe c.args.class c.args.tuple.now (g.Self.Holder.seen c.args.self.now)

pub returns-then-has-clause-there : goal.returns-then-has-clause-there
returns-then-has-clause-there g c e =
    let f : FragmentRows = c.fragment.result.now in
    let row : HasRowOf f.table f.now c.args.edge c.args.tuple.now = subst (IsRowOf f.table f.now c.args.edge c.args.tuple.now) c.if-has.true c.in-Ok.ensures in (
      λ h m at. subst (λ z. HasRowOf z h.now c.args.edge c.args.tuple.now) c.fragment.ensures.table
          (subst (λ z. HasRowOf f.table z c.args.edge c.args.tuple.now) (c.fragment.ensures.now h m at) row),
      refl,
    )

-- where the fragment has no such row, the stripe has none
none : (g : Over) (c : Else-has g) → HasNoRowAt (g.Self.Holder.seen c.args.self.now) c.args.stripe c.args.edge c.args.tuple.now
none g c h m at =
    let f : FragmentRows = c.fragment.result.now in
    let row : HasNoRowOf f.table f.now c.args.edge c.args.tuple.now = subst (IsRowOf f.table f.now c.args.edge c.args.tuple.now) c.if-has.false c.in-Ok.ensures in
    subst (λ z. HasNoRowOf z h.now c.args.edge c.args.tuple.now) c.fragment.ensures.table
    (subst (λ z. HasNoRowOf f.table z c.args.edge c.args.tuple.now) (c.fragment.ensures.now h m at) row)

pub add_tuple-requires-clause-can : goal.add_tuple-requires-clause-can
add_tuple-requires-clause-can g c h m at = c.requires.can h m at (none g (goal.at.add_tuple-requires-clause-can g c).Else-has h m at)

pub returns-clause-none : goal.returns-clause-none
returns-clause-none g c = none g (goal.at.returns-clause-none g c).Else-has
