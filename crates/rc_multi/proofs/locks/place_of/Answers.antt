use Rattle.std.proofs.Common.{◌≡◌, ◌<◌, ap, sym, subst, get_or, length, ◌∙◌}
use Rattle.rc_multi.proofs.Imports.{nat_cmp, get_or-map, length-map, Shared, StripeLock, stripes_of}
use Rattle.rc_multi.proofs.ClassLemmas.{place_before, place_behind, place_there}
use Rattle.rc_multi.proofs.locks.place_of.Goals.{After-cmp}
use Rattle.rc_multi.proofs.locks.place_of.Goals as goal

-- the stripe of this lock is at its place among the stripes
inside : (c : After-cmp) → c.loop-at.at < length (stripes_of c.args.locks.now)
inside c = subst (λ n. c.loop-at.at < n) (sym (length-map c.args.locks.now (λ (l : StripeLock). l.0))) c.loop-at-test.true

compared : (c : After-cmp) → nat_cmp c.args.stripe (get_or (stripes_of c.args.locks.now) c.loop-at.at 0) ≡ c.cmp.result
compared c =
    let none : StripeLock = (0, Shared) in
    ap (nat_cmp c.args.stripe) (get_or-map (λ (l : StripeLock). l.0) c.args.locks.now c.loop-at.at none 0 c.loop-at-test.true) ∙ sym c.cmp.ensures

pub returns-in-Less : goal.returns-in-Less
returns-in-Less c =
    let at = (goal.at.returns-in-Less c).After-cmp in
    place_before c.args.stripe (stripes_of c.args.locks.now) c.loop-at.at 0 (inside at) c.loop-at.invariant (compared at ∙ c.in-Less.is)

pub returns-in-Equal : goal.returns-in-Equal
returns-in-Equal c =
    let at = (goal.at.returns-in-Equal c).After-cmp in
    place_there c.args.stripe (stripes_of c.args.locks.now) c.loop-at.at 0 (inside at) c.loop-at.invariant (compared at ∙ c.in-Equal.is)

pub loop-at-preserved : goal.loop-at-preserved
loop-at-preserved c =
    let at = (goal.at.loop-at-preserved c).After-cmp in
    place_behind c.args.stripe (stripes_of c.args.locks.now) c.loop-at.at 0 (inside at) c.loop-at.invariant (compared at ∙ c.in-Greater.is)
