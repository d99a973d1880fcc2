use Rattle.std.proofs.Common.{◌≡◌, ◌+◌, ◌-◌, ◌<◌, ℕ, length, get_or, refl, subst, arith}
use Rattle.std.specs.Prelude.{List, [], ◌∷◌, zero, suc, false}
use Rattle.rc_fragment.proofs.Imports.{Note, get_or_in}
use Rattle.rc_fragment.proofs.RevertLemmas.{IsUndoing, undoing_first, undoing_last, undoing_next}
use Rattle.rc_fragment.proofs.places.put_back_places.Goals as goal

-- what stands where there is no note
abbrev no_note : Note
no_note = record { row = record { edge = 0; start = 0; key_start = 0; extra_start = 0; end = 0 }; took_out = false; count = 0 }

-- a place within a list has its element whatever stands behind the list
own_default : (notes : List Note) (i : ℕ) (d : Note) → i < length notes → get_or notes i d ≡ get_or notes i (get_or notes i d)
own_default [] i d l = absurd (omega (arith, l))
own_default (n ∷ notes) zero d l = refl
own_default (n ∷ notes) (suc i) d l = own_default notes i d (omega (arith, l))

pub loop-at-init : goal.loop-at-init
loop-at-init c = undoing_first c.args.edges.now.items c.args.notes.now c.args.values.now (length c.args.notes.now) refl c.requires

pub put_back_place-requires-clause-noted : goal.put_back_place-requires-clause-noted
put_back_place-requires-clause-noted c =
    let some = c.loop-at-test.true in
    c.loop-at.invariant.noted _ (get_or_in c.args.notes.now (c.loop-at.at - 1) no_note (omega (arith, some, c.loop-at.auto.at)))

pub loop-at-preserved : goal.loop-at-preserved
loop-at-preserved c =
    let some = c.loop-at-test.true in
    let i : ℕ = c.loop-at.at - 1 in
    let next : c.loop-at.at ≡ i + 1 = omega (arith, some) in
    undoing_next c.args.edges.now.items c.loop-at.edges.items c.put_back_place.new.edges.items c.args.notes.now c.args.values.now i (get_or c.args.notes.now i no_note) (omega (arith, some, c.loop-at.auto.at))
    (own_default c.args.notes.now i no_note (omega (arith, some, c.loop-at.auto.at))) (subst (IsUndoing c.args.edges.now.items c.loop-at.edges.items c.args.notes.now c.args.values.now) next c.loop-at.invariant)
    c.put_back_place.ensures

pub returns-clause-now : goal.returns-clause-now
returns-clause-now c =
    let none = c.loop-at-test.false in
    let zero_left : c.loop-at.at ≡ 0 = omega (arith, none) in
    let last : IsUndoing c.args.edges.now.items c.loop-at.edges.items c.args.notes.now c.args.values.now 0 = subst (IsUndoing c.args.edges.now.items c.loop-at.edges.items c.args.notes.now c.args.values.now) zero_left c.loop-at.invariant in
    last.taken

pub returns-clause-tombstones : goal.returns-clause-tombstones
returns-clause-tombstones c =
    let none = c.loop-at-test.false in
    let zero_left : c.loop-at.at ≡ 0 = omega (arith, none) in
    undoing_last c.args.edges.now.items c.loop-at.edges.items c.args.notes.now c.args.values.now (subst (IsUndoing c.args.edges.now.items c.loop-at.edges.items c.args.notes.now c.args.values.now) zero_left c.loop-at.invariant)
