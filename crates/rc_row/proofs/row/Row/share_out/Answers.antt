use Rattle.std.proofs.Common.{ℕ, ◌∷◌, sym, ap, ◌∙◌, subst}
use Rattle.rc_row.proofs.Imports.{KeptRows, Me, rest, View, Handed, Slot, kept_in, HasInFront, RowSeen}
use Rattle.rc_row.proofs.AloneLemmas.{front_kept}
use Rattle.rc_row.proofs.row.Row.share_out.Goals as goal

pub exchange-slot-requires : goal.exchange-slot-requires
exchange-slot-requires c =
    let s = c.requires.slot in
    let me = c.args.seat.now.me.1 in
    let x = kept_in s.1.handed s.0 in
    (c.requires.row ∙ sym (ap (λ (r : RowSeen). r.table) c.self.view_is), (x, s.1.is ∙ ap (λ (i : ℕ). (i, x) ∷ rest me) (sym c.slot_place-place.ensures)))

pub into_keep-requires : goal.into_keep-requires
into_keep-requires c =
    let s = c.requires.slot in
    (s.1.handed, s.0, front_kept c.args.seat.now.me.1 c.slot_place-place.result c.args.stripe c.exchange-slot.result s.0 s.1 c.exchange-slot.ensures.2)

pub returns-in-Ok-clause-slot : goal.returns-in-Ok-clause-slot
returns-in-Ok-clause-slot c = λ keep h.
    let got = c.in-Ok.ensures.kept ∙ c.into_keep.ensures h.handed keep (front_kept c.args.seat.now.me.1 c.slot_place-place.result c.args.stripe c.exchange-slot.result keep h c.exchange-slot.ensures.2) in
    let behind = ap (λ (m : Me Slot View). rest m.1) c.exchange-slot.ensures.3 in
    ap (λ (m : Me Slot View). m.1) c.put_in.ensures.2 ∙ (λ i. (c.slot_place-place.ensures i, Handed (got i)) ∷ behind i)

pub returns-in-Ok-clause-copy : goal.returns-in-Ok-clause-copy
returns-in-Ok-clause-copy c =
    let s = c.requires.slot in
    let got = c.in-Ok.ensures.shared ∙ c.into_keep.ensures s.1.handed s.0 (front_kept c.args.seat.now.me.1 c.slot_place-place.result c.args.stripe c.exchange-slot.result s.0 s.1 c.exchange-slot.ensures.2) in
    subst (λ (k : KeptRows). HasInFront c.args.stripe k c.args.seat.now.me.1) (sym got) s.1

pub returns-in-Err-clause-slot : goal.returns-in-Err-clause-slot
returns-in-Err-clause-slot c = λ keep h.
    let got = c.in-Err.ensures.err ∙ c.into_keep.ensures h.handed keep (front_kept c.args.seat.now.me.1 c.slot_place-place.result c.args.stripe c.exchange-slot.result keep h c.exchange-slot.ensures.2) in
    let behind = ap (λ (m : Me Slot View). rest m.1) c.exchange-slot.ensures.3 in
    ap (λ (m : Me Slot View). m.1) c.put_in-in-Err.ensures.2 ∙ (λ i. (c.slot_place-place.ensures i, Handed (got i)) ∷ behind i)
