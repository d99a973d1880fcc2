use Rattle.std.proofs.Common.{◌≤◌, ℕ, List, ◌∷◌, ◌++◌, length, sym, ap, ◌∙◌, subst, arith}
use Rattle.rc_row.proofs.Imports.{Me, rest, View, Empty, HeldRows, Slot, kept_in, slot_place, hands_out, own_hands, RowSeen}
use Rattle.rc_row.proofs.AloneLemmas.{locked_apart, locked_handed, locked_left, locked_some}
use Rattle.rc_row.proofs.GiveLemmas.{front_of}
use Rattle.rc_row.proofs.row.Row.take_alone.Goals as goal

pub exchange-requires : goal.exchange-requires
exchange-requires c =
    let s = c.requires.slots in
    let n = c.args.self.now.key.passes in
    let p = c.args.stripe in
    let me = c.args.seat.now.me.1 in
    let x = kept_in s.1 s.2 in (
      c.requires.row ∙ sym (ap (λ (r : RowSeen). r.table) c.self.view_is),
      (x, front_of me (own_hands n p s.3 ++ hands_out n s.0 c.args.held.now.items) (slot_place p, x) s.4.are ∙ ap (λ (i : ℕ). (i, x) ∷ rest me) (sym c.slot_place.ensures)),
    )

pub unreachable-requires : goal.unreachable-requires
unreachable-requires c =
    let s = c.requires.slots in
    let n = c.args.self.now.key.passes in
    locked_some n c.args.stripe s.1 s.2 s.3 c.args.seat.now.me.1 (hands_out n s.0 c.args.held.now.items) s.4 c.exchange.result (c.exchange.ensures.2 ∙ ap (λ (i : ℕ). (i, c.exchange.result) ∷ rest c.args.seat.now.me.1) c.slot_place.ensures) c.in-Empty.is

pub slots_out-others-requires : goal.slots_out-others-requires
slots_out-others-requires c =
    let few = c.requires.few in
    let same = ap (λ (hs : List HeldRows). length hs) c.as_slice.ensures.value in
    let passes = subst (λ (r : RowSeen). r.key.passes ≤ 255) c.self.view_is c.self.invariant.passes in
    let count = c.pass_count.ensures in
    (omega arith, omega arith)

pub drop_pointers-requires-clause-slots : goal.drop_pointers-requires-clause-slots
drop_pointers-requires-clause-slots c =
    let s = c.requires.slots in
    let n = c.args.self.now.key.passes in
    let others = hands_out n s.0 c.args.held.now.items in
    (s.3, others, locked_left n c.args.stripe s.1 s.2 s.3 c.args.seat.now.me.1 others s.4 c.exchange.result (c.exchange.ensures.2 ∙ ap (λ (i : ℕ). (i, c.exchange.result) ∷ rest c.args.seat.now.me.1) c.slot_place.ensures) c.exchange.new.seat.me.1 (ap (λ (m : Me Slot View). m.1) c.exchange.ensures.3 ∙ ap (λ (i : ℕ). (i, Empty) ∷ rest c.args.seat.now.me.1) c.slot_place.ensures))

pub returns-in-Apart-clause-alone : goal.returns-in-Apart-clause-alone
returns-in-Apart-clause-alone c =
    let n = c.args.self.now.key.passes in
    λ k handed keep owns l. locked_apart n c.args.stripe handed keep owns c.args.seat.now.me.1 (hands_out n k c.args.held.now.items) l c.exchange.result (c.exchange.ensures.2 ∙ ap (λ (i : ℕ). (i, c.exchange.result) ∷ rest c.args.seat.now.me.1) c.slot_place.ensures) c.in-Apart.keep c.in-Apart.is c.exchange.new.seat.me.1 (ap (λ (m : Me Slot View). m.1) c.exchange.ensures.3 ∙ ap (λ (i : ℕ). (i, Empty) ∷ rest c.args.seat.now.me.1) c.slot_place.ensures)

pub returns-in-Handed-clause-alone : goal.returns-in-Handed-clause-alone
returns-in-Handed-clause-alone c =
    let n = c.args.self.now.key.passes in
    let p = c.args.stripe in
    let held = c.args.held.now.items in
    λ k handed keep owns l. (
      locked_handed n p handed keep owns c.args.seat.now.me.1 (hands_out n k held) l c.exchange.result (c.exchange.ensures.2 ∙ ap (λ (i : ℕ). (i, c.exchange.result) ∷ rest c.args.seat.now.me.1) c.slot_place.ensures) c.in-Handed.keep c.in-Handed.is,
      c.drop_pointers.ensures.slots owns (hands_out n k held)
          (c.slots_out-others.ensures k ∙ (λ i. length (hands_out (c.pass_count.ensures i) k (c.as_slice.ensures.value i))))
          (locked_left n p handed keep owns c.args.seat.now.me.1 (hands_out n k held) l c.exchange.result (c.exchange.ensures.2 ∙ ap (λ (i : ℕ). (i, c.exchange.result) ∷ rest c.args.seat.now.me.1) c.slot_place.ensures) c.exchange.new.seat.me.1 (ap (λ (m : Me Slot View). m.1) c.exchange.ensures.3 ∙ ap (λ (i : ℕ). (i, Empty) ∷ rest c.args.seat.now.me.1) c.slot_place.ensures)),
    )
