use Rattle.std.proofs.Common.{◌≡◌, ◌-◌, ℕ, [], ◌∷◌, ◌++◌, sym, ap, ◌∙◌, arith}
use Rattle.rc_row.proofs.Imports.{Me, rest, turned, View, Empty, Slot, slot_place, RowSeen}
use Rattle.rc_row.proofs.AloneLemmas.{emptied_first, emptied_front, emptied_last, emptied_next}
use Rattle.rc_row.proofs.OwnLemmas.{emptying}
use Rattle.rc_row.proofs.row.Row.drop_pointers.Goals as goal

pub loop-pass-init : goal.loop-pass-init
loop-pass-init c =
    let n = c.args.self.now.key.passes in
    let p = c.args.stripe in
    let then = c.turn.ensures in
    let count = c.pass_count-pass.ensures in (
      then.0,
      then.1,
      ap (λ (m : Me Slot View). m.0) then.2,
      omega arith,
      (λ owns more e. emptied_first n p owns more c.args.seat.now.me.1 c.turn.new.self.me.1 e (ap (λ (m : Me Slot View). m.1) then.2)
          ∙ ap (λ (k : ℕ). emptying n p owns Empty (more ++ (slot_place p, Empty) ∷ []) (n - k)) (sym count)),
    )

pub exchange-requires : goal.exchange-requires
exchange-requires c =
    let inv = c.loop-pass.invariant in
    let some_left = c.loop-pass-test.true in
    let s = c.requires.slots in
    let n = c.args.self.now.key.passes in
    let p = c.args.stripe in
    let i = c.loop-pass.pass in
    let me = c.loop-pass.seat.me.1 in
    let front = emptied_front n p s.0 s.1 me [] i (omega arith) inv.3 (inv.4 s.0 s.1 s.2) in
    (inv.0 ∙ c.requires.row ∙ sym (ap (λ (r : RowSeen). r.table) c.self.view_is), (s.0 (i - 1), front ∙ ap (λ (k : ℕ). (k, s.0 (i - 1)) ∷ rest me) (sym c.own_place-own.ensures)))

pub loop-pass-preserved : goal.loop-pass-preserved
loop-pass-preserved c =
    let inv = c.loop-pass.invariant in
    let some_left = c.loop-pass-test.true in
    let n = c.args.self.now.key.passes in
    let p = c.args.stripe in
    let i = c.loop-pass.pass in
    let me = c.loop-pass.seat.me.1 in
    let x = c.exchange.ensures in
    let then = c.turn-in-loop-pass.ensures in
    let few = inv.3 in
    let now = ap (λ (m : Me Slot View). m.1) then.2 ∙ ap (λ (m : Me Slot View). turned m.1) x.3 ∙ ap (λ (k : ℕ). turned ((k, Empty) ∷ rest me)) c.own_place-own.ensures in (
      then.0 ∙ x.0 ∙ inv.0,
      then.1 ∙ x.1 ∙ inv.1,
      ap (λ (m : Me Slot View). m.0) then.2 ∙ ap (λ (m : Me Slot View). m.0) x.3 ∙ inv.2,
      omega arith,
      (λ owns more e. emptied_next n p owns more me c.turn-in-loop-pass.new.self.me.1 i (omega arith) inv.3 (inv.4 owns more e) now),
    )

pub returns-clause-slots : goal.returns-clause-slots
returns-clause-slots c =
    let inv = c.loop-pass.invariant in
    let ended = c.loop-pass-test.false in
    let none_left : c.loop-pass.pass ≡ 0 = omega arith in
    let n = c.args.self.now.key.passes in
    let p = c.args.stripe in
    λ owns more many e. emptied_last n p owns more c.loop-pass.seat.me.1 c.turn_by.new.seat.me.1 c.args.others many
    (inv.4 owns more e ∙ ap (λ (k : ℕ). emptying n p owns Empty (more ++ (slot_place p, Empty) ∷ []) (n - k)) none_left) (ap (λ (m : Me Slot View). m.1) c.turn_by.ensures.2)
