use Rattle.std.proofs.Common.{◌≡◌, ◌≤◌, ℕ, suc, ◌∷◌, ◌++◌, None, drop, take, sym, refl, ap, ◌∙◌, subst, arith}
use Rattle.rc_row.proofs.Imports.{released, rows_of_hold, Me, rest, View, Inside, Empty, HeldRows, Slot, own_place, pass_view, standing_of, hands_out, pointer_in, turned_times, IsPassOf, RowSeen, spec_of, with_core, passes_in}
use Rattle.rc_row.proofs.TurnLemmas.{back_as, count_as, place_inside, read_here, turned_last}
use Rattle.rc_row.proofs.GiveLemmas.{front_of, front_shared, left_here, lent_here, may_leave, own_of}
use Rattle.rc_row.proofs.StepLemmas.{KeepsOwn, pass_of_without, seen_without, whole_without}
use Rattle.rc_row.proofs.WholeLemmas.{few_all, out_there, passes_there, rising_there, shared_there}
use Rattle.rc_row.proofs.row.Row.unshare.Goals as goal

pub place_of-at-requires-clause-there : goal.place_of-at-requires-clause-there
place_of-at-requires-clause-there c = shared_there c.pass.inside c.pass.invariant c.args.pass.now c.pass.view_is c.args.stripe c.requires.held

pub place_of-at-requires-clause-rising : goal.place_of-at-requires-clause-rising
place_of-at-requires-clause-rising c = rising_there c.pass.inside c.pass.invariant

pub turns_for-above-requires-clause-there : goal.turns_for-above-requires-clause-there
turns_for-above-requires-clause-there c = place_inside c.pass.inside.held.items c.args.stripe c.place_of-at.result c.place_of-at.ensures

pub turns_for-above-requires-clause-few : goal.turns_for-above-requires-clause-few
turns_for-above-requires-clause-few c =
    let few = subst (λ (r : RowSeen). r.key.passes ≤ 255) c.self.view_is c.self.invariant.passes in
    (few_all c.pass.inside c.pass.invariant c.args.pass.now c.pass.view_is c.self.inside c.args.self.now c.self.invariant c.self.view_is c.requires.pass, omega arith)

-- ---- once its slots are in front

pub lodge-requires-clause-slot : goal.lodge-requires-clause-slot
lodge-requires-clause-slot c =
    let n = c.args.self.now.key.passes in
    let h = c.place_of-at.ensures in
    let others = hands_out n c.pass.inside.number h.before ++ hands_out n c.pass.inside.number h.after in
    front_of c.turn_by.new.seat.me.1 others (own_place c.pass.inside.number c.args.stripe, Empty)
    (front_shared c.pass.inside c.pass.invariant c.args.pass.now c.pass.view_is c.args.stripe c.place_of-at.result c.place_of-at.ensures c.args.self.now.key.passes (out_there c.pass.inside c.pass.invariant c.args.pass.now c.pass.view_is c.self.inside c.args.self.now c.self.invariant c.self.view_is c.requires.pass) c.turns_for-above.result.0 (count_as c.pass_count.result c.args.self.now.key.passes c.pass.inside.number c.turns_for-above.result.0 (drop (suc c.place_of-at.result) c.pass.inside.held.items) c.pass_count.ensures (c.turns_for-above.ensures.front c.pass.inside.number)) c.turn_by.new.seat.me.1 (ap (λ (m : Me Slot View). m.1) c.turn_by.ensures.2) c.requires.held)
    ∙ ap (λ (i : ℕ). (i, Empty) ∷ rest c.turn_by.new.seat.me.1) (sym c.own_place.ensures)

-- ---- once its pointer is in its own slot

pub leave_step-requires-clause-pass : goal.leave_step-requires-clause-pass
leave_step-requires-clause-pass c =
    let p = c.args.stripe in
    let row = c.args.self.now in
    let at = c.place_of-at.result in
    let h = c.place_of-at.ensures in
    let same = ap (λ (m : Me Slot View). m.0) c.lodge.ensures.2 ∙ ap (λ (m : Me Slot View). m.0) c.turn_by.ensures.2 in
    let v = c.lodge.new.seat.me.0 in
    let place = c.own_place.ensures ∙ ap (λ (k : ℕ). own_place k p) (c.pass.invariant.agrees.number_is ∙ ap (λ (w : View). (standing_of w).core.number) (sym same)) in
    let fragment = ap (λ (x : HeldRows). x.fragment) (c.take_at.ensures.value ∙ read_here c.pass.inside.held.items p at h c.take_at.result) in
    let own = pointer_in c.into_kept-pointer.result in
    let slots = ap (λ (m : Me Slot View). m.1) c.lodge.ensures.2 ∙ ap (λ (i : ℕ). (i, own) ∷ rest c.turn_by.new.seat.me.1) place in (
      None,
      same ∙ c.pass.invariant.agrees.view_is ∙ ap (λ (w : View). pass_view (standing_of w)) (sym same),
      may_leave row.key (standing_of v).core p own c.lodge.new.seat.me.1 (front_of c.lodge.new.seat.me.1 (rest c.turn_by.new.seat.me.1) (own_place (standing_of v).core.number p, own) slots)
          (own_of (spec_of row) (rows_of_hold (standing_of v).core.held p) c.take_at.result.fragment c.into_kept-pointer.result
          (λ keep lent. lent_here c.pass.inside c.pass.invariant c.args.pass.now c.pass.view_is p at h (spec_of row) c.take_at.result.fragment v keep fragment lent c.requires.pass.shapes same) c.into_kept-pointer.ensures),
    )

-- ---- once the stripe is given back

abbrev new : goal.After-turn_by-2 → Inside
new c = record c.pass.inside { held = c.take_at.new.held; seat = c.turn_by-2.new.seat }

keeps : (c : goal.After-turn_by-2) → KeepsOwn c.pass.inside (new c)
keeps c = record {
  number = refl;
  seen = refl;
  made = refl;
  entries = refl;
  table = c.turn_by-2.ensures.0 ∙ c.leave_step.ensures.seat.0 ∙ c.lodge.ensures.0 ∙ c.turn_by.ensures.0;
  room = c.take_at.ensures.capacity;
}

many : (c : goal.After-turn_by-2) → passes_in c.pass.inside.seat.table_id.slots ≡ c.args.self.now.key.passes
many c = passes_there c.pass.inside c.pass.invariant c.args.pass.now c.pass.view_is c.self.inside c.args.self.now c.self.invariant c.self.view_is c.requires.pass

view : (c : goal.After-turn_by-2) → (new c).seat.me.0 ≡ pass_view (with_core (standing_of c.pass.inside.seat.me.0) (released (standing_of c.pass.inside.seat.me.0).core c.args.stripe))
view c =
    let same = ap (λ (m : Me Slot View). m.0) c.lodge.ensures.2 ∙ ap (λ (m : Me Slot View). m.0) c.turn_by.ensures.2 in
    ap (λ (m : Me Slot View). m.0) c.turn_by-2.ensures.2 ∙ c.leave_step.ensures.told.0 ∙ ap (λ (v : View). pass_view (with_core (standing_of v) (released (standing_of v).core c.args.stripe))) same

slots : (c : goal.After-turn_by-2) → (new c).seat.me.1 ≡ hands_out c.args.self.now.key.passes c.pass.inside.number (new c).held.items
slots c =
    let n = c.args.self.now.key.passes in
    let k = c.pass.inside.number in
    let p = c.args.stripe in
    let at = c.place_of-at.result in
    let h = c.place_of-at.ensures in
    let front = front_shared c.pass.inside c.pass.invariant c.args.pass.now c.pass.view_is p at h n (out_there c.pass.inside c.pass.invariant c.args.pass.now c.pass.view_is c.self.inside c.args.self.now c.self.invariant c.self.view_is c.requires.pass)
    c.turns_for-above.result.0 (count_as c.pass_count.result c.args.self.now.key.passes c.pass.inside.number c.turns_for-above.result.0 (drop (suc c.place_of-at.result) c.pass.inside.held.items) c.pass_count.ensures (c.turns_for-above.ensures.front c.pass.inside.number)) c.turn_by.new.seat.me.1 (ap (λ (m : Me Slot View). m.1) c.turn_by.ensures.2) c.requires.held in
    ap (λ (m : Me Slot View). m.1) c.turn_by-2.ensures.2
    ∙ ap (turned_times c.turns_for-above.result.1) (c.leave_step.ensures.told.1 ∙ ap (λ (m : Me Slot View). rest m.1) c.lodge.ensures.2 ∙ ap rest front)
    ∙ turned_last c.pass.inside.held.items p at h n k c.turns_for-above.result.0 c.turns_for-above.result.1 (count_as c.pass_count.result c.args.self.now.key.passes c.pass.inside.number c.turns_for-above.result.0 (drop (suc c.place_of-at.result) c.pass.inside.held.items) c.pass_count.ensures (c.turns_for-above.ensures.front c.pass.inside.number)) (back_as c.pass_count.result c.args.self.now.key.passes c.pass.inside.number c.turns_for-above.result.0 c.turns_for-above.result.1 (take c.place_of-at.result c.pass.inside.held.items) c.pass_count.ensures (c.turns_for-above.ensures.back c.pass.inside.number))
    ∙ ap (hands_out n k) (sym (left_here c.pass.inside c.pass.invariant c.args.pass.now c.pass.view_is p at h c.take_at.new.held.items c.take_at.ensures.items).0)

pub invariant_of-pass : goal.invariant_of-pass
invariant_of-pass c =
    whole_without c.pass.inside (new c) c.pass.invariant (keeps c) (many c) c.args.stripe (view c) (slots c)
    (left_here c.pass.inside c.pass.invariant c.args.pass.now c.pass.view_is c.args.stripe c.place_of-at.result c.place_of-at.ensures c.take_at.new.held.items c.take_at.ensures.items).1

pub returns-clause-value : goal.returns-clause-value
returns-clause-value c =
    seen_without c.pass.inside (new c) c.pass.invariant (keeps c) (many c) c.args.stripe c.args.pass.now c.pass.view_is (view c)
    (left_here c.pass.inside c.pass.invariant c.args.pass.now c.pass.view_is c.args.stripe c.place_of-at.result c.place_of-at.ensures c.take_at.new.held.items c.take_at.ensures.items).1

pub returns-clause-pass : goal.returns-clause-pass
returns-clause-pass c =
    subst (IsPassOf c.args.self.now) (sym (returns-clause-value c)) (pass_of_without c.args.self.now c.args.pass.now c.args.stripe c.requires.pass)
