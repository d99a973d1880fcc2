use Rattle.std.proofs.Common.{◌≡◌, suc, ◌+◌, ◌*◌, ℕ, List, [], ◌∷◌, ◌++◌, sym, refl, ap, ◌∙◌, subst}
use Rattle.rc_row.proofs.Imports.{Exclusive, locked, Inside, HeldRows, just_held, Slot, kept_of, pass_view, standing_of, hand_out, hands_out, pass_seen, IsPassOf, RowSeen, spec_of, stripes_of, with_taken, with_core, HasLocked, passes_in}
use Rattle.rc_row.proofs.FoundLemmas.{has_locked, locked_with}
use Rattle.rc_row.proofs.StepLemmas.{KeepsOwn, pass_of_taken, seen_taken, whole_taken}
use Rattle.rc_row.proofs.WholeLemmas.{above_there, few_all, high_there, out_there, passes_there, room_there}
use Rattle.rc_row.proofs.row.Row.try_lock.Goals as goal

pub lock_step-found-requires-clause-high : goal.lock_step-found-requires-clause-high
lock_step-found-requires-clause-high c = high_there c.pass.inside c.pass.invariant c.args.pass.now c.pass.view_is c.args.stripe c.requires.above

pub take_alone-keep-requires-clause-few : goal.take_alone-keep-requires-clause-few
take_alone-keep-requires-clause-few c = few_all c.pass.inside c.pass.invariant c.args.pass.now c.pass.view_is c.self.inside c.args.self.now c.self.invariant c.self.view_is c.requires.pass

pub take_alone-keep-requires-clause-slots : goal.take_alone-keep-requires-clause-slots
take_alone-keep-requires-clause-slots c =
    let told = has_locked c.args.self.now.key c.pass.inside.seat.me c.lock_step-found.new.seat.me c.args.stripe c.lock_step-found.result c.if-found-ne0.false c.lock_step-found.ensures.told in
    let out = out_there c.pass.inside c.pass.invariant c.args.pass.now c.pass.view_is c.self.inside c.args.self.now c.self.invariant c.self.view_is c.requires.pass in
    (c.pass.inside.number, told.handed, kept_of (spec_of c.args.self.now) told.rows, told.owns, locked_with c.args.self.now.key c.pass.inside.seat.me c.lock_step-found.new.seat.me c.args.stripe told c.pass.inside.number c.pass.inside.held.items out)

pub push_reserved-requires : goal.push_reserved-requires
push_reserved-requires c =
    room_there c.pass.inside c.pass.invariant c.args.pass.now c.pass.view_is c.args.stripe (stripes_of c.args.self.now) c.args.self.now.table c.requires.above c.requires.stripe c.requires.pass.table
    (subst (λ (r : RowSeen). r.table.words ≡ 8 * suc (stripes_of r + stripes_of r)) c.self.view_is c.self.invariant.words)

-- ---- once the fragment is pushed

told : (c : goal.After-push_reserved) → HasLocked c.args.self.now.key c.pass.inside.seat.me c.args.stripe c.lock_step-found.new.seat.me
told c = has_locked c.args.self.now.key c.pass.inside.seat.me c.lock_step-found.new.seat.me c.args.stripe c.lock_step-found.result c.if-found-ne0.false c.lock_step-found.ensures.told

out : (c : goal.After-push_reserved) → c.pass.inside.seat.me.1 ≡ hands_out c.args.self.now.key.passes c.pass.inside.number c.pass.inside.held.items
out c = out_there c.pass.inside c.pass.invariant c.args.pass.now c.pass.view_is c.self.inside c.args.self.now c.self.invariant c.self.view_is c.requires.pass

-- what came out
alone : (c : goal.After-push_reserved) → (c.take_alone-keep.result ≡ kept_of (spec_of c.args.self.now) (told c).rows)
    × (c.take_alone-keep.new.seat.me.1 ≡ hand_out c.args.self.now.key.passes c.pass.inside.number Exclusive c.args.stripe ++ hands_out c.args.self.now.key.passes c.pass.inside.number c.pass.inside.held.items)
alone c = c.take_alone-keep.ensures.alone c.pass.inside.number (told c).handed (kept_of (spec_of c.args.self.now) (told c).rows) (told c).owns
    (locked_with c.args.self.now.key c.pass.inside.seat.me c.lock_step-found.new.seat.me c.args.stripe (told c) c.pass.inside.number c.pass.inside.held.items (out c))

abbrev new : goal.After-push_reserved → Inside
new c = record c.pass.inside { held = c.push_reserved.new.self; seat = c.take_alone-keep.new.seat }

keeps : (c : goal.After-push_reserved) → KeepsOwn c.pass.inside (new c)
keeps c = record {
  number = refl;
  seen = refl;
  made = refl;
  entries = refl;
  table = c.take_alone-keep.ensures.seat.0 ∙ c.lock_step-found.ensures.seat.0;
  room = c.push_reserved.ensures.capacity;
}

many : (c : goal.After-push_reserved) → passes_in c.pass.inside.seat.table_id.slots ≡ c.args.self.now.key.passes
many c = passes_there c.pass.inside c.pass.invariant c.args.pass.now c.pass.view_is c.self.inside c.args.self.now c.self.invariant c.self.view_is c.requires.pass

view : (c : goal.After-push_reserved) → (new c).seat.me.0 ≡ pass_view (with_core (standing_of c.pass.inside.seat.me.0) (locked (standing_of c.pass.inside.seat.me.0).core c.args.stripe (told c).rows))
view c = c.take_alone-keep.ensures.seat.2 ∙ (told c).view

slots : (c : goal.After-push_reserved) → (new c).seat.me.1 ≡ hand_out c.args.self.now.key.passes c.pass.inside.number Exclusive c.args.stripe ++ c.pass.inside.seat.me.1
slots c = (alone c).1 ∙ ap (λ (xs : List (ℕ × Slot)). hand_out c.args.self.now.key.passes c.pass.inside.number Exclusive c.args.stripe ++ xs) (sym (out c))

held : (c : goal.After-push_reserved) → (new c).held.items ≡ c.pass.inside.held.items ++ just_held c.args.stripe Exclusive (kept_of (spec_of c.args.self.now) (told c).rows) ∷ []
held c =
    c.push_reserved.ensures.items
    ∙ ap (λ (x : HeldRows). c.pass.inside.held.items ++ x ∷ []) (c.locked.ensures ∙ ap (just_held c.args.stripe Exclusive) (alone c).0)

value : (c : goal.After-push_reserved) → pass_seen (new c) ≡ with_taken (spec_of c.args.self.now) Exclusive c.args.stripe (told c).rows c.args.pass.now
value c = seen_taken c.pass.inside (new c) c.pass.invariant (keeps c) (many c) (spec_of c.args.self.now) Exclusive c.args.stripe (told c).rows c.args.pass.now c.pass.view_is (view c) (held c)

pub invariant_of-pass-2 : goal.invariant_of-pass-2
invariant_of-pass-2 c =
    whole_taken c.pass.inside (new c) c.pass.invariant (keeps c) (many c) (spec_of c.args.self.now) Exclusive c.args.stripe (told c).rows
    (above_there c.pass.inside c.pass.invariant c.args.pass.now c.pass.view_is c.args.stripe c.requires.above) (view c) (slots c) (held c)

pub returns-clause-pass : goal.returns-clause-pass
returns-clause-pass c =
    subst (IsPassOf c.args.self.now) (sym (value c)) (pass_of_taken c.args.self.now c.args.pass.now Exclusive c.args.stripe (told c).rows c.requires.pass c.requires.stripe)

pub returns-clause-taken : goal.returns-clause-taken
returns-clause-taken c = ((told c).rows, value c)
