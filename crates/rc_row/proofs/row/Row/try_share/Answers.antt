use Rattle.std.proofs.Common.{◌≡◌, suc, ◌+◌, ◌*◌, [], ◌∷◌, ◌++◌, sym, refl, ap, ◌∙◌, subst}
use Rattle.rc_row.proofs.Imports.{Shared, Inside, HeldRows, just_held, kept_of, passes_in, IsPassOf, RowSeen, spec_of, stripes_of}
use Rattle.rc_row.proofs.StepLemmas.{KeepsOwn, pass_of_taken, seen_taken, whole_taken}
use Rattle.rc_row.proofs.WholeLemmas.{above_there, high_there, passes_there, room_there}
use Rattle.rc_row.proofs.row.Row.try_share.Goals as goal

pub enter-requires-clause-high : goal.enter-requires-clause-high
enter-requires-clause-high c = high_there c.pass.inside c.pass.invariant c.args.pass.now c.pass.view_is c.args.stripe c.requires.above

pub enter-requires-clause-number : goal.enter-requires-clause-number
enter-requires-clause-number c = (c.pass.invariant.agrees.number_is, c.pass.invariant.agrees.small)

pub push_reserved-requires : goal.push_reserved-requires
push_reserved-requires c =
    room_there c.pass.inside c.pass.invariant c.args.pass.now c.pass.view_is c.args.stripe (stripes_of c.args.self.now) c.args.self.now.table c.requires.above c.requires.stripe c.requires.pass.table
    (subst (λ (r : RowSeen). r.table.words ≡ 8 * suc (stripes_of r + stripes_of r)) c.self.view_is c.self.invariant.words)

-- ---- once the fragment is pushed

abbrev new : goal.After-push_reserved → Inside
new c = record c.pass.inside { held = c.push_reserved.new.self; seat = c.enter.new.seat }

keeps : (c : goal.After-push_reserved) → KeepsOwn c.pass.inside (new c)
keeps c = record {
  number = refl;
  seen = refl;
  made = refl;
  entries = refl;
  table = c.enter.ensures.seat.0;
  room = c.push_reserved.ensures.capacity;
}

many : (c : goal.After-push_reserved) → passes_in c.pass.inside.seat.table_id.slots ≡ c.args.self.now.key.passes
many c = passes_there c.pass.inside c.pass.invariant c.args.pass.now c.pass.view_is c.self.inside c.args.self.now c.self.invariant c.self.view_is c.requires.pass

held : (c : goal.After-push_reserved) → (new c).held.items ≡ c.pass.inside.held.items ++ just_held c.args.stripe Shared (kept_of (spec_of c.args.self.now) c.in-Ok.ensures.ok.0) ∷ []
held c =
    c.push_reserved.ensures.items
    ∙ ap (λ (x : HeldRows). c.pass.inside.held.items ++ x ∷ []) (c.shared.ensures ∙ ap (just_held c.args.stripe Shared) c.in-Ok.ensures.ok.3)

pub invariant_of-pass : goal.invariant_of-pass
invariant_of-pass c =
    whole_taken c.pass.inside (new c) c.pass.invariant (keeps c) (many c) (spec_of c.args.self.now) Shared c.args.stripe c.in-Ok.ensures.ok.0
    (above_there c.pass.inside c.pass.invariant c.args.pass.now c.pass.view_is c.args.stripe c.requires.above) c.in-Ok.ensures.ok.1 c.in-Ok.ensures.ok.2 (held c)

pub returns-in-Ok-clause-pass : goal.returns-in-Ok-clause-pass
returns-in-Ok-clause-pass c =
    let spec = spec_of c.args.self.now in
    let rows = c.in-Ok.ensures.ok.0 in
    subst (IsPassOf c.args.self.now)
    (sym (seen_taken c.pass.inside (new c) c.pass.invariant (keeps c) (many c) spec Shared c.args.stripe rows c.args.pass.now c.pass.view_is c.in-Ok.ensures.ok.1 (held c)))
    (pass_of_taken c.args.self.now c.args.pass.now Shared c.args.stripe rows c.requires.pass c.requires.stripe)
