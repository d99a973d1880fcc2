use Rattle.std.proofs.Common.{◌≡◌, ◌+◌, length, Option, None, refl, sym, ap, ◌∙◌, subst}
use Rattle.rc_row.proofs.Imports.{PartEntries, Entry, placed, with_replies, Inside, standing_of, next_of, IsPassOf, PassSeen, compiled_of, core_of, with_entry, HasCommitted}
use Rattle.rc_row.proofs.SettleLemmas.{HasSettled, has_added, pass_of_commit, seen_committed, whole_committed}
use Rattle.rc_row.proofs.row.Row.commit_calls.Goals as goal

abbrev new : goal.After-pass-2-1 → Inside
new c = record c.pass.inside {
  seen = c.commit_next-place.result + 1;
  made = c.pass.inside.made + 1;
  held = c.settle_all.new.held;
  seat = c.commit_next-place.new.seat;
}

abbrev entry_of : goal.After-pass-2-1 → Entry
entry_of c = next_of (core_of c.args.pass.now) (with_replies c.args.calls.now c.args.replies.now)

-- what the step told, of the entry in the terms of the pass
told_of : (c : goal.After-pass-2-1) → HasCommitted c.args.self.now.key (entry_of c) c.pass.inside.seat.me c.commit_next-place.result c.commit_next-place.new.seat.me
told_of c =
    let same : next_of (standing_of c.pass.inside.seat.me.0).core (with_replies c.args.calls.now c.args.replies.now) ≡ entry_of c = ap (λ (s : PassSeen). next_of (core_of s) (with_replies c.args.calls.now c.args.replies.now)) c.pass.view_is in
    subst (λ (e : Entry). HasCommitted c.args.self.now.key e c.pass.inside.seat.me c.commit_next-place.result c.commit_next-place.new.seat.me) same c.commit_next-place.ensures.told

has_settled : (c : goal.After-pass-2-1) → HasSettled (compiled_of c.args.self.now) (told_of c).before (entry_of c) c.pass.inside (new c)
has_settled c =
    let told = told_of c in
    let none : c.pass.inside.entries ≡ None = ap (λ (s : PassSeen). s.kept) c.pass.view_is ∙ c.requires.counts in
    record {
      number = refl;
      seen = ap (λ n. n + 1) told.place;
      made = refl;
      entries = subst (λ (k : Option PartEntries). k ≡ with_entry k (placed (length told.before) (entry_of c))) (sym none) refl;
      view = told.view;
      slots = told.slots;
      table = c.commit_next-place.ensures.seat.0;
      held = c.settle_all.ensures.items;
      room = c.settle_all.ensures.room;
    }

pub invariant_of-pass : goal.invariant_of-pass
invariant_of-pass c =
    whole_committed (compiled_of c.args.self.now) (told_of c).before (entry_of c) c.pass.inside (new c) c.pass.invariant (has_settled c) c.args.pass.now c.pass.view_is c.requires.left

pub returns-clause-pass : goal.returns-clause-pass
returns-clause-pass c =
    let compiled = compiled_of c.args.self.now in
    subst (IsPassOf c.args.self.now)
    (sym (seen_committed compiled (told_of c).before (entry_of c) c.pass.inside (new c) c.pass.invariant (has_settled c) c.args.pass.now c.pass.view_is))
    (pass_of_commit c.args.self.now compiled (told_of c).before (entry_of c) c.args.pass.now c.requires.pass)

pub returns-clause-added : goal.returns-clause-added
returns-clause-added c =
    has_added c.args.self.now (entry_of c) c.pass.inside (new c) c.commit_next-place.result c.commit_next-place.new.seat.me (told_of c) c.pass.invariant (has_settled c) c.args.pass.now c.pass.view_is
