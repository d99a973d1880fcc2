use Rattle.std.proofs.Common.{◌+◌, refl, sym, ap, ◌∙◌, subst}
use Rattle.rc_row.proofs.Imports.{placed, MayCommit, Inside, IsPassOf, PassSeen, compiled_of, core_of, with_entry}
use Rattle.rc_row.proofs.SettleLemmas.{HasSettled, has_added, pass_of_commit, seen_committed, whole_committed}
use Rattle.rc_row.proofs.row.Row.commit.Goals as goal

abbrev new : goal.After-keep_entry → Inside
new c = record c.pass.inside {
  seen = c.commit_entry-place.result + 1;
  made = c.pass.inside.made + 1;
  held = c.settle_all.new.held;
  entries = c.keep_entry.new.entries;
  seat = c.commit_entry-place.new.seat;
}

has_settled : (c : goal.After-keep_entry) → HasSettled (compiled_of c.args.self.now) c.commit_entry-place.ensures.told.before c.args.entry c.pass.inside (new c)
has_settled c =
    let told = c.commit_entry-place.ensures.told in
    record {
      number = refl;
      seen = ap (λ n. n + 1) told.place;
      made = refl;
      entries = c.keep_entry.ensures ∙ ap (λ n. with_entry c.pass.inside.entries (placed n c.args.entry)) told.place;
      view = told.view;
      slots = told.slots;
      table = c.commit_entry-place.ensures.seat.0;
      held = c.settle_all.ensures.items;
      room = c.settle_all.ensures.room;
    }

pub commit_entry-place-requires-clause-allowed : goal.commit_entry-place-requires-clause-allowed
commit_entry-place-requires-clause-allowed c =
    subst (λ (s : PassSeen). MayCommit (compiled_of c.args.self.now) (core_of s) c.args.entry) (sym c.pass.view_is) c.requires.allowed

pub invariant_of-pass : goal.invariant_of-pass
invariant_of-pass c =
    whole_committed (compiled_of c.args.self.now) c.commit_entry-place.ensures.told.before c.args.entry c.pass.inside (new c) c.pass.invariant (has_settled c) c.args.pass.now c.pass.view_is
    c.requires.left

pub returns-clause-pass : goal.returns-clause-pass
returns-clause-pass c =
    let before = c.commit_entry-place.ensures.told.before in
    let compiled = compiled_of c.args.self.now in
    subst (IsPassOf c.args.self.now) (sym (seen_committed compiled before c.args.entry c.pass.inside (new c) c.pass.invariant (has_settled c) c.args.pass.now c.pass.view_is))
    (pass_of_commit c.args.self.now compiled before c.args.entry c.args.pass.now c.requires.pass)

pub returns-clause-added : goal.returns-clause-added
returns-clause-added c =
    has_added c.args.self.now c.args.entry c.pass.inside (new c) c.commit_entry-place.result c.commit_entry-place.new.seat.me c.commit_entry-place.ensures.told c.pass.invariant (has_settled c)
    c.args.pass.now c.pass.view_is
