use Rattle.std.proofs.Common.{rules, ◌≡◌, ◌<◌, List, Some, ap, length, subst, sym, ◌∙◌}
use Rattle.rc_store.proofs.Imports.{slice_get, Reply, Step, with_replies, replies_of, as_many, item_there, replies_are, reply_there, HasReplyEach, steps_in}
use Rattle.rc_store.proofs.running_group.PreparedGroup.reply.Goals.{In-Counted}
use Rattle.rc_store.proofs.running_group.PreparedGroup.reply.Goals as goal

-- the calls have a reply each, and these are the steps
count : (c : In-Counted) → length c.in-Counted.replies.items ≡ length c.in-Counted.field-0.items
count c = subst HasReplyEach c.in-Counted.is c.requires.each

steps : (c : In-Counted) → steps_in c.args.self.now ≡ with_replies c.in-Counted.field-0.items c.in-Counted.replies.items
steps c = ap steps_in c.in-Counted.is

below : (c : In-Counted) → c.args.at < length c.in-Counted.replies.items
below c =
    subst (λ n. c.args.at < n) (ap (λ (l : List Step). length l) (steps c) ∙ as_many c.in-Counted.field-0.items c.in-Counted.replies.items (count c)) c.requires.at

pub index-requires : goal.index-requires
index-requires c = let there = below c in search rules

pub returns-in-Entry : goal.returns-in-Entry
returns-in-Entry c =
    let same : steps_in c.args.self.now ≡ c.list.result.now = ap steps_in c.in-Entry.is ∙ sym c.list.ensures in
    ap (λ (l : List Step). slice_get (replies_of l) c.args.at) same
    ∙ reply_there c.list.result.now c.args.at c.index-list-at.result (subst (λ (l : List Step). c.args.at < length l) same c.requires.at)

pub returns-in-Counted : goal.returns-in-Counted
returns-in-Counted c =
    let at = (goal.at.returns-in-Counted c).In-Counted in
    ap (λ (l : List Step). slice_get (replies_of l) c.args.at) (steps at)
    ∙ ap (λ (l : List Reply). slice_get l c.args.at) (replies_are c.in-Counted.field-0.items c.in-Counted.replies.items (count at))
    ∙ item_there c.in-Counted.replies.items c.args.at c.index.result.now (below at)
    ∙ ap Some (sym c.index.ensures)
