use Rattle.std.proofs.Common.{◌++◌, length, drop, sym, ap, ◌∙◌}
use Rattle.rc_audit.proofs.Imports.{false≢true, Decides-eqb, starts_is}
use Rattle.rc_audit.proofs.CursorLemmas.{head_is, head_text}
use Rattle.rc_audit.proofs.cursors.is_of_thread.Goals as goal

pub returns-clause-yes : goal.returns-clause-yes
returns-clause-yes c =
    let head = head_is _ _ _ _ _ _ c.args.place c.args.thread c.from.result c.deref.ensures.value c.in_ok-push-2.ensures.items c.in_ok-push_u64-2.ensures.ok
    c.from.ensures c.in_ok-push.ensures.items c.in_ok-push_u64.ensures.ok c.new-head.ensures.items in
    let both = starts_is Decides-eqb c.args.line.now c.deref.result.now c.starts_with.result c.starts_with.ensures.value in
    let rest = drop (length c.deref.result.now) c.args.line.now in
    λ yes. (rest, both.0 yes ∙ ap (λ l. l ++ rest) head ∙ head_text c.args.place c.args.thread rest)

pub returns-clause-no : goal.returns-clause-no
returns-clause-no c =
    let head = head_is _ _ _ _ _ _ c.args.place c.args.thread c.from.result c.deref.ensures.value c.in_ok-push-2.ensures.items c.in_ok-push_u64-2.ensures.ok
    c.from.ensures c.in_ok-push.ensures.items c.in_ok-push_u64.ensures.ok c.new-head.ensures.items in
    let both = starts_is Decides-eqb c.args.line.now c.deref.result.now c.starts_with.result c.starts_with.ensures.value in
    λ no of. false≢true (sym no ∙ both.1 of.0 (of.1 ∙ sym (head_text c.args.place c.args.thread of.0) ∙ ap (λ l. l ++ of.0) (sym head)))
