use Rattle.std.proofs.Common.{◌≡◌, List, [], length, sym, ap, subst, ◌∙◌}
use Rattle.rc_row.proofs.Imports.{replicate, length-replicate, KeptRows, Entry, stripe_total, Spec, EndedPass, IsLeftOf, no_entries, resumed_from, kept_of}
use Rattle.rc_row.proofs.ResumingLemmas.{new_from, nothing_left}
use Rattle.rc_row.proofs.row.Row.build.Goals as goal

pub resume-requires : goal.resume-requires
resume-requires c =
    let fragments = c.in_ok-empty_fragments.ensures ∙ ap (λ (s : Spec). replicate (stripe_total s) (kept_of s [])) c.accepted.ensures.value in
    subst (λ (x : List Entry × List KeptRows × List EndedPass). IsLeftOf c.args.compiled.now.spec c.args.keeping x.0 x.1 x.2)
    (λ i. (sym c.none.ensures i, sym fragments i, sym c.in_ok-without_entries.ensures i))
    (nothing_left c.args.compiled.now.spec c.args.keeping c.args.passes c.requires.0 c.requires.1)

pub returns-in-Ok-clause-passes : goal.returns-in-Ok-clause-passes
returns-in-Ok-clause-passes c =
    let row = c.in-Ok.ensures.row in
    let many : c.args.passes ≡ c.in-Ok.made.0.key.passes = sym (row.0 ∙ ap (λ (l : List EndedPass). length l) c.in_ok-without_entries.ensures ∙ length-replicate c.args.passes (no_entries c.args.keeping)) in
    c.in-Ok.ensures.passes ∙ ap (resumed_from c.in-Ok.made.0 0) c.in_ok-without_entries.ensures
    ∙ (λ i. resumed_from c.in-Ok.made.0 0 (replicate (many i) (no_entries (sym row.2 i))))
    ∙ new_from c.in-Ok.made.0 0 c.in-Ok.made.0.key.passes (c.in-Ok.ensures.history ∙ c.none.ensures)
