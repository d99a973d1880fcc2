use Rattle.std.proofs.Common.{sym, ap, ◌∙◌}
use Rattle.rc_fragment.proofs.Imports.{extra_of, get-current, kept_in, now_in, found_in}
use Rattle.rc_fragment.proofs.edge_rows.EdgeRows.get.Goals as goal

pub returns-in-Some : goal.returns-in-Some
returns-in-Some c =
    c.get-in-Some.ensures ∙ ap extra_of (sym (get-current (kept_in c.in-Some.container.now) c.args.key.now) ∙ ap (λ z. found_in now_in z c.args.key.now) c.in-Some.ensures)
