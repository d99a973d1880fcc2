use Rattle.std.proofs.Common.{ap, ◌∙◌, map}
use Rattle.rc_spec.proofs.Imports.{put, row_cmp, rows_in, rows_in-insert}
use Rattle.rc_spec.proofs.query_rows.QueryRows.add.Goals as goal

pub returns-clause-ok : goal.returns-clause-ok
returns-clause-ok c =
    ap (map (λ row. row.items)) c.in_ok-insert.ensures.keys ∙ rows_in-insert c.into_vec.result c.self.inside.rows.keys
    ∙ ap (λ row. put row_cmp row (rows_in c.self.inside.rows)) (c.into_vec.ensures ∙ c.in_ok-row.ensures)
    ∙ ap (put row_cmp _) c.self.view_is
