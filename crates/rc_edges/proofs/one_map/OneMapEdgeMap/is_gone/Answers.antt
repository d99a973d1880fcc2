use Rattle.rc_edges.proofs.Imports.{false≢true, gone_rows, alone, in_place}
use Rattle.rc_edges.proofs.one_map.OneMapEdgeMap.is_gone.Goals as goal

pub returns-in-Some : goal.returns-in-Some
returns-in-Some c =
    let i = c.in-Some.field-0 in
    let gone =
    gone_rows c.args.self.now (alone i) (in_place c.args.self.now c.self.inside.place c.in-One.one i c.self.view_is c.in-One.is
    c.in-Some.is) in
    (λ h. absurd (false≢true h), λ h. gone.1 h)
