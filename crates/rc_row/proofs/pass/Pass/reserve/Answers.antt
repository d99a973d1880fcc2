use Rattle.std.proofs.Common.{◌≡◌, Option, Some, sym, ap, ◌∙◌, subst}
use Rattle.rc_row.proofs.Imports.{PartEntries, Inside, pass_seen, HasReserved, IsMoreRoom, PassSeen}
use Rattle.rc_row.proofs.pass.Pass.reserve.Goals as goal
use Rattle.rc_row.proofs.pass.Pass.reserve.Goals.{in-Some, in-None}

pub returns-clause-same : goal.returns-clause-same
returns-clause-same c =
    let old = c.args.self.now in
    let was : old.kept ≡ c.self.inside.entries = ap (λ (s : PassSeen). s.kept) (sym c.self.view_is) in
    elim c.match-self.branch [
      | in-Some w ↦
          let kept : Option PartEntries = Some w.reserve.new.self in
          subst (λ (a : Inside). HasReserved old (pass_seen a)) (sym w.self-inside-is) (record {
            kept = kept;
            is = ap (λ (s : PassSeen). record s { kept = kept }) c.self.view_is;
            more = subst (λ (k : Option PartEntries). IsMoreRoom k kept) (sym (was ∙ w.in-Some.is)) (w.reserve.ensures.list, w.reserve.ensures.spare);
          })
      | in-None w ↦
          subst (λ (a : Inside). HasReserved old (pass_seen a)) (sym w.self-inside-is) (record {
            kept = old.kept;
            is = c.self.view_is;
            more = subst (λ (k : Option PartEntries). IsMoreRoom k k) (sym (was ∙ w.in-None.is)) tt;
          })
    ]
