use Rattle.std.proofs.Common.{◌≡◌, ◌↔◌, true, sym, subst}
use Rattle.rc_place.proofs.Imports.{Op, Rule, Keeps, KeepsO3}
use Rattle.rc_place.proofs.judging.keeps.Goals as goal

pub returns-in-P2 : goal.returns-in-P2
returns-in-P2 c = subst (λ (r : Rule). (c.keeps_p2.result ≡ true) ↔ Keeps c.args.spec.now r c.args.number) (sym c.in-P2.is) c.keeps_p2.ensures

pub returns-in-O3 : goal.returns-in-O3
returns-in-O3 c =
    subst (λ (r : Rule). (c.keeps_o3.result ≡ true) ↔ Keeps c.args.spec.now r c.args.number) (sym c.in-O3.is)
    (subst (λ (o : Op). (c.keeps_o3.result ≡ true) ↔ KeepsO3 o) c.op-in-O3.ensures.value c.keeps_o3.ensures)
