use Rattle.rc_place.proofs.Imports.{refl, bound, follows_at}
use Rattle.rc_place.proofs.adequacy.keeps_a5.Goals as goal

pub returns-in-Singleton : goal.returns-in-Singleton
returns-in-Singleton c =
    let test =
    follows_at c.list.result.now c.args.spec.now.deps c.bound.result (bound c.args.spec.now c.args.edge.now.from) c.args.edge.now.key c.args.edge.now.key
    c.determines.result c.list.ensures c.bound.ensures refl c.determines.ensures in (
      λ h. record { no_key = λ e. c.in-Singleton.is; singleton = λ e. test.0 h },
      λ k. test.1 (k.singleton c.in-Singleton.is),
    )
