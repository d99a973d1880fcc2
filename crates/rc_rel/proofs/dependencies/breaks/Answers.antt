use Rattle.std.proofs.Common.{◌≡◌, rules, tests, sym, subst}
use Rattle.rc_rel.proofs.Imports.{YieldsList-from_slice, serves_from_places, In, in_each, get_or_in, Pairs, cols_of, AreOver}
use Rattle.rc_rel.proofs.dependencies.breaks.Goals as goal

pub any-requires-clause-callable : goal.any-requires-clause-callable
any-requires-clause-callable c =
    let tuples = c.args.tuples.now in
    serves_from_places (YieldsList-from_slice tuples cc) (λ x q k. search (rules, tests)) (λ x k within is.
    let here : In x.now tuples = subst (λ (t : Pairs). In t tuples) (sym is) (get_or_in tuples k x.now within) in
    let over : AreOver (cols_of x.now) tuples = in_each (λ (t : Pairs). cols_of x.now ≡ cols_of t) tuples (λ t m. c.requires x.now t here m) in
    search (rules, over))
