use Rattle.std.proofs.Common.{◌≡◌, ◌∙◌, ap, sym}
use Rattle.rc_spec.proofs.Imports.{is_eq, Pairs, tuple_eq, same_from_test, test_from_same, Reply, Removed, Updated}
use Rattle.rc_spec.proofs.call.Reply.equals.Goals as goal

one_tuple : (a b : Reply) (t u : Pairs) → a ≡ Removed t → b ≡ Removed u → a ≡ b → t ≡ u
one_tuple a b t u e f same = cc

pub returns-in-Removed-Removed : goal.returns-in-Removed-Removed
returns-in-Removed-Removed c =
    let t : Pairs = c.in-Removed-Removed.tuple in
    let u : Pairs = c.in-Removed-Removed.other in
    let test : c.is_eq.result ≡ tuple_eq t u = c.is_eq.ensures ∙ ap is_eq c.order.ensures in (
      (λ same. c.in-Removed-Removed.is-0 ∙ ap Removed (same_from_test t u (sym test ∙ same)) ∙ sym c.in-Removed-Removed.is-1),
      (λ same. test ∙ test_from_same t u (one_tuple c.args.self.now c.args.other.now t u c.in-Removed-Removed.is-0 c.in-Removed-Removed.is-1 same)),
    )

one_old : (a b : Reply) (t u : Pairs) → a ≡ Updated t → b ≡ Updated u → a ≡ b → t ≡ u
one_old a b t u e f same = cc

pub returns-in-Updated-Updated : goal.returns-in-Updated-Updated
returns-in-Updated-Updated c =
    let t : Pairs = c.in-Updated-Updated.tuple in
    let u : Pairs = c.in-Updated-Updated.other in
    let test : c.is_eq-in-Updated-Updated.result ≡ tuple_eq t u = c.is_eq-in-Updated-Updated.ensures ∙ ap is_eq c.order-in-Updated-Updated.ensures in (
      (λ same. c.in-Updated-Updated.is-0 ∙ ap Updated (same_from_test t u (sym test ∙ same)) ∙ sym c.in-Updated-Updated.is-1),
      (λ same. test ∙ test_from_same t u (one_old c.args.self.now c.args.other.now t u c.in-Updated-Updated.is-0 c.in-Updated-Updated.is-1 same)),
    )
