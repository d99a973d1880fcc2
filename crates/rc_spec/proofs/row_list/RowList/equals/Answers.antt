use Rattle.std.proofs.Common.{◌≡◌, ◌∙◌, ◌++◌, ◌∷◌, [], ℕ, Bool, true, false, List, ap, sym, take, get_or, arith, refl, not}
use Rattle.rc_spec.proofs.Imports.{take_more, slice_eq-Decides, Decides-eqb}
use Rattle.rc_spec.proofs.row_list.RowList.equals.Goals as goal

from_not : (b : Bool) → not b ≡ false → b ≡ true
from_not true e = refl
from_not false e = cc

-- one more row is the same
pub loop-at-preserved : goal.loop-at-preserved
loop-at-preserved c =
    let i : ℕ = c.loop-at.at in
    let a : List ℕ = c.row.result.now in
    let b : List ℕ = c.row-in-loop-at.result.now in
    let rows : List (List ℕ) = c.args.self.now in
    let others : List (List ℕ) = c.args.other.now in
    let same : a ≡ b = (slice_eq-Decides Decides-eqb a b _ refl).0 (from_not _ (sym c.ne.ensures ∙ c.if-ne.false)) in
    let first = c.len.ensures in
    let second = c.len-2.ensures in
    let end = c.len-at-end.ensures in
    let test = c.loop-at-test.true in
    let even = c.if-len.false in
    take_more rows i [] (omega (arith, test, end))
    ∙ ap (λ z. take i rows ++ z ∷ []) (sym c.row.ensures ∙ same ∙ c.row-in-loop-at.ensures)
    ∙ ap (λ z. z ++ get_or others i [] ∷ []) c.loop-at.invariant
    ∙ sym (take_more others i [] (omega (arith, test, end, first, second, even)))
