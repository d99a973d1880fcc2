use Rattle.std.proofs.Common.{◌≡◌, ◌++◌, ◌∷◌, [], ℕ, length, refl, sym, ap, ◌∙◌, arith}
use Rattle.std.specs.Prelude.{List, ◌==◌, true, suc}
use Rattle.rc_fragment.proofs.Imports.{eqb-true, append-nil, Pairs, values_at}
use Rattle.rc_fragment.proofs.note.push_values.Goals as goal

-- without columns there are no values
no_values : (cols : List ℕ) (row : Pairs) → (length cols == 0) ≡ true → values_at cols row ≡ []
no_values [] [] h = refl
no_values [] (p ∷ row) h = no_values [] row h
no_values (c ∷ cols) row h = let e : suc (length cols) ≡ 0 = eqb-true (suc (length cols)) 0 h in absurd (omega (arith, e))

pub returns-then-is_empty-clause-items : goal.returns-then-is_empty-clause-items
returns-then-is_empty-clause-items c =
    sym (ap (λ z. c.args.out.now.items ++ z) (no_values c.args.cols c.args.row.now (sym c.is_empty.ensures ∙ c.if-is_empty.true)) ∙ append-nil c.args.out.now.items)

pub returns-then-is_empty-clause-len : goal.returns-then-is_empty-clause-len
returns-then-is_empty-clause-len c =
    let none : length (values_at c.args.cols c.args.row.now) ≡ 0 = ap length (no_values c.args.cols c.args.row.now (sym c.is_empty.ensures ∙ c.if-is_empty.true)) in
    omega (arith, none)
