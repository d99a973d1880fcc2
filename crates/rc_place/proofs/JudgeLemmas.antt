-- The table as the judge has it.
use Rattle.std.proofs.Common.{◌≡◌, ℕ, zero, suc, ◌<◌, List, [], ◌∷◌, length, map, get_or, sym, ap, ◌∙◌, subst, arith}
use Rattle.rc_place.proofs.Imports.{AllByRecursion, get_or-map, length-map, Node, Step, step, steps}
use Rattle.rc_place.specs.declared.judging.Step.{Step as Row}

pub at_all : {A : Type 0} (P : A → Type 0) (xs : List A) (i : ℕ) (d : A) → AllByRecursion P xs → i < length xs → P (get_or xs i d)
at_all P [] i d h l = absurd (omega (arith, l))
at_all P (x ∷ xs) zero d h l = h.0
at_all P (x ∷ xs) (suc i) d h l = at_all P xs i d h.1 (omega (arith, l))

abbrev pub no_step : Step
no_step = step Node []

abbrev no_row : Row
no_row = record { kind = Node; rules = record { ref_ptr = (0, 0); now = [] } }

abbrev pub told : Row → Step
told row = step row.kind row.rules.now

-- the row at a place is the step of the table there
pub row_is : (rows : List Row) (i : ℕ) → map told rows ≡ steps → i < 11 → get_or steps i no_step ≡ told (get_or rows i no_row)
row_is rows i same l =
    ap (λ (l : List Step). get_or l i no_step) (sym same) ∙ get_or-map told rows i no_row no_step (subst (λ k. i < k) (sym as_many) l)
  where
    as_many : length rows ≡ 11
    as_many = sym (length-map rows told) ∙ ap (λ (l : List Step). length l) same
