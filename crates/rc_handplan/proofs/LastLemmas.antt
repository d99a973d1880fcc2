-- The last of some plans, by its place.
use Rattle.std.proofs.Common.{◌≡◌, ℕ, zero, suc, ◌+◌, true, false, nat_le, List, [], ◌∷◌, length, get_or, set, Ok, Err, ap, sym, ◌∙◌, refl, arith}
use Rattle.rc_handplan.proofs.Imports.{Statement, Spec, Hand, H4, statement_in, with_next, after_statement, with_statement, last_plan, onto_last}

-- the last plan is written at its place
pub set_last : (hands : List Hand) (n : ℕ) (hand more : Hand) (statement : Statement) → n + 1 ≡ length hands
    → hand ≡ get_or hands n hand → more ≡ with_statement hand statement → set hands n more ≡ onto_last hands statement
set_last [] n hand more statement at is e = absurd (omega arith)
set_last (only ∷ []) zero hand more statement at is e = cc
set_last (only ∷ []) (suc n) hand more statement at is e = absurd (omega arith)
set_last (first ∷ next ∷ hands) zero hand more statement at is e = absurd (omega arith)
set_last (first ∷ next ∷ hands) (suc n) hand more statement at is e =
    ap (λ (xs : List Hand). first ∷ xs) (set_last (next ∷ hands) n hand more statement (omega arith) is e)

-- and it is found there
pub plan_at_last : (hands : List Hand) (n : ℕ) (hand : Hand) → n + 1 ≡ length hands → hand ≡ get_or hands n hand
    → hand.plan ≡ last_plan hands
plan_at_last [] n hand at is = absurd (omega arith)
plan_at_last (only ∷ []) zero hand at is = ap (λ (h : Hand). h.plan) is
plan_at_last (only ∷ []) (suc n) hand at is = absurd (omega arith)
plan_at_last (first ∷ next ∷ hands) zero hand at is = absurd (omega arith)
plan_at_last (first ∷ next ∷ hands) (suc n) hand at is = plan_at_last (next ∷ hands) n hand (omega arith) is

-- a statement that is written behind a full plan
pub last_is_full : (spec : Spec) (hands : List Hand) (bytes : List ℕ) (n : ℕ) (hand : Hand) (statement : Statement)
    → n + 1 ≡ length hands → hand ≡ get_or hands n hand → statement_in spec bytes ≡ Ok statement
    → nat_le 256 (length hand.plan) ≡ true → after_statement spec hands bytes ≡ Err H4
last_is_full spec hands bytes n hand statement at is gives full =
    let last : nat_le 256 (length (last_plan hands)) ≡ true =
    ap (λ (plan : List Statement). nat_le 256 (length plan)) (sym (plan_at_last hands n hand at is)) ∙ full in
    ap (with_next hands) gives ∙ rw last refl

-- a statement behind one that isn't
pub last_takes : (spec : Spec) (hands : List Hand) (bytes : List ℕ) (n : ℕ) (hand found more : Hand) (statement : Statement)
    → n + 1 ≡ length hands → hand ≡ get_or hands n hand → found ≡ get_or hands n found
    → statement_in spec bytes ≡ Ok statement → nat_le 256 (length hand.plan) ≡ false
    → more ≡ with_statement found statement → after_statement spec hands bytes ≡ Ok (set hands n more)
last_takes spec hands bytes n hand found more statement at is found-is gives free e =
    let last : nat_le 256 (length (last_plan hands)) ≡ false =
    ap (λ (plan : List Statement). nat_le 256 (length plan)) (sym (plan_at_last hands n hand at is)) ∙ free in
    ap (with_next hands) gives ∙ rw last (ap (λ (xs : List Hand). Ok xs) (sym (set_last hands n found more statement at found-is e)))
