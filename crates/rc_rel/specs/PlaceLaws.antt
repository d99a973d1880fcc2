-- Legal histories, place by place, and as they grow.
use Rattle.std.proofs.Common.{◌≡◌, ℕ, zero, suc, List, [], ◌∷◌, ◌++◌, length, take, Some, refl, sym, ap, subst, ◌∙◌, arith}
use Rattle.rc_rel.specs.Imports.{slice_get, Pairs, Spec, plain}
use Rattle.std.proofs.lemmas.List.{append-nil, append_assoc}
use Rattle.std.proofs.lemmas.Option.{same_Some}
use Rattle.rc_rel.specs.declared.entry.Step.{Step}
use Rattle.rc_rel.specs.declared.entry.Entry.{Entry}
use Rattle.rc_rel.specs.History.{AreLegalFrom, IsLegal, IsPlain, IsPrefix, after_steps, relation_at, replay, steps_of}
use Rattle.rc_rel.specs.HistoryLaws.{after_steps-append, steps_of-append}

-- ---- place by place

one_step : (steps : List Step) → length steps ≡ 1 → (s : Step) × (steps ≡ s ∷ [])
one_step [] e = absurd (omega (arith, e))
one_step (s ∷ []) e = (s, refl)
one_step (s ∷ (t ∷ steps)) e = absurd (omega (arith, e))

-- what stands behind some steps is legal from the relation that they leave
legal_rest : (spec : Spec) (r : List Pairs) (xs ys : List Step) → AreLegalFrom spec r (xs ++ ys) → AreLegalFrom spec (after_steps spec r xs) ys
legal_rest spec r [] ys h = h
legal_rest spec r (x ∷ xs) ys h = legal_rest spec (plain spec r x.call).relation xs ys h.1

plain_first : (spec : Spec) (r : List Pairs) (rest : List Step) (entry : Entry) → AreLegalFrom spec r (entry.steps ++ rest) → (s : Step) × (entry.steps ≡ s ∷ [])
    → IsPlain spec r (after_steps spec r (entry.steps ++ [])) entry
plain_first spec r rest entry legal (s, is) = record {
  step = s;
  one = is;
  reply = (subst (λ (steps : List Step). AreLegalFrom spec r (steps ++ rest)) is legal).0;
  relation = ap (λ (steps : List Step). after_steps spec r (steps ++ [])) is;
}

plain_from : (spec : Spec) (r : List Pairs) (history : List Entry) → AreLegalFrom spec r (steps_of history)
    → (place : ℕ) (entry : Entry) → slice_get history place ≡ Some entry → length entry.steps ≡ 1
    → IsPlain spec (after_steps spec r (steps_of (take place history))) (after_steps spec r (steps_of (take (suc place) history))) entry
plain_from spec r [] legal place entry at single = absurd cc
plain_from spec r (e ∷ es) legal zero entry at single =
    subst (λ (x : Entry). length x.steps ≡ 1 → IsPlain spec r (after_steps spec r (e.steps ++ [])) x) (same_Some e entry at)
    (λ one. plain_first spec r (steps_of es) e legal (one_step e.steps one)) single
plain_from spec r (e ∷ es) legal (suc n) entry at single =
    subst (λ (z : List Pairs × List Pairs). IsPlain spec z.0 z.1 entry)
    (λ i. (sym (after_steps-append spec r e.steps (steps_of (take n es))) i, sym (after_steps-append spec r e.steps (steps_of (take (suc n) es))) i))
    (plain_from spec (after_steps spec r e.steps) es (legal_rest spec r e.steps (steps_of es) legal) n entry at single)

-- In a legal history an entry of one call has at its place the reply of the plain relation there, and leaves that of the next place.
abbrev pub PlainAtEachPlace : Type 0
PlainAtEachPlace = (spec : Spec) (history : List Entry) → IsLegal spec history
    → (place : ℕ) (entry : Entry) → slice_get history place ≡ Some entry → length entry.steps ≡ 1
    → IsPlain spec (relation_at spec history place) (relation_at spec history (suc place)) entry

pub plain_at_each_place : PlainAtEachPlace
plain_at_each_place spec history legal place entry at single = plain_from spec [] history legal place entry at single

-- In a legal history the steps of the last entry have the plain relation's replies in turn, from the relation before it, and leave the relation
-- after them all.
pub legal_last : (spec : Spec) (before : List Entry) (entry : Entry) → IsLegal spec (before ++ entry ∷ [])
    → AreLegalFrom spec (replay spec before) entry.steps × (replay spec (before ++ entry ∷ []) ≡ after_steps spec (replay spec before) entry.steps)
legal_last spec before entry legal =
    let steps : steps_of (before ++ entry ∷ []) ≡ steps_of before ++ entry.steps = steps_of-append before (entry ∷ []) ∙ ap (λ (l : List Step). steps_of before ++ l) (append-nil entry.steps) in (
      legal_rest spec [] (steps_of before) entry.steps (subst (AreLegalFrom spec []) steps legal),
      ap (after_steps spec []) steps ∙ after_steps-append spec [] (steps_of before) entry.steps,
    )

-- ---- as they grow

pub prefix_same : (history : List Entry) → IsPrefix history history
prefix_same history = ([], sym (append-nil history))

pub prefix_more : (earlier history more : List Entry) → IsPrefix earlier history → IsPrefix earlier (history ++ more)
prefix_more earlier history more (rest, is) = (rest ++ more, ap (λ (l : List Entry). l ++ more) is ∙ append_assoc earlier rest more)

-- what begins with a history begins with all that it begins with
pub prefix_again : (first second third : List Entry) → IsPrefix first second → IsPrefix second third → IsPrefix first third
prefix_again first second third begins (more, is) = subst (IsPrefix first) (sym is) (prefix_more first second more begins)
