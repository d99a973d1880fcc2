-- Histories stay where a specification gets further operations.
use Rattle.std.proofs.Common.{◌≡◌, ℕ, zero, suc, List, [], ◌∷◌, ◌++◌, Some, refl, sym, ap, subst, ◌∙◌}
use Rattle.rc_rel.specs.Imports.{slice_get, nat_cmp, gather, Pairs, Call, Op, Spec, Fits, FitsAt, value_columns, OpKind, Query, Insert, Remove, Update, Outcome, plain, plain_at}
use Rattle.rc_rel.specs.declared.entry.Step.{Step}
use Rattle.rc_rel.specs.declared.entry.Entry.{Entry}
use Rattle.rc_rel.specs.History.{AllFit, AreLegalFrom, StepsFit, after_steps, steps_of}
use Rattle.rc_rel.specs.HistoryLaws.{StepsFit-steps_of}
use Rattle.rc_rel.specs.Further.{Extends, HasStripesOf, HistoriesStay, IsHistoryOfBoth}

-- what is found among the first is found where more stand behind
found_further : {A : Type 0} (xs more : List A) (i : ℕ) (x : A) → slice_get xs i ≡ Some x → slice_get (xs ++ more) i ≡ Some x
found_further [] more i x e = cc
found_further (y ∷ xs) more zero x e = e
found_further (y ∷ xs) more (suc i) x e = found_further xs more i x e

module _ (spec : Spec) (more : List Op) where
  abbrev extended : Spec
  extended = record spec { ops = spec.ops ++ more }

  same_values : (pattern : List ℕ) (kind : OpKind) → value_columns extended pattern kind ≡ value_columns spec pattern kind
  same_values pattern (Query outs ranges) = refl
  same_values pattern Insert = refl
  same_values pattern Remove = refl
  same_values pattern Update = refl

  fits : (call : Call) → Fits spec call → Fits extended call
  fits call (op, f) = (
    op,
    record {
      known = found_further spec.ops more call.op op f.known;
      tuple = f.tuple;
      columns = f.columns ∙ ap (λ (cols : List ℕ). gather nat_cmp cols) (sym (same_values op.pattern op.kind));
      ranges = f.ranges;
      bounds = f.bounds;
    },
  )

  plain_same : (r : List Pairs) (call : Call) → Fits spec call → plain extended r call ≡ plain spec r call
  plain_same r call (op, f) =
      ap (λ o. plain_at spec.most_rows o spec.deps call.args call.ranges r) (found_further spec.ops more call.op op f.known ∙ sym f.known)

  after_same : (r : List Pairs) (steps : List Step) → StepsFit spec steps → after_steps extended r steps ≡ after_steps spec r steps
  after_same r [] fit = refl
  after_same r (s ∷ steps) fit =
      ap (λ (o : Outcome). after_steps extended o.relation steps) (plain_same r s.call fit.0) ∙ after_same (plain spec r s.call).relation steps fit.1

  legal_further : (r : List Pairs) (steps : List Step) → StepsFit spec steps → AreLegalFrom spec r steps → AreLegalFrom extended r steps
  legal_further r [] fit legal = tt
  legal_further r (s ∷ steps) fit legal =
      let same : plain extended r s.call ≡ plain spec r s.call = plain_same r s.call fit.0 in (
        legal.0 ∙ ap (λ (o : Outcome). o.reply) (sym same),
        subst (λ (o : Outcome). AreLegalFrom extended o.relation steps) (sym same) (legal_further (plain spec r s.call).relation steps fit.1 legal.1),
      )

  steps_fit : (steps : List Step) → StepsFit spec steps → StepsFit extended steps
  steps_fit [] fit = tt
  steps_fit (s ∷ steps) fit = (fits s.call fit.0, steps_fit steps fit.1)

  all_fit : (history : List Entry) → AllFit spec history → AllFit extended history
  all_fit [] fit = tt
  all_fit (e ∷ history) fit = (steps_fit e.steps fit.0, all_fit history fit.1)

  of_both : (history : List Entry) → AllFit spec history → IsHistoryOfBoth spec extended history
  of_both history fit = record {
    fit = all_fit history fit;
    legal = legal_further [] (steps_of history) (StepsFit-steps_of spec history fit);
    replay_is = after_same [] (steps_of history) (StepsFit-steps_of spec history fit);
  }

  stripes : HasStripesOf spec extended
  stripes = record { total = refl; fragments = λ r stripe. refl }

pub histories_stay : HistoriesStay
histories_stay earlier later (more, is) =
    subst (λ (spec : Spec). HasStripesOf earlier spec × ((history : List Entry) → AllFit earlier history → IsHistoryOfBoth earlier spec history)) (sym is)
    (stripes earlier more, of_both earlier more)
