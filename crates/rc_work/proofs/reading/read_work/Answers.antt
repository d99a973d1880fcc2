use Rattle.rc_work.proofs.Imports.{sym, subst, err_from_is_err_and, IsDraft-reading_all, IsWorkRefusal-reading_all, KeepsLimits-work_with, HasThreads-work_with, HasSingleTurns-work_with, RoundsFit-ranked_rounds, KnowsTexts-work_of, AreOfWords, HasThreads, RoundsFit, IsOfAlso-reading_all, IsOfAlso, HasSingleTurns, KeepsLimits, KnowsTexts, Work}
use Rattle.rc_work.proofs.reading.read_work.Goals as goal

pub work_of-requires-clause-turns : goal.work_of-requires-clause-turns
work_of-requires-clause-turns c = (IsDraft-reading_all _ _ _ _ _ c.in_ok-draft.ensures).turns

pub returns-clause-limits : goal.returns-clause-limits
returns-clause-limits c =
    let is = IsDraft-reading_all _ _ _ _ _ c.in_ok-draft.ensures in
    subst (λ (work : Work). KeepsLimits work) (sym c.in_ok-work_of.ensures.work) (KeepsLimits-work_with _ _ _ is)

pub returns-clause-threads : goal.returns-clause-threads
returns-clause-threads c =
    let is = IsDraft-reading_all _ _ _ _ _ c.in_ok-draft.ensures in
    subst (λ (work : Work). HasThreads work) (sym c.in_ok-work_of.ensures.work) (HasThreads-work_with c.args.spec.now _ _ is)

pub returns-clause-fit : goal.returns-clause-fit
returns-clause-fit c =
    let is = IsDraft-reading_all _ _ _ _ _ c.in_ok-draft.ensures in
    let words = subst (λ (work : Work). AreOfWords work.rounds) c.in_ok-work_of.ensures.work c.in_ok-work_of.ensures.words in
    subst (λ (work : Work). RoundsFit c.args.spec.now work.rounds) (sym c.in_ok-work_of.ensures.work) (RoundsFit-ranked_rounds _ _ _ c.requires.well_named is.turns words)

pub returns-clause-known_texts : goal.returns-clause-known_texts
returns-clause-known_texts c =
    let is = IsDraft-reading_all _ _ _ _ _ c.in_ok-draft.ensures in
    subst (λ (work : Work). KnowsTexts c.args.spec.now work) (sym c.in_ok-work_of.ensures.work) (KnowsTexts-work_of _ _ is)

pub returns-clause-single : goal.returns-clause-single
returns-clause-single c nothing =
    let is = subst (λ also. IsOfAlso also c.in_ok-draft.draft) nothing (IsOfAlso-reading_all _ _ _ _ _ c.in_ok-draft.ensures) in
    subst (λ (work : Work). HasSingleTurns work) (sym c.in_ok-work_of.ensures.work) (HasSingleTurns-work_with c.args.spec.now _ _ is)

pub returns-in_err-draft-clause-rule : goal.returns-in_err-draft-clause-rule
returns-in_err-draft-clause-rule c =
    let refused = err_from_is_err_and c.from_residual.result c.from_residual.ensures.1 in
    rw (refused.1, refused.2) (IsWorkRefusal-reading_all _ _ _ _ _ c.in_err-draft.ensures)
