use Rattle.rc_work.proofs.Imports.{sym, subst, err_from_is_err_and, rest_place, IsDraft, IsOfAlso, AreOfWords, HasThreads, RoundsFit, HasSingleTurns, KeepsLimits, KnowsTexts, KeepsLimits-work_with, HasThreads-work_with, HasSingleTurns-work_with, RoundsFit-ranked_rounds, KnowsTexts-work_of, Work}
use Rattle.rc_work.proofs.PartLemmas.{IsDraft-part, IsOfAlso-part, IsWorkRefusal-part, work_part_read}
use Rattle.rc_work.proofs.part.read_work_part.Goals.{In_ok-draft}
use Rattle.rc_work.proofs.part.read_work_part.Goals as goal

-- the draft keeps the limits, and its turns are right
drafted : (c : In_ok-draft) → IsDraft c.args.spec.now c.in_ok-draft.draft
drafted c =
    let part = c.in_ok-draft.ensures in subst (IsDraft c.args.spec.now) part.2 (IsDraft-part c.args.also c.args.spec.now _ _ part.0 part.1)

pub work_of-requires-clause-turns : goal.work_of-requires-clause-turns
work_of-requires-clause-turns c = (drafted (goal.at.work_of-requires-clause-turns c).In_ok-draft).turns

pub returns-clause-exact : goal.returns-clause-exact
returns-clause-exact c =
    work_part_read c.args.also c.args.spec.now (rest_place c.args.bytes.now c.args.rest) c.new-lines.result c.in_ok-draft.draft c.in_ok-draft.behind c.args.rest.version
    c.in_ok-work.work c.new-lines.ensures c.in_ok-draft.ensures c.in_ok-work.ensures.work

pub returns-clause-limits : goal.returns-clause-limits
returns-clause-limits c =
    let is = drafted (goal.at.returns-clause-limits c).In_ok-draft in
    subst (λ (work : Work). KeepsLimits work) (sym c.in_ok-work.ensures.work) (KeepsLimits-work_with c.args.spec.now _ _ is)

pub returns-clause-threads : goal.returns-clause-threads
returns-clause-threads c =
    let is = drafted (goal.at.returns-clause-threads c).In_ok-draft in
    subst (λ (work : Work). HasThreads work) (sym c.in_ok-work.ensures.work) (HasThreads-work_with c.args.spec.now _ _ is)

pub returns-clause-fit : goal.returns-clause-fit
returns-clause-fit c =
    let is = drafted (goal.at.returns-clause-fit c).In_ok-draft in
    let words = subst (λ (work : Work). AreOfWords work.rounds) c.in_ok-work.ensures.work c.in_ok-work.ensures.words in
    subst (λ (work : Work). RoundsFit c.args.spec.now work.rounds) (sym c.in_ok-work.ensures.work) (RoundsFit-ranked_rounds _ _ _ c.requires.well_named is.turns words)

pub returns-clause-known_texts : goal.returns-clause-known_texts
returns-clause-known_texts c =
    let is = drafted (goal.at.returns-clause-known_texts c).In_ok-draft in
    subst (λ (work : Work). KnowsTexts c.args.spec.now work) (sym c.in_ok-work.ensures.work) (KnowsTexts-work_of c.args.spec.now _ is)

pub returns-clause-single : goal.returns-clause-single
returns-clause-single c nothing =
    let part = c.in_ok-draft.ensures in
    let of = subst (IsOfAlso c.args.also) part.2 (IsOfAlso-part c.args.also c.args.spec.now _ _ part.0 part.1) in
    let is = subst (λ also. IsOfAlso also c.in_ok-draft.draft) nothing of in
    subst (λ (work : Work). HasSingleTurns work) (sym c.in_ok-work.ensures.work) (HasSingleTurns-work_with c.args.spec.now _ _ is)

pub returns-in_err-draft-clause-rule : goal.returns-in_err-draft-clause-rule
returns-in_err-draft-clause-rule c =
    let refused = err_from_is_err_and c.from_residual.result c.from_residual.ensures.1 in
    rw (refused.1, refused.2) (IsWorkRefusal-part c.args.also c.args.spec.now _ _ _ c.in_err-draft.ensures)
