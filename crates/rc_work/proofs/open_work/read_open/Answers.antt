use Rattle.std.proofs.Common.{List, sym, ap, ◌∙◌, subst}
use Rattle.rc_work.proofs.Imports.{AllByRecursion, Op, HasKnownColumns, IsRawTurn, AreOfWords, HasThreads, RoundsFit, HasSingleTurns, KeepsLimits, KnowsTexts, IsOpenDraft-open_all, work_of, KeepsLimits-work_with, HasThreads-work_with, HasSingleTurns-work_with, RoundsFit-ranked_over, KnowsTexts-work_of, with_operations, HasKnownColumns-over, Work}
use Rattle.rc_work.proofs.open_work.read_open.Goals as goal

pub work_over-requires-clause-columns : goal.work_over-requires-clause-columns
work_over-requires-clause-columns c =
    let is = IsOpenDraft-open_all _ _ _ _ _ c.in_ok-read.ensures in
    subst (λ (shapes : List Op). HasKnownColumns (with_operations c.args.spec.now shapes)) (sym c.list.ensures)
    (HasKnownColumns-over c.args.spec.now _ c.requires.in_range c.requires.well_named is.shapes)

pub work_over-requires-clause-turns : goal.work_over-requires-clause-turns
work_over-requires-clause-turns c =
    let is = IsOpenDraft-open_all _ _ _ _ _ c.in_ok-read.ensures in
    subst (λ (shapes : List Op). AllByRecursion (AllByRecursion (IsRawTurn (with_operations c.args.spec.now shapes))) c.in_ok-read.read.draft.rounds)
    (sym c.list.ensures) is.draft.turns

pub returns-clause-few : goal.returns-clause-few
returns-clause-few c = (IsOpenDraft-open_all _ _ _ _ _ c.in_ok-read.ensures).few

pub returns-clause-shapes : goal.returns-clause-shapes
returns-clause-shapes c = (IsOpenDraft-open_all _ _ _ _ _ c.in_ok-read.ensures).shapes

pub returns-clause-limits : goal.returns-clause-limits
returns-clause-limits c =
    let is = IsOpenDraft-open_all _ _ _ _ _ c.in_ok-read.ensures in
    let work = c.in_ok-work.ensures.work ∙ ap (λ (shapes : List Op). work_of (with_operations c.args.spec.now shapes) c.in_ok-read.read.draft) c.list.ensures in
    subst (λ (w : Work). KeepsLimits w) (sym work) (KeepsLimits-work_with _ _ _ is.draft)

pub returns-clause-threads : goal.returns-clause-threads
returns-clause-threads c =
    let is = IsOpenDraft-open_all _ _ _ _ _ c.in_ok-read.ensures in
    let work = c.in_ok-work.ensures.work ∙ ap (λ (shapes : List Op). work_of (with_operations c.args.spec.now shapes) c.in_ok-read.read.draft) c.list.ensures in
    subst (λ (w : Work). HasThreads w) (sym work) (HasThreads-work_with (with_operations c.args.spec.now c.in_ok-read.read.shapes) _ _ is.draft)

pub returns-clause-fit : goal.returns-clause-fit
returns-clause-fit c =
    let is = IsOpenDraft-open_all _ _ _ _ _ c.in_ok-read.ensures in
    let ext = with_operations c.args.spec.now c.in_ok-read.read.shapes in
    let work = c.in_ok-work.ensures.work ∙ ap (λ (shapes : List Op). work_of (with_operations c.args.spec.now shapes) c.in_ok-read.read.draft) c.list.ensures in
    let known = HasKnownColumns-over c.args.spec.now c.in_ok-read.read.shapes c.requires.in_range c.requires.well_named is.shapes in
    let words = subst (λ (w : Work). AreOfWords w.rounds) work c.in_ok-work.ensures.words in
    subst (λ (w : Work). RoundsFit ext w.rounds) (sym work) (RoundsFit-ranked_over ext _ _ known.distinct is.draft.turns words)

pub returns-clause-known_texts : goal.returns-clause-known_texts
returns-clause-known_texts c =
    let is = IsOpenDraft-open_all _ _ _ _ _ c.in_ok-read.ensures in
    let ext = with_operations c.args.spec.now c.in_ok-read.read.shapes in
    let work = c.in_ok-work.ensures.work ∙ ap (λ (shapes : List Op). work_of (with_operations c.args.spec.now shapes) c.in_ok-read.read.draft) c.list.ensures in
    subst (λ (w : Work). KnowsTexts ext w) (sym work) (KnowsTexts-work_of ext c.in_ok-read.read.draft is.draft)

pub returns-clause-single : goal.returns-clause-single
returns-clause-single c =
    let is = IsOpenDraft-open_all _ _ _ _ _ c.in_ok-read.ensures in
    let work = c.in_ok-work.ensures.work ∙ ap (λ (shapes : List Op). work_of (with_operations c.args.spec.now shapes) c.in_ok-read.read.draft) c.list.ensures in
    subst (λ (w : Work). HasSingleTurns w) (sym work) (HasSingleTurns-work_with (with_operations c.args.spec.now c.in_ok-read.read.shapes) _ _ is.single)
