use Rattle.std.proofs.Common.{◌++◌, ◌∷◌, [], ap, refl, sym, subst, ◌∙◌, arith}
use Rattle.rc_audit.proofs.Imports.{IsSome, err_from_is_err_and, option_map, IsClosing}
use Rattle.rc_audit.proofs.EntryLemmas.{meet_err}
use Rattle.rc_audit.proofs.StageLemmas.{closing_bad, closing_found, closing_more, closing_more_bad}
use Rattle.rc_audit.proofs.closing.Closing.judge_line.Goals as goal

pub overflow_add-self : goal.overflow_add-self
overflow_add-self c = let few = c.in_ok-wanted.ensures.few (subst IsSome (sym c.in-Some.is) refl) in omega (arith, few)

pub returns-in_default : goal.returns-in_default
returns-in_default c = λ form front at.
    let found = closing_found form c.args.compiled.now c.args.work.now c.requires c.args.self.now front at _ _ _
    (c.spec-spec.ensures.value ∙ c.accepted.ensures.value) c.in_ok-wanted.ensures.line (ap (option_map (λ bytes. bytes.items)) c.in_default.is) in
    closing_more_bad form c.args.compiled.now c.args.work.now c.requires c.args.self.now front at c.args.line.now found

pub returns-in_err-meet : goal.returns-in_err-meet
returns-in_err-meet c = λ form front at.
    let found = closing_found form c.args.compiled.now c.args.work.now c.requires c.args.self.now front at _ _ _
    (c.spec-spec.ensures.value ∙ c.accepted.ensures.value) c.in_ok-wanted.ensures.line (ap (option_map (λ bytes. bytes.items)) c.in-Some.is) in
    let refused = err_from_is_err_and c.from_residual-in_err-meet.result c.from_residual-in_err-meet.ensures.1 in
    rw (refused.1, refused.2)
    (meet_err (Unit {0}) form c.args.compiled.now c.args.work.now front c.args.line.now c.deref.result.now
    (IsClosing form c.args.compiled.now c.args.work.now c.args.self.now (front ++ c.args.line.now ∷ [])) _ c.in_err-meet.ensures
    (λ other. closing_bad form c.args.compiled.now c.args.work.now c.requires c.args.self.now front at c.args.line.now c.in-Some.wanted.items found
    (λ is. other (is ∙ sym c.deref.ensures.value))))

pub returns : goal.returns
returns c = λ form front at.
    let found = closing_found form c.args.compiled.now c.args.work.now c.requires c.args.self.now front at _ _ _
    (c.spec-spec.ensures.value ∙ c.accepted.ensures.value) c.in_ok-wanted.ensures.line (ap (option_map (λ bytes. bytes.items)) c.in-Some.is) in
    closing_more form c.args.compiled.now c.args.work.now c.requires c.args.self.now front at c.args.line.now c.in-Some.wanted.items _ found
    (c.in_ok-meet.ensures ∙ c.deref.ensures.value) refl
