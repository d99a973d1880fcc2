use Rattle.std.proofs.Common.{◌++◌, ◌∷◌, [], List, sym, subst, ◌∙◌}
use Rattle.rc_audit.proofs.Imports.{Call, Keeps, take_all, after_steps, plain_steps}
use Rattle.rc_audit.proofs.PrintLemmas.{few_before, lines_all, lines_more, lines_none, relation_before, relation_more}
use Rattle.rc_audit.proofs.entries.print_made.Goals as goal

pub loop-call-init : goal.loop-call-init
loop-call-init c = λ r keeps few. (
  c.in_ok-lines.ensures ∙ sym (lines_none c.args.compiled.now.spec c.args.work.now.ranks c.args.place c.args.thread r c.args.calls.now),
  keeps,
)

pub loop-call-preserved : goal.loop-call-preserved
loop-call-preserved c = λ r keeps few.
    let spec = c.args.compiled.now.spec in
    let calls = c.args.calls.now in
    let n = c.loop-call.call-index in
    let within = c.loop-call-test.true in
    let so_far = c.loop-call.invariant r keeps few in
    let printed = c.in_ok-line.ensures (relation_before spec r calls n) so_far.1 (few_before spec c.args.work.now.ranks c.args.place c.args.thread r calls n c.call-item.result within c.call-item.is few) in (
      c.in_ok-push.ensures.ok ∙ (λ i. so_far.0 i ++ (c.from_vec.ensures ∙ printed.0) i ∷ [])
          ∙ sym (lines_more spec c.args.work.now.ranks c.args.place c.args.thread r calls n c.call-item.result within c.call-item.is),
      subst (Keeps spec c.print_call.new.relation) (sym (relation_more spec c.args.work.now.ranks c.args.place c.args.thread r calls n c.call-item.result within c.call-item.is)) printed.1,
    )

pub returns : goal.returns
returns c = λ r keeps few.
    let spec = c.args.compiled.now.spec in
    let calls = c.args.calls.now in
    let all = take_all c.loop-call.call-index calls c.loop-call-test.false in
    let made = c.loop-call.invariant r keeps few in (
      made.0 ∙ lines_all spec c.args.work.now.ranks c.args.place c.args.thread r calls c.loop-call.call-index all,
      subst (λ (l : List Call). Keeps spec c.loop-call.relation (after_steps spec r (plain_steps spec r l))) all made.1,
    )
