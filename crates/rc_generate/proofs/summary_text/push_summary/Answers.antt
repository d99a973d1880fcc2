use Rattle.rc_generate.proofs.TextLemmas.{summary_written}
use Rattle.rc_generate.proofs.summary_text.push_summary.Goals as goal

pub returns : goal.returns
returns c =
    summary_written c.args.summary.now _ _ _ _ _ _ _ _ _ _ _ _
    c.in_ok-push_count.ensures c.in_ok-push_count-2.ensures c.in_ok-push_count-3.ensures c.in_ok-push_count-4.ensures c.in_ok-push_count-5.ensures
    c.in_ok-push_count-6.ensures c.in_ok-push_count-7.ensures c.in_ok-push_count-8.ensures c.in_ok-push_count-9.ensures c.in_ok-push_count-10.ensures
    c.in_ok-push_bytes.ensures.ok
