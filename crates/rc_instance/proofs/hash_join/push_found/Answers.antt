use Rattle.std.proofs.Common.{◌≡◌, ◌++◌, rules, sym, ap, subst, ◌∙◌, Some, None}
use Rattle.rc_instance.proofs.Imports.{OnOk, append-nil, Pairs, merges_of, project, Entries, found_at, tuples_in, tuples_of}
use Rattle.rc_instance.proofs.IndexLemmas.{found}
use Rattle.rc_instance.proofs.hash_join.push_found.Goals as goal

pub returns-in-Some : goal.returns-in-Some
returns-in-Some c =
    let es : Entries = c.args.index.now.entries in
    let key : Pairs = project c.args.columns c.args.tuple.now in
    let is : c.pairs.result.now ≡ key = search rules in
    let same : tuples_of c.deref.result.now ≡ found_at es key =
    ap tuples_of c.deref.ensures.value ∙ sym (ap (found_at es) (sym is) ∙ ap tuples_in (found c.pairs.result.now (Some c.in-Some.others.now) es c.in-Some.ensures.value)) in
    subst (λ us. OnOk c.push_merges.result (c.push_merges.new.merges.items ≡ c.args.merges.now.items ++ merges_of c.args.tuple.now us)) same c.push_merges.ensures

pub returns : goal.returns
returns c =
    let es : Entries = c.args.index.now.entries in
    let key : Pairs = project c.args.columns c.args.tuple.now in
    let is : c.pairs.result.now ≡ key = search rules in
    sym (ap (λ us. c.args.merges.now.items ++ merges_of c.args.tuple.now us) (ap (found_at es) (sym is) ∙ ap tuples_in (found c.pairs.result.now None es c.in-None.ensures.value)) ∙ append-nil c.args.merges.now.items)
