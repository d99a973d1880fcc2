use Rattle.std.proofs.Common.{◌≡◌, ◌∙◌, List, None, sym, ap, subst}
use Rattle.rc_rel.proofs.Imports.{remove, put, Pairs, tuple_cmp, Satisfies, Dep, first_broken_dependency, IsKnownToSatisfy}
use Rattle.rc_rel.proofs.ChangeLemmas.{kept_with, rising_remove, satisfies_remove}
use Rattle.rc_rel.proofs.plain_rel.replace_at.Goals as goal

pub first_broken_dependency-requires-clause-satisfied : goal.first_broken_dependency-requires-clause-satisfied
first_broken_dependency-requires-clause-satisfied c = λ e.
    let r : List Pairs = c.args.tuples.now.items in
    let is : c.deref-3.result.now ≡ remove r c.args.at = c.deref-3.ensures.value ∙ c.remove-old.ensures.items ∙ ap (λ l. remove l c.args.at) (c.in_ok-rest.ensures ∙ c.deref.ensures.value) in
    let same : c.args.known.now.items ≡ c.args.deps.now = sym c.deref-2.ensures.value ∙ c.same_deps-is_known.ensures e in
    subst (λ (l : List Pairs). Satisfies l c.args.deps.now) (sym is)
    (subst (λ (d : List Dep). Satisfies (remove r c.args.at) d) same (satisfies_remove c.args.known.now.items r c.args.at c.requires.kept c.requires.at))

pub returns-clause-kept : goal.returns-clause-kept
returns-clause-kept c =
    let r : List Pairs = c.args.tuples.now.items in
    let rest : List Pairs = remove r c.args.at in
    let removed : c.remove-old.new.self.items ≡ rest = c.remove-old.ensures.items ∙ ap (λ l. remove l c.args.at) (c.in_ok-rest.ensures ∙ c.deref.ensures.value) in
    let none : first_broken_dependency 1 c.args.deps.now (put tuple_cmp c.args.args.now rest) ≡ None =
    ap (λ (l : List Pairs). first_broken_dependency 1 c.args.deps.now (put tuple_cmp c.args.args.now l)) (sym (c.deref-3.ensures.value ∙ removed)) ∙ sym c.in_default.ensures in
    subst (λ (l : List Dep). IsKnownToSatisfy c.put_tuple.new.tuples.items l) (sym c.in_ok-remember.ensures.ok)
    (subst (λ (l : List Pairs). IsKnownToSatisfy l c.args.deps.now)
    (sym (c.in_ok-put_tuple.ensures.ok ∙ ap (λ (t : Pairs). put tuple_cmp t c.remove-old.new.self.items) c.in_ok-copy.ensures ∙ ap (put tuple_cmp c.args.args.now) removed))
    (kept_with c.args.deps.now c.args.args.now rest (rising_remove r c.args.at c.requires.kept.rising c.requires.at) none))
