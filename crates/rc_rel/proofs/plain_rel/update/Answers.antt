use Rattle.std.proofs.Common.{◌≡◌, ◌∙◌, ℕ, List, [], get_or, Some, None, ap, subst}
use Rattle.rc_rel.proofs.Imports.{filter, nat_cmp, remove, In, gather, put, Pairs, agree_on, tuple_cmp, first_broken_dependency, updated_first, updated_unless, IsFirstAgreeing}
use Rattle.rc_rel.proofs.ChangeLemmas.{agreeing-set, updated_at}
use Rattle.rc_rel.proofs.RunLemmas.{same_outcome}
use Rattle.rc_rel.proofs.plain_rel.update.Goals as goal

pub from_list-requires : goal.from_list-requires
from_list-requires c = λ k m. c.requires.pattern k (subst (In k) c.list.ensures m)

pub returns-in-Some-clause-ok : goal.returns-in-Some-clause-ok
returns-in-Some-clause-ok c =
    let r : List Pairs = c.args.tuples.now.items in
    let t : Pairs = c.args.args.now in
    let at : ℕ = c.in-Some.at in
    let set : c.from_list.result ≡ gather nat_cmp c.args.pattern.now = c.from_list.ensures.value ∙ ap (gather nat_cmp) c.list.ensures in
    let found : IsFirstAgreeing (gather nat_cmp c.args.pattern.now) t r (Some at) =
    subst (λ xs. IsFirstAgreeing xs t r (Some at)) set (subst (λ (l : List Pairs). IsFirstAgreeing c.from_list.result t l (Some at)) c.deref.ensures.value c.in-Some.ensures) in
    same_outcome c.replace_at.result
    (updated_unless (first_broken_dependency 1 c.args.deps.now (put tuple_cmp t (remove r at))) (get_or r at []) (put tuple_cmp t (remove r at)) r)
    (updated_first (filter (agree_on c.args.pattern.now t) r) c.args.deps.now t r) c.replace_at.new.tuples.items
    (updated_at (filter (agree_on c.args.pattern.now t) r) r found.1.0 c.args.deps.now t at c.requires.kept.rising found.0 (agreeing-set c.args.pattern.now t r ∙ found.1.1))
    c.replace_at.ensures.ok

pub returns-in-None-clause-ok : goal.returns-in-None-clause-ok
returns-in-None-clause-ok c =
    let r : List Pairs = c.args.tuples.now.items in
    let t : Pairs = c.args.args.now in
    let set : c.from_list.result ≡ gather nat_cmp c.args.pattern.now = c.from_list.ensures.value ∙ ap (gather nat_cmp) c.list.ensures in
    let none : IsFirstAgreeing (gather nat_cmp c.args.pattern.now) t r None =
    subst (λ xs. IsFirstAgreeing xs t r None) set (subst (λ (l : List Pairs). IsFirstAgreeing c.from_list.result t l None) c.deref.ensures.value c.in-None.ensures) in
    ap (λ f. updated_first f c.args.deps.now t r) (agreeing-set c.args.pattern.now t r ∙ none)
