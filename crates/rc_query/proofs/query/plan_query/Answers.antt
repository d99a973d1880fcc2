use Rattle.std.proofs.Common.{◌≡◌, ◌∙◌, ℕ, List, sym, subst, ap}
use Rattle.rc_query.proofs.Imports.{nat_cmp, IfOk-weaker, In, gather, Within, union, union_within, all_columns, Statement, IsAcceptedFor, below_32, columns_known, gather_some, union_some, Routing, ChoosesRoutes, IsPlanned, asked_columns, query_plan, accepted_if_planned}
use Rattle.rc_query.proofs.QueryLemmas.{outs_among, ranges_among, query_planned}
use Rattle.rc_query.proofs.query.plan_query.Goals as goal

pub from_list-bounded-requires : goal.from_list-bounded-requires
from_list-bounded-requires c = λ k m.
    let spec = c.args.accepted.now in
    below_32 spec c.pattern_of-pattern.ensures.sealed c.in-Query.ranges (ranges_among spec c.args.op.now c.requires.op c.in-Query.outs c.in-Query.ranges c.in-Query.is) k (subst (In k) c.list.ensures m)

pub from_list-answered-requires : goal.from_list-answered-requires
from_list-answered-requires c = λ k m.
    let spec = c.args.accepted.now in
    below_32 spec c.pattern_of-pattern.ensures.sealed c.in-Query.outs (outs_among spec c.args.op.now c.requires.op c.in-Query.outs c.in-Query.ranges c.in-Query.is) k (subst (In k) c.list-in-Query.ensures m)

pub plan_search-requires-clause-some : goal.plan_search-requires-clause-some
plan_search-requires-clause-some c =
    let outs : c.from_list-answered.result ≡ gather nat_cmp c.in-Query.outs = c.from_list-answered.ensures.value ∙ ap (gather nat_cmp) c.list-in-Query.ensures in
    union_some c.pattern_of-pattern.result c.union.result
    (λ e. union_some c.from_list-bounded.result c.from_list-answered.result
    (λ f. gather_some c.in-Query.outs (c.requires.op.keeps.o3 c.in-Query.outs c.in-Query.ranges c.in-Query.is).some (sym outs ∙ f)) (sym c.union.ensures.value ∙ e))

pub plan_search-requires-clause-known : goal.plan_search-requires-clause-known
plan_search-requires-clause-known c =
    let spec = c.args.accepted.now in
    let bounded : c.from_list-bounded.result ≡ gather nat_cmp c.in-Query.ranges = c.from_list-bounded.ensures.value ∙ ap (gather nat_cmp) c.list.ensures in
    let outs : c.from_list-answered.result ≡ gather nat_cmp c.in-Query.outs = c.from_list-answered.ensures.value ∙ ap (gather nat_cmp) c.list-in-Query.ensures in
    union_within c.pattern_of-pattern.result c.union.result (all_columns spec) c.pattern_of-pattern.ensures.known
    (subst (λ z. Within z (all_columns spec)) (sym c.union.ensures.value)
    (union_within c.from_list-bounded.result c.from_list-answered.result (all_columns spec)
    (subst (λ z. Within z (all_columns spec)) (sym bounded) (columns_known spec c.in-Query.ranges (ranges_among spec c.args.op.now c.requires.op c.in-Query.outs c.in-Query.ranges c.in-Query.is)))
    (subst (λ z. Within z (all_columns spec)) (sym outs) (columns_known spec c.in-Query.outs (outs_among spec c.args.op.now c.requires.op c.in-Query.outs c.in-Query.ranges c.in-Query.is)))))

pub returns-clause-planned : goal.returns-clause-planned
returns-clause-planned c =
    let spec = c.args.accepted.now in
    let pattern : List ℕ = c.pattern_of-pattern.result in
    let bounded : c.from_list-bounded.result ≡ gather nat_cmp c.in-Query.ranges = c.from_list-bounded.ensures.value ∙ ap (gather nat_cmp) c.list.ensures in
    let outs : c.from_list-answered.result ≡ gather nat_cmp c.in-Query.outs = c.from_list-answered.ensures.value ∙ ap (gather nat_cmp) c.list-in-Query.ensures in
    let asked : c.union.result ≡ asked_columns c.in-Query.ranges c.in-Query.outs =
    c.union.ensures.value ∙ ap (λ z. union z c.from_list-answered.result) bounded ∙ ap (union (gather nat_cmp c.in-Query.ranges)) outs in
    IfOk-weaker c.plan_search.result
    (λ (plan : List Statement). (route : Routing) → ChoosesRoutes spec route → plan ≡ query_plan spec pattern (route pattern (union pattern c.union.result)))
    (IsPlanned spec c.args.op.now)
    (λ plan made. query_planned spec c.pattern_of-pattern.ensures.sealed c.args.op.now c.in-Query.outs c.in-Query.ranges pattern c.union.result plan c.in-Query.is c.pattern_of-pattern.ensures.value asked made)
    c.plan_search.ensures

pub returns-clause-accepted : goal.returns-clause-accepted
returns-clause-accepted c =
    let spec = c.args.accepted.now in
    IfOk-weaker c.plan_search.result (IsPlanned spec c.args.op.now) (IsAcceptedFor spec c.args.op.now) (accepted_if_planned spec c.pattern_of-pattern.ensures.sealed c.args.op.now c.requires.op.among) (returns-clause-planned c)
