use Rattle.std.proofs.Common.{◌≡◌, ℕ, ◌++◌, List, [], get_or, length, sym, ap, subst, ◌∙◌, arith}
use Rattle.rc_plan.proofs.Imports.{eqb-true, false≢true, nil_from_length, nat_cmp, Within, union, In, gather, OpKind, Query, Insert, Remove, Update, bound, edge_at, extra_of, Lookup, Scan, IsResolvedEdge}
use Rattle.rc_plan.proofs.ResolvedLemmas.{at_number}
use Rattle.rc_plan.proofs.access.query_mode.Goals as goal
use Rattle.rc_plan.proofs.access.query_mode.Goals.{else-spec-gt0-via-then-spec-gt0+else-is_given_row, else-spec-gt0-via-else-spec-gt0}

-- what a query asks for
outs_of : OpKind → List ℕ
outs_of (Query outs ranges) = outs
outs_of Insert = []
outs_of Remove = []
outs_of Update = []

pub from_list-pattern-requires : goal.from_list-pattern-requires
from_list-pattern-requires c n m = c.requires.pattern n (subst (λ (cols : List ℕ). In n cols) c.list-2.ensures m)

pub is_given_row-requires : goal.is_given_row-requires
is_given_row-requires c = c.requires.outs c.in-Query.outs c.in-Query.ranges c.in-Query.is

pub is_given_source-requires : goal.is_given_source-requires
is_given_source-requires c =
    (at_number (IsResolvedEdge c.args.spec.now) c.args.edges.now (length c.args.spec.now.edges) c.args.edge c.index-edges-edge.result c.requires.resolved c.requires.edge).keys

pub returns-then-is_given_row-clause-some : goal.returns-then-is_given_row-clause-some
returns-then-is_given_row-clause-some c =
    let spec = c.args.spec.now in
    let op = c.args.op.now in
    let number = c.args.edge in
    let resolved = at_number (IsResolvedEdge spec) c.args.edges.now (length spec.edges) number c.index-edges-edge.result c.requires.resolved c.requires.edge in
    let pattern : c.from_list-pattern.result ≡ gather nat_cmp op.pattern = c.from_list-pattern.ensures.value ∙ ap (gather nat_cmp) c.list-2.ensures in
    let row = c.is_given_row.ensures.0 c.if-is_given_row.true in
    let none : c.in-Query.ranges ≡ [] = nil_from_length c.in-Query.ranges (sym (ap length c.list.ensures) ∙ eqb-true (length c.list.result.now) 0 (sym c.is_empty.ensures ∙ c.if-not-is_empty.false)) in
    record {
      given = sym pattern ∙ row.0 ∙ ap (λ (cols : List ℕ). union cols (get_or c.args.edges.now number c.index-edges-edge.result).key) resolved.source ∙ ap (union (bound spec (edge_at spec number).from)) resolved.key;
      outs = c.in-Query.outs;
      query = c.in-Query.is ∙ ap (Query c.in-Query.outs) none;
      within = subst (Within c.in-Query.outs) resolved.target row.1;
      told = c.if-spec-gt0.true;
    }

pub returns-then-is_given_source-clause-some : goal.returns-then-is_given_source-clause-some
returns-then-is_given_source-clause-some c =
    let spec = c.args.spec.now in
    let op = c.args.op.now in
    let number = c.args.edge in
    let there = get_or c.args.edges.now number c.index-edges-edge.result in
    let edge = edge_at spec number in
    let resolved = at_number (IsResolvedEdge spec) c.args.edges.now (length spec.edges) number c.index-edges-edge.result c.requires.resolved c.requires.edge in
    let pattern : c.from_list-pattern.result ≡ gather nat_cmp op.pattern = c.from_list-pattern.ensures.value ∙ ap (gather nat_cmp) c.list-2.ensures in
    let source = c.is_given_source.ensures.0 c.if-is_given_source.true in
    let outs : c.in-Query.outs ≡ edge.key ++ extra_of spec edge = source.2 ∙ ap (λ (cols : List ℕ). cols ++ there.extra) resolved.key ∙ ap (λ (cols : List ℕ). edge.key ++ cols) resolved.extra in
    let none : c.in-Query.ranges ≡ [] = nil_from_length c.in-Query.ranges (sym (ap length c.list.ensures) ∙ eqb-true (length c.list.result.now) 0 (sym c.is_empty.ensures ∙ c.if-not-is_empty.false)) in
    record {
      given = sym pattern ∙ source.0 ∙ resolved.source;
      query = c.in-Query.is ∙ ap (Query c.in-Query.outs) none ∙ ap (λ (cols : List ℕ). Query cols []) outs;
      keyed = λ e. source.1 (resolved.key ∙ e);
    }

pub returns-else-is_given_source-clause-none : goal.returns-else-is_given_source-clause-none
unfolding outs_of
returns-else-is_given_source-clause-none c e Lookup asks =
    let spec = c.args.spec.now in
    let number = c.args.edge in
    let there = get_or c.args.edges.now number c.index-edges-edge.result in
    let resolved = at_number (IsResolvedEdge spec) c.args.edges.now (length spec.edges) number c.index-edges-edge.result c.requires.resolved c.requires.edge in
    let pattern : c.from_list-pattern.result ≡ gather nat_cmp c.args.op.now.pattern = c.from_list-pattern.ensures.value ∙ ap (gather nat_cmp) c.list-2.ensures in
    let given : c.from_list-pattern.result ≡ union there.source there.key =
    pattern ∙ asks.given ∙ sym (ap (λ (cols : List ℕ). union cols there.key) resolved.source ∙ ap (union (bound spec (edge_at spec number).from)) resolved.key) in
    let outs : asks.outs ≡ c.in-Query.outs = ap outs_of (sym asks.query ∙ c.in-Query.is) in
    let within : Within c.in-Query.outs there.target = subst (λ (cols : List ℕ). Within cols there.target) outs (subst (Within asks.outs) (sym resolved.target) asks.within) in
    elim c.else-spec-gt0.branch [
      | else-spec-gt0-via-then-spec-gt0+else-is_given_row w ↦ absurd (false≢true (sym w.if-is_given_row.false ∙ w.is_given_row.ensures.1 (given, within)))
      | else-spec-gt0-via-else-spec-gt0 w ↦ let told = asks.told in let untold = w.if-spec-gt0.false in omega (arith, told, untold)
    ]
returns-else-is_given_source-clause-none c e Scan asks =
    let spec = c.args.spec.now in
    let number = c.args.edge in
    let there = get_or c.args.edges.now number c.index-edges-edge.result in
    let edge = edge_at spec number in
    let resolved = at_number (IsResolvedEdge spec) c.args.edges.now (length spec.edges) number c.index-edges-edge.result c.requires.resolved c.requires.edge in
    let pattern : c.from_list-pattern.result ≡ gather nat_cmp c.args.op.now.pattern = c.from_list-pattern.ensures.value ∙ ap (gather nat_cmp) c.list-2.ensures in
    let listed : edge.key ++ extra_of spec edge ≡ there.key ++ there.extra = sym (ap (λ (cols : List ℕ). cols ++ there.extra) resolved.key ∙ ap (λ (cols : List ℕ). edge.key ++ cols) resolved.extra) in
    let outs : c.in-Query.outs ≡ edge.key ++ extra_of spec edge = ap outs_of (sym c.in-Query.is ∙ asks.query) in
    absurd (false≢true (sym c.if-is_given_source.false ∙ c.is_given_source.ensures.1 (pattern ∙ asks.given ∙ sym resolved.source, λ none. asks.keyed (sym resolved.key ∙ none), outs ∙ listed)))
