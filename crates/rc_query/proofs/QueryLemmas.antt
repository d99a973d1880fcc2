-- The plan of a query as it was made.
use Rattle.std.proofs.Common.{◌≡◌, ℕ, List, [], ◌++◌, length, sym, ap, subst, ◌∙◌}
use Rattle.rc_query.proofs.Imports.{union, Op, Query, Shared, Spec, IsSealed, AreBelow, HasOutsAmong, range_columns, Statement, Emit, pattern_columns, MayBePlanned, Routing, ChoosesRoutes, IsPlanned, classes_of_edges, locks_and_reads, ending, asked_columns, query_plan, plan_for, chosen_routing, routing_chooses}

pub outs_among : (spec : Spec) (op : Op) → MayBePlanned spec op → (outs ranges : List ℕ) → op.kind ≡ Query outs ranges → AreBelow (length spec.columns) outs
outs_among spec op may outs ranges e = subst (HasOutsAmong (length spec.columns)) e may.among.outs

pub ranges_among : (spec : Spec) (op : Op) → MayBePlanned spec op → (outs ranges : List ℕ) → op.kind ≡ Query outs ranges → AreBelow (length spec.columns) ranges
ranges_among spec op may outs ranges e = subst (λ k. AreBelow (length spec.columns) (range_columns k)) e may.among.ranges

-- ---- the plan of a query

pub query_made : (spec given : Spec) (pattern classes route first second : List ℕ) (begun reads plan : List Statement) → given ≡ spec → first ≡ route → second ≡ route
    → classes ≡ classes_of_edges given first → begun ≡ [] → reads ≡ begun ++ locks_and_reads given Shared pattern classes second → plan ≡ reads ++ ending Emit classes
    → plan ≡ query_plan spec pattern route
query_made spec given pattern classes route first second begun reads plan same one two of none read end =
    let wanted : classes ≡ classes_of_edges spec route = of ∙ ap (λ (s : Spec). classes_of_edges s first) same ∙ ap (classes_of_edges spec) one in
    let made : reads ≡ locks_and_reads spec Shared pattern (classes_of_edges spec route) route =
    read ∙ ap (λ z. z ++ locks_and_reads given Shared pattern classes second) none ∙ ap (λ (s : Spec). locks_and_reads s Shared pattern classes second) same
    ∙ ap (locks_and_reads spec Shared pattern classes) two ∙ ap (λ z. locks_and_reads spec Shared pattern z route) wanted in
    end ∙ ap (λ z. z ++ ending Emit classes) made ∙ ap (λ z. locks_and_reads spec Shared pattern (classes_of_edges spec route) route ++ ending Emit z) wanted

pub query_planned : (spec : Spec) → IsSealed spec → (op : Op) (outs ranges pattern need : List ℕ) (plan : List Statement) → op.kind ≡ Query outs ranges
    → pattern ≡ pattern_columns op → need ≡ asked_columns ranges outs
    → ((route : Routing) → ChoosesRoutes spec route → plan ≡ query_plan spec pattern (route pattern (union pattern need)))
    → IsPlanned spec op plan
query_planned spec s op outs ranges pattern need plan kind given found made =
    let route : Routing = chosen_routing spec s in
    let bound : List ℕ = pattern_columns op in
    record {
      route = route;
      chosen = routing_chooses spec s;
      value = made route (routing_chooses spec s) ∙ ap (λ z. query_plan spec z (route z (union z need))) given
          ∙ ap (λ z. query_plan spec bound (route bound (union bound z))) found ∙ ap (plan_for spec route bound) (sym kind);
    }
