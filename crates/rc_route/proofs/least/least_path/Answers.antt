use Rattle.std.proofs.Common.{◌≡◌, ◌<◌, ℕ, List, [], length, arith, sym, subst, ◌∙◌, refl}
use Rattle.rc_route.proofs.Imports.{In, Spec, IsSealed, at_found, IsTopologicalOrder, IsLeastPath, SomeNodeBinds, paths_are_good, AreLeastPaths, IsFirstLeast, Binds, cost_to, path_at, found_path}
use Rattle.rc_route.proofs.BestLemmas.{least_begin, least_to}
use Rattle.rc_route.proofs.least.least_path.Goals as goal

pub last_node-requires-clause-paths : goal.last_node-requires-clause-paths
last_node-requires-clause-paths c = λ x m.
    let spec = c.spec-spec.result.now in
    let top : IsTopologicalOrder spec c.order.result.now = subst (λ (s : Spec). IsTopologicalOrder s c.order.result.now) (sym c.spec-spec.ensures.value) c.order.ensures in
    least_begin spec c.args.pattern c.order.result.now c.in_ok-paths.paths.items top c.in_ok-paths.ensures x (subst (In x) c.deref.ensures.value m)

pub returns-in-None-clause-least : goal.returns-in-None-clause-least
returns-in-None-clause-least c = subst (λ (s : Spec). SomeNodeBinds s c.args.need → ⊥) c.spec-spec.ensures.value (λ b. c.in-None.ensures b.0 b.1 b.2)

pub returns-clause-least : goal.returns-clause-least
returns-clause-least c =
    let spec = c.spec-spec.result.now in
    let sealed : IsSealed spec = subst IsSealed (sym c.spec-spec.ensures.value) c.spec-spec.ensures.sealed in
    let paths : List (List ℕ) = c.in_ok-paths.paths.items in
    let top : IsTopologicalOrder spec c.order.result.now = subst (λ (s : Spec). IsTopologicalOrder s c.order.result.now) (sym c.spec-spec.ensures.value) c.order.ensures in
    let v : ℕ = c.in-Some.node in
    let best : IsFirstLeast (Binds spec c.args.need) (cost_to spec c.args.pattern paths) (length spec.nodes) v =
    subst (λ z. IsFirstLeast (Binds spec c.args.need) (cost_to spec c.args.pattern z) (length spec.nodes) v) c.deref.ensures.value c.in-Some.ensures in
    let found : IsLeastPath spec c.args.pattern c.args.need (path_at paths v) =
    found_path spec c.args.pattern sealed.in_range sealed.populated paths c.args.need v (least_to spec c.args.pattern c.order.result.now paths top c.in_ok-paths.ensures) best in
    let areleast : AreLeastPaths spec c.args.pattern c.order.result.now paths = c.in_ok-paths.ensures in
    let count : length paths ≡ length spec.nodes = areleast.count in
    let below : v < length spec.nodes = best.below in
    let path : path_at paths v ≡ c.index.result.now = at_found paths paths v [] c.index.result.now refl (omega arith) c.index.ensures in
    subst (λ (s : Spec). IsLeastPath s c.args.pattern c.args.need c.in_ok-copy-in-Some.field-0) c.spec-spec.ensures.value
    (subst (IsLeastPath spec c.args.pattern c.args.need) (path ∙ sym c.in_ok-copy-in-Some.ensures) found)

pub returns-clause-good : goal.returns-clause-good
returns-clause-good c =
    let least : IsLeastPath c.args.accepted.now c.args.pattern c.args.need c.in_ok-copy-in-Some.field-0 = returns-clause-least c in
    paths_are_good c.args.accepted.now c.spec-spec.ensures.sealed.populated c.spec-spec.ensures.sealed.accepted.adequate c.args.need c.in_ok-copy-in-Some.field-0 least.path_for
