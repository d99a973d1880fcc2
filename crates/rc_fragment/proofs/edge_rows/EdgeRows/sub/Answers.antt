use Rattle.std.proofs.Common.{◌≡◌, Option, Some, sym, ap, subst, ◌∙◌}
use Rattle.rc_fragment.proofs.Imports.{IsSome, OnSome, Counted, found, one_less, written, get-current, IsSet, kept_in, now_in, Values, found_in, now_at, sources_of, Container, EdgeRows}
use Rattle.std.specs.FinMap as fin
use Rattle.rc_fragment.proofs.KeptLemmas.{kept_some, less_some}
use Rattle.rc_fragment.proofs.SourcesLemmas.{becomes_changed, not_empty}
use Rattle.rc_fragment.proofs.edge_rows.EdgeRows.sub.Goals as goal

-- the row is there in the source's container
in_container : (x : EdgeRows) (source key : Values) (v : Container) → fin.get (sources_of x) source ≡ Some v → IsSome (now_at x source key) → IsSome (found (kept_in v) key)
in_container x source key v here there = subst IsSome (get-current (kept_in v) key) (subst (λ z. IsSome (found_in now_in z key)) here there)

pub sub-requires : goal.sub-requires
sub-requires c = in_container c.args.self.now c.args.source.now c.args.key.now c.in-Some.container.now (sym c.in-Some.ensures.value) c.requires.there

pub returns-clause-becomes : goal.returns-clause-becomes
returns-clause-becomes c =
    let x : EdgeRows = c.args.self.now in
    let source = c.args.source.now in
    let key = c.args.key.now in
    let v : Container = c.in-Some.container.now in
    let w : Container = c.sub.new.self in
    let here : fin.get (sources_of x) source ≡ Some v = sym c.in-Some.ensures.value in
    let table = c.get_mut.follows.lender w in
    let set : IsSet x.sources table source w = subst (λ r. OnSome r (IsSet x.sources table source w)) c.in-Some.is (c.get_mut.follows.holds w) in
    let o : Option Counted = one_less (found_in kept_in (fin.get (sources_of x) source) key) in
    let is : kept_in w ≡ written (kept_in v) key o = c.sub.ensures.now ∙ ap (λ z. written (kept_in v) key (one_less (found_in kept_in z key))) (sym here) in
    let some : IsSome (fin.get (kept_in v) key) = kept_some (fin.get (kept_in v) key) (in_container x source key v here c.requires.there) in
    becomes_changed x source key v w table here set c.requires.forms c.sub.ensures.form o is
    (not_empty (kept_in w) (kept_in v) key o is (less_some (found_in kept_in (fin.get (sources_of x) source) key) (subst (λ z. IsSome (found_in kept_in z key)) (sym here) some)))
