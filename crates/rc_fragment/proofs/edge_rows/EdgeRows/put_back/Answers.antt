use Rattle.std.proofs.Common.{◌≡◌, Some, refl, sym, subst}
use Rattle.rc_fragment.proofs.Imports.{OnSome, IsSet, kept_in, sources_of, Container, EdgeRows}
use Rattle.std.specs.FinMap as fin
use Rattle.rc_fragment.proofs.SourcesLemmas.{becomes_changed, not_empty}
use Rattle.rc_fragment.proofs.edge_rows.EdgeRows.put_back.Goals as goal

pub returns : goal.returns
returns c =
    let x : EdgeRows = c.args.self.now in
    let source = c.args.source.now in
    let key = c.args.key.now in
    let v : Container = c.in-Some.container.now in
    let w : Container = c.put_back.new.self in
    let here : fin.get (sources_of x) source ≡ Some v = sym c.in-Some.ensures.value in
    let table = c.get_mut.follows.lender w in
    let set : IsSet x.sources table source w = subst (λ r. OnSome r (IsSet x.sources table source w)) c.in-Some.is (c.get_mut.follows.holds w) in
    becomes_changed x source key v w table here set c.requires.forms c.put_back.ensures.form (Some (c.args.extra.now, c.args.count)) c.put_back.ensures.now
    (not_empty (kept_in w) (kept_in v) key (Some (c.args.extra.now, c.args.count)) c.put_back.ensures.now refl)
