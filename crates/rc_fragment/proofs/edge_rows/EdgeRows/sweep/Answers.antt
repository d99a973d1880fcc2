use Rattle.std.proofs.Common.{◌≡◌, Option, Some, None, refl, sym, ap, subst, ◌∙◌}
use Rattle.rc_fragment.proofs.Imports.{OnSome, false≢true, Counted, written, get-current, Values, IsSet, kept_in, now_in, Becomes, found_in, sources_of, Container, EdgeRows}
use Rattle.std.specs.FinMap as fin
use Rattle.rc_fragment.proofs.SourcesLemmas.{becomes_changed, becomes_out, none_set}
use Rattle.rc_fragment.proofs.edge_rows.EdgeRows.sweep.Goals as goal

-- what is there at the key, where the source has this container
there_in_it : (x : EdgeRows) (source key : Values) (v w : Container) → fin.get (sources_of x) source ≡ Some v → kept_in w ≡ written (kept_in v) key (fin.get (now_in v) key)
    → kept_in w ≡ written (kept_in v) key (found_in now_in (fin.get (sources_of x) source) key)
there_in_it x source key v w here is = is ∙ ap (λ z. written (kept_in v) key (found_in now_in z key)) (sym here)

pub returns-in_default : goal.returns-in_default
returns-in_default c =
    let x : EdgeRows = c.args.self.now in
    let source : Values = c.args.source.now in
    let key : Values = c.args.key.now in
    let none : fin.get (sources_of x) source ≡ None = sym c.in_default.ensures.value in
    let o : Option Counted = found_in now_in (fin.get (sources_of x) source) key in
    subst (λ z. Becomes x (record x { sources = z }) source key o) (sym c.get_mut.follows.holds-at-none) record {
      kept = none_set kept_in (sources_of x) source key none o (ap (λ z. found_in now_in z key) none);
      emptied = λ s h. h;
      forms = c.requires.forms;
      shape = refl;
    }

pub returns-else-is_gone : goal.returns-else-is_gone
returns-else-is_gone c =
    let x : EdgeRows = c.args.self.now in
    let source = c.args.source.now in
    let key = c.args.key.now in
    let v : Container = c.in-Some.container.now in
    let w : Container = c.sweep.new.self in
    let here : fin.get (sources_of x) source ≡ Some v = sym c.in-Some.ensures.value in
    let table = c.get_mut.follows.lender w in
    let set : IsSet x.sources table source w = subst (λ r. OnSome r (IsSet x.sources table source w)) c.in-Some.is (c.get_mut.follows.holds w) in
    becomes_changed x source key v w table here set c.requires.forms c.sweep.ensures.form (found_in now_in (fin.get (sources_of x) source) key)
    (there_in_it x source key v w here (c.sweep.ensures.now ∙ ap (written (kept_in v) key) (sym (get-current (kept_in v) key))))
    (λ g. false≢true (sym c.if-is_gone.false ∙ c.is_gone.ensures.1 g))

pub returns-then-is_gone : goal.returns-then-is_gone
returns-then-is_gone c =
    let x : EdgeRows = c.args.self.now in
    let source = c.args.source.now in
    let key = c.args.key.now in
    let v : Container = c.in-Some.container.now in
    let w : Container = c.sweep.new.self in
    let here : fin.get (sources_of x) source ≡ Some v = sym c.in-Some.ensures.value in
    let table = c.get_mut.follows.lender w in
    let set : IsSet x.sources table source w = subst (λ r. OnSome r (IsSet x.sources table source w)) c.in-Some.is (c.get_mut.follows.holds w) in
    becomes_out x source key v w table here set c.requires.forms c.sweep.ensures.form c.remove.new.self (found_in now_in (fin.get (sources_of x) source) key)
    (there_in_it x source key v w here (c.sweep.ensures.now ∙ ap (written (kept_in v) key) (sym (get-current (kept_in v) key))))
    (c.is_gone.ensures.0 c.if-is_gone.true) c.remove.ensures.containers c.remove.ensures.width
