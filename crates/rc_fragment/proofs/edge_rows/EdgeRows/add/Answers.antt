use Rattle.std.proofs.Common.{◌≡◌, ◌+◌, ◌<◌, ◌^◌, ◌==◌, lit<, Option, Some, None, refl, sym, ap, subst, ◌∙◌}
use Rattle.rc_fragment.proofs.Imports.{IsSome, length, OnSome, option_and_then, Values, Counted, HasExtra, count_of, present, written, get-current, IsSet, containers_of, width_for, width_of, kept_in, now_in, takes_one, Sources, form_of, found_in, sources_of, Container, EdgeRows}
use Rattle.std.specs.FinMap as fin
use Rattle.rc_fragment.proofs.SourcesLemmas.{becomes_changed, emptied_before, has_width, none_there, not_empty, on_err, on_err_from, on_ok_from, same_changed, same_entries, set_by, set_form, takes_alone, takes_first}
use Rattle.rc_fragment.proofs.edge_rows.EdgeRows.add.Goals as goal

pub add-requires-clause-room : goal.add-requires-clause-room
add-requires-clause-room c = subst (λ z. count_of (found_in kept_in z c.args.key.now) < 2 ^ 63) (sym c.in-Some.ensures.value) c.requires.room

pub add-requires-clause-same : goal.add-requires-clause-same
add-requires-clause-same c =
    let v : Container = c.in-Some.container.now in
    subst (λ z. HasExtra z c.args.extra.now) (get-current (kept_in v) c.args.key.now)
    (subst (λ z. HasExtra (found_in now_in z c.args.key.now) c.args.extra.now) (sym c.in-Some.ensures.value) c.requires.same)

pub add-requires-clause-single : goal.add-requires-clause-single
add-requires-clause-single c =
    let x : EdgeRows = c.args.self.now in
    let v : Container = c.in-Some.container.now in
    let f : fin.get (sources_of x) c.args.source.now ≡ Some v = sym c.in-Some.ensures.value in
    takes_alone v x.shape.kind (length x.shape.key == 1) c.args.key.now (c.requires.forms.forms c.args.source.now v f) (has_width (length x.shape.key) c.args.key.now c.requires.width.key_width)
    (λ e k there. c.requires.single e k (subst (λ z. IsSome (found_in now_in z k)) (sym f) there))

pub returns-in-Some-clause-ok : goal.returns-in-Some-clause-ok
returns-in-Some-clause-ok c =
    let x : EdgeRows = c.args.self.now in
    let source = c.args.source.now in
    let key = c.args.key.now in
    let v : Container = c.in-Some.container.now in
    let w : Container = c.add.new.self in
    let here : fin.get (sources_of x) source ≡ Some v = sym c.in-Some.ensures.value in
    let table = c.get_mut.follows.lender w in
    let set : IsSet x.sources table source w = subst (λ r. OnSome r (IsSet x.sources table source w)) c.in-Some.is (c.get_mut.follows.holds w) in
    let g : (o : Option Container) → Option Counted = λ o. Some (c.args.extra.now, count_of (found_in kept_in o key) + 1) in
    on_ok_from _ _ c.add.result c.add.ensures.ok (λ p.
    let is : kept_in w ≡ written (kept_in v) key (g (fin.get (sources_of x) source)) = p ∙ ap (λ z. written (kept_in v) key (g z)) (sym here) in
    becomes_changed x source key v w table here set c.requires.forms c.add.ensures.form (g (fin.get (sources_of x) source)) is
    (not_empty (kept_in w) (kept_in v) key (g (fin.get (sources_of x) source)) is refl))

pub returns-in-Some-clause-err : goal.returns-in-Some-clause-err
returns-in-Some-clause-err c =
    let x : EdgeRows = c.args.self.now in
    let source = c.args.source.now in
    let v : Container = c.in-Some.container.now in
    let w : Container = c.add.new.self in
    let here : fin.get (sources_of x) source ≡ Some v = sym c.in-Some.ensures.value in
    let table = c.get_mut.follows.lender w in
    let set : IsSet x.sources table source w = subst (λ r. OnSome r (IsSet x.sources table source w)) c.in-Some.is (c.get_mut.follows.holds w) in
    on_err_from _ _ c.add.result c.add.ensures.err (λ p. same_changed x source c.args.key.now v w table here set c.requires.forms c.add.ensures.form p)

-- ---- a new container, which keeps nothing

kept_none : (b : Container) → kept_in b ≡ fin.empty → (k : Values) → fin.get (kept_in b) k ≡ None
kept_none b is k = none_there (kept_in b) is k

pub add-requires-2-clause-room : goal.add-requires-2-clause-room
add-requires-2-clause-room c = subst (λ z. count_of z < 2 ^ 63) (sym (kept_none c.in_ok-container.container c.in_ok-container.ensures.empty c.args.key.now)) (lit< tt)

pub add-requires-2-clause-same : goal.add-requires-2-clause-same
add-requires-2-clause-same c =
    subst (λ z. HasExtra (option_and_then present z) c.args.extra.now) (sym (kept_none c.in_ok-container.container c.in_ok-container.ensures.empty c.args.key.now)) tt

pub add-requires-2-clause-single : goal.add-requires-2-clause-single
add-requires-2-clause-single c =
    takes_first c.in_ok-container.container c.args.self.now.shape.kind (length c.args.key.now == 1) c.args.key.now c.in_ok-container.ensures.form (has_width (length c.args.key.now) c.args.key.now refl)
    c.in_ok-container.ensures.empty

pub insert-requires : goal.insert-requires
insert-requires c = ap width_of c.get_mut.follows.holds-at-none ∙ c.requires.forms.width ∙ ap width_for (sym c.requires.width.source_width)

pub returns-clause-ok : goal.returns-clause-ok
returns-clause-ok c =
    let x : EdgeRows = c.args.self.now in
    let source : Values = c.args.source.now in
    let key : Values = c.args.key.now in
    let es : Sources = sources_of x in
    let b : Container = c.in_ok-container.container in
    let w : Container = c.add-2.new.self in
    let f : fin.get es source ≡ None = sym c.in_default.ensures.value in
    let new : Sources = containers_of c.insert.new.self in
    let e : new ≡ written es source (Some w) = c.in_ok-insert.ensures.ok ∙ ap (λ t. written (containers_of t) source (Some w)) c.get_mut.follows.holds-at-none in
    let g : (o : Option Container) → Option Counted = λ o. Some (c.args.extra.now, count_of (found_in kept_in o key) + 1) in
    let none : (k : Values) → fin.get (kept_in b) k ≡ None = kept_none b c.in_ok-container.ensures.empty in
    let is : kept_in w ≡ written (kept_in b) key (g (fin.get es source)) =
    c.in_ok-before.ensures.ok ∙ ap (λ z. written (kept_in b) key (Some (c.args.extra.now, count_of z + 1))) (none key) ∙ ap (λ z. written (kept_in b) key (g z)) (sym f) in
    record {
      kept = set_by es new source None w f e kept_in (kept_in b) key (g (fin.get es source)) is none;
      emptied = emptied_before es new source w e (not_empty (kept_in w) (kept_in b) key (g (fin.get es source)) is refl);
      forms = record {
        forms = set_form es new source None w f e (form_of x.shape) c.requires.forms.forms
            (c.add-2.ensures.form ∙ c.in_ok-container.ensures.form ∙ ap (λ n. (x.shape.kind, takes_one x.shape.kind (n == 1))) c.requires.width.key_width);
        width = c.insert.ensures.width ∙ ap width_of c.get_mut.follows.holds-at-none ∙ c.requires.forms.width;
      };
      shape = refl;
    }

pub returns-clause-before : goal.returns-clause-before
returns-clause-before c =
    c.in_ok-before.ensures.before
    ∙ ap count_of (kept_none c.in_ok-container.container c.in_ok-container.ensures.empty c.args.key.now ∙ ap (λ z. found_in kept_in z c.args.key.now) c.in_default.ensures.value)

pub returns-in_err-container-clause-err : goal.returns-in_err-container-clause-err
returns-in_err-container-clause-err c =
    let x : EdgeRows = c.args.self.now in
    on_err _ c.from_residual.result (same_entries x (record x { sources = c.get_mut.follows.lender-at-none }) (ap containers_of c.get_mut.follows.holds-at-none) (ap width_of c.get_mut.follows.holds-at-none) refl c.requires.forms)

pub returns-in_err-before-clause-err : goal.returns-in_err-before-clause-err
returns-in_err-before-clause-err c =
    let x : EdgeRows = c.args.self.now in
    on_err _ c.from_residual-in_err-before.result (same_entries x (record x { sources = c.get_mut.follows.lender-at-none }) (ap containers_of c.get_mut.follows.holds-at-none) (ap width_of c.get_mut.follows.holds-at-none) refl c.requires.forms)

pub returns-in_err-insert-clause-err : goal.returns-in_err-insert-clause-err
returns-in_err-insert-clause-err c =
    let x : EdgeRows = c.args.self.now in
    on_err _ c.from_residual-in_err-insert.result (same_entries x (record x { sources = c.insert.new.self }) (c.in_err-insert.ensures.err ∙ ap containers_of c.get_mut.follows.holds-at-none)
    (c.insert.ensures.width ∙ ap width_of c.get_mut.follows.holds-at-none) refl c.requires.forms)
