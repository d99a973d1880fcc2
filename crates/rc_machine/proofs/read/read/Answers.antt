use Rattle.std.proofs.Common.{◌≡◌, ◌<◌, [], arith, ap, get_or, length, refl, subst, sym, ◌∙◌}
use Rattle.rc_machine.proofs.Imports.{take_all, union, In, gather, get_or_in, tuple_cmp, bound, edge_at, BindingList, with_tuples, held_of, class_of, Spec, ReadMode, stripes_held, AreMerges, HasMergedAll, IsCovered, IsReader, TakesMerges}
use Rattle.rc_machine.proofs.ReadLemmas.{merges_join, merges_more, merges_none, same_default}
use Rattle.rc_machine.proofs.StripeLemmas.{joined_below}
use Rattle.rc_machine.proofs.read.read.Given.{Over}
use Rattle.rc_machine.proofs.read.read.Goals.{After-get-binding, After-union}
use Rattle.rc_machine.proofs.read.read.Goals as goal

-- the columns of what is found
columns : (g : Over) (c : After-union g) → c.union.result ≡ union c.args.space.now.bindings.columns (bound c.args.compiled.now.spec (edge_at c.args.compiled.now.spec c.args.edge).to)
columns g c =
    let read = c.of-read.result in
    let target : read.resolved.now.target ≡ bound c.args.compiled.now.spec (edge_at c.args.compiled.now.spec c.args.edge).to =
    c.of-read.ensures.resolved.edge.target ∙ ap (λ (s : Spec). bound s (edge_at s read.edge).to) c.of-read.ensures.spec
    ∙ ap (λ e. bound c.args.compiled.now.spec (edge_at c.args.compiled.now.spec e).to) c.of-read.ensures.edge in
    c.union.ensures.value ∙ ap (λ xs. union xs read.resolved.now.target) c.cols.ensures.columns ∙ ap (union c.args.space.now.bindings.columns) target

pub begin-requires : goal.begin-requires
begin-requires g c n m =
    subst (λ w. n < w) (sym c.requires.wide.found)
    (joined_below c.args.compiled.now.spec c.requires.sealed c.args.edge c.requires.known c.args.space.now.bindings.columns (λ k h. subst (λ w. k < w) c.requires.wide.bindings (c.cols.ensures.below.below k h))
    n (subst (In n) (columns g (goal.at.begin-requires g c).After-union) m))

pub loop-at-init : goal.loop-at-init
loop-at-init g c = record {
  merged = subst (λ (z : BindingList). AreMerges [] c.args.edge (held_of (g.H.Holder.seen c.args.holder.now)) z.tuples) (sym c.begin.ensures) (merges_none c.args.edge (held_of (g.H.Holder.seen c.args.holder.now)));
  bindings = refl;
  old = refl;
  same = refl;
}

pub get-binding-requires : goal.get-binding-requires
get-binding-requires g c = subst (λ (z : BindingList). c.loop-at.at < length z.tuples) (sym c.loop-at.invariant.bindings) (let l = c.loop-at-test.true in let n = c.len-at-end.ensures in omega (arith, l, n))

-- the binding is one of the bindings
is : (g : Over) (c : After-get-binding g) → c.get-binding.result.tuple ≡ get_or c.args.space.now.bindings.tuples c.loop-at.at []
is g c = c.get-binding.ensures.tuple ∙ ap (λ (z : BindingList). get_or z.tuples c.loop-at.at []) c.loop-at.invariant.bindings

below : (g : Over) (c : After-get-binding g) → c.loop-at.at < length c.args.space.now.bindings.tuples
below g c = let l = c.loop-at-test.true in let n = c.len-at-end.ensures in omega (arith, l, n)

there : (g : Over) (c : After-get-binding g) → In c.get-binding.result.tuple c.args.space.now.bindings.tuples
there g c = subst (λ t. In t c.args.space.now.bindings.tuples) (sym (is g c)) (get_or_in c.args.space.now.bindings.tuples c.loop-at.at [] (below g c))

-- what is said of the edge is said of its Read
pub push_joined-requires-clause-reader : goal.push_joined-requires-clause-reader
push_joined-requires-clause-reader g c =
    let b = c.get-binding.result.tuple in
    let read = c.of-read.ensures in
    subst (λ (s : Spec). IsReader s c.of-read.result.edge c.of-read.result.mode b) (sym read.spec)
    (subst (λ e. IsReader c.args.compiled.now.spec e c.of-read.result.mode b) (sym read.edge)
    (subst (λ (m : ReadMode). IsReader c.args.compiled.now.spec c.args.edge m b) (sym read.mode)
    (c.requires.readers.readers b (there g (goal.at.push_joined-requires-clause-reader g c).After-get-binding))))

pub push_joined-requires-clause-covered : goal.push_joined-requires-clause-covered
push_joined-requires-clause-covered g c =
    let b = c.get-binding.result.tuple in
    let stripes = stripes_held (held_of (g.H.Holder.seen c.args.holder.now)) in
    let read = c.of-read.ensures in
    subst (λ (s : Spec). IsCovered s (class_of s c.of-read.result.edge) stripes b) (sym read.spec)
    (subst (λ e. IsCovered c.args.compiled.now.spec (class_of c.args.compiled.now.spec e) stripes b) (sym read.edge)
    (c.requires.readers.covered b (there g (goal.at.push_joined-requires-clause-covered g c).After-get-binding)))

pub push_joined-requires-clause-wide : goal.push_joined-requires-clause-wide
push_joined-requires-clause-wide g c =
    c.get-binding.ensures.width ∙ ap (λ (z : BindingList). z.width) c.loop-at.invariant.bindings ∙ c.requires.wide.bindings
    ∙ ap (λ (s : Spec). length s.columns) (sym c.of-read.ensures.spec)

pub push_joined-requires-clause-takes : goal.push_joined-requires-clause-takes
push_joined-requires-clause-takes g c =
    let at = goal.at.push_joined-requires-clause-takes g c in
    let start : c.loop-at.space.found ≡ with_tuples c.begin.new.self c.loop-at.space.found.tuples = c.loop-at.invariant.same in
    let read = c.of-read.ensures in
    subst (λ (s : Spec). TakesMerges s c.of-read.result.edge c.get-binding.result c.loop-at.space.found) (sym read.spec)
    (subst (λ e. TakesMerges c.args.compiled.now.spec e c.get-binding.result c.loop-at.space.found) (sym read.edge) record {
      width = c.get-binding.ensures.width ∙ ap (λ (z : BindingList). z.width) c.loop-at.invariant.bindings ∙ c.requires.wide.bindings
          ∙ sym (ap (λ (z : BindingList). z.width) start ∙ ap (λ (z : BindingList). z.width) c.begin.ensures ∙ c.requires.wide.found);
      columns = ap (λ (z : BindingList). z.columns) start ∙ ap (λ (z : BindingList). z.columns) c.begin.ensures ∙ columns g at.After-union
          ∙ ap (λ xs. union xs (bound c.args.compiled.now.spec (edge_at c.args.compiled.now.spec c.args.edge).to)) (sym (c.get-binding.ensures.columns ∙ ap (λ (z : BindingList). z.columns) c.loop-at.invariant.bindings));
    })

pub loop-at-preserved : goal.loop-at-preserved
loop-at-preserved g c =
    let at = (goal.at.loop-at-preserved g c).After-get-binding in
    let bs = c.args.space.now.bindings.tuples in
    let b = c.get-binding.result.tuple in
    record {
      merged = merges_more bs c.loop-at.at b c.args.edge (held_of (g.H.Holder.seen c.args.holder.now)) c.loop-at.space.found.tuples c.push_joined.new.found.tuples (below g at)
          (is g at ∙ same_default bs c.loop-at.at [] b (below g at)) c.loop-at.invariant.merged
          (subst (λ e. HasMergedAll b e (held_of (g.H.Holder.seen c.args.holder.now)) c.loop-at.space.found.tuples c.push_joined.new.found.tuples) c.of-read.ensures.edge c.in_ok-push_joined.ensures.merged);
      bindings = c.loop-at.invariant.bindings;
      old = c.loop-at.invariant.old;
      same = c.in_ok-push_joined.ensures.same ∙ ap (λ z. with_tuples z c.push_joined.new.found.tuples) c.loop-at.invariant.same;
    }

pub returns-clause-joined : goal.returns-clause-joined
returns-clause-joined g c =
    let bs = c.args.space.now.bindings.tuples in
    let held = held_of (g.H.Holder.seen c.args.holder.now) in
    let l = c.loop-at-test.false in
    let n = c.len-at-end.ensures in
    ap (λ (z : BindingList). z.tuples) (c.swap.ensures.x_after ∙ c.in_ok-sort.ensures.ok)
    ∙ merges_join bs c.args.edge held c.loop-at.space.found.tuples
    (subst (λ z. AreMerges z c.args.edge held c.loop-at.space.found.tuples) (take_all c.loop-at.at bs (omega (arith, l, n))) c.loop-at.invariant.merged)

pub returns-clause-wide : goal.returns-clause-wide
returns-clause-wide g c = record {
  bindings = ap (λ (z : BindingList). z.width) (c.swap.ensures.x_after ∙ c.in_ok-sort.ensures.ok ∙ ap (λ z. with_tuples z (gather tuple_cmp c.loop-at.space.found.tuples)) c.loop-at.invariant.same)
      ∙ ap (λ (z : BindingList). z.width) c.begin.ensures ∙ c.requires.wide.found;
  found = ap (λ (z : BindingList). z.width) (c.swap.ensures.y_after ∙ c.loop-at.invariant.bindings) ∙ c.requires.wide.bindings;
}

pub returns-clause-old : goal.returns-clause-old
returns-clause-old g c = c.loop-at.invariant.old
