-- What one change of the map from sources to containers is to the rows that are found in it.
use Rattle.std.specs.Prelude.{◌≡◌, ◌==◌, ℕ, Bool, true, false, cond, ◌&&◌, ◌⊎◌, Option, None, Some, IsSome, length}
use Rattle.rc_fragment.proofs.Imports.{Result, Ok, Err, OnOk, OnErr, IfOk, FinMap, get-empty, false≢true, eqb-true, Values, values_cmp, values_eq, option_and_then, Counted, HasWidth, Rows, present, written, EdgeKind, Form, form_in, kept_in, now_in, takes, takes_one, IsSet, containers_of, width_for, width_of, AreOfShape, AreSame, Becomes, Sources, form_of, sources_of, found_in, found_at, IsEmptied, IsSetAt, HaveForm, Container, EdgeRows, EdgeShape, SourceTable, get-current, get-written}
use Rattle.std.specs.FinMap as fin
use Rattle.std.proofs.Common.{refl, sym, ap, subst, ◌∙◌, inl, inr}
use Rattle.rc_spec.specs.declared.items.EdgeKind.TheVariants as kind
use Rattle.rc_maps.specs.OrderedEdge.{has_one_column}
use Rattle.rc_fragment.specs.declared.container.Container.TheVariants as container
use Rattle.rc_edges.specs.ValuesLaws.{same_from_test as values_same, test_from_same as values_test}

-- ---- a container in the place of what the source had

module _ (old new : Sources) (source : Values) (o : Option Container) (w : Container) (h : fin.get old source ≡ o) (e : new ≡ written old source (Some w)) where
  pub set_by : (part : Container → Rows) (m : Rows) (key : Values) (x : Option Counted) → part w ≡ written m key x → ((k : Values) → fin.get m k ≡ found_in part o k)
      → IsSetAt (found_at part old) (found_at part new) source key x
  set_by part m key x is f s k =
      ap (λ (z : FinMap values_cmp Container). found_in part (fin.get z s) k) e ∙ ap (λ z. found_in part z k) (get-written old source (Some w) s) ∙ go (values_eq s source) refl
    where
      go : (b : Bool) → values_eq s source ≡ b → found_in part (cond b (Some w) (fin.get old s)) k ≡ cond (b && values_eq k key) x (found_in part (fin.get old s) k)
      go true t =
          ap (λ (z : Rows). fin.get z k) is ∙ get-written m key x k ∙ ap (cond (values_eq k key) x) (f k)
          ∙ ap (λ z. cond (values_eq k key) x (found_in part z k)) (sym h ∙ ap (fin.get old) (sym (values_same s source t)))
      go false t = refl

  -- where the container's rows are those that the source had
  pub set_same : (part : Container → Rows) (c : Container) → o ≡ Some c → part w ≡ part c → (s k : Values) → found_at part new s k ≡ found_at part old s k
  set_same part c oc is s k =
      ap (λ (z : FinMap values_cmp Container). found_in part (fin.get z s) k) e ∙ ap (λ z. found_in part z k) (get-written old source (Some w) s) ∙ go (values_eq s source) refl
    where
      go : (b : Bool) → values_eq s source ≡ b → found_in part (cond b (Some w) (fin.get old s)) k ≡ found_in part (fin.get old s) k
      go true t = ap (λ (z : Rows). fin.get z k) is ∙ ap (λ z. found_in part z k) (sym oc ∙ sym h ∙ ap (fin.get old) (sym (values_same s source t)))
      go false t = refl

  pub set_form : (form : Form) → HaveForm form old → form_in w ≡ form → HaveForm form new
  set_form form all is s c there = go (values_eq s source) refl (sym (get-written old source (Some w) s) ∙ ap (λ (z : FinMap values_cmp Container). fin.get z s) (sym e) ∙ there)
    where
      go : (b : Bool) → values_eq s source ≡ b → cond b (Some w) (fin.get old s) ≡ Some c → form_in c ≡ form
      go true t p = let q : w ≡ c = cc in ap form_in (sym q) ∙ is
      go false t p = all s c p

-- ---- a source taken out, whose container has no row

module _ (old set new : Sources) (source : Values) (w : Container) (e : set ≡ written old source (Some w)) (out : new ≡ written set source None) where
  pub out_at : (part : Container → Rows) → part w ≡ fin.empty → (s k : Values) → found_at part new s k ≡ found_at part set s k
  out_at part is s k =
      ap (λ (z : FinMap values_cmp Container). found_in part (fin.get z s) k) out ∙ ap (λ z. found_in part z k) (get-written set source None s) ∙ go (values_eq s source) refl
    where
      go : (b : Bool) → values_eq s source ≡ b → found_in part (cond b None (fin.get set s)) k ≡ found_in part (fin.get set s) k
      go true t =
          sym (ap (λ (z : FinMap values_cmp Container). found_in part (fin.get z s) k) e ∙ ap (λ z. found_in part z k) (get-written old source (Some w) s)
          ∙ ap (λ b. found_in part (cond b (Some w) (fin.get old s)) k) t ∙ ap (λ (z : Rows). fin.get z k) is ∙ get-empty values_cmp k)
      go false t = refl

  pub out_form : (form : Form) → HaveForm form set → HaveForm form new
  out_form form all s c there = go (values_eq s source) (sym (get-written set source None s) ∙ ap (λ (z : FinMap values_cmp Container). fin.get z s) (sym out) ∙ there)
    where
      go : (b : Bool) → cond b None (fin.get set s) ≡ Some c → form_in c ≡ form
      go true p = absurd (cc)
      go false p = all s c p

-- ---- containers that keep no row

-- where one source's container is written, no other is left with no row
pub emptied_written : (old new : Sources) (source : Values) (w : Option Container) → new ≡ written old source w → (s : Values) → IsEmptied new s → (s ≡ source) ⊎ IsEmptied old s
emptied_written old new source w e s h = go (values_eq s source) refl (sym (get-written old source w s) ∙ ap (λ (z : FinMap values_cmp Container). fin.get z s) (sym e) ∙ h.1)
  where
    go : (b : Bool) → values_eq s source ≡ b → cond b w (fin.get old s) ≡ Some h.0 → (s ≡ source) ⊎ IsEmptied old s
    go true t p = inl (values_same s source t)
    go false t p = inr (h.0, p, h.2)

get_here : (old new : Sources) (source : Values) (w : Option Container) → new ≡ written old source w → fin.get new source ≡ w
get_here old new source w e =
    ap (λ (z : FinMap values_cmp Container). fin.get z source) e ∙ get-written old source w source ∙ ap (λ b. cond b w (fin.get old source)) (values_test source source refl)

-- where a container that keeps a row is written
not_emptied : (old new : Sources) (source : Values) (w : Container) → new ≡ written old source (Some w) → (kept_in w ≡ fin.empty → ⊥) → IsEmptied new source → ⊥
not_emptied old new source w e keeps h =
    let q : Some w ≡ Some h.0 = sym (get_here old new source (Some w) e) ∙ h.1 in
    let p : w ≡ h.0 = cc in
    keeps (ap kept_in p ∙ h.2)

pub emptied_before : (old new : Sources) (source : Values) (w : Container) → new ≡ written old source (Some w) → (kept_in w ≡ fin.empty → ⊥) → (s : Values) → IsEmptied new s → IsEmptied old s
emptied_before old new source w e keeps s h = elim (emptied_written old new source (Some w) e s h) [
  | inl p ↦ absurd (not_emptied old new source w e keeps (subst (IsEmptied new) p h))
  | inr i ↦ i
]

-- where there is no container
pub none_emptied : (es : Sources) (source : Values) → fin.get es source ≡ None → IsEmptied es source → ⊥
none_emptied es source n h = let q : None ≡ Some h.0 = sym n ∙ h.1 in absurd (cc)

-- where the source is taken out, once a container was written
pub emptied_out : (old set new : Sources) (source : Values) (w : Container) → set ≡ written old source (Some w) → new ≡ written set source None → (s : Values) → IsEmptied new s → IsEmptied old s
emptied_out old set new source w e out s h = elim (emptied_written set new source None out s h) [
  | inl p ↦ absurd (none_emptied new source (get_here set new source None out) (subst (IsEmptied new) p h))
  | inr i ↦ elim (emptied_written old set source (Some w) e s i) [
    | inl p ↦ absurd (none_emptied new source (get_here set new source None out) (subst (IsEmptied new) p h))
    | inr j ↦ j
  ]
]

-- where the container that is written keeps the rows that the source had
pub emptied_same : (old new : Sources) (source : Values) (v w : Container) → fin.get old source ≡ Some v → new ≡ written old source (Some w)
    → kept_in w ≡ kept_in v → (s : Values) → IsEmptied new s → IsEmptied old s
emptied_same old new source v w f e kept s h = go (values_eq s source) refl (sym (get-written old source (Some w) s) ∙ ap (λ (z : FinMap values_cmp Container). fin.get z s) (sym e) ∙ h.1)
  where
    go : (b : Bool) → values_eq s source ≡ b → cond b (Some w) (fin.get old s) ≡ Some h.0 → IsEmptied old s
    go true t p = let q : w ≡ h.0 = cc in (v, ap (fin.get old) (values_same s source t) ∙ f, sym kept ∙ ap kept_in q ∙ h.2)
    go false t p = (h.0, p, h.2)

-- ---- the same containers

pub same_entries : (x y : EdgeRows) → sources_of y ≡ sources_of x → width_of y.sources ≡ width_of x.sources → y.shape ≡ x.shape → AreOfShape x → AreSame x y
same_entries x y e width shape forms = record {
  kept = λ s k. ap (λ (z : Sources). found_at kept_in z s k) e;
  emptied = λ s h. subst (λ (z : Sources). IsEmptied z s) e h;
  forms = record {
    forms = subst (λ (z : EdgeShape). HaveForm (form_of z) (sources_of y)) (sym shape) (subst (HaveForm (form_of x.shape)) (sym e) forms.forms);
    width = width ∙ forms.width ∙ ap (λ (z : EdgeShape). width_for (length z.source)) (sym shape);
  };
  shape = shape;
}

-- ---- a source whose container changes

-- what was written at a key is kept
pub not_empty : (m n : Rows) (key : Values) (o : Option Counted) → m ≡ written n key o → IsSome o → m ≡ fin.empty → ⊥
not_empty m n key o is some none =
    let a : fin.get m key ≡ o = ap (λ (z : Rows). fin.get z key) is ∙ get-written n key o key ∙ ap (λ b. cond b o (fin.get n key)) (values_test key key refl) in
    let b : None ≡ o = sym (get-empty values_cmp key) ∙ ap (λ (z : Rows). fin.get z key) (sym none) ∙ a in
    false≢true (subst IsSome (sym b) some)

-- x is the edge, whose source has the container v, and table its containers once w is in the place of v
module _ (x : EdgeRows) (source key : Values) (v w : Container) (table : SourceTable) (here : fin.get (sources_of x) source ≡ Some v) (set : IsSet x.sources table source w)
    (shaped : AreOfShape x) (form : form_in w ≡ form_in v) where
  pub forms_changed : AreOfShape (record x { sources = table })
  forms_changed = record {
    forms = set_form (sources_of x) (containers_of table) source (Some v) w here set.containers (form_of x.shape) shaped.forms (form ∙ shaped.forms source v here);
    width = set.width ∙ shaped.width;
  }

  kept_changed : (o : Option Counted) → kept_in w ≡ written (kept_in v) key o → IsSetAt (found_at kept_in (sources_of x)) (found_at kept_in (containers_of table)) source key o
  kept_changed o is = set_by (sources_of x) (containers_of table) source (Some v) w here set.containers kept_in (kept_in v) key o is (λ k. refl)

  -- where the container still keeps a row
  pub becomes_changed : (o : Option Counted) → kept_in w ≡ written (kept_in v) key o → (kept_in w ≡ fin.empty → ⊥) → Becomes x (record x { sources = table }) source key o
  becomes_changed o is keeps = record {
    kept = kept_changed o is;
    emptied = emptied_before (sources_of x) (containers_of table) source w set.containers keeps;
    forms = forms_changed;
    shape = refl;
  }

  -- where it keeps none, and is taken out
  pub becomes_out : (out : SourceTable) (o : Option Counted) → kept_in w ≡ written (kept_in v) key o → kept_in w ≡ fin.empty → containers_of out ≡ written (containers_of table) source None
      → width_of out ≡ width_of table → Becomes x (record x { sources = out }) source key o
  becomes_out out o is gone removed width = record {
    kept = λ s k. out_at (sources_of x) (containers_of table) (containers_of out) source w set.containers removed kept_in gone s k ∙ kept_changed o is s k;
    emptied = emptied_out (sources_of x) (containers_of table) (containers_of out) source w set.containers removed;
    forms = record {
      forms = out_form (sources_of x) (containers_of table) (containers_of out) source w set.containers removed (form_of x.shape) forms_changed.forms;
      width = width ∙ forms_changed.width;
    };
    shape = refl;
  }

  -- where it keeps the same
  pub same_changed : kept_in w ≡ kept_in v → AreSame x (record x { sources = table })
  same_changed is = record {
    kept = set_same (sources_of x) (containers_of table) source (Some v) w here set.containers kept_in v refl is;
    emptied = emptied_same (sources_of x) (containers_of table) source v w here set.containers is;
    forms = forms_changed;
    shape = refl;
  }

-- ---- a source that has no container

-- at such a source, what isn't there as taken isn't there now
pub none_set : (part : Container → Rows) (es : Sources) (source key : Values) → fin.get es source ≡ None → (x : Option Counted) → x ≡ None → IsSetAt (found_at part es) (found_at part es) source key x
none_set part es source key h x is s k = go (values_eq s source) refl (values_eq k key)
  where
    go : (b : Bool) → values_eq s source ≡ b → (d : Bool) → found_at part es s k ≡ cond (b && d) x (found_at part es s k)
    go true t true = ap (λ z. found_in part z k) (ap (fin.get es) (values_same s source t) ∙ h) ∙ sym is
    go true t false = refl
    go false t d = refl

-- ---- what a container takes

-- a key of so many values as there are columns
pub has_width : (n : ℕ) (key : Values) → length key ≡ n → HasWidth (n == 1) key
has_width n key l = go (n == 1) refl
  where
    go : (b : Bool) → (n == 1) ≡ b → HasWidth b key
    go true t = l ∙ eqb-true n 1 t
    go false t = tt

-- a container of the form that an edge of this kind has
abbrev pub IsOfForm : Container → EdgeKind → Bool → Type 0
IsOfForm v of one = form_in v ≡ (of, takes_one of one)

table_width : (v : Container) (of : EdgeKind) (one b : Bool) (key : Values) → (kind.Hash ≡ of) ⊎ (kind.Ordered ≡ of) → b ≡ takes_one of one → HasWidth one key → HasWidth b key
table_width v of one b key (inl e) is w = subst (λ z. HasWidth z key) (sym is) (subst (λ z. HasWidth (takes_one z one) key) e w)
table_width v of one b key (inr e) is w = subst (λ z. HasWidth z key) (sym is) (subst (λ z. HasWidth (takes_one z one) key) e w)

pub takes_alone : (v : Container) (of : EdgeKind) (one : Bool) (key : Values) → IsOfForm v of one → HasWidth one key → (of ≡ kind.Singleton → (k : Values) → IsSome (fin.get (now_in v) k) → k ≡ key) → takes v key
takes_alone (container.Hash map) of one key e w h = table_width (container.Hash map) of one map.value.one_column key (inl (ap (λ (f : Form). f.0) e)) (ap (λ (f : Form). f.1) e) w
takes_alone (container.Ordered map) of one key e w h = table_width (container.Ordered map) of one (has_one_column map) key (inr (ap (λ (f : Form). f.0) e)) (ap (λ (f : Form). f.1) e) w
takes_alone (container.List map) of one key e w h = tt
takes_alone (container.Singleton map) of one key e w h = λ k there. h (sym (ap (λ (f : Form). f.0) e)) k (subst IsSome (sym (get-current map k)) there)

-- where there is no row, any key may come
pub none_there : (m : Rows) → m ≡ fin.empty → (k : Values) → fin.get m k ≡ None
none_there m is k = ap (λ (z : Rows). fin.get z k) is ∙ get-empty values_cmp k

pub takes_first : (v : Container) (of : EdgeKind) (one : Bool) (key : Values) → IsOfForm v of one → HasWidth one key → kept_in v ≡ fin.empty → takes v key
takes_first v of one key e w is = takes_alone v of one key e w (λ z k there. absurd (false≢true (subst IsSome (get-current (kept_in v) k ∙ ap (option_and_then present) (none_there (kept_in v) is k)) there)))

-- ---- results

pub on_err : {X E : Type 0} (P : Type 0) (r : Result X E) → P → OnErr r P
on_err P (Ok x) p = tt
on_err P (Err e) p = p

pub on_ok_from : {X E : Type 0} (P Q : Type 0) (r : Result X E) → OnOk r P → (P → Q) → OnOk r Q
on_ok_from P Q (Ok x) p f = f p
on_ok_from P Q (Err e) p f = tt

pub on_err_from : {X E : Type 0} (P Q : Type 0) (r : Result X E) → OnErr r P → (P → Q) → OnErr r Q
on_err_from P Q (Ok x) p f = tt
on_err_from P Q (Err e) p f = f p

pub if_ok_both : {X E : Type 0} {P Q R : X → Type 0} (r : Result X E) → IfOk r P → IfOk r Q → ((x : X) → P x → Q x → R x) → IfOk r R
if_ok_both (Ok x) p q f = f x p q
if_ok_both (Err e) p q f = tt

pub if_ok_from : {X E : Type 0} {P Q : X → Type 0} (r : Result X E) → IfOk r P → ((x : X) → P x → Q x) → IfOk r Q
if_ok_from (Ok x) p f = f x p
if_ok_from (Err e) p f = tt
