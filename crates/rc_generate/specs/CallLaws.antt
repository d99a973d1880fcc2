-- A call of one shard reads and changes the tuples of that shard alone.
use Rattle.std.proofs.Common.{◌≡◌, ℕ, ◌+◌, Bool, true, false, cond, not, ◌||◌, ◌==◌, List, [], ◌∷◌, Option, Some, None, refl, sym, ap, ◌∙◌, subst, inl, inr}
use Rattle.rc_generate.specs.Imports.{filter, list_any, slice_get, nat_cmp, In, IsRising, put, gather, in_filter, filter-filter, nat_order, gather_in, rising_filter, slice_get_in, Pairs, cols_of, project, value, agree_on, matches, tuple_cmp, tuple_eq, same_from_test, tuple_order, value-project, Satisfies, breaks, breaks_pair, breaks_with, agree_from_test, breaks-put, test_from_satisfies, satisfies_fewer, Dep, Op, OpKind, Query, Insert, Remove, Update, Call, Present, Range, Spec, Fits, FitsAt, value_columns, Outcome, rows_of, at_most, first_broken_dependency, inserted_unless, without, removed_first, updated_unless, updated_first, plain_by, plain_at, plain, rising_after, in_ranges, is_asked}
use Rattle.std.proofs.lemmas.Bool.{and_parts, false≢true, eq-eqb}
use Rattle.std.proofs.lemmas.Map.Views.{any-filter_same}
use Rattle.rc_generate.specs.Shards.{IsSharded, shard_of, tuples_in}
use Rattle.rc_generate.specs.FilterLaws.{filter-swap, filter-put, filter-put_other}

-- ---- the key column of tuples that agree

project_shard : (key : ℕ) (share : ℕ → ℕ) (xs : List ℕ) (t u : Pairs) → In key xs → project xs t ≡ project xs u → shard_of key share t ≡ shard_of key share u
project_shard key share xs t u m e = ap share (sym (value-project xs t key m) ∙ ap (λ (w : Pairs). value w key) e ∙ value-project xs u key m)

matches_shard : (key : ℕ) (share : ℕ → ℕ) (args t : Pairs) → In key (cols_of args) → matches args t ≡ true → shard_of key share t ≡ shard_of key share args
matches_shard key share args t m e =
    let same : project (cols_of args) t ≡ args = same_from_test (project (cols_of args) t) args e in
    ap share (sym (value-project (cols_of args) t key m) ∙ ap (λ (w : Pairs). value w key) same)

agree_shard : (key : ℕ) (share : ℕ → ℕ) (pattern : List ℕ) (args t : Pairs) → In key pattern → agree_on pattern args t ≡ true → shard_of key share t ≡ shard_of key share args
agree_shard key share pattern args t m e = sym (project_shard key share pattern args t m (agree_from_test pattern args t e))

-- ---- an insert, by what it finds

abbrev inserted_by : Bool → Option ℕ → List Pairs → List Pairs → Outcome
inserted_by b broken with_tuple r = cond b (let o : Outcome = record { reply = Present; relation = r } in o) (inserted_unless broken with_tuple r)

reply_inserted : (b : Bool) (f : Option ℕ) (v w r s : List Pairs) → (inserted_by b f v r).reply ≡ (inserted_by b f w s).reply
reply_inserted true f v w r s = refl
reply_inserted false None v w r s = refl
reply_inserted false (Some n) v w r s = refl

filter_inserted : (q : Pairs → Bool) (b : Bool) (f : Option ℕ) (w r : List Pairs) → filter q (inserted_by b f w r).relation ≡ (inserted_by b f (filter q w) (filter q r)).relation
filter_inserted q true f w r = refl
filter_inserted q false None w r = refl
filter_inserted q false (Some n) w r = refl

filter_inserted_other : (q : Pairs → Bool) (b : Bool) (f : Option ℕ) (w r : List Pairs) → filter q w ≡ filter q r → filter q (inserted_by b f w r).relation ≡ filter q r
filter_inserted_other q true f w r e = refl
filter_inserted_other q false None w r e = e
filter_inserted_other q false (Some n) w r e = refl

first_broken-same : (n : ℕ) (deps : List Dep) (r s : List Pairs) → ((d : Dep) → In d deps → breaks r d ≡ breaks s d) → first_broken_dependency n deps r ≡ first_broken_dependency n deps s
first_broken-same n [] r s h = refl
first_broken-same n (d ∷ deps) r s h =
    ap (λ b. cond b (Some n) (first_broken_dependency (n + 1) deps r)) (h d (inl refl))
    ∙ ap (λ o. cond (breaks s d) (Some n) o) (first_broken-same (n + 1) deps r s (λ e m. h e (inr m)))

reply_removed : (found r s : List Pairs) → (removed_first found r).reply ≡ (removed_first found s).reply
reply_removed [] r s = refl
reply_removed (t ∷ ts) r s = refl

filter_removed : (q : Pairs → Bool) (found r : List Pairs) → filter q (removed_first found r).relation ≡ (removed_first found (filter q r)).relation
filter_removed q [] r = refl
filter_removed q (t ∷ ts) r = filter-swap q (λ u. not (tuple_eq u t)) r

filter_without_other : (q : Pairs → Bool) (t : Pairs) (r : List Pairs) → q t ≡ false → filter q (without t r) ≡ filter q r
filter_without_other q t r h = filter-filter q (λ u. not (tuple_eq u t)) (λ u e. go u e (tuple_eq u t) refl) r
  where
    go : (u : Pairs) → q u ≡ true → (b : Bool) → tuple_eq u t ≡ b → not b ≡ true
    go u e false f = refl
    go u e true f = absurd (false≢true (sym h ∙ ap q (sym (same_from_test u t f)) ∙ e))

filter_removed_other : (q : Pairs → Bool) (found r : List Pairs) → ((t : Pairs) → In t found → q t ≡ false) → filter q (removed_first found r).relation ≡ filter q r
filter_removed_other q [] r h = refl
filter_removed_other q (t ∷ ts) r h = filter_without_other q t r (h t (inl refl))

-- ---- an update, by what it finds

reply_updated : (f : Option ℕ) (old : Pairs) (v w r s : List Pairs) → (updated_unless f old v r).reply ≡ (updated_unless f old w s).reply
reply_updated None old v w r s = refl
reply_updated (Some n) old v w r s = refl

filter_updated : (q : Pairs → Bool) (f : Option ℕ) (old : Pairs) (w r : List Pairs) → filter q (updated_unless f old w r).relation ≡ (updated_unless f old (filter q w) (filter q r)).relation
filter_updated q None old w r = refl
filter_updated q (Some n) old w r = refl

filter_updated_other : (q : Pairs → Bool) (f : Option ℕ) (old : Pairs) (w r : List Pairs) → filter q w ≡ filter q r → filter q (updated_unless f old w r).relation ≡ filter q r
filter_updated_other q None old w r e = e
filter_updated_other q (Some n) old w r e = refl

-- ---- the calls that have the key

-- a query or a remove gives the key column a value, as an insert and an update do
abbrev pub GivesKey : ℕ → OpKind → Pairs → Type 0
GivesKey key (Query outs ranges) args = In key (cols_of args)
GivesKey key Insert args = Unit {0}
GivesKey key Remove args = In key (cols_of args)
GivesKey key Update args = Unit {0}

abbrev pub HasKey : ℕ → Option Op → Pairs → Type 0
HasKey key None args = Unit {0}
HasKey key (Some op) args = In key op.pattern × GivesKey key op.kind args

gives_key : (key : ℕ) (spec : Spec) (kind : OpKind) (pattern : List ℕ) (args : Pairs) → In key pattern → cols_of args ≡ gather nat_cmp (value_columns spec pattern kind) → GivesKey key kind args
gives_key key spec (Query outs ranges) pattern args m e = subst (In key) (sym e) (gather_in nat_cmp nat_order key pattern m)
gives_key key spec Insert pattern args m e = tt
gives_key key spec Remove pattern args m e = subst (In key) (sym e) (gather_in nat_cmp nat_order key pattern m)
gives_key key spec Update pattern args m e = tt

pub has_key : (key : ℕ) (spec : Spec) (call : Call) → IsSharded spec key → Fits spec call → HasKey key (slice_get spec.ops call.op) call.args
has_key key spec call is fits =
    let op : Op = fits.0 in
    let at : FitsAt spec call op = fits.1 in
    let m : In key op.pattern = is.patterns op (slice_get_in spec.ops call.op op at.known) in
    subst (λ o. HasKey key o call.args) (sym at.known) (m, gives_key key spec op.kind op.pattern call.args m at.columns)

module _ (key : ℕ) (share : ℕ → ℕ) where
  -- ---- a call of the shard

  broken_same : (n : ℕ) (deps : List Dep) (args : Pairs) (r : List Pairs) → ((d : Dep) → In d deps → In key d.left) → shard_of key share args ≡ n → Satisfies r deps
      → first_broken_dependency 1 deps (put tuple_cmp args (tuples_in key share n r)) ≡ first_broken_dependency 1 deps (put tuple_cmp args r)
  broken_same n deps args r keyed e sat = first_broken-same 1 deps (put tuple_cmp args (tuples_in key share n r)) (put tuple_cmp args r) each
    where
      q : Pairs → Bool
      q t = shard_of key share t == n

      in_shard : (d : Dep) → In d deps → (u : Pairs) → breaks_pair d args u ≡ true → q u ≡ true
      in_shard d m u h =
          let left = agree_from_test d.left args u (and_parts (agree_on d.left args u) (not (agree_on d.right args u)) h).0 in
          eq-eqb (shard_of key share u) n (sym (project_shard key share d.left args u (keyed d m) left) ∙ e)

      each : (d : Dep) → In d deps → breaks (put tuple_cmp args (tuples_in key share n r)) d ≡ breaks (put tuple_cmp args r) d
      each d m =
          let p : List Pairs = tuples_in key share n r in
          let fewer : Satisfies p deps = satisfies_fewer r p deps (λ t k. (in_filter q t r k).0) sat in
          breaks-put args p d ∙ ap (λ b. b || breaks_with d args p) (test_from_satisfies p d (fewer d m) ∙ sym (test_from_satisfies r d (sat d m)))
          ∙ ap (λ b. breaks r d || b) (any-filter_same (breaks_pair d args) q true (in_shard d m) r) ∙ sym (breaks-put args r d)

  found_same : (n : ℕ) (args : Pairs) (r : List Pairs) → In key (cols_of args) → shard_of key share args ≡ n → filter (matches args) (tuples_in key share n r) ≡ filter (matches args) r
  found_same n args r m e = filter-filter (matches args) (λ t. shard_of key share t == n)
      (λ t h. eq-eqb (shard_of key share t) n (matches_shard key share args t m h ∙ e)) r

  asked_same : (n : ℕ) (args : Pairs) (ranges : List Range) (r : List Pairs) → In key (cols_of args) → shard_of key share args ≡ n
      → filter (is_asked args ranges) (tuples_in key share n r) ≡ filter (is_asked args ranges) r
  asked_same n args ranges r m e = filter-filter (is_asked args ranges) (λ t. shard_of key share t == n)
      (λ t h. eq-eqb (shard_of key share t) n (matches_shard key share args t m (and_parts (matches args t) (in_ranges ranges t) h).0 ∙ e)) r

  agreeing_same : (n : ℕ) (pattern : List ℕ) (args : Pairs) (r : List Pairs) → In key pattern → shard_of key share args ≡ n
      → filter (agree_on pattern args) (tuples_in key share n r) ≡ filter (agree_on pattern args) r
  agreeing_same n pattern args r m e = filter-filter (agree_on pattern args) (λ t. shard_of key share t == n)
      (λ t h. eq-eqb (shard_of key share t) n (agree_shard key share pattern args t m h ∙ e)) r

  present_same : (n : ℕ) (pattern : List ℕ) (args : Pairs) (r : List Pairs) → In key pattern → shard_of key share args ≡ n
      → list_any (agree_on pattern args) (tuples_in key share n r) ≡ list_any (agree_on pattern args) r
  present_same n pattern args r m e = any-filter_same (agree_on pattern args) (λ t. shard_of key share t == n) true
      (λ t h. eq-eqb (shard_of key share t) n (agree_shard key share pattern args t m h ∙ e)) r

  -- what an insert finds in its shard is what it finds in the whole
  inserted_same : (n : ℕ) (pattern : List ℕ) (deps : List Dep) (args : Pairs) (r w : List Pairs) → ((d : Dep) → In d deps → In key d.left) → In key pattern → shard_of key share args ≡ n
      → Satisfies r deps
      → inserted_by (list_any (agree_on pattern args) (tuples_in key share n r)) (first_broken_dependency 1 deps (put tuple_cmp args (tuples_in key share n r))) w (tuples_in key share n r)
      ≡ inserted_by (list_any (agree_on pattern args) r) (first_broken_dependency 1 deps (put tuple_cmp args r)) w (tuples_in key share n r)
  inserted_same n pattern deps args r w keyed m e sat =
      ap (λ b. inserted_by b (first_broken_dependency 1 deps (put tuple_cmp args (tuples_in key share n r))) w (tuples_in key share n r)) (present_same n pattern args r m e)
      ∙ ap (λ f. inserted_by (list_any (agree_on pattern args) r) f w (tuples_in key share n r)) (broken_same n deps args r keyed e sat)

  -- ---- an update of the shard

  module _ (n : ℕ) (deps : List Dep) (args : Pairs) (r : List Pairs) (keyed : (d : Dep) → In d deps → In key d.left) (of_shard : shard_of key share args ≡ n)
      (sat : Satisfies r deps) where
    -- the old tuple goes from the shard as from the whole
    without_same : (old : Pairs) → without old (tuples_in key share n r) ≡ tuples_in key share n (without old r)
    without_same old = filter-swap (λ u. not (tuple_eq u old)) (λ t. shard_of key share t == n) r

    update_broken : (old : Pairs) → first_broken_dependency 1 deps (put tuple_cmp args (without old (tuples_in key share n r)))
        ≡ first_broken_dependency 1 deps (put tuple_cmp args (without old r))
    update_broken old =
        ap (λ (l : List Pairs). first_broken_dependency 1 deps (put tuple_cmp args l)) (without_same old)
        ∙ broken_same n deps args (without old r) keyed of_shard
        (satisfies_fewer r (without old r) deps (λ t k. (in_filter (λ u. not (tuple_eq u old)) t r k).0) sat)

    updated_reply : (found : List Pairs) → (updated_first found deps args (tuples_in key share n r)).reply ≡ (updated_first found deps args r).reply
    updated_reply [] = refl
    updated_reply (old ∷ others) =
        let p = tuples_in key share n r in
        let after = put tuple_cmp args (without old p) in
        ap (λ f. (updated_unless f old after p).reply) (update_broken old)
        ∙ reply_updated (first_broken_dependency 1 deps (put tuple_cmp args (without old r))) old after (put tuple_cmp args (without old r)) p r

    updated_tuples : (found : List Pairs) → IsRising tuple_cmp r
        → (updated_first found deps args (tuples_in key share n r)).relation ≡ tuples_in key share n (updated_first found deps args r).relation
    updated_tuples [] rising = refl
    updated_tuples (old ∷ others) rising =
        let q : Pairs → Bool = λ t. shard_of key share t == n in
        let p = tuples_in key share n r in
        let broken = first_broken_dependency 1 deps (put tuple_cmp args (without old r)) in
        let put_in : put tuple_cmp args (without old p) ≡ filter q (put tuple_cmp args (without old r)) =
        ap (put tuple_cmp args) (without_same old)
        ∙ sym (filter-put tuple_cmp tuple_order q args (without old r) (rising_filter tuple_cmp (λ u. not (tuple_eq u old)) r rising) (eq-eqb (shard_of key share args) n of_shard)) in
        ap (λ f. (updated_unless f old (put tuple_cmp args (without old p)) p).relation) (update_broken old)
        ∙ ap (λ w. (updated_unless broken old w p).relation) put_in
        ∙ sym (filter_updated q broken old (put tuple_cmp args (without old r)) r)

  updated_other : (n : ℕ) (found : List Pairs) (deps : List Dep) (args : Pairs) (r : List Pairs) → ((t : Pairs) → In t found → (shard_of key share t == n) ≡ false)
      → (shard_of key share args == n) ≡ false → IsRising tuple_cmp r → tuples_in key share n (updated_first found deps args r).relation ≡ tuples_in key share n r
  updated_other n [] deps args r others e rising = refl
  updated_other n (old ∷ found) deps args r others e rising =
      let q : Pairs → Bool = λ t. shard_of key share t == n in
      filter_updated_other q (first_broken_dependency 1 deps (put tuple_cmp args (without old r))) old (put tuple_cmp args (without old r)) r
      (filter-put_other tuple_cmp tuple_order q args (without old r) (rising_filter tuple_cmp (λ u. not (tuple_eq u old)) r rising) e
      ∙ filter_without_other q old r (others old (inl refl)))

  -- ---- a call of any kind

  own_reply_by : (n most : ℕ) (kind : OpKind) (pattern : List ℕ) (deps : List Dep) (args : Pairs) (ranges : List Range) (r : List Pairs) → ((d : Dep) → In d deps → In key d.left)
      → In key pattern → GivesKey key kind args → shard_of key share args ≡ n → Satisfies r deps
      → (plain_by most kind pattern deps args ranges (tuples_in key share n r)).reply ≡ (plain_by most kind pattern deps args ranges r).reply
  own_reply_by n most (Query outs cols) pattern deps args ranges r keyed m g e sat = ap (λ found. at_most most (rows_of outs found)) (asked_same n args ranges r g e)
  own_reply_by n most Insert pattern deps args ranges r keyed m g e sat =
      ap (λ (o : Outcome). o.reply) (inserted_same n pattern deps args r (put tuple_cmp args (tuples_in key share n r)) keyed m e sat)
      ∙ reply_inserted (list_any (agree_on pattern args) r) (first_broken_dependency 1 deps (put tuple_cmp args r)) (put tuple_cmp args (tuples_in key share n r)) (put tuple_cmp args r) (tuples_in key share n r) r
  own_reply_by n most Remove pattern deps args ranges r keyed m g e sat =
      ap (λ found. (removed_first found (tuples_in key share n r)).reply) (found_same n args r g e) ∙ reply_removed (filter (matches args) r) (tuples_in key share n r) r
  own_reply_by n most Update pattern deps args ranges r keyed m g e sat =
      ap (λ found. (updated_first found deps args (tuples_in key share n r)).reply) (agreeing_same n pattern args r m e)
      ∙ updated_reply n deps args r keyed e sat (filter (agree_on pattern args) r)

  own_tuples_by : (n most : ℕ) (kind : OpKind) (pattern : List ℕ) (deps : List Dep) (args : Pairs) (ranges : List Range) (r : List Pairs) → ((d : Dep) → In d deps → In key d.left)
      → In key pattern → GivesKey key kind args → shard_of key share args ≡ n → IsRising tuple_cmp r → Satisfies r deps
      → (plain_by most kind pattern deps args ranges (tuples_in key share n r)).relation ≡ tuples_in key share n (plain_by most kind pattern deps args ranges r).relation
  own_tuples_by n most (Query outs cols) pattern deps args ranges r keyed m g e rising sat = refl
  own_tuples_by n most Insert pattern deps args ranges r keyed m g e rising sat =
      let q : Pairs → Bool = λ t. shard_of key share t == n in
      ap (λ (o : Outcome). o.relation) (inserted_same n pattern deps args r (put tuple_cmp args (tuples_in key share n r)) keyed m e sat)
      ∙ ap (λ w. (inserted_by (list_any (agree_on pattern args) r) (first_broken_dependency 1 deps (put tuple_cmp args r)) w (tuples_in key share n r)).relation)
      (sym (filter-put tuple_cmp tuple_order q args r rising (eq-eqb (shard_of key share args) n e)))
      ∙ sym (filter_inserted q (list_any (agree_on pattern args) r) (first_broken_dependency 1 deps (put tuple_cmp args r)) (put tuple_cmp args r) r)
  own_tuples_by n most Remove pattern deps args ranges r keyed m g e rising sat =
      ap (λ found. (removed_first found (tuples_in key share n r)).relation) (found_same n args r g e) ∙ sym (filter_removed (λ t. shard_of key share t == n) (filter (matches args) r) r)
  own_tuples_by n most Update pattern deps args ranges r keyed m g e rising sat =
      ap (λ found. (updated_first found deps args (tuples_in key share n r)).relation) (agreeing_same n pattern args r m e)
      ∙ updated_tuples n deps args r keyed e sat (filter (agree_on pattern args) r) rising

  other_tuples_by : (n most : ℕ) (kind : OpKind) (pattern : List ℕ) (deps : List Dep) (args : Pairs) (ranges : List Range) (r : List Pairs) → In key pattern → GivesKey key kind args
      → (shard_of key share args == n) ≡ false → IsRising tuple_cmp r → tuples_in key share n (plain_by most kind pattern deps args ranges r).relation ≡ tuples_in key share n r
  other_tuples_by n most (Query outs cols) pattern deps args ranges r m g e rising = refl
  other_tuples_by n most Insert pattern deps args ranges r m g e rising =
      let q : Pairs → Bool = λ t. shard_of key share t == n in
      filter_inserted_other q (list_any (agree_on pattern args) r) (first_broken_dependency 1 deps (put tuple_cmp args r)) (put tuple_cmp args r) r
      (filter-put_other tuple_cmp tuple_order q args r rising e)
  other_tuples_by n most Remove pattern deps args ranges r m g e rising =
      filter_removed_other (λ t. shard_of key share t == n) (filter (matches args) r) r
      (λ t k. ap (λ shard. shard == n) (matches_shard key share args t g (in_filter (matches args) t r k).1) ∙ e)
  other_tuples_by n most Update pattern deps args ranges r m g e rising =
      updated_other n (filter (agree_on pattern args) r) deps args r
      (λ t k. ap (λ shard. shard == n) (agree_shard key share pattern args t m (in_filter (agree_on pattern args) t r k).1) ∙ e) e rising

  -- ---- the plain step

  -- a call answers by its own shard
  own_reply_at : (n most : ℕ) (op : Option Op) (deps : List Dep) (args : Pairs) (ranges : List Range) (r : List Pairs) → ((d : Dep) → In d deps → In key d.left) → HasKey key op args
      → shard_of key share args ≡ n → Satisfies r deps → (plain_at most op deps args ranges (tuples_in key share n r)).reply ≡ (plain_at most op deps args ranges r).reply
  own_reply_at n most None deps args ranges r keyed h e sat = refl
  own_reply_at n most (Some op) deps args ranges r keyed h e sat = own_reply_by n most op.kind op.pattern deps args ranges r keyed h.0 h.1 e sat

  -- it changes its shard as it would change the shard alone
  own_tuples_at : (n most : ℕ) (op : Option Op) (deps : List Dep) (args : Pairs) (ranges : List Range) (r : List Pairs) → ((d : Dep) → In d deps → In key d.left) → HasKey key op args
      → shard_of key share args ≡ n → IsRising tuple_cmp r → Satisfies r deps
      → (plain_at most op deps args ranges (tuples_in key share n r)).relation ≡ tuples_in key share n (plain_at most op deps args ranges r).relation
  own_tuples_at n most None deps args ranges r keyed h e rising sat = refl
  own_tuples_at n most (Some op) deps args ranges r keyed h e rising sat = own_tuples_by n most op.kind op.pattern deps args ranges r keyed h.0 h.1 e rising sat

  -- and no other shard
  other_tuples_at : (n most : ℕ) (op : Option Op) (deps : List Dep) (args : Pairs) (ranges : List Range) (r : List Pairs) → HasKey key op args
      → (shard_of key share args == n) ≡ false → IsRising tuple_cmp r → tuples_in key share n (plain_at most op deps args ranges r).relation ≡ tuples_in key share n r
  other_tuples_at n most None deps args ranges r h e rising = refl
  other_tuples_at n most (Some op) deps args ranges r h e rising = other_tuples_by n most op.kind op.pattern deps args ranges r h.0 h.1 e rising

  pub own_reply : (n : ℕ) (spec : Spec) (r : List Pairs) (call : Call) → IsSharded spec key → HasKey key (slice_get spec.ops call.op) call.args
      → shard_of key share call.args ≡ n → Satisfies r spec.deps → (plain spec (tuples_in key share n r) call).reply ≡ (plain spec r call).reply
  own_reply n spec r call is h e sat = own_reply_at n spec.most_rows (slice_get spec.ops call.op) spec.deps call.args call.ranges r is.deps h e sat

  pub own_tuples : (n : ℕ) (spec : Spec) (r : List Pairs) (call : Call) → IsSharded spec key → HasKey key (slice_get spec.ops call.op) call.args
      → shard_of key share call.args ≡ n → IsRising tuple_cmp r → Satisfies r spec.deps → (plain spec (tuples_in key share n r) call).relation ≡ tuples_in key share n (plain spec r call).relation
  own_tuples n spec r call is h e rising sat = own_tuples_at n spec.most_rows (slice_get spec.ops call.op) spec.deps call.args call.ranges r is.deps h e rising sat

  pub other_tuples : (n : ℕ) (spec : Spec) (r : List Pairs) (call : Call) → HasKey key (slice_get spec.ops call.op) call.args
      → (shard_of key share call.args == n) ≡ false → IsRising tuple_cmp r → tuples_in key share n (plain spec r call).relation ≡ tuples_in key share n r
  other_tuples n spec r call h e rising = other_tuples_at n spec.most_rows (slice_get spec.ops call.op) spec.deps call.args call.ranges r h e rising

rising_at : (most : ℕ) (op : Option Op) (deps : List Dep) (args : Pairs) (ranges : List Range) (r : List Pairs) → IsRising tuple_cmp r
    → IsRising tuple_cmp (plain_at most op deps args ranges r).relation
rising_at most None deps args ranges r h = h
rising_at most (Some op) deps args ranges r h = rising_after most op.kind op.pattern deps args ranges r h

pub plain_rising : (spec : Spec) (r : List Pairs) (call : Call) → IsRising tuple_cmp r → IsRising tuple_cmp (plain spec r call).relation
plain_rising spec r call h = rising_at spec.most_rows (slice_get spec.ops call.op) spec.deps call.args call.ranges r h
