-- The words of a step determine it.
use Rattle.std.proofs.Common.{◌≡◌, ℕ, zero, suc, true, ◌&&◌, nat_le, List, [], ◌∷◌, ◌++◌, length, map, inl, inr, Some, Option, refl, sym, ap, ◌∙◌, subst, arith}
use Rattle.rc_text_laws.specs.Imports.{codes, slice_get, list_all, nat_cmp, In, AreDistinct, gather, nat_order, in_gather, gather_in, map_in, slice_get_in, same_rising, each_in, Pairs, IsTuple, cols_of, value, pair_cmp, pair_order, rising_pairs, one_pair, value_in, FitsAt, value_columns, is_name_byte, begins_name, op_names, IsWellNamed, Op, OpKind, Query, Insert, Remove, Update, Spec, Step, range_column, range_columns, Range, spaced, kind_at, pair_words, bounds_given, given, outs_of, reply_words, values_and_reply, step_words_at, step_words, Ends, AreTexts, cut, ends_stop}
use Rattle.std.proofs.lemmas.Bool.{and_parts}
use Rattle.std.proofs.lemmas.List.{append_cancel_left, length-map, map-append}
use Rattle.std.proofs.lemmas.List.Concat.{flat_map-append}
use Rattle.rc_text_laws.specs.LinesLaws.{IsShown, AreShown, IsReplyOf, values_one, tail_of}
use Rattle.rc_text_laws.specs.RepliesLaws.{reply_one}

-- ---- the arguments of a call

-- the columns with their values
abbrev picked : List ℕ → Pairs → Pairs
picked cols args = map (λ c. (c, value args c)) cols

-- the columns at the values that a call gives
cols_given : (cols : List ℕ) (args : Pairs) → cols_of (picked cols args) ≡ cols
cols_given [] args = refl
cols_given (c ∷ cols) args = ap (λ l. c ∷ l) (cols_given cols args)

same_value : (cols : List ℕ) (t u : Pairs) → picked cols t ≡ picked cols u → (c : ℕ) → In c cols
    → value t c ≡ value u c
same_value [] t u e c m = absurd m
same_value (x ∷ cols) t u e c (inl q) =
    let parts = both (x, value t x) (x, value u x) (picked cols t) (picked cols u) e in
    ap (value t) q ∙ ap (λ (p : ℕ × ℕ). p.1) parts.0 ∙ ap (value u) (sym q)
  where
    both : (p q : ℕ × ℕ) (t u : Pairs) → p ∷ t ≡ q ∷ u → (p ≡ q) × (t ≡ u)
    both p q t u e = (cc, cc)
same_value (x ∷ cols) t u e c (inr m) =
    let parts = both (x, value t x) (x, value u x) (picked cols t) (picked cols u) e in
    same_value cols t u parts.1 c m
  where
    both : (p q : ℕ × ℕ) (t u : Pairs) → p ∷ t ≡ q ∷ u → (p ≡ q) × (t ≡ u)
    both p q t u e = (cc, cc)

-- a tuple's pair at a column has the tuple's value there
pair_value : (t : Pairs) (p : ℕ × ℕ) → IsTuple t → In p t → p ≡ (p.0, value t p.0)
pair_value t p is m =
    one_pair t is.rising p (p.0, value t p.0) m
    (value_in t p.0 (map_in (λ (q : ℕ × ℕ). q.0) p t m)) refl

-- what two tuples over the columns have at the columns makes them
pairs_within : (cols : List ℕ) (t u : Pairs) → IsTuple t → cols_of t ≡ gather nat_cmp cols
    → cols_of u ≡ gather nat_cmp cols → ((c : ℕ) → In c cols → value t c ≡ value u c)
    → (p : ℕ × ℕ) → In p t → In p u
pairs_within cols t u is ct cu f p m =
    let col : In p.0 (gather nat_cmp cols) =
    subst (In p.0) ct (map_in (λ (q : ℕ × ℕ). q.0) p t m) in
    let there : In (p.0, value u p.0) u = value_in u p.0 (subst (In p.0) (sym cu) col) in
    let same : p ≡ (p.0, value u p.0) =
    pair_value t p is m ∙ ap (λ v. (p.0, v)) (f p.0 (in_gather nat_cmp nat_order p.0 cols col)) in
    subst (λ (q : ℕ × ℕ). In q u) (sym same) there

picked_one : (cols : List ℕ) (t u : Pairs) → IsTuple t → IsTuple u
    → cols_of t ≡ gather nat_cmp cols → cols_of u ≡ gather nat_cmp cols
    → picked cols t ≡ picked cols u → t ≡ u
picked_one cols t u it iu ct cu e =
    same_rising pair_cmp pair_order t u (rising_pairs t it) (rising_pairs u iu)
    (pairs_within cols t u it ct cu (same_value cols t u e))
    (pairs_within cols u t iu cu ct (λ c m. sym (same_value cols t u e c m)))

picked_shown : (spec : Spec) (texts : List (List ℕ)) (cols : List ℕ) (t : Pairs)
    → cols_of t ≡ gather nat_cmp cols → AreShown spec texts t → AreShown spec texts (picked cols t)
picked_shown spec texts cols t ct h =
    go cols
    (λ c m. each_in (λ p. IsShown (kind_at spec p.0) texts p.1) t h (c, value t c) (value_in t c (subst (In c) (sym ct) (gather_in nat_cmp nat_order c cols m))))
  where
    go : (some : List ℕ) → ((c : ℕ) → In c some → IsShown (kind_at spec c) texts (value t c))
        → AreShown spec texts (picked some t)
    go [] f = tt
    go (c ∷ some) f = (f c (inl refl), go some (λ d m. f d (inr m)))

-- ---- the bounds of a call

shown_append : (spec : Spec) (texts : List (List ℕ)) (p q : Pairs) → AreShown spec texts p → AreShown spec texts q
    → AreShown spec texts (p ++ q)
shown_append spec texts [] q first second = second
shown_append spec texts (x ∷ p) q first second = (first.0, shown_append spec texts p q first.1 second)

cols_append : (p q t u : Pairs) → cols_of p ≡ cols_of t → cols_of q ≡ cols_of u → cols_of (p ++ q) ≡ cols_of (t ++ u)
cols_append p q t u first second =
    map-append (λ (x : ℕ × ℕ). x.0) p q ∙ ap (λ cols. cols ++ cols_of q) first ∙ ap (λ cols. cols_of t ++ cols) second
    ∙ sym (map-append (λ (x : ℕ × ℕ). x.0) t u)

head_col : (c d : ℕ) (cs ds : List ℕ) → c ∷ cs ≡ d ∷ ds → (c ≡ d) × (cs ≡ ds)
head_col c d cs ds e = (cc, cc)

cols_bounds : (rs us : List Range) → map range_column rs ≡ map range_column us
    → cols_of (bounds_given rs) ≡ cols_of (bounds_given us)
cols_bounds [] [] e = refl
cols_bounds [] (y ∷ us) e = cc
cols_bounds (x ∷ rs) [] e = cc
cols_bounds (x ∷ rs) (y ∷ us) e =
    let parts = head_col x.col y.col (map range_column rs) (map range_column us) e in
    ap (λ c. c ∷ c ∷ cols_of (bounds_given rs)) parts.0 ∙ ap (λ cols. y.col ∷ y.col ∷ cols) (cols_bounds rs us parts.1)

-- bounds tell the ranges
bounds_one : (rs us : List Range) → bounds_given rs ≡ bounds_given us → rs ≡ us
bounds_one [] [] e = refl
bounds_one [] (y ∷ us) e = cc
bounds_one (x ∷ rs) [] e = cc
bounds_one (x ∷ rs) (y ∷ us) e =
    let first = both (x.col, x.lo) (y.col, y.lo) _ _ e in
    let second = both (x.col, x.hi) (y.col, y.hi) (bounds_given rs) (bounds_given us) first.1 in
    joined
    (λ i. record {
      col = (ap (λ (p : ℕ × ℕ). p.0) first.0) i;
      lo = (ap (λ (p : ℕ × ℕ). p.1) first.0) i;
      hi = (ap (λ (p : ℕ × ℕ). p.1) second.0) i;
    }) (bounds_one rs us second.1)
  where
    both : (p q : ℕ × ℕ) (t u : Pairs) → p ∷ t ≡ q ∷ u → (p ≡ q) × (t ≡ u)
    both p q t u e = (cc, cc)

    joined : x ≡ y → rs ≡ us → x ∷ rs ≡ y ∷ us
    joined e f = cc

no_ranges : (rs : List Range) → map range_column rs ≡ [] → rs ≡ []
no_ranges [] e = refl
no_ranges (x ∷ rs) e = cc

parts_one : (p q t u : Pairs) → length p ≡ length t → p ++ q ≡ t ++ u → (p ≡ t) × (q ≡ u)
parts_one [] q [] u same e = (refl, e)
parts_one [] q (y ∷ t) u same e = absurd (omega arith)
parts_one (x ∷ p) q [] u same e = absurd (omega arith)
parts_one (x ∷ p) q (y ∷ t) u same e =
    let first = both x y (p ++ q) (t ++ u) e in
    let others = parts_one p q t u (omega arith) first.1 in
    (joined first.0 others.0, others.1)
  where
    both : (a b : ℕ × ℕ) (v w : Pairs) → a ∷ v ≡ b ∷ w → (a ≡ b) × (v ≡ w)
    both a b v w e = (cc, cc)

    joined : x ≡ y → p ≡ t → x ∷ p ≡ y ∷ t
    joined e f = cc

given_cols : (spec : Spec) (kind : OpKind) (pattern : List ℕ) (t u : Pairs) (rs us : List Range)
    → cols_of t ≡ gather nat_cmp (value_columns spec pattern kind)
    → cols_of u ≡ gather nat_cmp (value_columns spec pattern kind)
    → map range_column rs ≡ range_columns kind → map range_column us ≡ range_columns kind
    → cols_of (given kind pattern t rs) ≡ cols_of (given kind pattern u us)
given_cols spec (Query outs ranges) pattern t u rs us ct cu cr cs =
    cols_append (picked pattern t) (bounds_given rs) (picked pattern u) (bounds_given us)
    (cols_given pattern t ∙ sym (cols_given pattern u)) (cols_bounds rs us (cr ∙ sym cs))
given_cols spec Insert pattern t u rs us ct cu cr cs = ct ∙ sym cu
given_cols spec Remove pattern t u rs us ct cu cr cs = cols_given pattern t ∙ sym (cols_given pattern u)
given_cols spec Update pattern t u rs us ct cu cr cs = ct ∙ sym cu

no_bounds : (rs us : List Range) → map range_column rs ≡ [] → map range_column us ≡ [] → rs ≡ us
no_bounds rs us cr cs = no_ranges rs cr ∙ sym (no_ranges us cs)

given_one : (spec : Spec) (kind : OpKind) (pattern : List ℕ) (t u : Pairs) (rs us : List Range) → IsTuple t → IsTuple u
    → cols_of t ≡ gather nat_cmp (value_columns spec pattern kind)
    → cols_of u ≡ gather nat_cmp (value_columns spec pattern kind)
    → map range_column rs ≡ range_columns kind → map range_column us ≡ range_columns kind
    → given kind pattern t rs ≡ given kind pattern u us → (t ≡ u) × (rs ≡ us)
given_one spec (Query outs ranges) pattern t u rs us it iu ct cu cr cs e =
    let parts = parts_one (picked pattern t) (bounds_given rs) (picked pattern u) (bounds_given us)
    (length-map pattern (λ c. (c, value t c)) ∙ sym (length-map pattern (λ c. (c, value u c)))) e in
    (picked_one pattern t u it iu ct cu parts.0, bounds_one rs us parts.1)
given_one spec Insert pattern t u rs us it iu ct cu cr cs e = (e, no_bounds rs us cr cs)
given_one spec Remove pattern t u rs us it iu ct cu cr cs e =
    (picked_one pattern t u it iu ct cu e, no_bounds rs us cr cs)
given_one spec Update pattern t u rs us it iu ct cu cr cs e = (e, no_bounds rs us cr cs)

pub given_shown : (spec : Spec) (texts : List (List ℕ)) (kind : OpKind) (pattern : List ℕ) (t : Pairs) (rs : List Range)
    → cols_of t ≡ gather nat_cmp (value_columns spec pattern kind) → AreShown spec texts t
    → AreShown spec texts (bounds_given rs) → AreShown spec texts (given kind pattern t rs)
given_shown spec texts (Query outs ranges) pattern t rs ct h b =
    shown_append spec texts (picked pattern t) (bounds_given rs) (picked_shown spec texts pattern t ct h) b
given_shown spec texts Insert pattern t rs ct h b = h
given_shown spec texts Remove pattern t rs ct h b = picked_shown spec texts pattern t ct h
given_shown spec texts Update pattern t rs ct h b = h

-- ---- the operation

distinct_place : (ops : List Op) (i j : ℕ) (x y : Op) → AreDistinct (op_names ops)
    → slice_get ops i ≡ Some x → slice_get ops j ≡ Some y → x.name ≡ y.name → i ≡ j
distinct_place [] i j x y d e f n = cc
distinct_place (op ∷ ops) zero zero x y d e f n = refl
distinct_place (op ∷ ops) zero (suc j) x y d e f n =
    let head : op ≡ x = some_same op x e in
    absurd
    (d.0 (subst (λ w. In w (op_names ops)) (sym (ap (λ (o : Op). o.name) head ∙ n)) (map_in (λ (o : Op). o.name) y ops (slice_get_in ops j y f))))
  where
    some_same : (a b : Op) → Some a ≡ Some b → a ≡ b
    some_same a b e = cc
distinct_place (op ∷ ops) (suc i) zero x y d e f n =
    let head : op ≡ y = some_same op y f in
    absurd
    (d.0 (subst (λ w. In w (op_names ops)) (sym (ap (λ (o : Op). o.name) head ∙ sym n)) (map_in (λ (o : Op). o.name) x ops (slice_get_in ops i x e))))
  where
    some_same : (a b : Op) → Some a ≡ Some b → a ≡ b
    some_same a b e = cc
distinct_place (op ∷ ops) (suc i) (suc j) x y d e f n =
    ap suc (distinct_place ops i j x y d.1 e f n)

-- ---- a step

-- a step whose call fits, with known values, and with a reply of the kind of its operation
pub record IsStepShown (spec : Spec) (texts : List (List ℕ)) (step : Step) : Type 0 where
  pub op : Op
  pub fits : FitsAt spec step.call op
  pub args : AreShown spec texts step.call.args
  pub bounds : AreShown spec texts (bounds_given step.call.ranges)
  pub reply : IsReplyOf spec texts op.kind step.reply

-- the step's parts behind the name of its operation
after_name : (spec : Spec) (texts : List (List ℕ)) (op : Op) (s t : Step) → AreTexts texts
    → FitsAt spec s.call op → FitsAt spec t.call op
    → AreShown spec texts s.call.args → AreShown spec texts t.call.args
    → AreShown spec texts (bounds_given s.call.ranges) → AreShown spec texts (bounds_given t.call.ranges)
    → IsReplyOf spec texts op.kind s.reply → IsReplyOf spec texts op.kind t.reply
    → spaced (values_and_reply spec texts op s) ≡ spaced (values_and_reply spec texts op t)
    → ((s.call.args ≡ t.call.args) × (s.call.ranges ≡ t.call.ranges)) × (s.reply ≡ t.reply)
after_name spec texts op s t good fs ft given_s given_t bounds_s bounds_t rs rt e =
    let gs = given op.kind op.pattern s.call.args s.call.ranges in
    let gt = given op.kind op.pattern t.call.args t.call.ranges in
    let ws = codes "->" ∷ reply_words spec texts (outs_of op.kind) s.reply in
    let wt = codes "->" ∷ reply_words spec texts (outs_of op.kind) t.reply in
    let line : spaced (pair_words spec texts gs) ++ spaced ws ≡ spaced (pair_words spec texts gt) ++ spaced wt =
    sym (flat_map-append (λ word. 32 ∷ word) (pair_words spec texts gs) ws) ∙ e
    ∙ flat_map-append (λ word. 32 ∷ word) (pair_words spec texts gt) wt in
    let both = values_one spec texts gs gt (spaced ws) (spaced wt) good
    (given_cols spec op.kind op.pattern s.call.args t.call.args s.call.ranges t.call.ranges fs.columns ft.columns fs.ranges ft.ranges)
    (given_shown spec texts op.kind op.pattern s.call.args s.call.ranges fs.columns given_s bounds_s)
    (given_shown spec texts op.kind op.pattern t.call.args t.call.ranges ft.columns given_t bounds_t) (inl refl)
    (inl refl) line in (
      given_one spec op.kind op.pattern s.call.args t.call.args s.call.ranges t.call.ranges fs.tuple ft.tuple fs.columns ft.columns fs.ranges ft.ranges both.0,
      reply_one spec texts good op.kind s.reply t.reply rs rt
          (append_cancel_left (32 ∷ codes "->") (spaced (reply_words spec texts (outs_of op.kind) s.reply)) (spaced (reply_words spec texts (outs_of op.kind) t.reply)) both.1),
    )

pub name_bytes : (spec : Spec) (op : Op) (i : ℕ) → IsWellNamed spec
    → slice_get spec.ops i ≡ Some op → list_all is_name_byte op.name ≡ true
name_bytes spec op i named e =
    let is = named.ops.each op.name
    (map_in (λ (o : Op). o.name) op spec.ops (slice_get_in spec.ops i op e)) in
    (and_parts (nat_le (length op.name) 16) (list_all is_name_byte op.name) (and_parts (begins_name op.name) (nat_le (length op.name) 16 && list_all is_name_byte op.name) is).1).1

pub ends_of : (words : List (List ℕ)) → Ends (spaced words)
ends_of [] = tt
ends_of (w ∷ words) = inl refl

step_with : (s t : Step) → s.call.op ≡ t.call.op
    → ((s.call.args ≡ t.call.args) × (s.call.ranges ≡ t.call.ranges)) × (s.reply ≡ t.reply) → s ≡ t
step_with s t e f = λ i. record { call = record { op = e i; args = f.0.0 i; ranges = f.0.1 i }; reply = f.1 i }

same_op : (a b : Op) (o p : Option Op) → o ≡ Some a → p ≡ Some b → o ≡ p → b ≡ a
same_op a b o p e f g = cc

pub step_one : (spec : Spec) (texts : List (List ℕ)) (s t : Step) → IsWellNamed spec
    → AreTexts texts → IsStepShown spec texts s → IsStepShown spec texts t
    → spaced (step_words spec texts s) ≡ spaced (step_words spec texts t) → s ≡ t
step_one spec texts s t named good hs ht e =
    let ws : step_words spec texts s ≡ hs.op.name ∷ values_and_reply spec texts hs.op s =
    ap (λ o. step_words_at o spec texts s) hs.fits.known in
    let wt : step_words spec texts t ≡ ht.op.name ∷ values_and_reply spec texts ht.op t =
    ap (λ o. step_words_at o spec texts t) ht.fits.known in
    let line = tail_of 32 32 (hs.op.name ++ spaced (values_and_reply spec texts hs.op s))
    (ht.op.name ++ spaced (values_and_reply spec texts ht.op t))
    (ap spaced (sym ws) ∙ e ∙ ap spaced wt) in
    let both = cut is_name_byte hs.op.name ht.op.name (spaced (values_and_reply spec texts hs.op s))
    (spaced (values_and_reply spec texts ht.op t))
    (name_bytes spec hs.op s.call.op named hs.fits.known)
    (name_bytes spec ht.op t.call.op named ht.fits.known)
    (ends_stop is_name_byte (spaced (values_and_reply spec texts hs.op s)) refl refl (ends_of (values_and_reply spec texts hs.op s)))
    (ends_stop is_name_byte (spaced (values_and_reply spec texts ht.op t)) refl refl (ends_of (values_and_reply spec texts ht.op t))) line in
    let place : s.call.op ≡ t.call.op = distinct_place spec.ops s.call.op t.call.op hs.op ht.op named.ops.distinct hs.fits.known ht.fits.known both.0 in
    let ops : ht.op ≡ hs.op = same_op hs.op ht.op (slice_get spec.ops s.call.op)
    (slice_get spec.ops t.call.op) hs.fits.known ht.fits.known (ap (slice_get spec.ops) place) in
    step_with s t place
    (after_name spec texts hs.op s t good hs.fits (subst (FitsAt spec t.call) ops ht.fits) hs.args ht.args hs.bounds ht.bounds hs.reply (subst (λ (o : Op). IsReplyOf spec texts o.kind t.reply) ops ht.reply)
    (both.1 ∙ ap (λ o. spaced (values_and_reply spec texts o t)) ops))
