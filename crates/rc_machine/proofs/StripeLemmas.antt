-- On which stripe a tuple falls, and which columns a tuple has.
use Rattle.std.specs.Prelude.{◌≡◌, ℕ, ◌+◌, ◌<◌, Bool, true, false, List, [], ◌∷◌, ◌++◌, Option, cond, filter, get_or, length, take, unwrap_or}
use Rattle.rc_machine.proofs.Imports.{fold, nat_cmp, take-suc, map-append, filter-append, fold-append, In, IsRising, filter_in, get_or_in, has_in, in_append, in_filter, in_gather, in_has, nat_order, rising_filter, same_rising, slice_get_in, IsColSet, Within, has, union, in_range_bounds, in_union, rising_range, IsTuple, Pairs, cols_of, value, Agree, fewer_cols, in_project, one_pair, Call, Op, OpKind, Query, Insert, Remove, Update, Spec, IsSealed, Fits, all_columns, value_columns, row_in, bound, edge_at, AreBelow, IsOpAmong, class_at, class_of, hash_of, mix, physical_stripe, get_of, physical_stripe-agreeing, striping_in_target, AreStripesOf, IsStripeOf, ClassStripe, target_within}
use Rattle.std.proofs.Common.{add-one, arith, ap, inl, inr, subst, refl, sym, ◌∙◌}
use Rattle.rc_machine.proofs.ApplyLemmas.{cols_of-row_in}

-- a whole tuple falls on the stripe on which its row of an edge falls
pub tuple_falls_with_row : (spec : Spec) → IsSealed spec → (t : Pairs) → cols_of t ≡ all_columns spec → (e : ℕ) → e < length spec.edges
    → physical_stripe spec (class_of spec e) t ≡ physical_stripe spec (class_of spec e) (row_in spec t e)
tuple_falls_with_row spec sealed t whole e l =
    let target = bound spec (edge_at spec e).to in
    let rises : IsRising nat_cmp (cols_of t) = subst (IsRising nat_cmp) (sym whole) (rising_range 0 (length spec.columns)) in
    let inside : Within (class_at spec (class_of spec e)).cols target = striping_in_target spec sealed.accepted.adequate sealed.accepted.placed e l in
    let in_row : Within (class_at spec (class_of spec e)).cols (cols_of (row_in spec t e)) = λ c m. subst (In c) (sym (cols_of-row_in spec sealed t whole e l)) (inside c m) in
    physical_stripe-agreeing spec (class_of spec e) t (row_in spec t e) (λ c m. fewer_cols target t c (in_row c m)) in_row
    (λ p q m n same. one_pair t rises p q m (in_project target q t n).0 same)

-- and it has the columns of the class
pub class_within : (spec : Spec) → IsSealed spec → (t : Pairs) → cols_of t ≡ all_columns spec → (e : ℕ) → e < length spec.edges → Within (class_at spec (class_of spec e)).cols (cols_of t)
class_within spec sealed t whole e l c m = subst (In c) (sym whole) (target_within spec sealed.in_range e l c (striping_in_target spec sealed.accepted.adequate sealed.accepted.placed e l c m))

-- ---- stripes that were found

pub no_stripes : (spec : Spec) (t : Pairs) (stripes : List ClassStripe) → stripes ≡ [] → AreStripesOf spec t stripes
no_stripes spec t stripes none s m = absurd (subst (In s) none m)

pub one_stripe_more : (spec : Spec) (t : Pairs) (stripes : List ClassStripe) (s : ClassStripe) → AreStripesOf spec t stripes → IsStripeOf spec t s → AreStripesOf spec t (stripes ++ s ∷ [])
one_stripe_more spec t stripes s are is x m = elim (in_append x stripes (s ∷ []) m) [
  | inl n ↦ are x n
  | inr (inl e) ↦ subst (IsStripeOf spec t) (sym e) is
  | inr (inr z) ↦ absurd z
]

-- those of a tuple are those of each that agrees with it and has its columns
pub stripes_of_more : (spec : Spec) (t u : Pairs) (stripes : List ClassStripe) → Within (cols_of t) (cols_of u) → Agree t u → AreStripesOf spec t stripes → AreStripesOf spec u stripes
stripes_of_more spec t u stripes within agree are s m =
    let is : IsStripeOf spec t s = are s m in
    let in_more : Within (class_at spec s.class).cols (cols_of u) = (λ c n. within c (is.within c n)) in
    record { falls = is.falls ∙ physical_stripe-agreeing spec s.class t u is.within in_more agree; within = in_more }

-- ---- columns

pub all_below : (spec : Spec) → AreBelow (length spec.columns) (all_columns spec)
all_below spec c m = let l = (in_range_bounds 0 (length spec.columns) c m).1 in omega (arith, l)

given_below : (spec : Spec) (pattern : List ℕ) (kind : OpKind) → AreBelow (length spec.columns) pattern → AreBelow (length spec.columns) (value_columns spec pattern kind)
given_below spec pattern (Query outs ranges) below = below
given_below spec pattern Insert below = all_below spec
given_below spec pattern Remove below = below
given_below spec pattern Update below = all_below spec

-- a call gives values for columns of the specification
pub args_below : (spec : Spec) → IsSealed spec → (call : Call) → Fits spec call → AreBelow (length spec.columns) (cols_of call.args)
args_below spec sealed call fits c m =
    let op : Op = fits.0 in
    let among : IsOpAmong (length spec.columns) op = sealed.in_range.known_ops op (slice_get_in spec.ops call.op op fits.1.known) in
    given_below spec op.pattern op.kind among.pattern c (in_gather nat_cmp nat_order c (value_columns spec op.pattern op.kind) (subst (In c) fits.1.columns m))

-- a Read's bindings are over columns of the specification
pub joined_below : (spec : Spec) → IsSealed spec → (e : ℕ) → e < length spec.edges → (cols : List ℕ) → AreBelow (length spec.columns) cols → AreBelow (length spec.columns) (union cols (bound spec (edge_at spec e).to))
joined_below spec sealed e l cols below c m =
    elim (in_union cols (bound spec (edge_at spec e).to) c m) [ inl h ↦ below c h | inr h ↦ all_below spec c (target_within spec sealed.in_range e l c h) ]

-- ---- the hash of a tuple's values, pair after pair

hash_next : (cols : List ℕ) (t : Pairs) (i : ℕ) (d : ℕ × ℕ) → i < length t → (b : Bool) → has cols (get_or t i d).0 ≡ b
    → hash_of (filter (has cols) (cols_of (take (i + 1) t))) t ≡ cond b (mix (hash_of (filter (has cols) (cols_of (take i t))) t) (value t (get_or t i d).0)) (hash_of (filter (has cols) (cols_of (take i t))) t)
hash_next cols t i d l b e =
    let p : ℕ × ℕ = get_or t i d in
    let before : List ℕ = filter (has cols) (cols_of (take i t)) in
    let next : take (i + 1) t ≡ take i t ++ p ∷ [] = ap (λ k. take k t) (add-one i) ∙ take-suc t i d l in
    let split : filter (has cols) (cols_of (take (i + 1) t)) ≡ before ++ cond (has cols p.0) (p.0 ∷ []) [] =
    ap (λ (z : Pairs). filter (has cols) (cols_of z)) next ∙ ap (filter (has cols)) (map-append (λ (q : ℕ × ℕ). q.0) (take i t) (p ∷ [])) ∙ filter-append (has cols) (cols_of (take i t)) (p.0 ∷ []) in
    ap (λ z. hash_of z t) (split ∙ ap (λ b. before ++ cond b (p.0 ∷ []) []) e) ∙ fold-append (λ hash c. mix hash (value t c)) 7 before (cond b (p.0 ∷ []) []) ∙ go p before b
  where
    go : (p : ℕ × ℕ) (before : List ℕ) (b : Bool) → fold (λ hash c. mix hash (value t c)) (hash_of before t) (cond b (p.0 ∷ []) []) ≡ cond b (mix (hash_of before t) (value t p.0)) (hash_of before t)
    go p before true = refl
    go p before false = refl

pub hash_with : (cols : List ℕ) (t : Pairs) → IsTuple t → (i : ℕ) (d : ℕ × ℕ) → i < length t → (hash : ℕ) → hash ≡ hash_of (filter (has cols) (cols_of (take i t))) t → has cols (get_or t i d).0 ≡ true
    → hash_of (filter (has cols) (cols_of (take (i + 1) t))) t ≡ mix hash (get_or t i d).1
hash_with cols t tuple i d l hash is e =
    let p : ℕ × ℕ = get_or t i d in
    let its : value t p.0 ≡ p.1 = ap (λ (o : Option ℕ). unwrap_or o 0) (get_of t p tuple.rising (get_or_in t i d l)) in
    hash_next cols t i d l true e ∙ ap (mix (hash_of (filter (has cols) (cols_of (take i t))) t)) its ∙ ap (λ z. mix z p.1) (sym is)

pub hash_without : (cols : List ℕ) (t : Pairs) (i : ℕ) (d : ℕ × ℕ) → i < length t → (hash : ℕ) → hash ≡ hash_of (filter (has cols) (cols_of (take i t))) t → has cols (get_or t i d).0 ≡ false
    → hash_of (filter (has cols) (cols_of (take (i + 1) t))) t ≡ hash
hash_without cols t i d l hash is e = hash_next cols t i d l false e ∙ sym is

-- in the end each column of the set was met
pub columns_met : (cols : List ℕ) (t : Pairs) → IsTuple t → Within cols (cols_of t) → IsColSet cols → filter (has cols) (cols_of t) ≡ cols
columns_met cols t tuple within set =
    same_rising nat_cmp nat_order (filter (has cols) (cols_of t)) cols (rising_filter nat_cmp (has cols) (cols_of t) tuple.rising) set.rising
    (λ c m. in_has cols c (in_filter (has cols) c (cols_of t) m).1)
    (λ c m. filter_in (has cols) c (cols_of t) (within c m) (has_in cols c m))
