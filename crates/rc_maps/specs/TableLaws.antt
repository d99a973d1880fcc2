-- Laws of maps whose keys stand for lists of values: what a look-up finds, and what a change at one key is.
use Rattle.rc_maps.specs.Imports.{option_map, OnSome, is_at, Ordering, Less, Equal, Greater, is_lt, nat_cmp, ordering_then, AllByRecursion, All, lookup, keys_of, values_of, IsKeyTest, FinMap, find, is_sorted, get-from_entries, get-empty, below_all, Values, values_cmp, values_eq, same_from_test, test_from_same, Counted, HasWidth, Rows, count_of, once_more, written, total, get-written, same_answers, written_again}
use Rattle.std.specs.Prelude.{◌≡◌, ℕ, zero, suc, ◌+◌, ◌<◌, IsSome, Bool, true, false, cond, nat_eq, T, ◌&&◌, ◌↔◌, Option, None, Some, List, [], ◌∷◌, map, length}
use Rattle.std.specs.List.{IsDistinct}
use Rattle.std.specs.List.Sorted.{IsStrictlySortedBy}
use Rattle.std.specs.Map.{KeepsOthers, AreApart as KeysApart}
use Rattle.std.specs.FinMap as fin
use Rattle.std.proofs.Common.{Vec, Global, refl, sym, ap, subst, ◌∙◌, arith, slice_index_or}
use Rattle.std.proofs.lemmas.Bool.Decides.{same_from_decides, Decides-eqb}
use Rattle.std.proofs.lemmas.Option.{none-some}
use Rattle.rc_maps.specs.Keyed.{AreApart, IsKeyed, by_one, pair_of}
use Rattle.rc_maps.specs.declared.keyed.Keyed.{Keyed}

-- ---- keys that stand for lists of values

module _ {K X : Type 0} (f : K → Values) where
  abbrev pub by_values : List (K × X) → List (Values × X)
  by_values es = map (λ e. (f e.0, e.1)) es

  abbrev pub whole : List (K × X) → FinMap values_cmp X
  whole es = fin.from_entries (by_values es)

  find-by_values : (test : K → Bool) (q : Values) → ((k : K) → test k ≡ values_eq q (f k)) → (es : List (K × X))
      → find values_cmp q (by_values es) ≡ lookup test es
  find-by_values test q t [] = refl
  find-by_values test q t (e ∷ es) =
      ap (λ b. cond b (Some e.1) (find values_cmp q (by_values es))) (sym (t e.0))
      ∙ ap (cond (test e.0) (Some e.1)) (find-by_values test q t es)

  -- a look-up in the map is one in the map from lists of values
  pub get-whole : (test : K → Bool) (q : Values) → ((k : K) → test k ≡ values_eq q (f k)) → (es : List (K × X))
      → fin.get (whole es) q ≡ lookup test es
  get-whole test q t es = get-from_entries total (by_values es) q ∙ find-by_values test q t es

  -- where other keys keep what they had, the change is that of one key
  pub whole-changed : (eq : K → K → Bool) → ((x y : K) → eq x y ≡ values_eq (f x) (f y)) → (key : Values) (test : K → Bool)
      → ((k : K) → test k ≡ values_eq key (f k))
      → (w : Option X) (old new : List (K × X)) → KeepsOthers eq test old new → lookup test new ≡ w → whole new ≡ written (whole old) key w
  unfolding KeepsOthers
  whole-changed eq e key test t w old new keeps here = same_answers (whole new) (written (whole old) key w)
      (λ q. go q (values_eq q key) refl ∙ sym (get-written (whole old) key w q))
    where
      one : (q : Values) → IsKeyTest eq (λ k. values_eq q (f k))
      one q x y h =
          let p : q ≡ f x = same_from_test q (f x) h in
          ap (λ z. values_eq z (f y)) p ∙ sym (e x y)

      apart : (q : Values) → values_eq q key ≡ false → KeysApart test (λ k. values_eq q (f k))
      apart q n k h =
          let p : key ≡ f k = same_from_test key (f k) (sym (t k) ∙ h) in
          ap (values_eq q) (sym p) ∙ n

      go : (q : Values) (b : Bool) → values_eq q key ≡ b → fin.get (whole new) q ≡ cond b w (fin.get (whole old) q)
      go q true h = ap (fin.get (whole new)) (same_from_test q key h) ∙ get-whole test key t new ∙ here
      go q false h =
          get-whole (λ k. values_eq q (f k)) q (λ k. refl) new ∙ keeps (λ k. values_eq q (f k)) (one q) (apart q h)
          ∙ sym (get-whole (λ k. values_eq q (f k)) q (λ k. refl) old)

  -- ---- distinct keys, and keys that rise

  pub apart_by_values : (eq : K → K → Bool) → ((x y : K) → eq x y ≡ values_eq (f x) (f y)) → (es : List (K × X))
      → IsDistinct eq (keys_of es) → AreApart (by_values es)
  unfolding IsDistinct
  apart_by_values eq same [] h = tt
  apart_by_values eq same (e ∷ es) h = (others es h.0, apart_by_values eq same es h.1)
    where
      others : (ds : List (K × X)) → AllByRecursion (λ k. eq e.0 k ≡ false) (keys_of ds)
          → AllByRecursion (λ k. values_eq (f e.0) k ≡ false) (keys_of (by_values ds))
      others [] h = tt
      others (d ∷ ds) h = (sym (same e.0 d.0) ∙ h.0, others ds h.1)

  pub sorted_by_values : (es : List (K × X)) → IsStrictlySortedBy (λ x y. values_cmp (f x) (f y)) (keys_of es) → IsKeyed (by_values es)
  unfolding IsStrictlySortedBy
  sorted_by_values [] h = tt
  sorted_by_values (e ∷ es) h =
      both (below_all values_cmp (f e.0) (by_values es)) (is_sorted values_cmp (by_values es)) (below es h.0) (sorted_by_values es h.1)
    where
      both : (a b : Bool) → T a → T b → T (a && b)
      both true b p q = q
      both false b p q = p

      below : (ds : List (K × X)) → AllByRecursion (λ k. values_cmp (f e.0) (f k) ≡ Less) (keys_of ds)
          → T (below_all values_cmp (f e.0) (by_values ds))
      below [] h = tt
      below (d ∷ ds) h =
          both (is_lt (values_cmp (f e.0) (f d.0))) (below_all values_cmp (f e.0) (by_values ds))
          (subst (λ r. T (is_lt r)) (sym h.0) tt) (below ds h.1)

  pub values-by_values : (es : List (K × X)) → values_of (by_values es) ≡ values_of es
  values-by_values [] = refl
  values-by_values (e ∷ es) = ap (λ z. e.1 ∷ z) (values-by_values es)

  -- there are no entries where the map is empty
  pub none-whole : (es : List (K × X)) → (length es ≡ 0) ↔ (whole es ≡ fin.empty)
  none-whole es = (λ h. to es h, λ h. from es h)
    where
      to : (es : List (K × X)) → length es ≡ 0 → whole es ≡ fin.empty
      to [] h = same_answers (whole []) fin.empty (λ q. get-from_entries total [] q ∙ sym (get-empty values_cmp q))
      to (e ∷ es) h = absurd (let n : suc (length es) ≡ 0 = h in omega arith)

      from : (es : List (K × X)) → whole es ≡ fin.empty → length es ≡ 0
      from [] h = refl
      from (e ∷ es) h =
          absurd (none-some e.1 (sym (get-empty values_cmp (f e.0)) ∙ ap (λ z. fin.get z (f e.0)) (sym h)
          ∙ get-from_entries total (by_values (e ∷ es)) (f e.0)
          ∙ ap (λ b. cond b (Some e.1) (find values_cmp (f e.0) (by_values es))) (test_from_same (f e.0) (f e.0) refl)))

-- ---- keys of one column

abbrev pub one : ℕ → Values
one n = n ∷ []

pub one_cmp : (x y : ℕ) → values_cmp (one x) (one y) ≡ nat_cmp x y
one_cmp x y = go (nat_cmp x y)
  where
    go : (o : Ordering) → ordering_then o Equal ≡ o
    go Less = refl
    go Equal = refl
    go Greater = refl

pub one_eq : (x y : ℕ) → nat_eq x y ≡ values_eq (one x) (one y)
one_eq x y = same_from_decides (nat_eq x y) (values_eq (one x) (one y)) (Decides-eqb x y)
    ((λ h. head (same_from_test (one x) (one y) h)), (λ e. test_from_same (one x) (one y) (ap one e)))
  where
    head : one x ≡ one y → x ≡ y
    head e = cc

pub one_at : (x y : ℕ) → is_at (nat_cmp x) y ≡ values_eq (one x) (one y)
one_at x y = ap (λ o. is_at (λ (z : ℕ). o) y) (sym (one_cmp x y))

-- a key of another length is none of one column's
pub no_one : {X : Type 0} (key : Values) (es : List (ℕ × X)) → (length key ≡ 1 → ⊥)
    → fin.get (fin.from_entries {R = values_cmp} (by_one es)) key ≡ None
no_one {X = X} key es n = get-from_entries total (by_one es) key ∙ go es
  where
    other : (k : ℕ) (b : Bool) → values_eq key (one k) ≡ b → b ≡ false
    other k true h = absurd (n (ap length (same_from_test key (one k) h)))
    other k false h = refl

    go : (es : List (ℕ × X)) → find values_cmp key (by_one es) ≡ None
    go [] = refl
    go (e ∷ es) = ap (λ b. cond b (Some e.1) (find values_cmp key (by_one es))) (other e.0 (values_eq key (one e.0)) refl) ∙ go es

-- ---- keys of vectors

abbrev pub many : Vec ℕ Global → Values
many k = k.items

-- ---- the keys of a walk have the table's width

pub one_widths : {X : Type 0} (all : List (Keyed X)) (es : List (ℕ × X)) → map pair_of all ≡ by_one es
    → All (λ k. HasWidth true k.key.now) all
one_widths {X = X} all es is = go all es is
  where
    go : (all : List (Keyed X)) (es : List (ℕ × X)) → map pair_of all ≡ by_one es → (k : ℕ) (d : Keyed X) → k < length all
        → length (slice_index_or all k d).key.now ≡ 1
    go [] es is k d l = absurd (omega arith)
    go (a ∷ all) [] is k d l = absurd (cc)
    go (a ∷ all) (e ∷ es) is zero d l = let h : (a.key.now, a.value.now) ≡ (one e.0, e.1) = cc in ap (λ (z : Values × X). length z.0) h
    go (a ∷ all) (e ∷ es) is (suc k) d l = let h : map pair_of all ≡ by_one es = cc in go all es h k d (omega arith)

-- what follows where something is found holds where a reference to it is
pub on_found : {B X P : Type 0} (f : B → X) (r : Option B) (o : Option X) → option_map f r ≡ o → (IsSome o → P) → OnSome r P
on_found f None o e h = tt
on_found f (Some b) o e h = h (subst IsSome e refl)

-- what holds where something was found, holds here
pub on_some : {B P : Type 0} (r : Option B) (b : B) → r ≡ Some b → OnSome r P → P
on_some None b e h = absurd (none-some b e)
on_some (Some x) b e h = h

-- ---- values written one after the other

pub written_twice : {X : Type 0} (m : FinMap values_cmp X) (key : Values) (v w : Option X)
    → written (written m key v) key w ≡ written m key w
written_twice m key v w = same_answers (written (written m key v) key w) (written m key w) (λ q.
    get-written (written m key v) key w q ∙ ap (cond (values_eq q key) w) (get-written m key v q) ∙ go q (values_eq q key)
    ∙ sym (get-written m key w q))
  where
    go : (q : Values) (b : Bool) → cond b w (cond b v (fin.get m q)) ≡ cond b w (fin.get m q)
    go q true = refl
    go q false = refl

-- ---- what an entry written at its key is to the rows, where o is what was there

module _ (old new : Rows) (key : Values) (w : Counted) (o : Option Counted) (at : fin.get old key ≡ o) (set : new ≡ fin.insert old key w) where
  pub raised : (extra : Values) → w ≡ (extra, count_of o + 1) → new ≡ once_more old key extra
  raised extra h = set ∙ ap (fin.insert old key) (h ∙ ap (λ z. (extra, count_of z + 1)) (sym at))

  -- the same entry, written again, changes nothing
  pub stays : Some w ≡ o → new ≡ old
  stays same = set ∙ written_again old key (Some w) (at ∙ sym same)
