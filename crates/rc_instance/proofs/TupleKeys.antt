-- Laws of a hash map from the pairs of tuples: what a look-up finds, and what a change of one key is.
use Rattle.std.specs.Prelude.{◌≡◌, ℕ, Bool, true, false, cond, ◌&&◌, Option, None, Some, List, [], ◌∷◌, map, nat_eq}
use Rattle.rc_instance.proofs.Imports.{Decides, IsTotalOrder, pointwise, pointwise_decides, FinMap, find, same_map, get-from_entries, get-insert, get-remove, lookup, IsKeyTest, AreApart, same_from_decides, Decides-eqb, Decides-and, Decides-like, Pairs, tuple_cmp, tuple_eq, tuple_order, same_from_test, test_from_same}
use Rattle.std.specs.FinMap as fin
use Rattle.std.specs.Map.{KeepsOthers}
use Rattle.std.proofs.Common.{Vec, Global, refl, sym, ap, ◌∙◌}

abbrev pub Key : Type 0
Key = Vec (ℕ × ℕ) Global

abbrev total : IsTotalOrder tuple_cmp
total = tuple_order.total

-- the map in which the key has this value, or none
abbrev pub written : {X : Type 0} → FinMap tuple_cmp X → Pairs → Option X → FinMap tuple_cmp X
written m key None = fin.remove m key
written m key (Some x) = fin.insert m key x

pub get-written : {X : Type 0} (m : FinMap tuple_cmp X) (key : Pairs) (w : Option X) (q : Pairs) → fin.get (written m key w) q ≡ cond (tuple_eq q key) w (fin.get m q)
get-written m key None q = get-remove total m key q
get-written m key (Some x) q = get-insert total m key x q

same_answers : {X : Type 0} (m n : FinMap tuple_cmp X) → ((q : Pairs) → fin.get m q ≡ fin.get n q) → m ≡ n
same_answers m n h = same_map total tuple_order.ties m n h

module _ {K X : Type 0} (f : K → Pairs) where
  abbrev pub by_tuples : List (K × X) → List (Pairs × X)
  by_tuples es = map (λ e. (f e.0, e.1)) es

  abbrev pub whole : List (K × X) → FinMap tuple_cmp X
  whole es = fin.from_entries (by_tuples es)

  find-by_tuples : (test : K → Bool) (q : Pairs) → ((k : K) → test k ≡ tuple_eq q (f k)) → (es : List (K × X)) → find tuple_cmp q (by_tuples es) ≡ lookup test es
  find-by_tuples test q t [] = refl
  find-by_tuples test q t (e ∷ es) =
      ap (λ b. cond b (Some e.1) (find tuple_cmp q (by_tuples es))) (sym (t e.0)) ∙ ap (cond (test e.0) (Some e.1)) (find-by_tuples test q t es)

  -- a look-up in the map is one in the map from tuples
  pub get-whole : (test : K → Bool) (q : Pairs) → ((k : K) → test k ≡ tuple_eq q (f k)) → (es : List (K × X)) → fin.get (whole es) q ≡ lookup test es
  get-whole test q t es = get-from_entries total (by_tuples es) q ∙ find-by_tuples test q t es

  -- where other keys keep what they had, the change is that of one key
  pub whole-changed : (eq : K → K → Bool) → ((x y : K) → eq x y ≡ tuple_eq (f x) (f y)) → (test : Pairs → K → Bool) → ((q : Pairs) (k : K) → test q k ≡ tuple_eq q (f k))
      → (key : Pairs) (w : Option X) (old new : List (K × X)) → KeepsOthers eq (test key) old new → lookup (test key) new ≡ w → whole new ≡ written (whole old) key w
  unfolding KeepsOthers
  whole-changed eq e test t key w old new keeps here = same_answers (whole new) (written (whole old) key w)
      (λ q. go q (tuple_eq q key) refl ∙ sym (get-written (whole old) key w q))
    where
      one : (q : Pairs) → IsKeyTest eq (test q)
      one q x y h =
          let p : q ≡ f x = same_from_test q (f x) (sym (t q x) ∙ h) in
          t q y ∙ ap (λ z. tuple_eq z (f y)) p ∙ sym (e x y)

      apart : (q : Pairs) → tuple_eq q key ≡ false → AreApart (test key) (test q)
      apart q n k h =
          let p : key ≡ f k = same_from_test key (f k) (sym (t key k) ∙ h) in
          t q k ∙ ap (tuple_eq q) (sym p) ∙ n

      go : (q : Pairs) (b : Bool) → tuple_eq q key ≡ b → fin.get (whole new) q ≡ cond b w (fin.get (whole old) q)
      go q true h = ap (fin.get (whole new)) (same_from_test q key h) ∙ get-whole (test key) key (t key) new ∙ here
      go q false h = get-whole (test q) q (t q) new ∙ keeps (test q) (one q) (apart q h) ∙ sym (get-whole (test q) q (t q) old)

-- equal pairs, as `==` has it
abbrev pub pair_eq : ℕ × ℕ → ℕ × ℕ → Bool
pair_eq p q = nat_eq p.0 q.0 && nat_eq p.1 q.1

pair_decides : (p q : ℕ × ℕ) → Decides (pair_eq p q) (p ≡ q)
pair_decides p q = Decides-like (pair_eq p q) (λ h i. (h.0 i, h.1 i)) (λ e. (ap (λ (z : ℕ × ℕ). z.0) e, ap (λ (z : ℕ × ℕ). z.1) e))
    (Decides-and (nat_eq p.0 q.0) (nat_eq p.1 q.1) (Decides-eqb p.0 q.0) (Decides-eqb p.1 q.1))

pub pointwise_same : (x y : Pairs) → pointwise pair_eq x y ≡ tuple_eq x y
pointwise_same x y = same_from_decides (pointwise pair_eq x y) (tuple_eq x y) (pointwise_decides pair_decides x y) (same_from_test x y, test_from_same x y)

abbrev pub test : Pairs → Key → Bool
test q k = pointwise pair_eq q k.items

abbrev pub key_eq : Key → Key → Bool
key_eq x y = pointwise pair_eq x.items y.items
