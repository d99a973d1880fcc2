-- What a change of one key is to the tuples at each, and what an index adds up to.
use Rattle.std.specs.Prelude.{◌≡◌, ℕ, ◌+◌, ◌<◌, Bool, true, false, Option, Some, List, [], ◌∷◌, ◌++◌, cond, take, get_or, length}
use Rattle.rc_instance.proofs.Imports.{Bor, flat_map, lookup, KeepsOthers, append-nil, map-append, take-suc, In, gather, in_append, Within, Pairs, IsTuple, cols_of, merges_of, project, tuple_cmp, tuple_eq, rising_pairs, same_from_test, join_by_columns, join, Entries, IsAdded, IsIndexed, found_at, tuples_in, tuples_of, whole_of}
use Rattle.std.specs.FinMap as fin
use Rattle.std.proofs.Common.{Vec, Global, refl, sym, ap, subst, inl, inr, add-one, ◌∙◌}
use Rattle.rc_instance.proofs.TupleKeys.{Key, get-whole, get-written, key_eq, pointwise_same, test, whole-changed, written}

abbrev Tuples : Type 0
Tuples = Vec (Bor Pairs) Global

-- what a look-up finds
pub found : (key : Pairs) (o : Option Tuples) (es : Entries) → o ≡ lookup (test key) es → fin.get (whole_of es) key ≡ o
found key o es h = get-whole (λ (k : Key). k.items) (test key) key (λ k. pointwise_same key k.items) es ∙ sym h

changed : (key : Pairs) (w : Option Tuples) (old new : Entries) → KeepsOthers key_eq (test key) old new → lookup (test key) new ≡ w → whole_of new ≡ written (whole_of old) key w
changed key w old new keeps here =
    whole-changed (λ (k : Key). k.items) key_eq (λ x y. pointwise_same x.items y.items) test (λ q k. pointwise_same q k.items) key w old new keeps here

-- where one key changed, and has one tuple more
pub added : (key t : Pairs) (w : Tuples) (old new : Entries) → KeepsOthers key_eq (test key) old new → lookup (test key) new ≡ Some w → tuples_of w.items ≡ found_at old key ++ t ∷ [] → IsAdded key t old new
added key t w old new keeps here more other =
    ap tuples_in (ap (λ m. fin.get m other) (changed key (Some w) old new keeps here) ∙ get-written (whole_of old) key (Some w) other) ∙ go (tuple_eq other key) refl
  where
    go : (b : Bool) → tuple_eq other key ≡ b → tuples_in (cond b (Some w) (fin.get (whole_of old) other)) ≡ found_at old other ++ cond b (t ∷ []) []
    go true e = more ∙ ap (λ k. found_at old k ++ t ∷ []) (sym (same_from_test other key e))
    go false e = sym (append-nil (found_at old other))

pub tuples_of-more : (ts : List (Bor Pairs)) (t : Bor Pairs) → tuples_of (ts ++ t ∷ []) ≡ tuples_of ts ++ t.now ∷ []
tuples_of-more ts t = map-append (λ (t : Bor Pairs). t.now) ts (t ∷ [])

-- all merges are the join
pub joined : (on : List ℕ) (left right : List Pairs) (es : Entries) → ((t : Pairs) → In t left → IsTuple t × Within on (cols_of t)) → ((t : Pairs) → In t right → IsTuple t × Within on (cols_of t))
    → IsIndexed on right es → gather tuple_cmp (flat_map (λ t. merges_of t (found_at es (project on t))) left) ≡ join left right
joined on left right es f g h =
    ap (λ (k : Pairs → List Pairs). gather tuple_cmp (flat_map (λ t. merges_of t (k t)) left)) (λ i t. h (project on t) i)
    ∙ sym (join_by_columns on left right (λ t m. (rising_pairs t (f t m).0, (f t m).1)) (λ t m. (rising_pairs t (g t m).0, (g t m).1)))

-- what holds of the first ones and of the next holds of one more
pub in_more : {A : Type 0} (P : A → Type 0) (xs : List A) (i : ℕ) (x : A) → i < length xs → x ≡ get_or xs i x → ((y : A) → In y (take i xs) → P y) → P x → (y : A) → In y (take (i + 1) xs) → P y
in_more P xs i x l e f p y m = elim (in_append y (take i xs) (get_or xs i x ∷ []) (subst (In y) (ap (λ k. take k xs) (add-one i) ∙ take-suc xs i x l) m)) [ inl h ↦ f y h | inr (inl h) ↦ subst P (e ∙ sym h) p | inr (inr z) ↦ absurd z ]
