-- Ranks are places in a rising list, so they are equal and ordered as their texts are.
use Rattle.std.specs.Prelude.{◌≡◌, ◌<◌, ◌↔◌, true, false, List, Option, Some, None, IsSome, cond, length, position, slice_get}
use Rattle.std.specs.List.{position_or_len}
use Rattle.std.specs.Str.{bytes_eq}
use Rattle.std.specs.declared.cmp.Ordering.TheVariants.{Less}
use Rattle.std.proofs.Common.{ℕ, Bool, nat_lt, get_or, arith, refl, sym, ap, ◌∙◌}
use Rattle.std.proofs.lemmas.Bool.{false≢true, ltb-false}
use Rattle.std.proofs.lemmas.List.Quantifiers.{position-Some}
use Rattle.std.proofs.lemmas.List.Sums.{fails_before_first}
use Rattle.std.proofs.lemmas.Option.{slice_get-get_or, slice_get_within, get_or_from_slice_get}
use Rattle.std.proofs.lemmas.Slice.Eq.{bytes_eq-Decides}
use Rattle.rc_tuple.specs.RisingSet.{In, IsRising}
use Rattle.rc_tuple.specs.RisingSetLaws.{slice_get_in, rising_gather, in_gather, gather_in, in_slice_get, rising_places, places_rise, one_place, number_lists_order}
use Rattle.rc_values.specs.Ranks.{text_cmp, texts_of, rank_of}

-- ---- ranks

-- the text with the rank of a text is that text
pub slice_get-rank_of : (texts : List (List ℕ)) (t : List ℕ) (rank : ℕ) → rank_of texts t ≡ Some rank → slice_get texts rank ≡ Some t
unfolding rank_of
slice_get-rank_of texts t rank e =
    let w = position-Some (bytes_eq t) texts rank t e in
    slice_get-get_or texts rank t w.0 ∙ ap Some (sym ((bytes_eq-Decides t (get_or texts rank t)).0 w.1))

position-None : {A : Type 0} (p : A → Bool) (xs : List A) (i : ℕ) (d : A) → position p xs ≡ None → i < length xs → p (get_or xs i d) ≡ false
position-None p xs i d e h = fails_before_first p xs i d (within (nat_lt (position_or_len p xs) (length xs)) refl e)
  where
    within : (b : Bool) → nat_lt (position_or_len p xs) (length xs) ≡ b → cond b (Some (position_or_len p xs)) None ≡ None → i < position_or_len p xs
    within true k e = cc
    within false k e = omega (arith, ltb-false (position_or_len p xs) (length xs) k)

pub rank_of-within : (texts : List (List ℕ)) (t : List ℕ) (rank : ℕ) → rank_of texts t ≡ Some rank → rank < length texts
rank_of-within texts t rank e = slice_get_within texts rank t (slice_get-rank_of texts t rank e)

-- what has no rank is none of the texts
pub not_in-rank_of : (texts : List (List ℕ)) (t : List ℕ) → rank_of texts t ≡ None → In t texts → ⊥
unfolding rank_of
not_in-rank_of texts t e m =
    let w = in_slice_get t texts m in
    let at : get_or texts w.0 t ≡ t = get_or_from_slice_get texts w.0 t t w.1 in
    false≢true (sym (position-None (bytes_eq t) texts w.0 t e (slice_get_within texts w.0 t w.1)) ∙ (bytes_eq-Decides t (get_or texts w.0 t)).1 (sym at))

pub rank_of-not_in : (texts : List (List ℕ)) (t : List ℕ) → (In t texts → ⊥) → rank_of texts t ≡ None
rank_of-not_in texts t f = go (rank_of texts t) refl
  where
    go : (o : Option ℕ) → rank_of texts t ≡ o → o ≡ None
    go None e = refl
    go (Some rank) e = absurd (f (slice_get_in texts rank t (slice_get-rank_of texts t rank e)))

-- a text has its place as its rank
pub rank_of-slice_get : (texts : List (List ℕ)) (t : List ℕ) (rank : ℕ) → IsRising text_cmp texts → slice_get texts rank ≡ Some t → rank_of texts t ≡ Some rank
rank_of-slice_get texts t rank r e = go (rank_of texts t) refl
  where
    go : (o : Option ℕ) → rank_of texts t ≡ o → o ≡ Some rank
    go None k = absurd (not_in-rank_of texts t k (slice_get_in texts rank t e))
    go (Some other) k = ap Some (one_place text_cmp number_lists_order texts other rank t r (slice_get-rank_of texts t other k) e)

-- exactly the texts have a rank
pub in-rank_of : (texts : List (List ℕ)) (t : List ℕ) → IsSome (rank_of texts t) ↔ In t texts
in-rank_of texts t = (λ h. found (rank_of texts t) refl h, λ m. known (rank_of texts t) refl m)
  where
    found : (o : Option ℕ) → rank_of texts t ≡ o → IsSome o → In t texts
    found None e h = absurd (false≢true h)
    found (Some rank) e h = slice_get_in texts rank t (slice_get-rank_of texts t rank e)

    known : (o : Option ℕ) → rank_of texts t ≡ o → In t texts → IsSome o
    known None e m = absurd (not_in-rank_of texts t e m)
    known (Some rank) e m = refl

-- ranks are ordered as their texts are
pub below-rank_of : (texts : List (List ℕ)) (t u : List ℕ) (m n : ℕ) → IsRising text_cmp texts → rank_of texts t ≡ Some m → rank_of texts u ≡ Some n → (m < n) ↔ (text_cmp t u ≡ Less)
below-rank_of texts t u m n r e f = (
  λ h. rising_places text_cmp texts m n t u r (slice_get-rank_of texts t m e) (slice_get-rank_of texts u n f) h,
  λ l. places_rise text_cmp number_lists_order texts m n t u r (slice_get-rank_of texts t m e) (slice_get-rank_of texts u n f) l,
)

-- and equal exactly where they are
pub same-rank_of : (texts : List (List ℕ)) (t u : List ℕ) (m n : ℕ) → rank_of texts t ≡ Some m → rank_of texts u ≡ Some n → (m ≡ n) ↔ (t ≡ u)
same-rank_of texts t u m n e f = (
  λ h. let a = slice_get-rank_of texts t m e in let b = slice_get-rank_of texts u n f in cc,
  λ h. let a : rank_of texts t ≡ rank_of texts u = ap (rank_of texts) h in cc,
)

-- ---- the ranks of gathered texts

pub rising_texts_of : (texts : List (List ℕ)) → IsRising text_cmp (texts_of texts)
rising_texts_of texts = rising_gather text_cmp number_lists_order texts

pub known-texts_of : (texts : List (List ℕ)) (t : List ℕ) → IsSome (rank_of (texts_of texts) t) ↔ In t texts
known-texts_of texts t =
    (λ h. in_gather text_cmp number_lists_order t texts ((in-rank_of (texts_of texts) t).0 h), λ m. (in-rank_of (texts_of texts) t).1 (gather_in text_cmp number_lists_order t texts m))
