-- What stripes are that are free and whose fragments have no row.
use Rattle.std.specs.Prelude.{◌≡◌, ℕ, zero, suc, ◌<◌, List, [], ◌∷◌, ◌++◌, Option, None, Some, length}
use Rattle.rc_instance.proofs.Imports.{slice_get, In, satisfies_none, IsSealed, empty_law, stripe_total, Mode, Spec, edge_table, FragmentRows, IsAtRest, EdgeShape, IsEmptyFragment, offered_at, rows_of_fragments, stripes_of, table_of_fragments, IsEmpty, IsInstance, IsOfRelation, no_table}
use Rattle.std.proofs.Common.{inl, inr, refl, sym, ap, subst, ◌∙◌, arith, replicate}
use Rattle.rc_instance.proofs.StripesOfLemmas.{instance_of, none_held, stripes_of-length, stripes_of-offered, stripes_of-rows, stripes_of-table, taken_of}

-- ---- the table, also where there is no stripe

pub empty_table : (spec : Spec) (fs : List FragmentRows) → IsSealed spec → length fs ≡ stripe_total spec → ((f : FragmentRows) → In f fs → IsEmptyFragment (edge_table spec) f) → table_of_fragments fs ≡ edge_table spec
empty_table spec [] sealed l each = sym (no_table spec sealed (sym l))
empty_table spec (f ∷ fs) sealed l each = ap (λ (z : FragmentRows). z.table) (each f (inl refl))

-- ---- nothing is held, and there is no row

module _ (shapes : List EdgeShape) where
  none_rows : (fs : List FragmentRows) → ((f : FragmentRows) → In f fs → IsEmptyFragment shapes f) → rows_of_fragments fs ≡ []
  none_rows [] each = refl
  none_rows (f ∷ fs) each = ap (λ (z : FragmentRows). z.now ++ rows_of_fragments fs) (each f (inl refl)) ∙ none_rows fs (λ g m. each g (inr m))

  none_taken : (fs : List FragmentRows) → ((f : FragmentRows) → In f fs → IsEmptyFragment shapes f) → (n : ℕ) → n < length fs → taken_of (slice_get fs n) ≡ Some []
  none_taken [] each n l = absurd (let f : n < 0 = l in omega (arith, f))
  none_taken (f ∷ fs) each zero l = ap (λ (z : FragmentRows). Some z.taken) (each f (inl refl))
  none_taken (f ∷ fs) each (suc n) l = none_taken fs (λ g m. each g (inr m)) n (let f : suc n < suc (length fs) = l in omega (arith, f))

  module _ (fs : List FragmentRows) (each : (f : FragmentRows) → In f fs → IsEmptyFragment shapes f) where
    none_offered : (ms : List (Option Mode)) (n : ℕ) → n < length fs → offered_at (stripes_of fs ms) n ≡ Some []
    none_offered ms n l = stripes_of-offered fs ms n ∙ none_taken fs each n l

    pub is_empty : (n : ℕ) → IsEmpty (stripes_of fs (replicate n None))
    is_empty n =
        let ms : List (Option Mode) = replicate n None in
        record {
          held = none_held 0 n fs;
          rows = stripes_of-rows fs ms ∙ none_rows fs each;
          offered = λ p l. none_offered ms p (let e : length (stripes_of fs ms) ≡ length fs = stripes_of-length fs ms in omega (arith, l, e));
        }

    pub empty_instance : (ms : List (Option Mode)) → table_of_fragments fs ≡ shapes → IsInstance (stripes_of fs ms)
    empty_instance ms t = instance_of fs ms (λ f m. ap (λ (z : FragmentRows). z.table) (each f m) ∙ sym t) (λ f m. subst IsAtRest (sym (each f m)) record { taken = refl; changes = refl })

-- ---- the empty relation

pub empty_relation : (spec : Spec) (fs : List FragmentRows) (ms : List (Option Mode)) → table_of_fragments fs ≡ edge_table spec → length fs ≡ stripe_total spec
    → ((f : FragmentRows) → In f fs → IsEmptyFragment (edge_table spec) f) → IsOfRelation spec (stripes_of fs ms) []
empty_relation spec fs ms t l each = record {
  table = stripes_of-table fs ms ∙ t;
  relation = record { rising = tt; each = λ u m. absurd m };
  satisfies = satisfies_none spec.deps;
  few = omega arith;
  stripes = stripes_of-length fs ms ∙ l;
  rows = λ n k. none_offered (edge_table spec) fs each ms n (omega (arith, k, l)) ∙ ap Some (sym (empty_law spec n));
}
