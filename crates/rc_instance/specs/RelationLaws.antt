-- What the stripes of an instance represent.
use Rattle.std.specs.Prelude.{◌≡◌, ℕ, suc, ◌+◌, ◌<◌, List, [], ◌∷◌, ◌++◌, Option, None, Some, length}
use Rattle.rc_instance.specs.Imports.{flat_map, slice_get, range_with_len, In, Pairs, IsRelation, Satisfies, slice_get_in, IsSealed, all_columns, EdgeRow, all_stripes, fragment_of, represented_by, instances_law, stripe_total, Mode, Spec}
use Rattle.std.proofs.Common.{refl, sym, ap, subst, ◌∙◌, arith}
use Rattle.std.proofs.lemmas.Option.{same_Some, slice_get_within}
use Rattle.rc_instance.specs.Instance.{held_from, rows_of, taken_in, IsInstance, IsOfRelation, Stripe}
use Rattle.rc_instance.specs.InstanceLaws.{as_held, held_from_in}

-- stripes whose rows now are the fragments of a relation that satisfies the dependencies represent it
abbrev pub InstanceIsItsRelation : Type 0
InstanceIsItsRelation = (spec : Spec) → IsSealed spec → (ss : List Stripe) (r : List Pairs) → IsRelation (all_columns spec) r → Satisfies r spec.deps → length ss ≡ stripe_total spec
    → ((n : ℕ) (s : Stripe) → slice_get ss n ≡ Some s → s.fragment.now ≡ fragment_of spec r n) → represented_by spec (rows_of ss) ≡ r

-- the rows of stripes that are known by their numbers
rows_by_number : (f : ℕ → List EdgeRow) (n : ℕ) (ss : List Stripe) → ((k : ℕ) (s : Stripe) → slice_get ss k ≡ Some s → s.fragment.now ≡ f (n + k)) → rows_of ss ≡ flat_map f (range_with_len n (length ss))
rows_by_number f n [] h = refl
rows_by_number f n (s ∷ ss) h =
    let first : s.fragment.now ≡ f n = h 0 s refl ∙ ap f (let z : n + 0 ≡ n = omega arith in z) in
    let rest : rows_of ss ≡ flat_map f (range_with_len (n + 1) (length ss)) =
    rows_by_number f (n + 1) ss (λ k t e. h (suc k) t e ∙ ap f (let z : n + suc k ≡ n + 1 + k = omega arith in z)) in
    λ i. first i ++ rest i

pub instance_law : InstanceIsItsRelation
instance_law spec sealed ss r i h l rows =
    let all : rows_of ss ≡ flat_map (fragment_of spec r) (all_stripes spec) =
    rows_by_number (fragment_of spec r) 0 ss (λ k s e. rows k s e ∙ ap (fragment_of spec r) (let z : k ≡ 0 + k = omega arith in z)) ∙ ap (λ z. flat_map (fragment_of spec r) (range_with_len 0 z)) l in
    ap (represented_by spec) all ∙ instances_law spec sealed.in_range sealed.populated sealed.accepted.adequate sealed.accepted.placed r i h

-- where no stripe is held, the rows now are those as taken
pub free_law : (spec : Spec) → IsSealed spec → (ss : List Stripe) → IsInstance ss → (r : List Pairs) → held_from 0 ss ≡ [] → IsOfRelation spec ss r → represented_by spec (rows_of ss) ≡ r
free_law spec sealed ss i r none o =
    instance_law spec sealed ss r o.relation o.satisfies o.stripes (λ n s e.
    let l : n < length ss = slice_get_within ss n s e in
    let told : Some s.fragment.taken ≡ Some (fragment_of spec r n) = ap taken_in (sym e) ∙ o.rows n (omega (arith, l, o.stripes)) in
    sym (i.free s (slice_get_in ss n s e) (free n s e s.held refl)).taken ∙ same_Some _ _ told)
  where
    free : (n : ℕ) (s : Stripe) → slice_get ss n ≡ Some s → (m : Option Mode) → s.held ≡ m → s.held ≡ None
    free n s e None h = h
    free n s e (Some mode) h = absurd (subst (In (as_held n mode s.fragment)) none (held_from_in 0 ss n n s mode e (omega arith) h))
