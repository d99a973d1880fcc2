-- Laws of a walk that adds the row of each entry that has one at the end of a list.
use Rattle.std.specs.Prelude.{◌≡◌, ℕ, ◌+◌, ◌<◌, ◌≤◌, Result, Ok, Err, OnErr, List, [], ◌∷◌, ◌++◌, length, take, map, slice_index_or}
use Rattle.rc_maps.specs.Imports.{flat_map, option_map, Values, Counted, listed, parts, present, Items, IsKeyed, rows_in, values_in, listed-rows}
use Rattle.std.proofs.Common.{sym, ap, ◌∙◌, arith}
use Rattle.std.proofs.lemmas.List.{append_assoc, append-nil, take-append-le, take_all, take_more, map-append}
use Rattle.std.proofs.lemmas.List.Concat.{flat_map-append}
use Rattle.std.proofs.lemmas.List.Elements.{filter_map-append}
use Rattle.rc_maps.specs.declared.keyed.Keyed.{Keyed}
use Rattle.rc_maps.specs.Keyed.{pair_of, values_of_walk}

abbrev line : Values × Counted → Values
line e = e.0 ++ e.1.0

pub values_in-append : (items more : Items) → values_in (items ++ more) ≡ values_in items ++ values_in more
values_in-append items more =
    ap (flat_map line) (filter_map-append (λ (e : Values × Counted). option_map (λ (y : Counted). (e.0, y)) (present e.1)) items more)
    ∙ flat_map-append line (parts present items) (parts present more)

-- a list that is another with more behind it begins with that other
pub kept_before : (old more now : Values) → now ≡ old ++ more → take (length old) now ≡ old
kept_before old more now is =
    let l : length old ≤ length old = omega arith in
    ap (take (length old)) is ∙ take-append-le (length old) old more l ∙ take_all (length old) old l

-- ---- a walk by places

pub walked_next : (old now new : Values) (all : List (Keyed Counted)) (n : ℕ) (k : Keyed Counted) → now ≡ old ++ values_of_walk (take n all)
    → n < length all → k ≡ slice_index_or all n k → new ≡ now ++ values_in (pair_of k ∷ []) → new ≡ old ++ values_of_walk (take (n + 1) all)
walked_next old now new all n k is l at next =
    next ∙ ap (λ z. z ++ values_in (pair_of k ∷ [])) is ∙ append_assoc old (values_of_walk (take n all)) (values_in (pair_of k ∷ []))
    ∙ ap (λ z. old ++ z) step
  where
    walked : map pair_of (take (n + 1) all) ≡ map pair_of (take n all) ++ map pair_of (slice_index_or all n k ∷ [])
    walked = ap (map pair_of) (take_more all n k l) ∙ map-append pair_of (take n all) (slice_index_or all n k ∷ [])

    step : values_of_walk (take n all) ++ values_in (pair_of k ∷ []) ≡ values_of_walk (take (n + 1) all)
    step =
        ap (λ (z : Keyed Counted). values_of_walk (take n all) ++ values_in (pair_of z ∷ [])) at
        ∙ sym (ap values_in walked ∙ values_in-append (map pair_of (take n all)) (map pair_of (slice_index_or all n k ∷ [])))

-- ---- a walk to the end

-- the rows were added of all but those that are left
pub record IsPushed (all left : Items) (old now : Values) : Type 0 where
  pub walked : Items
  pub split : walked ++ left ≡ all
  pub added : now ≡ old ++ values_in walked

pub IsPushed-next : (all left : Items) (e : Values × Counted) (old now new : Values) → IsPushed all (e ∷ left) old now
    → new ≡ now ++ values_in (e ∷ [])
    → IsPushed all left old new
IsPushed-next all left e old now new h next = record {
  walked = h.walked ++ e ∷ [];
  split = append_assoc h.walked (e ∷ []) left ∙ h.split;
  added =
      next ∙ ap (λ z. z ++ values_in (e ∷ [])) h.added ∙ append_assoc old (values_in h.walked) (values_in (e ∷ []))
      ∙ ap (λ z. old ++ z) (sym (values_in-append h.walked (e ∷ [])));
}

pub IsPushed-kept : (all left : Items) (old now : Values) → IsPushed all left old now → take (length old) now ≡ old
IsPushed-kept all left old now h = kept_before old (values_in h.walked) now h.added

pub IsPushed-all : (all : Items) (old now : Values) → IsPushed all [] old now → IsKeyed all → now ≡ old ++ listed (rows_in all)
IsPushed-all all old now h keyed =
    h.added ∙ ap (λ z. old ++ values_in z) (sym (append-nil h.walked) ∙ h.split) ∙ ap (λ z. old ++ z) (sym (listed-rows all keyed))

-- what holds anyhow, holds at an error
pub on_err : {X Y P : Type 0} (r : Result X Y) → P → OnErr r P
on_err (Ok x) p = tt
on_err (Err y) p = p
