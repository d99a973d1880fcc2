-- The items that names name.
use Rattle.std.proofs.Common.{◌≡◌, ℕ, suc, ◌+◌, ◌-◌, ◌<◌, ◌≤◌, true, false, not, cond, List, [], ◌∷◌, ◌++◌, length, map, Option, Some, None, refl, sym, ap, subst, ◌∙◌, ◌⊎◌, inl, inr, arith}
use Rattle.rc_reader.specs.Imports.{is_some, is_none, slice_get, cons_option, position_from, bytes_eq, In, append_in_left, is_name, AreNames}
use Rattle.std.proofs.lemmas.Bool.{or_parts, not-false}
use Rattle.std.proofs.lemmas.List.{map_push}
use Rattle.std.proofs.lemmas.Slice.Eq.{bytes_eq-Decides}
use Rattle.rc_reader.specs.Names.{number_among, is_unknown, is_refused_name, numbers_of, has_unknown}
use Rattle.rc_reader.specs.MembersLaws.{each_push, distinct_push}

-- a name found, where the first one has the number n
pub record IsFound (n : ℕ) (names : List (List ℕ)) (word : List ℕ) (k : ℕ) : Type 0 where
  pub from : n ≤ k
  pub below : k < n + length names
  pub at : slice_get names (k - n) ≡ Some word

found_here : (n : ℕ) (name : List ℕ) (names : List (List ℕ)) (word : List ℕ) (k : ℕ) → name ≡ word → n ≡ k → IsFound n (name ∷ names) word k
found_here n name names word k same e =
    let none_before : k - n ≡ 0 = omega arith in
    record { from = omega arith; below = omega arith; at = rw none_before (ap (λ w. Some w) same) }

found_later : (n : ℕ) (name : List ℕ) (names : List (List ℕ)) (word : List ℕ) (k : ℕ) → IsFound (n + 1) names word k → IsFound n (name ∷ names) word k
found_later n name names word k found =
    let from = found.from in
    let below = found.below in
    let step : k - n ≡ suc (k - (n + 1)) = omega arith in
    record { from = omega arith; below = omega arith; at = rw step found.at }

found_from : (n : ℕ) (names : List (List ℕ)) (word : List ℕ) (k : ℕ) → position_from (λ name. bytes_eq name word) n names ≡ Some k → IsFound n names word k
found_from n [] word k e = absurd cc
found_from n (name ∷ names) word k e =
    elim (bytes_eq name word) as (λ v. bytes_eq name word ≡ v → cond v (Some n) (position_from (λ other. bytes_eq other word) (n + 1) names) ≡ Some k → IsFound n (name ∷ names) word k) [
      | true ↦ λ same h. let here : n ≡ k = cc in found_here n name names word k ((bytes_eq-Decides name word).0 same) here
      | false ↦ λ differs h. found_later n name names word k (found_from (n + 1) names word k h)
    ] refl e

-- the number is that of an item with the name
pub number_among-found : (names : List (List ℕ)) (word : List ℕ) (k : ℕ) → number_among names word ≡ Some k → slice_get names k ≡ Some word
number_among-found names word k e =
    let none_before : k ≡ k - 0 = omega arith in
    ap (slice_get names) none_before ∙ (found_from 0 names word k e).at

pub number_among-below : (names : List (List ℕ)) (word : List ℕ) (k : ℕ) → number_among names word ≡ Some k → k < length names
number_among-below names word k e = let below = (found_from 0 names word k e).below in omega arith

none_from : (n : ℕ) (names : List (List ℕ)) (word : List ℕ) → is_some (position_from (λ name. bytes_eq name word) n names) ≡ false → In word names → ⊥
none_from n [] word e m = m
none_from n (name ∷ names) word e m =
    elim (bytes_eq name word) as (λ v. bytes_eq name word ≡ v → is_some (cond v (Some n) (position_from (λ other. bytes_eq other word) (n + 1) names)) ≡ false → ⊥) [
      | true ↦ λ same h. absurd cc
      | false ↦ λ differs h. elim m [ inl here ↦ (let equal = (bytes_eq-Decides name word).1 (sym here) in absurd cc) | inr later ↦ none_from (n + 1) names word h later ]
    ] refl e

-- where no number is found, no item has the name
pub number_among-none : (names : List (List ℕ)) (word : List ℕ) → number_among names word ≡ None → In word names → ⊥
number_among-none names word e m = none_from 0 names word (ap is_some e) m

in_cons_option : (k : ℕ) (found : Option ℕ) (others : List ℕ) → In k (cons_option found others) → (found ≡ Some k) ⊎ In k others
in_cons_option k None others m = inr m
in_cons_option k (Some j) others (inl e) = inl (ap (λ n. Some n) (sym e))
in_cons_option k (Some j) others (inr m) = inr m

-- the numbers that words name are numbers of the items
pub numbers_of-below : (names words : List (List ℕ)) (k : ℕ) → In k (numbers_of names words) → k < length names
numbers_of-below names [] k m = absurd m
numbers_of-below names (word ∷ words) k m = elim (in_cons_option k (number_among names word) (numbers_of names words) m) [
  | inl e ↦ number_among-below names word k e
  | inr later ↦ numbers_of-below names words k later
]

-- and so are the first of them
pub front_below : (names words : List (List ℕ)) (front others : List ℕ) → front ++ others ≡ numbers_of names words → (k : ℕ) → In k front → k < length names
front_below names words front others e k m = numbers_of-below names words k (subst (In k) e (append_in_left k front others m))

length_known : (found : Option ℕ) (others : List ℕ) → is_none found ≡ false → length (cons_option found others) ≡ suc (length others)
length_known None others e = absurd cc
length_known (Some k) others e = refl

-- as many numbers as words, where each names an item
pub length-numbers_of : (names words : List (List ℕ)) → has_unknown names words ≡ false → length (numbers_of names words) ≡ length words
length-numbers_of names [] known = refl
length-numbers_of names (word ∷ words) known =
    let parts = or_parts (is_unknown names word) (has_unknown names words) known in
    length_known (number_among names word) (numbers_of names words) parts.0 ∙ ap suc (length-numbers_of names words parts.1)

names_push : (names : List (List ℕ)) (word : List ℕ) → AreNames names → is_refused_name names word ≡ false → AreNames (names ++ word ∷ [])
names_push names word are e =
    let parts = or_parts (not (is_name word)) (is_some (number_among names word)) e in
    record {
      each = each_push (λ (name : List ℕ). is_name name ≡ true) names word are.each (not-false (is_name word) parts.0);
      distinct = distinct_push names word are.distinct (none_from 0 names word parts.1);
    }

-- one item more, whose name is not refused
pub items_push : {X : Type 0} (name_of : X → List ℕ) (items : List X) (more : X) → AreNames (map name_of items) → is_refused_name (map name_of items) (name_of more) ≡ false → AreNames (map name_of (items ++ more ∷ []))
items_push name_of items more are e =
    subst AreNames (sym (map_push name_of items more)) (names_push (map name_of items) (name_of more) are e)
