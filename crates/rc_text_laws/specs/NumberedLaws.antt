-- The number of a name is the place at which it stands, and so names are read as the numbers that they were written for.
use Rattle.std.proofs.Common.{◌≡◌, ℕ, zero, suc, ◌+◌, ◌<◌, true, false, List, [], ◌∷◌, ◌++◌, length, map, get_or, Some, None, refl, sym, ap, ◌∙◌, subst, inl, inr, arith}
use Rattle.rc_text_laws.specs.Imports.{is_some, is_none, cons_option, position_from, nat_cmp, bytes_eq, In, IsRising, AreDistinct, gather, get_or_in, map_in, append_in_right, nat_order, not_below_itself, gather-rising, AreBelow, is_name, AreNames, number_among, is_unknown, is_refused_name, numbers_of, has_unknown, names_twice, test_from_distinct}
use Rattle.std.proofs.lemmas.List.{map-append}
use Rattle.std.proofs.lemmas.Slice.Eq.{bytes_eq-Decides}
use Rattle.rc_text_laws.specs.Written.{name_at, names_at}

-- two words that differ are told apart
differs : (x y : List ℕ) → (x ≡ y → ⊥) → bytes_eq x y ≡ false
differs x y other =
    elim (bytes_eq x y) as (λ v. bytes_eq x y ≡ v → v ≡ false) [
      | true ↦ λ e. absurd (other ((bytes_eq-Decides x y).0 e))
      | false ↦ λ _. refl
    ] refl

position_of_name : (k : ℕ) (names : List (List ℕ)) (n : ℕ) → AreDistinct names → n < length names
    → position_from (λ name. bytes_eq name (get_or names n [])) k names ≡ Some (k + n)
position_of_name k [] n distinct within = absurd (omega arith)
position_of_name k (name ∷ names) zero distinct within =
    let at : k ≡ k + 0 = omega arith in
    rw ((bytes_eq-Decides name name).1 refl) (ap (λ i. Some i) at)
position_of_name k (name ∷ names) (suc n) distinct within =
    let later : In (get_or names n []) names = get_or_in names n [] (omega arith) in
    let other : bytes_eq name (get_or names n []) ≡ false =
    differs name (get_or names n []) (λ e. distinct.0 (subst (λ x. In x names) (sym e) later)) in
    let at : k + 1 + n ≡ k + suc n = omega arith in
    rw other (position_of_name (k + 1) names n distinct.1 (omega arith) ∙ ap (λ i. Some i) at)

no_position : (k : ℕ) (names : List (List ℕ)) (word : List ℕ) → (In word names → ⊥)
    → position_from (λ name. bytes_eq name word) k names ≡ None
no_position k [] word new = refl
no_position k (name ∷ names) word new =
    rw (differs name word (λ e. new (inl (sym e)))) (no_position (k + 1) names word (λ m. new (inr m)))

-- the number of an item's name is the item's
pub number_of_name : (names : List (List ℕ)) (n : ℕ) → AreDistinct names → n < length names
    → number_among names (name_at names n) ≡ Some n
number_of_name names n distinct within =
    let at : 0 + n ≡ n = omega arith in
    position_of_name 0 names n distinct within ∙ ap (λ i. Some i) at

-- so a name that is written is known
pub known_name : (names : List (List ℕ)) (n : ℕ) → AreDistinct names → n < length names
    → is_unknown names (name_at names n) ≡ false
known_name names n distinct within = ap is_none (number_of_name names n distinct within)

pub numbers_of_names : (names : List (List ℕ)) (ns : List ℕ) → AreDistinct names → AreBelow (length names) ns
    → numbers_of names (names_at names ns) ≡ ns
numbers_of_names names [] distinct below = refl
numbers_of_names names (n ∷ ns) distinct below =
    ap (λ found. cons_option found (numbers_of names (names_at names ns)))
    (number_of_name names n distinct (below n (inl refl)))
    ∙ ap (λ others. n ∷ others) (numbers_of_names names ns distinct (λ m later. below m (inr later)))

pub known_names : (names : List (List ℕ)) (ns : List ℕ) → AreDistinct names → AreBelow (length names) ns
    → has_unknown names (names_at names ns) ≡ false
known_names names [] distinct below = refl
known_names names (n ∷ ns) distinct below =
    rw (known_name names n distinct (below n (inl refl)))
    (known_names names ns distinct (λ m later. below m (inr later)))

-- the numbers of a list are told apart by their names
pub not_twice : (names : List (List ℕ)) (ns : List ℕ) → AreDistinct names → AreBelow (length names) ns
    → AreDistinct ns → names_twice names (names_at names ns) ≡ false
not_twice names ns distinct below once =
    rw (numbers_of_names names ns distinct below) (test_from_distinct ns once)

pub distinct_rising : (ns : List ℕ) → IsRising nat_cmp ns → AreDistinct ns
distinct_rising [] rising = tt
distinct_rising (n ∷ ns) rising =
    ((λ m. not_below_itself nat_cmp nat_order n n (rising.0 n m) (rising.0 n m)), distinct_rising ns rising.1)

-- a set is read as it was written
pub set_of_names : (names : List (List ℕ)) (ns : List ℕ) → AreDistinct names → AreBelow (length names) ns
    → IsRising nat_cmp ns → gather nat_cmp (numbers_of names (names_at names ns)) ≡ ns
set_of_names names ns distinct below rising =
    ap (gather nat_cmp) (numbers_of_names names ns distinct below) ∙ gather-rising nat_cmp nat_order ns rising

not_before : {A : Type 0} (front : List A) (x : A) (others : List A) → AreDistinct (front ++ x ∷ others)
    → In x front → ⊥
not_before [] x others distinct m = m
not_before (y ∷ front) x others distinct (inl same) =
    distinct.0 (append_in_right y front (x ∷ others) (inl (sym same)))
not_before (y ∷ front) x others distinct (inr later) = not_before front x others distinct.1 later

-- the name of an item isn't refused behind the items before it
pub new_name : {X : Type 0} (name_of : X → List ℕ) (front : List X) (x : X) (others : List X)
    → AreNames (map name_of (front ++ x ∷ others)) → is_refused_name (map name_of front) (name_of x) ≡ false
new_name name_of front x others names =
    let here : In x (front ++ x ∷ others) = append_in_right x front (x ∷ others) (inl refl) in
    let good : is_name (name_of x) ≡ true =
    names.each (name_of x) (map_in name_of x (front ++ x ∷ others) here) in
    let apart : AreDistinct (map name_of front ++ name_of x ∷ map name_of others) =
    subst AreDistinct (map-append name_of front (x ∷ others)) names.distinct in
    let none : is_some (number_among (map name_of front) (name_of x)) ≡ false =
    ap is_some (no_position 0 (map name_of front) (name_of x)
    (not_before (map name_of front) (name_of x) (map name_of others) apart)) in
    rw (good, none) refl

-- and the names that are written for numbers are names
pub names_at_each : (names : List (List ℕ)) (ns : List ℕ)
    → ((name : List ℕ) → In name names → is_name name ≡ true) → AreBelow (length names) ns → (name : List ℕ)
    → In name (names_at names ns) → is_name name ≡ true
names_at_each names [] each below name m = absurd m
names_at_each names (n ∷ ns) each below name (inl e) =
    subst (λ x. is_name x ≡ true) (sym e) (each (name_at names n) (get_or_in names n [] (below n (inl refl))))
names_at_each names (n ∷ ns) each below name (inr later) =
    names_at_each names ns each (λ m l. below m (inr l)) name later
