-- The locks of a class, found call by call.
use Rattle.std.proofs.Common.{◌≡◌, ℕ, ◌+◌, ◌<◌, ◌≤◌, ◌-◌, Bool, true, false, List, [], ◌∷◌, ◌++◌, Some, None, filter, get_or, length, map, take, drop, sym, ap, subst, ◌∙◌, if◌then◌else◌, arith}
use Rattle.rc_multi.proofs.Imports.{insert, list_any, match_ordering, nat_cmp, Ordering, Less, Equal, Greater, append-nil, drop-map, drop_at, drop_more, length-append, length-map, length-take-le, map-append, take-append-drop, take-append-le, take-map, take_at, take_more, take_rest, take-put_mid, insert-append_right, filter-append, list_any_more, map-map, IsPlace, gather, put, gather_more, nat_order, place_more, Mode, Exclusive, Shared, Spec, StripeLock, physical_stripe, band, stripes_of, CallWithPlan, ClassUse, class_locks, class_use, either, group_use, in_mode, with_chosen, stripes_in_mode, chosen_stripes, group_mode, group_stripes, locks_class, takes_any, writes_class}
use borrow.Rule.Slice.PartMut.{put_mid}

-- ---- what plans ask

-- by one more call
pub group_use_more : (spec : Spec) (c : ℕ) (calls : List CallWithPlan) (i : ℕ) (d : CallWithPlan) → i < length calls
    → group_use spec c (take (i + 1) calls) ≡ either (group_use spec c (take i calls)) (class_use spec c (get_or calls i d))
group_use_more spec c calls i d l =
    let locks = list_any_more (λ (x : CallWithPlan). list_any (locks_class c) x.plan) calls i d l in
    let any = list_any_more (λ (x : CallWithPlan). list_any (takes_any spec x.call.args c) x.plan) calls i d l in
    let exclusive = list_any_more (λ (x : CallWithPlan). list_any (writes_class c) x.plan) calls i d l in
    λ j. record { locks = locks j; any = any j; exclusive = exclusive j }

-- and the stripes that the arguments choose
pub chosen_more : (spec : Spec) (c : ℕ) (calls : List CallWithPlan) (i : ℕ) (d : CallWithPlan) → i < length calls
    → chosen_stripes spec (take (i + 1) calls) c ≡ with_chosen spec c (get_or calls i d) (chosen_stripes spec (take i calls) c)
chosen_more spec c calls i d l = ap (λ xs. chosen_stripes spec xs c) (take_more calls i d l) ∙ one (take i calls) (get_or calls i d)
  where
    locks_by : CallWithPlan → Bool
    locks_by x = list_any (locks_class c) x.plan

    stripe_by : CallWithPlan → ℕ
    stripe_by x = physical_stripe spec c x.call.args

    one : (xs : List CallWithPlan) (x : CallWithPlan) → chosen_stripes spec (xs ++ x ∷ []) c ≡ with_chosen spec c x (chosen_stripes spec xs c)
    one xs x = ap (λ ys. gather nat_cmp (map stripe_by ys)) (filter-append locks_by xs (x ∷ [])) ∙ go (locks_by x)
      where
        go : (b : Bool) → gather nat_cmp (map stripe_by (filter locks_by xs ++ (if b then x ∷ [] else [])))
            ≡ (if b then put nat_cmp (stripe_by x) (gather nat_cmp (map stripe_by (filter locks_by xs))) else gather nat_cmp (map stripe_by (filter locks_by xs)))
        go true =
            ap (gather nat_cmp) (map-append stripe_by (filter locks_by xs) (x ∷ []))
            ∙ gather_more nat_cmp nat_order (map stripe_by (filter locks_by xs)) (stripe_by x)
        go false = ap (λ ys. gather nat_cmp (map stripe_by ys)) (append-nil (filter locks_by xs))

-- ---- the place of a stripe

module _ (x : ℕ) (xs : List ℕ) (i d : ℕ) (l : i < length xs) (h : put nat_cmp x xs ≡ take i xs ++ put nat_cmp x (drop i xs)) where
  at_next : (a : Ordering) → nat_cmp x (get_or xs i d) ≡ a
      → put nat_cmp x xs ≡ take i xs ++ match_ordering a (x ∷ (get_or xs i d ∷ drop (i + 1) xs)) (get_or xs i d ∷ drop (i + 1) xs) (get_or xs i d ∷ put nat_cmp x (drop (i + 1) xs))
  at_next a e =
      h ∙ ap (λ ys. take i xs ++ put nat_cmp x ys) (drop_more xs i d l)
      ∙ ap (λ o. take i xs ++ match_ordering o (x ∷ (get_or xs i d ∷ drop (i + 1) xs)) (get_or xs i d ∷ drop (i + 1) xs) (get_or xs i d ∷ put nat_cmp x (drop (i + 1) xs))) e

  -- it goes before the first that is above it
  pub place_before : nat_cmp x (get_or xs i d) ≡ Less → IsPlace nat_cmp x xs (Some i)
  place_before e = (omega (arith, l), at_next Less e ∙ ap (λ ys. take i xs ++ x ∷ ys) (sym (drop_more xs i d l)))

  -- it is there
  pub place_there : nat_cmp x (get_or xs i d) ≡ Equal → IsPlace nat_cmp x xs None
  place_there e = at_next Equal e ∙ ap (λ ys. take i xs ++ ys) (sym (drop_more xs i d l)) ∙ take-append-drop i xs

  -- it goes behind
  pub place_behind : nat_cmp x (get_or xs i d) ≡ Greater → put nat_cmp x xs ≡ take (i + 1) xs ++ put nat_cmp x (drop (i + 1) xs)
  place_behind e = h ∙ place_more nat_cmp x xs i d l e

-- ---- a stripe put among the locks

module _ (first : List StripeLock) (stripes : List ℕ) (locks : List StripeLock) (start stripe : ℕ) (before : length first ≡ start) (are : locks ≡ first ++ in_mode Shared stripes) where
  abbrev shared : ℕ → StripeLock
  shared s = (s, Shared)

  behind : stripes_of (drop start locks) ≡ stripes
  behind = ap (λ ls. stripes_of (drop start ls)) are ∙ ap stripes_of (drop_at first (in_mode Shared stripes) start before) ∙ stripes_in_mode Shared stripes

  pub put_new : (at : ℕ) → IsPlace nat_cmp stripe (stripes_of (drop start locks)) (Some at) → insert locks (start + at) (stripe, Shared) ≡ first ++ in_mode Shared (put nat_cmp stripe stripes)
  put_new at place =
      let here : IsPlace nat_cmp stripe stripes (Some at) = subst (λ xs. IsPlace nat_cmp stripe xs (Some at)) behind place in
      let less : start + at - start ≡ at = omega arith in
      ap (λ ls. insert ls (start + at) (shared stripe)) are
      ∙ insert-append_right first (in_mode Shared stripes) start (start + at) (shared stripe) before (omega arith)
      ∙ ap (λ n. first ++ insert (in_mode Shared stripes) n (shared stripe)) less
      ∙ ap (λ ls. first ++ ls)
      ((λ i. take-map shared at stripes i ++ shared stripe ∷ drop-map shared at stripes i)
      ∙ sym (map-append shared (take at stripes) (stripe ∷ drop at stripes))
      ∙ ap (map shared) (sym here.1))

  pub put_old : IsPlace nat_cmp stripe (stripes_of (drop start locks)) None → locks ≡ first ++ in_mode Shared (put nat_cmp stripe stripes)
  put_old place = are ∙ ap (λ xs. first ++ in_mode Shared xs) (sym (subst (λ xs. IsPlace nat_cmp stripe xs None) behind place))

-- ---- the mode of a class

-- what the arguments choose, in the mode that the plans ask for, is what the group locks of the class where no plan may take any stripe
pub class_in_mode : (spec : Spec) (calls : List CallWithPlan) (c : ℕ) (asked : ClassUse) (mode : Mode) → asked ≡ group_use spec c calls → asked.any ≡ false
    → mode ≡ (if asked.exclusive then Exclusive else Shared)
    → map (λ (l : StripeLock). let new : StripeLock = (l.0, mode) in new) (in_mode Shared (chosen_stripes spec calls c)) ≡ class_locks spec calls c
class_in_mode spec calls c asked mode are none is =
    map-map (λ (l : StripeLock). let new : StripeLock = (l.0, mode) in new) (λ (s : ℕ). let l : StripeLock = (s, Shared) in l) (chosen_stripes spec calls c)
    ∙ (λ i. in_mode (modes i) (stripes i))
  where
    modes : mode ≡ group_mode calls c
    modes = is ∙ ap (λ (u : ClassUse). if u.exclusive then Exclusive else Shared) are

    stripes : chosen_stripes spec calls c ≡ group_stripes spec calls c
    stripes = ap (λ b. if b then band spec c else chosen_stripes spec calls c) (sym none ∙ ap (λ (u : ClassUse). u.any) are)

-- ---- the part of a list from a place on

module _ {A : Type 0} where
  pub tail_is : (xs items : List A) (start : ℕ) → xs ≡ items → take (length xs - start) (drop start xs) ≡ drop start items
  tail_is xs items start same = take_rest xs start ∙ ap (drop start) same

  -- a change of each element of it
  pub tail_written : (f : A → A) (xs items new first rest : List A) (start count : ℕ) → count ≡ length items → xs ≡ items → items ≡ first ++ rest → start ≡ length first
      → new ≡ map f (take (length xs - start) (drop start xs))
      → take count (put_mid start (length xs - start) xs new ++ drop (length (put_mid start (length xs - start) xs new)) items) ≡ first ++ map f rest
  tail_written f xs items new first rest start count counted same are at written =
      take-append-le count whole (drop (length whole) items) (omega (arith, sizes, long))
      ∙ take-put_mid start (length xs - start) xs new count (omega (arith, sizes)) (omega (arith, sizes))
      ∙ (λ i. begins i ++ ends i)
    where
      whole : List A
      whole = put_mid start (length xs - start) xs new

      split : xs ≡ first ++ rest
      split = same ∙ are

      ends : new ≡ map f rest
      ends = written ∙ ap (map f) (tail_is xs (first ++ rest) start split ∙ drop_at first rest start (sym at))

      begins : take start xs ≡ first
      begins = ap (take start) split ∙ take_at first rest start (sym at)

      sizes : (count ≡ length first + length rest) × (length xs ≡ length first + length rest) × (start ≡ length first) × (length new ≡ length rest)
      sizes = (
        counted ∙ ap (λ (ys : List A). length ys) are ∙ length-append first rest,
        ap (λ (ys : List A). length ys) split ∙ length-append first rest,
        at,
        ap (λ (ys : List A). length ys) ends ∙ length-map rest f,
      )

      long : start + length new ≤ length whole
      long =
          let after : List A = drop (length xs - start) (drop start xs) in
          let parts : length whole ≡ length (take start xs) + length (new ++ after) = length-append (take start xs) (new ++ after) in
          let behind : length (new ++ after) ≡ length new + length after = length-append new after in
          let front : length (take start xs) ≡ start = length-take-le start xs (omega (arith, sizes)) in
          omega (arith, parts, behind, front)
