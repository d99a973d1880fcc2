-- Passes go out with sessions, and come back with them.
use Rattle.std.proofs.Common.{◌≡◌, ◌↔◌, ◌⊎◌, ℕ, zero, suc, ◌+◌, ◌<◌, ◌≤◌, Bool, true, false, eqb, List, [], ◌∷◌, ◌++◌}
use Rattle.std.proofs.Common.{length, map, take, drop, All, Some, IfSome, refl, sym, ap, ◌∙◌, inl, inr, subst, arith}
use Rattle.rc_embed.specs.Imports.{range_with_len, slice_get, nat_cmp, Less, in_range_below, in_range_bounds, rising_range, AreDistinct, In, IsRising, append_in_right, nat_order, not_below_itself, same_rising, PassSeen, RowSeen, new_pass, ClosedSeen, StoreSeen}
use Rattle.std.proofs.lemmas.Bool.{eqb-true, eq-eqb, false≢true}
use Rattle.std.proofs.lemmas.Bool.Decides.{nat_tests}
use Rattle.std.proofs.lemmas.List.{length-append, length-map}
use Rattle.std.proofs.lemmas.List.FromFn.{length-range_with_len}
use Rattle.std.proofs.lemmas.Option.{same_Some}
use Rattle.rc_embed.specs.declared.opening.Options as asked
use Rattle.rc_embed.specs.Closing.{HasAllPasses, HasTakenBack, number_of, pass_count}
use Rattle.rc_embed.specs.Entries.{number_in}
use Rattle.rc_embed.specs.Opened.{HasDealt, IsOpenedWith, OpenSeen}
use Rattle.rc_embed.specs.Outside.{AreOutside}
use Rattle.rc_embed.specs.Resuming.{IsResumedWith}
use Rattle.rc_embed.specs.Session.{SessionSeen}

-- ---- numbers

nat_less : (a b : ℕ) → a < b → nat_cmp a b ≡ Less
nat_less a b h = grind (arith, nat_tests)

less_nat : (a b : ℕ) → nat_cmp a b ≡ Less → a < b
less_nat a b h = grind (arith, nat_tests)

apart_above : (k n : ℕ) → k ≤ n → (k ≡ n → ⊥) → k < n
apart_above k n h apart = omega (arith, h, apart)

-- ---- a new store, and one that goes on

numbers_of_new : (row : RowSeen) (ks : List ℕ) → map number_of (map (new_pass row) ks) ≡ ks
numbers_of_new row [] = refl
numbers_of_new row (k ∷ ks) = ap (λ (l : List ℕ). k ∷ l) (numbers_of_new row ks)

-- A store that has all of its passes has none outside.
none_outside : (opened : OpenSeen) → HasAllPasses opened → AreOutside opened []
none_outside opened same =
    let n : ℕ = pass_count opened in
    let many : length (map number_of opened.passes) ≡ length opened.passes = length-map opened.passes number_of in
    let long : length (map number_of opened.passes) ≡ n =
    ap (λ (l : List ℕ). length l) same ∙ length-range_with_len 0 n in
    record {
      distinct = tt;
      known = λ k m. absurd m;
      rising = subst (IsRising nat_cmp) (sym same) (rising_range 0 n);
      others = λ k. (
        λ m. (let b = (in_range_bounds 0 n k (subst (In k) same m)).1 in omega (arith, b), λ none. none),
        λ h. subst (In k) (sym same) (in_range_below n k h.0),
      );
      count = omega (arith, many, long);
    }

-- So has a new store,
abbrev pub NoneOutsideAtFirst : Type 0
NoneOutsideAtFirst = (text shapes plans : List ℕ) (options : asked.Options) (opened : OpenSeen) → IsOpenedWith text shapes plans options opened
    → AreOutside opened []

pub none_at_first : NoneOutsideAtFirst
none_at_first text shapes plans options opened is =
    let row = opened.store.row in
    none_outside opened (ap (map number_of) is.passes ∙ numbers_of_new row (range_with_len 0 row.key.passes))

-- and one that goes on from a closed one.
abbrev pub NoneOutsideAgain : Type 0
NoneOutsideAgain = (closed : ClosedSeen) (text shapes plans : List ℕ) (options : asked.Options) (opened : OpenSeen)
    → IsResumedWith closed text shapes plans options opened → AreOutside opened []

pub none_again : NoneOutsideAgain
none_again closed text shapes plans options opened is = none_outside opened is.all

-- ---- a session that begins

-- It has the next pass, and nothing else changes.
abbrev pub DealtGoOutside : Type 0
DealtGoOutside = (old new : OpenSeen) (session : SessionSeen) (numbers : List ℕ) → new.store ≡ old.store
    → HasDealt old new session → AreOutside old numbers
    → (k : ℕ) × (number_in session.state ≡ Some k) × AreOutside new (k ∷ numbers)

not_head : (k j : ℕ) (rest : List ℕ) → IsRising nat_cmp (k ∷ rest) → In j rest → j ≡ k → ⊥
not_head k j rest rising m is =
    let less : nat_cmp k k ≡ Less = subst (λ (n : ℕ). nat_cmp k n ≡ Less) is (rising.0 j m) in
    not_below_itself nat_cmp nat_order k k less less

tail_of : (k j : ℕ) (rest : List ℕ) → (j ≡ k → ⊥) → In j (k ∷ rest) → In j rest
tail_of k j rest apart (inl q) = absurd (apart q)
tail_of k j rest apart (inr m) = m

neither : (k j : ℕ) (numbers : List ℕ) → (j ≡ k → ⊥) → (In j numbers → ⊥) → In j (k ∷ numbers) → ⊥
neither k j numbers apart none (inl q) = apart q
neither k j numbers apart none (inr m) = none m

known_with : (k n : ℕ) (numbers : List ℕ) → k < n → ((j : ℕ) → In j numbers → j < n) → (j : ℕ) → In j (k ∷ numbers) → j < n
known_with k n numbers one known j (inl q) = subst (λ (i : ℕ). i < n) (sym q) one
known_with k n numbers one known j (inr m) = known j m

pub dealt_go_outside : DealtGoOutside
dealt_go_outside old new session numbers same h out =
    let k : ℕ = number_of h.pass in
    let was : map number_of old.passes ≡ k ∷ map number_of new.passes = ap (map number_of) h.was in
    let first : In k (map number_of old.passes) = subst (In k) (sym was) (inl refl) in
    let rising : IsRising nat_cmp (k ∷ map number_of new.passes) = subst (IsRising nat_cmp) was out.rising in
    let counts : pass_count new ≡ pass_count old = ap (λ (store : StoreSeen). store.row.key.passes) same in
    let long : length old.passes ≡ suc (length new.passes) = ap (λ (l : List PassSeen). length l) h.was in (
      k,
      ap (λ (s : SessionSeen). number_in s.state) h.is,
      record {
        distinct = (((out.others k).0 first).1, out.distinct);
        known =
            subst (λ (n : ℕ). (j : ℕ) → In j (k ∷ numbers) → j < n) (sym counts)
            (known_with k (pass_count old) numbers ((out.others k).0 first).0 out.known);
        rising = rising.1;
        others =
            subst (λ (n : ℕ). (j : ℕ) → In j (map number_of new.passes) ↔ ((j < n) × (In j (k ∷ numbers) → ⊥)))
            (sym counts)
            (λ j. (
              λ m.
                  let there = (out.others j).0 (subst (In j) (sym was) (inr m)) in
                  (there.0, neither k j numbers (not_head k j (map number_of new.passes) rising m) there.1),
              λ b.
                  tail_of k j (map number_of new.passes) (λ q. b.1 (inl q))
                  (subst (In j) was ((out.others j).1 (b.0, λ m. b.1 (inr m)))),
            ));
        count = let all = out.count in omega (arith, all, counts, long);
      },
    )

-- ---- a session that comes back

-- Its pass stands among the store's again, and nothing else changes.
abbrev pub TakenBackComeInside : Type 0
TakenBackComeInside = (old new : OpenSeen) (session : SessionSeen) (before after : List ℕ) (k : ℕ)
    → HasTakenBack old new session → number_in session.state ≡ Some k → AreOutside old (before ++ k ∷ after)
    → AreOutside new (before ++ after)

in_with : {X : Type 0} (at : ℕ) (xs : List X) (x : X) (f : X → ℕ) (j : ℕ) → In j (map f (take at xs ++ x ∷ drop at xs))
    → (j ≡ f x) ⊎ In j (map f xs)
in_with zero xs x f j m = m
in_with (suc at) [] x f j m = m
in_with (suc at) (y ∷ xs) x f j (inl q) = inr (inl q)
in_with (suc at) (y ∷ xs) x f j (inr m) = elim (in_with at xs x f j m) [ inl q ↦ inl q | inr n ↦ inr (inr n) ]

with_in : {X : Type 0} (at : ℕ) (xs : List X) (x : X) (f : X → ℕ) (j : ℕ) → (j ≡ f x) ⊎ In j (map f xs)
    → In j (map f (take at xs ++ x ∷ drop at xs))
with_in zero xs x f j m = m
with_in (suc at) [] x f j m = m
with_in (suc at) (y ∷ xs) x f j (inl q) = inr (with_in at xs x f j (inl q))
with_in (suc at) (y ∷ xs) x f j (inr (inl q)) = inl q
with_in (suc at) (y ∷ xs) x f j (inr (inr m)) = inr (with_in at xs x f j (inr m))

below_rest : (k n j : ℕ) (rest : List ℕ) → k < n → IsRising nat_cmp (n ∷ rest) → In j (n ∷ rest) → k < j
below_rest k n j rest less rising (inl q) = subst (λ (i : ℕ). k < i) (sym q) less
below_rest k n j rest less rising (inr m) = let more = less_nat n j (rising.0 j m) in omega (arith, less, more)

below_all : (k : ℕ) (passes : List PassSeen) → IsRising nat_cmp (map number_of passes)
    → (In k (map number_of passes) → ⊥) → IfSome (slice_get passes 0) (λ pass. k ≤ number_of pass)
    → (j : ℕ) → In j (map number_of passes) → nat_cmp k j ≡ Less
below_all k [] rising none next j m = absurd m
below_all k (p ∷ passes) rising none next j m =
    nat_less k j
    (below_rest k (number_of p) j (map number_of passes) (apart_above k (number_of p) next (λ q. none (inl q))) rising m)

above : (n k : ℕ) (rest : List ℕ) → n < k → IsRising nat_cmp (n ∷ rest) → (j : ℕ) → (j ≡ k) ⊎ In j rest → nat_cmp n j ≡ Less
above n k rest less rising j (inl q) = subst (λ (i : ℕ). nat_cmp n i ≡ Less) (sym q) (nat_less n k less)
above n k rest less rising j (inr m) = rising.0 j m

rising_with : (at : ℕ) (passes : List PassSeen) (pass : PassSeen) → IsRising nat_cmp (map number_of passes)
    → (In (number_of pass) (map number_of passes) → ⊥)
    → All (λ other. number_of other < number_of pass) (take at passes)
    → IfSome (slice_get passes at) (λ other. number_of pass ≤ number_of other)
    → IsRising nat_cmp (map number_of (take at passes ++ pass ∷ drop at passes))
rising_with zero passes pass rising none lower next = (below_all (number_of pass) passes rising none next, rising)
rising_with (suc at) [] pass rising none lower next = (λ j m. absurd m, tt)
rising_with (suc at) (p ∷ passes) pass rising none lower next =
    let first : number_of p < number_of pass = lower 0 p (omega arith) in (
      λ j m.
          above (number_of p) (number_of pass) (map number_of passes) first rising j
          (in_with at passes pass number_of j m),
      rising_with at passes pass rising.1 (λ m. none (inr m)) (λ i d below. lower (suc i) d (omega (arith, below))) next,
    )

stays : (j k : ℕ) (before after : List ℕ) → In j (before ++ after) → In j (before ++ k ∷ after)
stays j k [] after m = inr m
stays j k (x ∷ before) after (inl q) = inl q
stays j k (x ∷ before) after (inr m) = inr (stays j k before after m)

distinct_without : (k : ℕ) (before after : List ℕ) → AreDistinct (before ++ k ∷ after)
    → AreDistinct (before ++ after) × (In k (before ++ after) → ⊥)
distinct_without k [] after d = (d.1, d.0)
distinct_without k (x ∷ before) after d =
    let rest = distinct_without k before after d.1 in (
      (λ m. d.0 (stays x k before after m), rest.0),
      λ m. elim m [
        | inl q ↦ d.0 (append_in_right x before (k ∷ after) (inl (sym q)))
        | inr n ↦ rest.1 n
      ],
    )

goes : (j k : ℕ) (before after : List ℕ) → In j (before ++ k ∷ after) → (j ≡ k) ⊎ In j (before ++ after)
goes j k [] after m = m
goes j k (x ∷ before) after (inl q) = inr (inl q)
goes j k (x ∷ before) after (inr m) = elim (goes j k before after m) [ inl q ↦ inl q | inr n ↦ inr (inr n) ]

is_or_not : (j k : ℕ) → (j ≡ k) ⊎ (j ≡ k → ⊥)
is_or_not j k = go (eqb j k) refl
  where
    go : (b : Bool) → eqb j k ≡ b → (j ≡ k) ⊎ (j ≡ k → ⊥)
    go true e = inl (eqb-true j k e)
    go false e = inr (λ q. false≢true (sym e ∙ eq-eqb j k q))

one_longer : {X : Type 0} (at : ℕ) (xs : List X) (x : X) → length (take at xs ++ x ∷ drop at xs) ≡ suc (length xs)
one_longer zero xs x = refl
one_longer (suc at) [] x = refl
one_longer (suc at) (y ∷ xs) x = ap suc (one_longer at xs x)

abbrev inside_or : List ℕ → ℕ → List ℕ → ℕ → Type 0
inside_or inside n numbers j = In j inside ↔ ((j < n) × (In j numbers → ⊥))

module _ (k n : ℕ) (inside before after : List ℕ) (known : (j : ℕ) → In j (before ++ k ∷ after) → j < n)
    (others : (j : ℕ) → inside_or inside n (before ++ k ∷ after) j) (apart : In k (before ++ after) → ⊥) where
  came : (j : ℕ) → (j ≡ k) ⊎ In j inside → (j < n) × (In j (before ++ after) → ⊥)
  came j (inl q) = (
    subst (λ (i : ℕ). i < n) (sym q) (known k (append_in_right k before (k ∷ after) (inl refl))),
    λ m. apart (subst (λ (i : ℕ). In i (before ++ after)) q m),
  )
  came j (inr m) =
      let there = (others j).0 m in (there.0, λ more. there.1 (stays j k before after more))

  back_go : (j : ℕ) → j < n → (In j (before ++ after) → ⊥) → (j ≡ k) ⊎ (j ≡ k → ⊥) → (j ≡ k) ⊎ In j inside
  back_go j below none (inl q) = inl q
  back_go j below none (inr other) =
      inr ((others j).1 (below, λ m. elim (goes j k before after m) [ inl q ↦ other q | inr more ↦ none more ]))

  back : (j : ℕ) → j < n → (In j (before ++ after) → ⊥) → (j ≡ k) ⊎ In j inside
  back j below none = back_go j below none (is_or_not j k)

pub taken_back_come_inside : TakenBackComeInside
taken_back_come_inside old new session before after k h is out =
    let n : ℕ = pass_count old in
    let inside : List ℕ = map number_of old.passes in
    let one : number_of h.pass ≡ k = same_Some (number_of h.pass) k (sym (ap number_in h.was) ∙ is) in
    let mine : In k (before ++ k ∷ after) = append_in_right k before (k ∷ after) (inl refl) in
    let counts : pass_count new ≡ n = ap (λ (store : StoreSeen). store.row.key.passes) h.store in
    let apart = distinct_without k before after out.distinct in
    let none : In (number_of h.pass) inside → ⊥ =
    λ m. ((out.others k).0 (subst (λ (j : ℕ). In j inside) one m)).1 mine in
    let long : length new.passes ≡ suc (length old.passes) =
    ap (λ (l : List PassSeen). length l) h.passes ∙ one_longer h.at old.passes h.pass in
    let some : length (before ++ k ∷ after) ≡ length before + suc (length after) = length-append before (k ∷ after) in
    let fewer : length (before ++ after) ≡ length before + length after = length-append before after in
    record {
      distinct = apart.0;
      known =
          subst (λ (m : ℕ). (j : ℕ) → In j (before ++ after) → j < m) (sym counts)
          (λ j m. out.known j (stays j k before after m));
      rising =
          subst (λ (l : List PassSeen). IsRising nat_cmp (map number_of l)) (sym h.passes)
          (rising_with h.at old.passes h.pass out.rising none h.place.lower h.place.next);
      others =
          subst (λ (m : ℕ). (j : ℕ) → inside_or (map number_of new.passes) m (before ++ after) j) (sym counts)
          (λ j. (
            λ m.
                came k n inside before after out.known out.others apart.1 j
                (subst (λ (i : ℕ). (j ≡ i) ⊎ In j inside) one
                (in_with h.at old.passes h.pass number_of j
                (subst (λ (l : List PassSeen). In j (map number_of l)) h.passes m))),
            λ b.
                subst (λ (l : List PassSeen). In j (map number_of l)) (sym h.passes)
                (with_in h.at old.passes h.pass number_of j
                (subst (λ (i : ℕ). (j ≡ i) ⊎ In j inside) (sym one)
                (back k n inside before after out.known out.others apart.1 j b.0 b.1))),
          ));
      count = let all = out.count in omega (arith, all, counts, long, some, fewer);
    }

-- ---- what that means for the store

-- A store has all of its passes exactly where no session has one.
abbrev pub AllAreInside : Type 0
AllAreInside = (opened : OpenSeen) (numbers : List ℕ) → AreOutside opened numbers → HasAllPasses opened ↔ (numbers ≡ [])

pub all_are_inside : AllAreInside
all_are_inside opened [] out =
    let n : ℕ = pass_count opened in (
      λ all. refl,
      λ none.
          same_rising nat_cmp nat_order (map number_of opened.passes) (range_with_len 0 n) out.rising (rising_range 0 n)
          (λ j m. in_range_below n j ((out.others j).0 m).0)
          (λ j m. (out.others j).1 (let b = (in_range_bounds 0 n j m).1 in omega (arith, b), λ nobody. nobody)),
    )
all_are_inside opened (k ∷ numbers) out =
    let n : ℕ = pass_count opened in (
      λ all.
          let there : In k (map number_of opened.passes) =
          subst (In k) (sym all) (in_range_below n k (out.known k (inl refl))) in
          absurd (((out.others k).0 there).1 (inl refl)),
      λ none. let more : suc (length numbers) ≡ 0 = ap (λ (l : List ℕ). length l) none in absurd (omega (arith, more)),
    )

-- Where a session has one, the store has fewer than it was opened with; so an idle session is taken back.
abbrev pub SomeOutsideLeaveRoom : Type 0
SomeOutsideLeaveRoom = (opened : OpenSeen) (before after : List ℕ) (k : ℕ) → AreOutside opened (before ++ k ∷ after)
    → length opened.passes < pass_count opened

pub some_outside_leave_room : SomeOutsideLeaveRoom
some_outside_leave_room opened before after k out =
    let some : length (before ++ k ∷ after) ≡ length before + suc (length after) = length-append before (k ∷ after) in
    let all = out.count in
    omega (arith, all, some)
