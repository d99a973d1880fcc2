-- Laws of stores that go on.
use Rattle.std.proofs.Common.{◌≡◌, ◌⊎◌, ℕ, zero, suc, ◌+◌, ◌<◌, ◌≤◌, List, [], ◌∷◌, ◌++◌, Option, Some, None, length, map, get_or, inl, inr, refl, sym, ap, subst, ◌∙◌, arith}
use Rattle.rc_store.specs.Imports.{All, IfSome, AllByRecursion, range_with_len, slice_get, option_map, unwrap_or, In, in_contains, in_map, fragment_of, stripe_total, Spec, edge_table, KeptRows, Entry, Placed, Step, Extends, histories_stay, IsPrefix, own, own_placed, replay, none_own, own_length, MayGoOn, goes_on_with_more, goes_on_with_passes, made_at, made_there, PartEntries, HaveOneTable, Stripe, kept_stripe, EndedPass, Keeping, Counts, Entries, IsEndedOf, IsLeftOf, resumed_from, history_by, kept_of, AreOwnKept, KeepsAs, PassSeen, RowSeen, core_of, resumed_pass, told_of}
use Rattle.std.proofs.lemmas.Bool.{cases_lt}
use Rattle.std.proofs.lemmas.List.Elements.{All-contains}
use Rattle.std.proofs.lemmas.List.{length-map}
use Rattle.std.proofs.lemmas.List.FromFn.{length-map-range_with_len, map-range_with_len_more}
use Rattle.std.proofs.lemmas.Option.{same_Some, slice_get-get_or, slice_get-map, slice_get_past}
use Rattle.rc_store.specs.Closed.{AreKeptOf, ClosedSeen, HasOneHistory, left_by}
use Rattle.rc_store.specs.Headline.{IsReceipt, history_of}
use Rattle.rc_store.specs.ReceiptLaws.{begins_closed}
use Rattle.rc_store.specs.Receipts.{KnowsAll}
use Rattle.rc_store.specs.Resumed.{AreFreePasses, AreKeptParts, HasResumed, HavePasses, IsResumedPass, ResumedHistoriesAreOne, counted, counted_passes, keeping_of, kept_pass, made_by_pass}
use Rattle.rc_store.specs.Store.{IsFree, StoreSeen}

-- ---- what a closed store leaves, over further operations

same_table : (earlier later : Spec) → Extends earlier later → edge_table later ≡ edge_table earlier
same_table earlier later (more, is) = ap edge_table is

-- how much each pass has made
made_of_each : (closed : ClosedSeen) (h : HasOneHistory closed) (k : ℕ) → made_by_pass closed.made k ≡ length (own_placed h.history k)
made_of_each closed h k = go (cases_lt k (length closed.made)) ∙ sym (own_length h.history k)
  where
    go : (k < length closed.made) ⊎ (length closed.made ≤ k) → made_by_pass closed.made k ≡ length (own h.history k)
    go (inl lt) =
        ap (λ (o : Option ℕ). unwrap_or o 0)
        (ap (λ (l : List ℕ). slice_get l k) h.made ∙ made_there (λ p. length (own h.history p)) 0 (length closed.made) k lt ∙ ap (λ p. Some (length (own h.history p))) (let z : 0 + k ≡ k = omega arith in z))
    go (inr beyond) =
        ap (λ (o : Option ℕ). unwrap_or o 0) (slice_get_past closed.made k beyond)
        ∙ sym (none_own h.history (length closed.made) k (λ e m. (h.may.good.entries e m).pass) beyond)

-- each of the passes leaves its own entries of the history, kept as the passes keep them that go on
abbrev pub AreEndedOf : Keeping → List Entry → ℕ → List EndedPass → Type 0
AreEndedOf keeping history passes ended = (length ended ≡ passes)
    × ((k : ℕ) (e : EndedPass) → slice_get ended k ≡ Some e → IsEndedOf (own_placed history k) e × KeepsAs keeping e.entries)

module _ (closed : ClosedSeen) (h : HasOneHistory closed) (passes : ℕ) (ended : List EndedPass) where
  ended_counted : ended ≡ counted_passes closed.made passes → AreEndedOf Counts h.history passes ended
  ended_counted is = (
    ap (λ (l : List EndedPass). length l) is ∙ length-map-range_with_len (λ k. counted (made_by_pass closed.made k)) 0 passes,
    λ k e at. (let same : e ≡ counted (made_by_pass closed.made (0 + k)) = made_at (λ n. counted (made_by_pass closed.made n)) 0 passes k e (ap (λ (l : List EndedPass). slice_get l k) (sym is) ∙ at) in
        subst (λ (y : EndedPass). IsEndedOf (own_placed h.history k) y × KeepsAs Counts y.entries) (sym same)
        (record { made = made_of_each closed h (0 + k) ∙ ap (λ n. length (own_placed h.history n)) (let z : 0 + k ≡ k = omega arith in z); own_entries = tt }, tt)),
  )

  ended_kept : (journal : List Entry) → journal ≡ h.history → AreKeptParts journal passes ended → AreEndedOf Entries h.history passes ended
  ended_kept journal is kept = (
    kept.count,
    λ k e at. (let part = kept.each k e at in
        let own : part.0.list ≡ own_placed h.history k = part.1 ∙ ap (λ (l : List Entry). own_placed l k) is in
        subst (λ (y : EndedPass). IsEndedOf (own_placed h.history k) y × KeepsAs Entries y.entries) (sym part.2)
        (record { made = ap (λ (l : List Placed). length l) own; own_entries = own }, tt)),
  )

  pub are_ended : (ended_is : closed.journal ≡ None → ended ≡ counted_passes closed.made passes) → IfSome closed.journal (λ history. AreKeptParts history passes ended)
      → AreEndedOf (keeping_of closed.journal) h.history passes ended
  are_ended counts kept = go closed.journal refl
    where
      go : (journal : Option (List Entry)) → closed.journal ≡ journal → AreEndedOf (keeping_of closed.journal) h.history passes ended
      go None is = subst (λ (o : Option (List Entry)). AreEndedOf (keeping_of o) h.history passes ended) (sym is) (ended_counted (counts is))
      go (Some journal) is =
          subst (λ (o : Option (List Entry)). AreEndedOf (keeping_of o) h.history passes ended) (sym is)
          (ended_kept journal (subst (λ (o : Option (List Entry)). IfSome o (λ j. j ≡ h.history)) is h.journal)
          (subst (λ (o : Option (List Entry)). IfSome o (λ history. AreKeptParts history passes ended)) is kept))

module _ (closed : ClosedSeen) (h : HasOneHistory closed) (later : Spec) (extends : Extends closed.compiled.spec later) where
  same_rows : (p : ℕ) → kept_of closed.compiled.spec (fragment_of closed.compiled.spec (replay closed.compiled.spec h.history) p) ≡ kept_of later (fragment_of later (replay later h.history) p)
  same_rows p =
      let stays = histories_stay closed.compiled.spec later extends in
      let both = stays.1 h.history h.may.good.fit in
      let rows : fragment_of closed.compiled.spec (replay closed.compiled.spec h.history) p ≡ fragment_of later (replay later h.history) p =
      sym (stays.0.fragments (replay closed.compiled.spec h.history) p) ∙ ap (λ r. fragment_of later r p) (sym both.replay_is) in
      let table = same_table closed.compiled.spec later extends in
      λ i. record { table = sym table i; rows = rows i }

  total : stripe_total later ≡ stripe_total closed.compiled.spec
  total = (histories_stay closed.compiled.spec later extends).0.total

  many_fragments : length (left_by closed.compiled.spec h.history) ≡ stripe_total closed.compiled.spec
  many_fragments = length-map-range_with_len (λ p. kept_of closed.compiled.spec (fragment_of closed.compiled.spec (replay closed.compiled.spec h.history) p)) 0 (stripe_total closed.compiled.spec)

  pub left_of_closed : (keeping : Keeping) (passes : ℕ) (ended : List EndedPass) → length closed.made ≤ passes → passes ≤ 255 → AreEndedOf keeping h.history passes ended
      → IsLeftOf later keeping h.history (left_by closed.compiled.spec h.history) ended
  left_of_closed keeping passes ended wide few are = record {
    may = subst (λ n. MayGoOn later n h.history) (sym are.0) (goes_on_with_passes later (length closed.made) passes h.history (goes_on_with_more closed.compiled.spec later (length closed.made) h.history extends h.may) wide few);
    count = many_fragments ∙ sym total;
    rows = λ p lt.
        made_there (λ q. kept_of closed.compiled.spec (fragment_of closed.compiled.spec (replay closed.compiled.spec h.history) q)) 0 (stripe_total closed.compiled.spec) p (subst (λ n. p < n) many_fragments lt)
        ∙ ap Some (ap (λ q. kept_of closed.compiled.spec (fragment_of closed.compiled.spec (replay closed.compiled.spec h.history) q)) (let z : 0 + p ≡ p = omega arith in z) ∙ same_rows p);
    made = λ k e at. (are.1 k e at).0;
    keeps = λ k e at. (are.1 k e at).1;
  }

-- what is made for passes one after another
counted_more : (made : List ℕ) (n : ℕ) → counted_passes made n ++ counted (made_by_pass made n) ∷ [] ≡ counted_passes made (n + 1)
counted_more made n = sym (map-range_with_len_more (λ k. counted (made_by_pass made k)) 0 n n (omega arith))

pub many_counted : (made : List ℕ) (n : ℕ) → length (counted_passes made n) ≡ n
many_counted made n = length-map-range_with_len (λ k. counted (made_by_pass made k)) 0 n

pub counted_on : (made : List ℕ) (n count : ℕ) (ended : List EndedPass) → ended ≡ counted_passes made n → count ≡ made_by_pass made n → ended ++ counted count ∷ [] ≡ counted_passes made (n + 1)
counted_on made n count ended is same = (λ i. is i ++ counted (same i) ∷ []) ∙ counted_more made n

pub kept_parts : (history : List Entry) (passes : ℕ) (parts : List PartEntries) → length parts ≡ passes → ((k : ℕ) (part : PartEntries) → slice_get parts k ≡ Some part → part.list ≡ own_placed history k)
    → AreKeptParts history passes (map kept_pass parts)
kept_parts history passes parts count own = record {
  count = length-map parts kept_pass ∙ count;
  each = λ k e at. (let p = part_at k e (sym (slice_get-map kept_pass parts k) ∙ at) in (p.0, own k p.0 p.1, p.2));
}
  where
    part_at : (k : ℕ) (e : EndedPass) → option_map kept_pass (slice_get parts k) ≡ Some e → (part : PartEntries) × (slice_get parts k ≡ Some part) × (e ≡ kept_pass part)
    part_at k e = go (slice_get parts k) refl
      where
        go : (o : Option PartEntries) → slice_get parts k ≡ o → option_map kept_pass o ≡ Some e → (part : PartEntries) × (slice_get parts k ≡ Some part) × (e ≡ kept_pass part)
        go None is at = cc
        go (Some part) is at = (part, is, sym (same_Some _ _ at))

-- ---- the passes that go on

resumed_at : (row : RowSeen) (ended : List EndedPass) (a k : ℕ) (pass : PassSeen) → slice_get (resumed_from row a ended) k ≡ Some pass
    → (e : EndedPass) × (slice_get ended k ≡ Some e) × (pass ≡ resumed_pass row (a + k) e.entries)
resumed_at row [] a k pass at = cc
resumed_at row (e ∷ ended) a zero pass at = (e, refl, sym (same_Some _ _ at) ∙ ap (λ n. resumed_pass row n e.entries) (let z : a ≡ a + 0 = omega arith in z))
resumed_at row (e ∷ ended) a (suc k) pass at =
    let x = resumed_at row ended (suc a) k pass at in (x.0, x.1, x.2 ∙ ap (λ n. resumed_pass row n x.0.entries) (let z : suc a + k ≡ a + suc k = omega arith in z))

many_resumed : (row : RowSeen) (ended : List EndedPass) (a : ℕ) → length (resumed_from row a ended) ≡ length ended
many_resumed row [] a = refl
many_resumed row (e ∷ ended) a = ap suc (many_resumed row ended (suc a))

resumed_numbers : (row : RowSeen) (ended : List EndedPass) (a : ℕ) → map (λ (pass : PassSeen). (core_of pass).number) (resumed_from row a ended) ≡ range_with_len a (length ended)
resumed_numbers row [] a = refl
resumed_numbers row (e ∷ ended) a = ap (λ l. a ∷ l) (resumed_numbers row ended (suc a) ∙ ap (λ n. range_with_len n (length ended)) (let z : suc a ≡ a + 1 = omega arith in z))

module _ (closed : ClosedSeen) (h : HasOneHistory closed) (store : StoreSeen) (passes : List PassSeen) (ended : List EndedPass)
    (goes : history_by store.row.key ≡ closed.history) (wide : length closed.made ≤ store.row.key.passes) (are : passes ≡ resumed_from store.row 0 ended)
    (each : AreEndedOf store.row.keeping h.history store.row.key.passes ended) where
  is_resumed : (k : ℕ) (pass : PassSeen) → slice_get passes k ≡ Some pass → IsResumedPass store.row k pass
  is_resumed k pass at =
      let x = resumed_at store.row ended 0 k pass (ap (λ (l : List PassSeen). slice_get l k) (sym are) ∙ at) in record {
        kept = x.0.entries;
        keeps = (each.1 k x.0 x.1).1;
        own = subst (λ (l : List Entry). AreOwnKept x.0.entries (own_placed l k)) (sym (goes ∙ h.is)) (each.1 k x.0 x.1).0.own_entries;
        is = x.2 ∙ ap (λ n. resumed_pass store.row n x.0.entries) (let z : 0 + k ≡ k = omega arith in z);
      }

  many : length passes ≡ store.row.key.passes
  many = ap (λ (l : List PassSeen). length l) are ∙ many_resumed store.row ended 0 ∙ each.0

  pub has_resumed : HasResumed closed store passes
  has_resumed = record { history = goes; many = wide; count = many; each = is_resumed }

  free_pass : AllByRecursion (λ n. n ≤ store.limit) closed.made → (k : ℕ) (pass : PassSeen) → slice_get passes k ≡ Some pass → IsFree store pass
  free_pass limited k pass at =
      let r = is_resumed k pass at in
      subst (λ (p : PassSeen). IsFree store p) (sym r.is) (record {
        of_row = record { table = refl; inside = λ j d lt. absurd (omega arith); shapes = λ j d lt. absurd (omega arith); keeps = r.keeps };
        idle = refl;
        few = few;
      })
    where
      limited_at : (xs : List ℕ) (j : ℕ) → AllByRecursion (λ x. x ≤ store.limit) xs → made_by_pass xs j ≤ store.limit
      limited_at [] j all = omega arith
      limited_at (x ∷ xs) zero all = all.0
      limited_at (x ∷ xs) (suc j) all = limited_at xs j all.1

      few : length (own_placed (history_by store.row.key) k) ≤ store.limit
      few = subst (λ n. n ≤ store.limit) (made_of_each closed h k ∙ ap (λ (l : List Entry). length (own_placed l k)) (sym (goes ∙ h.is))) (limited_at closed.made k limited)

  pub are_free : AllByRecursion (λ n. n ≤ store.limit) closed.made → AreFreePasses store passes
  are_free limited = record {
    idle = record {
      numbers = ap (map (λ (pass : PassSeen). (core_of pass).number)) are ∙ resumed_numbers store.row ended 0 ∙ ap (range_with_len 0) each.0;
      idle = λ k d lt. let f = free_pass limited k (get_or passes k d) (slice_get-get_or passes k d lt) in (f.of_row, f.idle);
    };
    free = λ k d lt. free_pass limited k (get_or passes k d) (slice_get-get_or passes k d lt);
  }

-- ---- what the calls on the way make of it

-- A closed store goes on with so many passes. It is seen as its parts are.
module _ (seen closed : ClosedSeen) (same : seen ≡ closed) (h : HasOneHistory seen) (passes : ℕ) (wide : length closed.made ≤ passes) where
  wide_seen : length seen.made ≤ passes
  wide_seen = subst (λ (c : ClosedSeen). length c.made ≤ passes) (sym same) wide

  -- the entries of the journal are of the passes
  pub journal_has_passes : (made : List ℕ) → made ≡ seen.made → IfSome seen.journal (HavePasses made passes)
  journal_has_passes made is = subst (λ (m : List ℕ). IfSome seen.journal (HavePasses m passes)) (sym is) (go seen.journal h.journal)
    where
      go : (journal : Option (List Entry)) → IfSome journal (λ j. j ≡ h.history) → IfSome journal (HavePasses seen.made passes)
      go None same_journal = tt
      go (Some journal) same_journal = subst (HavePasses seen.made passes) (sym same_journal) (record {
        passes_are = λ e m. (let lt = (h.may.good.entries e m).pass in let n = wide_seen in omega (arith, lt, n));
        made_are = made_of_each seen h;
      })

  -- what its passes leave
  module _ (made : List ℕ) (is : made ≡ seen.made) (ended : List EndedPass) (counts : seen.journal ≡ None → ended ≡ counted_passes made passes)
      (kept : IfSome seen.journal (λ history. AreKeptParts history passes ended)) where
    ended_are : AreEndedOf (keeping_of seen.journal) h.history passes ended
    ended_are = are_ended seen h passes ended (λ none. counts none ∙ ap (λ (m : List ℕ). counted_passes m passes) is) kept

    pub many_ended : length ended ≡ passes
    many_ended = ended_are.0

    -- what is handed to the row
    pub goes_on_from : (later : Spec) → Extends closed.compiled.spec later → passes ≤ 255 → (keeping : Keeping) → keeping ≡ keeping_of seen.journal
        → (fragments : List KeptRows) → ((ks : List KeptRows) → seen.instance ≡ map kept_stripe ks → fragments ≡ ks) → IsLeftOf later keeping seen.history fragments ended
    goes_on_from later extends few keeping keeps fragments was =
        subst (λ (x : Keeping × List Entry × List KeptRows). IsLeftOf later x.0 x.1 x.2 ended)
        (λ i. (sym keeps i, sym h.is i, sym (was (left_by seen.compiled.spec h.history) h.leaves.stripes) i))
        (left_of_closed seen h later (subst (λ (c : ClosedSeen). Extends c.compiled.spec later) (sym same) extends) (keeping_of seen.journal) passes ended wide_seen few ended_are)

    -- what comes out of it
    pub resumed_so : (store : StoreSeen) (dealt : List PassSeen) (keeping : Keeping) → keeping ≡ keeping_of seen.journal → store.row.keeping ≡ keeping
        → history_by store.row.key ≡ seen.history → store.row.key.passes ≡ length ended → dealt ≡ resumed_from store.row 0 ended
        → HasResumed closed store dealt × (AllByRecursion (λ n. n ≤ store.limit) closed.made → AreFreePasses store dealt)
    resumed_so store dealt keeping keeps of_row goes many are =
        subst (λ (c : ClosedSeen). HasResumed c store dealt × (AllByRecursion (λ n. n ≤ store.limit) c.made → AreFreePasses store dealt)) same
        (has_resumed seen h store dealt ended goes more are each, are_free seen h store dealt ended goes more are each)
      where
        count : store.row.key.passes ≡ passes
        count = many ∙ many_ended

        more : length seen.made ≤ store.row.key.passes
        more = subst (λ n. length seen.made ≤ n) (sym count) wide_seen

        each : AreEndedOf store.row.keeping h.history store.row.key.passes ended
        each = subst (λ (x : Keeping × ℕ). AreEndedOf x.0 h.history x.1 ended) (λ i. (sym (of_row ∙ keeps) i, sym count i)) ended_are

    -- where memory is wanted, they come back
    module _ (back : List EndedPass) (same_back : back ≡ ended) (room : Option ℕ) (room_is : room ≡ option_map length closed.journal) where
      kept_back : IfSome seen.journal (λ history. AreKeptOf history back)
      kept_back = subst (λ (l : List EndedPass). IfSome seen.journal (λ history. AreKeptOf history l)) (sym same_back) (go seen.journal h.journal kept)
        where
          go : (journal : Option (List Entry)) → IfSome journal (λ j. j ≡ h.history) → IfSome journal (λ history. AreKeptParts history passes ended) → IfSome journal (λ history. AreKeptOf history ended)
          go None same_journal parts = tt
          go (Some journal) same_journal parts = record {
            own = λ k e at. (let part = parts.each k e at in (part.0, ap (λ (y : EndedPass). y.entries) part.2, part.1));
            passes = λ e m.
                (let lt = (h.may.good.entries e (subst (λ (l : List Entry). In e l) same_journal m)).pass in
                let n = parts.count in
                let w = wide_seen in
                omega (arith, lt, n, w));
          }

      room_seen : room ≡ option_map length seen.journal
      room_seen = room_is ∙ ap (λ (c : ClosedSeen). option_map length c.journal) (sym same)

      pub many_back : length back ≡ passes
      many_back = ap (λ (l : List EndedPass). length l) same_back ∙ many_ended

      pub room_again : IfSome room (λ n. (history : List Entry) × AreKeptOf history back × (length history ≡ n))
      room_again = subst (λ (o : Option ℕ). IfSome o (λ n. (history : List Entry) × AreKeptOf history back × (length history ≡ n))) (sym room_seen) (go seen.journal kept_back)
        where
          go : (journal : Option (List Entry)) → IfSome journal (λ history. AreKeptOf history back)
              → IfSome (option_map length journal) (λ n. (history : List Entry) × AreKeptOf history back × (length history ≡ n))
          go None all = tt
          go (Some journal) all = (journal, all, refl)

      pub journal_again : (journal : Option (List Entry)) → (room ≡ None → journal ≡ None) → IfSome room (λ _. (history : List Entry) → AreKeptOf history back → journal ≡ Some history)
          → journal ≡ seen.journal
      journal_again journal none some = go seen.journal room_seen kept_back
        where
          go : (was : Option (List Entry)) → room ≡ option_map length was → IfSome was (λ history. AreKeptOf history back) → journal ≡ was
          go None there all = none there
          go (Some history) there all = subst (λ (o : Option ℕ). IfSome o (λ _. (l : List Entry) → AreKeptOf l back → journal ≡ Some l)) there some history all

  -- the closed store, put together again
  pub closed_again : (instance : List Stripe) (journal : Option (List Entry)) (history : List Entry) (fragments back : List KeptRows) → ((ks : List KeptRows) → seen.instance ≡ map kept_stripe ks → fragments ≡ ks)
      → back ≡ fragments → instance ≡ map kept_stripe back → journal ≡ seen.journal → history ≡ seen.history
      → (let again : ClosedSeen = record { compiled = seen.compiled; instance = instance; journal = journal; made = seen.made; history = history } in again ≡ seen)
  closed_again instance journal history fragments back was same_back there kept past = λ i. record {
    compiled = seen.compiled;
    instance = (there ∙ ap (map kept_stripe) (same_back ∙ was (left_by seen.compiled.spec h.history) h.leaves.stripes) ∙ sym h.leaves.stripes) i;
    journal = kept i;
    made = seen.made;
    history = past i;
  }

-- what comes back has one table
pub table_again : (seen : ClosedSeen) → HasOneHistory seen → (fragments kept : List KeptRows) → fragments ≡ kept
    → ((ks : List KeptRows) → seen.instance ≡ map kept_stripe ks → kept ≡ ks) → HaveOneTable fragments
table_again seen h fragments kept same was =
    subst HaveOneTable (sym (same ∙ was (left_by seen.compiled.spec h.history) h.leaves.stripes))
    (λ j k m n. let a = in_map rows j (range_with_len 0 (stripe_total seen.compiled.spec)) m in
    let b = in_map rows k (range_with_len 0 (stripe_total seen.compiled.spec)) n in
    ap (λ (x : KeptRows). x.table) a.2 ∙ sym (ap (λ (x : KeptRows). x.table) b.2))
  where
    rows : ℕ → KeptRows
    rows p = kept_of seen.compiled.spec (fragment_of seen.compiled.spec (replay seen.compiled.spec h.history) p)

-- ---- the one history goes on

-- what was told of a history is told by all that goes on from it
told_begins : (history before : List Entry) (known : List (List Entry)) → ((earlier : List Entry) → In earlier (told_of history) → In earlier known)
    → All (λ earlier. IsPrefix earlier before) known → IsPrefix history before
told_begins [] before known told all = (before, refl)
told_begins (e ∷ history) before known told all =
    All-contains (λ (earlier : List Entry). IsPrefix earlier before) known (e ∷ history) all (in_contains (e ∷ history) known (told (e ∷ history) (inl refl)))

later_receipts : (closed : ClosedSeen) (store : StoreSeen) (passes : List PassSeen) → HasResumed closed store passes
    → (k : ℕ) (first : PassSeen) → slice_get passes k ≡ Some first
    → (steps : List Step) (old new : PassSeen) (place : ℕ) (r : IsReceipt store steps old new place) → KnowsAll first old
    → IsPrefix closed.history r.at.before
later_receipts closed store passes resumed k first at steps old new place r knows =
    subst (λ (l : List Entry). IsPrefix l r.at.before) resumed.history
    (told_begins (history_by store.row.key) r.at.before old.standing.known
    (λ earlier m. knows earlier (subst (λ (p : PassSeen). In earlier p.standing.known) (sym (resumed.each k first at).is) m)) r.at.goes_on)

pub resumed_histories_are_one : ResumedHistoriesAreOne
resumed_histories_are_one = record {
  earlier = λ store passes closed h k pass at steps old new place r m.
      subst (λ (l : List Entry). IsPrefix (history_of r.at) l) (sym h.is) (begins_closed store passes closed h k pass at (history_of r.at) m);
  receipts = later_receipts;
  closed = λ closed store passes resumed last later h.
      subst (λ (x : List Entry × List Entry). IsPrefix x.0 x.1) (λ i. (resumed.history i, sym h.is i)) h.begins;
}
