-- Laws of closed stores.
use Rattle.std.proofs.Common.{◌≡◌, ℕ, zero, suc, ◌+◌, ◌-◌, ◌<◌, ◌^◌, List, [], ◌∷◌, Option, Some, None, length, map, min, refl, sym, ap, subst, ◌∙◌, arith}
use Rattle.rc_store.specs.Imports.{All, IfSome, cons_option, filter_map, range_with_len, slice_get, sum, sum_by, IsRelation, Satisfies, in_slice_get, IsSealed, all_columns, fragment_of, stripe_total, Spec, KeptRows, Entry, Placed, IsPrefix, own, own_placed, replay, replay_in_states, states_are_relations, states_satisfy, own_length, same_places, MayGoOn, made_at, made_there, shares_add_up, own_parts, AreNumbersBelow, ArePartsOf, places_of, places_are_numbers, PartEntries, HaveOneTable, IsOfRelation, Stripe, held_from, kept_stripe, made_law, EndedPass, Keeping, Counts, Entries, AreEnded, HasHistory, IsEndedPass, history_by, kept_of, AreOwnKept, IsPassOf, KeepsAs, PassSeen, RowSeen, compiled_of, core_of, spec_of}
use Rattle.std.proofs.lemmas.List.{length-map}
use Rattle.std.proofs.lemmas.List.Sums.{sum_by-cons}
use Rattle.std.proofs.lemmas.Option.{get_or_from_slice_get, same_Some, slice_get_within}
use Rattle.std.proofs.lemmas.List.FromFn.{length-map-range_with_len}
use Rattle.rc_store.specs.Closed.{AreKeptOf, ClosedSeen, HasClosed, HasOneHistory, Leaves, left_by, made_by, where_kept}
use Rattle.rc_store.specs.Store.{StoreSeen}

-- ---- how long the history is

sum_by_number : (f : PassSeen → ℕ) (g : ℕ → ℕ) (passes : List PassSeen) (a : ℕ) → ((k : ℕ) (pass : PassSeen) → slice_get passes k ≡ Some pass → f pass ≡ g (a + k))
    → sum (map f passes) ≡ sum_by g (range_with_len a (length passes))
sum_by_number f g [] a same = refl
sum_by_number f g (pass ∷ passes) a same =
    let first : f pass ≡ g a = same 0 pass refl ∙ ap g (let z : a + 0 ≡ a = omega arith in z) in
    let rest = sum_by_number f g passes (a + 1) (λ k p e. same (suc k) p e ∙ ap g (let z : a + suc k ≡ a + 1 + k = omega arith in z)) in
    sum_by-cons (λ x. x) (f pass) (map f passes) ∙ (λ i. first i + rest i) ∙ sym (sum_by-cons g a (range_with_len (a + 1) (length passes)))

module _ (spec : Spec) (passes : List PassSeen) (fragments : List KeptRows) (h : HasHistory spec passes fragments) where
  pub history_length : sum (made_by passes) ≡ length h.history
  history_length =
      sum_by_number (λ pass. length (core_of pass).own) (λ k. length (own_placed h.history k)) passes 0
      (λ k pass e. ap (λ (l : List Placed). length l) (h.own k pass e) ∙ ap (λ n. length (own_placed h.history n)) (let z : k ≡ 0 + k = omega arith in z))
      ∙ shares_add_up (length passes) h.history (λ e m. (h.good.entries e m).pass)

  -- it is small enough to be counted
  pub history_counted : min (sum (made_by passes)) (2 ^ 64 - 1) ≡ length h.history
  history_counted = let l = history_length in let s = h.short in omega (arith, l, s)

  -- ---- the relation of the fragments

  kept_at : (n : ℕ) (k : KeptRows) → slice_get fragments n ≡ Some k → k ≡ kept_of spec (fragment_of spec (replay spec h.history) n)
  kept_at n k e = same_Some _ _ (sym e ∙ h.rows n (slice_get_within fragments n k e))

  pub one_table : HaveOneTable fragments
  one_table j k m n =
      let a = in_slice_get j fragments m in
      let b = in_slice_get k fragments n in
      ap (λ (z : KeptRows). z.table) (kept_at a.0 j a.1) ∙ sym (ap (λ (z : KeptRows). z.table) (kept_at b.0 k b.1))

kept_relation : (spec : Spec) (passes : List PassSeen) (fragments : List KeptRows) → IsSealed spec → (h : HasHistory spec passes fragments)
    → IsOfRelation spec (map kept_stripe fragments) (replay spec h.history)
kept_relation spec passes fragments sealed h =
    let is_relation : IsRelation (all_columns spec) (replay spec h.history) = states_are_relations spec h.history h.good.fit (replay spec h.history) (replay_in_states spec h.history) in
    let satisfies : Satisfies (replay spec h.history) spec.deps = states_satisfy spec h.history (replay spec h.history) (replay_in_states spec h.history) in
    let few : length (replay spec h.history) < 2 ^ 63 = (let l = h.small in omega arith) in
    made_law spec fragments sealed h.count (replay spec h.history) is_relation satisfies few
    (λ p k at. let is = kept_at spec passes fragments h p k at in (ap (λ (z : KeptRows). z.table) is, ap (λ (z : KeptRows). z.rows) is))

none_held : (n : ℕ) (ks : List KeptRows) → held_from n (map kept_stripe ks) ≡ []
none_held n [] = refl
none_held n (k ∷ ks) = none_held (suc n) ks

-- ---- what passes kept

kept_part : (keeping : Keeping) (own : List Placed) (kept : Option PartEntries) → keeping ≡ Entries → KeepsAs keeping kept → AreOwnKept kept own
    → (part : PartEntries) × (kept ≡ Some part) × (part.list ≡ own)
kept_part Entries own None e k o = absurd k
kept_part Entries own (Some part) e k o = (part, refl, o)
kept_part Counts own kept e k o = cc

at_place : (passes : List PassSeen) (k : ℕ) → k < length passes → (pass : PassSeen) × (slice_get passes k ≡ Some pass)
at_place [] k lt = absurd (omega arith)
at_place (pass ∷ passes) zero lt = (pass, refl)
at_place (pass ∷ passes) (suc k) lt = at_place passes k (omega arith)

pub kept_of_history : (row : RowSeen) (passes : List PassSeen) (fragments : List KeptRows) (h : HasHistory (spec_of row) passes fragments) (ended : List EndedPass)
    → AreEnded passes ended → row.keeping ≡ Entries → All (λ pass. IsPassOf row pass × (pass.held ≡ [])) passes → AreKeptOf h.history ended
kept_of_history row passes fragments h ended are keeps all = record {
  own = λ k e at.
      let p = at_place passes k (let l = slice_get_within ended k e at in let n = are.0 in omega arith) in
      let is : IsEndedPass (core_of p.0).own p.0.kept e = are.1 k p.0 e p.1 at in
      let of : IsPassOf row p.0 = subst (λ pass. IsPassOf row pass) (get_or_from_slice_get passes k p.0 p.0 p.1) (all k p.0 (slice_get_within passes k p.0 p.1)).0 in
      let part = kept_part row.keeping (core_of p.0).own p.0.kept keeps of.keeps (subst (λ kept. AreOwnKept kept (core_of p.0).own) is.entries is.of.own_entries) in
      (part.0, is.entries ∙ part.1, part.2 ∙ h.own k p.0 p.1);
  passes = λ e m. (let l = (h.good.entries e m).pass in let n = are.0 in omega arith);
}

abbrev pub parts_in : List EndedPass → List PartEntries
parts_in ended = filter_map (λ (e : EndedPass). e.entries) ended

record AreAllOf (f : ℕ → List Placed) (a n : ℕ) (parts : List PartEntries) : Type 0 where
  pub count : length parts ≡ n
  pub each : (k : ℕ) (part : PartEntries) → slice_get parts k ≡ Some part → part.list ≡ f (a + k)

all_of : (f : ℕ → List Placed) (a : ℕ) (ended : List EndedPass)
    → ((k : ℕ) (e : EndedPass) → slice_get ended k ≡ Some e → (part : PartEntries) × (e.entries ≡ Some part) × (part.list ≡ f (a + k)))
    → AreAllOf f a (length ended) (parts_in ended)
all_of f a [] each = record { count = refl; each = λ k part e. cc }
all_of f a (e ∷ ended) each =
    let first = each 0 e refl in
    let rest = all_of f (a + 1) ended (λ k x at. let r = each (suc k) x at in let z : a + suc k ≡ a + 1 + k = omega arith in (r.0, r.1, r.2 ∙ ap f z)) in
    subst (AreAllOf f a (suc (length ended))) (ap (λ (o : Option PartEntries). cons_option o (parts_in ended)) (sym first.1)) (record { count = ap suc rest.count; each = more first.0 first.2 rest })
  where
    more : (part : PartEntries) → part.list ≡ f (a + 0) → AreAllOf f (a + 1) (length ended) (parts_in ended)
        → (k : ℕ) (x : PartEntries) → slice_get (part ∷ parts_in ended) k ≡ Some x → x.list ≡ f (a + k)
    more part is rest zero x at = ap (λ (z : PartEntries). z.list) (sym (same_Some _ _ at)) ∙ is
    more part is rest (suc k) x at = rest.each k x at ∙ ap f (let z : a + 1 + k ≡ a + suc k = omega arith in z)

-- they are the parts of the history
pub parts_of_history : (history : List Entry) (ended : List EndedPass) → AreKeptOf history ended → ArePartsOf (parts_in ended) history
parts_of_history history ended kept =
    let all = all_of (own_placed history) 0 ended (λ k e at. let r = kept.own k e at in let z : k ≡ 0 + k = omega arith in (r.0, r.1, r.2 ∙ ap (own_placed history) z)) in
    own_parts history (parts_in ended) (λ k part at. all.each k part at ∙ ap (own_placed history) (let z : 0 + k ≡ k = omega arith in z))
    (λ e m. subst (λ n. e.pass < n) (sym all.count) (kept.passes e m))

pub parts_are_placed : (history : List Entry) (n : ℕ) (ended : List EndedPass) → AreKeptOf history ended → length history ≡ n → AreNumbersBelow n (places_of (parts_in ended))
parts_are_placed history n ended kept long = subst (λ m. AreNumbersBelow m (places_of (parts_in ended))) long (places_are_numbers history (parts_in ended) (parts_of_history history ended kept))

-- of one row and the same row
pub history_of : (row other : RowSeen) (passes : List PassSeen) (fragments : List KeptRows) → row ≡ other → HasHistory (spec_of row) passes fragments → HasHistory (spec_of other) passes fragments
history_of row other passes fragments same h = subst (λ (r : RowSeen). HasHistory (spec_of r) passes fragments) same h

-- the history that is named, of one row and the same row
pub named_in : (row other : RowSeen) (passes : List PassSeen) (fragments : List KeptRows) (history : List Entry) → row ≡ other
    → ((h : HasHistory (spec_of row) passes fragments) → history ≡ h.history) → (h : HasHistory (spec_of other) passes fragments) → history ≡ h.history
named_in row other passes fragments history same named = subst (λ (r : RowSeen). (h : HasHistory (spec_of r) passes fragments) → history ≡ h.history) same named

pub room_of : (keeping : Keeping) (passes others : List PassSeen) (room : Option ℕ) → passes ≡ others
    → room ≡ where_kept keeping (min (sum (made_by passes)) (2 ^ 64 - 1)) → room ≡ where_kept keeping (min (sum (made_by others)) (2 ^ 64 - 1))
room_of keeping passes others room same is = is ∙ ap (λ (ps : List PassSeen). where_kept keeping (min (sum (made_by ps)) (2 ^ 64 - 1))) same

-- what has room, and what the room is for
module _ (row : RowSeen) (passes : List PassSeen) (fragments : List KeptRows) (h : HasHistory (spec_of row) passes fragments) (ended : List EndedPass)
    (are : AreEnded passes ended) (all : All (λ pass. IsPassOf row pass × (pass.held ≡ [])) passes)
    (room : Option ℕ) (is : room ≡ where_kept row.keeping (min (sum (made_by passes)) (2 ^ 64 - 1))) where
  pub room_of_history : IfSome room (λ n. (history : List Entry) × AreKeptOf history ended × (length history ≡ n))
  room_of_history = subst (λ (o : Option ℕ). IfSome o (λ n. (history : List Entry) × AreKeptOf history ended × (length history ≡ n))) (sym is) (go row.keeping refl)
    where
      go : (keeping : Keeping) → row.keeping ≡ keeping
          → IfSome (where_kept keeping (min (sum (made_by passes)) (2 ^ 64 - 1))) (λ n. (history : List Entry) × AreKeptOf history ended × (length history ≡ n))
      go Entries e = (h.history, kept_of_history row passes fragments h ended are e all, sym (history_counted (spec_of row) passes fragments h))
      go Counts e = tt

  pub journal_of_history : (journal : Option (List Entry)) → (room ≡ None → journal ≡ None) → IfSome room (λ _. (history : List Entry) → AreKeptOf history ended → journal ≡ Some history)
      → journal ≡ where_kept row.keeping h.history
  journal_of_history journal none some = go row.keeping refl
    where
      go : (keeping : Keeping) → row.keeping ≡ keeping → journal ≡ where_kept row.keeping h.history
      go Entries e =
          let there : room ≡ Some (min (sum (made_by passes)) (2 ^ 64 - 1)) = is ∙ ap (λ k. where_kept k (min (sum (made_by passes)) (2 ^ 64 - 1))) e in
          subst (λ (o : Option ℕ). IfSome o (λ _. (history : List Entry) → AreKeptOf history ended → journal ≡ Some history)) there some h.history
          (kept_of_history row passes fragments h ended are e all) ∙ ap (λ k. where_kept k h.history) (sym e)
      go Counts e = none (is ∙ ap (λ k. where_kept k (min (sum (made_by passes)) (2 ^ 64 - 1))) e) ∙ ap (λ k. where_kept k h.history) (sym e)

-- the fragments are those that the history leaves
fragments_are : (spec : Spec) (passes : List PassSeen) (fragments : List KeptRows) (h : HasHistory spec passes fragments) → fragments ≡ left_by spec h.history
fragments_are spec passes fragments h = same_places fragments (left_by spec h.history)
    (λ i x e. (let lt = slice_get_within fragments i x e in
    made_there rows 0 (stripe_total spec) i (subst (λ n. i < n) h.count lt) ∙ ap (λ n. Some (rows n)) (omega arith) ∙ sym (h.rows i lt) ∙ e))
    (λ i x e. (let lt : i < length (left_by spec h.history) = slice_get_within (left_by spec h.history) i x e in
    let inside : i < length fragments = (let n = length-map-range_with_len rows 0 (stripe_total spec) in let m = h.count in omega arith) in
    h.rows i inside ∙ ap Some (ap rows (let z : i ≡ 0 + i = omega arith in z) ∙ sym (made_at rows 0 (stripe_total spec) i x e))))
  where
    rows : ℕ → KeptRows
    rows p = kept_of spec (fragment_of spec (replay spec h.history) p)

-- ---- the closed store

module _ (store : StoreSeen) (passes : List PassSeen) (fragments : List KeptRows) (sealed : IsSealed (spec_of store.row)) (h : HasHistory (spec_of store.row) passes fragments) where
  pub has_closed : (closed : ClosedSeen) → closed.history ≡ h.history → IsPrefix (history_by store.row.key) h.history → closed.compiled ≡ compiled_of store.row → closed.instance ≡ map kept_stripe fragments
      → closed.journal ≡ where_kept store.row.keeping h.history → closed.made ≡ made_by passes → HasClosed store passes closed
  has_closed closed is begins compiled instance journal made = record {
    compiled = compiled;
    history = h.history;
    is = is;
    begins = begins;
    may = h.may;
    leaves = record {
      good = h.good;
      relation = subst (λ (ss : List Stripe). IsOfRelation (spec_of store.row) ss (replay (spec_of store.row) h.history)) (sym instance)
          (kept_relation (spec_of store.row) passes fragments sealed h);
      free = ap (held_from 0) instance ∙ none_held 0 fragments;
      stripes = instance ∙ ap (map kept_stripe) (fragments_are (spec_of store.row) passes fragments h);
    };
    own = h.own;
    known = h.known;
    journal = journal;
    made = made;
  }

kept_is : (keeping : Keeping) (history : List Entry) → IfSome (where_kept keeping history) (λ journal. journal ≡ history)
kept_is Entries history = refl
kept_is Counts history = tt

made_by_number : (g : ℕ → ℕ) (passes : List PassSeen) (a : ℕ) → ((k : ℕ) (pass : PassSeen) → slice_get passes k ≡ Some pass → length (core_of pass).own ≡ g (a + k))
    → made_by passes ≡ map g (range_with_len a (length passes))
made_by_number g [] a same = refl
made_by_number g (pass ∷ passes) a same =
    let first : length (core_of pass).own ≡ g a = same 0 pass refl ∙ ap g (let z : a + 0 ≡ a = omega arith in z) in
    let rest = made_by_number g passes (a + 1) (λ k p e. same (suc k) p e ∙ ap g (let z : a + suc k ≡ a + 1 + k = omega arith in z)) in
    λ i. first i ∷ rest i

-- what a store leaves has one history
pub one_history : (store : StoreSeen) (passes : List PassSeen) (closed : ClosedSeen) → HasClosed store passes closed → HasOneHistory closed
one_history store passes closed h =
    let many : length closed.made ≡ length passes = ap (λ (l : List ℕ). length l) h.made ∙ length-map passes (λ (pass : PassSeen). length (core_of pass).own) in
    let same : spec_of store.row ≡ closed.compiled.spec = ap (λ c. c.spec) (sym h.compiled) in record {
      history = h.history;
      is = h.is;
      may = subst (λ (x : Spec × ℕ). MayGoOn x.0 x.1 h.history) (λ i. (same i, sym many i)) h.may;
      leaves = subst (λ (x : Spec × ℕ). Leaves x.0 x.1 h.history closed.instance) (λ i. (same i, sym many i)) h.leaves;
      journal = subst (λ (o : Option (List Entry)). IfSome o (λ journal. journal ≡ h.history)) (sym h.journal) (kept_is store.row.keeping h.history);
      made = h.made
          ∙ made_by_number (λ k. length (own h.history k)) passes 0
          (λ k pass e. ap (λ (l : List Placed). length l) (h.own k pass e) ∙ own_length h.history k ∙ ap (λ n. length (own h.history n)) (let z : k ≡ 0 + k = omega arith in z))
          ∙ ap (λ n. map (λ k. length (own h.history k)) (range_with_len 0 n)) (sym many);
    }
