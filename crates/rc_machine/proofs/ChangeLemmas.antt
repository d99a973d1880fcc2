-- A change of rows on held stripes is the change of all rows, and ends a run as evaluation does.
use Rattle.std.specs.Prelude.{◌≡◌, ℕ, suc, pred, ◌<◌, ◌==◌, ◌⊎◌, Bool, true, false, List, [], ◌∷◌, Option, Some, cond, length}
use Rattle.rc_machine.proofs.Imports.{nat_cmp, and_parts, eq-eqb, eqb-true, false≢true, In, IsRising, filter-filter, filter_in, has_in, in_filter, in_has, in_map, map_in, rising_filter, same_rising, has, Pairs, tuple_eq, same_from_test, Call, Reply, Spec, IsSealed, Fits, all_lowered, all_raised, count_at, is_row_at, lowered, raised, row_in, with_count, AreCountedRows, AreCountedRows-rows_on, AreCountedRows-with_count, in_with_count, rising_with_count, with_count_new, with_count_old, EdgeRow, all_rows, edge_numbers, edge_row_cmp, fragment_of, rows_on, on_stripes, row_stripe, edge_row_order, class_of, op_at, plain, physical_stripe, AreOfRelation, HeldStripe, changed_at, with_now, Statement, IsPlanOf, RunState, eval, run_one, Serves, stripes_of, all_changed, stripe_in, HasEvaluated, HasServed, locks_of, stripes_held, IsAt, updating}
use Rattle.std.proofs.Common.{inl, inr, refl, sym, ap, subst, ◌∙◌}
use Rattle.rc_machine.proofs.ApplyLemmas.{Change, IsSameAt, LeavesOthers, stripes_stay}
use Rattle.rc_machine.proofs.CheckStepLemmas.{evaluated}
use Rattle.rc_machine.proofs.RunLemmas.{has_evaluated, has_served, serves, stripes_named}

-- ---- the rows of one stripe

abbrev on_one : Spec → ℕ → List EdgeRow → List EdgeRow
on_one spec p ws = on_stripes spec (p ∷ []) ws

with_in : (e : ℕ) (row : Pairs) (n : ℕ) (ws : List EdgeRow) (v : EdgeRow) → ((v ≡ (e, row, n)) × (0 < n)) ⊎ (In v ws × (is_row_at e row v ≡ false)) → In v (with_count e row n ws)
with_in e row n ws v (inl q) = subst (λ (z : EdgeRow). In z (with_count e row n ws)) (sym q.0) (with_count_new e row n ws q.1)
with_in e row n ws v (inr q) = with_count_old e row n ws v q.0 q.1

module _ (spec : Spec) (p e : ℕ) (row : Pairs) where
  stripe : ℕ
  stripe = physical_stripe spec (class_of spec e) row

  here : EdgeRow → Bool
  here w = has (p ∷ []) (row_stripe spec w)

  same_stripe : (w : EdgeRow) → is_row_at e row w ≡ true → row_stripe spec w ≡ physical_stripe spec (class_of spec e) row
  same_stripe w q =
      let k : ((w.0 == e) ≡ true) × (tuple_eq w.1 row ≡ true) = and_parts (w.0 == e) (tuple_eq w.1 row) q in
      ap (λ z. physical_stripe spec (class_of spec z) w.1) (eqb-true w.0 e k.0) ∙ ap (physical_stripe spec (class_of spec e)) (same_from_test w.1 row k.1)

  lies_here : (w : EdgeRow) → has (p ∷ []) (row_stripe spec w) ≡ true → row_stripe spec w ≡ p
  lies_here w h = elim (in_has (p ∷ []) (row_stripe spec w) h) [ inl q ↦ q | inr z ↦ absurd z ]

  here_lies : (w : EdgeRow) → row_stripe spec w ≡ p → has (p ∷ []) (row_stripe spec w) ≡ true
  here_lies w q = has_in (p ∷ []) (row_stripe spec w) (inl q)

  same_count : physical_stripe spec (class_of spec e) row ≡ p → (ws : List EdgeRow) → count_at e row (on_one spec p ws) ≡ count_at e row ws
  same_count s [] = refl
  same_count s (w ∷ ws) = go (is_row_at e row w) (has (p ∷ []) (row_stripe spec w)) refl refl (same_count s ws)
    where
      go : (a b : Bool) → is_row_at e row w ≡ a → has (p ∷ []) (row_stripe spec w) ≡ b → count_at e row (on_one spec p ws) ≡ count_at e row ws
          → count_at e row (cond b (w ∷ on_one spec p ws) (on_one spec p ws)) ≡ cond a w.2 (count_at e row ws)
      go true true g h ih = ap (λ z. cond z w.2 (count_at e row (on_one spec p ws))) g
      go true false g h ih = absurd (false≢true (sym h ∙ here_lies w (same_stripe w g ∙ s)))
      go false true g h ih = ap (λ z. cond z w.2 (count_at e row (on_one spec p ws))) g ∙ ih
      go false false g h ih = ih

  with_count_here : (n : ℕ) (ws : List EdgeRow) → IsRising edge_row_cmp ws → physical_stripe spec (class_of spec e) row ≡ p → on_one spec p (with_count e row n ws) ≡ with_count e row n (on_one spec p ws)
  with_count_here n ws a s =
      same_rising edge_row_cmp edge_row_order (on_one spec p (with_count e row n ws)) (with_count e row n (on_one spec p ws))
      (rising_filter edge_row_cmp (λ w. has (p ∷ []) (row_stripe spec w)) (with_count e row n ws) (rising_with_count e row n ws a))
      (rising_with_count e row n (on_one spec p ws) (rising_filter edge_row_cmp (λ w. has (p ∷ []) (row_stripe spec w)) ws a))
      (λ v m.
      let q : In v (with_count e row n ws) × (has (p ∷ []) (row_stripe spec v) ≡ true) = in_filter (λ w. has (p ∷ []) (row_stripe spec w)) v (with_count e row n ws) m in
      with_in e row n (on_one spec p ws) v (elim (in_with_count e row n ws v q.0) [
        | inl k ↦ inl k
        | inr k ↦ inr (filter_in (λ w. has (p ∷ []) (row_stripe spec w)) v ws k.0 q.1, k.1)
      ]))
      (λ v m. elim (in_with_count e row n (on_one spec p ws) v m) [
        | inl k ↦ filter_in (λ w. has (p ∷ []) (row_stripe spec w)) v (with_count e row n ws) (with_in e row n ws v (inl k)) (here_lies v (ap (λ (z : EdgeRow). row_stripe spec z) k.0 ∙ s))
        | inr k ↦ (let q : In v ws × (has (p ∷ []) (row_stripe spec v) ≡ true) = in_filter (λ w. has (p ∷ []) (row_stripe spec w)) v ws k.0 in
            filter_in (λ w. has (p ∷ []) (row_stripe spec w)) v (with_count e row n ws) (with_in e row n ws v (inr (q.0, k.1))) q.1)
      ])

  with_count_elsewhere : (n : ℕ) (ws : List EdgeRow) → IsRising edge_row_cmp ws → (physical_stripe spec (class_of spec e) row ≡ p → ⊥) → on_one spec p (with_count e row n ws) ≡ on_one spec p ws
  with_count_elsewhere n ws a s =
      same_rising edge_row_cmp edge_row_order (on_one spec p (with_count e row n ws)) (on_one spec p ws)
      (rising_filter edge_row_cmp (λ w. has (p ∷ []) (row_stripe spec w)) (with_count e row n ws) (rising_with_count e row n ws a))
      (rising_filter edge_row_cmp (λ w. has (p ∷ []) (row_stripe spec w)) ws a)
      (λ v m.
      let q : In v (with_count e row n ws) × (has (p ∷ []) (row_stripe spec v) ≡ true) = in_filter (λ w. has (p ∷ []) (row_stripe spec w)) v (with_count e row n ws) m in
      elim (in_with_count e row n ws v q.0) [
        | inl k ↦ absurd (s (sym (ap (λ (z : EdgeRow). row_stripe spec z) k.0) ∙ lies_here v q.1))
        | inr k ↦ filter_in (λ w. has (p ∷ []) (row_stripe spec w)) v ws k.0 q.1
      ])
      (λ v m.
      let q : In v ws × (has (p ∷ []) (row_stripe spec v) ≡ true) = in_filter (λ w. has (p ∷ []) (row_stripe spec w)) v ws m in
      filter_in (λ w. has (p ∷ []) (row_stripe spec w)) v (with_count e row n ws) (with_in e row n ws v (inr (q.0, apart v (lies_here v q.1)))) q.1)
    where
      apart : (v : EdgeRow) → row_stripe spec v ≡ p → is_row_at e row v ≡ false
      apart v q = go (is_row_at e row v) refl
        where
          go : (b : Bool) → is_row_at e row v ≡ b → b ≡ false
          go true g = absurd (s (sym (same_stripe v g) ∙ q))
          go false g = refl

-- a change of a row is made on its stripe, and leaves the others
pub record IsLocal (change : Change) : Type 0 where
  pub here : (spec : Spec) (p e : ℕ) (row : Pairs) (ws : List EdgeRow) → IsRising edge_row_cmp ws → physical_stripe spec (class_of spec e) row ≡ p → on_stripes spec (p ∷ []) (change e row ws) ≡ change e row (on_stripes spec (p ∷ []) ws)
  pub elsewhere : (spec : Spec) (p e : ℕ) (row : Pairs) (ws : List EdgeRow) → IsRising edge_row_cmp ws → (physical_stripe spec (class_of spec e) row ≡ p → ⊥) → on_stripes spec (p ∷ []) (change e row ws) ≡ on_stripes spec (p ∷ []) ws
  pub counted : (e : ℕ) (row : Pairs) (ws : List EdgeRow) → AreCountedRows ws → AreCountedRows (change e row ws)

pub raised_local : IsLocal raised
raised_local = record {
  here = λ spec p e row ws a s. with_count_here spec p e row (suc (count_at e row ws)) ws a s ∙ ap (λ n. with_count e row (suc n) (on_one spec p ws)) (sym (same_count spec p e row s ws));
  elsewhere = λ spec p e row ws a s. with_count_elsewhere spec p e row (suc (count_at e row ws)) ws a s;
  counted = λ e row ws a. AreCountedRows-with_count e row (suc (count_at e row ws)) ws a;
}

pub lowered_local : IsLocal lowered
lowered_local = record {
  here = λ spec p e row ws a s. with_count_here spec p e row (pred (count_at e row ws)) ws a s ∙ ap (λ n. with_count e row (pred n) (on_one spec p ws)) (sym (same_count spec p e row s ws));
  elsewhere = λ spec p e row ws a s. with_count_elsewhere spec p e row (pred (count_at e row ws)) ws a s;
  counted = λ e row ws a. AreCountedRows-with_count e row (pred (count_at e row ws)) ws a;
}

-- the change of a tuple's row in each of some edges
abbrev pub all_done : Change → Spec → Pairs → List ℕ → List EdgeRow → List EdgeRow
all_done change spec t [] ws = ws
all_done change spec t (e ∷ edges) ws = all_done change spec t edges (change e (row_in spec t e) ws)

pub raised_done : (spec : Spec) (t : Pairs) (edges : List ℕ) (ws : List EdgeRow) → all_done raised spec t edges ws ≡ all_raised spec t edges ws
raised_done spec t [] ws = refl
raised_done spec t (e ∷ edges) ws = raised_done spec t edges (raised e (row_in spec t e) ws)

pub lowered_done : (spec : Spec) (t : Pairs) (edges : List ℕ) (ws : List EdgeRow) → all_done lowered spec t edges ws ≡ all_lowered spec t edges ws
lowered_done spec t [] ws = refl
lowered_done spec t (e ∷ edges) ws = lowered_done spec t edges (lowered e (row_in spec t e) ws)

-- ---- held stripes

module _ (change : Change) (local : IsLocal change) (spec : Spec) (t : Pairs) where
  one_part : (e : ℕ) (ws : List EdgeRow) → AreCountedRows ws → (h : HeldStripe) → h.now ≡ on_one spec h.stripe ws
      → (with_now (stripe_in spec t e) (change e (row_in spec t e)) h).now ≡ on_one spec (with_now (stripe_in spec t e) (change e (row_in spec t e)) h).stripe (change e (row_in spec t e) ws)
  one_part e ws a h is = go (h.stripe == stripe_in spec t e) refl
    where
      now : HeldStripe
      now = record { stripe = h.stripe; mode = h.mode; now = change e (row_in spec t e) h.now; taken = h.taken }

      not_equal : (h.stripe == stripe_in spec t e) ≡ false → stripe_in spec t e ≡ h.stripe → ⊥
      not_equal g q = false≢true (sym g ∙ eq-eqb h.stripe (stripe_in spec t e) (sym q))

      go : (b : Bool) → (h.stripe == stripe_in spec t e) ≡ b → (cond b now h).now ≡ on_one spec (cond b now h).stripe (change e (row_in spec t e) ws)
      go true g = ap (change e (row_in spec t e)) is ∙ sym (local.here spec h.stripe e (row_in spec t e) ws a.rising (sym (eqb-true h.stripe (stripe_in spec t e) g)))
      go false g = is ∙ sym (local.elsewhere spec h.stripe e (row_in spec t e) ws a.rising (not_equal g))

  pub parts_changed : (edges : List ℕ) (held : List HeldStripe) (ws : List EdgeRow) → AreCountedRows ws → ((h : HeldStripe) → In h held → h.now ≡ on_stripes spec (h.stripe ∷ []) ws)
      → (h : HeldStripe) → In h (all_changed change spec t edges held) → h.now ≡ on_stripes spec (h.stripe ∷ []) (all_done change spec t edges ws)
  parts_changed [] held ws a f h m = f h m
  parts_changed (e ∷ edges) held ws a f h m =
      parts_changed edges (changed_at (stripe_in spec t e) (change e (row_in spec t e)) held) (change e (row_in spec t e) ws) (local.counted e (row_in spec t e) ws a)
      (λ g n.
      let q : (k : HeldStripe) × In k held × (g ≡ with_now (stripe_in spec t e) (change e (row_in spec t e)) k) = in_map (with_now (stripe_in spec t e) (change e (row_in spec t e))) g held n in
      subst (λ (z : HeldStripe). z.now ≡ on_one spec z.stripe (change e (row_in spec t e) ws)) (sym q.2) (one_part e ws a q.0 (f q.0 q.1))) h m

-- changes leave the locks
one_lock : (s : ℕ) (f : List EdgeRow → List EdgeRow) (held : List HeldStripe) → locks_of (changed_at s f held) ≡ locks_of held
one_lock s f [] = refl
one_lock s f (h ∷ held) = go (h.stripe == s) (one_lock s f held)
  where
    go : (b : Bool) → locks_of (changed_at s f held) ≡ locks_of held
        → ((cond b (record { stripe = h.stripe; mode = h.mode; now = f h.now; taken = h.taken }) h).stripe, (cond b (record { stripe = h.stripe; mode = h.mode; now = f h.now; taken = h.taken }) h).mode) ∷ locks_of (changed_at s f held) ≡ locks_of (h ∷ held)
    go true ih = ap (λ z. (h.stripe, h.mode) ∷ z) ih
    go false ih = ap (λ z. (h.stripe, h.mode) ∷ z) ih

pub locks_kept : (change : Change) (spec : Spec) (t : Pairs) (edges : List ℕ) (held : List HeldStripe) → locks_of (all_changed change spec t edges held) ≡ locks_of held
locks_kept change spec t [] held = refl
locks_kept change spec t (e ∷ edges) held = locks_kept change spec t edges (changed_at (stripe_in spec t e) (change e (row_in spec t e)) held) ∙ one_lock (stripe_in spec t e) (change e (row_in spec t e)) held

pub stripes_kept : (change : Change) (spec : Spec) (t : Pairs) (edges : List ℕ) (held : List HeldStripe) → stripes_held (all_changed change spec t edges held) ≡ stripes_held held
stripes_kept change spec t edges held = sym (stripes_named (all_changed change spec t edges held)) ∙ ap stripes_of (locks_kept change spec t edges held) ∙ stripes_named held

-- a relation's part on one of some stripes
pub part_of : (spec : Spec) (r : List Pairs) (stripes : List ℕ) (stripe : ℕ) → In stripe stripes → on_stripes spec (stripe ∷ []) (rows_on spec r stripes) ≡ fragment_of spec r stripe
part_of spec r stripes stripe m =
    filter-filter (λ w. has (stripe ∷ []) (row_stripe spec w)) (λ w. has stripes (row_stripe spec w))
    (λ w h. has_in stripes (row_stripe spec w) (elim (in_has (stripe ∷ []) (row_stripe spec w) h) [ inl q ↦ subst (λ z. In z stripes) (sym q) m | inr z ↦ absurd z ])) (all_rows spec r)

-- ---- a run that ends with a change

module _ (spec : Spec) (sealed : IsSealed spec) (plan : List Statement) (call : Call) (fits : Fits spec call) (planned : IsPlanOf spec call.op plan) (change : Change) (leaves : LeavesOthers change) (local : IsLocal change)
    (x : Statement) (rest : List Statement) (bs : List Pairs) (old : Option Pairs) (held : List HeldStripe) (at : IsAt spec plan call (x ∷ rest) bs old held) (answer : Reply) (t : Pairs)
    (f : (rows : List EdgeRow) → run_one spec (op_at spec call.op) call (updating old bs (locks_of held) rows) x
    ≡ record { bindings = bs; named = locks_of held; old = old; reply = Some answer; rows = all_done change spec t (edge_numbers spec) rows }) where
  locks_same : locks_of (all_changed change spec t (edge_numbers spec) held) ≡ locks_of held
  locks_same = locks_kept change spec t (edge_numbers spec) held

  stripes_same : stripes_held (all_changed change spec t (edge_numbers spec) held) ≡ stripes_held held
  stripes_same = stripes_kept change spec t (edge_numbers spec) held

  -- what the stripes were as taken
  before : (r : List Pairs) → AreOfRelation spec (all_changed change spec t (edge_numbers spec) held) r → AreOfRelation spec held r
  before r a = record {
    relation = a.relation;
    satisfies = a.satisfies;
    few = a.few;
    rows = λ h m.
        let q : (g : HeldStripe) × In g (all_changed change spec t (edge_numbers spec) held) × IsSameAt (length spec.edges) h g = (stripes_stay change leaves spec t held).goes h m in
        sym q.2.taken ∙ a.rows q.0 q.1 ∙ ap (fragment_of spec r) q.2.stripe;
  }

  ends : (r : List Pairs) → AreOfRelation spec held r → eval spec plan call (rows_on spec r (stripes_held held))
      ≡ record { bindings = bs; named = locks_of held; old = old; reply = Some answer; rows = all_done change spec t (edge_numbers spec) (rows_on spec r (stripes_held held)) }
  ends = evaluated spec sealed plan call fits x rest bs old held at answer (all_done change spec t (edge_numbers spec)) f

  named : (r : List Pairs) → AreOfRelation spec (all_changed change spec t (edge_numbers spec) held) r
      → (eval spec plan call (rows_on spec r (stripes_held (all_changed change spec t (edge_numbers spec) held)))).named ≡ locks_of (all_changed change spec t (edge_numbers spec) held)
  named r a = ap (λ z. (eval spec plan call (rows_on spec r z)).named) stripes_same ∙ ap (λ (z : RunState). z.named) (ends r (before r a)) ∙ sym locks_same

  replied : (r : List Pairs) → AreOfRelation spec (all_changed change spec t (edge_numbers spec) held) r
      → (eval spec plan call (rows_on spec r (stripes_held (all_changed change spec t (edge_numbers spec) held)))).reply ≡ Some answer
  replied r a = ap (λ z. (eval spec plan call (rows_on spec r z)).reply) stripes_same ∙ ap (λ (z : RunState). z.reply) (ends r (before r a))

  rows : (r : List Pairs) → AreOfRelation spec (all_changed change spec t (edge_numbers spec) held) r → (h : HeldStripe) → In h (all_changed change spec t (edge_numbers spec) held)
      → h.now ≡ fragment_of spec (plain spec r call).relation h.stripe
  rows r a' h m =
      let a : AreOfRelation spec held r = before r a' in
      let S : List ℕ = stripes_held held in
      let all : List EdgeRow = rows_on spec r S in
      let s : Serves spec plan call r (locks_of held) = serves spec sealed plan call fits planned r held a (ap (λ (z : RunState). z.named) (ends r a)) in
      let after : all_done change spec t (edge_numbers spec) all ≡ rows_on spec (plain spec r call).relation S =
      sym (ap (λ (z : RunState). z.rows) (ends r a)) ∙ ap (λ z. (eval spec plan call (rows_on spec r z)).rows) (sym (stripes_named held)) ∙ s.rows ∙ ap (rows_on spec (plain spec r call).relation) (stripes_named held) in
      let part : h.now ≡ on_stripes spec (h.stripe ∷ []) (all_done change spec t (edge_numbers spec) all) =
      parts_changed change local spec t (edge_numbers spec) held all (AreCountedRows-rows_on spec r S)
      (λ g n. at.unchanged g n ∙ a.rows g n ∙ sym (part_of spec r S g.stripe (map_in (λ (h : HeldStripe). h.stripe) g held n))) h m in
      part ∙ ap (on_stripes spec (h.stripe ∷ [])) after
      ∙ part_of spec (plain spec r call).relation S h.stripe (subst (In h.stripe) stripes_same (map_in (λ (h : HeldStripe). h.stripe) h (all_changed change spec t (edge_numbers spec) held) m))

  pub changed_evaluated : (r : List Pairs) → AreOfRelation spec (all_changed change spec t (edge_numbers spec) held) r → HasEvaluated spec plan call (all_changed change spec t (edge_numbers spec) held) answer
  changed_evaluated = has_evaluated spec sealed plan call fits planned (all_changed change spec t (edge_numbers spec) held) (subst (IsRising nat_cmp) (sym stripes_same) at.stripes_rise) answer named replied rows

  pub changed_served : (r : List Pairs) → AreOfRelation spec (all_changed change spec t (edge_numbers spec) held) r → HasServed spec plan call (all_changed change spec t (edge_numbers spec) held) answer r
  changed_served = has_served spec sealed plan call fits planned (all_changed change spec t (edge_numbers spec) held) (subst (IsRising nat_cmp) (sym stripes_same) at.stripes_rise) answer named replied rows
