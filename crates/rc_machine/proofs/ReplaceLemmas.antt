-- A change of two tuples, as an update makes it: the rows of the old one go, and those of the new one come.
use Rattle.std.specs.Prelude.{◌≡◌, ℕ, ◌<◌, ◌≤◌, ◌^◌, List, [], ◌∷◌, Option, Some, length, map, not}
use Rattle.rc_machine.proofs.Imports.{nat_cmp, In, IsRising, put, in_filter, in_map, map_in, rising_filter, IsTuple, Pairs, cols_of, tuple_cmp, tuple_eq, Satisfies, satisfies_fewer, Call, Reply, Exclusive, Spec, IsSealed, Fits, all_columns, lowered, raised, row_in, AllHeld, AreCountedRows, AreCountedRows-rows_on, without_rows-fragments, EdgeRow, edge_numbers, fragment_of, on_stripes, rows_on, class_of, plain, without, physical_stripe, AreOfRelation, HeldStripe, Statement, IsPlanOf, RunState, eval, Serves, AreIn, CanReplace, replaced_in, AreAddable, all_changed, HasEvaluated, HasServed, locks_of, stripes_held, fewer}
use Rattle.std.proofs.Common.{refl, sym, ap, subst, ◌∙◌, arith}
use Rattle.rc_machine.proofs.ApplyLemmas.{Change, IsSameAt, lowered_leaves, raised_leaves, stripes_stay}
use Rattle.rc_machine.proofs.ChangeLemmas.{IsLocal, all_done, locks_kept, lowered_done, lowered_local, part_of, parts_changed, raised_local, stripes_kept}
use Rattle.rc_machine.proofs.ConditionLemmas.{addable_at, counted_at, exclusive_from, there_at}
use Rattle.rc_machine.proofs.RunLemmas.{has_evaluated, has_served, serves, stripes_named}

done_counted : (change : Change) → IsLocal change → (spec : Spec) (t : Pairs) (edges : List ℕ) (ws : List EdgeRow) → AreCountedRows ws → AreCountedRows (all_done change spec t edges ws)
done_counted change local spec t [] ws a = a
done_counted change local spec t (e ∷ edges) ws a = done_counted change local spec t edges (change e (row_in spec t e) ws) (local.counted e (row_in spec t e) ws a)

-- a stripe with its rows now as those taken
abbrev as_taken : HeldStripe → HeldStripe
as_taken h = record { stripe = h.stripe; mode = h.mode; now = h.now; taken = h.now }

-- ---- what an update changes can be changed

module _ (spec : Spec) (sealed : IsSealed spec) (r : List Pairs) (held : List HeldStripe) (same : (h : HeldStripe) → In h held → h.now ≡ h.taken) (a : AreOfRelation spec held r)
    (o : Pairs) (there : In o r) (named : AllHeld spec (stripes_held held) o) where
  abbrev mid : List HeldStripe
  mid = all_changed lowered spec o (edge_numbers spec) held

  -- once the old tuple's rows are out, the stripes have the fragments of the relation without it
  lowered_now : (h : HeldStripe) → In h mid → h.now ≡ fragment_of spec (without o r) h.stripe
  lowered_now h m =
      let S : List ℕ = stripes_held held in
      let all : List EdgeRow = rows_on spec r S in
      let part : h.now ≡ on_stripes spec (h.stripe ∷ []) (all_done lowered spec o (edge_numbers spec) all) =
      parts_changed lowered lowered_local spec o (edge_numbers spec) held all (AreCountedRows-rows_on spec r S)
      (λ g n. same g n ∙ a.rows g n ∙ sym (part_of spec r S g.stripe (map_in (λ (h : HeldStripe). h.stripe) g held n))) h m in
      part ∙ ap (on_stripes spec (h.stripe ∷ [])) (lowered_done spec o (edge_numbers spec) all ∙ without_rows-fragments spec r S o a.relation.rising there named)
      ∙ part_of spec (without o r) S h.stripe (subst (In h.stripe) (stripes_kept lowered spec o (edge_numbers spec) held) (map_in (λ (h : HeldStripe). h.stripe) h mid m))

  settled : AreOfRelation spec (map as_taken mid) (without o r)
  settled =
      let fewer : length (without o r) ≤ length r = fewer (λ x. not (tuple_eq x o)) r in
      let few : length r < 2 ^ 63 = a.few in
      record {
        relation = record {
          rising = rising_filter tuple_cmp (λ x. not (tuple_eq x o)) r a.relation.rising;
          each = λ x n. a.relation.each x (in_filter (λ x. not (tuple_eq x o)) x r n).0;
        };
        satisfies = satisfies_fewer r (without o r) spec.deps (λ u m. (in_filter (λ x. not (tuple_eq x o)) u r m).0) a.satisfies;
        few = omega (arith, fewer, few);
        rows = λ h m.
            let q : (g : HeldStripe) × In g mid × (h ≡ as_taken g) = in_map as_taken h mid m in
            subst (λ (z : HeldStripe). z.taken ≡ fragment_of spec (without o r) z.stripe) (sym q.2) (lowered_now q.0 q.1);
      }

  settled_same : (h : HeldStripe) → In h (map as_taken mid) → h.now ≡ h.taken
  settled_same h m =
      let q : (g : HeldStripe) × In g mid × (h ≡ as_taken g) = in_map as_taken h mid m in
      subst (λ (z : HeldStripe). z.now ≡ z.taken) (sym q.2) refl

  -- then the new tuple's rows can be added
  new_addable : (t : Pairs) → cols_of t ≡ all_columns spec → IsTuple t → Satisfies (put tuple_cmp t (without o r)) spec.deps → AreAddable spec t mid
  new_addable t over tuple sat e l h m s = addable_at spec sealed (without o r) (map as_taken mid) settled_same settled t over tuple sat e l (as_taken h) (map_in as_taken h mid m) s

  pub can_replace : (t : Pairs) → cols_of t ≡ all_columns spec → IsTuple t → Satisfies (put tuple_cmp t (without o r)) spec.deps → AllHeld spec (stripes_held held) t → AreIn Exclusive (locks_of held) → CanReplace spec o t held
  can_replace t over tuple sat named_new modes = record {
    out = record { counted = counted_at spec sealed r held same a; whole = (a.relation.each o there).over; exclusive = exclusive_from spec o held named modes; there = there_at spec sealed r held same a o there };
    put = record {
      counted = λ h m. subst AreCountedRows (sym (lowered_now h m)) (AreCountedRows-rows_on spec (without o r) (h.stripe ∷ []));
      whole = over;
      exclusive = exclusive_from spec t mid (λ e l. subst (In (physical_stripe spec (class_of spec e) (row_in spec t e))) (sym (stripes_kept lowered spec o (edge_numbers spec) held)) (named_new e l))
          (subst (AreIn Exclusive) (sym (locks_kept lowered spec o (edge_numbers spec) held)) modes);
      addable = new_addable t over tuple sat;
    };
  }

-- ---- a run that ends with both changes

module _ (spec : Spec) (sealed : IsSealed spec) (plan : List Statement) (call : Call) (fits : Fits spec call) (planned : IsPlanOf spec call.op plan)
    (bs : List Pairs) (old : Option Pairs) (held : List HeldStripe) (same : (h : HeldStripe) → In h held → h.now ≡ h.taken) (rise : IsRising nat_cmp (stripes_held held)) (answer : Reply) (o t : Pairs)
    (ends : (r : List Pairs) → AreOfRelation spec held r → eval spec plan call (rows_on spec r (stripes_held held))
    ≡ record { bindings = bs; named = locks_of held; old = old; reply = Some answer; rows = all_done raised spec t (edge_numbers spec) (all_done lowered spec o (edge_numbers spec) (rows_on spec r (stripes_held held))) }) where
  abbrev half : List HeldStripe
  half = all_changed lowered spec o (edge_numbers spec) held

  abbrev new : List HeldStripe
  new = replaced_in spec o t held

  locks_same : locks_of new ≡ locks_of held
  locks_same = locks_kept raised spec t (edge_numbers spec) half ∙ locks_kept lowered spec o (edge_numbers spec) held

  stripes_same : stripes_held new ≡ stripes_held held
  stripes_same = stripes_kept raised spec t (edge_numbers spec) half ∙ stripes_kept lowered spec o (edge_numbers spec) held

  before : (r : List Pairs) → AreOfRelation spec new r → AreOfRelation spec held r
  before r a = record {
    relation = a.relation;
    satisfies = a.satisfies;
    few = a.few;
    rows = λ h m.
        let p : (g : HeldStripe) × In g half × IsSameAt (length spec.edges) h g = (stripes_stay lowered lowered_leaves spec o held).goes h m in
        let q : (g : HeldStripe) × In g new × IsSameAt (length spec.edges) p.0 g = (stripes_stay raised raised_leaves spec t half).goes p.0 p.1 in
        sym p.2.taken ∙ sym q.2.taken ∙ a.rows q.0 q.1 ∙ ap (fragment_of spec r) (q.2.stripe ∙ p.2.stripe);
  }

  named : (r : List Pairs) → AreOfRelation spec new r → (eval spec plan call (rows_on spec r (stripes_held new))).named ≡ locks_of new
  named r a = ap (λ z. (eval spec plan call (rows_on spec r z)).named) stripes_same ∙ ap (λ (z : RunState). z.named) (ends r (before r a)) ∙ sym locks_same

  replied : (r : List Pairs) → AreOfRelation spec new r → (eval spec plan call (rows_on spec r (stripes_held new))).reply ≡ Some answer
  replied r a = ap (λ z. (eval spec plan call (rows_on spec r z)).reply) stripes_same ∙ ap (λ (z : RunState). z.reply) (ends r (before r a))

  rows : (r : List Pairs) → AreOfRelation spec new r → (h : HeldStripe) → In h new → h.now ≡ fragment_of spec (plain spec r call).relation h.stripe
  rows r a' h m =
      let a : AreOfRelation spec held r = before r a' in
      let S : List ℕ = stripes_held held in
      let all : List EdgeRow = rows_on spec r S in
      let s : Serves spec plan call r (locks_of held) = serves spec sealed plan call fits planned r held a (ap (λ (z : RunState). z.named) (ends r a)) in
      let after : all_done raised spec t (edge_numbers spec) (all_done lowered spec o (edge_numbers spec) all) ≡ rows_on spec (plain spec r call).relation S =
      sym (ap (λ (z : RunState). z.rows) (ends r a)) ∙ ap (λ z. (eval spec plan call (rows_on spec r z)).rows) (sym (stripes_named held)) ∙ s.rows ∙ ap (rows_on spec (plain spec r call).relation) (stripes_named held) in
      let parts : (g : HeldStripe) → In g half → g.now ≡ on_stripes spec (g.stripe ∷ []) (all_done lowered spec o (edge_numbers spec) all) =
      parts_changed lowered lowered_local spec o (edge_numbers spec) held all (AreCountedRows-rows_on spec r S)
      (λ g n. same g n ∙ a.rows g n ∙ sym (part_of spec r S g.stripe (map_in (λ (h : HeldStripe). h.stripe) g held n))) in
      let part : h.now ≡ on_stripes spec (h.stripe ∷ []) (all_done raised spec t (edge_numbers spec) (all_done lowered spec o (edge_numbers spec) all)) =
      parts_changed raised raised_local spec t (edge_numbers spec) half (all_done lowered spec o (edge_numbers spec) all) (done_counted lowered lowered_local spec o (edge_numbers spec) all (AreCountedRows-rows_on spec r S)) parts h m in
      part ∙ ap (on_stripes spec (h.stripe ∷ [])) after
      ∙ part_of spec (plain spec r call).relation S h.stripe (subst (In h.stripe) stripes_same (map_in (λ (h : HeldStripe). h.stripe) h new m))

  pub replaced_evaluated : (r : List Pairs) → AreOfRelation spec new r → HasEvaluated spec plan call new answer
  replaced_evaluated = has_evaluated spec sealed plan call fits planned new (subst (IsRising nat_cmp) (sym stripes_same) rise) answer named replied rows

  pub replaced_served : (r : List Pairs) → AreOfRelation spec new r → HasServed spec plan call new answer r
  replaced_served = has_served spec sealed plan call fits planned new (subst (IsRising nat_cmp) (sym stripes_same) rise) answer named replied rows
