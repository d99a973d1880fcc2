-- How a run stands after a Read.
use Rattle.std.specs.Prelude.{◌≡◌, ℕ, ◌<◌, List, ◌∷◌, None, Option, Some, length}
use Rattle.rc_machine.proofs.Imports.{nat_cmp, In, IsRising, Within, union_left, Pairs, cols_of, merge, Agree, agree_from, in_merge, one_pair, rising_columns, rising_merge, Call, OpKind, Query, Insert, Remove, Update, Spec, GivesTuple, IsSealed, join, bound, edge_at, target_columns, all_rows, rows_on, tuples_of_edge, IsJoined, in_join, class_at, class_of, op_at, physical_stripe, IsThere, AreGoodRows, AreOfRelation, HeldStripe, readable_law, ReadMode, Lookup, Scan, Statement, Read, Which, run, Covers, HasProbed, IsFindable, KeepsAll, MayRead, Progress, after, IsProbing, read_keeps, read_same, stripes_of, band, locks_of, rows_now, stripes_held, AreGood, AreReaders, IsAt, IsOn, IsClassTaken, IsSearching, updating}
use Rattle.std.proofs.Common.{inl, inr, refl, sym, ap, subst, ◌∙◌}
use Rattle.rc_plan.specs.declared.statement.Which.TheVariants as which
use Rattle.rc_machine.proofs.ReadLemmas.{row_there, target_rises}
use Rattle.rc_machine.proofs.RunLemmas.{now_together, stripes_named}

merged_columns : (t u : Pairs) → IsRising nat_cmp (cols_of t) → IsRising nat_cmp (cols_of u) → Agree t u → IsRising nat_cmp (cols_of (merge t u))
merged_columns t u rt ru f = rising_columns (merge t u) (rising_merge t u) (λ p q m n e. elim (in_merge t u p m) [
  | inl a ↦ elim (in_merge t u q n) [ inl b ↦ one_pair t rt p q a b e | inr b ↦ f p q a b e ]
  | inr a ↦ elim (in_merge t u q n) [ inl b ↦ sym (f q p b a (sym e)) | inr b ↦ one_pair u ru p q a b e ]
])

findable_more : (mode : ReadMode) (key xs ys : List ℕ) → Within xs ys → IsFindable mode key xs → IsFindable mode key ys
findable_more Lookup key xs ys w f = λ c m. w c (f c m)
findable_more Scan key xs ys w f = tt

probed : (kind : OpKind) (p : Progress) → GivesTuple kind → MayRead kind p → HasProbed p
probed (Query outs ranges) p i h = absurd i
probed Insert p i h = h
probed Remove p i h = absurd i
probed Update p i h = h

-- behind a Probe the search doesn't speak of the bindings
still_probing : (t : Pairs) (p : Progress) (s : Pairs) (bs cs : List Pairs) → HasProbed p → IsProbing t p s bs → IsProbing t p s cs
still_probing t p s bs cs h (inl e) = absurd (let g : None ≡ Some h.0 = sym e.0 ∙ h.1 in cc)
still_probing t p s bs cs h (inr e) = inr e

-- the rows of held stripes that nothing changed are good
pub good_stripes : (spec : Spec) → IsSealed spec → (held : List HeldStripe) → ((h : HeldStripe) → In h held → h.now ≡ h.taken) → (r : List Pairs) → AreOfRelation spec held r → AreGood spec held
good_stripes spec sealed held same r a h m = subst (AreGoodRows spec h.stripe) (sym (same h m)) ((readable_law spec sealed held r a).good h m)

module _ (spec : Spec) (sealed : IsSealed spec) (plan : List Statement) (call : Call) (e : ℕ) (mode : ReadMode) (rest : List Statement) (bs : List Pairs) (old : Option Pairs) (held : List HeldStripe)
    (at : IsAt spec plan call (Read e mode ∷ rest) bs old held) where
  edge : e < length spec.edges
  edge = at.known (Read e mode) (inl refl)

  keeps : KeepsAll spec (op_at spec call.op) at.progress (Read e mode)
  keeps = at.keeps.0

  -- the bindings have the columns of the edge's source
  source_bound : (r : List Pairs) → AreOfRelation spec held r → Within (bound spec (edge_at spec e).from) at.progress.columns
  source_bound r a = elim keeps.k5.0 [
    | inl z ↦ λ c m. absurd (subst (In c) (ap (bound spec) z ∙ (sealed.accepted.adequate.a1 0 sealed.populated.node).nothing) m)
    | inr n ↦ (at.on r a).search.nodes (edge_at spec e).from n
  ]

  all_taken : (choice : Which) → IsClassTaken spec at.progress (stripes_of (locks_of held)) (class_of spec e) choice → Covers spec at.progress (class_of spec e) choice → (b : Pairs) → Within at.progress.columns (cols_of b)
      → (Within (class_at spec (class_of spec e)).cols (cols_of b) → ⊥) → (stripe : ℕ) → In stripe (band spec (class_of spec e)) → In stripe (stripes_of (locks_of held))
  all_taken which.Keyed taken cover b w n stripe m = absurd (n (λ k q. w k (taken cover k q)))
  all_taken which.All taken cover b w n stripe m = taken stripe m

  -- the bindings find the rows of the edge on the held stripes
  pub are_readers : (r : List Pairs) → AreOfRelation spec held r → AreReaders spec e mode held bs
  are_readers r a =
      let o : IsOn spec r (op_at spec call.op) call.args at.progress bs old (locks_of held) = at.on r a in
      record {
        readers = λ b m. record {
          source = λ c n. o.search.columns b m c (source_bound r a c n);
          key = findable_more mode (edge_at spec e).key at.progress.columns (cols_of b) (o.search.columns b m) keeps.k5.1;
        };
        covered = λ b m. record {
          keyed = λ w. subst (In (physical_stripe spec (class_of spec e) b)) (stripes_named held)
              (o.search.guards (class_of spec e, keeps.k3.0) keeps.k3.1 keeps.k3.2 b b m w (λ x y p q f. one_pair b (at.columns_rise b m) x y p q f));
          all = λ n stripe k. subst (In stripe) (stripes_named held)
              (all_taken keeps.k3.0 (o.taken (class_of spec e, keeps.k3.0) keeps.k3.1) keeps.k3.2 b (o.search.columns b m) n stripe k);
        };
      }

  pub are_good : (r : List Pairs) → AreOfRelation spec held r → AreGood spec held
  are_good r a = good_stripes spec sealed held at.unchanged r a

  taken_more : (c : ℕ) (choice : Which) → IsClassTaken spec at.progress (stripes_of (locks_of held)) c choice → IsClassTaken spec (after spec at.progress (Read e mode)) (stripes_of (locks_of held)) c choice
  taken_more c which.Keyed g = λ cover k q. union_left at.progress.columns (target_columns spec e) k (g cover k q)
  taken_more c which.All g = g

  module _ (joined : List Pairs) (is : joined ≡ join bs (tuples_of_edge e (rows_now held))) where
    same_at : (r : List Pairs) (a : AreOfRelation spec held r) (stripes : List ℕ) → Within (stripes_held held) stripes → join bs (tuples_of_edge e (rows_on spec r stripes)) ≡ join bs (tuples_of_edge e (all_rows spec r))
    same_at r a stripes w =
        let o : IsOn spec r (op_at spec call.op) call.args at.progress bs old (locks_of held) = at.on r a in
        read_same spec sealed.in_range sealed.accepted.adequate sealed.accepted.placed r a.relation a.satisfies o.sought o.rising at.progress bs (locks_of held) stripes e mode o.search edge keeps.k3
        (λ c m. w c (subst (In c) (stripes_named held) m))

    joined_all : (r : List Pairs) (a : AreOfRelation spec held r) → joined ≡ join bs (tuples_of_edge e (all_rows spec r))
    joined_all r a =
        is ∙ ap (λ z. join bs (tuples_of_edge e z)) (now_together spec r held (λ h m. at.unchanged h m ∙ a.rows h m)) ∙ same_at r a (stripes_held held) (λ c m. m)

    -- the run after a Read; some relation is needed to see that its tuples' columns rise
    pub read_step : (r : List Pairs) → AreOfRelation spec held r → IsAt spec plan call rest joined old held
    read_step r₀ a₀ = record {
      progress = after spec at.progress (Read e mode);
      keeps = at.keeps.1;
      known = λ x m. at.known x (inr m);
      unchanged = at.unchanged;
      stripes_rise = at.stripes_rise;
      classes = at.classes;
      modes = at.modes;
      columns_rise = λ c m.
          let j : IsJoined bs (tuples_of_edge e (rows_now held)) c = in_join bs (tuples_of_edge e (rows_now held)) c (subst (In c) is m) in
          let q : (h : HeldStripe) × In h held × IsThere h.now e j.right = row_there held e j.right j.in_right in
          let cols : cols_of j.right ≡ bound spec (edge_at spec e).to = (are_good r₀ a₀ q.0 q.1).columns (e, j.right, q.2.0) q.2.1 in
          subst (λ z. IsRising nat_cmp (cols_of z)) (sym j.merged)
          (merged_columns j.left j.right (at.columns_rise j.left j.in_left) (subst (IsRising nat_cmp) (sym cols) (target_rises spec sealed e edge)) (agree_from j.left j.right j.agree));
      on = λ r a.
          let o : IsOn spec r (op_at spec call.op) call.args at.progress bs old (locks_of held) = at.on r a in
          record {
            sought = o.sought;
            rising = o.rising;
            inside = o.inside;
            search = subst (λ z. IsSearching spec r o.sought (after spec at.progress (Read e mode)) z (locks_of held)) (sym (joined_all r a))
                (read_keeps spec sealed.in_range sealed.accepted.adequate sealed.accepted.placed r a.relation a.satisfies o.sought o.rising at.progress bs (locks_of held) e mode o.search edge keeps.k5);
            taken = λ x m. taken_more x.0 x.1 (o.taken x m);
            tuple = λ i. record {
              probing = still_probing call.args at.progress o.sought bs joined (probed (op_at spec call.op).kind at.progress i keeps.k1.1) (o.tuple i).probing;
              named = (o.tuple i).named;
            };
            no_probe = o.no_probe;
            given = o.given;
            found = o.found;
          };
      runs = λ r a stripes w.
          at.runs r a stripes w ∙ ap (λ z. run spec (op_at spec call.op) call rest (updating old z (locks_of held) (rows_on spec r stripes))) (same_at r a stripes w ∙ sym (joined_all r a));
    }

    pub read_progress : (r : List Pairs) (a : AreOfRelation spec held r) → (read_step r a).progress ≡ after spec at.progress (Read e mode)
    unfolding read_step
    read_progress r a = refl
