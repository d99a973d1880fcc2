-- Queries that are answered from the rows of one edge.
use Rattle.std.specs.Prelude.{◌≡◌, ℕ, ◌<◌, ◌++◌, true, List, [], ◌∷◌, None, Option, Some, filter, length, map}
use Rattle.rc_machine.proofs.Imports.{flat_map, zip, Ordering, Less, Equal, Greater, nat_cmp, ordering_then, and_from, and_parts, map-append, In, IsRising, filter_in, gather_in, in_append, in_filter, in_gather, in_map, map_in, number_lists_order, rising_gather, same_rising, Within, union, rising_range, project_all, IsRelation, IsTuple, Pairs, cols_of, matches, pick, project, value, cols-project, project-project, rising_pairs, same_from_test, test_from_same, Reply, Rows, Range, Spec, IsSealed, all_columns, target_within, edge_at, EdgeRow, fragment_of, class_at, class_of, at_most, row_cmp, rows_of, in_ranges, is_asked, physical_stripe, IsLookedUp, IsScan, IsThere, IsThereWith, shape_of, parted_edge, IsParted, extra_columns, values_at, extra_set, extra_within, length_values, EdgeShape, row_of_match, tuple_of_row, pick-project, HasListed, HasLookedUp, row_reply}
use Rattle.std.proofs.Common.{inl, inr, refl, sym, ap, subst, ◌∙◌, arith}
use Rattle.rc_machine.proofs.EmitLemmas.{few_rows}
use Rattle.rc_machine.proofs.EdgeRowLemmas.{has_key, has_source, inside, pick_values, picked, same_all, these_given}
use Rattle.rc_machine.proofs.SeekLemmas.{same_projected}

-- ---- the values of a row's key and extra columns

pub picked_parts : (spec : Spec) (sealed : IsSealed spec) (e : ℕ) → e < length spec.edges → (u : Pairs) → cols_of u ≡ (shape_of spec e).target
    → pick ((edge_at spec e).key ++ extra_columns (shape_of spec e)) u ≡ values_at (edge_at spec e).key u ++ values_at (extra_columns (shape_of spec e)) u
picked_parts spec sealed e known u columns =
    let shape : EdgeShape = shape_of spec e in
    let parted : IsParted shape = parted_edge spec sealed e known in
    let up : IsRising nat_cmp (cols_of u) = subst (IsRising nat_cmp) (sym columns) parted.target.rising in
    let key : pick shape.key u ≡ values_at shape.key u = pick_values shape.key u parted.key.rising up (λ c m. subst (In c) (sym columns) (parted.key_within c m)) in
    let extra : pick (extra_columns shape) u ≡ values_at (extra_columns shape) u = pick_values (extra_columns shape) u (extra_set shape parted).rising up (λ c m. subst (In c) (sym columns) (extra_within shape parted c m)) in
    map-append (value u) shape.key (extra_columns shape) ∙ ap (λ z. z ++ pick (extra_columns shape) u) key ∙ ap (λ z. values_at shape.key u ++ z) extra

-- these columns are the target's
pub key_and_extra_within : (spec : Spec) (sealed : IsSealed spec) (e : ℕ) → e < length spec.edges → Within ((edge_at spec e).key ++ extra_columns (shape_of spec e)) (shape_of spec e).target
key_and_extra_within spec sealed e known c m =
    let shape : EdgeShape = shape_of spec e in
    let parted : IsParted shape = parted_edge spec sealed e known in
    elim (in_append c shape.key (extra_columns shape) m) [ inl n ↦ parted.key_within c n | inr n ↦ extra_within shape parted c n ]

-- of two lists whose first parts are as long, that with the lesser first part is below
below_first : (a b c d : List ℕ) → length a ≡ length b → row_cmp a b ≡ Less → row_cmp (a ++ c) (b ++ d) ≡ Less
below_first [] [] c d l less = absurd (equal_not_less less)
  where
    equal_not_less : Equal ≡ Less → ⊥
    equal_not_less e = cc
below_first [] (y ∷ b) c d l less = absurd (omega (arith, l))
below_first (x ∷ a) [] c d l less = absurd (omega (arith, l))
below_first (x ∷ a) (y ∷ b) c d l less = go (nat_cmp x y) less (below_first a b c d (omega (arith, l)))
  where
    go : (o : Ordering) → ordering_then o (row_cmp a b) ≡ Less → (row_cmp a b ≡ Less → row_cmp (a ++ c) (b ++ d) ≡ Less) → ordering_then o (row_cmp (a ++ c) (b ++ d)) ≡ Less
    go Less e rest = refl
    go Equal e rest = rest e
    go Greater e rest = absurd (let g : Greater ≡ Less = e in cc)

-- ---- lists

pub no_member : {A : Type 0} (xs : List A) → ((x : A) → In x xs → ⊥) → xs ≡ []
no_member [] f = refl
no_member (x ∷ xs) f = absurd (f x (inl refl))

pub flat_map_alike : {A B : Type 0} (f g : A → List B) (xs : List A) → ((x : A) → In x xs → f x ≡ g x) → flat_map f xs ≡ flat_map g xs
flat_map_alike f g [] alike = refl
flat_map_alike f g (x ∷ xs) alike = ap (λ z. z ++ flat_map f xs) (alike x (inl refl)) ∙ ap (λ z. g x ++ z) (flat_map_alike f g xs (λ y m. alike y (inr m)))

pub some_length : {A : Type 0} (xs ys : List A) → (xs ≡ [] → ⊥) → 0 < length (xs ++ ys)
some_length [] ys n = absurd (n refl)
some_length (x ∷ xs) ys n = omega arith

rising_map : {A B : Type 0} (R : A → A → Ordering) (S : B → B → Ordering) (f : A → B) (xs : List A) → ((x y : A) → In x xs → In y xs → R x y ≡ Less → S (f x) (f y) ≡ Less) → IsRising R xs → IsRising S (map f xs)
rising_map R S f [] keeps rises = tt
rising_map R S f (x ∷ xs) keeps rises = (
  (λ z m. let q : (y : _) × In y xs × (z ≡ f y) = in_map f z xs m in subst (λ w. S (f x) w ≡ Less) (sym q.2) (keeps x q.0 (inl refl) (inr q.1) (rises.0 q.0 q.1))),
  rising_map R S f xs (λ y z m n. keeps y z (inr m) (inr n)) rises.1,
)

-- ---- the edge's rows, and the tuples that match the arguments

module _ (spec : Spec) (sealed : IsSealed spec) (e : ℕ) (known : e < length spec.edges) (s : Pairs) (tuple : IsTuple s) (striped : Within (class_at spec (class_of spec e)).cols (cols_of s))
    (r : List Pairs) (i : IsRelation (all_columns spec) r) (rows : List EdgeRow) (are : rows ≡ fragment_of spec r (physical_stripe spec (class_of spec e) s)) where
  abbrev shape : EdgeShape
  shape = shape_of spec e

  parted : IsParted shape
  parted = parted_edge spec sealed e known

  pub over : (t : Pairs) → In t r → cols_of (project shape.target t) ≡ shape.target
  over t m = cols-project (all_columns spec) shape.target t (rising_range 0 (length spec.columns)) parted.target.rising (target_within spec sealed.in_range e known) (i.each t m).over

  -- a row that has the arguments' values is that of a tuple that matches them
  pub match_of : Within (cols_of s) shape.target → (u : Pairs) → IsThere rows e u → project (cols_of s) u ≡ project (cols_of s) s → (t : Pairs) × In t r × (matches s t ≡ true) × (u ≡ project shape.target t)
  match_of w u there same =
      let q : (t : Pairs) × In t r × (u ≡ project shape.target t) =
      tuple_of_row spec sealed.in_range sealed.accepted.adequate sealed.accepted.placed r i e known (physical_stripe spec (class_of spec e) s) u there.0 (subst (λ (z : List EdgeRow). In (e, u, there.0) z) are there.1) in (
        q.0,
        q.1,
        test_from_same (project (cols_of s) q.0) s
            (sym (project-project (cols_of s) shape.target q.0 w) ∙ ap (project (cols_of s)) (sym q.2) ∙ same ∙ project_all (cols_of s) s (rising_pairs s tuple) (λ c n. n)),
        q.2,
      )

  -- and the row of such a tuple is there
  there_of : (t : Pairs) → In t r → matches s t ≡ true → IsThere rows e (project shape.target t)
  there_of t m match =
      let q = row_of_match spec sealed.in_range sealed.accepted.adequate sealed.accepted.placed r i e known s striped t m match in
      (q.0, subst (λ (z : List EdgeRow). In (e, project shape.target t, q.0) z) (sym are) q.1)

  -- with the arguments' values
  values_are : (ys : List ℕ) → Within ys shape.target → Within ys (cols_of s) → (t : Pairs) → matches s t ≡ true → values_at ys (project shape.target t) ≡ values_at ys s
  values_are ys w v t match =
      ap (map (λ (p : ℕ × ℕ). p.1)) (project-project ys shape.target t w ∙ sym (project-project ys (cols_of s) t v) ∙ ap (project ys) (same_from_test (project (cols_of s) t) s match))

  pub row_of : cols_of s ≡ union shape.source shape.key → (t : Pairs) → In t r → matches s t ≡ true → IsThereWith shape rows e (values_at shape.source s) (values_at shape.key s) (project shape.target t)
  row_of whole t m match = record {
    there = there_of t m match;
    source_is = values_are shape.source parted.source_within (has_source spec sealed e known s tuple (these_given spec sealed e known s tuple whole)) t match;
    key_is = values_are shape.key parted.key_within (has_key spec sealed e known s tuple (these_given spec sealed e known s tuple whole)) t match;
  }

  module _ (ranges : List Range) (none : ranges ≡ []) where
    abbrev asked : List Pairs
    asked = filter (is_asked s ranges) r

    asked_in : (t : Pairs) → In t asked → In t r × (matches s t ≡ true)
    asked_in t m =
        let q : In t r × (is_asked s ranges t ≡ true) = in_filter (is_asked s ranges) t r m in
        (q.0, (and_parts (matches s t) (in_ranges ranges t) q.1).0)

    in_asked : (t : Pairs) → In t r → matches s t ≡ true → In t asked
    in_asked t m match = filter_in (is_asked s ranges) t r m (and_from (matches s t) (in_ranges ranges t) match (ap (λ (z : List Range). in_ranges z t) none))

    module _ (outs : List ℕ) (within : Within outs shape.target) (most : ℕ) where
      in_rows : (t : Pairs) → In t asked → In (pick outs t) (rows_of outs asked)
      in_rows t m = gather_in row_cmp number_lists_order (pick outs t) (map (pick outs) asked) (map_in (pick outs) t asked m)

      rows_in : (z : List ℕ) → In z (rows_of outs asked) → (t : Pairs) × In t asked × (z ≡ pick outs t)
      rows_in z m = in_map (pick outs) z asked (in_gather row_cmp number_lists_order z (map (pick outs) asked) m)

      -- ---- a look-up

      module _ (whole : cols_of s ≡ union shape.source shape.key) where
        pub looked_up : 0 < most → (reply : Reply) → HasLookedUp shape rows e s outs reply → at_most most (rows_of outs asked) ≡ reply
        looked_up some reply h = go h.0 h.1 h.2
          where
            go : (found : Option (List ℕ)) → IsLookedUp shape rows e (values_at shape.source s) (values_at shape.key s) found → reply ≡ row_reply outs s (extra_columns shape) found → at_most most (rows_of outs asked) ≡ reply
            go None nowhere is =
                let empty : rows_of outs asked ≡ [] =
                no_member (rows_of outs asked) (λ z m. let t = rows_in z m in let k = asked_in t.0 t.1 in nowhere (project shape.target t.0) (row_of whole t.0 k.0 k.1)) in
                ap (at_most most) empty ∙ few_rows most [] (omega arith) ∙ sym is
            go (Some values) look is =
                let u : Pairs = look.0 in
                let one : IsThere rows e u = look.1.there in
                let row : (t : Pairs) × In t r × (u ≡ project shape.target t) =
                tuple_of_row spec sealed.in_range sealed.accepted.adequate sealed.accepted.placed r i e known (physical_stripe spec (class_of spec e) s) u one.0 (subst (λ (z : List EdgeRow). In (e, u, one.0) z) are one.1) in
                let columns : cols_of u ≡ shape.target = ap cols_of row.2 ∙ over row.0 row.1 in
                let t : (t : Pairs) × In t r × (matches s t ≡ true) × (u ≡ project shape.target t) = match_of (inside spec sealed e known s tuple whole) u one (same_all spec sealed e known s tuple whole rows u look.1 columns) in
                let only : rows_of outs asked ≡ pick outs u ∷ [] =
                same_rising row_cmp number_lists_order (rows_of outs asked) (pick outs u ∷ []) (rising_gather row_cmp number_lists_order (map (pick outs) asked)) ((λ y m. absurd m), tt)
                (λ z m. let v = rows_in z m in let k = asked_in v.0 v.1 in
                inl (v.2 ∙ sym (pick-project shape.target outs v.0 within) ∙ ap (pick outs) (look.3 (project shape.target v.0) (row_of whole v.0 k.0 k.1))))
                (λ z m. elim m [
                  | inl q ↦ subst (λ y. In y (rows_of outs asked)) (sym (q ∙ ap (pick outs) t.3 ∙ pick-project shape.target outs t.0 within)) (in_rows t.0 (in_asked t.0 t.1 t.2))
                  | inr x ↦ absurd x
                ]) in
                let row_is : pick outs u ≡ pick outs (zip (extra_columns shape) values ++ s) = picked spec sealed e known s tuple (these_given spec sealed e known s tuple whole) rows u look.1 columns outs within values look.2 in
                ap (at_most most) only ∙ few_rows most (pick outs u ∷ []) (omega (arith, some)) ∙ ap (λ z. Rows (z ∷ [])) row_is ∙ sym is

      -- ---- a scan

      module _ (source : cols_of s ≡ shape.source) (key_and_extra_are : outs ≡ shape.key ++ extra_columns shape) where
        from_source : Within shape.source (cols_of s)
        from_source c m = subst (In c) (sym source) m

        source_inside : Within (cols_of s) shape.target
        source_inside c m = parted.source_within c (subst (In c) source m)

        pub listed : (reply : Reply) → HasListed shape rows e s outs most reply → at_most most (rows_of outs asked) ≡ reply
        listed reply h =
            let ts : List Pairs = h.0 in
            let scan : IsScan shape rows e (values_at shape.source s) ts = h.1 in
            let tuple_of : (u : Pairs) → In u ts → (t : Pairs) × In t r × (matches s t ≡ true) × (u ≡ project shape.target t) =
            (λ u m. let there : IsThere rows e u = (scan.only u m).0 in
            let row : (t : Pairs) × In t r × (u ≡ project shape.target t) =
            tuple_of_row spec sealed.in_range sealed.accepted.adequate sealed.accepted.placed r i e known (physical_stripe spec (class_of spec e) s) u there.0 (subst (λ (z : List EdgeRow). In (e, u, there.0) z) are there.1) in
            let columns : cols_of u ≡ shape.target = ap cols_of row.2 ∙ over row.0 row.1 in
            match_of source_inside u there
            (subst (λ ys. project ys u ≡ project ys s) (sym source)
            (same_projected shape.source u s parted.source (subst (IsRising nat_cmp) (sym columns) parted.target.rising) tuple.rising (λ c m. subst (In c) (sym columns) (parted.source_within c m)) from_source (scan.only u m).1))) in
            let columns_of : (u : Pairs) → In u ts → cols_of u ≡ shape.target = (λ u m. let q = tuple_of u m in ap cols_of q.3 ∙ over q.0 q.1) in
            let all : rows_of outs asked ≡ map (pick outs) ts =
            same_rising row_cmp number_lists_order (rows_of outs asked) (map (pick outs) ts) (rising_gather row_cmp number_lists_order (map (pick outs) asked))
            (rising_map (λ t u. row_cmp (values_at shape.key t) (values_at shape.key u)) row_cmp (pick outs) ts
            (λ t u m n l. subst (λ z. row_cmp z (pick outs u) ≡ Less) (sym (row_is t (columns_of t m))) (subst (λ z. row_cmp (values_at shape.key t ++ values_at (extra_columns shape) t) z ≡ Less) (sym (row_is u (columns_of u n)))
            (below_first (values_at shape.key t) (values_at shape.key u) (values_at (extra_columns shape) t) (values_at (extra_columns shape) u)
            (length_values shape.target shape.key t parted.target.rising parted.key.rising parted.key_within (columns_of t m) ∙ sym (length_values shape.target shape.key u parted.target.rising parted.key.rising parted.key_within (columns_of u n))) l)))
            scan.rising)
            (λ z m. let v = rows_in z m in let k = asked_in v.0 v.1 in
            subst (λ y. In y (map (pick outs) ts)) (pick-project shape.target outs v.0 within ∙ sym v.2)
            (map_in (pick outs) (project shape.target v.0) ts (scan.each (project shape.target v.0) (there_of v.0 k.0 k.1) (values_are shape.source parted.source_within from_source v.0 k.1))))
            (λ z m. let q : (u : Pairs) × In u ts × (z ≡ pick outs u) = in_map (pick outs) z ts m in let t = tuple_of q.0 q.1 in
            subst (λ y. In y (rows_of outs asked)) (sym (q.2 ∙ ap (pick outs) t.3 ∙ pick-project shape.target outs t.0 within)) (in_rows t.0 (in_asked t.0 t.1 t.2))) in
            ap (at_most most) all ∙ sym h.2
          where
            row_is : (u : Pairs) → cols_of u ≡ shape.target → pick outs u ≡ values_at shape.key u ++ values_at (extra_columns shape) u
            row_is u columns = ap (λ z. pick z u) key_and_extra_are ∙ picked_parts spec sealed e known u columns
