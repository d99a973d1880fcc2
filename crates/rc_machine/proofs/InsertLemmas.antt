-- An insert that adds the rows of its path's class where no row has the arguments' values of source and key, and those of the other classes then.
use Rattle.std.specs.Prelude.{◌≡◌, ℕ, suc, ◌<◌, List, [], ◌∷◌, None, Some, length, map}
use Rattle.rc_machine.proofs.Imports.{length-map, length-range_with_len, in_range_below, AreDistinct, In, in_map, map_in, Pairs, cols_of, Call, Insert, Spec, all_columns, raised, EdgeRow, edge_numbers, StripeLock, class_of, op_at, HasColumns, HasRowOf, HasShape, edge_row, edge_table, shape_of, number_has_shape, shape_by_number, FragmentRows, AreOfOneRelation, CanRaiseNew, HasNoRowAt, HasRoomFor, HasRowAt, HeldStripe, Holding, IsHeld, IsHeldExclusive, IsLent, changed_at, held_of, reverted, with_changes, with_tuple_at, held-change, raised_all, class_rows, CanAddTuple, changes_of_class, EdgeShape, SpecWithPlans, IsQuery, AccessPath, HasLockedPath, IsRowFound, AreTakenAlike, CanInsert, ArePlaces, CanChange, HaveRoom, IsSameButLent, all_changed, all_placed, place_in, classes_from, others, class_edges, classes_of, ClassStripe}
use Rattle.std.proofs.Common.{inl, inr, refl, sym, ap, subst, ◌∙◌, arith}
use Rattle.rc_machine.proofs.ApplyLemmas.{cols_of-row_in}
use Rattle.rc_machine.proofs.CheckStepLemmas.{whole_tuple}
use Rattle.rc_machine.proofs.ClassLemmas.{all_among, are_places, can_insert_place, changed_by_class, each_place, each_raised, row_is}
use Rattle.rc_machine.proofs.ConditionLemmas.{is_insert}
use Rattle.rc_machine.proofs.EdgeChangeLemmas.{can_insert}
use Rattle.rc_machine.proofs.LentLemmas.{lent_again, lent_new, lent_table}
use Rattle.rc_machine.proofs.PlaceLemmas.{other_can}
use Rattle.rc_machine.proofs.ReadLemmas.{is_held}
use Rattle.rc_machine.proofs.RevertLemmas.{taken_alike}

pub table_known : (spec : Spec) (e : ℕ) → e < length spec.edges → e < length (edge_table spec)
table_known spec e l = let n : length (edge_table spec) ≡ length spec.edges = length-map (edge_numbers spec) (shape_of spec) ∙ length-range_with_len 0 (length spec.edges) in omega (arith, l, n)

module _ (compiled : SpecWithPlans) (call : Call) (p : AccessPath) (stripe : ℕ) (s : Holding) (locked : HasLockedPath compiled call p stripe s) (one : AreOfOneRelation compiled.spec (held_of s))
    (kind : (op_at compiled.spec call.op).kind ≡ Insert) where
  abbrev spec : Spec
  spec = compiled.spec

  abbrev t : Pairs
  t = call.args

  abbrev class : ℕ
  class = class_of spec p.edge

  known : p.edge < length spec.edges
  known = locked.path.locks.edge

  pub whole : cols_of t ≡ all_columns spec
  whole = whole_tuple spec call locked.fits (is_insert (op_at spec call.op).kind kind)

  -- its stripe is held Exclusive
  pub exclusive : IsHeldExclusive (held_of s) stripe
  exclusive =
      let q : (h : HeldStripe) × In h (held_of s) × (stripe ≡ h.stripe) = in_map (λ (h : HeldStripe). h.stripe) stripe (held_of s) locked.held in
      let lock : HeldStripe → StripeLock = λ h. (h.stripe, h.mode) in
      (q.0, q.1, sym q.2, locked.run.modes (λ i. subst IsQuery kind i) (q.0.stripe, q.0.mode) (map_in lock q.0 (held_of s) q.1))

  -- the path's edge, and then all
  abbrev edges : List ℕ
  edges = p.edge ∷ edge_numbers spec

  pub edges_known : (e : ℕ) → In e edges → In e (edge_numbers spec)
  edges_known e (inl is) = in_range_below (length spec.edges) e (subst (λ n. n < length spec.edges) (sym is) known)
  edges_known e (inr m) = m

  module _ (places : List ClassStripe) (are : places ≡ map (place_in spec t) (classes_of spec edges))
    where
      abbrev here : ClassStripe
      here = place_in spec t class

      parts_of : (rest : List ClassStripe) × (places ≡ here ∷ rest)
      parts_of = (
        map (place_in spec t) (others class (classes_of spec (edge_numbers spec))),
        are ∙ ap (map (place_in spec t)) (classes_from spec p.edge (edge_numbers spec)),
      )

      -- there is a first place
      pub not_none : length places ≡ 0 → ⊥
      not_none e = let n : length places ≡ suc (length parts_of.0) = ap length parts_of.1 in omega (arith, e, n)

      all_places : ArePlaces spec places
      all_places = are_places spec locked.sealed t edges edges_known places are

      module _ (head : ClassStripe) (rest : List ClassStripe) (parts : places ≡ head ∷ rest) where
        is_here : head ≡ here
        is_here = let q : head ∷ rest ≡ here ∷ parts_of.0 = sym parts ∙ parts_of.1 in cc

        split : places ≡ here ∷ rest
        split = parts ∙ ap (λ z. z ∷ rest) is_here

        only : (q : ClassStripe) → In q (head ∷ []) → q ≡ head
        only q (inl e) = e
        only q (inr z) = absurd z

        pub first_exclusive : (q : ClassStripe) → In q (head ∷ []) → IsHeldExclusive (held_of s) q.stripe
        first_exclusive q m = subst (IsHeldExclusive (held_of s)) (locked.falls ∙ ap (λ (z : ClassStripe). z.stripe) (sym (only q m ∙ is_here))) exclusive

        pub first_used : (q : ClassStripe) → In q (head ∷ []) → 0 < length (class_edges spec q.class)
        first_used q m = all_places.used q (subst (In q) (sym parts) (inl (only q m)))

        -- room was made for the first
        module _ (mid : Holding) (held : held_of mid ≡ held_of s) (lent : IsSameButLent s mid) (room : HaveRoom (head ∷ []) mid) (fragment : FragmentRows) (shown : IsLent s stripe fragment) where
          pub table : mid.table ≡ edge_table spec
          table = lent_table s mid lent ∙ locked.table

          pub first_held : IsHeldExclusive (held_of mid) stripe
          first_held = subst (λ z. IsHeldExclusive z stripe) (sym held) exclusive

          pub first_known : p.edge < length mid.table
          first_known = subst (λ (z : List EdgeShape). p.edge < length z) (sym table) (table_known spec p.edge known)

          pub first_room : HasRoomFor mid stripe class
          first_room = subst (λ z. HasRoomFor mid z class) (sym locked.falls) (subst (λ (z : ClassStripe). HasRoomFor mid z.stripe z.class) is_here (room head (inl refl)))

          pub first_columns : HasColumns mid.table p.edge (edge_row mid.table p.edge t)
          first_columns = subst (λ z. HasColumns z p.edge (edge_row z p.edge t)) (sym table) (λ other at.
              ap cols_of (row_is spec locked.sealed t whole (held_of s) class p.edge known) ∙ cols_of-row_in spec locked.sealed t whole p.edge known
              ∙ sym (ap (λ (z : EdgeShape). z.target) (shape_by_number spec p.edge other at).1))

          -- what is so of the stripe is so of the fragment that was shown
          shown_here : (P : List EdgeRow → Type 0) → ((h : HeldStripe) → In h (held_of mid) → h.stripe ≡ stripe → P h.now) → P fragment.now
          shown_here P f =
              let h : IsHeld (held_of s) stripe = is_held (held_of s) stripe locked.held in
              subst P (sym (shown.now h.0 h.1 h.2)) (f h.0 (subst (In h.0) (sym held) h.1) h.2)

          shape_here : HasShape mid.table p.edge (shape_of spec p.edge)
          shape_here = subst (λ z. HasShape z p.edge (shape_of spec p.edge)) (sym table) (number_has_shape spec p.edge known)

          pub nowhere : HasNoRowAt mid stripe p.edge t → IsRowFound (shape_of spec p.edge) fragment.now p.edge t None
          nowhere none = shown_here (λ rows. IsRowFound (shape_of spec p.edge) rows p.edge t None) (λ h m at. none h m at (shape_of spec p.edge) shape_here)

          pub somewhere : HasRowAt mid stripe p.edge t → (values : List ℕ) × IsRowFound (shape_of spec p.edge) fragment.now p.edge t (Some values)
          somewhere there =
              shown_here (λ rows. (values : List ℕ) × IsRowFound (shape_of spec p.edge) rows p.edge t (Some values))
              (λ h m at. let row : HasRowOf mid.table h.now p.edge t = there h m at in (row.0, row.1 (shape_of spec p.edge) shape_here))

          inserts : IsRowFound (shape_of spec p.edge) fragment.now p.edge t None → CanInsert spec t (held_of s)
          inserts look = can_insert compiled call p stripe s locked one kind fragment shown look

          pub first_can : CanRaiseNew mid stripe class p.edge t
          first_can h m at none =
              let look : IsRowFound (shape_of spec p.edge) fragment.now p.edge t None =
              subst (λ rows. IsRowFound (shape_of spec p.edge) rows p.edge t None) (sym (shown.now h (subst (In h) held m) at)) (none (shape_of spec p.edge) shape_here) in
              subst (λ z. CanAddTuple z h.now class t) (sym table)
              ((can_insert_place spec locked.sealed t whole (held_of s) class (inserts look) (p.edge, in_range_below (length spec.edges) p.edge known, refl)).can h (subst (In h) held m) (at ∙ locked.falls))

          -- the first's rows were added
          module _ (none : HasNoRowAt mid stripe p.edge t) (half : Holding) (added : half ≡ with_tuple_at stripe class t mid) where
            half_held : held_of half ≡ changed_at here.stripe (raised_all (class_rows (edge_table spec) class t)) (held_of s)
            half_held =
                ap held_of added ∙ held-change stripe (changes_of_class mid.table class) (raised_all (class_rows mid.table class t)) mid
                ∙ (λ i. changed_at (locked.falls i) (raised_all (class_rows (table i) class t)) (held i))

            pub half_lent : IsSameButLent s half
            half_lent = lent_again s mid half lent (lent_new mid half (map (with_changes stripe (changes_of_class mid.table class) (raised_all (class_rows mid.table class t))) mid.lent) added)

            pub half_table : half.table ≡ edge_table spec
            half_table = lent_table s half half_lent ∙ locked.table

            pub half_alike : AreTakenAlike (held_of s) (held_of half)
            half_alike = ap (map reverted) half_held ∙ taken_alike here.stripe (raised_all (class_rows (edge_table spec) class t)) (held_of s)

            in_all : (q : ClassStripe) → In q rest → In q places
            in_all q m = subst (In q) (sym split) (inr m)

            apart : (q : ClassStripe) → In q rest → here.stripe ≡ q.stripe → ⊥
            apart q m same =
                let d = subst (λ ps. AreDistinct (map (λ (z : ClassStripe). z.stripe) ps)) split all_places.apart in
                d.0 (subst (λ z. In z (map (λ (z : ClassStripe). z.stripe) rest)) (sym same) (map_in (λ (z : ClassStripe). z.stripe) q rest m))

            pub left_places : ArePlaces spec rest
            left_places = record {
              apart = (subst (λ ps. AreDistinct (map (λ (z : ClassStripe). z.stripe) ps)) split all_places.apart).1;
              used = λ q m. all_places.used q (in_all q m);
            }

            pub left_can : (q : ClassStripe) → In q rest → CanChange CanAddTuple half.table (held_of half) t q
            left_can q m =
                subst (λ z. CanChange CanAddTuple z (held_of half) t q) (sym half_table)
                (subst (λ z. CanChange CanAddTuple (edge_table spec) z t q) (sym half_held)
                (other_can here.stripe q.stripe (apart q m) (raised_all (class_rows (edge_table spec) class t)) CanAddTuple (edge_table spec) t (held_of s) q refl
                (each_place spec locked.sealed t edges edges_known places are (CanChange CanAddTuple (edge_table spec) (held_of s) t)
                (λ k n among. can_insert_place spec locked.sealed t whole (held_of s) k (inserts (nowhere none)) among) q (in_all q m))))

            pub all_added : (new : List HeldStripe) → new ≡ all_placed raised_all half.table t rest (held_of half) → new ≡ all_changed raised spec t (edge_numbers spec) (held_of s)
            all_added new is =
                changed_by_class raised raised_all each_raised spec t locked.sealed whole edges (edge_table spec) places (held_of s) new
                (is ∙ (λ i. all_placed raised_all (half_table i) t rest (half_held i)) ∙ ap (λ ps. all_placed raised_all (edge_table spec) t ps (held_of s)) (sym split))
                refl are (inserts (nowhere none)).counted
                ∙ ap (λ edges. all_changed raised spec t edges (held_of s)) (all_among spec edges (λ e m. inr m))
