-- Laws of tables with edges whose rows others tell: a tuple's rows of a class are those that are kept, with those that they imply.
use Rattle.std.specs.Prelude.{◌≡◌, ℕ, zero, suc, ◌+◌, ◌<◌, ◌&&◌, ◌==◌, Bool, true, false, cond, List, [], ◌∷◌, Option, None, Some}
use Rattle.rc_fragment.specs.Imports.{slice_get, In, in_append, append_in_left, append_in_right, Within, Pairs, project, tuple_eq, project-project, is_row_at}
use Rattle.std.proofs.Common.{inl, inr, refl, sym, ap, subst, ◌∙◌, arith}
use Rattle.std.proofs.lemmas.Bool.{eqb-true, eq-eqb}
use Rattle.std.proofs.lemmas.Option.{none-some}
use Rattle.rc_fragment.specs.Fragment.{HasShape}
use Rattle.rc_fragment.specs.Implied.{AreImplications, Implied, hits, is_under, unders}
use Rattle.rc_fragment.specs.ImpliedLaws.{IsWhole}
use Rattle.rc_fragment.specs.ImpliedTables.{IsLowerOf, IsTable, class_rows, implied_at, implied_from, implied_in, is_kept, is_kept_of_class, is_of_class, kept_class_rows, numbered_rows}
use Rattle.rc_fragment.specs.declared.shape.EdgeShape.{EdgeShape}

-- ---- the implications of a table

-- an implication is that of an edge whose rows another tells
pub record IsImplicationOf (n : ℕ) (table : List EdgeShape) (i : Implied) (k : ℕ) (shape : EdgeShape) : Type 0 where
  pub upper : i.upper ≡ n + k
  pub there : slice_get table k ≡ Some shape
  pub lower : shape.lower ≡ Some i.lower
  pub columns : i.columns ≡ shape.target

in_implied : (n : ℕ) (table : List EdgeShape) (i : Implied) → In i (implied_from n table) → (k : ℕ) × (shape : EdgeShape) × IsImplicationOf n table i k shape
in_implied n [] i m = absurd m
in_implied n (s ∷ table) i m = elim (in_append i (implied_at n s.lower s.target) (implied_from (suc n) table) m) [
  | inl a ↦ here s.lower refl a
  | inr b ↦ (let q : (k : ℕ) × (shape : EdgeShape) × IsImplicationOf (suc n) table i k shape = in_implied (suc n) table i b in
      let z : suc n + q.0 ≡ n + suc q.0 = omega arith in
      (suc q.0, q.1, record { upper = q.2.upper ∙ z; there = q.2.there; lower = q.2.lower; columns = q.2.columns }))
]
  where
    here : (o : Option ℕ) → s.lower ≡ o → In i (implied_at n o s.target) → (k : ℕ) × (shape : EdgeShape) × IsImplicationOf n (s ∷ table) i k shape
    here None q a = absurd a
    here (Some l) q (inl a) =
        let z : n ≡ n + 0 = omega arith in
        (0, s, record { upper = ap (λ (x : Implied). x.upper) a ∙ z; there = refl; lower = q ∙ ap (λ (x : Implied). Some x.lower) (sym a); columns = ap (λ (x : Implied). x.columns) a })
    here (Some l) q (inr a) = absurd a

implied_there : (n : ℕ) (table : List EdgeShape) (k l : ℕ) (shape : EdgeShape) → slice_get table k ≡ Some shape → shape.lower ≡ Some l
    → In (record { upper = n + k; lower = l; columns = shape.target }) (implied_from n table)
implied_there n [] k l shape g q = absurd (none-some shape g)
implied_there n (s ∷ table) zero l shape g q =
    let same : s ≡ shape = let h : Some s ≡ Some shape = g in cc in
    let z : n ≡ n + 0 = omega arith in
    append_in_left (record { upper = n + 0; lower = l; columns = shape.target }) (implied_at n s.lower s.target) (implied_from (suc n) table)
    (subst (λ m. In (record { upper = m; lower = l; columns = shape.target }) (implied_at n s.lower s.target)) z
    (subst (λ (x : EdgeShape). In (record { upper = n; lower = l; columns = shape.target }) (implied_at n x.lower x.target)) (sym same)
    (subst (λ o. In (record { upper = n; lower = l; columns = shape.target }) (implied_at n o shape.target)) (sym q) (inl refl))))
implied_there n (s ∷ table) (suc k) l shape g q =
    let z : suc n + k ≡ n + suc k = omega arith in
    append_in_right (record { upper = n + suc k; lower = l; columns = shape.target }) (implied_at n s.lower s.target) (implied_from (suc n) table)
    (subst (λ m. In (record { upper = m; lower = l; columns = shape.target }) (implied_from (suc n) table)) z (implied_there (suc n) table k l shape g q))

-- the same, of a table from its first edge on
pub implication : (table : List EdgeShape) (i : Implied) → In i (implied_in table) → (shape : EdgeShape) × HasShape table i.upper shape × (shape.lower ≡ Some i.lower) × (i.columns ≡ shape.target)
implication table i m =
    let q : (k : ℕ) × (shape : EdgeShape) × IsImplicationOf 0 table i k shape = in_implied 0 table i m in
    let z : q.0 ≡ i.upper = let u : i.upper ≡ 0 + q.0 = q.2.upper in omega arith in
    (q.1, subst (λ k. slice_get table k ≡ Some q.1) z q.2.there, q.2.lower, q.2.columns)

pub implied_edge : (table : List EdgeShape) (e l : ℕ) (shape : EdgeShape) → HasShape table e shape → shape.lower ≡ Some l → In (record { upper = e; lower = l; columns = shape.target }) (implied_in table)
implied_edge table e l shape has q =
    let z : 0 + e ≡ e = omega arith in
    subst (λ m. In (record { upper = m; lower = l; columns = shape.target }) (implied_in table)) z (implied_there 0 table e l shape has q)

-- an edge whose rows are kept is no upper edge
pub kept_edge : (table : List EdgeShape) (e : ℕ) (shape : EdgeShape) → HasShape table e shape → shape.lower ≡ None → (i : Implied) → In i (implied_in table) → e ≡ i.upper → ⊥
kept_edge table e shape has none i m q =
    let x : (s : EdgeShape) × HasShape table i.upper s × (s.lower ≡ Some i.lower) × (i.columns ≡ s.target) = implication table i m in
    let same : Some shape ≡ Some x.0 = sym has ∙ ap (slice_get table) q ∙ x.1 in
    let is : shape ≡ x.0 = cc in
    none-some i.lower (sym none ∙ ap (λ (s : EdgeShape). s.lower) is ∙ x.2)

module _ (table : List EdgeShape) (good : IsTable table) where
  -- the lower edge of an implication
  pub lower_edge : (i : Implied) → In i (implied_in table) → (upper lower : EdgeShape) × HasShape table i.upper upper × HasShape table i.lower lower × IsLowerOf upper lower × (i.columns ≡ upper.target)
  lower_edge i m =
      let x : (s : EdgeShape) × HasShape table i.upper s × (s.lower ≡ Some i.lower) × (i.columns ≡ s.target) = implication table i m in
      let y : (s : EdgeShape) × HasShape table i.lower s × IsLowerOf x.0 s = good.lower i.upper i.lower x.0 x.1 x.2 in
      (x.0, y.0, x.1, y.1, y.2, x.3)

  pub implications : AreImplications (implied_in table)
  implications = record {
    once = λ i j m n q.
        let x : (s : EdgeShape) × HasShape table i.upper s × (s.lower ≡ Some i.lower) × (i.columns ≡ s.target) = implication table i m in
        let y : (s : EdgeShape) × HasShape table j.upper s × (s.lower ≡ Some j.lower) × (j.columns ≡ s.target) = implication table j n in
        let same : Some x.0 ≡ Some y.0 = sym x.1 ∙ ap (slice_get table) q ∙ y.1 in
        let is : x.0 ≡ y.0 = cc in
        let lows : Some i.lower ≡ Some j.lower = sym x.2 ∙ ap (λ (s : EdgeShape). s.lower) is ∙ y.2 in
        let low : i.lower ≡ j.lower = cc in
        let cols : i.columns ≡ j.columns = x.3 ∙ ap (λ (s : EdgeShape). s.target) is ∙ sym y.3 in
        λ k. record { upper = q k; lower = low k; columns = cols k };
    apart = λ i j m n q.
        let x = lower_edge i m in
        kept_edge table i.lower x.1 x.3 x.4.kept j n q;
  }

-- ---- a tuple's rows

-- a row of the edge at the place, where the edge passes the test
abbrev pub is_hit : (EdgeShape → Bool) → Option EdgeShape → Pairs → Pairs → Bool
is_hit p None t row = false
is_hit p (Some shape) t row = p shape && tuple_eq (project shape.target t) row

-- one that projects on the row
abbrev pub is_hit_below : (EdgeShape → Bool) → List ℕ → Option EdgeShape → Pairs → Pairs → Bool
is_hit_below p columns None t row = false
is_hit_below p columns (Some shape) t row = p shape && tuple_eq (project columns (project shape.target t)) row

module _ (p : EdgeShape → Bool) (t : Pairs) where
  none_before : (e n : ℕ) (table : List EdgeShape) (row : Pairs) → e < n → hits e row (numbered_rows p n table t) ≡ 0
  none_before e n [] row l = refl
  none_before e n (s ∷ table) row l = go (p s) (none_before e (suc n) table row (omega arith))
    where
      not_here : is_row_at e row (n, project s.target t, 0) ≡ false
      not_here = no (n == e) refl
        where
          no : (b : Bool) → (n == e) ≡ b → (b && tuple_eq (project s.target t) row) ≡ false
          no true q = absurd (let z : n ≡ e = eqb-true n e q in omega arith)
          no false q = refl

      go : (b : Bool) → hits e row (numbered_rows p (suc n) table t) ≡ 0
          → hits e row (cond b ((n, project s.target t) ∷ numbered_rows p (suc n) table t) (numbered_rows p (suc n) table t)) ≡ 0
      go true ih = let z : ◌≡◌ {A = ℕ} (cond (is_row_at e row (n, project s.target t, 0)) 1 0) 0 = ap (λ b. cond b 1 0) not_here in omega arith
      go false ih = ih

  pub hits_at : (k n : ℕ) (table : List EdgeShape) (row : Pairs) → hits (n + k) row (numbered_rows p n table t) ≡ cond (is_hit p (slice_get table k) t row) 1 0
  hits_at k n [] row = refl
  hits_at zero n (s ∷ table) row = go (p s) (none_before (n + 0) (suc n) table row (omega arith))
    where
      here : is_row_at (n + 0) row (n, project s.target t, 0) ≡ tuple_eq (project s.target t) row
      here = let z : n ≡ n + 0 = omega arith in ap (λ b. b && tuple_eq (project s.target t) row) (eq-eqb n (n + 0) z)

      go : (b : Bool) → hits (n + 0) row (numbered_rows p (suc n) table t) ≡ 0
          → hits (n + 0) row (cond b ((n, project s.target t) ∷ numbered_rows p (suc n) table t) (numbered_rows p (suc n) table t)) ≡ cond (b && tuple_eq (project s.target t) row) 1 0
      go true z = let y : ◌≡◌ {A = ℕ} (cond (is_row_at (n + 0) row (n, project s.target t, 0)) 1 0) (cond (tuple_eq (project s.target t) row) 1 0) = ap (λ b. cond b 1 0) here in omega arith
      go false z = z
  hits_at (suc k) n (s ∷ table) row = go (p s) (hits_at k (suc n) table row)
    where
      not_here : is_row_at (n + suc k) row (n, project s.target t, 0) ≡ false
      not_here = no (n == n + suc k) refl
        where
          no : (b : Bool) → (n == n + suc k) ≡ b → (b && tuple_eq (project s.target t) row) ≡ false
          no true q = absurd (let z : n ≡ n + suc k = eqb-true n (n + suc k) q in omega arith)
          no false q = refl

      go : (b : Bool) → hits (suc n + k) row (numbered_rows p (suc n) table t) ≡ cond (is_hit p (slice_get table k) t row) 1 0
          → hits (n + suc k) row (cond b ((n, project s.target t) ∷ numbered_rows p (suc n) table t) (numbered_rows p (suc n) table t)) ≡ cond (is_hit p (slice_get table k) t row) 1 0
      go true ih =
          let z : ◌≡◌ {A = ℕ} (cond (is_row_at (n + suc k) row (n, project s.target t, 0)) 1 0) 0 = ap (λ b. cond b 1 0) not_here in
          let w : suc n + k ≡ n + suc k = omega arith in
          let y : hits (n + suc k) row (numbered_rows p (suc n) table t) ≡ cond (is_hit p (slice_get table k) t row) 1 0 = subst (λ m. hits m row (numbered_rows p (suc n) table t) ≡ cond (is_hit p (slice_get table k) t row) 1 0) w ih in omega arith
      go false ih = let w : suc n + k ≡ n + suc k = omega arith in subst (λ m. hits m row (numbered_rows p (suc n) table t) ≡ cond (is_hit p (slice_get table k) t row) 1 0) w ih

  module _ (i : Implied) (row : Pairs) where
    none_under_before : (n : ℕ) (table : List EdgeShape) → i.lower < n → unders i row (numbered_rows p n table t) ≡ 0
    none_under_before n [] l = refl
    none_under_before n (s ∷ table) l = go (p s) (none_under_before (suc n) table (omega arith))
      where
        not_here : is_under i row n (project s.target t) ≡ false
        not_here = no (n == i.lower) refl
          where
            no : (b : Bool) → (n == i.lower) ≡ b → (b && tuple_eq (project i.columns (project s.target t)) row) ≡ false
            no true q = absurd (let z : n ≡ i.lower = eqb-true n i.lower q in omega arith)
            no false q = refl

        go : (b : Bool) → unders i row (numbered_rows p (suc n) table t) ≡ 0
            → unders i row (cond b ((n, project s.target t) ∷ numbered_rows p (suc n) table t) (numbered_rows p (suc n) table t)) ≡ 0
        go true ih = let z : ◌≡◌ {A = ℕ} (cond (is_under i row n (project s.target t)) 1 0) 0 = ap (λ b. cond b 1 0) not_here in omega arith
        go false ih = ih

    pub unders_at : (k n : ℕ) (table : List EdgeShape) → n + k ≡ i.lower → unders i row (numbered_rows p n table t) ≡ cond (is_hit_below p i.columns (slice_get table k) t row) 1 0
    unders_at k n [] q = refl
    unders_at zero n (s ∷ table) q = go (p s) (none_under_before (suc n) table (omega arith))
      where
        here : is_under i row n (project s.target t) ≡ tuple_eq (project i.columns (project s.target t)) row
        here = let z : n ≡ i.lower = omega (arith, q) in ap (λ b. b && tuple_eq (project i.columns (project s.target t)) row) (eq-eqb n i.lower z)

        go : (b : Bool) → unders i row (numbered_rows p (suc n) table t) ≡ 0
            → unders i row (cond b ((n, project s.target t) ∷ numbered_rows p (suc n) table t) (numbered_rows p (suc n) table t)) ≡ cond (b && tuple_eq (project i.columns (project s.target t)) row) 1 0
        go true z = let y : ◌≡◌ {A = ℕ} (cond (is_under i row n (project s.target t)) 1 0) (cond (tuple_eq (project i.columns (project s.target t)) row) 1 0) = ap (λ b. cond b 1 0) here in omega arith
        go false z = z
    unders_at (suc k) n (s ∷ table) q = go (p s) (unders_at k (suc n) table (omega (arith, q)))
      where
        not_here : is_under i row n (project s.target t) ≡ false
        not_here = no (n == i.lower) refl
          where
            no : (b : Bool) → (n == i.lower) ≡ b → (b && tuple_eq (project i.columns (project s.target t)) row) ≡ false
            no true r = absurd (let z : n ≡ i.lower = eqb-true n i.lower r in omega (arith, q))
            no false r = refl

        go : (b : Bool) → unders i row (numbered_rows p (suc n) table t) ≡ cond (is_hit_below p i.columns (slice_get table k) t row) 1 0
            → unders i row (cond b ((n, project s.target t) ∷ numbered_rows p (suc n) table t) (numbered_rows p (suc n) table t)) ≡ cond (is_hit_below p i.columns (slice_get table k) t row) 1 0
        go true ih = let z : ◌≡◌ {A = ℕ} (cond (is_under i row n (project s.target t)) 1 0) 0 = ap (λ b. cond b 1 0) not_here in omega arith
        go false ih = ih

-- how often a row is among those of a table from its first edge on
pub hits_in : (p : EdgeShape → Bool) (t : Pairs) (e : ℕ) (table : List EdgeShape) (row : Pairs) → hits e row (numbered_rows p 0 table t) ≡ cond (is_hit p (slice_get table e) t row) 1 0
hits_in p t e table row = let z : 0 + e ≡ e = omega arith in subst (λ m. hits m row (numbered_rows p 0 table t) ≡ cond (is_hit p (slice_get table e) t row) 1 0) z (hits_at p t e 0 table row)

-- a tuple's rows of the edges of a class are those that are kept, with those that they imply
module _ (table : List EdgeShape) (good : IsTable table) (class : ℕ) (t : Pairs) where
  pub class_rows_whole : IsWhole (implied_in table) (kept_class_rows table class t) (class_rows table class t)
  class_rows_whole = record {
    upper = λ i m row.
        let x = lower_edge table good i m in
        let up : hits i.upper row (class_rows table class t) ≡ cond (is_of_class class x.0 && tuple_eq (project x.0.target t) row) 1 0 =
        hits_in (is_of_class class) t i.upper table row ∙ ap (λ o. cond (is_hit (is_of_class class) o t row) 1 0) x.2 in
        let zero_first : 0 + i.lower ≡ i.lower = omega arith in
        let low : unders i row (kept_class_rows table class t) ≡ cond (is_kept_of_class class x.1 && tuple_eq (project i.columns (project x.1.target t)) row) 1 0 =
        unders_at (is_kept_of_class class) t i row i.lower 0 table zero_first ∙ ap (λ o. cond (is_hit_below (is_kept_of_class class) i.columns o t row) 1 0) x.3 in
        let within : Within i.columns x.1.target = subst (λ c. Within c x.1.target) (x.4.source ∙ sym x.5) (good.parted i.lower x.1 x.3).source_within in
        let row_is : project i.columns (project x.1.target t) ≡ project x.0.target t = project-project i.columns x.1.target t within ∙ ap (λ c. project c t) x.5 in
        up ∙ sym (low ∙ (λ j. cond ((x.4.class j == class && is_kept (x.4.kept j)) && tuple_eq (row_is j) row) 1 0) ∙ and_true (x.0.class == class) (tuple_eq (project x.0.target t) row));
    other = λ e out row. all_kept e out row (slice_get table e) refl;
  }
    where
      and_true : (a b : Bool) → ◌≡◌ {A = ℕ} (cond ((a && true) && b) 1 0) (cond (a && b) 1 0)
      and_true true b = refl
      and_true false b = refl

      all_kept : (e : ℕ) → ((i : Implied) → In i (implied_in table) → e ≡ i.upper → ⊥) → (row : Pairs) (o : Option EdgeShape) → slice_get table e ≡ o
          → hits e row (class_rows table class t) ≡ hits e row (kept_class_rows table class t)
      all_kept e out row o at =
          hits_in (is_of_class class) t e table row ∙ ap (λ o. cond (is_hit (is_of_class class) o t row) 1 0) at ∙ go o at
          ∙ sym (hits_in (is_kept_of_class class) t e table row ∙ ap (λ o. cond (is_hit (is_kept_of_class class) o t row) 1 0) at)
        where
          go : (o : Option EdgeShape) → slice_get table e ≡ o → ◌≡◌ {A = ℕ} (cond (is_hit (is_of_class class) o t row) 1 0) (cond (is_hit (is_kept_of_class class) o t row) 1 0)
          go None at = refl
          go (Some s) at = by s.lower refl
            where
              by : (l : Option ℕ) → s.lower ≡ l → ◌≡◌ {A = ℕ} (cond ((s.class == class) && tuple_eq (project s.target t) row) 1 0) (cond ((s.class == class && is_kept s.lower) && tuple_eq (project s.target t) row) 1 0)
              by None q = sym (ap (λ o. cond ((s.class == class && is_kept o) && tuple_eq (project s.target t) row) 1 0) q ∙ and_true (s.class == class) (tuple_eq (project s.target t) row))
              by (Some l) q = absurd (out (record { upper = e; lower = l; columns = s.target }) (implied_edge table e l s at q) refl)
