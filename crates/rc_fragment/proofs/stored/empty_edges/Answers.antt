use Rattle.std.proofs.Common.{◌≡◌, zero-add, ◌<◌, ◌++◌, ◌∷◌, [], ℕ, length, sym, ap, subst, ◌∙◌, inl, inr, arith}
use Rattle.rc_fragment.proofs.Imports.{List, map, range_with_len, map-append, map-range_with_len_more, In, in_append, Spec, shape_of, parted_edge, table_of_spec, IsTable, shapes, IsParted, AreOfShape, sources_of, EdgeRows}
use Rattle.std.specs.FinMap as fin
use Rattle.rc_fragment.proofs.stored.empty_edges.Goals as goal

pub loop-number-preserved : goal.loop-number-preserved
loop-number-preserved c =
    let spec : Spec = c.args.accepted.now in
    let n : ℕ = c.loop-number.number in
    let old : List EdgeRows = c.loop-number.edges.items in
    let y : EdgeRows = c.new.result in
    let pushed : c.push.new.self.items ≡ old ++ y ∷ [] = c.in_ok-push.ensures.items in
    let s : y.shape ≡ shape_of spec n = c.new.ensures.shape ∙ c.of.ensures in
    let is : c.spec.result.now ≡ spec = c.spec.ensures.value in
    let l : n < length spec.edges = subst (λ m. n < m) (ap length (c.list.ensures ∙ ap (λ (s : Spec). s.edges) is)) c.loop-number-test.true in
    record {
      shapes = ap shapes pushed ∙ map-append (λ (z : EdgeRows). z.shape) old (y ∷ []) ∙ (λ j. c.loop-number.invariant.shapes j ++ s j ∷ [])
          ∙ sym (map-range_with_len_more (shape_of spec) 0 n n (zero-add n));
      empty = λ z m. elim (in_append z old (y ∷ []) (subst (In z) pushed m)) [
        | inl a ↦ c.loop-number.invariant.empty z a
        | inr (inl p) ↦ subst (λ (w : EdgeRows). (sources_of w ≡ fin.empty) × AreOfShape w × IsParted w.shape) (sym p)
            (c.new.ensures.empty, c.new.ensures.form, subst IsParted (sym s) (parted_edge spec c.spec.ensures.sealed n l))
        | inr (inr q) ↦ absurd q
      ];
    }

pub returns-clause-shapes : goal.returns-clause-shapes
returns-clause-shapes c =
    let spec : Spec = c.args.accepted.now in
    let all : length c.list.result.now ≡ length spec.edges = ap length (c.list.ensures ∙ ap (λ (s : Spec). s.edges) c.spec.ensures.value) in
    let end : c.loop-number.number ≡ length spec.edges = omega (arith, c.loop-number-test.false, c.loop-number.auto.number-end, all) in
    c.loop-number.invariant.shapes ∙ ap (λ n. map (shape_of spec) (range_with_len 0 n)) end

pub returns-clause-table : goal.returns-clause-table
returns-clause-table c = subst IsTable (sym (returns-clause-shapes c)) (table_of_spec c.args.accepted.now c.spec.ensures.sealed)
