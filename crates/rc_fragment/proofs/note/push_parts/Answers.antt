use Rattle.std.proofs.Common.{◌≡◌, ◌+◌, ◌≤◌, ◌++◌, take, vec_len, vec_capacity, ℕ, true, List, [], ◌∷◌, ◌∙◌, get_or, sym, ap, subst, arith, Global, Vec}
use Rattle.rc_fragment.proofs.Imports.{suc, insert, take-suc, length-drop, has, Pairs}
use Rattle.rc_fragment.proofs.PartLemmas.{AreParted, parted_as, parted_extra, parted_key, parted_none, parted_source}
use Rattle.rc_fragment.proofs.note.push_parts.Goals.{then-has, else-has+then-has-2, else-has+else-has-2+then-has-3, else-has+else-has-2+else-has-3}
use Rattle.rc_fragment.proofs.note.push_parts.Goals as goal

pub loop-pair-preserved : goal.loop-pair-preserved
loop-pair-preserved c =
    let shape = c.args.shape.now in
    let parted = c.requires.parted in
    let old : List ℕ = c.args.values.now.items in
    let row : Pairs = c.args.row.now in
    let i : ℕ = c.loop-pair.pair-index in
    let t : Pairs = take i row in
    let p : ℕ × ℕ = get_or row i (0, 0) in
    let was : List ℕ = c.loop-pair.values.items in
    let k : ℕ = c.loop-pair.key_start in
    let x : ℕ = c.loop-pair.extra_start in
    let are : AreParted shape old t was k x = c.loop-pair.invariant.parted in
    let one : i + 1 ≡ suc i = omega arith in
    let next : take (i + 1) row ≡ t ++ p ∷ [] = ap (λ n. take n row) one ∙ take-suc row i (0, 0) c.loop-pair-test.true in
    let items : Vec ℕ Global → List ℕ = λ v. v.items in
    let now : AreParted shape old (t ++ p ∷ []) c.if-has.values.items c.if-has.key_start c.if-has.extra_start =
    elim c.if-has.branch [
      | then-has w ↦
          let h : has shape.source p.0 ≡ true = sym c.has.ensures.found ∙ w.if-has.true in
          parted_as shape old (t ++ p ∷ []) (insert was k p.1) c.if-has.values.items (k + 1) (x + 1) c.if-has.key_start c.if-has.extra_start
          (parted_source shape parted old t p was k x are h) (ap items w.values-is ∙ w.put_value.ensures.items) w.key_start-is w.extra_start-is
      | else-has+then-has-2 w ↦
          let n = sym c.has.ensures.found ∙ w.if-has.false in
          let h = sym w.has-else-has.ensures.found ∙ w.if-has-2.true in
          parted_as shape old (t ++ p ∷ []) (insert was x p.1) c.if-has.values.items k (x + 1) c.if-has.key_start c.if-has.extra_start
          (parted_key shape parted old t p was k x are n h) (ap items w.values-is ∙ w.put_value-then-has-2.ensures.items) w.key_start-is w.extra_start-is
      | else-has+else-has-2+then-has-3 w ↦
          let n = sym c.has.ensures.found ∙ w.if-has.false in
          let m = sym w.has-else-has.ensures.found ∙ w.if-has-2.false in
          let h = ap (λ cols. has cols p.0) (sym c.loop-pair.invariant.extra) ∙ sym w.has-else-has-2.ensures.found ∙ w.if-has-3.true in
          parted_as shape old (t ++ p ∷ []) (was ++ p.1 ∷ []) c.if-has.values.items k x c.if-has.key_start c.if-has.extra_start
          (parted_extra shape parted old t p was k x are n m h) (ap items w.values-is ∙ w.push_reserved.ensures.items) w.key_start-is w.extra_start-is
      | else-has+else-has-2+else-has-3 w ↦
          let n = sym c.has.ensures.found ∙ w.if-has.false in
          let m = sym w.has-else-has.ensures.found ∙ w.if-has-2.false in
          let h = ap (λ cols. has cols p.0) (sym c.loop-pair.invariant.extra) ∙ sym w.has-else-has-2.ensures.found ∙ w.if-has-3.false in
          parted_as shape old (t ++ p ∷ []) was c.if-has.values.items k x c.if-has.key_start c.if-has.extra_start
          (parted_none shape parted old t p was k x are n m h) (ap items w.values-is) w.key_start-is w.extra_start-is
    ] in
    let room : (vec_len c.if-has.values ≤ vec_len c.loop-pair.values + 1) × (vec_capacity c.if-has.values ≡ vec_capacity c.loop-pair.values) =
    elim c.if-has.branch [
      | then-has w ↦ (omega (arith, ap vec_len w.values-is, w.put_value.ensures.len), ap vec_capacity w.values-is ∙ w.put_value.ensures.capacity)
      | else-has+then-has-2 w ↦ (omega (arith, ap vec_len w.values-is, w.put_value-then-has-2.ensures.len), ap vec_capacity w.values-is ∙ w.put_value-then-has-2.ensures.capacity)
      | else-has+else-has-2+then-has-3 w ↦ (omega (arith, ap vec_len w.values-is, w.push_reserved.ensures.len), ap vec_capacity w.values-is ∙ w.push_reserved.ensures.capacity)
      | else-has+else-has-2+else-has-3 w ↦ (omega (arith, ap vec_len w.values-is), ap vec_capacity w.values-is)
    ] in
    record {
      extra = c.loop-pair.invariant.extra;
      parted = subst (λ z. AreParted shape old z c.if-has.values.items c.if-has.key_start c.if-has.extra_start) (sym next) now;
      len = omega (arith, c.loop-pair.invariant.len, room.0, length-drop i row, length-drop (i + 1) row, c.loop-pair-test.true);
      capacity = room.1 ∙ c.loop-pair.invariant.capacity;
    }
