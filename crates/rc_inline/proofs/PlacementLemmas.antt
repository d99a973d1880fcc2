-- A contraction keeps the rules of placement and of operations.
use Rattle.std.proofs.Common.{◌≡◌, ◌==◌, ℕ, ◌<◌, ◌≤◌, Bool, true, false, if◌then◌else◌, Some, length, sym, ap, ◌∙◌, subst, refl, arith}
use Rattle.rc_inline.proofs.Imports.{eqb-true, Within, Edge, Spec, IsSealed, bound, edge_at, source_and_key, IsPlaced, KeepsO, KeepsP1, KeepsP2, KeepsP3, KeepsP5, class_at, class_of, op_at, striping, contracted, first_inlinable}
use Rattle.rc_inline.proofs.BackLemmas.{before, before_renumbered}
use Rattle.rc_inline.proofs.ContractionLemmas.{found_known}
use Rattle.rc_inline.proofs.EdgeLemmas.{from_other, led_other, source_and_key_kept, source_kept}
use Rattle.rc_inline.proofs.KeptLemmas.{class_kept, edge_kept, edge_within, places_kept}

module _ (spec : Spec) (f : ℕ) (sealed : IsSealed spec) (found : first_inlinable spec ≡ Some f) where
  abbrev after : Spec
  after = contracted spec f

  abbrev gone : Edge
  gone = edge_at spec f

  abbrev had : ℕ → Edge
  had k = edge_at spec (before f k)

  abbrev led : Edge → ℕ
  led e = if e.to == gone.from then gone.to else e.to

  striping_kept : (k : ℕ) → striping after k ≡ striping spec (before f k)
  striping_kept k = ap (λ c. (class_at spec c).cols) (class_kept spec f sealed found k)

  p1_kept : (k : ℕ) → k < length after.edges → KeepsP1 after k
  p1_kept k l = places_kept spec f sealed found k ∙ sealed.accepted.placed.p1 (before f k) (edge_within spec f sealed found k l)

  p2_kept : (k : ℕ) → k < length after.edges → KeepsP2 after k
  p2_kept k l =
      subst (λ cols. Within cols (source_and_key after (edge_at after k))) (sym (striping_kept k))
      (subst (Within (striping spec (before f k))) (sym (source_and_key_kept spec f sealed found k l))
      (sealed.accepted.placed.p2 (before f k) (edge_within spec f sealed found k l)))

  -- an edge led to where the other begins, or the one that is gone stood between them
  meets : (e g : ℕ) → e < length after.edges → g < length after.edges → (edge_at after e).to ≡ (edge_at after g).from → led (had e) ≡ (had g).from
  meets e g l m same =
      let w = gone.from in
      let to = ap (λ (x : Edge). x.to) (edge_kept spec f sealed found e l) in
      let from = ap (λ (x : Edge). x.from) (edge_kept spec f sealed found g m) in
      sym (before_renumbered w (led (had e)) (led_other spec f sealed found (had e)))
      ∙ ap (before w) (sym to ∙ same ∙ from)
      ∙ before_renumbered w (had g).from (from_other spec f sealed found g m)

  p3_kept : (g : ℕ) → g < length after.edges → KeepsP3 after g
  p3_kept g m e l same = go ((had e).to == gone.from) refl (meets e g l m same)
    where
      go : (b : Bool) → ((had e).to == gone.from) ≡ b → (if b then gone.to else (had e).to) ≡ (had g).from → class_of after e ≤ class_of after g
      go true is meet =
          let p3 = sealed.accepted.placed.p3 in
          let known = found_known spec f sealed found in
          let above = p3 f known (before f e) (edge_within spec f sealed found e l) (eqb-true (had e).to gone.from is) in
          let below = p3 (before f g) (edge_within spec f sealed found g m) f known meet in
          let first = class_kept spec f sealed found e in
          let second = class_kept spec f sealed found g in
          omega (arith, above, below, first, second)
      go false is meet =
          let p3 = sealed.accepted.placed.p3 (before f g) (edge_within spec f sealed found g m) in
          let direct = p3 (before f e) (edge_within spec f sealed found e l) meet in
          let first = class_kept spec f sealed found e in
          let second = class_kept spec f sealed found g in
          omega (arith, direct, first, second)

  p5_kept : (k : ℕ) → k < length after.edges → KeepsP5 after k
  p5_kept k l apart =
      ap (λ (e : Edge). e.kind) (edge_kept spec f sealed found k l)
      ∙ sealed.accepted.placed.p5 (before f k) (edge_within spec f sealed found k l)
      (λ inside. apart (subst (λ cols. Within cols (bound after (edge_at after k).from)) (sym (striping_kept k))
      (subst (Within (striping spec (before f k))) (sym (source_kept spec f sealed found k l)) inside)))

  pub placed_kept : IsPlaced after
  placed_kept = record {
    p1 = p1_kept;
    p2 = p2_kept;
    p3 = p3_kept;
    p4 = sealed.accepted.placed.p4;
    p5 = p5_kept;
    p6 = λ c l. let kept = sealed.accepted.placed.p6 c l in record { some = kept.some; few = kept.few };
  }

  pub ops_kept : (n : ℕ) → n < length after.ops → KeepsO after (op_at after n)
  ops_kept n l = let kept = sealed.accepted.ops n l in record { o1 = kept.o1; o2 = kept.o2; o3 = kept.o3 }
