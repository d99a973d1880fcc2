-- The edges of a contraction have the sources and keys that they had, and targets that bind no less.
use Rattle.std.proofs.Common.{◌≡◌, ◌==◌, ℕ, ◌<◌, Bool, true, false, if◌then◌else◌, Some, length, ap, ◌∙◌, subst, refl}
use Rattle.rc_inline.proofs.Imports.{remove, eq-eqb, eqb-true, eqb-false, Within, union, union_left, In, get_or_in, Edge, Spec, IsSealed, bound, edge_at, no_edge, source_and_key, contracted, first_inlinable, others_fail}
use Rattle.rc_inline.proofs.BackLemmas.{before, get_removed}
use Rattle.rc_inline.proofs.ContractionLemmas.{apart, found_known, one_out}
use Rattle.rc_inline.proofs.KeptLemmas.{bound_kept, edge_kept, within}

module _ (spec : Spec) (f : ℕ) (sealed : IsSealed spec) (found : first_inlinable spec ≡ Some f) where
  abbrev after : Spec
  after = contracted spec f

  abbrev gone : Edge
  gone = edge_at spec f

  -- the edge that had the number
  abbrev had : ℕ → Edge
  had k = edge_at spec (before f k)

  -- where an edge leads when the other is gone, by the numbers of before
  abbrev led : Edge → ℕ
  led e = if e.to == gone.from then gone.to else e.to

  pub stays : (k : ℕ) → k < length after.edges → In (had k) (remove spec.edges f)
  stays k l =
      subst (λ e. In e (remove spec.edges f)) (get_removed spec.edges f k no_edge (found_known spec f sealed found))
      (get_or_in (remove spec.edges f) k no_edge (within spec f sealed found k l))

  pub from_other : (k : ℕ) → k < length after.edges → (had k).from ≡ gone.from → ⊥
  from_other k l =
      eqb-false (had k).from gone.from
      (others_fail (λ (e : Edge). e.from == gone.from) spec.edges f no_edge (found_known spec f sealed found)
      (eq-eqb gone.from gone.from refl) (one_out spec f sealed found) (had k) (stays k l))

  pub led_other : (e : Edge) → led e ≡ gone.from → ⊥
  led_other e = go (e.to == gone.from) refl
    where
      go : (b : Bool) → (e.to == gone.from) ≡ b → (if b then gone.to else e.to) ≡ gone.from → ⊥
      go true is = apart spec f sealed found
      go false is = eqb-false e.to gone.from is

  pub source_kept : (k : ℕ) → k < length after.edges → bound after (edge_at after k).from ≡ bound spec (had k).from
  source_kept k l =
      ap (λ (e : Edge). bound after e.from) (edge_kept spec f sealed found k l) ∙ bound_kept spec f sealed found (had k).from (from_other k l)

  pub target_kept : (k : ℕ) → k < length after.edges → bound after (edge_at after k).to ≡ bound spec (led (had k))
  target_kept k l =
      ap (λ (e : Edge). bound after e.to) (edge_kept spec f sealed found k l) ∙ bound_kept spec f sealed found (led (had k)) (led_other (had k))

  pub key_kept : (k : ℕ) → k < length after.edges → (edge_at after k).key ≡ (had k).key
  key_kept k l = ap (λ (e : Edge). e.key) (edge_kept spec f sealed found k l)

  pub source_and_key_kept : (k : ℕ) → k < length after.edges → source_and_key after (edge_at after k) ≡ source_and_key spec (had k)
  source_and_key_kept k l = λ i. union (source_kept k l i) (key_kept k l i)

  -- the target of the edge that is gone binds what its source bound
  pub gone_wider : Within (bound spec gone.from) (bound spec gone.to)
  gone_wider c m = (sealed.accepted.adequate.a3 f (found_known spec f sealed found)).inside c (union_left (bound spec gone.from) gone.key c m)

  pub led_wider : (e : Edge) → Within (bound spec e.to) (bound spec (led e))
  led_wider e = go (e.to == gone.from) refl
    where
      go : (b : Bool) → (e.to == gone.from) ≡ b → Within (bound spec e.to) (bound spec (if b then gone.to else e.to))
      go true is = λ c m. gone_wider c (subst (λ v. In c (bound spec v)) (eqb-true e.to gone.from is) m)
      go false is = λ c m. m
