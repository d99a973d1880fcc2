-- A contraction of an accepted specification is accepted.
use Rattle.std.proofs.Common.{◌≡◌, ℕ, Some}
use Rattle.rc_inline.proofs.Imports.{Spec, IsSealed, contracted, first_inlinable}
use Rattle.rc_inline.proofs.AdequacyLemmas.{adequate_kept}
use Rattle.rc_inline.proofs.ContractionLemmas.{contracted_in_range, contracted_populated}
use Rattle.rc_inline.proofs.PlacementLemmas.{ops_kept, placed_kept}

pub contracted_sealed : (spec : Spec) (f : ℕ) → IsSealed spec → first_inlinable spec ≡ Some f → IsSealed (contracted spec f)
contracted_sealed spec f sealed found = record {
  in_range = contracted_in_range spec f sealed found;
  populated = contracted_populated spec f sealed found;
  accepted = record { adequate = adequate_kept spec f sealed found; placed = placed_kept spec f sealed found; ops = ops_kept spec f sealed found };
}
