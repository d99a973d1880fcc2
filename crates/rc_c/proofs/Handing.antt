-- What lies at a pointer is handed out; and a value is taken out of a loan that never ends.
use Rattle.std.proofs.Common.{◌≡◌, ℕ, List, [], ◌∷◌}
use base.Fml.{GName, Lft, Share, fbor, fex, flft, fobs, fsep, ftrue}
use base.Fraction.{full_share}
use base.Logic.{all_i, emp, ent}
use mir.Val.{Val}
use seplogic.Ra.Ura.{Ura}
use types.Kit.{Goal, Item, Soaks, Step, step, ‵, ◌$◌, ◌∵◌, !, qed, done, drop, fjoin, fpack, move}
use types.Logic.{Logic, sem}
use types.SemTy.{Body}
use denote.Memory.{cell_at, mem, part_of}
use denote.RattleType.{RattleType}
use denote.RawPtr.{Ptr, block_ptr, lies_at}
use denote.Steps.{nothing, opens}
use Rattle.rc_c.proofs.Imports.{lies_again, hands_out}

module _ {M : Type 1} {𝓤 : Ura M} {𝓛 : Logic 𝓤} {K : Type 0} {Γ : List (Item 𝓤)} {G : Goal 𝓤 𝓛.H} where
  -- the loan is opened, and what would close it is let go
  pub takes_out : K → Soaks G → (R : RattleType) → {κ : Lft} {q : Share} {h : R.Denot} {γ : GName} (b o : ℕ)
      → Step K 𝓛 (‵ (lies_at R full_share (block_ptr b o) h) ∷ Γ) G (‵ (fobs γ (R.coded.code h)) ∷ ‵ (fbor κ (Body (mem R) b o γ)) ∷ ‵ (flft κ q) ∷ Γ) G
  unfolding part_of
  takes_out t z R {h = h} b o = step (λ s. opens t z R {h = h} b o (λ us. fjoin t $
      fpack t (List Val) (λ us'. fsep (cell_at full_share R.mir us' b o) (R.own_val h us')) us $ move t (1 ∷ 2 ∷ 3 ∷ []) $ drop t $ drop t $ drop t $ s))

module _ {M : Type 1} {𝓤 : Ura M} (𝓛 : Logic 𝓤) (R : RattleType) (p : Ptr) (IsSo : R.Denot → Type 0) where
  pub so_again : (x : R.Denot) → IsSo x → ent 𝓤 (sem 𝓛 (lies_at R full_share p x)) (sem 𝓛 (lies_again R p IsSo))
  so_again x so =
      qed 𝓛 (‵ (lies_at R full_share p x) ∷ []) ∵ nothing ! $ fpack ! (IsSo x) (λ _. ftrue) so $ fjoin ! $
      fpack ! R.Denot (λ after. fsep (fex (IsSo after) (λ _. ftrue)) (lies_at R full_share p after)) x $ done !

module _ {M : Type 1} {𝓤 : Ura M} (𝓛 : Logic 𝓤) (R : RattleType) (p : Ptr) (k : ℕ) (IsSo : R.Denot → Type 0) where
  pub hands : (x : R.Denot) → IsSo x → ent 𝓤 (sem 𝓛 (lies_at R full_share p x)) (sem 𝓛 (hands_out R k p IsSo))
  hands x so = all_i 𝓤 (λ (is : k ≡ 0). sem 𝓛 (lies_again R p IsSo)) (λ is. so_again 𝓛 R p IsSo x so)

  -- where it isn't done, nothing has to lie there
  pub hands_none : (k ≡ 0 → ⊥) → ent 𝓤 (emp 𝓤) (sem 𝓛 (hands_out R k p IsSo))
  hands_none not = all_i 𝓤 (λ (is : k ≡ 0). sem 𝓛 (lies_again R p IsSo)) (λ is. absurd (not is))
