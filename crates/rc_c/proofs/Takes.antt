-- A result, and a struct of two fields, are taken apart in a walk.
use Rattle.std.proofs.Common.{◌≡◌, List, [], ◌∷◌, ◌++◌, Result, Ok, Err, refl}
use mathlib.Core.Path.{subst⁻¹}
use seplogic.Ra.Ura.{Ura}
use lib.Dec.{T}
use mir.Syntax.{Ty}
use mir.Val.{Val, WT, has_ty, of_list}
use types.Kit.{Item, Goal, Seq, ‵, ◌$◌, move, drop, fsplit, fpick, feq_l}
use types.Logic.{Logic}
use types.Match.{live}
use denote.Laws.{Typed}
use denote.RattleType.{RattleType}
use Rattle.std.specs.contracts.result.Result.{the_row}

module _ {M : Type 1} {𝓤 : Ura M} {𝓛 : Logic 𝓤} {K : Type 0} {Γ : List (Item 𝓤)} {G : Goal 𝓤 𝓛.H} (t : K) (R S : RattleType) where
  pub ok_out : (x : R.Denot) (vs : List Val) → ((xs : List Val) → vs ≡ live 0 (of_list (xs ++ [])) ∷ [] → Seq K 𝓛 (‵ (R.own_val x xs) ∷ Γ) G)
      → Seq K 𝓛 (‵ ((the_row R S).own_val (Ok x) vs) ∷ Γ) G
  ok_out x vs k = fpick t (λ us. fsplit t $ feq_l t (λ e. fpick t (λ vss. fsplit t $ feq_l t (λ e'. fsplit t $ move t (1 ∷ []) $ drop t $
      k vss.0 (subst⁻¹ (λ (ws : List Val). vs ≡ live 0 (of_list ws) ∷ [] → vs ≡ live 0 (of_list (vss.0 ++ [])) ∷ []) e' (λ p. p) e)))))

  pub err_out : (y : S.Denot) (vs : List Val) → ((ys : List Val) → vs ≡ live 1 (of_list (ys ++ [])) ∷ [] → Seq K 𝓛 (‵ (S.own_val y ys) ∷ Γ) G)
      → Seq K 𝓛 (‵ ((the_row R S).own_val (Err y) vs) ∷ Γ) G
  err_out y vs k = fpick t (λ us. fsplit t $ feq_l t (λ e. fpick t (λ vss. fsplit t $ feq_l t (λ e'. fsplit t $ move t (1 ∷ []) $ drop t $
      k vss.0 (subst⁻¹ (λ (ws : List Val). vs ≡ live 1 (of_list ws) ∷ [] → vs ≡ live 1 (of_list (vss.0 ++ [])) ∷ []) e' (λ p. p) e)))))

  -- which of both it is, with what is known of it
  pub result_out : (P : Result R.Denot S.Denot → Type 0) (m : Result R.Denot S.Denot) (vs : List Val) → P m
      → ((x : R.Denot) (xs : List Val) → P (Ok x) → vs ≡ live 0 (of_list (xs ++ [])) ∷ [] → Seq K 𝓛 (‵ (R.own_val x xs) ∷ Γ) G)
      → ((y : S.Denot) (ys : List Val) → P (Err y) → vs ≡ live 1 (of_list (ys ++ [])) ∷ [] → Seq K 𝓛 (‵ (S.own_val y ys) ∷ Γ) G)
      → Seq K 𝓛 (‵ ((the_row R S).own_val m vs) ∷ Γ) G
  result_out P (Ok x) vs p ok err = ok_out x vs (λ xs e. ok x xs p e)
  result_out P (Err y) vs p ok err = err_out y vs (λ ys e. err y ys p e)

-- values of one MIR type are one value
pub single : (τ : Ty) (vs : List Val) → Typed (τ ∷ []) vs → {Q : Type 1} → ((v : Val) → vs ≡ v ∷ [] → T (has_ty τ v) × WT v → Q) → Q
single τ [] t k = absurd t
single τ (v ∷ []) t k = k v refl t.0
single τ (v ∷ (u ∷ vs)) t k = absurd t.1
