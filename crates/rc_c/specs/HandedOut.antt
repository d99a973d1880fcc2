-- What functions hand out by a pointer.
use base.Fml.{Fml, fall, fex, fsep, ftrue}
use denote.RattleType.{RattleType}
use denote.RawPtr.{Ptr, lies_at}
use Rattle.std.specs.Prelude.{◌≡◌, ℕ, List}
use Rattle.std.specs.Borrow.{full_share}
use Rattle.rc_embed.specs.declared.open_frame.OpenFrame.{OpenFrame}
use Rattle.rc_embed.specs.Codes as codes
use Rattle.rc_embed.specs.OpenFrames.{HasOpenedWith}
use Rattle.rc_embed.specs.Opened.{OpenSeen}

-- where the code is that of what is done, a value of the type lies at the pointer, and this is so of it
abbrev pub hands_out : (T : RattleType) → ℕ → Ptr → (T.Denot → Type 0) → Fml
hands_out T code pointer IsSo = fall (code ≡ codes.done)
    (λ _. fex T.Denot (λ made. fsep (fex (IsSo made) (λ _. ftrue)) (lies_at T full_share pointer made)))

-- a value of the type lies at the pointer again, this is so of it, and so much lies beside it
abbrev pub lies_again_beside : (T : RattleType) → Ptr → (T.Denot → Type 0) → (T.Denot → Fml) → Fml
lies_again_beside T pointer IsSo beside = fex T.Denot
    (λ after. fsep (fex (IsSo after) (λ _. ftrue)) (fsep (lies_at T full_share pointer after) (beside after)))

-- a store was opened by the texts, as the frame asks, and the frame tells no refusal; and it is this one
abbrev pub HasOpenedThis : List ℕ → List ℕ → List ℕ → OpenFrame → OpenFrame → OpenSeen → Type 0
HasOpenedThis text shapes plans before after store =
    (opened : HasOpenedWith text shapes plans before after) × (opened.store ≡ store)
