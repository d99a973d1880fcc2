-- The head of an entry's line.
use Rattle.std.proofs.Common.{◌≡◌, ℕ, List, [], ◌∷◌, ◌++◌, ap, ◌∙◌}
use Rattle.rc_audit.proofs.Imports.{decimal, append_assoc}

pub head_text : (place thread : ℕ) (rest : List ℕ)
    → (((decimal place ++ 32 ∷ []) ++ decimal thread) ++ 32 ∷ []) ++ rest ≡ decimal place ++ 32 ∷ (decimal thread ++ 32 ∷ rest)
head_text place thread rest =
    append_assoc ((decimal place ++ 32 ∷ []) ++ decimal thread) (32 ∷ []) rest
    ∙ append_assoc (decimal place ++ 32 ∷ []) (decimal thread) (32 ∷ rest)
    ∙ append_assoc (decimal place) (32 ∷ []) (decimal thread ++ 32 ∷ rest)

-- part by part
pub head_is : (items e d b a z : List ℕ) (place thread t : ℕ) → items ≡ e → e ≡ d ++ 32 ∷ [] → d ≡ b ++ decimal t → t ≡ thread → b ≡ a ++ 32 ∷ []
    → a ≡ z ++ decimal place → z ≡ [] → items ≡ ((decimal place ++ 32 ∷ []) ++ decimal thread) ++ 32 ∷ []
head_is items e d b a z place thread t h1 h2 h3 h4 h5 h6 h7 =
    h1 ∙ h2 ∙ ap (λ l. l ++ 32 ∷ []) (h3 ∙ ap (λ n. b ++ decimal n) h4 ∙ ap (λ l. l ++ decimal thread) (h5 ∙ ap (λ l. l ++ 32 ∷ []) (h6 ∙ ap (λ l. l ++ decimal place) h7)))
