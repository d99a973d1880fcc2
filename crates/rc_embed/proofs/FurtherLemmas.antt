-- A list that begins with another one.
use Rattle.std.proofs.Common.{◌≡◌, ℕ, ◌≤◌, List, ◌++◌, length, take, drop, sym, ap, ◌∙◌}
use Rattle.std.proofs.lemmas.List.{take-append-drop, take_all}

pub begins : {X : Type 0} (at : ℕ) (items first : List X) → length first ≤ at → take at items ≡ take at first
    → (more : List X) × (items ≡ first ++ more)
begins at items first all same = (
  drop at items,
  sym (take-append-drop at items) ∙ ap (λ l. l ++ drop at items) (same ∙ take_all at first all),
)
