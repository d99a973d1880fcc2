-- Laws of callers that make rounds.
use Rattle.std.proofs.Common.{◌≡◌, ℕ, ◌+◌, ◌<◌, List, [], ◌∷◌, ◌++◌, All, map, length, take, get_or, sym, ap, ◌∙◌, subst}
use Rattle.rc_runner.specs.Imports.{OnOk, Result, Ok, Err, range_with_len, Turn, Call}
use Rattle.std.proofs.lemmas.List.{take_more}
use Rattle.std.proofs.lemmas.List.Elements.{All-map}
use Rattle.rc_runner.specs.Rounds.{HasGrown, HaveLearnt, HaveMade, MadeRound, MadeTurns, Stand}
use Rattle.rc_runner.specs.TellingLaws.{same_length}
use Rattle.rc_runner.specs.RoundLaws.{a_round_goes_on, numbered_grow, rounds_start, zip_both}

module _ {A : Type 0} (number : A → ℕ) (stand : A → Stand) (turns : ℕ → List (List Call)) where
  -- callers of two parts, where each part has made its turns
  pub both_made : {E : Type 0} (r : Result Unit E) (all olds olds2 news news2 : List A) → all ≡ olds ++ olds2
      → OnOk r (MadeTurns number stand turns olds news × MadeTurns number stand turns olds2 news2) → OnOk r (MadeTurns number stand turns all (news ++ news2))
  both_made (Ok x) all olds olds2 news news2 parts h =
      subst (λ (l : List A). MadeTurns number stand turns l (news ++ news2)) (sym parts)
      (zip_both (λ a b. HasGrown (turns (number a)) (stand a) (stand b)) olds news olds2 news2 h.0 h.1)
  both_made (Err e) all olds olds2 news news2 parts h = tt

module _ {A : Type 0} (number : A → ℕ) (stand : A → Stand) (first : List A) (numbers : map number first ≡ range_with_len 0 (length first)) where
  -- a round more, which the callers make and after which they learn what all have seen
  pub round_taken : (rounds : List (List Turn)) (i : ℕ) (round : List Turn) (xs ys zs : List A) → i < length rounds → round ≡ get_or rounds i round
      → map number xs ≡ map number first → HaveMade (take i rounds) (map stand xs) → MadeRound number stand round xs ys → HaveLearnt (map stand ys) (map stand zs)
      → HaveMade (take (i + 1) rounds) (map stand zs)
  round_taken rounds i round xs ys zs l is same before made learnt =
      subst (λ rs. HaveMade rs (map stand zs)) (sym (take_more rounds i round l ∙ ap (λ r. take i rounds ++ r ∷ []) (sym is)))
      (a_round_goes_on (take i rounds) round (map stand xs) (map stand ys) (map stand zs) before
      (numbered_grow number stand round 0 xs ys (same ∙ numbers ∙ ap (range_with_len 0) (sym (same_length number xs first same))) made) learnt)

  -- callers with no entries have made no rounds
  pub none_made : All (λ (a : A). (stand a).own ≡ []) first → HaveMade [] (map stand first)
  none_made none = rounds_start (map stand first) (All-map (λ (s : Stand). s.own ≡ []) stand first none)
