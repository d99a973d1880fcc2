-- One more generated number and turn.
use Rattle.std.proofs.Common.{◌≡◌, ℕ, ◌+◌, List, [], ◌∷◌, ◌++◌, sym, ap, ◌∙◌, add-one, arith}
use Rattle.std.proofs.lemmas.List.FromFn.{map-range_with_len_more}
use Rattle.rc_work.specs.declared.work.Turn.{Turn}
use Rattle.rc_work.specs.declared.work.Work.{Work}
use Rattle.rc_generate.specs.Generated.{next_number, number_at, turn_at, generated_turns, generated}

pub number_more : (seed n : ℕ) → number_at seed (n + 1) ≡ next_number (number_at seed n)
number_more seed n = ap (number_at seed) (add-one n)

pub turns_more : (seed n : ℕ) → generated_turns seed (n + 1) ≡ generated_turns seed n ++ turn_at seed n ∷ []
turns_more seed n = map-range_with_len_more (turn_at seed) 0 n n (omega arith)

-- ---- a workload that is the generated one

pub generated_from : (seed calls : ℕ) (rounds none : List (List Turn)) (round : List Turn) (ranks : List (List ℕ)) → rounds ≡ none ++ round ∷ [] → none ≡ []
    → round ≡ generated_turns seed calls → ranks ≡ [] → let w : Work = record { threads = 4; rounds = rounds; ranks = ranks } in generated seed calls ≡ w
generated_from seed calls rounds none round ranks p n r k =
    let e : generated_turns seed calls ∷ [] ≡ rounds = sym (p ∙ ap (λ (l : List (List Turn)). l ++ round ∷ []) n ∙ ap (λ (t : List Turn). t ∷ []) r) in
    let s : [] ≡ ranks = sym k in λ i. record { threads = 4; rounds = e i; ranks = s i }
