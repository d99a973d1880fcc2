-- Laws of the turns of a round, shared out among its threads.
use Rattle.std.proofs.Common.{◌≡◌, ℕ, ◌+◌, ◌<◌, ◌≤◌, ◌==◌, All, Bool, true, false, List, [], ◌∷◌, ◌++◌, Vec, Global, length, set, take, get_or, Some, refl, sym, ap, subst, ◌∙◌, arith}
use Rattle.rc_runner.specs.Imports.{Bor, slice_get, Call, Turn, thread_turns, get_set_same, get_set_other, Spec}
use Rattle.std.proofs.lemmas.Bool.{eqb-true, eqb-false}
use Rattle.std.proofs.lemmas.List.{append-nil, get_or-map, length-map, map-append, map_more}
use Rattle.std.proofs.lemmas.List.Elements.{All-get_or}
use Rattle.std.proofs.lemmas.Option.{slice_get_past, slice_get_read}
use Rattle.rc_runner.specs.Shares.{AreShared, Shares, TurnFits, share_of, turns_in, turns_of_share}
use Rattle.rc_runner.specs.RoundLaws.{growth_goes_on, turn_go_on}
use Rattle.rc_runner.specs.Rounds.{HasCalled, HasGrown, Stand}

-- one more turn of a share
pub turns_in-more : (turns : List (Bor Turn)) (turn : Bor Turn) → turns_in (turns ++ turn ∷ []) ≡ turns_in turns ++ turn.now.calls ∷ []
turns_in-more turns turn = map-append (λ (t : Bor Turn). t.now.calls) turns (turn ∷ [])

-- one more turn, which its thread's share has got
pub shared_more : (round : List Turn) (i threads : ℕ) (turn : Turn) (shares : Shares) (old new : Vec (Bor Turn) Global)
    → All (λ (t : Turn). t.thread < threads) round → length shares ≡ threads → i < length round → turn ≡ get_or round i turn
    → old ≡ get_or shares turn.thread old → turns_in new.items ≡ turns_in old.items ++ turn.calls ∷ []
    → AreShared (take i round) shares → AreShared (take (i + 1) round) (set shares turn.thread new)
shared_more round i threads turn shares old new known count l is was more before thread = go (turn.thread == thread) refl
  where
    below : turn.thread < threads
    below = subst (λ (t : Turn). t.thread < threads) (sym is) (All-get_or (λ (t : Turn). t.thread < threads) round i turn l known)

    there : slice_get shares turn.thread ≡ Some old
    there = slice_get_read shares threads turn.thread old (sym count) below was

    go : (b : Bool) → (turn.thread == thread) ≡ b → share_of (set shares turn.thread new) thread ≡ thread_turns thread (take (i + 1) round)
    go true e =
        let same : turn.thread ≡ thread = eqb-true turn.thread thread e in
        ap (share_of (set shares turn.thread new)) (sym same) ∙ ap turns_of_share (get_set_same shares turn.thread new old there) ∙ more
        ∙ ap (λ o. turns_of_share o ++ turn.calls ∷ []) (sym there) ∙ ap (λ k. share_of shares k ++ turn.calls ∷ []) same
        ∙ ap (λ turns. turns ++ turn.calls ∷ []) (before thread) ∙ sym (turn_go_on thread i round turn true l is e)
    go false e =
        ap turns_of_share (get_set_other shares turn.thread thread new (λ h. eqb-false turn.thread thread e (sym h))) ∙ before thread
        ∙ sym (turn_go_on thread i round turn false l is e ∙ append-nil (thread_turns thread (take i round)))

-- ---- the turns of one thread

-- one more of them is made
pub turn_taken : (turns : List (Bor Turn)) (i : ℕ) (turn : Bor Turn) (s t u : Stand) → i < length turns → turn ≡ get_or turns i turn
    → HasGrown (turns_in (take i turns)) s t → HasCalled turn.now.calls t u → HasGrown (turns_in (take (i + 1) turns)) s u
turn_taken turns i turn s t u l is before called =
    subst (λ made. HasGrown made s u)
    (sym (map_more (λ (c : Bor Turn). c.now.calls) turns i turn l ∙ ap (λ (c : Bor Turn). turns_in (take i turns) ++ c.now.calls ∷ []) (sym is)))
    (growth_goes_on (turns_in (take i turns)) turn.now.calls s t u before called)

pub lent_fits : (spec : Spec) (turns : List (Bor Turn)) (i : ℕ) (turn : Bor Turn) → i < length turns → turn ≡ get_or turns i turn
    → All (TurnFits spec) (turns_in turns) → TurnFits spec turn.now.calls
lent_fits spec turns i turn l is fit =
    let lent : Bor Turn → List Call = λ t. t.now.calls in
    let within : i < length (turns_in turns) = (let e = length-map turns lent in omega (arith, e, l)) in
    subst (TurnFits spec) (get_or-map lent turns i turn turn.now.calls l ∙ ap lent (sym is))
    (All-get_or (TurnFits spec) (turns_in turns) i turn.now.calls within fit)

-- the turns that are found at a thread's number are its share
pub share_found : (shares : Shares) (n thread : ℕ) (share : Vec (Bor Turn) Global) (turns : List (Bor Turn))
    → turns ≡ share.items → n < length shares → share ≡ get_or shares n share → n ≡ thread → turns_in turns ≡ share_of shares thread
share_found shares n thread share turns lent l is same =
    ap turns_in lent ∙ ap turns_of_share (sym (slice_get_read shares (length shares) n share refl l is)) ∙ ap (share_of shares) same

-- and one that no share has has none
pub share_past : (shares : Shares) (n thread : ℕ) → length shares ≤ n → n ≡ thread → [] ≡ share_of shares thread
share_past shares n thread l same = ap turns_of_share (sym (slice_get_past shares n l)) ∙ ap (share_of shares) same
