-- Where the passes have made the rounds of a workload, their history is a run of it.
use Rattle.std.proofs.Common.{◌≡◌, ℕ, zero, suc, ◌+◌, ◌-◌, ◌<◌, ◌≤◌, ◌==◌, cond, List, Some, [], ◌∷◌, map, length, filter, take, drop, sym, refl, ap, ◌∙◌, subst, inl, inr, arith}
use Rattle.rc_runner.specs.Imports.{AllByRecursion, slice_get, In, append_in_left, append_in_right, Spec, Entry, Placed, own, own_placed, placed, placed_from, placed_own, Turn, Work, HasThreads, thread_turns, turns_of, MakesRound, MakesRounds, Runs}
use Rattle.std.proofs.lemmas.Bool.{eq-eqb, ne_eqb, cases_lt}
use Rattle.std.proofs.lemmas.List.{take-append-drop}
use Rattle.rc_runner.specs.Rounds.{entries_of, Stand, MadeBy, HasMade, EachHasMade, HaveMade, IsClosed}
use Rattle.rc_runner.specs.PlacedLaws.{cut_own}

-- ---- threads that make no turns

own_none : (n k : ℕ) (history : List Entry) → n ≤ k → ((e : Entry) → In e history → e.pass < n) → own history k ≡ []
own_none n k [] l h = refl
own_none n k (e ∷ history) l h =
    let b = h e (inl refl) in
    ap (λ v. cond v (e ∷ own history k) (own history k)) (ne_eqb e.pass k (λ q. omega arith)) ∙ own_none n k history l (λ x m. h x (inr m))

abbrev AreBelow : ℕ → List Turn → Type 0
AreBelow n round = AllByRecursion (λ t. t.thread < n) round

turns_none : (n k : ℕ) (round : List Turn) → n ≤ k → AreBelow n round → thread_turns k round ≡ []
turns_none n k [] l h = refl
turns_none n k (t ∷ round) l h =
    let b = h.0 in
    ap (λ v. map (λ (x : Turn). x.calls) (cond v (t ∷ filter (λ (x : Turn). x.thread == k) round) (filter (λ (x : Turn). x.thread == k) round))) (ne_eqb t.thread k (λ q. omega arith))
    ∙ turns_none n k round l h.1

-- ---- the history is cut at the marks

in_taken : (d : ℕ) (history : List Entry) (e : Entry) → In e (take d history) → In e history
in_taken d history e m = subst (λ (l : List Entry). In e l) (take-append-drop d history) (append_in_left e (take d history) (drop d history) m)

in_dropped : (d : ℕ) (history : List Entry) (e : Entry) → In e (drop d history) → In e history
in_dropped d history e m = subst (λ (l : List Entry). In e l) (take-append-drop d history) (append_in_right e (take d history) (drop d history) m)

nothing_own : (i : ℕ) (e : Entry) (history : List Entry) → placed_from i (e ∷ history) e.pass ≡ [] → ⊥
nothing_own i e history h =
    none_here (placed i e) (placed_from (i + 1) history e.pass)
    (ap (λ b. cond b (placed i e ∷ placed_from (i + 1) history e.pass) (placed_from (i + 1) history e.pass)) (sym (eq-eqb e.pass e.pass refl)) ∙ h)
  where
    none_here : (x : Placed) (xs : List Placed) → x ∷ xs ≡ [] → ⊥
    none_here x xs q = absurd cc

-- What the passes below n keep of the entries from the place i on was made in these rounds.
abbrev AreMadeBelow : ℕ → ℕ → List (List Turn) → List ℕ → List Entry → Type 0
AreMadeBelow n i rounds marks history = (k : ℕ) → k < n → MadeBy k rounds marks (placed_from i history k)

rounds_made : (n i : ℕ) (rounds : List (List Turn)) (marks : List ℕ) (history : List Entry) → 1 ≤ n → AllByRecursion (AreBelow n) rounds
    → ((e : Entry) → In e history → e.pass < n) → AreMadeBelow n i rounds marks history → MakesRounds rounds history
rounds_made n i [] [] [] some turns passes made = refl
rounds_made n i [] [] (e ∷ history) some turns passes made = absurd (nothing_own i e history (made e.pass (passes e (inl refl))))
rounds_made n i [] (c ∷ marks) history some turns passes made = absurd (made 0 some)
rounds_made n i (round ∷ rounds) [] history some turns passes made = absurd (made 0 some)
rounds_made n i (round ∷ rounds) (c ∷ marks) history some turns passes made = (
  take (c - i) history,
  drop (c - i) history,
  sym (take-append-drop (c - i) history),
  here,
  rounds_made n (i + (c - i)) rounds marks (drop (c - i) history) some turns.1 (λ e m. passes e (in_dropped (c - i) history e m)) later,
)
  where
    parts : (k : ℕ) → k < n
        → (turns_of (own (take (c - i) history) k) ≡ thread_turns k round) × MadeBy k rounds marks (placed_from (i + (c - i)) (drop (c - i) history) k)
    parts k l =
        let w = made k l in
        let cut = cut_own i c history k w.0 w.1 w.2 w.4 w.5 in (
          ap turns_of (sym (placed_own i (take (c - i) history) k)) ∙ ap (λ (xs : List Placed). turns_of (entries_of xs)) (sym cut.0) ∙ w.3,
          subst (MadeBy k rounds marks) cut.1 w.6,
        )

    here : MakesRound round (take (c - i) history)
    here k = elim (cases_lt k n) [
      | inl l ↦ (parts k l).0
      | inr l ↦ ap turns_of (own_none n k (take (c - i) history) l (λ e m. passes e (in_taken (c - i) history e m))) ∙ sym (turns_none n k round l turns.0)
    ]

    later : AreMadeBelow n (i + (c - i)) rounds marks (drop (c - i) history)
    later k l = (parts k l).1

-- ---- the end

-- what the pass of a number shows, and that it has made the rounds
made_at : (rounds : List (List Turn)) (marks : List ℕ) (thread : ℕ) (stands : List Stand) (k : ℕ) → EachHasMade rounds marks thread stands → k < length stands
    → (s : Stand) × (slice_get stands k ≡ Some s) × HasMade rounds marks (thread + k) s
made_at rounds marks thread [] k h l = absurd (omega (arith, l))
made_at rounds marks thread (s ∷ stands) zero h l =
    let z : thread ≡ thread + 0 = omega arith in (s, refl, subst (λ t. HasMade rounds marks t s) z h.0)
made_at rounds marks thread (s ∷ stands) (suc k) h l =
    let z : suc thread + k ≡ thread + suc k = omega arith in
    let w = made_at rounds marks (suc thread) stands k h.1 (omega (arith, l)) in
    (w.0, w.1, subst (λ t. HasMade rounds marks t w.0) z w.2)

-- A legal and numbered history, whose entries with places are those of passes that have made the rounds of a workload,
-- one pass for each of its threads, is a run of it.
abbrev pub RoundsRun : Type 0
RoundsRun = (spec : Spec) (work : Work) (history : List Entry) (stands : List Stand)
    → 1 ≤ work.threads → HasThreads work → length stands ≡ work.threads
    → HaveMade work.rounds stands → IsClosed spec stands history
    → Runs spec work history

module _ (spec : Spec) (history : List Entry) (stands : List Stand) (closed : IsClosed spec stands history) where
  made_of : (rounds : List (List Turn)) (marks : List ℕ) → EachHasMade rounds marks 0 stands → (k : ℕ) → k < length stands
      → MadeBy k rounds marks (own_placed history k)
  made_of rounds marks h k l =
      let w = made_at rounds marks 0 stands k h l in
      let z : 0 + k ≡ k = omega arith in
      subst (MadeBy k rounds marks) (closed.own k w.0 w.1) (subst (λ t. MadeBy t rounds marks w.0.own) z w.2.made)

pub rounds_run : RoundsRun
rounds_run spec work history stands some turns count made closed =
    let passes : (e : Entry) → In e history → e.pass < work.threads = (λ e m. subst (λ n. e.pass < n) count (closed.passes e m)) in
    record {
      legal = closed.legal;
      numbered = closed.numbered;
      threads = passes;
      rounds = rounds_made work.threads 0 work.rounds made.0 history some turns passes
          (λ k l. made_of spec history stands closed work.rounds made.0 made.1 k (subst (λ n. k < n) (sym count) l));
    }
