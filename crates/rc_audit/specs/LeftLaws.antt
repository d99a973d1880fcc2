-- What an entry more leaves of a round, and that what is left can be made.
use Rattle.std.proofs.Common.{◌≡◌, ◌≢◌, ℕ, zero, suc, ◌<◌, ◌≤◌, cond, List, [], ◌∷◌, ◌++◌, map, refl, sym, ap, ◌∙◌, inl, inr, subst, arith}
use Rattle.std.specs.Prelude.{◌==◌, filter}
use Rattle.rc_audit.specs.Imports.{AllByRecursion, Spec, Call, Step, Entry, IsLegal, IsNumbered, own, Turn, GoesOn, HasTurnsBelow, both_more, made_in_order, rounds_go_on, below_append, thread_turns-append, MakesRounds, thread_turns, turns_of}
use Rattle.std.proofs.lemmas.Bool.{cases_eq, cases_lt, eq-eqb, ne_eqb}
use Rattle.std.proofs.lemmas.List.{append-nil}
use Rattle.rc_audit.specs.Left.{AreNoneFrom, IsMade, MakesRest, NoneLeft}

-- ---- the turn of an entry

-- the calls of its steps
abbrev pub turn_of : Entry → List Call
turn_of e = map (λ (s : Step). s.call) e.steps

-- the turns of a thread, where its entry comes first
mine_first : (e : Entry) (entries : List Entry) (thread : ℕ) → e.pass ≡ thread
    → turns_of (own (e ∷ entries) thread) ≡ turn_of e ∷ turns_of (own entries thread)
mine_first e entries thread mine =
    ap (λ b. turns_of (cond b (e ∷ own entries thread) (own entries thread))) (eq-eqb e.pass thread mine)

-- and where another thread's does
other_first : (e : Entry) (entries : List Entry) (thread : ℕ) → e.pass ≢ thread → turns_of (own (e ∷ entries) thread) ≡ turns_of (own entries thread)
other_first e entries thread apart = ap (λ b. turns_of (cond b (e ∷ own entries thread) (own entries thread))) (ne_eqb e.pass thread apart)

same_later : (c d : List Call) (cs ds : List (List Call)) → c ∷ cs ≡ d ∷ ds → cs ≡ ds
same_later c d cs ds e = cc

pub not_none : (c : List Call) (cs : List (List Call)) → c ∷ cs ≡ [] → ⊥
not_none c cs e = absurd cc

-- ---- where nothing is left

none_left : (left : ℕ → List (List Call)) (rounds : List (List Turn)) (entries front back : List Entry) → NoneLeft left
    → entries ≡ front ++ back → ((thread : ℕ) → turns_of (own front thread) ≡ left thread) → MakesRounds rounds back → MakesRounds rounds entries
none_left left rounds entries [] back none e here later = subst (MakesRounds rounds) (sym e) later
none_left left rounds entries (x ∷ front) back none e here later =
    absurd (not_none (turn_of x) (turns_of (own front x.pass)) (sym (mine_first x front x.pass refl) ∙ here x.pass ∙ none x.pass))

-- where nothing is left of the round, the entries make the rounds after it
pub rest_none_left : (left : ℕ → List (List Call)) (rounds : List (List Turn)) (entries : List Entry) → NoneLeft left
    → MakesRest left rounds entries → MakesRounds rounds entries
rest_none_left left rounds entries none (front, back, e, here, later) = none_left left rounds entries front back none e here later

pub none_left_rest : (left : ℕ → List (List Call)) (rounds : List (List Turn)) (entries : List Entry) → NoneLeft left → MakesRounds rounds entries
    → MakesRest left rounds entries
none_left_rest left rounds entries none h = ([], entries, refl, λ thread. sym (none thread), h)

-- ---- where something is left

-- the first of the entries: its thread has a turn left, and it makes the first of these
pub record BeginsRest (left : ℕ → List (List Call)) (entries : List Entry) : Type 0 where
  pub first : Entry
  pub others : List Entry
  pub whole : entries ≡ first ∷ others
  pub later : List (List Call)
  pub mine : left first.pass ≡ turn_of first ∷ later

first_left : (left : ℕ → List (List Call)) (entries front back : List Entry) (thread : ℕ) (c : List Call) (cs : List (List Call)) → left thread ≡ c ∷ cs
    → entries ≡ front ++ back → ((u : ℕ) → turns_of (own front u) ≡ left u) → BeginsRest left entries
first_left left entries [] back thread c cs some e here = absurd (not_none c cs (sym some ∙ sym (here thread)))
first_left left entries (x ∷ front) back thread c cs some e here = record {
  first = x;
  others = front ++ back;
  whole = e;
  later = turns_of (own front x.pass);
  mine = sym (here x.pass) ∙ mine_first x front x.pass refl;
}

pub rest_begins : (left : ℕ → List (List Call)) (rounds : List (List Turn)) (entries : List Entry) (thread : ℕ) (c : List Call) (cs : List (List Call)) → left thread ≡ c ∷ cs
    → MakesRest left rounds entries → BeginsRest left entries
rest_begins left rounds entries thread c cs some (front, back, e, here, later) = first_left left entries front back thread c cs some e here

-- ---- an entry more

front_goes_on : (left next : ℕ → List (List Call)) (e : Entry) (front : List Entry) → IsMade left next e.pass (turn_of e)
    → ((u : ℕ) → turns_of (own (e ∷ front) u) ≡ left u) → (u : ℕ) → turns_of (own front u) ≡ next u
front_goes_on left next e front made here u = elim (cases_eq u e.pass) [
  | inl is ↦
      let all : turn_of e ∷ turns_of (own front u) ≡ turn_of e ∷ next u =
      sym (mine_first e front u (sym is)) ∙ here u ∙ ap left is ∙ made.mine ∙ ap (λ v. turn_of e ∷ next v) (sym is) in
      same_later (turn_of e) (turn_of e) (turns_of (own front u)) (next u) all
  | inr apart ↦ sym (other_first e front u (λ q. apart (sym q))) ∙ here u ∙ sym (made.others u apart)
]

front_went_on : (left next : ℕ → List (List Call)) (e : Entry) (front : List Entry) → IsMade left next e.pass (turn_of e)
    → ((u : ℕ) → turns_of (own front u) ≡ next u) → (u : ℕ) → turns_of (own (e ∷ front) u) ≡ left u
front_went_on left next e front made here u = elim (cases_eq u e.pass) [
  | inl is ↦ mine_first e front u (sym is) ∙ ap (λ l. turn_of e ∷ l) (here u) ∙ ap (λ v. turn_of e ∷ next v) is ∙ sym made.mine ∙ ap left (sym is)
  | inr apart ↦ other_first e front u (λ q. apart (sym q)) ∙ here u ∙ made.others u apart
]

entry_out : (left next : ℕ → List (List Call)) (rounds : List (List Turn)) (e : Entry) (entries front back : List Entry)
    → IsMade left next e.pass (turn_of e) → e ∷ entries ≡ front ++ back → ((u : ℕ) → turns_of (own front u) ≡ left u) → MakesRounds rounds back
    → MakesRest next rounds entries
entry_out left next rounds e entries [] back made whole here later = absurd (not_none (turn_of e) (next e.pass) (sym made.mine ∙ sym (here e.pass)))
entry_out left next rounds e entries (x ∷ front) back made whole here later =
    let same = tails e x entries (front ++ back) whole in
    (front, back, same.1, front_goes_on left next e front made (subst (λ (y : Entry). (u : ℕ) → turns_of (own (y ∷ front) u) ≡ left u) (sym same.0) here), later)
  where
    tails : (e x : Entry) (es xs : List Entry) → e ∷ es ≡ x ∷ xs → (e ≡ x) × (es ≡ xs)
    tails e x es xs h = (cc, cc)

pub rest_after : (left next : ℕ → List (List Call)) (rounds : List (List Turn)) (e : Entry) (entries : List Entry)
    → IsMade left next e.pass (turn_of e) → MakesRest left rounds (e ∷ entries) → MakesRest next rounds entries
rest_after left next rounds e entries made (front, back, whole, here, later) = entry_out left next rounds e entries front back made whole here later

pub rest_before : (left next : ℕ → List (List Call)) (rounds : List (List Turn)) (e : Entry) (entries : List Entry)
    → IsMade left next e.pass (turn_of e) → MakesRest next rounds entries → MakesRest left rounds (e ∷ entries)
rest_before left next rounds e entries made (front, back, whole, here, later) =
    (e ∷ front, back, ap (λ l. e ∷ l) whole, front_went_on left next e front made here, later)

-- ---- turns that make what is left

turns_by : ℕ → List (List Call) → List Turn
turns_by thread turns = map (λ calls. record { thread = thread; calls = calls }) turns

-- what is left, thread by thread
turns_left : ℕ → (ℕ → List (List Call)) → List Turn
turns_left zero left = []
turns_left (suc n) left = turns_left n left ++ turns_by n (left n)

-- the turns of a thread, where its own comes first
pub turn_mine : (t : Turn) (turns : List Turn) (u : ℕ) → t.thread ≡ u → thread_turns u (t ∷ turns) ≡ t.calls ∷ thread_turns u turns
turn_mine t turns u mine =
    ap (λ b. map (λ (x : Turn). x.calls) (cond b (t ∷ filter (λ (x : Turn). x.thread == u) turns) (filter (λ (x : Turn). x.thread == u) turns))) (eq-eqb t.thread u mine)

-- and where another thread's does
pub turn_other : (t : Turn) (turns : List Turn) (u : ℕ) → t.thread ≢ u → thread_turns u (t ∷ turns) ≡ thread_turns u turns
turn_other t turns u apart =
    ap (λ b. map (λ (x : Turn). x.calls) (cond b (t ∷ filter (λ (x : Turn). x.thread == u) turns) (filter (λ (x : Turn). x.thread == u) turns))) (ne_eqb t.thread u apart)

by_mine : (thread : ℕ) (turns : List (List Call)) → thread_turns thread (turns_by thread turns) ≡ turns
unfolding turns_by
by_mine thread [] = refl
by_mine thread (c ∷ turns) =
    turn_mine (record { thread = thread; calls = c }) (turns_by thread turns) thread refl ∙ ap (λ l. c ∷ l) (by_mine thread turns)

by_other : (thread u : ℕ) (turns : List (List Call)) → thread ≢ u → thread_turns u (turns_by thread turns) ≡ []
unfolding turns_by
by_other thread u [] apart = refl
by_other thread u (c ∷ turns) apart =
    turn_other (record { thread = thread; calls = c }) (turns_by thread turns) u apart ∙ by_other thread u turns apart

left_beyond : (n u : ℕ) (left : ℕ → List (List Call)) → n ≤ u → thread_turns u (turns_left n left) ≡ []
unfolding turns_left
left_beyond zero u left beyond = refl
left_beyond (suc n) u left beyond =
    thread_turns-append u (turns_left n left) (turns_by n (left n))
    ∙ ap (λ l. l ++ thread_turns u (turns_by n (left n))) (left_beyond n u left (omega arith))
    ∙ by_other n u (left n) (λ e. omega arith)

left_within : (n u : ℕ) (left : ℕ → List (List Call)) → u < n → thread_turns u (turns_left n left) ≡ left u
unfolding turns_left
left_within zero u left within = absurd (omega arith)
left_within (suc n) u left within =
    thread_turns-append u (turns_left n left) (turns_by n (left n))
    ∙ elim (cases_eq u n) [
      | inl is ↦
          ap (λ l. l ++ thread_turns u (turns_by n (left n))) (left_beyond n u left (omega (arith, is)))
          ∙ ap (λ v. thread_turns v (turns_by n (left n))) is ∙ by_mine n (left n) ∙ ap left (sym is)
      | inr apart ↦
          ap (λ l. l ++ thread_turns u (turns_by n (left n))) (left_within n u left (omega (arith, within, apart)))
          ∙ ap (λ l. left u ++ l) (by_other n u (left n) (λ e. apart (sym e))) ∙ append-nil (left u)
    ]

-- they make exactly what is left
left_is : (n u : ℕ) (left : ℕ → List (List Call)) → AreNoneFrom n left → thread_turns u (turns_left n left) ≡ left u
left_is n u left none = elim (cases_lt u n) [
  | inl within ↦ left_within n u left within
  | inr beyond ↦ left_beyond n u left beyond ∙ sym (none u beyond)
]

by_below : (n thread : ℕ) (turns : List (List Call)) → thread < n → HasTurnsBelow n (turns_by thread turns)
unfolding turns_by
by_below n thread [] below = tt
by_below n thread (c ∷ turns) below = (below, by_below n thread turns below)

left_below : (m n : ℕ) (left : ℕ → List (List Call)) → n ≤ m → HasTurnsBelow m (turns_left n left)
unfolding turns_left
left_below m zero left l = tt
left_below m (suc n) left l = below_append m (turns_left n left) (turns_by n (left n)) (left_below m n left (omega arith)) (by_below m n (left n) (omega arith))

-- a thread beyond those of the turns has none
pub turns_none : (n u : ℕ) (turns : List Turn) → HasTurnsBelow n turns → n ≤ u → thread_turns u turns ≡ []
turns_none n u [] below beyond = refl
turns_none n u (t ∷ turns) below beyond =
    let within = below.0 in turn_other t turns u (λ e. omega (arith, within, e)) ∙ turns_none n u turns below.1 beyond

-- ---- what is left can be made

-- a history goes on by what is left, and the rounds after it
abbrev pub MadeRest : Spec → ℕ → List Entry → (ℕ → List (List Call)) → List (List Turn) → Type 0
MadeRest spec n done left rounds = (more : List Entry) × GoesOn spec n done more × MakesRest left rounds more

pub rest_goes_on : (spec : Spec) (n : ℕ) (done : List Entry) (left : ℕ → List (List Call)) (rounds : List (List Turn)) → AreNoneFrom n left
    → AllByRecursion (HasTurnsBelow n) rounds → IsLegal spec done → IsNumbered done → MadeRest spec n done left rounds
rest_goes_on spec n done left rounds none below legal numbered =
    let here = made_in_order spec n done (turns_left n left) (left_below n n left (omega arith)) legal numbered in
    let later = rounds_go_on spec n (done ++ here.0) rounds below here.1.legal here.1.numbered in (
      here.0 ++ later.0,
      both_more spec n done here.0 later.0 here.1.passes later.1,
      (here.0, later.0, refl, λ u. here.2 u ∙ left_is n u left none, later.2),
    )

-- what is left matters by threads alone
pub rest_same : (left next : ℕ → List (List Call)) (rounds : List (List Turn)) (entries : List Entry) → ((u : ℕ) → left u ≡ next u)
    → MakesRest left rounds entries → MakesRest next rounds entries
rest_same left next rounds entries same (front, back, e, here, later) = (front, back, e, λ u. here u ∙ same u, later)
