-- What places of threads in a round say of the turns that are left.
use Rattle.std.proofs.Common.{◌≡◌, ℕ, zero, suc, ◌+◌, ◌<◌, ◌≤◌, List, [], ◌∷◌, ◌++◌, drop, get_or, set, length, Some, refl, sym, ap, ◌∙◌, inl, inr, subst, arith}
use Rattle.rc_audit.specs.Imports.{slice_get, Call, Turn, HasTurnsBelow, thread_turns}
use Rattle.std.proofs.lemmas.Bool.{cases_eq, cases_lt}
use Rattle.std.proofs.lemmas.List.{drop_more, get_or_append_left, get_or-set_same, get_or-set_other, length-append, length-set}
use Rattle.std.proofs.lemmas.Option.{get_or_from_slice_get, slice_get_within}
use Rattle.rc_audit.specs.Cursors.{AreCursors, HasGoneOn, HasLeft, HaveBegun, IsTurnOf, cursor_at, left_in, turns_from}
use Rattle.rc_audit.specs.Left.{AreNoneFrom, IsMade, NoneLeft}
use Rattle.rc_audit.specs.LeftLaws.{not_none, turn_mine, turns_none}

-- ---- the next turn of a thread

beyond : (round : List Turn) (place : ℕ) → length round ≤ place → drop place round ≡ []
beyond [] zero l = refl
beyond [] (suc place) l = refl
beyond (t ∷ round) zero l = absurd (omega arith)
beyond (t ∷ round) (suc place) l = beyond round place (omega arith)

no_cursor : (cursors : List ℕ) (thread d : ℕ) → length cursors ≤ thread → get_or cursors thread d ≡ d
no_cursor [] zero d l = refl
no_cursor [] (suc thread) d l = refl
no_cursor (c ∷ cursors) zero d l = absurd (omega arith)
no_cursor (c ∷ cursors) (suc thread) d l = no_cursor cursors thread d (omega arith)

module _ (round : List Turn) (cursors : List ℕ) where
  -- the turn of a thread that has one left
  pub record IsNextTurn (thread : ℕ) (turn : Turn) : Type 0 where
    pub there : slice_get round (cursor_at round cursors thread) ≡ Some turn
    pub mine : turn.thread ≡ thread
    pub left : left_in round cursors thread ≡ turn.calls ∷ turns_from round thread (cursor_at round cursors thread + 1)

  next_by : (thread : ℕ) (turn : Turn) → slice_get round (cursor_at round cursors thread) ≡ Some turn → turn.thread ≡ thread → IsNextTurn thread turn
  next_by thread turn there mine =
      let place = cursor_at round cursors thread in
      let within = slice_get_within round place turn there in
      let parts : drop place round ≡ turn ∷ drop (place + 1) round =
      drop_more round place turn within ∙ ap (λ t. t ∷ drop (place + 1) round) (get_or_from_slice_get round place turn turn there) in
      record {
        there = there;
        mine = mine;
        left = ap (thread_turns thread) parts ∙ turn_mine turn (drop (place + 1) round) thread mine;
      }

  pub next_turn : (thread : ℕ) → AreCursors round cursors → HasLeft round cursors thread → (turn : Turn) × IsNextTurn thread turn
  next_turn thread are left = go (are thread left.0)
    where
      go : IsTurnOf round thread (cursor_at round cursors thread) → (turn : Turn) × IsNextTurn thread turn
      go (inl is) = absurd (let within = left.1 in omega (arith, within, is))
      go (inr (turn, there, mine)) = (turn, next_by thread turn there mine)

  -- a thread without a turn left
  pub none_by : (thread : ℕ) → (HasLeft round cursors thread → ⊥) → left_in round cursors thread ≡ []
  none_by thread none =
      let place = cursor_at round cursors thread in
      let far : length round ≤ place = elim (cases_lt thread (length cursors)) [
        | inl known ↦ elim (cases_lt place (length round)) [
          | inl within ↦ absurd (none (known, within))
          | inr l ↦ l
        ]
        | inr l ↦ let e = no_cursor cursors thread (length round) l in omega (arith, e)
      ] in
      ap (thread_turns thread) (beyond round place far)

  pub none_left : ((thread : ℕ) → HasLeft round cursors thread → ⊥) → NoneLeft (left_in round cursors)
  none_left none thread = none_by thread (none thread)

  -- a thread that has something left has a place before the round's end
  pub has_left_by : (thread : ℕ) (c : List Call) (cs : List (List Call)) → left_in round cursors thread ≡ c ∷ cs → HasLeft round cursors thread
  has_left_by thread c cs some = elim (cases_lt thread (length cursors)) [
    | inl known ↦ elim (cases_lt (cursor_at round cursors thread) (length round)) [
      | inl within ↦ (known, within)
      | inr l ↦ absurd (not_none c cs (sym some ∙ none_by thread (λ h. let w = h.1 in omega (arith, w, l))))
    ]
    | inr l ↦ absurd (not_none c cs (sym some ∙ none_by thread (λ h. let w = h.0 in omega (arith, w, l))))
  ]

  pub none_from : (threads : ℕ) → length cursors ≤ threads → AreNoneFrom threads (left_in round cursors)
  none_from threads l thread m = none_by thread (λ left. let w = left.0 in omega (arith, w, l, m))

  -- ---- a cursor that goes on

  pub goes_on : (thread : ℕ) (turn : Turn) (new : List ℕ) → HasLeft round cursors thread → IsNextTurn thread turn → HasGoneOn round cursors new thread
      → IsMade (left_in round cursors) (left_in round new) thread turn.calls
  goes_on thread turn new left next gone =
      subst (λ cs. IsMade (left_in round cursors) (left_in round cs) thread turn.calls) (sym gone.set_is)
      (record {
        mine =
            next.left
            ∙ ap (λ l. turn.calls ∷ l) (gone.turns ∙ sym (ap (turns_from round thread) (get_or-set_same cursors thread gone.next (length round) left.0)));
        others = λ u apart. ap (turns_from round u) (get_or-set_other cursors thread u gone.next (length round) apart);
      })

-- with the place of a turn of its thread, they are cursors again
still_cursors : (round : List Turn) (cursors : List ℕ) (thread place : ℕ) → AreCursors round cursors → IsTurnOf round thread place
    → AreCursors round (set cursors thread place)
still_cursors round cursors thread place are is u below =
    let same = length-set cursors thread place in
    elim (cases_eq u thread) [
      | inl e ↦
          let there : cursor_at round (set cursors thread place) u ≡ place =
          ap (cursor_at round (set cursors thread place)) e ∙ get_or-set_same cursors thread place (length round) (omega (arith, below, same, e)) in
          subst (IsTurnOf round u) (sym there) (subst (λ v. IsTurnOf round v place) (sym e) is)
      | inr apart ↦
          subst (IsTurnOf round u) (sym (get_or-set_other cursors thread u place (length round) apart)) (are u (omega (arith, below, same)))
    ]

-- a place that went on
pub gone_on : (round : List Turn) (cursors : List ℕ) (thread next : ℕ) → AreCursors round cursors → IsTurnOf round thread next
    → turns_from round thread (cursor_at round cursors thread + 1) ≡ turns_from round thread next → HasGoneOn round cursors (set cursors thread next) thread
gone_on round cursors thread next are turn same = record {
  next = next;
  set_is = refl;
  count = length-set cursors thread next;
  turns = same;
  cursors = still_cursors round cursors thread next are turn;
}

-- ---- at a round's start

pub begun_none : (round : List Turn) (threads : ℕ) (cursors : List ℕ) → threads ≡ 0 → cursors ≡ [] → HaveBegun round threads cursors
begun_none round threads cursors none is =
    let empty : length cursors ≡ 0 = ap length is in
    record { count = empty ∙ sym none; places = λ thread l. absurd (omega (arith, l, empty)); turns = λ thread l. absurd (omega (arith, l, empty)) }

last_cursor : (xs : List ℕ) (x d : ℕ) → get_or (xs ++ x ∷ []) (length xs) d ≡ x
last_cursor [] x d = refl
last_cursor (y ∷ xs) x d = last_cursor xs x d

-- a thread more
pub begun_more : (round : List Turn) (threads place : ℕ) (cursors more : List ℕ) → HaveBegun round threads cursors → more ≡ cursors ++ place ∷ []
    → IsTurnOf round threads place → turns_from round threads 0 ≡ turns_from round threads place → HaveBegun round (threads + 1) more
begun_more round threads place cursors more h is turn same = record {
  count = long ∙ ap (λ n. n + 1) h.count;
  places = λ thread l. (both thread l).0;
  turns = λ thread l. (both thread l).1;
}
  where
    long : length more ≡ length cursors + 1
    long = ap length is ∙ length-append cursors (place ∷ [])

    both : (thread : ℕ) → thread < length more
        → IsTurnOf round thread (cursor_at round more thread) × (left_in round more thread ≡ turns_from round thread 0)
    both thread l = elim (cases_lt thread (length cursors)) [
      | inl before ↦
          let here : cursor_at round cursors thread ≡ cursor_at round more thread =
          sym (ap (λ c. cursor_at round c thread) is ∙ get_or_append_left cursors (place ∷ []) (length round) thread before) in (
            subst (IsTurnOf round thread) here (h.places thread before),
            sym (ap (turns_from round thread) here) ∙ h.turns thread before,
          )
      | inr past ↦
          let at : thread ≡ length cursors = omega (arith, l, long, past) in
          let mine : thread ≡ threads = at ∙ h.count in
          let here : place ≡ cursor_at round more thread =
          sym (ap (λ c. cursor_at round c thread) is ∙ ap (cursor_at round (cursors ++ place ∷ [])) at ∙ last_cursor cursors place (length round)) in (
            subst (IsTurnOf round thread) here (subst (λ t. IsTurnOf round t place) (sym mine) turn),
            sym (ap (turns_from round thread) here) ∙ ap (λ t. turns_from round t place) mine ∙ sym same ∙ ap (λ t. turns_from round t 0) (sym mine),
          )
    ]

-- what is left at first are the turns of the round
pub left_at_start : (round : List Turn) (threads : ℕ) (cursors : List ℕ) → HaveBegun round threads cursors → HasTurnsBelow threads round
    → (thread : ℕ) → thread_turns thread round ≡ left_in round cursors thread
left_at_start round threads cursors begun below thread = elim (cases_lt thread (length cursors)) [
  | inl known ↦ sym (begun.turns thread known)
  | inr l ↦
      let count = begun.count in
      turns_none threads thread round below (omega (arith, l, count))
      ∙ sym (none_by round cursors thread (λ left. let w = left.0 in omega (arith, w, l)))
]
