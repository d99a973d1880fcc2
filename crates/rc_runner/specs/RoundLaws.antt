-- Laws of passes that make their turns round by round.
use Rattle.std.proofs.Common.{◌≡◌, ℕ, suc, ◌+◌, ◌<◌, ◌≤◌, ◌==◌, Bool, true, false, cond, max, List, [], ◌∷◌, ◌++◌, All, map, filter, length, take, get_or, if◌then◌else◌, sym, refl, ap, ◌∙◌, subst, arith}
use Rattle.rc_runner.specs.Imports.{AllZip, range_with_len, Call, Placed, Turn, thread_turns, turns_of, turns_of-append}
use Rattle.std.proofs.lemmas.List.{append-nil, append_assoc, map-append, take_more}
use Rattle.std.proofs.lemmas.List.Elements.{All-append, All-cons, All-head, All-nil, All-push, All-tail, All-weaker, filter-append}
use Rattle.rc_runner.specs.Rounds.{entries_of, AreBefore, AreFrom, Stand, MadeBy, HasMade, EachHasMade, HaveMade, HasCalled, HasGrown, EachHasGrown, HaveLearnt, MadeRound}

-- ---- the turns of a pass within a round

pub growth_starts : (s : Stand) → HasGrown [] s s
growth_starts s = record {
  more = [];
  own = sym (append-nil s.own);
  made = refl;
  after = All-nil (λ (x : Placed). s.seen ≤ x.place);
  before = All-nil (λ (x : Placed). x.place < s.seen);
  seen = omega arith;
}

entries_of-append : (xs ys : List Placed) → entries_of (xs ++ ys) ≡ entries_of xs ++ entries_of ys
entries_of-append xs ys = map-append (λ (x : Placed). x.entry) xs ys

-- one turn more, whose entry has a place that is at least what the pass had seen
pub growth_goes_on : (turns : List (List Call)) (calls : List Call) (s t u : Stand) → HasGrown turns s t → HasCalled calls t u
    → HasGrown (turns ++ calls ∷ []) s u
growth_goes_on turns calls s t u g h =
    let x : Placed = h.entry in
    let after : s.seen ≤ x.place = (let a = g.seen in let b = h.after in omega (arith, a, b)) in
    let seen : t.seen ≤ u.seen = (let a = h.after in let b = h.before in omega (arith, a, b)) in
    record {
      more = g.more ++ x ∷ [];
      own = h.own ∙ ap (λ l. l ++ x ∷ []) g.own ∙ append_assoc s.own g.more (x ∷ []);
      made = ap turns_of (entries_of-append g.more (x ∷ [])) ∙ turns_of-append (entries_of g.more) (x.entry ∷ [])
          ∙ ap (λ l. l ++ turns_of (x.entry ∷ [])) g.made ∙ ap (λ l. turns ++ l) h.made;
      after = All-push (λ (y : Placed). s.seen ≤ y.place) g.more x g.after after;
      before = All-push (λ (y : Placed). y.place < u.seen) g.more x
          (All-weaker (λ (y : Placed). y.place < t.seen) (λ y. y.place < u.seen) (λ y l. omega (arith, l, seen)) g.more g.before) h.before;
      seen = let a = g.seen in omega (arith, a, seen);
    }

-- the turns of a thread up to a turn, and with it
turn_go : (b : Bool) (t : Turn) → map (λ (x : Turn). x.calls) (cond b (t ∷ []) []) ≡ (if b then t.calls ∷ [] else [])
turn_go true t = refl
turn_go false t = refl

one_turn_more : (thread i : ℕ) (round : List Turn) (d : Turn) → i < length round
    → thread_turns thread (take (i + 1) round)
    ≡ thread_turns thread (take i round) ++ (if (get_or round i d).thread == thread then (get_or round i d).calls ∷ [] else [])
one_turn_more thread i round d l =
    let is : Turn → Bool = λ t. t.thread == thread in
    ap (thread_turns thread) (take_more round i d l) ∙ ap (map (λ (x : Turn). x.calls)) (filter-append is (take i round) (get_or round i d ∷ []))
    ∙ map-append (λ (x : Turn). x.calls) (filter is (take i round)) (filter is (get_or round i d ∷ []))
    ∙ ap (λ l. thread_turns thread (take i round) ++ l) (turn_go ((get_or round i d).thread == thread) (get_or round i d))

-- the turns of a thread with a turn, which is its own or another's
pub turn_go_on : (thread i : ℕ) (round : List Turn) (turn : Turn) (b : Bool) → i < length round → turn ≡ get_or round i turn → (turn.thread == thread) ≡ b
    → thread_turns thread (take (i + 1) round) ≡ thread_turns thread (take i round) ++ (if b then turn.calls ∷ [] else [])
turn_go_on thread i round turn b l is e =
    one_turn_more thread i round turn l
    ∙ ap (λ (t : Turn). thread_turns thread (take i round) ++ (if t.thread == thread then t.calls ∷ [] else [])) (sym is)
    ∙ ap (λ v. thread_turns thread (take i round) ++ (if v then turn.calls ∷ [] else [])) e

-- ---- how much of the history all have seen

abbrev most_seen : List Stand → ℕ
most_seen [] = 0
most_seen (s ∷ stands) = max s.seen (most_seen stands)

most_seen-each : (stands : List Stand) → All (λ (s : Stand). s.seen ≤ most_seen stands) stands
most_seen-each [] = All-nil (λ (s : Stand). s.seen ≤ 0)
most_seen-each (t ∷ stands) =
    let most : ℕ = most_seen stands in
    All-cons (λ (s : Stand). s.seen ≤ max t.seen most) t stands (omega arith)
    (All-weaker (λ (s : Stand). s.seen ≤ most) (λ s. s.seen ≤ max t.seen most) (λ s l. omega (arith, l)) stands (most_seen-each stands))

most_seen-least : (stands : List Stand) (n : ℕ) → All (λ (s : Stand). s.seen ≤ n) stands → most_seen stands ≤ n
most_seen-least [] n h = omega arith
most_seen-least (s ∷ stands) n h =
    let P : Stand → Type 0 = λ t. t.seen ≤ n in
    let a : s.seen ≤ n = All-head P s stands h in
    let b : most_seen stands ≤ n = most_seen-least stands n (All-tail P s stands h) in
    omega (arith, a, b)

-- ---- one round more

made_more : (thread : ℕ) (rounds : List (List Turn)) (marks : List ℕ) (own : List Placed) (round : List Turn) (c b : ℕ) (more : List Placed)
    → MadeBy thread rounds marks own → All (λ m. m ≤ b) marks → AreFrom b more → AreBefore c more
    → turns_of (entries_of more) ≡ thread_turns thread round → MadeBy thread (rounds ++ round ∷ []) (marks ++ c ∷ []) (own ++ more)
made_more thread [] [] own round c b more h marked after before calls =
    (more, [], ap (λ l. l ++ more) h ∙ sym (append-nil more), calls, before, All-nil (λ (x : Placed). c ≤ x.place), refl)
made_more thread [] (d ∷ marks) own round c b more h marked after before calls = absurd h
made_more thread (r ∷ rounds) [] own round c b more h marked after before calls = absurd h
made_more thread (r ∷ rounds) (d ∷ marks) own round c b more (front, back, e, here, first, rest, later) marked after before calls =
    let l : d ≤ b = All-head (λ m. m ≤ b) d marks marked in (
      front,
      back ++ more,
      ap (λ l. l ++ more) e ∙ append_assoc front back more,
      here,
      first,
      All-append (λ (x : Placed). d ≤ x.place) back more rest (All-weaker (λ (x : Placed). b ≤ x.place) (λ x. d ≤ x.place) (λ x k. omega (arith, l, k)) more after),
      made_more thread rounds marks back round c b more later (All-tail (λ m. m ≤ b) d marks marked) after before calls,
    )

has_made_more : (rounds : List (List Turn)) (marks : List ℕ) (thread : ℕ) (round : List Turn) (c : ℕ) (s t u : Stand) → HasMade rounds marks thread s
    → HasGrown (thread_turns thread round) s t → u.own ≡ t.own → t.seen ≤ c → c ≤ u.seen → HasMade (rounds ++ round ∷ []) (marks ++ c ∷ []) thread u
has_made_more rounds marks thread round c s t u h g same below above = record {
  made = subst (MadeBy thread (rounds ++ round ∷ []) (marks ++ c ∷ [])) (sym (same ∙ g.own))
      (made_more thread rounds marks s.own round c s.seen g.more h.made h.seen g.after
      (All-weaker (λ (x : Placed). x.place < t.seen) (λ x. x.place < c) (λ x l. omega (arith, l, below)) g.more g.before) g.made);
  seen = All-push (λ m. m ≤ u.seen) marks c
      (All-weaker (λ m. m ≤ s.seen) (λ m. m ≤ u.seen) (λ m l. let k = g.seen in omega (arith, l, k, below, above)) marks h.seen) above;
}

first_same : (u t : Stand) (us ts : List (List Placed)) → u.own ∷ us ≡ t.own ∷ ts → u.own ≡ t.own
first_same u t us ts e = cc

others_same : (u t : Stand) (us ts : List (List Placed)) → u.own ∷ us ≡ t.own ∷ ts → us ≡ ts
others_same u t us ts e = cc

abbrev owns : List Stand → List (List Placed)
owns stands = map (λ (s : Stand). s.own) stands

each_more : (rounds : List (List Turn)) (marks : List ℕ) (thread : ℕ) (round : List Turn) (c : ℕ) (ss ts us : List Stand) → EachHasMade rounds marks thread ss
    → EachHasGrown round thread ss ts → owns us ≡ owns ts → All (λ (t : Stand). t.seen ≤ c) ts → All (λ (u : Stand). c ≤ u.seen) us
    → EachHasMade (rounds ++ round ∷ []) (marks ++ c ∷ []) thread us
each_more rounds marks thread round c [] [] [] h g same below above = tt
each_more rounds marks thread round c [] [] (u ∷ us) h g same below above = absurd cc
each_more rounds marks thread round c [] (t ∷ ts) us h g same below above = absurd g
each_more rounds marks thread round c (s ∷ ss) [] us h g same below above = absurd g
each_more rounds marks thread round c (s ∷ ss) (t ∷ ts) [] h g same below above = absurd cc
each_more rounds marks thread round c (s ∷ ss) (t ∷ ts) (u ∷ us) h g same below above =
    let B : Stand → Type 0 = λ x. x.seen ≤ c in
    let A : Stand → Type 0 = λ x. c ≤ x.seen in (
      has_made_more rounds marks thread round c s t u h.0 g.0 (first_same u t (owns us) (owns ts) same) (All-head B t ts below) (All-head A u us above),
      each_more rounds marks (suc thread) round c ss ts us h.1 g.1 (others_same u t (owns us) (owns ts) same) (All-tail B t ts below) (All-tail A u us above),
    )

-- passes with no entries have made no rounds
abbrev pub RoundsStart : Type 0
RoundsStart = (stands : List Stand) → All (λ s. s.own ≡ []) stands → HaveMade [] stands

none_made : (thread : ℕ) (stands : List Stand) → All (λ (s : Stand). s.own ≡ []) stands → EachHasMade [] [] thread stands
none_made thread [] h = tt
none_made thread (s ∷ stands) h =
    let none : s.own ≡ [] = All-head (λ (t : Stand). t.own ≡ []) s stands h in (
      record { made = none; seen = All-nil (λ c. c ≤ s.seen) },
      none_made (suc thread) stands (All-tail (λ (t : Stand). t.own ≡ []) s stands h),
    )

pub rounds_start : RoundsStart
rounds_start stands h = ([], none_made 0 stands h)

-- Each pass makes its turns of one more round, and all learn what each has seen.
abbrev pub ARoundGoesOn : Type 0
ARoundGoesOn = (rounds : List (List Turn)) (round : List Turn) (ss ts us : List Stand)
    → HaveMade rounds ss → EachHasGrown round 0 ss ts → HaveLearnt ts us → HaveMade (rounds ++ round ∷ []) us

least_seen : (ts us : List Stand) → HaveLearnt ts us → All (λ (u : Stand). most_seen ts ≤ u.seen) us
least_seen ts us l k d m =
    most_seen-least ts (get_or us k d).seen
    (All-weaker (λ (t : Stand). All (λ (u : Stand). t.seen ≤ u.seen) us) (λ t. t.seen ≤ (get_or us k d).seen) (λ t h. h k d m) ts l.seen)

pub a_round_goes_on : ARoundGoesOn
a_round_goes_on rounds round ss ts us h g l = (
  h.0 ++ most_seen ts ∷ [],
  each_more rounds h.0 0 round (most_seen ts) ss ts us h.1 g l.own (most_seen-each ts) (least_seen ts us l),
)

-- ---- callers of any kind

module _ {A B : Type 0} (R : A → B → Type 0) where
  pub zip_both : (xs : List A) (ys : List B) (xs2 : List A) (ys2 : List B) → AllZip R xs ys → AllZip R xs2 ys2 → AllZip R (xs ++ xs2) (ys ++ ys2)
  zip_both [] [] xs2 ys2 g h = h
  zip_both [] (b ∷ ys) xs2 ys2 g h = absurd g
  zip_both (a ∷ xs) [] xs2 ys2 g h = absurd g
  zip_both (a ∷ xs) (b ∷ ys) xs2 ys2 g h = (g.0, zip_both xs ys xs2 ys2 g.1 h)

module _ {A : Type 0} (number : A → ℕ) (stand : A → Stand) (round : List Turn) where
  first_number : (n k : ℕ) (ns ks : List ℕ) → n ∷ ns ≡ k ∷ ks → n ≡ k
  first_number n k ns ks e = cc

  other_numbers : (n k : ℕ) (ns ks : List ℕ) → n ∷ ns ≡ k ∷ ks → ns ≡ ks
  other_numbers n k ns ks e = cc

  -- callers that are numbered from k on make the turns of the threads from k on
  pub numbered_grow : (k : ℕ) (olds news : List A) → map number olds ≡ range_with_len k (length olds) → MadeRound number stand round olds news
      → EachHasGrown round k (map stand olds) (map stand news)
  numbered_grow k [] [] numbers made = tt
  numbered_grow k [] (b ∷ news) numbers made = absurd made
  numbered_grow k (a ∷ olds) [] numbers made = absurd made
  numbered_grow k (a ∷ olds) (b ∷ news) numbers made =
      let first : number a ≡ k = first_number (number a) k (map number olds) (range_with_len (k + 1) (length olds)) numbers in
      let others : map number olds ≡ range_with_len (k + 1) (length olds) = other_numbers (number a) k (map number olds) (range_with_len (k + 1) (length olds)) numbers in
      let z : k + 1 ≡ suc k = omega arith in (
        subst (λ j. HasGrown (thread_turns j round) (stand a) (stand b)) first made.0,
        subst (λ j. EachHasGrown round j (map stand olds) (map stand news)) z (numbered_grow (k + 1) olds news others made.1),
      )
