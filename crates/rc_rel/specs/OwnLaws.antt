-- Laws of own entries: of longer histories, with their places, where they stand, and how large a replay is.
use Rattle.std.proofs.Common.{◌≡◌, ◌≢◌, ◌↔◌, ℕ, zero, suc, ◌+◌, ◌<◌, ◌≤◌, Bool, true, false, cond, eqb, List, [], ◌∷◌, ◌++◌, length, map, Some, None, refl, sym, ap, subst, ◌∙◌, inl, inr, arith}
use Rattle.rc_rel.specs.Imports.{range_with_len, slice_get, In, in_filter, Pairs, Spec, plain, plain_grows}
use Rattle.std.proofs.lemmas.Bool.{eqb-true, eq-eqb, ne_eqb, false≢true}
use Rattle.std.proofs.lemmas.List.{append-nil, length-append, length-map, map-append, map-id}
use Rattle.std.proofs.lemmas.List.Elements.{filter-append}
use Rattle.std.proofs.lemmas.List.FromFn.{map-range_with_len_more}
use Rattle.rc_rel.specs.declared.entry.Step.{Step}
use Rattle.rc_rel.specs.declared.entry.Entry.{Entry}
use Rattle.rc_rel.specs.declared.entry.Placed.{Placed}
use Rattle.rc_rel.specs.HistoryLaws.{steps_of-append}
use Rattle.rc_rel.specs.History.{IsNumbered, calls_of, own, own_placed, placed, placed_from, after_steps, replay, steps_of}

-- ---- own entries

pub own-append : (xs ys : List Entry) (pass : ℕ) → own (xs ++ ys) pass ≡ own xs pass ++ own ys pass
own-append xs ys pass = filter-append (λ e. eqb e.pass pass) xs ys

pub calls_of-append : (xs ys : List Entry) → calls_of (xs ++ ys) ≡ calls_of xs ++ calls_of ys
calls_of-append xs ys = ap (map (λ (s : Step). s.call)) (steps_of-append xs ys) ∙ map-append (λ (s : Step). s.call) (steps_of xs) (steps_of ys)

own_one : (e : Entry) (k : ℕ) (b : Bool) → eqb e.pass k ≡ b → own (e ∷ []) k ≡ cond b (e ∷ []) []
own_one e k b h = ap (λ x. cond x (e ∷ []) []) h

numbers_more : (nths : List ℕ) (n k : ℕ) → nths ≡ range_with_len 0 n → k ≡ n → nths ++ k ∷ [] ≡ range_with_len 0 (n + 1)
numbers_more nths n k h e =
    let z : 0 + n ≡ n = omega arith in
    ap (λ l. l ++ k ∷ []) h ∙ ap (λ x. range_with_len 0 n ++ x ∷ []) e
    ∙ sym (sym (map-id (range_with_len 0 (n + 1))) ∙ map-range_with_len_more (λ x. x) 0 n n z ∙ ap (λ l. l ++ n ∷ []) (map-id (range_with_len 0 n)))

numbered_at : (history : List Entry) (e : Entry) (k : ℕ) (b : Bool) → eqb e.pass k ≡ b → IsNumbered history → e.nth ≡ length (own history e.pass)
    → map (λ (x : Entry). x.nth) (own (history ++ e ∷ []) k) ≡ range_with_len 0 (length (own (history ++ e ∷ []) k))
numbered_at history e k true h n f =
    let here : own (history ++ e ∷ []) k ≡ own history k ++ e ∷ [] = own-append history (e ∷ []) k ∙ ap (λ l. own history k ++ l) (own_one e k true h) in
    let count : e.nth ≡ length (own history k) = f ∙ ap (λ p. length (own history p)) (eqb-true e.pass k h) in
    ap (map (λ (x : Entry). x.nth)) here ∙ map-append (λ (x : Entry). x.nth) (own history k) (e ∷ [])
    ∙ numbers_more (map (λ (x : Entry). x.nth) (own history k)) (length (own history k)) e.nth (n k) count
    ∙ ap (range_with_len 0) (sym (ap length here ∙ length-append (own history k) (e ∷ [])))
numbered_at history e k false h n f =
    let here : own (history ++ e ∷ []) k ≡ own history k = own-append history (e ∷ []) k ∙ ap (λ l. own history k ++ l) (own_one e k false h) ∙ append-nil (own history k) in
    ap (map (λ (x : Entry). x.nth)) here ∙ n k ∙ ap (λ (l : List Entry). range_with_len 0 (length l)) (sym here)

-- a numbered history stays so with an entry that has its pass's next number
abbrev pub NumberedGoesOn : Type 0
NumberedGoesOn = (history : List Entry) (e : Entry) → IsNumbered history → e.nth ≡ length (own history e.pass) → IsNumbered (history ++ e ∷ [])

pub numbered_more : NumberedGoesOn
numbered_more history e n f k = numbered_at history e k (eqb e.pass k) refl n f

-- a pass of which no entry is has none of its own
pub none_own : (history : List Entry) (passes k : ℕ) → ((e : Entry) → In e history → e.pass < passes) → passes ≤ k → length (own history k) ≡ 0
none_own history passes k few beyond = go (own history k) refl
  where
    go : (xs : List Entry) → xs ≡ own history k → length xs ≡ 0
    go [] is = refl
    go (x ∷ xs) is =
        let m = in_filter (λ (e : Entry). eqb e.pass k) x history (subst (λ (l : List Entry). In x l) is (inl refl)) in
        let lt = few x m.0 in
        let same = eqb-true x.pass k m.1 in
        absurd (omega (arith, lt, same, beyond))

-- ---- own entries with their places

abbrev pub PlacedAreOwn : Type 0
PlacedAreOwn = (n : ℕ) (history : List Entry) (pass : ℕ) → map (λ (w : Placed). w.entry) (placed_from n history pass) ≡ own history pass

pub placed_own : PlacedAreOwn
placed_own n [] pass = refl
placed_own n (e ∷ history) pass = go (eqb e.pass pass) (placed_own (n + 1) history pass)
  where
    go : (b : Bool) → map (λ (w : Placed). w.entry) (placed_from (n + 1) history pass) ≡ own history pass
        → map (λ (w : Placed). w.entry) (cond b (placed n e ∷ placed_from (n + 1) history pass) (placed_from (n + 1) history pass)) ≡ cond b (e ∷ own history pass) (own history pass)
    go true ih = ap (λ l. e ∷ l) ih
    go false ih = ih

pub own_length : (history : List Entry) (pass : ℕ) → length (own_placed history pass) ≡ length (own history pass)
own_length history pass =
    sym (length-map (own_placed history pass) (λ (w : Placed). w.entry)) ∙ ap (λ (l : List Entry). length l) (placed_own 0 history pass)

pub placed_from-append : (n : ℕ) (xs ys : List Entry) (pass : ℕ) → placed_from n (xs ++ ys) pass ≡ placed_from n xs pass ++ placed_from (n + length xs) ys pass
placed_from-append n [] ys pass = let z : n ≡ n + 0 = omega arith in ap (λ i. placed_from i ys pass) z
placed_from-append n (x ∷ xs) ys pass =
    let on : n + 1 + length xs ≡ n + suc (length xs) = omega arith in
    go (eqb x.pass pass) (placed_from-append (n + 1) xs ys pass ∙ ap (λ i. placed_from (n + 1) xs pass ++ placed_from i ys pass) on)
  where
    go : (b : Bool) → placed_from (n + 1) (xs ++ ys) pass ≡ placed_from (n + 1) xs pass ++ placed_from (n + suc (length xs)) ys pass
        → cond b (placed n x ∷ placed_from (n + 1) (xs ++ ys) pass) (placed_from (n + 1) (xs ++ ys) pass)
        ≡ cond b (placed n x ∷ placed_from (n + 1) xs pass) (placed_from (n + 1) xs pass) ++ placed_from (n + suc (length xs)) ys pass
    go true e = ap (λ l. placed n x ∷ l) e
    go false e = e

one_placed : (n m : ℕ) (e : Entry) (k : ℕ) (b : Bool) → eqb e.pass k ≡ b → n ≡ m → placed_from n (e ∷ []) k ≡ cond b (placed m e ∷ []) []
one_placed n m e k b h q = ap (λ x. cond x (placed n e ∷ []) []) h ∙ ap (λ i. cond b (placed i e ∷ []) []) q

pub own_end_mine : (k : ℕ) (history : List Entry) (e : Entry) → e.pass ≡ k → own_placed (history ++ e ∷ []) k ≡ own_placed history k ++ placed (length history) e ∷ []
own_end_mine k history e is =
    placed_from-append 0 history (e ∷ []) k
    ∙ ap (λ l. own_placed history k ++ l) (one_placed (0 + length history) (length history) e k true (eq-eqb e.pass k is) (omega arith))

pub own_end_other : (k : ℕ) (history : List Entry) (e : Entry) → e.pass ≢ k → own_placed (history ++ e ∷ []) k ≡ own_placed history k
own_end_other k history e apart =
    placed_from-append 0 history (e ∷ []) k
    ∙ ap (λ l. own_placed history k ++ l) (one_placed (0 + length history) (length history) e k false (ne_eqb e.pass k apart) (omega arith))
    ∙ append-nil (own_placed history k)

-- ---- where own entries stand

stands_go : (n : ℕ) (e : Entry) (history : List Entry) (pass : ℕ) (b : Bool) → eqb e.pass pass ≡ b → (w : Placed)
    → (In w (placed_from (n + 1) history pass) → (i : ℕ) × (w.place ≡ n + 1 + i) × (slice_get history i ≡ Some w.entry) × (w.entry.pass ≡ pass))
    → In w (cond b (placed n e ∷ placed_from (n + 1) history pass) (placed_from (n + 1) history pass))
    → (i : ℕ) × (w.place ≡ n + i) × (slice_get (e ∷ history) i ≡ Some w.entry) × (w.entry.pass ≡ pass)
stands_go n e history pass true h w ih (inl q) =
    let at : w.place ≡ n + 0 = ap (λ (x : Placed). x.place) q ∙ omega arith in
    let is : w.entry ≡ e = ap (λ (x : Placed). x.entry) q in
    (zero, at, ap Some (sym is), ap (λ (x : Entry). x.pass) is ∙ eqb-true e.pass pass h)
stands_go n e history pass true h w ih (inr m) = let s = ih m in let at : w.place ≡ n + suc s.0 = s.1 ∙ omega arith in (suc s.0, at, s.2, s.3)
stands_go n e history pass false h w ih m = let s = ih m in let at : w.place ≡ n + suc s.0 = s.1 ∙ omega arith in (suc s.0, at, s.2, s.3)

pub stands_from : (n : ℕ) (history : List Entry) (pass : ℕ) (w : Placed) → In w (placed_from n history pass)
    → (i : ℕ) × (w.place ≡ n + i) × (slice_get history i ≡ Some w.entry) × (w.entry.pass ≡ pass)
stands_from n [] pass w m = absurd m
stands_from n (e ∷ history) pass w m = stands_go n e history pass (eqb e.pass pass) refl w (stands_from (n + 1) history pass w) m

from_go : (n : ℕ) (e : Entry) (history : List Entry) (b : Bool) (w : Placed) (p : ℕ)
    → In w (placed_from (n + 1) history p) → In w (cond b (placed n e ∷ placed_from (n + 1) history p) (placed_from (n + 1) history p))
from_go n e history true w p m = inr m
from_go n e history false w p m = m

head_own : (n : ℕ) (e : Entry) (more : List Placed) (pass : ℕ) (b : Bool) → eqb e.pass pass ≡ b → e.pass ≡ pass → In (placed n e) (cond b (placed n e ∷ more) more)
head_own n e more pass true h q = inl refl
head_own n e more pass false h q = absurd (false≢true (sym h ∙ eq-eqb e.pass pass q))

pub same_placed : (w : Placed) (n : ℕ) (e : Entry) → w.place ≡ n → e ≡ w.entry → placed n e ≡ w
same_placed w n e p q = let r : n ≡ w.place = sym p in λ i. record { place = r i; entry = q i }

from_stands : (n : ℕ) (history : List Entry) (pass : ℕ) (w : Placed) (i : ℕ) → w.place ≡ n + i → slice_get history i ≡ Some w.entry → w.entry.pass ≡ pass
    → In w (placed_from n history pass)
from_stands n [] pass w i p s q = cc
from_stands n (e ∷ history) pass w zero p s q =
    let is : e ≡ w.entry = cc in
    let at : w.place ≡ n = p ∙ omega arith in
    subst (λ (x : Placed). In x (placed_from n (e ∷ history) pass)) (same_placed w n e at is)
    (head_own n e (placed_from (n + 1) history pass) pass (eqb e.pass pass) refl (ap (λ (x : Entry). x.pass) is ∙ q))
from_stands n (e ∷ history) pass w (suc i) p s q =
    let at : w.place ≡ n + 1 + i = p ∙ omega arith in
    from_go n e history (eqb e.pass pass) w pass (from_stands (n + 1) history pass w i at s q)

-- an entry is a pass's own with a place exactly where the history has it there and it is of that pass
abbrev pub OwnEntriesStand : Type 0
OwnEntriesStand = (history : List Entry) (pass : ℕ) (w : Placed)
    → In w (own_placed history pass) ↔ ((slice_get history w.place ≡ Some w.entry) × (w.entry.pass ≡ pass))

pub own_stands : OwnEntriesStand
own_stands history pass w = (there, λ h. from_stands 0 history pass w w.place (omega arith) h.0 h.1)
  where
    there : In w (own_placed history pass) → (slice_get history w.place ≡ Some w.entry) × (w.entry.pass ≡ pass)
    there m =
        let s = stands_from 0 history pass w m in
        let at : s.0 ≡ w.place = omega (arith, s.1) in
        (ap (slice_get history) (sym at) ∙ s.2, s.3)

-- ---- lists with the same elements at the same places

-- what stands somewhere in one list stands there in the other too
abbrev pub StandsIn : {A : Type 0} → List A → List A → Type 0
StandsIn {A} xs ys = (i : ℕ) (x : A) → slice_get xs i ≡ Some x → slice_get ys i ≡ Some x

pub same_places : {A : Type 0} (xs ys : List A) → StandsIn xs ys → StandsIn ys xs → xs ≡ ys
same_places [] [] h k = refl
same_places [] (y ∷ ys) h k = let f : None ≡ Some y = k 0 y refl in cc
same_places (x ∷ xs) [] h k = let f : None ≡ Some x = h 0 x refl in cc
same_places (x ∷ xs) (y ∷ ys) h k =
    let f : Some y ≡ Some x = h 0 x refl in
    let first : x ≡ y = cc in
    let rest : xs ≡ ys = same_places xs ys (λ i. h (suc i)) (λ i. k (suc i)) in
    cc

-- an entry stands in each history in which its pass has the same own entries with their places
pub stands_in_other : (history other : List Entry) (i : ℕ) (e : Entry) → own_placed history e.pass ≡ own_placed other e.pass
    → slice_get history i ≡ Some e → slice_get other i ≡ Some e
stands_in_other history other i e same at =
    let m : In (placed i e) (own_placed history e.pass) = (own_stands history e.pass (placed i e)).1 (at, refl) in
    ((own_stands other e.pass (placed i e)).0 (subst (λ (l : List Placed). In (placed i e) l) same m)).0

-- a history is determined by its passes' own entries with their places
abbrev pub OwnEntriesAreTheHistory : Type 0
OwnEntriesAreTheHistory = (history other : List Entry) → ((pass : ℕ) → own_placed history pass ≡ own_placed other pass) → history ≡ other

pub own_determine : OwnEntriesAreTheHistory
own_determine history other same =
    same_places history other (λ i e. stands_in_other history other i e (same e.pass)) (λ i e. stands_in_other other history i e (sym (same e.pass)))

-- ---- the size of the replay

after_few : (spec : Spec) (r : List Pairs) (steps : List Step) → length (after_steps spec r steps) ≤ length r + length steps
after_few spec r [] = omega arith
after_few spec r (s ∷ steps) =
    let next : List Pairs = (plain spec r s.call).relation in
    let a : length (after_steps spec next steps) ≤ length next + length steps = after_few spec next steps in
    let b : length next ≤ length r + 1 = plain_grows spec r s.call in
    omega (arith, a, b)

-- a replay has at most as many tuples as the history has steps
abbrev pub ReplaysAreFew : Type 0
ReplaysAreFew = (spec : Spec) (history : List Entry) → length (replay spec history) ≤ length (steps_of history)

pub replay_few : ReplaysAreFew
replay_few spec history = let a : length (replay spec history) ≤ length {A = Pairs} [] + length (steps_of history) = after_few spec [] (steps_of history) in omega (arith, a)

-- ---- a pass's share of a history

abbrev pub OwnAreFew : Type 0
OwnAreFew = (history : List Entry) (pass : ℕ) → length (own history pass) ≤ length history

pub own_few : OwnAreFew
own_few [] pass = omega arith
own_few (e ∷ history) pass = go (eqb e.pass pass) (own_few history pass)
  where
    go : (b : Bool) → length (own history pass) ≤ length history → length (cond b (e ∷ own history pass) (own history pass)) ≤ length (e ∷ history)
    go true h = omega (arith, h)
    go false h = omega (arith, h)
