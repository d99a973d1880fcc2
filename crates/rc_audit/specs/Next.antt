-- What comes next in a run whose first entries are done: the next turn of a thread that has one left, with the plain replies.
use Rattle.std.proofs.Common.{◌≡◌, ℕ, suc, ◌+◌, cond, List, [], ◌∷◌, ◌++◌, get_or, length, map, refl, sym, ap, ◌∙◌, subst, arith}
use Rattle.rc_audit.specs.Imports.{range_with_len, Pairs, Spec, Call, plain, Step, Entry, AreLegalFrom, IsLegal, IsNumbered, after_steps, own, replay, steps_of, steps_of-append, own-append, Turn, Work, entry_after, plain_steps, legal_are_plain, MakesRounds, Runs}
use Rattle.std.proofs.lemmas.Bool.{eq-eqb}
use Rattle.std.proofs.lemmas.List.{length-append, length-map, map-append}
use Rattle.std.proofs.lemmas.List.FromFn.{get_or-range_with_len}
use Rattle.rc_audit.specs.Left.{NoneLeft}
use Rattle.rc_audit.specs.LeftLaws.{rest_begins, rest_none_left, turn_of}
use Rattle.rc_audit.specs.Standing.{Stands}

-- ---- the number of an entry

at_end : (xs ys : List ℕ) (x d : ℕ) → get_or (xs ++ x ∷ ys) (length xs) d ≡ x
at_end [] ys x d = refl
at_end (y ∷ xs) ys x d = at_end xs ys x d

-- in a numbered history an entry has its pass's next number
number_at : (done others : List Entry) (e : Entry) → IsNumbered (done ++ e ∷ others) → e.nth ≡ length (own done e.pass)
number_at done others e numbered =
    let before = map (λ (x : Entry). x.nth) (own done e.pass) in
    let behind = map (λ (x : Entry). x.nth) (own others e.pass) in
    let mine : own (e ∷ others) e.pass ≡ e ∷ own others e.pass =
    ap (λ b. cond b (e ∷ own others e.pass) (own others e.pass)) (eq-eqb e.pass e.pass refl) in
    let all : own (done ++ e ∷ others) e.pass ≡ own done e.pass ++ e ∷ own others e.pass =
    own-append done (e ∷ others) e.pass ∙ ap (λ l. own done e.pass ++ l) mine in
    let numbers : before ++ e.nth ∷ behind ≡ range_with_len 0 (length (own (done ++ e ∷ others) e.pass)) =
    sym (map-append (λ (x : Entry). x.nth) (own done e.pass) (e ∷ own others e.pass)) ∙ sym (ap (map (λ (x : Entry). x.nth)) all) ∙ numbered e.pass in
    let count : length before ≡ length (own done e.pass) = length-map (own done e.pass) (λ (x : Entry). x.nth) in
    let long : length (own (done ++ e ∷ others) e.pass) ≡ length (own done e.pass) + suc (length (own others e.pass)) =
    ap length all ∙ length-append (own done e.pass) (e ∷ own others e.pass) in
    let at : e.nth ≡ get_or (range_with_len 0 (length (own (done ++ e ∷ others) e.pass))) (length before) 0 =
    sym (at_end before behind e.nth 0) ∙ ap (λ l. get_or l (length before) 0) numbers in
    let found = get_or-range_with_len 0 (length (own (done ++ e ∷ others) e.pass)) (length before) 0 (omega (arith, count, long)) in
    omega (arith, at, found, count)

-- ---- its steps

legal_later : (spec : Spec) (r : List Pairs) (xs ys : List Step) → AreLegalFrom spec r (xs ++ ys) → AreLegalFrom spec (after_steps spec r xs) ys
legal_later spec r [] ys h = h
legal_later spec r (x ∷ xs) ys h = legal_later spec (plain spec r x.call).relation xs ys h.1

legal_first : (spec : Spec) (r : List Pairs) (xs ys : List Step) → AreLegalFrom spec r (xs ++ ys) → AreLegalFrom spec r xs
legal_first spec r [] ys h = tt
legal_first spec r (x ∷ xs) ys h = (h.0, legal_first spec (plain spec r x.call).relation xs ys h.1)

-- in a legal history an entry has the plain replies
steps_at : (spec : Spec) (done others : List Entry) (e : Entry) → IsLegal spec (done ++ e ∷ others) → e.steps ≡ plain_steps spec (replay spec done) (turn_of e)
steps_at spec done others e legal =
    let parts : AreLegalFrom spec [] (steps_of done ++ steps_of (e ∷ others)) =
    subst (AreLegalFrom spec []) (steps_of-append done (e ∷ others)) legal in
    let here : AreLegalFrom spec (replay spec done) (e.steps ++ steps_of others) = legal_later spec [] (steps_of done) (steps_of (e ∷ others)) parts in
    legal_are_plain spec (replay spec done) e.steps (legal_first spec (replay spec done) e.steps (steps_of others) here)

-- ---- what comes next

-- the first of these entries is the next turn of its thread, with the plain replies
pub record ComesNext (spec : Spec) (done : List Entry) (left : ℕ → List (List Call)) (more : List Entry) : Type 0 where
  pub first : Entry
  pub others : List Entry
  pub whole : more ≡ first ∷ others
  pub later : List (List Call)
  pub mine : left first.pass ≡ turn_of first ∷ later
  pub is : first ≡ entry_after spec done first.pass (turn_of first)

module _ (spec : Spec) (work : Work) (done : List Entry) (left : ℕ → List (List Call)) (rounds : List (List Turn)) (stands : Stands spec work done left rounds) where
  -- where a thread has a turn left, a run goes on by the next turn of some thread
  pub stands_next : (thread : ℕ) (c : List Call) (cs : List (List Call)) → left thread ≡ c ∷ cs → (more : List Entry) → Runs spec work (done ++ more)
      → ComesNext spec done left more
  stands_next thread c cs some more run =
      let begun = rest_begins left rounds more thread c cs some (stands.rest more run.rounds) in
      let e = begun.first in
      let whole : done ++ more ≡ done ++ e ∷ begun.others = ap (λ l. done ++ l) begun.whole in
      let number = number_at done begun.others e (subst IsNumbered whole run.numbered) in
      let steps = steps_at spec done begun.others e (subst (IsLegal spec) whole run.legal) in
      record {
        first = e;
        others = begun.others;
        whole = begun.whole;
        later = begun.later;
        mine = begun.mine;
        is = λ i. record { pass = e.pass; nth = number i; steps = steps i };
      }

  -- where nothing is left at all, a run does not go on
  pub stands_end : NoneLeft left → rounds ≡ [] → (more : List Entry) → Runs spec work (done ++ more) → more ≡ []
  stands_end none last more run =
      let made : MakesRounds rounds more = rest_none_left left rounds more none (stands.rest more run.rounds) in
      subst (λ rs. MakesRounds rs more) last made
