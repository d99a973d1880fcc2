-- Parts to which entries are moved, one after another.
use Rattle.std.proofs.Common.{◌≡◌, ◌≢◌, ℕ, zero, suc, ◌+◌, ◌-◌, ◌<◌, ◌≤◌, List, [], ◌∷◌, ◌++◌, Some, length, refl, sym, ap, subst, ◌∙◌, inl, inr, arith, length-append, take}
use Rattle.rc_journal.proofs.Imports.{slice_set, slice_get, slice_index_or, cases_eq, append_assoc, same_Some, In, append_in_right, Entry, Placed, own_placed, placed, placed_from, own_end_mine, own_end_other, placed_from-append, PartEntries, pushed, pushed_at, with_placed}

pub pushed_is : (parts : List PartEntries) (n : ℕ) (w : Placed) (x y : PartEntries) → n < length parts → y ≡ pushed w (slice_index_or parts n x) → slice_set parts n y ≡ pushed_at n w parts
pushed_is [] n w x y lt made = absurd (omega (arith, lt))
pushed_is (part ∷ parts) zero w x y lt made = ap (λ z. z ∷ parts) made
pushed_is (part ∷ parts) (suc n) w x y lt made = ap (λ l. part ∷ l) (pushed_is parts n w x y (omega (arith, lt)) made)

pub length-pushed_at : (parts : List PartEntries) (n : ℕ) (w : Placed) → length (pushed_at n w parts) ≡ length parts
length-pushed_at [] n w = refl
length-pushed_at (part ∷ parts) zero w = refl
length-pushed_at (part ∷ parts) (suc n) w = ap suc (length-pushed_at parts n w)

-- the part of this number, and another
at_pushed : (parts : List PartEntries) (n : ℕ) (w : Placed) (x : PartEntries) → slice_get (pushed_at n w parts) n ≡ Some x → (part : PartEntries) × (slice_get parts n ≡ Some part) × (x ≡ pushed w part)
at_pushed [] n w x e = cc
at_pushed (part ∷ parts) zero w x e = (part, refl, sym (same_Some _ _ e))
at_pushed (part ∷ parts) (suc n) w x e = at_pushed parts n w x e

at_other : (parts : List PartEntries) (n k : ℕ) (w : Placed) → k ≢ n → slice_get (pushed_at n w parts) k ≡ slice_get parts k
at_other [] n k w apart = refl
at_other (part ∷ parts) zero zero w apart = absurd (apart refl)
at_other (part ∷ parts) zero (suc k) w apart = refl
at_other (part ∷ parts) (suc n) zero w apart = refl
at_other (part ∷ parts) (suc n) (suc k) w apart = at_other parts n k w (λ e. apart (ap suc e))

-- each part has the entries of its pass among those that were moved, and room for the others
abbrev pub HaveOwn : List Entry → List Entry → List PartEntries → Type 0
HaveOwn moved all parts = (pass : ℕ) (part : PartEntries) → slice_get parts pass ≡ Some part
    → (part.list ≡ own_placed moved pass) × (length (own_placed all pass) ≤ length part.list + part.spare)

-- those that are moved are some of all
own_grow : (moved rest : List Entry) (e : Entry) → suc (length (own_placed moved e.pass)) ≤ length (own_placed (moved ++ e ∷ rest) e.pass)
own_grow moved rest e =
    let whole : own_placed (moved ++ e ∷ rest) e.pass ≡ own_placed (moved ++ e ∷ []) e.pass ++ placed_from (0 + length (moved ++ e ∷ [])) rest e.pass =
    ap (λ l. own_placed l e.pass) (sym (append_assoc moved (e ∷ []) rest)) ∙ placed_from-append 0 (moved ++ e ∷ []) rest e.pass in
    let first : length (own_placed (moved ++ e ∷ []) e.pass) ≡ length (own_placed moved e.pass) + 1 =
    ap (λ (l : List Placed). length l) (own_end_mine e.pass moved e refl) ∙ length-append (own_placed moved e.pass) (placed (length moved) e ∷ []) in
    let sum = ap (λ (l : List Placed). length l) whole ∙ length-append (own_placed (moved ++ e ∷ []) e.pass) (placed_from (0 + length (moved ++ e ∷ [])) rest e.pass) in
    omega (arith, first, sum)

module _ (moved rest all : List Entry) (e : Entry) (parts : List PartEntries) (is : moved ++ e ∷ rest ≡ all) (have : HaveOwn moved all parts) where
  pub room_for_one : (part : PartEntries) → slice_get parts e.pass ≡ Some part → 1 ≤ part.spare
  room_for_one part at =
      let h = have e.pass part at in
      let few = h.1 in
      let long = ap (λ (l : List Placed). length l) h.0 in
      let more = subst (λ (l : List Entry). suc (length (own_placed moved e.pass)) ≤ length (own_placed l e.pass)) is (own_grow moved rest e) in
      omega (arith, few, long, more)

  pub one_moved : (place : ℕ) → place ≡ length moved → HaveOwn (moved ++ e ∷ []) all (with_placed place e parts)
  one_moved place here pass part at = elim (cases_eq pass e.pass) [
    | inl mine ↦
        (let x = at_pushed parts e.pass (placed place e) part (ap (slice_get (pushed_at e.pass (placed place e) parts)) (sym mine) ∙ at) in
        let h = have e.pass x.0 x.1 in
        let room = room_for_one x.0 x.1 in
        let few = h.1 in
        let list : part.list ≡ own_placed (moved ++ e ∷ []) e.pass = ap (λ (p : PartEntries). p.list) x.2 ∙ (λ i. h.0 i ++ placed (here i) e ∷ []) ∙ sym (own_end_mine e.pass moved e refl) in
        let spare : part.spare ≡ x.0.spare - 1 = ap (λ (p : PartEntries). p.spare) x.2 in
        let long : length part.list ≡ length x.0.list + 1 = ap (λ (p : PartEntries). length p.list) x.2 ∙ length-append x.0.list (placed place e ∷ []) in (
          list ∙ ap (own_placed (moved ++ e ∷ [])) (sym mine),
          subst (λ k. length (own_placed all k) ≤ length part.list + part.spare) (sym mine) (omega (arith, few, room, spare, long)),
        ))
    | inr apart ↦
        (let h = have pass part (sym (at_other parts e.pass pass (placed place e) apart) ∙ at) in
        (h.0 ∙ sym (own_end_other pass moved e (λ q. apart (sym q))), h.1))
  ]

pub all_moved : (moved all : List Entry) (parts : List PartEntries) → moved ≡ all → HaveOwn moved all parts
    → (pass : ℕ) (part : PartEntries) → slice_get parts pass ≡ Some part → part.list ≡ own_placed all pass
all_moved moved all parts is have pass part at = (have pass part at).0 ∙ ap (λ l. own_placed l pass) is

-- the next of those that are left is one of all
pub among : (moved rest all : List Entry) (e : Entry) → moved ++ e ∷ rest ≡ all → In e all
among moved rest all e is = subst (λ (l : List Entry). In e l) is (append_in_right e moved (e ∷ rest) (inl refl))

-- the first so many and one more, where they and these are all
pub take_more : (all rest : List Entry) (e : Entry) (n : ℕ) → length (take n all) ≡ n → take n all ++ e ∷ rest ≡ all → take (n + 1) all ≡ take n all ++ e ∷ []
take_more all rest e n long is =
    ap (take (n + 1)) (sym is ∙ sym (append_assoc (take n all) (e ∷ []) rest))
    ∙ take_whole (take n all ++ e ∷ []) rest (n + 1) (length-append (take n all) (e ∷ []) ∙ ap (λ k. k + 1) long)
  where
    take_whole : (xs ys : List Entry) (m : ℕ) → length xs ≡ m → take m (xs ++ ys) ≡ xs
    take_whole [] ys m l = ap (λ k. take k ys) (sym l)
    take_whole (x ∷ xs) ys zero l = absurd (omega (arith, l))
    take_whole (x ∷ xs) ys (suc m) l = ap (λ k. x ∷ k) (take_whole xs ys m (omega (arith, l)))
