-- A run of a plan over held stripes, statement by statement, against evaluation.
use Rattle.std.specs.Prelude.{◌≡◌, ℕ, List, [], ◌∷◌, Some}
use Rattle.rc_machine.proofs.Imports.{flat_map, nat_cmp, In, IsRising, gather, same_rising, rising_gather, in_gather, gather_in, in_map, map_in, in_flat_map, flat_map_in, Pairs, Call, Reply, Mode, Shared, Exclusive, Spec, IsSealed, Fits, EdgeRow, all_rows, edge_row_cmp, fragment_of, rows_on, row_stripe, edge_row_order, fragments_in, in_fragments, rising_fragments, plain, AreOfRelation, HeldStripe, Statement, IsPlanOf, eval, rows_as_taken, Serves, Suffices, stripes_of, AreAsTaken, HasEvaluated, HasServed, locks_of, rows_now, rows_taken, stripes_held, plan_serves}
use Rattle.std.proofs.Common.{inl, inr, refl, sym, ap, subst, ◌∙◌}

-- ---- held stripes, put together

pub stripes_named : (held : List HeldStripe) → stripes_of (locks_of held) ≡ stripes_held held
stripes_named [] = refl
stripes_named (h ∷ held) = ap (λ z. h.stripe ∷ z) (stripes_named held)

-- rows that are a relation's fragments on each stripe are its fragments of all
put_together : (spec : Spec) (r : List Pairs) (held : List HeldStripe) (part : HeldStripe → List EdgeRow) → ((h : HeldStripe) → In h held → part h ≡ fragment_of spec r h.stripe)
    → gather edge_row_cmp (flat_map part held) ≡ rows_on spec r (stripes_held held)
put_together spec r held part f =
    same_rising edge_row_cmp edge_row_order (gather edge_row_cmp (flat_map part held)) (rows_on spec r (stripes_held held)) (rising_gather edge_row_cmp edge_row_order (flat_map part held)) (rising_fragments spec r (stripes_held held))
    (λ w m.
    let q : (h : HeldStripe) × In h held × In w (part h) = in_flat_map part w held (in_gather edge_row_cmp edge_row_order w (flat_map part held) m) in
    let a : In w (all_rows spec r) × In (row_stripe spec w) (q.0.stripe ∷ []) = in_fragments spec r (q.0.stripe ∷ []) w (subst (In w) (f q.0 q.1) q.2) in
    fragments_in spec r (stripes_held held) w a.0
    (elim a.1 [ inl e ↦ subst (λ z. In z (stripes_held held)) (sym e) (map_in (λ (h : HeldStripe). h.stripe) q.0 held q.1) | inr z ↦ absurd z ]))
    (λ w m.
    let a : In w (all_rows spec r) × In (row_stripe spec w) (stripes_held held) = in_fragments spec r (stripes_held held) w m in
    let q : (h : HeldStripe) × In h held × (row_stripe spec w ≡ h.stripe) = in_map (λ (h : HeldStripe). h.stripe) (row_stripe spec w) held a.1 in
    gather_in edge_row_cmp edge_row_order w (flat_map part held) (flat_map_in part w q.0 held q.1 (subst (In w) (sym (f q.0 q.1)) (fragments_in spec r (q.0.stripe ∷ []) w a.0 (inl q.2)))))

pub taken_together : (spec : Spec) (r : List Pairs) (held : List HeldStripe) → AreOfRelation spec held r → rows_taken held ≡ rows_on spec r (stripes_held held)
taken_together spec r held a = put_together spec r held (λ (h : HeldStripe). h.taken) a.rows

pub now_together : (spec : Spec) (r : List Pairs) (held : List HeldStripe) → ((h : HeldStripe) → In h held → h.now ≡ fragment_of spec r h.stripe) → rows_now held ≡ rows_on spec r (stripes_held held)
now_together spec r held f = put_together spec r held (λ (h : HeldStripe). h.now) f

-- what is the same on some stripes is so on each
pub same_on_each : (spec : Spec) (r s : List Pairs) (stripes : List ℕ) → rows_on spec r stripes ≡ rows_on spec s stripes → (stripe : ℕ) → In stripe stripes → fragment_of spec r stripe ≡ fragment_of spec s stripe
same_on_each spec r s stripes e stripe m =
    same_rising edge_row_cmp edge_row_order (fragment_of spec r stripe) (fragment_of spec s stripe) (rising_fragments spec r (stripe ∷ [])) (rising_fragments spec s (stripe ∷ [])) (half r s e) (half s r (sym e))
  where
    half : (r s : List Pairs) → rows_on spec r stripes ≡ rows_on spec s stripes → (w : EdgeRow) → In w (fragment_of spec r stripe) → In w (fragment_of spec s stripe)
    half r s e w n =
        let a : In w (all_rows spec r) × In (row_stripe spec w) (stripe ∷ []) = in_fragments spec r (stripe ∷ []) w n in
        let k : In (row_stripe spec w) stripes = elim a.1 [ inl q ↦ subst (λ z. In z stripes) (sym q) m | inr z ↦ absurd z ] in
        fragments_in spec s (stripe ∷ []) w (in_fragments spec s stripes w (subst (In w) e (fragments_in spec r stripes w a.0 k))).0 a.1

-- ---- the end of a run

suffices_itself : (mode : Mode) → Suffices mode mode
suffices_itself Shared = tt
suffices_itself Exclusive = tt

module _ (spec : Spec) (sealed : IsSealed spec) (plan : List Statement) (call : Call) (fits : Fits spec call) (planned : IsPlanOf spec call.op plan) where
  -- a run that named exactly the held stripes serves its call
  pub serves : (r : List Pairs) (held : List HeldStripe) → AreOfRelation spec held r → (eval spec plan call (rows_on spec r (stripes_held held))).named ≡ locks_of held → Serves spec plan call r (locks_of held)
  serves r held a e =
      plan_serves spec sealed call fits plan planned r a.relation a.satisfies (locks_of held)
      (λ lock m. (lock.1, subst (In lock) (ap (λ z. (eval spec plan call (rows_on spec r z)).named) (stripes_named held) ∙ e) m, suffices_itself lock.1))

  module _ (held : List HeldStripe) (rises : IsRising nat_cmp (stripes_held held)) (answer : Reply)
      (named : (r : List Pairs) → AreOfRelation spec held r → (eval spec plan call (rows_on spec r (stripes_held held))).named ≡ locks_of held)
      (replied : (r : List Pairs) → AreOfRelation spec held r → (eval spec plan call (rows_on spec r (stripes_held held))).reply ≡ Some answer)
      (rows : (r : List Pairs) → AreOfRelation spec held r → (h : HeldStripe) → In h held → h.now ≡ fragment_of spec (plain spec r call).relation h.stripe) where
    at_held : (r : List Pairs) → rows_on spec r (stripes_of (locks_of held)) ≡ rows_on spec r (stripes_held held)
    at_held r = ap (rows_on spec r) (stripes_named held)

    same_answer : (x y : Reply) → Some x ≡ Some y → x ≡ y
    same_answer x y e = cc

    plain_answer : (r : List Pairs) → AreOfRelation spec held r → (plain spec r call).reply ≡ answer
    plain_answer r a = same_answer (plain spec r call).reply answer (sym (serves r held a (named r a)).reply ∙ ap (λ z. (eval spec plan call z).reply) (at_held r) ∙ replied r a)

    pub has_served : (r : List Pairs) → AreOfRelation spec held r → HasServed spec plan call held answer r
    has_served r a =
        let s : Serves spec plan call r (locks_of held) = serves r held a (named r a) in
        record {
          reply = plain_answer r a;
          touches = sym s.named ∙ ap (λ z. (eval spec plan call z).named) (at_held r) ∙ named r a;
          rows = rows r a;
          others = λ stripe n. s.others stripe (λ m. n (subst (In (stripe, Exclusive)) (ap (λ z. (eval spec plan call z).named) (at_held r) ∙ named r a) m));
        }

    pub has_evaluated : (r : List Pairs) → AreOfRelation spec held r → HasEvaluated spec plan call held answer
    has_evaluated r a =
        let s : Serves spec plan call r (locks_of held) = serves r held a (named r a) in
        let start : rows_taken held ≡ rows_on spec r (stripes_held held) = taken_together spec r held a in
        let after : rows_now held ≡ rows_on spec (plain spec r call).relation (stripes_held held) = now_together spec (plain spec r call).relation held (rows r a) in
        record {
          reply = ap (λ z. (eval spec plan call z).reply) start ∙ replied r a;
          named = ap (λ z. (eval spec plan call z).named) start ∙ named r a;
          rows = ap (λ z. (eval spec plan call z).rows) (start ∙ sym (at_held r)) ∙ s.rows ∙ at_held (plain spec r call).relation ∙ sym after;
          rising = rises;
          taken = ap (rows_as_taken spec call.args answer) after ∙ ap (λ x. rows_as_taken spec call.args x (rows_on spec (plain spec r call).relation (stripes_held held))) (sym (plain_answer r a))
              ∙ ap (rows_as_taken spec call.args (plain spec r call).reply) (sym (at_held (plain spec r call).relation)) ∙ s.taken ∙ at_held r ∙ sym start;
        }

  -- where nothing changed, a stripe has its rows of the relation after
  pub unchanged_rows : (held : List HeldStripe) → AreAsTaken held → (r : List Pairs) (a : AreOfRelation spec held r) → (eval spec plan call (rows_on spec r (stripes_held held))).named ≡ locks_of held
      → (eval spec plan call (rows_on spec r (stripes_held held))).rows ≡ rows_on spec r (stripes_held held) → (h : HeldStripe) → In h held → h.now ≡ fragment_of spec (plain spec r call).relation h.stripe
  unchanged_rows held same r a e f h m =
      let s : Serves spec plan call r (locks_of held) = serves r held a e in
      let at_held : (r : List Pairs) → rows_on spec r (stripes_of (locks_of held)) ≡ rows_on spec r (stripes_held held) = λ r. ap (rows_on spec r) (stripes_named held) in
      let all : rows_on spec r (stripes_held held) ≡ rows_on spec (plain spec r call).relation (stripes_held held) =
      sym f ∙ ap (λ z. (eval spec plan call z).rows) (sym (at_held r)) ∙ s.rows ∙ at_held (plain spec r call).relation in
      same h m ∙ a.rows h m ∙ same_on_each spec r (plain spec r call).relation (stripes_held held) all h.stripe (map_in (λ (h : HeldStripe). h.stripe) h held m)
