-- A contraction keeps the rules of the edges and of the columns.
use Rattle.std.proofs.Common.{◌≡◌, ◌==◌, ◌⊎◌, ℕ, ◌+◌, ◌-◌, ◌<◌, Bool, true, false, if◌then◌else◌, nat_lt, List, Some, get_or, length, take, sym, ap, ◌∙◌, subst, refl, inl, inr, arith}
use Rattle.rc_inline.proofs.Imports.{remove, cases_eq, eq-eqb, eqb-true, eqb-false, ltb-true, ltb-false, ne_eqb, length-map, length-remove, Within, inter, in_inter, inter_in, Follows, In, get_or_in, follows_by, follows_subset, follows_transitive, follows_union, follows_weaker, Edge, EdgeKind, Hash, Ordered, Singleton, Spec, IsSealed, IsAdequate, IsLossless, IsReachedBy, KeepsA3, KeepsA4, KeepsA5, KeepsA7, visited, bound, edge_at, no_edge, source_and_key, contracted, first_inlinable, is_singleton, rejoined, renumbered, others_fail}
use Rattle.rc_spec.specs.declared.items.EdgeKind.TheVariants.{List as Listed}
use Rattle.rc_inline.proofs.BackLemmas.{before, before_renumbered, get_removed}
use Rattle.rc_inline.proofs.ContractionLemmas.{fewer, found_known, is_single, one_in, renumbered_below}
use Rattle.rc_inline.proofs.EdgeLemmas.{from_other, key_kept, led_wider, source_and_key_kept, source_kept, target_kept}
use Rattle.rc_inline.proofs.GraphLemmas.{a1_kept, a2_kept, not_root, renumbered_root}
use Rattle.rc_inline.proofs.KeptLemmas.{edge_kept, edge_within, within}
use Rattle.rc_inline.proofs.VisitedLemmas.{Leads, Visits, in_targets, in_visited, targets_in, visited_in}

singleton_is : (kind : EdgeKind) → is_singleton kind ≡ true → kind ≡ Singleton
singleton_is Hash is = absurd cc
singleton_is Ordered is = absurd cc
singleton_is Listed is = absurd cc
singleton_is Singleton is = refl

-- what is left keeps its order
renumbered_lower : (gone j k : ℕ) → (j ≡ gone → ⊥) → j < before gone k → renumbered gone j < k
renumbered_lower gone j k other l = go (nat_lt gone j) refl (nat_lt k gone) refl l
  where
    go : (a : Bool) → nat_lt gone j ≡ a → (b : Bool) → nat_lt k gone ≡ b → j < (if b then k else k + 1) → (if a then j - 1 else j) < k
    go true e true h l = let x = ltb-true gone j e in let y = ltb-true k gone h in omega (arith, x, y, l)
    go true e false h l = let x = ltb-true gone j e in omega (arith, x, l)
    go false e true h l = l
    go false e false h l = let x = ltb-false gone j e in let y = ltb-false k gone h in omega (arith, x, y, l, other)

before_lower : (gone j k : ℕ) → j < k → before gone j < before gone k
before_lower gone j k l = go (nat_lt j gone) refl (nat_lt k gone) refl
  where
    go : (a : Bool) → nat_lt j gone ≡ a → (b : Bool) → nat_lt k gone ≡ b → (if a then j else j + 1) < (if b then k else k + 1)
    go true e true h = l
    go true e false h = omega (arith, l)
    go false e true h = let x = ltb-false j gone e in let y = ltb-true k gone h in omega (arith, x, y, l)
    go false e false h = omega (arith, l)

-- another element stays
other_in : {A : Type 0} (xs : List A) (gone j : ℕ) (d : A) → gone < length xs → j < length xs → (j ≡ gone → ⊥) → In (get_or xs j d) (remove xs gone)
other_in xs gone j d within l other =
    let count = length-remove xs gone within in
    subst (λ x. In x (remove xs gone)) (get_removed xs gone (renumbered gone j) d within ∙ ap (λ i. get_or xs i d) (before_renumbered gone j other))
    (get_or_in (remove xs gone) (renumbered gone j) d
    (renumbered_below gone j (length (remove xs gone)) other (omega (arith, l, count)) (omega (arith, within, count))))

module _ (spec : Spec) (f : ℕ) (sealed : IsSealed spec) (found : first_inlinable spec ≡ Some f) where
  abbrev after : Spec
  after = contracted spec f

  abbrev gone : Edge
  gone = edge_at spec f

  abbrev had : ℕ → Edge
  had k = edge_at spec (before f k)

  abbrev led : Edge → ℕ
  led e = if e.to == gone.from then gone.to else e.to

  abbrev fits : (k : ℕ) → k < length after.edges → before f k < length spec.edges
  fits k l = edge_within spec f sealed found k l

  known : f < length spec.edges
  known = found_known spec f sealed found

  -- ---- what follows

  gone_follows : Follows spec.deps (bound spec gone.from) (bound spec gone.to)
  gone_follows =
      let single = singleton_is gone.kind (is_single spec f sealed found) in
      follows_transitive spec.deps (bound spec gone.from) (source_and_key spec gone) (bound spec gone.to)
      (follows_union spec.deps (bound spec gone.from) (bound spec gone.from) gone.key
      (follows_subset spec.deps (bound spec gone.from) (bound spec gone.from) (λ c m. m))
      ((sealed.accepted.adequate.a5 f known).singleton single))
      (sealed.accepted.adequate.a4 f known)

  led_follows : (e : Edge) → Follows spec.deps (bound spec e.to) (bound spec (led e))
  led_follows e = go (e.to == gone.from) refl
    where
      go : (b : Bool) → (e.to == gone.from) ≡ b → Follows spec.deps (bound spec e.to) (bound spec (if b then gone.to else e.to))
      go true is = subst (λ v. Follows spec.deps (bound spec v) (bound spec gone.to)) (sym (eqb-true e.to gone.from is)) gone_follows
      go false is = follows_subset spec.deps (bound spec e.to) (bound spec e.to) (λ c m. m)

  -- ---- A3 to A5

  a3_kept : (k : ℕ) → k < length after.edges → KeepsA3 after (edge_at after k)
  a3_kept k l =
      let rule = sealed.accepted.adequate.a3 (before f k) (fits k l) in
      record {
        apart = λ c m n. rule.apart c (subst (In c) (key_kept spec f sealed found k l) m) (subst (In c) (source_kept spec f sealed found k l) n);
        inside = λ c m.
            subst (In c) (sym (target_kept spec f sealed found k l))
            (led_wider spec f sealed found (had k) c (rule.inside c (subst (In c) (source_and_key_kept spec f sealed found k l) m)));
      }

  a4_kept : (k : ℕ) → k < length after.edges → KeepsA4 after (edge_at after k)
  a4_kept k l =
      subst (Follows spec.deps (source_and_key after (edge_at after k))) (sym (target_kept spec f sealed found k l))
      (subst (λ cols. Follows spec.deps cols (bound spec (led (had k)))) (sym (source_and_key_kept spec f sealed found k l))
      (follows_transitive spec.deps (source_and_key spec (had k)) (bound spec (had k).to) (bound spec (led (had k)))
      (sealed.accepted.adequate.a4 (before f k) (fits k l)) (led_follows (had k))))

  a5_kept : (k : ℕ) → k < length after.edges → KeepsA5 after (edge_at after k)
  a5_kept k l =
      let rule = sealed.accepted.adequate.a5 (before f k) (fits k l) in
      let kind = ap (λ (e : Edge). e.kind) (edge_kept spec f sealed found k l) in
      record {
        no_key = λ none. kind ∙ rule.no_key (sym (key_kept spec f sealed found k l) ∙ none);
        singleton = λ is.
            subst (Follows spec.deps (bound after (edge_at after k).from)) (sym (key_kept spec f sealed found k l))
            (subst (λ cols. Follows spec.deps cols (had k).key) (sym (source_kept spec f sealed found k l)) (rule.singleton (sym kind ∙ is)));
      }

  -- ---- the edge that led to the source

  -- it stands before the edge that is gone
  entering : Leads spec f gone.from
  entering = elim (sealed.accepted.adequate.a6 f known).reached [
    | inl root ↦ absurd (not_root spec f sealed found root)
    | inr reached ↦ in_targets spec f gone.from reached
  ]

  abbrev first : ℕ
  first = entering.0

  first_within : first < length spec.edges
  first_within = entering.2

  first_other : first ≡ f → ⊥
  first_other same = let l = entering.1 in omega (arith, l, same)

  -- no other edge leads there
  alone : (j : ℕ) → j < length spec.edges → (edge_at spec j).to ≡ gone.from → j ≡ first
  alone j l to = elim (cases_eq j first) [
    | inl same ↦ same
    | inr apart ↦
        absurd
        (eqb-false (edge_at spec j).to gone.from
        (others_fail (λ (e : Edge). e.to == gone.from) spec.edges first no_edge first_within (eq-eqb (edge_at spec first).to gone.from entering.3)
        (one_in spec f sealed found) (edge_at spec j) (other_in spec.edges first j no_edge first_within l apart))
        to)
  ]

  led_there : (e : Edge) → e.to ≡ gone.from → led e ≡ gone.to
  led_there e to = ap (λ b. if b then gone.to else e.to) (eq-eqb e.to gone.from to)

  led_elsewhere : (e : Edge) → (e.to ≡ gone.from → ⊥) → led e ≡ e.to
  led_elsewhere e apart = ap (λ b. if b then gone.to else e.to) (ne_eqb e.to gone.from apart)

  -- ---- an edge that stays, by its number now

  now_within : (j : ℕ) → j < length spec.edges → (j ≡ f → ⊥) → renumbered f j < length after.edges
  now_within j l other =
      let count = fewer spec f sealed found in
      let same = length-map (remove spec.edges f) (rejoined gone) in
      let within = known in
      let lower = renumbered_below f j (length (remove spec.edges f)) other (omega (arith, l, count)) (omega (arith, within, count)) in
      omega (arith, lower, same)

  edge_now : (j : ℕ) → j < length spec.edges → (j ≡ f → ⊥) → edge_at after (renumbered f j) ≡ rejoined gone (edge_at spec j)
  edge_now j l other =
      edge_kept spec f sealed found (renumbered f j) (now_within j l other)
      ∙ ap (λ i. rejoined gone (edge_at spec i)) (before_renumbered f j other)

  target_now : (j : ℕ) → j < length spec.edges → (j ≡ f → ⊥) → bound after (edge_at after (renumbered f j)).to ≡ bound spec (led (edge_at spec j))
  target_now j l other =
      target_kept spec f sealed found (renumbered f j) (now_within j l other)
      ∙ ap (λ i. bound spec (led (edge_at spec i))) (before_renumbered f j other)

  -- ---- A6 and A7

  -- what some edges visited is visited by those of them that stay
  visited_still : (n k : ℕ) → ((j : ℕ) → j < n → (j ≡ f → ⊥) → renumbered f j < k) → Within (visited spec n) (visited after k)
  visited_still n k lower c m = go (in_visited spec n c m)
    where
      go : Visits spec n c → In c (visited after k)
      go (j, l, w, at) = elim (cases_eq j f) [
        | inl same ↦
            let below = entering.1 in
            visited_in after k c (
              renumbered f first,
              lower first (omega (arith, below, l, same)) first_other,
              now_within first first_within first_other,
              subst (In c) (sym (target_now first first_within first_other ∙ ap (bound spec) (led_there (edge_at spec first) entering.3)))
                  (subst (λ i. In c (bound spec (edge_at spec i).to)) same at),
            )
        | inr other ↦
            visited_in after k c (
              renumbered f j,
              lower j l other,
              now_within j w other,
              subst (In c) (sym (target_now j w other)) (led_wider spec f sealed found (edge_at spec j) c at),
            )
      ]

  -- and nothing else but what the target of the edge that is gone binds, once an edge led to its source
  visited_more : (k c : ℕ) → In c (visited after k) → In c (visited spec (before f k)) ⊎ ((first < before f k) × In c (bound spec gone.to))
  visited_more k c m = go (in_visited after k c m)
    where
      go : Visits after k c → In c (visited spec (before f k)) ⊎ ((first < before f k) × In c (bound spec gone.to))
      go (j, l, w, at) = pick ((had j).to == gone.from) refl (subst (In c) (target_kept spec f sealed found j w) at)
        where
          pick : (b : Bool) → ((had j).to == gone.from) ≡ b → In c (bound spec (if b then gone.to else (had j).to))
              → In c (visited spec (before f k)) ⊎ ((first < before f k) × In c (bound spec gone.to))
          pick true is inside =
              inr (subst (λ i. i < before f k) (alone (before f j) (fits j w) (eqb-true (had j).to gone.from is)) (before_lower f j k l), inside)
          pick false is inside = inl (visited_in spec (before f k) c (before f j, before_lower f j k l, fits j w, inside))

  source_visited : (n : ℕ) → first < n → Within (bound spec gone.from) (visited spec n)
  source_visited n l c m = visited_in spec n c (first, l, first_within, subst (λ v. In c (bound spec v)) (sym entering.3) m)

  lossless_kept : (k : ℕ) → k < length after.edges → IsLossless after (visited after k) (bound after (edge_at after k).to)
  lossless_kept k l =
      let were = visited spec (before f k) in
      let target = bound spec (had k).to in
      let are = visited after k in
      let now = bound after (edge_at after k).to in
      let common : Within (inter were target) (inter are now) = (λ c m.
      let both = in_inter were target c m in
      inter_in are now c
      (visited_still (before f k) k (λ j m other. renumbered_lower f j k other m) c both.0)
      (subst (In c) (sym (target_kept spec f sealed found k l)) (led_wider spec f sealed found (had k) c both.1))) in
      let weaker : (xs ys : List ℕ) → Within ys xs → Follows spec.deps (inter were target) xs → Follows spec.deps (inter are now) ys =
      (λ xs ys inside. follows_weaker spec.deps spec.deps (inter were target) (inter are now) xs ys (λ d m. m) common inside) in
      elim (sealed.accepted.adequate.a6 (before f k) (fits k l)).lossless [
        | inl follows ↦
            inl (follows_by spec.deps (inter are now) are (λ c m. elim (visited_more k c m) [
              | inl visited ↦ (were, visited, weaker were were (λ c m. m) follows)
              | inr beyond ↦ (
                bound spec gone.to,
                beyond.1,
                follows_transitive spec.deps (inter are now) (bound spec gone.from) (bound spec gone.to)
                    (weaker were (bound spec gone.from) (source_visited (before f k) beyond.0) follows) gone_follows,
              )
            ]))
        | inr follows ↦
            inr (subst (Follows spec.deps (inter are now)) (sym (target_kept spec f sealed found k l))
            (follows_transitive spec.deps (inter are now) target (bound spec (led (had k))) (weaker target target (λ c m. m) follows) (led_follows (had k))))
      ]

  reached_kept : (k : ℕ) → k < length after.edges → IsReachedBy (take k after.edges) (edge_at after k).from
  reached_kept k l = elim (sealed.accepted.adequate.a6 (before f k) (fits k l)).reached [
    | inl root ↦ inl (begins ∙ ap (renumbered gone.from) root ∙ renumbered_root gone.from)
    | inr reached ↦ inr (targets_in after k (edge_at after k).from (go (in_targets spec (before f k) (had k).from reached)))
  ]
    where
      begins : (edge_at after k).from ≡ renumbered gone.from (had k).from
      begins = ap (λ (e : Edge). e.from) (edge_kept spec f sealed found k l)

      go : Leads spec (before f k) (had k).from → Leads after k (edge_at after k).from
      go (j, m, w, to) = elim (cases_eq j f) [
        | inl same ↦
            let below = entering.1 in
            let meets : gone.to ≡ (had k).from = ap (λ i. (edge_at spec i).to) (sym same) ∙ to in (
              renumbered f first,
              renumbered_lower f first k first_other (omega (arith, below, m, same)),
              now_within first first_within first_other,
              ap (λ (e : Edge). e.to) (edge_now first first_within first_other)
                  ∙ ap (renumbered gone.from) (led_there (edge_at spec first) entering.3 ∙ meets) ∙ sym begins,
            )
        | inr other ↦ (
          renumbered f j,
          renumbered_lower f j k other m,
          now_within j w other,
          ap (λ (e : Edge). e.to) (edge_now j w other)
              ∙ ap (renumbered gone.from) (led_elsewhere (edge_at spec j) (λ e. from_other spec f sealed found k l (sym to ∙ e)) ∙ to)
              ∙ sym begins,
        )
      ]

  a7_kept : (c : ℕ) → c < length after.columns → KeepsA7 after c
  a7_kept c l = visited_still (length spec.edges) (length after.edges) now_within c (sealed.accepted.adequate.a7 c l)

  pub adequate_kept : IsAdequate after
  adequate_kept = record {
    a1 = a1_kept spec f sealed found;
    a2 = a2_kept spec f sealed found;
    a3 = a3_kept;
    a4 = a4_kept;
    a5 = a5_kept;
    a6 = λ k l. record { reached = reached_kept k l; lossless = lossless_kept k l };
    a7 = a7_kept;
  }
