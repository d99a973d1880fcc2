-- What a copy of the containers keeps of them.
use Rattle.std.specs.Prelude.{◌≡◌, ℕ, zero, suc, Bool, true, false, ◌<◌, cond, Option, None, Some, IsSome, List, [], ◌∷◌, ◌++◌, length}
use Rattle.rc_fragment.proofs.Imports.{option_map, find, get-empty, get-from_entries, length-map, Values, values_cmp, values_eq, Counted, Rows, AreApart, Form, form_in, kept_in, now_in, AreSame, AreSeenAlike, IsEmptied, SeenContainer, HaveForm, Sources, seen_container, sources_of, found_at, found_in, AreAlone, IsFragment, IsNoted, AreStored, IsStored, found_by, listing, shapes, HasRowValues, IsEmptiedAt, changes_of, key_of, noted_extra, source_of, HasValues, IsParted, row_from, Container, EdgeRows, Note, EdgeShape, get-written, values_order}
use Rattle.std.specs.FinMap as fin
use Rattle.std.proofs.Common.{refl, sym, ap, subst, ◌∙◌, inl, inr}
use Rattle.rc_fragment.proofs.ChangeLemmas.{same_listing}
use Rattle.rc_fragment.proofs.KeptLemmas.{there, there_by}
use Rattle.rc_fragment.proofs.ListingLemmas.{find_later}
use Rattle.rc_fragment.proofs.RowLemmas.{filed_now}

abbrev pub Seen : Type 0
Seen = Option SeenContainer

abbrev pub seen : Option Container → Seen
seen o = option_map seen_container o

-- the first, or else the second
abbrev pub or_else : Seen → Seen → Seen
or_else None p = p
or_else (Some f) p = Some f

-- what is left to be copied together with the copy is, as it is seen, what all containers are
abbrev pub IsCopied : Sources → List (Values × Container) → Sources → Type 0
IsCopied all left copy = (s : Values) → or_else (seen (find values_cmp s left)) (seen (fin.get copy s)) ≡ seen (fin.get all s)

pub IsCopied-none : (all : Sources) (es : List (Values × Container)) (copy : Sources) → fin.from_entries es ≡ all → copy ≡ fin.empty → IsCopied all es copy
IsCopied-none all es copy is none s =
    ap (λ (z : Sources). or_else (seen (find values_cmp s es)) (seen (fin.get z s))) none ∙ ap (λ o. or_else (seen (find values_cmp s es)) (seen o)) (get-empty values_cmp s)
    ∙ alone (find values_cmp s es) ∙ ap seen (sym (get-from_entries values_order.total es s) ∙ ap (λ (z : Sources). fin.get z s) is)
  where
    alone : (o : Option Container) → or_else (seen o) None ≡ seen o
    alone None = refl
    alone (Some c) = refl

pub IsCopied-more : (all : Sources) (e : Values × Container) (left : List (Values × Container)) (copy new : Sources) (w : Container) → AreApart (e ∷ left)
    → IsCopied all (e ∷ left) copy → new ≡ fin.insert copy e.0 w → seen_container w ≡ seen_container e.1 → IsCopied all left new
IsCopied-more all e left copy new w apart h set same s =
    ap (λ (z : Sources). or_else (seen (find values_cmp s left)) (seen (fin.get z s))) set
    ∙ ap (λ o. or_else (seen (find values_cmp s left)) (seen o)) (get-written copy e.0 (Some w) s) ∙ go (values_eq s e.0) refl ∙ h s
  where
    go : (b : Bool) → values_eq s e.0 ≡ b → or_else (seen (find values_cmp s left)) (seen (cond b (Some w) (fin.get copy s))) ≡ or_else (seen (cond (values_eq s e.0) (Some e.1) (find values_cmp s left))) (seen (fin.get copy s))
    go true t =
        ap (λ o. or_else (seen o) (Some (seen_container w))) (find_later e left s t apart) ∙ ap Some same
        ∙ sym (ap (λ b. or_else (seen (cond b (Some e.1) (find values_cmp s left))) (seen (fin.get copy s))) t)
    go false t = sym (ap (λ b. or_else (seen (cond b (Some e.1) (find values_cmp s left))) (seen (fin.get copy s))) t)

-- ---- where the same is seen the same is found

module _ (old new : Sources) (h : AreSeenAlike old new) where
  abbrev seen_at : (face : SeenContainer → Rows) → Option SeenContainer → Values → Option Counted
  seen_at face None k = None
  seen_at face (Some f) k = fin.get (face f) k

  pub found_same : (part : Container → Rows) (face : SeenContainer → Rows) → ((c : Container) → face (seen_container c) ≡ part c) → (s k : Values) → found_at part new s k ≡ found_at part old s k
  found_same part face is s k = sym (go (fin.get new s)) ∙ ap (λ o. seen_at face o k) (h s) ∙ go (fin.get old s)
    where
      go : (o : Option Container) → seen_at face (option_map seen_container o) k ≡ found_in part o k
      go None = refl
      go (Some c) = ap (λ (z : Rows). fin.get z k) (is c)

  pub forms_same : (form : Form) → HaveForm form old → HaveForm form new
  forms_same form all s c there = go (fin.get old s) refl (sym (ap (option_map seen_container) there) ∙ h s)
    where
      go : (o : Option Container) → fin.get old s ≡ o → Some (seen_container c) ≡ option_map seen_container o → form_in c ≡ form
      go None f p = absurd (cc)
      go (Some d) f p =
          let q : seen_container c ≡ seen_container d = cc in
          ap (λ (z : SeenContainer). z.1) q ∙ all s d f

  pub emptied_seen : (s : Values) → IsEmptied new s → IsEmptied old s
  emptied_seen s e = go (fin.get old s) refl (sym (ap (option_map seen_container) e.1) ∙ h s)
    where
      go : (o : Option Container) → fin.get old s ≡ o → Some (seen_container e.0) ≡ option_map seen_container o → IsEmptied old s
      go None f p = absurd (cc)
      go (Some d) f p =
          let q : seen_container e.0 ≡ seen_container d = cc in
          (d, f, sym (ap (λ (z : SeenContainer). z.0) q) ∙ e.2)

-- ---- copied edges

-- the same edges one by one
abbrev pub AreSameEdges : List EdgeRows → List EdgeRows → Type 0
AreSameEdges [] [] = Unit {0}
AreSameEdges [] (y ∷ ys) = ⊥
AreSameEdges (x ∷ xs) [] = ⊥
AreSameEdges (x ∷ xs) (y ∷ ys) = AreSame x y × AreSameEdges xs ys

pub same_push : (xs ys : List EdgeRows) (x y : EdgeRows) → AreSameEdges xs ys → AreSame x y → AreSameEdges (xs ++ x ∷ []) (ys ++ y ∷ [])
same_push [] [] x y h s = (s, tt)
same_push [] (b ∷ ys) x y h s = absurd h
same_push (a ∷ xs) [] x y h s = absurd h
same_push (a ∷ xs) (b ∷ ys) x y h s = (h.0, same_push xs ys x y h.1 s)

pub same_shapes : (xs ys : List EdgeRows) → AreSameEdges xs ys → shapes ys ≡ shapes xs
same_shapes [] [] h = refl
same_shapes [] (y ∷ ys) h = absurd h
same_shapes (x ∷ xs) [] h = absurd h
same_shapes (x ∷ xs) (y ∷ ys) h = λ i. h.0.shape i ∷ same_shapes xs ys h.1 i

pub same_found_kept : (xs ys : List EdgeRows) → AreSameEdges xs ys → (e : ℕ) (s k : Values) → found_by kept_in ys e s k ≡ found_by kept_in xs e s k
same_found_kept [] [] h e s k = refl
same_found_kept [] (y ∷ ys) h e s k = absurd h
same_found_kept (x ∷ xs) [] h e s k = absurd h
same_found_kept (x ∷ xs) (y ∷ ys) h zero s k = h.0.kept s k
same_found_kept (x ∷ xs) (y ∷ ys) h (suc e) s k = same_found_kept xs ys h.1 e s k

pub same_emptied : (xs ys : List EdgeRows) → AreSameEdges xs ys → (e : ℕ) (s : Values) → IsEmptiedAt ys e s → IsEmptiedAt xs e s
same_emptied [] [] h e s m = m
same_emptied [] (y ∷ ys) h e s m = absurd h
same_emptied (x ∷ xs) [] h e s m = absurd h
same_emptied (x ∷ xs) (y ∷ ys) h zero s m =
    let g : Some y ≡ Some m.0 = m.1 in
    let p : y ≡ m.0 = cc in
    (x, refl, h.0.emptied s (subst (λ (z : EdgeRows). IsEmptied (sources_of z) s) (sym p) m.2))
same_emptied (x ∷ xs) (y ∷ ys) h (suc e) s m = same_emptied xs ys h.1 e s m

stored_same : (x y : EdgeRows) → AreSame x y → IsStored x → IsStored y
stored_same x y h all = record {
  values = λ s k c there. subst (λ (z : EdgeShape). HasValues z (row_from z s k c.0) s k c.0) (sym h.shape) (all.values s k c (sym (h.kept s k) ∙ there));
  forms = h.forms;
  parted = subst IsParted (sym h.shape) all.parted;
}

pub same_stored : (xs ys : List EdgeRows) → AreSameEdges xs ys → AreStored xs → AreStored ys
same_stored [] [] h all y m = absurd m
same_stored [] (b ∷ ys) h all y m = absurd h
same_stored (a ∷ xs) [] h all y m = absurd h
same_stored (a ∷ xs) (b ∷ ys) h all y (inl p) = subst IsStored (sym p) (stored_same a b h.0 (all a (inl refl)))
same_stored (a ∷ xs) (b ∷ ys) h all y (inr m) = same_stored xs ys h.1 (λ x n. all x (inr n)) y m

-- edges that keep the same have the same rows there
pub same_found_now : (edges new : List EdgeRows) → ((e : ℕ) (s k : Values) → found_by kept_in new e s k ≡ found_by kept_in edges e s k) → (e : ℕ) (s k : Values) → found_by now_in new e s k ≡ found_by now_in edges e s k
same_found_now edges new kept e s k = there_by new e s k ∙ ap there (kept e s k) ∙ sym (there_by edges e s k)

pub same_rows_now : (edges new : List EdgeRows) → AreStored edges → AreStored new → shapes new ≡ shapes edges → ((e : ℕ) (s k : Values) → found_by kept_in new e s k ≡ found_by kept_in edges e s k)
    → listing now_in new ≡ listing now_in edges
same_rows_now edges new all stored same kept = same_listing now_in now_in new edges (filed_now new stored) (filed_now edges all) same (same_found_now edges new kept)

-- a fragment with the same edges and notes is one
pub same_fragment : (edges new : List EdgeRows) (notes : List Note) (values : Values) → IsFragment edges notes values → shapes new ≡ shapes edges → AreStored new
    → ((e : ℕ) (s k : Values) → found_by kept_in new e s k ≡ found_by kept_in edges e s k) → ((e : ℕ) (s : Values) → IsEmptiedAt new e s → IsEmptiedAt edges e s) → IsFragment new notes values
same_fragment edges new notes values all same stored kept emptied = record {
  stored = stored;
  noted = λ n m.
      let o : IsNoted edges values n.row = all.noted n m in
      record {
        edge = subst (λ z. n.row.edge < z) len o.edge;
        within = o.within;
        row = subst (λ z. HasRowValues z n.row.edge (source_of values n.row) (key_of values n.row) (noted_extra values n.row)) (sym same) o.row;
        kept = subst IsSome (sym (kept n.row.edge (source_of values n.row) (key_of values n.row))) o.kept;
      };
  alone = subst (λ z. AreAlone (shapes new) (changes_of (shapes new) values notes) z) (sym (same_rows_now edges new all.stored stored same kept))
      (subst (λ z. AreAlone z (changes_of z values notes) (listing now_in edges)) (sym same) all.alone);
  tombstones = λ place c there zero. all.tombstones place c (sym (kept place.0 place.1 place.2) ∙ there) zero;
  emptied = λ e s m. all.emptied e s (emptied e s m);
}
  where
    len : length edges ≡ length new
    len = sym (length-map edges (λ (z : EdgeRows). z.shape)) ∙ ap length (sym same) ∙ length-map new (λ (z : EdgeRows). z.shape)
