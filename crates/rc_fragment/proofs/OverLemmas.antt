-- Tuples over some columns, cut from a flat list of their values.
use Rattle.std.specs.Prelude.{◌≡◌, ◌+◌, ◌<◌, ◌++◌, List, [], ◌∷◌, length, map}
use Rattle.rc_fragment.proofs.Imports.{flat_map, zip, append_assoc, append-nil, length-append, drop-append_seam, take-append_seam, Pairs, Values, HaveWidth}
use Rattle.std.proofs.Common.{refl, sym, ap, ◌∙◌, arith, inl, inr, take, drop}

-- of the lists' tuples those of the lists that are left in the flat list are still to come
pub record AreCut (cols rest : Values) (rows : List Pairs) (lists : List Values) : Type 0 where
  pub left : List Values
  pub width : HaveWidth (length cols) left
  pub values : rest ≡ flat_map (λ s. s) left
  pub come : rows ++ map (zip cols) left ≡ map (zip cols) lists

pub AreCut-next : (cols values rest : Values) (rows new : List Pairs) (lists : List Values) → length values ≡ length cols → 0 < length cols → AreCut cols (values ++ rest) rows lists → new ≡ rows ++ zip cols values ∷ [] → AreCut cols rest new lists
AreCut-next cols values rest rows new lists long some cut is = go cut.left cut.width cut.values cut.come
  where
    go : (left : List Values) → HaveWidth (length cols) left → values ++ rest ≡ flat_map (λ s. s) left → rows ++ map (zip cols) left ≡ map (zip cols) lists → AreCut cols rest new lists
    go [] width are come = absurd (
        let none : length (values ++ rest) ≡ 0 = ap length are in
        let both : length (values ++ rest) ≡ length values + length rest = length-append values rest in
        omega (arith, none, both, long, some))
    go (s ∷ left) width are come =
        let after : Values = flat_map (λ s. s) left in
        let same : length values ≡ length s = long ∙ sym (width s (inl refl)) in
        let own : values ≡ s = sym (take-append_seam values rest) ∙ (λ i. take (same i) (are i)) ∙ take-append_seam s after in
        let others : rest ≡ after = sym (drop-append_seam values rest) ∙ (λ i. drop (same i) (are i)) ∙ drop-append_seam s after in
        record {
          left = left;
          width = λ z m. width z (inr m);
          values = others;
          come = (λ i. (is ∙ ap (λ z. rows ++ zip cols z ∷ []) own) i ++ map (zip cols) left) ∙ append_assoc rows (zip cols s ∷ []) (map (zip cols) left) ∙ come;
        }

pub AreCut-all : (cols rest : Values) (rows : List Pairs) (lists : List Values) → length rest < length cols → AreCut cols rest rows lists → rows ≡ map (zip cols) lists
AreCut-all cols rest rows lists short cut = go cut.left cut.width cut.values cut.come
  where
    go : (left : List Values) → HaveWidth (length cols) left → rest ≡ flat_map (λ s. s) left → rows ++ map (zip cols) left ≡ map (zip cols) lists → rows ≡ map (zip cols) lists
    go [] width are come = sym (append-nil rows) ∙ come
    go (s ∷ left) width are come = absurd (
        let both : length rest ≡ length s + length (flat_map (λ (s : Values). s) left) = ap length are ∙ length-append s (flat_map (λ s. s) left) in
        let one : length s ≡ length cols = width s (inl refl) in
        omega (arith, short, both, one))
