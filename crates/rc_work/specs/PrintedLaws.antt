-- Texts are printed as they were written.
use Rattle.std.proofs.Common.{◌≡◌, ℕ, List, [], Option, Some, None, get_or, refl, ap}
use Rattle.rc_work.specs.Imports.{slice_get, unwrap_or, In, quoted, rank_of, slice_get-rank_of, rank_of-within, not_in-rank_of}
use Rattle.std.proofs.lemmas.Option.{slice_get-get_or}
use Rattle.rc_spec.specs.declared.items.ColKind.TheVariants as kinds
use Rattle.rc_work.specs.declared.raw.RawValue.TheVariants as raw
use Rattle.rc_work.specs.Printed.{value_text}
use Rattle.rc_work.specs.Ranking.{ranked_value}

-- the printed text of a text's rank is the text in quotes
abbrev pub TextsPrintAsWritten : Type 0
TextsPrintAsWritten = (texts : List (List ℕ)) (t : List ℕ) → In t texts → value_text kinds.Text texts (ranked_value texts (raw.Text t)) ≡ quoted t

one_item : (t u : List ℕ) (o : Option (List ℕ)) → o ≡ Some t → o ≡ Some u → u ≡ t
one_item t u o e f = cc

pub texts_print_as_written : TextsPrintAsWritten
texts_print_as_written texts t m = go (rank_of texts t) refl
  where
    go : (o : Option ℕ) → rank_of texts t ≡ o → quoted (get_or texts (unwrap_or o 0) []) ≡ quoted t
    go None e = absurd (not_in-rank_of texts t e m)
    go (Some rank) e =
        ap quoted (one_item t (get_or texts rank []) (slice_get texts rank) (slice_get-rank_of texts t rank e) (slice_get-get_or texts rank [] (rank_of-within texts t rank e)))
