use Rattle.rc_values.specs.RanksLaws.{rank_of-slice_get, slice_get-rank_of, rising_texts_of, known-texts_of}
use Rattle.rc_values.proofs.laws.ranks_are_places.Goals as goal

pub returns : goal.returns
returns c = record {
  known = known-texts_of;
  rising = rising_texts_of;
  back = λ texts t rank rising. (slice_get-rank_of texts t rank, rank_of-slice_get texts t rank rising);
}
