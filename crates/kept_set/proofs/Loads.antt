-- Loading records one after the other.
use Rattle.std.proofs.Common.{◌≡◌, ℕ, suc, ◌+◌, ◌-◌, ◌<◌, List, [], ◌∷◌, length, get_or, take, drop, Some, None, sym, ap, ◌∙◌, arith}
use Rattle.std.proofs.lemmas.List.{drop_more}
use Rattle.timers.specs.Timers.{TimersView}
use Rattle.bar_record.specs.Reading.{told}
use Rattle.kept_set.specs.Trailer.{trailer_number}
use Rattle.kept_set.specs.Loading.{with_record, and_then, loaded}

-- the records from a number up to the trailer, one less at the front
records_more : (records : List (List ℕ)) (i : ℕ) → trailer_number < length records → i < trailer_number
    → take (trailer_number - i) (drop i records) ≡ get_or records i [] ∷ take (trailer_number - (i + 1)) (drop (i + 1) records)
records_more records i long h =
    let n : trailer_number - i ≡ suc (trailer_number - (i + 1)) = omega arith in
    ap (λ m. take m (drop i records)) n ∙ ap (take (suc (trailer_number - (i + 1)))) (drop_more records i [] (omega arith))

module _ (records : List (List ℕ)) (i : ℕ) (t : TimersView) (long : trailer_number < length records) (h : i < trailer_number) where
  left_over : loaded (take (trailer_number - i) (drop i records)) t ≡ and_then (loaded (take (trailer_number - (i + 1)) (drop (i + 1) records))) (with_record (told (get_or records i [])) t)
  left_over = ap (λ rs. loaded rs t) (records_more records i long h)

  -- a record that is restored, and one that is not
  pub loaded_more : (t' : TimersView) → Some t' ≡ with_record (told (get_or records i [])) t → loaded (take (trailer_number - (i + 1)) (drop (i + 1) records)) t' ≡ loaded (take (trailer_number - i) (drop i records)) t
  loaded_more t' e = sym (left_over ∙ ap (and_then (loaded (take (trailer_number - (i + 1)) (drop (i + 1) records)))) (sym e))

  pub loaded_not : None ≡ with_record (told (get_or records i [])) t → None ≡ loaded (take (trailer_number - i) (drop i records)) t
  loaded_not e = sym (left_over ∙ ap (and_then (loaded (take (trailer_number - (i + 1)) (drop (i + 1) records)))) (sym e))
