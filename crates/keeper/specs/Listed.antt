-- The records as a list, and their lengths.
use Rattle.std.specs.Prelude.{◌≡◌, ℕ, ◌<◌, Option, Some, None, List, [], map, length, slice_index_or}
use Rattle.std.proofs.Common.{sym, ap, ◌∙◌, arith}
use Rattle.std.specs.List.{range_with_len}
use Rattle.std.proofs.lemmas.List.FromFn.{length-map-range_with_len, get_or-map-range_with_len}
use Rattle.std.proofs.lemmas.List.{length-replicate}
use Rattle.keeper.specs.declared.entry.Entry.{Entry}
use Rattle.keeper.specs.Layout.{listed, content_of, latest_entry, latest}
use Rattle.keeper.specs.Sizes.{record_count, record_length}

-- over a number of records that is not a numeral, so that nothing is written out
told_counted : (size : ℕ) (f : ℕ → List ℕ) (n : ℕ) → n < size → f n ≡ slice_index_or (map f (range_with_len 0 size)) n []
told_counted size f n lt = sym (get_or-map-range_with_len f 0 size n n [] lt (omega arith))

pub told_listed : (f : ℕ → List ℕ) (n : ℕ) → n < record_count → f n ≡ slice_index_or (listed f) n []
unfolding listed
told_listed f n lt = told_counted record_count f n lt

pub count_listed : (f : ℕ → List ℕ) → length (listed f) ≡ record_count
unfolding listed
count_listed f = length-map-range_with_len f 0 record_count

-- what a page tells has the length of a record
content_length : (entry : Option Entry) → length (content_of entry) ≡ record_length
content_length None = length-replicate {A = ℕ} record_length 0
content_length (Some entry) = entry.whole

pub size_listed : (entries : List Entry) (k : ℕ) → k < record_count → length (slice_index_or (listed (latest entries)) k []) ≡ record_length
size_listed entries k lt = ap length (sym (told_listed (latest entries) k lt)) ∙ content_length (latest_entry entries k)
