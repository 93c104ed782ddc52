-- What an entry more does to the records of a page, and what a whole page takes over.
use Rattle.std.proofs.Common.{◌≡◌, ℕ, ◌+◌, ◌<◌, ◌≤◌, ◌≢◌, true, Bool, nat_eq, Some, None, List, [], ◌∷◌, ◌++◌, map, reverse, set, replicate, sym, ap, arith}
use Rattle.std.specs.List.{find, range_with_len}
use Rattle.std.proofs.lemmas.List.FromFn.{length-map-range_with_len, get_or-map-range_with_len}
use Rattle.std.proofs.lemmas.List.{ext_get_or, length-set, length-replicate}
use Rattle.std.proofs.lemmas.Grind.{common_steps, elements}
use Rattle.std.proofs.lemmas.Bool.{eqb-true}
use Rattle.keeper.specs.declared.entry.Entry.{Entry}
use Rattle.keeper.specs.Layout.{Replaced, listed, blank, content_of, latest_entry, latest}
use Rattle.keeper.specs.Records.{blank_records}
use Rattle.keeper.specs.Sizes.{record_count}

-- over a number of records that is not a numeral, so that nothing is written out
replaced_counted : (size : ℕ) (f g : ℕ → List ℕ) (n : ℕ) (new : List ℕ) → n < size → g n ≡ new → ((k : ℕ) → k < size → (k ≢ n) → g k ≡ f k) → map g (range_with_len 0 size) ≡ set (map f (range_with_len 0 size)) n new
replaced_counted size f g n new lt e o =
    let a = length-map-range_with_len g 0 size in
    let b = length-map-range_with_len f 0 size in
    let s = length-set (map f (range_with_len 0 size)) n new in
    ext_get_or [] _ _ (omega arith) (λ i l. let other = o i in grind (arith, elements, get_or-map-range_with_len))

pub replaced_listed : (f g : ℕ → List ℕ) (n : ℕ) (new : List ℕ) → n < record_count → Replaced f g n new → listed g ≡ set (listed f) n new
unfolding listed
replaced_listed f g n new lt w = replaced_counted record_count f g n new lt w.0 w.1

blank_counted : (size : ℕ) (f : ℕ → List ℕ) (zeros : List ℕ) → ((n : ℕ) → n < size → f n ≡ zeros) → map f (range_with_len 0 size) ≡ replicate size zeros
blank_counted size f zeros e =
    let a = length-map-range_with_len f 0 size in
    let b = length-replicate size zeros in
    ext_get_or [] _ _ (omega arith) (λ i l. let told = e i in grind (arith, elements, get_or-map-range_with_len))

pub blank_listed : (f : ℕ → List ℕ) → ((n : ℕ) → n < record_count → f n ≡ blank) → listed f ≡ blank_records
unfolding listed
blank_listed f e = blank_counted record_count f blank e

-- one entry more
entered : (entries : List Entry) (entry : Entry) → Replaced (latest entries) (latest (entries ++ entry ∷ [])) entry.number entry.content
entered entries entry = (grind (arith, common_steps), λ k lt ne. grind (arith, common_steps))

-- what is found passes the test
found : (p : Entry → Bool) (entries : List Entry) (y : Entry) → find p entries ≡ Some y → p y ≡ true
found p [] y e = cc
found p (x ∷ entries) y e = let later = found p entries y in grind (arith, common_steps, later)

-- what is gathered so far: the records below n are taken over, and of the others there is nothing yet
abbrev pub Gathered : (ℕ → List ℕ) → (ℕ → List ℕ) → ℕ → Type 0
Gathered f g n = ((k : ℕ) → k < n → g k ≡ f k) × ((k : ℕ) → n ≤ k → k < record_count → g k ≡ blank)

module _ (from here : List Entry) (n : ℕ) (lt : n < record_count) (old : Gathered (latest from) (latest here) n) where
  pub gathered_entry : (entry : Entry) → Some entry ≡ latest_entry from n → Gathered (latest from) (latest (here ++ entry ∷ [])) (n + 1)
  gathered_entry entry e =
      let wrote = entered here entry in
      let q : entry.number ≡ n = eqb-true entry.number n (found (λ x. nat_eq x.number n) (reverse from) entry (sym e)) in
      let same : latest from n ≡ entry.content = ap content_of (sym e) in
      (λ k l. grind (arith, wrote.1 k, old.0 k), λ k l u. grind (arith, wrote.1 k, old.1 k))

  pub gathered_none : None ≡ latest_entry from n → Gathered (latest from) (latest here) (n + 1)
  gathered_none e =
      let same : latest from n ≡ blank = ap content_of (sym e) in
      (λ k l. grind (arith, old.0 k, old.1 k), λ k l u. old.1 k (omega arith) u)
