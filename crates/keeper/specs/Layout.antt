-- How two pages hold a record.
use Rattle.std.specs.Prelude.{◌≡◌, ℕ, ◌<◌, Option, Some, None, List, map, reverse, replicate, ◌==◌, ◌≢◌}
use Rattle.std.specs.List.{find, range_with_len}
use Rattle.keeper.specs.declared.entry.Entry.{Entry}
use Rattle.keeper.specs.Sizes.{record_count, record_length}

-- a record that was never written
abbrev pub blank : List ℕ
blank = replicate record_length 0

-- the content of each record, as a list of all of them
unfoldable pub listed : (ℕ → List ℕ) → List (List ℕ)
listed content = map content (range_with_len 0 record_count)

-- one record is replaced, and every other is as it was
abbrev pub Replaced : (ℕ → List ℕ) → (ℕ → List ℕ) → ℕ → List ℕ → Type 0
Replaced before after number content =
    (after number ≡ content) × ((k : ℕ) → k < record_count → (k ≢ number) → after k ≡ before k)

-- the latest entry with a record's number, of some in the order of their writing
abbrev pub latest_entry : List Entry → ℕ → Option Entry
latest_entry entries number = find (λ entry. entry.number == number) (reverse entries)

-- the content of an entry, or zeros where there is none
abbrev pub content_of : Option Entry → List ℕ
content_of None = blank
content_of (Some entry) = entry.content

-- what a page with such entries holds of a record: its latest entry, or zeros
abbrev pub latest : List Entry → ℕ → List ℕ
latest entries number = content_of (latest_entry entries number)
