-- The sizes of a keeper, and of its two makes.
use Rattle.std.specs.Prelude.{ℕ, ◌+◌, ◌*◌}

-- records are numbered from 0
abbrev pub record_count : ℕ
record_count = 97

-- octets of a record
abbrev pub record_length : ℕ
record_length = 128

-- octets of all records, one behind the other
abbrev pub image_length : ℕ
image_length = record_count * record_length

-- entries of a page
abbrev pub page_entries : ℕ
page_entries = 128

-- octets of an entry: the record's number and its content
abbrev pub entry_length : ℕ
entry_length = 1 + record_length

-- octets of a page
abbrev pub page_length : ℕ
page_length = page_entries * entry_length
