-- The entry of a name: "its aircraft identifier, and the number and byte length of its frame".
use Rattle.std.specs.Prelude.{ℕ, ◌+◌, ◌*◌, ◌/◌, ◌%◌}
use Rattle.book_entries.specs.declared.Entry.{Entry}
use Rattle.forward_names.specs.declared.Named.{Named}

abbrev pub entry_of : Named → ℕ → ℕ → Entry
entry_of n k b = record { high = n.text / 4294967296; low = n.text % 4294967296; number = k; shape = n.size * 1048576 + b }
