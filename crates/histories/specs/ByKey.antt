-- Entries by a key of theirs.
use Rattle.std.specs.Prelude.{Bool, List, filter}
use Rattle.histories.specs.declared.entry.Entry.{Entry}

-- the entries with the key, in order
unfoldable pub with_key : {K : Type 0} → (K → K → Bool) → (Entry → K) → K → List Entry → List Entry
with_key eq key_of key entries = filter (λ entry. eq (key_of entry) key) entries
