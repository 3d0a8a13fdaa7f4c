-- What contracts see of a zone's tables: the entry of each address.
use Rattle.std.specs.Prelude.{◌≡◌, ◌≢◌, ℕ, ◌+◌, ◌*◌, Bool, false, List, if◌then◌else◌, nat_eq, slice_get, slice_set, unwrap_or}
use Rattle.frame_core.specs.Address.{is_in_table}
use Rattle.frame_core.specs.Below.{count_pairs}
use Rattle.frame_core.specs.declared.place.Address.{Address}
use Rattle.table_core.specs.declared.entry.Entry.{Entry}
use Rattle.table_core.specs.declared.entry.Entry.TheVariants.{Absent, Present, Migration}
use Rattle.table_core.specs.declared.size.Size.{Size}

-- the entries of so many spaces, with so many virtual pages each
pub record EntryTable : Type 0 where
  pub list : List Entry
  pub size : Size

-- the entries of a zone, and the number of its frames
pub record Tables : Type 0 where
  pub entries : EntryTable
  pub frames : ℕ

-- the place of an address in the list of entries: the spaces stand one after the other, with so many virtual pages each
abbrev pub place_of : ℕ → Address → ℕ
place_of pages address = address.space * pages + address.vpage

-- what an address names: nothing, if it is outside of the table
abbrev pub entry_at : EntryTable → Address → Entry
entry_at entries address =
    if is_in_table entries.size.spaces entries.size.pages address
    then unwrap_or (slice_get entries.list (place_of entries.size.pages address)) Absent
    else Absent

-- a table with another entry at a place
abbrev pub with_entry : EntryTable → ℕ → Entry → EntryTable
with_entry entries place entry = record entries { list = slice_set entries.list place entry }

-- whether an address with this entry is listed under a frame: that of its page, or the one that its page left
abbrev pub is_listed : Entry → ℕ → Bool
is_listed Absent frame = false
is_listed (Present f) frame = nat_eq f frame
is_listed (Migration source) frame = nat_eq source frame

-- how many addresses are listed under a frame, of all in the table
abbrev pub count_listed : EntryTable → ℕ → ℕ
count_listed entries frame =
    count_pairs (λ space vpage. is_listed (entry_at entries (record { space = space; vpage = vpage })) frame) entries.size.spaces entries.size.pages

-- no address names anything
abbrev pub IsBlank : EntryTable → Type 0
IsBlank entries = (a : Address) → entry_at entries a ≡ Absent

-- an address has this entry now, and each other address has the entry that it had
pub record ChangesOnly (old new : EntryTable) (address : Address) (entry : Entry) : Type 0 where
  pub changed : (a : Address) → a.space ≡ address.space → a.vpage ≡ address.vpage → entry_at new a ≡ entry
  pub other_spaces : (a : Address) → a.space ≢ address.space → entry_at new a ≡ entry_at old a
  pub other_pages : (a : Address) → a.vpage ≢ address.vpage → entry_at new a ≡ entry_at old a

-- each entry that was `from` is `to` now, and no other changed
pub record Replaces (old new : EntryTable) (from to : Entry) : Type 0 where
  pub there : (a : Address) → entry_at old a ≡ from → entry_at new a ≡ to
  pub elsewhere : (a : Address) → entry_at old a ≢ from → entry_at new a ≡ entry_at old a
