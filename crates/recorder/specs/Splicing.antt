-- Twin of Store, pinned by product_claims DemandThree.
-- How a channel's rows are replaced in the store (document 02, F-12): load and clear are one splice.
use Rattle.std.specs.Prelude.{List, ◌++◌, ℕ, suc, ◌+◌, ◌*◌, ◌-◌, length, get_or, take, drop, replicate}
use Rattle.limits.specs.Limits.{channel_limit, store_limit}
use Rattle.channel_log.specs.Rows.{sum_below}
use Rattle.formulas.specs.NodeArrays.{padded}
use Rattle.values.specs.{declared.ValueKind.{ValueKind}, ValueTests.{masks_from}}
use Rattle.machines.specs.TableRefusal.{entry_value, entry_next}
use Rattle.recorder.specs.Store.{rows_start}

-- So many elements of a list from a place on.
abbrev pub part : List ℕ → ℕ → ℕ → List ℕ
part l at n = take n (drop at l)

-- The rows of the channels before c, and those of all.
abbrev pub rows_before : List ℕ → ℕ → ℕ
rows_before states c = sum_below c (λ d. get_or states d 0)

abbrev pub row_count : List ℕ → ℕ
row_count states = rows_before states channel_limit

-- How many entries the rows of channel c have, and how many those of later channels.
abbrev pub own_entries : ℕ → List ℕ → ℕ → ℕ
own_entries events states c = get_or states c 0 * events

abbrev pub later_entries : ℕ → List ℕ → ℕ → ℕ
later_entries events states c = (row_count states - rows_before states (suc c)) * events

-- What lies before a place, the new entries for the old ones there, the later ones, then zeros.
unfoldable pub spliced : List ℕ → ℕ → ℕ → List ℕ → ℕ → List ℕ
spliced rows at old new later = take at rows ++ new ++ part rows (at + old) later ++ replicate (store_limit - (at + length new + later)) 0

-- Channel c's rows replaced; those of later channels move up or down.
abbrev pub replaced : ℕ → List ℕ → ℕ → List ℕ → List ℕ → List ℕ
replaced events states c new rows =
    spliced rows (rows_start events states c) (own_entries events states c) new (later_entries events states c)

-- One byte of each of the first n entries of a table, whose entries have so many bytes.
unfoldable pub column : ℕ → ℕ → List ℕ → ℕ → List ℕ
column width which table n = padded (λ i. get_or table (i * width + which) 0) n n 0

-- The packed masks of each, where an entry is four bytes of masks and one more.
unfoldable pub mask_column : List ℕ → ℕ → List ℕ
mask_column table n = padded (λ i. masks_from table (i * 5)) n n 0

-- The values of the first n entries of a table of a kind, and the next states.
unfoldable pub entry_values : ValueKind → List ℕ → ℕ → List ℕ
entry_values kind table n = padded (entry_value kind table) n n 0

unfoldable pub entry_nexts : ValueKind → List ℕ → ℕ → List ℕ
entry_nexts kind table n = padded (entry_next kind table) n n 0
