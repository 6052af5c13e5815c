-- The values of a table as they are handed in, those of an accepted one, and its entries.
use Rattle.std.specs.Prelude.{ℕ, ◌≡◌, ◌/◌, ◌%◌}
use Rattle.values.specs.{declared.ValueKind.{ValueKind}, declared.ValueKind.TheVariants.{Numbered, Register}, Setup.{top_of}}
use Rattle.machines.specs.{declared.Table.{Table}, TableBytes.{machine_of}}
use Rattle.table_rows.specs.declared.{HandedKind.{HandedKind}, CountedValues.{CountedValues}, accepted.{Entry.{Entry}, AcceptedTable.{AcceptedTable}}}
use Rattle.table_rows.specs.declared.HandedKind.TheVariants.{Numbered as HandedNumbers, Register as HandedRegister}

abbrev pub kind_of : HandedKind → ValueKind
kind_of (HandedNumbers values) = Numbered values
kind_of (HandedRegister lines) = Register lines

abbrev pub values_with : ValueKind → ℕ → CountedValues
values_with kind top = record { kind = kind; top = top }

-- A register's top is fixed.
abbrev pub values_of : HandedKind → ℕ → CountedValues
values_of kind top = values_with (kind_of kind) (top_of (kind_of kind) top)

-- What an accepted table has of what was handed in.
pub record IsAccepted (events : ℕ) (kind : HandedKind) (top : ℕ) (table : Table) (t : AcceptedTable) : Type 0 where
  pub events_is : t.events ≡ events
  pub kind_is : t.kind ≡ kind_of kind
  pub top_is : t.top ≡ top_of (kind_of kind) top
  pub table_is : t.table ≡ table

-- Entries are ordered by state, then event: entry i is of state i / events and event i % events.
abbrev pub entry_of : AcceptedTable → ℕ → Entry
entry_of t i =
    let m = machine_of t.kind t.events t.table.entries.now in
    record {
      state = i / t.events;
      event = i % t.events;
      value = m.value (i / t.events) (i % t.events);
      next = m.next (i / t.events) (i % t.events);
    }
