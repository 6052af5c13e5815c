-- The limits of documents 01 and 02, a name each; src/lib.rt has the same names for code.
use Rattle.std.specs.Prelude.{ℕ, ◌*◌}

-- "A set-up has 1 to 16 events, 1 to 16 values, .. a meet table, .. values × values entries"; document 02, F-7: "1 to 16 lines".
abbrev pub event_limit : ℕ
event_limit = 16

abbrev pub value_limit : ℕ
value_limit = 16

abbrev pub meet_limit : ℕ
meet_limit = value_limit * value_limit

abbrev pub line_limit : ℕ
line_limit = 16

-- "1 to 256 nodes".
abbrev pub node_limit : ℕ
node_limit = 256

-- "a path with more than twelve V nodes" (document 02, F-9).
abbrev pub binder_limit : ℕ
binder_limit = 12

-- "A rule's table may have up to 256 states, which is 10's new limit" (document 02, F-12); its entries.
abbrev pub state_limit : ℕ
state_limit = 256

abbrev pub entry_limit : ℕ
entry_limit = state_limit * event_limit

-- "Devices stay at 64; the rule side of a trial, writing, .. the other table calls and 17's test of a channel's table take 256" (F-12): 11's
-- limits.
abbrev pub device_limit : ℕ
device_limit = 64

abbrev pub table_limit : ℕ
table_limit = 256

-- "A failing word may have up to 16,384 events" (F-12): as many as there are pairs of states.
abbrev pub word_limit : ℕ
word_limit = device_limit * table_limit

-- "Eight channels"; "512 rows among its channels, a row being one state of a loaded table" (F-12), and the entries of so many rows.
abbrev pub channel_limit : ℕ
channel_limit = 8

abbrev pub row_limit : ℕ
row_limit = 512

abbrev pub store_limit : ℕ
store_limit = row_limit * event_limit

-- Document 02, F-6: pulses and millimetres per turn are "each 1 to 65,535"; 19 is "a total above 1,099,511,627,776".
abbrev pub turn_limit : ℕ
turn_limit = 65535

abbrev pub total_limit : ℕ
total_limit = 1099511627776

-- A channel file has "up to 4,096 bytes".
abbrev pub file_limit : ℕ
file_limit = 4096
