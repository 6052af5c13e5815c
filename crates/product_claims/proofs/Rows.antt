-- One store of rows: no list of calls leaves more than there are, and a clear on any tool changes no other channel.
use mathlib.Core.{Path.{◌≡◌, refl, ◌∙◌, ap, subst⁻¹}, List.{List, []}, Option.{none}}
use Prim.Native.Nat.{ℕ, ◌*◌, ◌≤◌, ◌<◌}
use native.Mathlib.{Nat.{zero-mul}, Omega.{arith}}
use lib.ListN.{length, set}
use Rattle.limits.specs.Limits.{channel_limit, row_limit}
use Rattle.channel_log.specs.Calls.{Call, clear, accepted, reply_refusal, final, with_channel}
use Rattle.channel_log.specs.{Distance.{Occurrence}, Rows.{all_rows}}
use Rattle.recorder.specs.Store.{Store, AllCells, ToolSetup, tool_setup_of, channels, rows}
use Rattle.recorder.specs.{Splicing.{row_count}, Called.{called, set_up_called}}
use Rattle.recorder.proofs.{Held.{channel_below, few_events}, RowTotals.{before_moved}, RowCounts.{all_rows_are}}
use Rattle.recorder_claims.proofs.{View.{cleared_view}, Calls.{Went, went_of, tool_sound}}
use Rattle.product_claims.specs.Requests.{OneStore}

within :
    (s : ToolSetup) → reply_refusal (set_up_called s).0 ≡ none → (calls : List (Call Occurrence)) →
    all_rows (rows (final called calls (set_up_called s).1)) ≤ row_limit
within s ok calls =
    subst⁻¹ (λ n. n ≤ row_limit) (all_rows_are (final called calls (set_up_called s).1)) (tool_sound s ok calls).rows_fit

module _ (t : Store) (cells : AllCells t) (c : ℕ) (went : (called (clear c) t).0 ≡ accepted) where
  facts : Went t (clear c)
  facts = went_of t (clear c) (ap reply_refusal went)

  channel_fine : c < channel_limit
  channel_fine = channel_below c facts.unrefused

  new_fits : row_count (set t.states c 0) ≤ row_limit
  new_fits = omega (arith, before_moved t.states c 0 (omega (arith, cells.states_are, channel_fine)) channel_limit channel_fine, facts.fits)

  pub clear_leaves : (d : ℕ) → channels (called (clear c) t).1 d ≡ with_channel c none (channels t) d
  clear_leaves d =
      let z : length {A = ℕ} [] ≡ 0 * t.setup.events = omega (arith, zero-mul t.setup.events) in
      ap (λ a. channels a.1 d) facts.outcome
      ∙ ap (λ L. L d)
      (cleared_view t cells.states_are cells.current_are cells.totals_are cells.values_are cells.nexts_are
      (few_events (tool_setup_of t) facts.set_up_passes) facts.fits c 0 [] [] channel_fine new_fits z z refl)

pub one_store : OneStore
one_store = record { within = within; cleared = clear_leaves }
