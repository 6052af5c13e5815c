-- `channel_file::entries_at` meets its contract: each entry is stored as far as there is room, and counted.
use Prim.Native.Nat.{ℕ}
use mathlib.Core.{Path.{ap, ◌∙◌}, List.{[], ◌∷◌}}
use native.Mathlib.Omega.{arith}
use lib.ListN.{drop}
use Rattle.text_format.specs.Format.{ok}
use Rattle.text_output.proofs.Outputs.{puts_none, puts_as}
use Rattle.channel_file.specs.Steps.{separator_of}
use Rattle.channel_file.specs.declared.Behind.{Behind}
use Rattle.channel_file.proofs.{Offsets.{entry_forward}, Storing.{meet_entries, items_none, items_next, items_end}}
use Rattle.channel_file.proofs.entries_at.Goals as goal

pub loop-v-init : goal.loop-v-init
loop-v-init c =
    (c.requires, omega arith, items_none meet_entries c.args.text.now c.args.at c.args.out.now (puts_none _ 0 (omega arith) (omega arith)))

pub returns-in-Newline : goal.returns-in-Newline
returns-in-Newline c =
    let q = c.in_ok-v.ensures in
    items_end meet_entries c.args.text.now c.args.at c.loop-v.i c.loop-v.invariant.2 c.in_ok-v.v c.in_ok-v.next
    (puts_as (ap (λ (z : ℕ). z ∷ []) c.clip.ensures) c.put-k.ensures)
    (record {
      same = q.same ∙ ap (λ (z : Behind). ok (c.in_ok-v.v, separator_of z) (drop c.in_ok-v.next c.args.text.now)) c.in-Newline.is;
      within = q.within;
    })

pub loop-v-smaller : goal.loop-v-smaller
loop-v-smaller c =
    let q = c.in_ok-v.ensures in
    let w = q.within in
    let f = entry_forward c.args.text.now c.loop-v.i c.in_ok-v.next (c.in_ok-v.v, separator_of c.in_ok-v.end) w q.same in
    omega arith

pub loop-v-preserved : goal.loop-v-preserved
loop-v-preserved c =
    let q = c.in_ok-v.ensures in
    let w = q.within in
    let f = entry_forward c.args.text.now c.loop-v.i c.in_ok-v.next (c.in_ok-v.v, separator_of c.in_ok-v.end) w q.same in (
      w,
      omega arith,
      items_next meet_entries c.args.text.now c.args.at c.loop-v.i c.loop-v.invariant.2 c.in_ok-v.v c.in_ok-v.next
          (puts_as (ap (λ (z : ℕ). z ∷ []) c.clip.ensures) c.put-k.ensures)
          (record {
            same = q.same ∙ ap (λ (z : Behind). ok (c.in_ok-v.v, separator_of z) (drop c.in_ok-v.next c.args.text.now)) c.in-Space.is;
            within = w;
          }),
    )
