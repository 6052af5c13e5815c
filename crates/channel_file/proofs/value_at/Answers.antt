-- `channel_file::value_at` meets its contract: a number, or two masks, by the kind of values.
use Prim.Native.Nat.{ℕ}
use mathlib.Core.{Path.{◌≡◌, sym, subst}, List.{List}}
use Rattle.std.specs.Prelude.{Result, Ok, Err}
use Rattle.std.proofs.lemmas.Result.{err_from_is_err_and}
use Rattle.channel_file.specs.{Steps.{SawValue}, declared.Values.{Values}}
use Rattle.channel_file.proofs.TokenReading.{saw_number_value, saw_no_mask, saw_masks}
use Rattle.channel_file.proofs.value_at.Goals as goal

-- a value of a known kind
of_kind : {k l : Values} (t : List ℕ) (at : ℕ) (r : Result ((ℕ × ℕ) × ℕ) ℕ) → k ≡ l → SawValue l t at r → SawValue k t at r
of_kind t at r e h = subst (λ (z : Values). SawValue z t at r) (sym e) h

pub returns-in_err-v-in-Numbered : goal.returns-in_err-v-in-Numbered
returns-in_err-v-in-Numbered c =
    let p = err_from_is_err_and c.from_residual.result c.from_residual.ensures.1 in
    rw (p.1, p.2)
    (of_kind c.args.text.now c.args.at (Err _) c.in-Numbered.is (saw_number_value c.args.text.now c.args.at (Err _) c.in_err-v-in-Numbered.ensures))

pub returns-in_ok-v-in-Numbered : goal.returns-in_ok-v-in-Numbered
returns-in_ok-v-in-Numbered c =
    of_kind c.args.text.now c.args.at (Ok _) c.in-Numbered.is (saw_number_value c.args.text.now c.args.at (Ok _) c.in_ok-v-in-Numbered.ensures)

pub returns-in_err-low-in-Register : goal.returns-in_err-low-in-Register
returns-in_err-low-in-Register c =
    let p = err_from_is_err_and c.from_residual-in_err-low-in-Register.result c.from_residual-in_err-low-in-Register.ensures.1 in
    rw (p.1, p.2) (of_kind c.args.text.now c.args.at (Err _) c.in-Register.is (saw_no_mask c.args.text.now c.args.at _ c.in_err-low-in-Register.ensures))

pub returns-in_err-high-in-Register : goal.returns-in_err-high-in-Register
returns-in_err-high-in-Register c =
    let p = err_from_is_err_and c.from_residual-in_err-high-in-Register.result c.from_residual-in_err-high-in-Register.ensures.1 in
    rw (p.1, p.2)
    (of_kind c.args.text.now c.args.at (Err _) c.in-Register.is (saw_masks c.args.text.now c.args.at _ _ c.in_ok-low-in-Register.ensures (Err _)
    c.in_err-high-in-Register.ensures))

pub returns-in_ok-high-in-Register : goal.returns-in_ok-high-in-Register
returns-in_ok-high-in-Register c =
    of_kind c.args.text.now c.args.at (Ok _) c.in-Register.is (saw_masks
    c.args.text.now c.args.at _ _ c.in_ok-low-in-Register.ensures (Ok _) c.in_ok-high-in-Register.ensures)
