-- `channel_file::number_at` meets its contract: the numeral goes on, or stops at a byte that is no digit or at the end.
use Rattle.text_format.specs.Decimal.{is_digit, more}
use Rattle.text_format.proofs.Decimal.{digit_range, more_over, more_on, more_stop}
use Rattle.channel_file.specs.Steps.{SawByte}
use Rattle.channel_file.proofs.Offsets.{digit_as}
use Prim.Native.Nat.{ℕ, ◌+◌, ◌-◌, ◌*◌, ◌<◌}
use mathlib.Core.{Path.{◌≡◌, sym, ap₂, ◌∙◌, subst}, Bool.{true}}
use native.Mathlib.Omega.{arith}
use lib.ListN.{drop}
use Rattle.channel_file.proofs.number_at.Goals as goal

pub returns-in_default : goal.returns-in_default
returns-in_default c =
    record {
      same = c.loop-i.invariant.3
          ∙ rw (c.in-Ok.ensures.1) (more_stop _ c.loop-i.v _ _ (digit_as c.in-Ok.d _ (sym c.if-is_ascii_digit.ensures.value)));
      within = c.loop-i.invariant.0;
    }

pub returns-in_default-2 : goal.returns-in_default-2
returns-in_default-2 c =
    let h = subst (SawByte c.args.text.now c.loop-i.i) c.in_default.is c.byte_at-in-loop-i.ensures in
    record { same = c.loop-i.invariant.3 ∙ rw (h.1) (more_over _ c.loop-i.v); within = c.loop-i.invariant.0 }

pub loop-i-preserved : goal.loop-i-preserved
loop-i-preserved c =
    let b : ℕ = c.in-Ok.d in
    let k : ℕ = c.args.at + 1 + c.args.more - c.loop-i.i in
    let h : is_digit b ≡ true = digit_as b true (sym c.if-is_ascii_digit.ensures.value) in
    let d = digit_range b h in
    let e : c.from.result ≡ b - 48 = c.from.ensures in
    let w : ℕ = c.loop-i.v in
    let s : k - 1 ≡ c.args.at + 1 + c.args.more - (c.loop-i.i + 1) = omega arith in
    let v1 : w < 10000 = c.loop-i.invariant.2.1 (omega arith) in (
      omega (arith, c.in-Ok.ensures.0),
      omega arith,
      (
        omega arith,
        (λ g. let v2 : w < 1000 = c.loop-i.invariant.2.2 (omega arith) in omega arith),
        (λ g. let v2 : w < 100 = c.loop-i.invariant.2.3 (omega arith) in omega arith),
        (λ g. let v2 : w < 10 = c.loop-i.invariant.2.4 (omega arith) in omega arith),
        (λ g. omega arith),
      ),
      c.loop-i.invariant.3
          ∙ rw (c.in-Ok.ensures.1)
          (more_on k w b (drop (c.loop-i.i + 1) c.args.text.now) (omega arith) h
          ∙ ap₂ (λ (y z : ℕ). more y (w * 10 + z) (drop (c.loop-i.i + 1) c.args.text.now)) s (sym e)),
    )
