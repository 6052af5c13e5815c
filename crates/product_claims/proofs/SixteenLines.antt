-- Document 02, F-7: what a register's set-up is.
use mathlib.Core.{Path.{◌≡◌, refl, sym, ap, subst}, Logic.{◌↔◌}, List.{[], ◌∷◌}, Option.{none}}
use Prim.Native.Nat.{ℕ, ◌/◌, ◌%◌, ◌-◌, ◌≤◌, ◌^◌}
use native.Mathlib.Nat.{lt_of_lt_of_le}
use lib.{Bits.{bit_and}, Pow.{pow_mono}}
use Rattle.limits.specs.Limits.{event_limit, line_limit}
use Rattle.theory.specs.{ValueSets.{MeetSemilattice, Masks, OfLines, pack, unpack, top_masks}, ValueSetClaims.{meet_masks}, Formula.{output_node}}
use Rattle.theory.proofs.ValueSets.{packing}
use Rattle.values.specs.{declared.ValueKind.TheVariants.{Register}, SetupTests.{setup_refusal}}
use Rattle.values.specs.Setup.{ValueIn, RegisterValue, register_setup, setup_meet, setup_top, meet_of}
use Rattle.values.proofs.Setups.{setup_accepted, laws_hold}
use Rattle.values.proofs.ValueKinds.{register_semilattice}
use Rattle.formulas.specs.RuleConditions.{node_bytes}
use Rattle.machines.specs.TableBytes.{entry_bytes}
use Rattle.product_claims.specs.Requests.{SixteenLines}

register_laws : (lines : ℕ) → lines ≤ line_limit → MeetSemilattice (ValueIn (Register lines)) (meet_of (Register lines) []) (pack (top_masks lines))
unfolding meet_of
register_laws lines h = register_semilattice lines h

register_accepted :
    (events lines : ℕ) →
    (setup_refusal (register_setup events lines) ≡ none) ↔ ((1 ≤ events) × (events ≤ event_limit) × (1 ≤ lines) × (lines ≤ line_limit))
register_accepted events lines = (
  (λ e. let w = (setup_accepted (register_setup events lines)).0 e in (w.some_events, w.few_events, w.of_kind.some_lines, w.of_kind.few_lines)),
  (λ h. (setup_accepted (register_setup events lines)).1
      (record {
        some_events = h.0;
        few_events = h.1;
        of_kind = record { some_lines = h.2; few_lines = h.3 };
        laws = register_laws lines h.3;
      })),
)

register_values :
    (lines v : ℕ) → lines ≤ line_limit → ValueIn (Register lines) v ↔ ((m : Masks) × OfLines lines m × (v ≡ pack m))
register_values lines v few = (
  (λ h. (unpack v, h.of_lines, sym (packing.pack_unpack v))),
  (λ h.
      let most : 2 ^ lines ≤ 2 ^ 16 = pow_mono few in
      let large : OfLines 16 h.0 =
      record { low = lt_of_lt_of_le h.1.low most; high = lt_of_lt_of_le h.1.high most } in
      subst (RegisterValue lines) (sym h.2)
      (record { two_masks = packing.fits h.0 large; of_lines = packing.packed lines h.0 few h.1 })),
)

register_meet :
    (events lines : ℕ) (a b : Masks) → OfLines line_limit a → OfLines line_limit b →
    setup_meet (register_setup events lines) (pack a) (pack b) ≡ pack (record { low = bit_and a.low b.low; high = bit_and a.high b.high })
unfolding meet_of meet_masks
register_meet events lines a b = packing.meet a b

register_node :
    (lines e : ℕ) (m : Masks) → OfLines line_limit m →
    node_bytes (Register lines) (output_node e (pack m)) ≡ 3 ∷ e ∷ m.low % 256 ∷ m.low / 256 ∷ m.high % 256 ∷ m.high / 256 ∷ []
register_node lines e m h =
    ap (λ (x : Masks). 3 ∷ (e ∷ x.low % 256 ∷ x.low / 256 ∷ x.high % 256 ∷ x.high / 256 ∷ [])) (packing.unpack_pack m h)

register_entry :
    (lines t : ℕ) (m : Masks) → OfLines line_limit m →
    entry_bytes (Register lines) (pack m) t ≡ m.low % 256 ∷ m.low / 256 ∷ m.high % 256 ∷ m.high / 256 ∷ t ∷ []
register_entry lines t m h =
    ap (λ (x : Masks). x.low % 256 ∷ (x.low / 256 ∷ x.high % 256 ∷ x.high / 256 ∷ t ∷ [])) (packing.unpack_pack m h)

register_top : (events lines : ℕ) → setup_top (register_setup events lines) ≡ pack (record { low = 2 ^ lines - 1; high = 2 ^ lines - 1 })
unfolding top_masks
register_top events lines = refl

pub sixteen_lines : SixteenLines
sixteen_lines =
    record {
      accepted = register_accepted;
      values = register_values;
      meet = register_meet;
      top = register_top;
      node = register_node;
      entry = register_entry;
      laws = laws_hold;
    }
