-- Distance with every event: the law of the distance, and what an accepted event on any tool counts.
use mathlib.Core.{Path.{◌≡◌, refl, sym, ◌∙◌, ap, ap₂, subst, subst⁻¹}, Logic.{◌↔◌}, Bool.{Bool, true, false}, Option.{Option, none, some, some-ne-none}}
use Prim.Native.Nat.{ℕ, ◌+◌, ◌*◌, ◌/◌, ◌%◌, ◌<◌}
use native.Mathlib.{Nat.{div-add-mod', mod-lt}, Omega.{arith}}
use Rattle.limits.specs.Limits.{channel_limit}
use Rattle.machines.proofs.EntryIndex.{index_state, index_event}
use Rattle.refusal.proofs.Refusals.{or_else_none}
use Rattle.channel_log.specs.Calls.{event, Reply, accepted, returned, refused, reply_refusal, with_channel, map_option, Loaded}
use Rattle.channel_log.specs.Distance.{Wheel, WheelFault, Occurrence, Reading, reading, distance}
use Rattle.channel_log.specs.{CallSteps.{channel_refusal, on_event, event_reply}, Recorded.{at_state}}
use Rattle.channel_log.proofs.Independence.{put_at, put_apart}
use Rattle.recorder.specs.{Store.{Store, AllCells, channels, totals}, ToolTests.{wheel_test}}
use Rattle.recorder.specs.Called.{next_state, next_total, content, effect_on, called}
use Rattle.recorder.proofs.Held.{channel_below, wheel_of_test, wheel_fault}
use Rattle.recorder_claims.proofs.{View.{current_view}, Calls.{Went, went_of}}
use Rattle.product_claims.specs.Requests.{DistanceWithEveryEvent}

-- A wheel that 18 lets through has pulses.
some_pulses : (wheel : Wheel) → ¬ WheelFault wheel → 0 < wheel.pulses
some_pulses wheel ok = go (wheel_test wheel) refl
  where
    go : (b : Bool) → wheel_test wheel ≡ b → 0 < wheel.pulses
    go true e = omega (arith, (wheel_of_test wheel e).0.0)
    go false e = absurd (ok (wheel_fault wheel e))

exact :
    (wheel : Wheel) → ¬ WheelFault wheel → (total mm rest : ℕ) →
    ((mm * wheel.pulses + rest ≡ total * wheel.millimetres) × (rest < wheel.pulses)) ↔ (distance wheel total ≡ (mm, rest))
exact wheel ok total mm rest = (
  λ h.
      let e = sym h.0 in
      ap₂ (λ a b. (a, b)) (ap (λ n. n / wheel.pulses) e ∙ index_state wheel.pulses mm rest h.1)
      (ap (λ n. n % wheel.pulses) e ∙ index_event wheel.pulses mm rest h.1),
  λ e.
      let a = ap (λ p. p.0) e in
      let b = ap (λ p. p.1) e in (
        ap₂ (λ q r. q * wheel.pulses + r) (sym a) (sym b) ∙ div-add-mod' (total * wheel.millimetres) wheel.pulses,
        subst (λ r. r < wheel.pulses) b (mod-lt (total * wheel.millimetres) (some_pulses wheel ok)),
      ),
)

-- What a reply returns.
abbrev returned_of : Reply (Reading ℕ) → Option (Reading ℕ)
returned_of accepted = none
returned_of (returned r) = some r
returned_of (refused r) = none

module _ (t : Store) (cells : AllCells t) (c : ℕ) (i : Occurrence) (r : Reading ℕ) (went : (called (event c i) t).0 ≡ returned r) where
  facts : Went t (event c i)
  facts = went_of t (event c i) (ap reply_refusal went)

  channel_fine : c < channel_limit
  channel_fine = channel_below c (or_else_none (channel_refusal c) (on_event (content t) (channels t c) i) facts.unrefused).0

  store_after : (called (event c i) t).1 ≡ effect_on t (event c i)
  store_after = ap (λ a. a.1) facts.outcome

  replied : event_reply (content t) (channels t c) i ≡ returned r
  replied = sym (ap (λ a. a.0) facts.outcome) ∙ went

  abbrev q : ℕ
  q = next_state (channels t c) i.event

  abbrev p : ℕ
  p = next_total (channels t c) i.pulses

  channels_after : channels (called (event c i) t).1 ≡ with_channel c (map_option (λ x. at_state x q p) (channels t c)) (channels t)
  channels_after =
      ap channels store_after
      ∙ current_view t c q p (subst⁻¹ (λ m. c < m) cells.current_are channel_fine) (subst⁻¹ (λ m. c < m) cells.totals_are channel_fine)

  abbrev Counted : Type 0
  Counted =
      (total : ℕ) × (totals t c ≡ some total) × (distance t.wheel (total + i.pulses) ≡ (r.millimetres, r.remainder))
      × (totals (called (event c i) t).1 c ≡ some (total + i.pulses))
      × ((d : ℕ) → ¬ (d ≡ c) → channels (called (event c i) t).1 d ≡ channels t d)

  counted : Counted
  counted = go (channels t c) refl
    where
      go : (o : Option (Loaded ℕ)) → channels t c ≡ o → Counted
      go none e = absurd (some-ne-none r (sym (ap returned_of (sym (ap (λ o. event_reply (content t) o i) e) ∙ replied))))
      go (some x) e =
          let same = ap returned_of (sym (ap (λ o. event_reply (content t) o i) e) ∙ replied) in (
            x.total,
            ap (map_option (λ x. x.total)) e,
            told (x.table.value x.current i.event) (x.total + i.pulses) same,
            ap (λ N. map_option (λ x. x.total) (N c)) channels_after
                ∙ ap (map_option (λ x. x.total)) (put_at c (map_option (λ x. at_state x q p) (channels t c)) (channels t))
                ∙ ap (λ o. map_option (λ x. x.total) (map_option (λ x. at_state x q p) o)) e
                ∙ ap (λ o. some (next_total o i.pulses)) e,
            λ d n. ap (λ N. N d) channels_after ∙ put_apart c d (map_option (λ x. at_state x q p) (channels t c)) (channels t) n,
          )
        where
          told : (v total : ℕ) → some (reading t.wheel v total) ≡ some r → distance t.wheel total ≡ (r.millimetres, r.remainder)
          told v total s = ap (λ o. elim o as (λ o. ℕ × ℕ) [ none ↦ (0, 0) | some r ↦ (r.millimetres, r.remainder) ]) s

pub distance_with_every_event : DistanceWithEveryEvent
distance_with_every_event = record { exact = exact; counted = counted }
