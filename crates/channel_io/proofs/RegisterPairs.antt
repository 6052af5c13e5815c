-- What is held of the text of a register's file.
use Prim.Native.Nat.{ℕ, ◌*◌}
use mathlib.Core.{Path.{◌≡◌, refl, sym, subst⁻¹}, List.{List, []}, Bool.{Bool, true, false, cond}}
use native.Mathlib.Omega.{arith}
use lib.{Dec.{leb}, ListN.{length, take, replicate, length-replicate}}
use borrow.Author.Tests.{leb-true}
use Rattle.limits.specs.Limits.{node_limit}
use Rattle.refusal.specs.declared.Refusal.{Refusal}
use Rattle.text_format.specs.Format.{Outcome, contents, refused}
use Rattle.channel_file.specs.{Bytes.{put_front}, RegisterFile.{Contents}}
use Rattle.channel_file.specs.RegisterReading.{read_file, rule_bytes, form_of, stored_rule, arrays_of}
use Rattle.channel_file.specs.declared.registers.ReadArrays.{ReadArrays}
use Rattle.channel_io.specs.{RegisterFiles.{file_setup, file_numbers, register_file}, RegisterSteps.{shown_nodes, numbers_in, held_setup, held_nodes}}
use Rattle.channel_io.proofs.{Pairs.{OffForm, Judging, judging_as}, ShownBytes.{front}, RegisterBytes.{bytes_length, file_shown, all_shown}}
use Rattle.std.specs.Prelude.{Err, Ok}

-- the nodes that are judged of contents
contents_judging : (t : List ℕ) (c : Contents) → read_file t ≡ contents c
    → Judging register_file (read_file t) (file_numbers c) (file_setup c) (shown_nodes c)
contents_judging t c e =
    record { inside = c; answer = e; numbers_are = refl; judged = record { same = file_shown c; setups = λ ok. refl; rules = all_shown c } }

nodes_held : (c : Contents) → take (6 * cond (leb (length c.rule) node_limit) (length c.rule) 0) (put_front (rule_bytes c) (replicate (node_limit * 6) 0))
    ≡ shown_nodes c
nodes_held c = go (leb (length c.rule) node_limit) refl
  where
    go : (b : Bool) → leb (length c.rule) node_limit ≡ b
        → take (6 * cond b (length c.rule) 0) (put_front (rule_bytes c) (replicate (node_limit * 6) 0)) ≡ cond b (rule_bytes c) []
    go true f =
        let h = leb-true (length c.rule) node_limit f in
        let l = bytes_length c.events c.lines c.rule in
        front (rule_bytes c) (replicate (node_limit * 6) 0) (6 * length c.rule) (omega (arith, l, length-replicate {A = ℕ} (node_limit * 6) 0)) (sym l)
    go false f = refl

-- a text that was read into an array is refused with 4,
pub off_form : (t : List ℕ) {q : Refusal} → Err q ≡ arrays_of (read_file t) → OffForm (read_file t) q
off_form t {q} e = go (read_file t) refl e
  where
    go : (x : Outcome Contents) → read_file t ≡ x → Err q ≡ arrays_of x → OffForm (read_file t) q
    go (contents c) r g = let z : ◌≡◌ {A = ℕ} 0 1 = cc in absurd (omega arith)
    go (refused p) r g = record { place = p; answer = r; is = cc }

-- or judged by what the array holds
abbrev stored : Contents → ReadArrays
stored c = record { form = form_of c; rule = stored_rule (contents c) (replicate (node_limit * 6) 0) }

pub holds : (t : List ℕ) {a : ReadArrays} → Ok a ≡ arrays_of (read_file t)
    → Judging register_file (read_file t) (numbers_in a.form) (held_setup a) (held_nodes a)
holds t {a} e = go (read_file t) refl e
  where
    go : (x : Outcome Contents) → read_file t ≡ x → Ok a ≡ arrays_of x
        → Judging register_file (read_file t) (numbers_in a.form) (held_setup a) (held_nodes a)
    go (contents c) r g =
        let is : a ≡ stored c = cc in
        subst⁻¹ (λ (z : ReadArrays). Judging register_file (read_file t) (numbers_in z.form) (held_setup z) (held_nodes z)) is
        (judging_as refl refl (nodes_held c) (contents_judging t c r))
    go (refused p) r g = let z : ◌≡◌ {A = ℕ} 0 1 = cc in absurd (omega arith)
