-- The claim of specs/Claims on a register's file, and what a text shows whatever its length.
use Prim.Native.Nat.{ℕ, ◌≤◌}
use mathlib.Core.{Path.{◌≡◌, refl, sym}, List.{List, ◌++◌, append_assoc}, Logic.{◌⊎◌}, Option.{some, some-ne-none}}
use lib.ListN.{length}
use Rattle.limits.specs.Limits.{file_limit}
use Rattle.refusal.specs.{declared.Refusal.{Refusal}, Refusal.{refusal_of}}
use Rattle.text_format.specs.{Format.{Outcome, contents, refused}, Texts.{ascii}}
use Rattle.channel_file.specs.ChannelFile.{line, number, TokensBy}
use Rattle.channel_file.specs.RegisterFile.{Contents, masks_text, token_text, SmallToken, rule_text, text, Shows}
use Rattle.channel_file.specs.RegisterFormat.{tokens, file}
use Rattle.channel_file.specs.RegisterReading.{read_file, head_text, rule_start, tokens_stretch, checked, stored_rule, arrays_of}
use Rattle.channel_file.specs.Claims.{StretchOf, RegisterClaim}
use Rattle.channel_file.proofs.RegisterFormat.{tokens_laws, tokens_text, tokens_fit, tokens_of_fit, file_laws, file_renders}
use Rattle.channel_file.proofs.Claims.{some_byte}
use Rattle.channel_file.proofs.Forms.{FormLaws, answer, one_answer, read_as, shown as shown_by, form_judged, stretch_is}
use Rattle.channel_file.proofs.Forms.{items_read, items_shown, not_empty, one_contents as one_contents_of, shows_or_not as shows_or_not_by, to_tokens}

pub rule_last : (c : Contents) → text c ≡ head_text c ++ (ascii "rule=" ++ (rule_text c ++ ascii "\n"))
rule_last c =
    sym (append_assoc (line (ascii "events=") (number c.events)) (line (ascii "lines=") (number c.lines)) (line (ascii "rule=") (rule_text c)))

abbrev pub register_form : FormLaws Contents
register_form =
    record {
      format = file;
      Shows = Shows;
      laws = file_laws;
      renders = file_renders;
      text = text;
      printed = λ c t s. s.printed;
      front = head_text;
      rule_text = rule_text;
      split = rule_last;
      start = rule_start;
      starts = λ c. refl;
    }

pub shown : (t : List ℕ) (c : Contents) → read_file t ≡ contents c → (length t ≤ file_limit) × Shows c t
shown = shown_by register_form

tokens_claim : StretchOf read_file (λ c. c.rule) token_text tokens_stretch
tokens_claim = stretch_is register_form

kept : (rule : List ℕ) (x : Outcome Contents) (r : Refusal) → refusal_of (arrays_of x) ≡ some r → stored_rule x rule ≡ rule
kept rule (contents c) r e = absurd (some-ne-none r (sym e))
kept rule (refused p) r e = refl

pub register_claim : RegisterClaim
register_claim =
    record {
      answer = answer register_form;
      one_answer = one_answer register_form;
      of_checking = form_judged register_form (λ x. refusal_of (checked x)) (λ c. refl) (λ p. refl);
      of_storing = λ t rule.
          record {
            judged = form_judged register_form (λ x. refusal_of (arrays_of x)) (λ c. refl) (λ p. refl) t;
            kept = kept rule (read_file t);
          };
      rewrite = λ t c e. (shown t c e).1.printed;
      read_back = λ c s l. read_as register_form (text c) (contents c) (l, record { small = s; printed = refl });
      tokens = tokens_claim;
      some_tokens = λ t c e h. not_empty SmallToken token_text (some_byte masks_text) c.rule (shown t c e).1.small.rule _ (tokens_claim t c e) h;
      token_list =
          record {
            shown = λ t xs. (
              items_shown tokens tokens_laws SmallToken token_text tokens_text tokens_of_fit t xs,
              items_read tokens tokens_laws SmallToken token_text tokens_text tokens_fit t xs,
            );
            of_a_file = λ t c e.
                items_read tokens tokens_laws SmallToken token_text tokens_text tokens_fit (tokens_stretch t (read_file t)) c.rule
                (record { small = (shown t c e).1.small.rule; printed = sym (tokens_claim t c e) });
          };
    }

-- ---- by document 01's definitions alone

pub one_contents : (t : List ℕ) (c d : Contents) → Shows c t → Shows d t → c ≡ d
one_contents = one_contents_of register_form

pub shows_or_not : (t : List ℕ) → ((c : Contents) × Shows c t) ⊎ ((c : Contents) → ¬ Shows c t)
shows_or_not = shows_or_not_by register_form

pub file_to_tokens :
    (t : List ℕ) →
    TokensBy Shows rule_text t (tokens_stretch t (read_file t)) × ((other : List ℕ) → TokensBy Shows rule_text t other → other ≡ tokens_stretch t (read_file t))
file_to_tokens = to_tokens register_form
