-- Values, and what stands for them.
use Rattle.std.proofs.Common.{◌≡◌, ◌⊎◌, inl, inr, ℕ, ◌<◌, ◌≤◌, Bool, false, List, length, Option, Some, None, refl, sym, ap, ◌∙◌, subst}
use Rattle.std.proofs.lemmas.Bool.{cases_lt}
use Rattle.serde_json.specs.Data.{Data, null, boolean, number, string, array, object, depth}
use Rattle.serde_json.specs.Find.{as_str}
use Rattle.serde_json.specs.Read.{max_depth}
use Rattle.serde_json.specs.Written.{has_float}
use Rattle.bench_core.specs.NameList.{Texts, number_in}
use Rattle.payload_core.specs.Words.{longest_word}
use Rattle.spelling_core.specs.WordText.{spelled, word_of}
use Rattle.spelling_core.proofs.Spellings.{one_value_law as spelled_law}
use Rattle.import_core.specs.Tables.{Extends, IsTextOf, ToldBy, IsSpellingOf, IsWordOf, IsNumberOf, OneValueLaw, KeptLaw}
use Rattle.import_core.proofs.Numbers.{one_text, number_kept}

is_string : (d : Data) (s : List ℕ) → as_str d ≡ Some s → d ≡ string s
is_string null s e = absurd (cc)
is_string (boolean b) s e = absurd (cc)
is_string (number n) s e = absurd (cc)
is_string (string t) s e = let h : t ≡ s = cc in ap (λ x. string x) h
is_string (array ds) s e = absurd (cc)
is_string (object ms) s e = absurd (cc)

-- one text is that of one value
pub one_text_value : (d e : Data) (t : List ℕ) → depth d ≤ max_depth → depth e ≤ max_depth → IsTextOf d t → IsTextOf e t → d ≡ e
one_text_value d e t low_d low_e is_d is_e = let a = is_d.reads low_d in let b = is_e.reads low_e in cc

one_told : (o p : Option (List ℕ)) (d e : Data) (b : Bool) (t : List ℕ) → as_str d ≡ o → as_str e ≡ p → depth d ≤ max_depth → depth e ≤ max_depth →
    ToldBy o d b t → ToldBy p e b t → d ≡ e
one_told (Some x) (Some y) d e b t str_d str_e low_d low_e (one, is_x) (two, is_y) =
    is_string d x str_d ∙ ap (λ z. string z) (sym is_x ∙ is_y) ∙ sym (is_string e y str_e)
one_told (Some x) None d e b t str_d str_e low_d low_e (one, is_x) (two, is_e) = absurd (cc)
one_told None (Some y) d e b t str_d str_e low_d low_e (one, is_d) (two, is_y) = absurd (cc)
one_told None None d e b t str_d str_e low_d low_e (one, is_d) (two, is_e) = one_text_value d e t low_d low_e is_d is_e

pub one_spelling : (d e : Data) (s : List ℕ) → depth d ≤ max_depth → depth e ≤ max_depth → IsSpellingOf d s → IsSpellingOf e s → d ≡ e
one_spelling d e s low_d low_e is_d is_e =
    let same = spelled_law.values is_d.is_string is_e.is_string is_d.text is_e.text is_d.bytes is_e.bytes (sym is_d.is ∙ is_e.is) in
    one_told (as_str d) (as_str e) d e is_e.is_string is_e.text refl refl low_d low_e
    (subst (λ t. ToldBy (as_str d) d is_e.is_string t) same.1 (subst (λ b. ToldBy (as_str d) d b is_d.text) same.0 is_d.told)) is_e.told

one_pid : (pids : Texts) (d e : Data) (pid : ℕ) → depth d ≤ max_depth → depth e ≤ max_depth → IsNumberOf pids d pid → IsNumberOf pids e pid → d ≡ e
one_pid pids d e pid low_d low_e is_d is_e =
    let same = one_text pids is_d.text is_e.text pid is_d.numbered is_e.numbered in
    one_text_value d e is_e.text low_d low_e (subst (λ t. IsTextOf d t) same is_d.tells) is_e.tells

module _ (longs : Texts) (d e : Data) (word : List ℕ) (is_d : IsWordOf longs d word) (is_e : IsWordOf longs e word) where
  same_word : word_of is_d.number (spelled is_d.spells.is_string is_d.spells.text) ≡ word_of is_e.number (spelled is_e.spells.is_string is_e.spells.text)
  same_word = ap (word_of is_d.number) (sym is_d.spells.is) ∙ sym is_d.is ∙ is_e.is ∙ ap (word_of is_e.number) is_e.spells.is

  pub one_word : depth d ≤ max_depth → depth e ≤ max_depth → d ≡ e
  one_word low_d low_e = go (cases_lt 200 (length is_d.spelling)) (cases_lt 200 (length is_e.spelling))
    where
      alike : is_d.spelling ≡ is_e.spelling → d ≡ e
      alike same = one_spelling d e is_e.spelling low_d low_e (subst (λ s. IsSpellingOf d s) same is_d.spells) is_e.spells

      go : (200 < length is_d.spelling) ⊎ (length is_d.spelling ≤ 200) → (200 < length is_e.spelling) ⊎ (length is_e.spelling ≤ 200) → d ≡ e
      go (inr short) any =
          alike (is_d.spells.is
          ∙ spelled_law.words is_d.number is_e.number is_d.spells.is_string is_e.spells.is_string is_d.spells.text is_e.spells.text
          (subst (λ s. length s ≤ longest_word) is_d.spells.is short) same_word
          ∙ sym is_e.spells.is)
      go (inl long) (inr short) =
          alike (is_d.spells.is
          ∙ sym (spelled_law.words is_e.number is_d.number is_e.spells.is_string is_d.spells.is_string is_e.spells.text is_d.spells.text
          (subst (λ s. length s ≤ longest_word) is_e.spells.is short) (sym same_word))
          ∙ sym is_e.spells.is)
      go (inl long) (inl too) =
          let same = spelled_law.numbers is_d.number is_e.number is_d.spells.is_string is_e.spells.is_string is_d.spells.text is_e.spells.text
          is_d.small is_e.small (subst (λ s. longest_word < length s) is_d.spells.is long) (subst (λ s. longest_word < length s) is_e.spells.is too) same_word in
          one_pid longs d e is_e.number low_d low_e (subst (λ n. IsNumberOf longs d n) same (is_d.numbered long)) (is_e.numbered too)

pub one_value_law : OneValueLaw
one_value_law = record {
  words = λ longs d e word low_d low_e is_d is_e. one_word longs d e word is_d is_e low_d low_e;
  pids = one_pid;
}

pub pid_kept : (pids later : Texts) (d : Data) (pid : ℕ) → Extends pids later → IsNumberOf pids d pid → IsNumberOf later d pid
pid_kept pids later d pid extends is = record {
  text = is.text;
  small = is.small;
  tells = is.tells;
  numbered = number_kept pids later is.text pid extends is.numbered;
}

pub word_kept : (longs later : Texts) (d : Data) (word : List ℕ) → Extends longs later → IsWordOf longs d word → IsWordOf later d word
word_kept longs later d word extends is = record {
  spelling = is.spelling;
  number = is.number;
  small = is.small;
  spells = is.spells;
  is = is.is;
  numbered = λ long. pid_kept longs later d is.number extends (is.numbered long);
}

one_number : (pids : Texts) (d : Data) (m n : ℕ) → has_float d ≡ false → IsNumberOf pids d m → IsNumberOf pids d n → m ≡ n
one_number pids d m n plain is_m is_n =
    let same : is_m.text ≡ is_n.text = is_m.tells.compact plain ∙ sym (is_n.tells.compact plain) in
    let a : number_in pids is_n.text ≡ Some m = subst (λ t. number_in pids t ≡ Some m) same is_m.numbered in
    let b = is_n.numbered in cc

pub kept_law : KeptLaw
kept_law = record { words = word_kept; pids = pid_kept; one_pid = one_number }
