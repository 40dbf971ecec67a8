-- The compact text of a session is read as that session.
use Rattle.std.proofs.Common.{◌≡◌, ℕ, List, [], ◌∷◌, ◌++◌, map, codes, decimal, true, false, Option, Some, Result, Ok, Err, option_and_then, option_map, refl, sym, ap, ap₂, subst, ◌∙◌, inl, inr, ◌⊎◌}
use Rattle.std.specs.Prelude.{IsUtf8}
use Rattle.std.specs.List.{AllByRecursion}
use Rattle.std.specs.Str.Pattern.{FindsTextSuffix, StripsSuffix}
use Rattle.json.specs.Print.{escape_byte, quoted}
use Rattle.serde_json.specs.Data.{Data, string, object, Members, no_members, member, put}
use Rattle.json.specs.Json as json
use Rattle.json.specs.Token.{Token}
use Rattle.serde_json.specs.View.{items_of}
use Rattle.serde_json.specs.Read.{max_depth, read, of_json, of_members}
use Rattle.serde_json.specs.Written.{compact_text, items_text, members_text, outline}
use Rattle.json_core.specs.Compact.{AreFirst, IsFront, IsNext, IsWhole}
use Rattle.json_core.proofs.Listed.{closed, one_listed, one_more, whole_list}
use Rattle.json_core.proofs.ReadBack.{IsRead, is_read, text_read}
use Rattle.bench_core.specs.Limits.{Limits}
use Rattle.bench_core.specs.Machine.{Event}
use Rattle.bench_core.specs.NameList.{Texts}
use Rattle.event_core.specs.Format.{event_json, list, whole}
use Rattle.event_core.specs.Told.{IsTold}
use Rattle.event_core.proofs.Again.{event_again}
use Rattle.recording_core.specs.Decoding.{Parts, if_ok}
use Rattle.recording_core.specs.Drafts.{AreRead}
use Rattle.recording_core.specs.Format.{limits_json, session}
use Rattle.recording_core.specs.Recordings.{IsRecording}
use Rattle.recording_core.specs.Scanned.{IsCompact, IsEnd, last_members}
use Rattle.recording_core.specs.Versions.{IsVersion}
use Rattle.recording_core.proofs.Again.{parts_again}
use Rattle.recording_core.proofs.LineFeed.{line_feed}
use Rattle.recording_core.proofs.Replayed.{data_of-items_of}
use Rattle.recording_core.proofs.Shape.{session_depth}

-- the items so far, and one more
pub one_mapped : {A : Type 0} (F : List A → List Data) (text comma rest behind : List ℕ) (xs : List A) (x : A) (d : Data) →
    F (xs ++ x ∷ []) ≡ F xs ++ d ∷ [] → AreFirst text (F xs) comma rest → rest ≡ comma ++ (compact_text d ++ behind) → IsWhole d →
    AreFirst text (F (xs ++ x ∷ [])) (44 ∷ []) behind
one_mapped F text comma rest behind xs x d more first is whole =
    subst (λ ds. AreFirst text ds (44 ∷ []) behind) (sym more) (one_listed text comma rest behind (F xs) d first is whole)

-- the end of a text, member by member

pub version_text : (text inside rest : List ℕ) (n version : ℕ) → text ≡ codes ",\"version\":" ++ inside → inside ≡ decimal n ++ rest → rest ≡ 125 ∷ [] →
    version ≡ n → text ≡ members_text true (member (codes "version") (whole version) no_members)
unfolding escape_byte
version_text text inside rest n version opens front ends is =
    opens ∙ ap (λ s. codes ",\"version\":" ++ s) (front ∙ ap₂ (λ k s. decimal k ++ s) (sym is) ends)

pub names_text : (text inside behind : List ℕ) (texts : Texts) (version : ℕ) → text ≡ codes ",\"nodes\":[" ++ inside →
    inside ≡ items_text false (items_of (map string texts)) ++ behind →
    behind ≡ members_text true (member (codes "version") (whole version) no_members) → text ≡ members_text true (last_members texts version)
unfolding escape_byte
names_text text inside behind texts version opens names ends =
    opens ∙ ap (λ s. codes ",\"nodes\":[" ++ s) (names ∙ ap (λ s. items_text false (items_of (map string texts)) ++ s) ends)

-- the list of the limits, and what stands before it
module _ (text a b c d e f g h rest : List ℕ) (limits : Limits) (acts : IsFront a (whole limits.acts) b) (entries : IsFront c (whole limits.entries) d)
    (clock : IsFront e (whole limits.clock) f) (messages : IsFront g (whole limits.messages) h) (x : b ≡ 44 ∷ c) (y : d ≡ 44 ∷ e) (z : f ≡ 44 ∷ g)
    (ends : h ≡ 93 ∷ rest) where
  behind_comma : (s t u : List ℕ) (d : Data) → s ≡ 44 ∷ t → IsFront t d u → IsNext s d u
  behind_comma s t u d is front = (is ∙ ap (λ r. 44 ∷ r) front.0, front.1)

  pub limits_front : IsFront (91 ∷ a) (limits_json limits) rest
  limits_front =
      whole_list (91 ∷ a) a b rest (whole limits.acts) (whole limits.entries ∷ whole limits.clock ∷ whole limits.messages ∷ []) refl acts
      (one_more b d rest (whole limits.entries) (whole limits.clock ∷ whole limits.messages ∷ []) (behind_comma b c d (whole limits.entries) x entries)
      (one_more d f rest (whole limits.clock) (whole limits.messages ∷ []) (behind_comma d e f (whole limits.clock) y clock)
      (one_more f h rest (whole limits.messages) [] (behind_comma f g h (whole limits.messages) z messages) (closed h rest ends))))

  pub limits_text : text ≡ codes ",\"limits\":[" ++ a → text ≡ 44 ∷ (quoted (codes "limits") ++ 58 ∷ (compact_text (limits_json limits) ++ rest))
  unfolding escape_byte
  limits_text opens = opens ∙ ap (λ s. codes ",\"limits\":" ++ s) limits_front.0

pub ok_of : {T E : Type 0} (r : Result T E) (x : T) → if_ok r ≡ Some x → r ≡ Ok x
ok_of (Ok y) x is = cc
ok_of (Err e) x is = absurd cc

events_read : (events : List Event) → AllByRecursion IsTold events → AreRead (map event_json events) events false
events_read [] told = refl
events_read (e ∷ events) told = (event_again e told.0, events_read events told.1)

member_read : (k : List ℕ) (d : Data) (ms : json.Members) (found : Members) → of_json (outline d) ≡ Some d →
    of_members (json.member k (outline d) ms) found ≡ of_members ms (put k d found)
member_read k d ms found is = ap (option_and_then (λ x. of_members ms (put k x found))) is

module _ (version : ℕ) (texts : Texts) (limits : Limits) (events : List Event) where
  session_read : IsWhole (list (map event_json events)) → IsWhole (limits_json limits) → IsWhole (list (map string texts)) → IsWhole (whole version) →
      IsRead (session version texts limits events)
  session_read acts limits_are nodes number =
      let a = is_read (list (map event_json events)) acts in
      let l = is_read (limits_json limits) limits_are in
      let n = is_read (list (map string texts)) nodes in
      let v = is_read (whole version) number in
      let acts_data = list (map event_json events) in
      let nodes_data = list (map string texts) in
      let last = json.member (codes "version") (outline (whole version)) json.no_members in
      let nodes_on = json.member (codes "nodes") (outline nodes_data) last in
      let first = put (codes "acts") acts_data no_members in
      let two = put (codes "limits") (limits_json limits) first in
      record {
        back = ap (option_map object) (
            member_read (codes "acts") acts_data (json.member (codes "limits") (outline (limits_json limits)) nodes_on) no_members a.back
            ∙ member_read (codes "limits") (limits_json limits) nodes_on first l.back
            ∙ member_read (codes "nodes") nodes_data last two n.back
            ∙ member_read (codes "version") (whole version) json.no_members (put (codes "nodes") nodes_data two) v.back
            );
        numbers = (a.numbers, (l.numbers, (n.numbers, (v.numbers, tt))));
      }

pub compact : (text behind rest : List ℕ) (limits : Limits) (names : Texts) (version : ℕ) (events : List Event) →
    text ≡ codes "{\"acts\":" ++ behind → IsFront behind (list (map event_json events)) rest → AllByRecursion IsTold events →
    IsEnd rest limits names version → IsCompact text version (record { limits = limits; names = names }) events
unfolding escape_byte
compact text behind rest limits names version events opens front told end =
    let has = end.has_names in
    record {
      texts = has.texts;
      text_is = opens ∙ ap (λ s. codes "{\"acts\":" ++ s) (front.0 ∙ ap (λ s. compact_text (list (map event_json events)) ++ s)
          (end.text_is ∙ ap (λ s. 44 ∷ (quoted (codes "limits") ++ 58 ∷ (compact_text (limits_json limits) ++ s))) has.text_is));
      names_are = has.names_are;
      limits_are = end.limits_are;
      told = told;
      acts_whole = front.1;
      limits_whole = end.limits_whole;
      names_whole = has.names_whole;
      version_whole = has.version_whole;
    }

pub cut_off : (text end line : List ℕ) → StripsSuffix (FindsTextSuffix end) text line → text ≡ line ++ end
cut_off text end line (n, is, same, len) =
    is.1 ∙ ap (λ s. s ++ end) (sym same)

-- the members of a session
abbrev members : ℕ → Texts → Limits → List Event → Members
members version texts limits events = member (codes "acts") (list (map event_json events)) (
    member (codes "limits") (limits_json limits) (last_members texts version))

-- the value of these tokens
abbrev read_tokens : List Token → Option Data
read_tokens ts = option_and_then of_json (option_and_then (λ p. json.if_last p.0 p.1) (json.value max_depth ts))

module _ (line text : List ℕ) (version : ℕ) (p : Parts) (events : List Event) (is : IsCompact line version p events) where
  abbrev value : Data
  value = session version is.texts p.limits events

  line_read : read line ≡ Some value
  line_read =
      ap read is.text_is ∙ text_read value (session_read version is.texts p.limits events is.acts_whole is.limits_whole is.names_whole is.version_whole)
      (session_depth version is.texts p.limits events)

  text_reads : (text ≡ line) ⊎ (text ≡ line ++ 10 ∷ []) → read text ≡ Some value
  text_reads (inl same) = ap read same ∙ line_read
  text_reads (inr more) =
      let feed = line_feed (members version is.texts p.limits events) (is.acts_whole, (is.limits_whole, (is.names_whole, (is.version_whole, tt)))) in
      ap read (more ∙ ap (λ s. s ++ 10 ∷ []) is.text_is) ∙ ap read_tokens feed ∙ ap read (sym is.text_is) ∙ line_read

  pub recorded : (text ≡ line) ⊎ (text ≡ line ++ 10 ∷ []) → IsVersion version → IsUtf8 text → IsRecording text version p events false
  recorded ends known utf8 = record {
    value = value;
    json = (utf8, text_reads ends);
    tells = record {
      head = record {
        version = refl;
        known = known;
        parts = parts_again version is.texts p.names p.limits events is.names_are is.limits_are;
      };
      acts = subst (λ ds. AreRead ds events false) (sym (data_of-items_of (map event_json events))) (events_read events is.told);
    };
  }
