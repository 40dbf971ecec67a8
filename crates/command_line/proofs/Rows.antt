-- The name and the rows of a subcommand that was entered, and what they choose.
use Rattle.std.proofs.Common.{◌≡◌, ℕ, List, codes, Option, Some, None, IfNone, IfSome, option_map, inl, inr, refl, sym, subst, ◌∙◌}
use Rattle.std.proofs.lemmas.Option.{IfSome_then}
use Rattle.command_line.specs.declared.chosen.About.{About}
use Rattle.command_line.specs.declared.chosen.About.TheVariants.{Cluster, Node, Presence}
use Rattle.command_line.specs.declared.chosen.Choice.{Choice}
use Rattle.command_line.specs.declared.chosen.Options.{Options}
use Rattle.command_line.specs.declared.chosen.Question.{Question}
use Rattle.command_line.specs.declared.chosen.Subcommand.{Subcommand}
use Rattle.command_line.specs.declared.chosen.Subcommand.TheVariants.{Play, Race, Load, Import, Explore, Step, Draw, Page, Explain, Whatif}
use Rattle.clap.specs.Words.{HasKind, Row, fault_of, first_of, kind_of, subcommand_of}
use Rattle.clap.specs.declared.error.Error.{Error}
use Rattle.command_line.specs.Line.{Spells, IsChoiceOf, IsFlag, IsAbout, IsForm, IsNumber, IsQuestion, IsUnnamed, IsOnline, AsksOtherwise, Lacks, Misspells, Takes, app, usual_form}

abbrev pair : {A B C : Type 0} → (A → B) → (A → C) → A → B × C
pair f g a = (f a, g a)

pub both_parts : {A B C : Type 0} (o : Option A) (f : A → B) (g : A → C) (x : B) (y : C) → Some x ≡ option_map f o →
    Some y ≡ option_map (λ (p : B × C). p.1) (option_map (pair f g) o) → option_map (pair f g) o ≡ Some (x, y)
both_parts None f g x y p q = absurd cc
both_parts (Some a) f g x y p q =
    let first : x ≡ f a = cc in
    let second : y ≡ g a = cc in
    rw (first, second) refl

question_alike : (values others : List ℕ → Option (List ℕ)) (question : Question) → ((option : List ℕ) → values option ≡ others option) →
    IsQuestion values question → IsQuestion others question
question_alike values others question same asked = record {
  node = sym (same (codes "NODE")) ∙ asked.node;
  topic = sym (same (codes "TOPIC")) ∙ asked.topic;
  key = sym (same (codes "KEY")) ∙ asked.key;
}

about_alike : (values others : List ℕ → Option (List ℕ)) (about : About) → ((option : List ℕ) → values option ≡ others option) →
    IsAbout values about → IsAbout others about
about_alike values others Cluster same asked = sym (same (codes "NODE")) ∙ asked
about_alike values others (Node name) same asked = (sym (same (codes "NODE")) ∙ asked.0, sym (same (codes "TOPIC")) ∙ asked.1)
about_alike values others (Presence question) same asked = question_alike values others question same asked

-- options of the same values choose the same
pub chosen_alike : (name : List ℕ) (values others : List ℕ → Option (List ℕ)) (choice : Choice) → ((option : List ℕ) → values option ≡ others option) →
    IsChoiceOf name values choice → IsChoiceOf name others choice
chosen_alike name values others choice same is =
    let number : (option : List ℕ) (n : Option ℕ) → IsNumber (values option) n → IsNumber (others option) n =
    λ option n h. subst (λ (o : Option (List ℕ)). IsNumber o n) (same option) h in
    record {
      name_is = is.name_is;
      form = subst (λ (o : Option (List ℕ)). IsForm (usual_form choice.command) o choice.form) (same (codes "as")) is.form;
      options = is.options;
      options_are = record {
        strict = subst (λ (o : Option (List ℕ)). IsFlag o is.options.strict) (same (codes "strict")) is.options_are.strict;
        check = subst (λ (o : Option (List ℕ)). IsFlag o is.options.check) (same (codes "check")) is.options_are.check;
        lines = subst (λ (o : Option (List ℕ)). IsFlag o is.options.lines) (same (codes "lines")) is.options_are.lines;
        lenient = subst (λ (o : Option (List ℕ)). IsFlag o is.options.lenient) (same (codes "lenient")) is.options_are.lenient;
        why = number (codes "why") is.options.why is.options_are.why;
        from = number (codes "from") is.options.from is.options_are.from;
        to = number (codes "to") is.options.to is.options_are.to;
        lost = number (codes "lost") is.options.lost is.options_are.lost;
        again = number (codes "again") is.options.again is.options_are.again;
        states = number (codes "states") is.options.states is.options_are.states;
        script = number (codes "script") is.options.script is.options_are.script;
      };
      question = is.question;
      question_is = IfSome_then is.question is.question_is (λ question asked. question_alike values others question same asked);
      about = is.about;
      about_is = IfSome_then is.about is.about_is (λ about asked. about_alike values others about same asked);
      takes = is.takes;
      printed = is.printed;
    }

-- a subcommand that takes words isn't chosen where they aren't there

no_question : (values : List ℕ → Option (List ℕ)) (found asked : Option Question) (question : Question) → IfNone found ((q : Question) → ¬ IsQuestion values q) →
    IfSome asked (IsQuestion values) → found ≡ None → asked ≡ Some question → ⊥
no_question values found asked question nothing is lacks takes =
    subst (λ (o : Option Question). IfNone o ((q : Question) → ¬ IsQuestion values q)) lacks nothing question
    (subst (λ (o : Option Question). IfSome o (IsQuestion values)) takes is)

no_about : (values : List ℕ → Option (List ℕ)) (found asked : Option About) (about : About) → IfNone found ((a : About) → ¬ IsAbout values a) →
    IfSome asked (IsAbout values) → found ≡ None → asked ≡ Some about → ⊥
no_about values found asked about nothing is lacks takes =
    subst (λ (o : Option About). IfNone o ((a : About) → ¬ IsAbout values a)) lacks nothing about
    (subst (λ (o : Option About). IfSome o (IsAbout values)) takes is)

-- words that a picture takes are no others

cluster_alone : (values : List ℕ → Option (List ℕ)) (about : About) → values (codes "NODE") ≡ None → IsAbout values about → AsksOtherwise (Some about) → ⊥
cluster_alone values Cluster none is lacks = lacks
cluster_alone values (Presence question) none is lacks = lacks
cluster_alone values (Node name) none is lacks = cc (none, is.0)

presence_alone : (values : List ℕ → Option (List ℕ)) (about : About) (question : Question) → IsQuestion values question → IsAbout values about →
    AsksOtherwise (Some about) → ⊥
presence_alone values Cluster question asked is lacks = lacks
presence_alone values (Presence other) question asked is lacks = lacks
presence_alone values (Node name) question asked is lacks = cc (asked.topic, is.1)

draws : (values : List ℕ → Option (List ℕ)) (about of : Option About) (online : Option Question) → IfNone about ((a : About) → ¬ IsAbout values a) →
    IfSome about (IsAbout values) → IfSome of (IsAbout values) → AsksOtherwise about → IsOnline of online → ⊥
draws values None (Some of) online never is has lacks drawn = never of has
draws values (Some about) (Some Cluster) online never is has lacks drawn = cluster_alone values about has is lacks
draws values (Some about) (Some (Presence question)) online never is has lacks drawn = presence_alone values about question has is lacks
draws values (Some about) (Some (Node name)) online never is has lacks drawn = drawn
draws values about None online never is has lacks drawn = drawn

lacks_all : (values : List ℕ → Option (List ℕ)) (found asked : Option Question) (about of : Option About) (options : Options) (command : Subcommand) →
    IfNone found ((q : Question) → ¬ IsQuestion values q) → IfNone about ((a : About) → ¬ IsAbout values a) → IfSome about (IsAbout values) →
    IfSome asked (IsQuestion values) → IfSome of (IsAbout values) → Lacks found about command → Takes options asked of command → ⊥
lacks_all values found asked about of options (Explain question) none never around is has lacks takes = no_question values found asked question none is lacks takes
lacks_all values found asked about of options (Whatif wanted) none never around is has lacks takes = no_question values found asked wanted.question none is lacks takes.0
lacks_all values found asked about of options (Explore wanted) none never around is has lacks takes = no_about values about of wanted.about never has lacks takes.0
lacks_all values found asked about of options (Play strict) none never around is has lacks takes = lacks
lacks_all values found asked about of options Race none never around is has lacks takes = lacks
lacks_all values found asked about of options (Load strict) none never around is has lacks takes = lacks
lacks_all values found asked about of options (Import wanted) none never around is has lacks takes = lacks
lacks_all values found asked about of options Step none never around is has lacks takes = lacks
lacks_all values found asked about of options (Draw drawing) none never around is has lacks takes = draws values about of drawing.online never around has lacks takes.0
lacks_all values found asked about of options Page none never around is has lacks takes = lacks

pub none_chosen : (name : List ℕ) (values : List ℕ → Option (List ℕ)) (found : Option Question) (about : Option About) →
    IfNone found ((q : Question) → ¬ IsQuestion values q) → IfNone about ((a : About) → ¬ IsAbout values a) → IfSome about (IsAbout values) →
    IsUnnamed name found about → (choice : Choice) → ¬ IsChoiceOf name values choice
none_chosen name values found about none never around unnamed choice is =
    lacks_all values found is.question about is.about is.options choice.command none never around is.question_is is.about_is (unnamed choice.command is.name_is) is.takes

-- what was entered chooses nothing, so the words don't
pub chooses_nothing : (words : List (List ℕ)) (name : List ℕ) (rows : List Row) → subcommand_of app words ≡ Some (name, rows) →
    ((choice : Choice) → ¬ IsChoiceOf name (λ option. first_of option rows) choice) → (choice : Choice) → ¬ Spells words choice
chooses_nothing words name rows entered nothing choice chooses =
    let same : ◌≡◌ {A = List ℕ × List Row} (chooses.name, chooses.rows) (name, rows) = cc (entered, chooses.command) in
    nothing choice (subst (λ (p : List ℕ × List Row). IsChoiceOf p.0 (λ option. first_of option p.1) choice) same chooses.chosen)

-- a fault that the command line finds
pub refused_by : (words : List (List ℕ)) (e : Error) → HasKind (fault_of app words) e → Misspells words (kind_of e)
refused_by words e (inl memory) = inl memory
refused_by words e (inr found) = inr (inl found)
