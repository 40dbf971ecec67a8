-- What a subcommand prints is told by its name, and of an import by its options.
use Rattle.std.proofs.Common.{◌≡◌, ℕ, Bool, true, false, not, if◌then◌else◌, List, codes, Option, Some, None, refl, sym, ap, ◌∙◌, true≢false}
use Rattle.std.specs.Str.{bytes_eq}
use Rattle.command_line.specs.declared.chosen.About.{About}
use Rattle.command_line.specs.declared.chosen.Form.{Form}
use Rattle.command_line.specs.declared.chosen.Form.TheVariants.{Report, Steps, Script, Session, Page as PageForm}
use Rattle.command_line.specs.declared.chosen.Options.{Options}
use Rattle.command_line.specs.declared.chosen.Question.{Question}
use Rattle.command_line.specs.declared.chosen.Subcommand.{Subcommand}
use Rattle.command_line.specs.declared.chosen.Subcommand.TheVariants.{Play, Race, Load, Import, Explore, Step, Draw, Page, Explain, Whatif}
use Rattle.command_line.specs.Line.{IsFlag, IsForm, Takes, can_print, form_name, import_prints, is_page, name_of, race_prints, usual_form}

by_name : List ℕ → Form
by_name name = if bytes_eq name (codes "import") then Script else Report

usual_by_name : (command : Subcommand) → usual_form command ≡ by_name (name_of command)
unfolding by_name
usual_by_name (Play strict) = refl
usual_by_name Race = refl
usual_by_name (Load strict) = refl
usual_by_name (Import wanted) = refl
usual_by_name (Explore wanted) = refl
usual_by_name Step = refl
usual_by_name (Draw drawing) = refl
usual_by_name Page = refl
usual_by_name (Explain question) = refl
usual_by_name (Whatif wanted) = refl

pub usual_alike : (command other : Subcommand) → name_of command ≡ name_of other → usual_form command ≡ usual_form other
usual_alike command other same = usual_by_name command ∙ ap by_name same ∙ sym (usual_by_name other)

prints_by_name : List ℕ → Bool → Form → Bool
prints_by_name name check form =
    if bytes_eq name (codes "import") then import_prints check form else (if bytes_eq name (codes "race") then race_prints form else not (is_page form))

can_by_name : (options : Options) (question : Option Question) (of : Option About) (command : Subcommand) (form : Form) → Takes options question of command →
    can_print command form ≡ prints_by_name (name_of command) options.check form
unfolding prints_by_name
can_by_name options question of (Play strict) form takes = refl
can_by_name options question of Race form takes = refl
can_by_name options question of (Load strict) form takes = refl
can_by_name options question of (Import wanted) form takes = ap (λ b. import_prints b form) takes.0
can_by_name options question of (Explore wanted) form takes = refl
can_by_name options question of Step form takes = refl
can_by_name options question of (Draw drawing) form takes = refl
can_by_name options question of Page form takes = refl
can_by_name options question of (Explain asked) form takes = refl
can_by_name options question of (Whatif wanted) form takes = refl

flag_alike : (value : Option (List ℕ)) (a b : Bool) → IsFlag value a → IsFlag value b → a ≡ b
flag_alike value true true is has = refl
flag_alike value false false is has = refl
flag_alike value true false is has = absurd (has is)
flag_alike value false true is has = absurd (is has)

pub can_alike : (value : Option (List ℕ)) (options others : Options) (question asked : Option Question) (of about : Option About) (command other : Subcommand) (form : Form) →
    name_of command ≡ name_of other → Takes options question of command → Takes others asked about other → IsFlag value options.check → IsFlag value others.check →
    can_print command form ≡ can_print other form
can_alike value options others question asked of about command other form same takes take is has =
    can_by_name options question of command form takes ∙ ap (λ n. prints_by_name n options.check form) same
    ∙ ap (λ b. prints_by_name (name_of other) b form) (flag_alike value options.check others.check is has) ∙ sym (can_by_name others asked about other form take)

named_alike : (a b : Form) → form_name a ≡ form_name b → a ≡ b
named_alike Report Report same = refl
named_alike Report Steps same = absurd (true≢false (ap (bytes_eq (codes "report")) same))
named_alike Report Script same = absurd (true≢false (ap (bytes_eq (codes "report")) same))
named_alike Report Session same = absurd (true≢false (ap (bytes_eq (codes "report")) same))
named_alike Report PageForm same = absurd (true≢false (ap (bytes_eq (codes "report")) same))
named_alike Steps Report same = absurd (true≢false (ap (bytes_eq (codes "steps")) same))
named_alike Steps Steps same = refl
named_alike Steps Script same = absurd (true≢false (ap (bytes_eq (codes "steps")) same))
named_alike Steps Session same = absurd (true≢false (ap (bytes_eq (codes "steps")) same))
named_alike Steps PageForm same = absurd (true≢false (ap (bytes_eq (codes "steps")) same))
named_alike Script Report same = absurd (true≢false (ap (bytes_eq (codes "script")) same))
named_alike Script Steps same = absurd (true≢false (ap (bytes_eq (codes "script")) same))
named_alike Script Script same = refl
named_alike Script Session same = absurd (true≢false (ap (bytes_eq (codes "script")) same))
named_alike Script PageForm same = absurd (true≢false (ap (bytes_eq (codes "script")) same))
named_alike Session Report same = absurd (true≢false (ap (bytes_eq (codes "session")) same))
named_alike Session Steps same = absurd (true≢false (ap (bytes_eq (codes "session")) same))
named_alike Session Script same = absurd (true≢false (ap (bytes_eq (codes "session")) same))
named_alike Session Session same = refl
named_alike Session PageForm same = absurd (true≢false (ap (bytes_eq (codes "session")) same))
named_alike PageForm Report same = absurd (true≢false (ap (bytes_eq (codes "page")) same))
named_alike PageForm Steps same = absurd (true≢false (ap (bytes_eq (codes "page")) same))
named_alike PageForm Script same = absurd (true≢false (ap (bytes_eq (codes "page")) same))
named_alike PageForm Session same = absurd (true≢false (ap (bytes_eq (codes "page")) same))
named_alike PageForm PageForm same = refl

pub form_alike : (usual : Form) (value : Option (List ℕ)) (a b : Form) → IsForm usual value a → IsForm usual value b → a ≡ b
form_alike usual None a b is has = is ∙ sym has
form_alike usual (Some name) a b is has = named_alike a b (sym is ∙ has)
