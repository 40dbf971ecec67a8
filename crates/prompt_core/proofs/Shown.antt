-- The signs that went out.
use Rattle.std.proofs.Common.{◌≡◌, ◌≢◌, ℕ, ◌+◌, ◌==◌, if◌then◌else◌, Bool, true, false, List, [], ◌∷◌, ◌++◌, length, take, drop, Option, Some, None, refl, sym, subst, ap, ◌∙◌, append_assoc, append-nil, arith}
use Rattle.std.proofs.KnownBytes.{Appends-kept, Appends-nil, Appends-trans, Keeps-refl, Keeps-trans}
use Rattle.std.proofs.Math.Seq.{take-append_seam}
use Rattle.std.proofs.lemmas.Bool.{ne_eqb}
use Rattle.std.proofs.lemmas.List.{take-append-drop}
use Rattle.std.specs.Io.{StartsWith}
use Rattle.std.specs.Io.BufRead.{drop_through, first_piece}
use Rattle.std.specs.Io.KnownBytes.{Appends, Keeps}
use Rattle.bench_core.specs.Limits.{Limits}
use Rattle.grammar_core.specs.Words.{lines_of}
use Rattle.run_core.specs.Prompts.{Prompt, new_prompt}
use Rattle.stream_core.specs.NextLines.{IsNext, line_front}
use Rattle.stream_core.proofs.Pieces.{piece_more}
use Rattle.prompt_core.specs.Responses.{response, is_quit}
use Rattle.prompt_core.specs.Signs.{Shows, ShowsSign, read_lines, sign, signs, signs_of}
use Rattle.prompt_core.specs.declared.stepping.TheConstants.{LINE_FRONT}
use Rattle.prompt_core.proofs.LineFronts.{front_response, front_quit}
use Rattle.prompt_core.proofs.Split.{IsSplit, More, Last, fed, some_line, split}

-- the first line that is read of what is left, and then the others

read_two : (line : List ℕ) (lines : List (List ℕ)) (first : List ℕ) (rest : List (List ℕ)) → lines ≡ first ∷ rest →
    read_lines (line ∷ lines) ≡ line ∷ read_lines lines
read_two line lines first rest is = ap (λ (ls : List (List ℕ)). read_lines (line ∷ ls)) is ∙ ap (λ (ls : List (List ℕ)). line ∷ read_lines ls) (sym is)

last_some : (left : List ℕ) → left ≢ [] → lines_of left ≡ first_piece 10 left ∷ [] → (length (first_piece 10 left) == 0) ≡ false
last_some [] some alone = absurd (some refl)
last_some (x ∷ xs) some alone = go (x == 10) refl
  where
    go : (b : Bool) → (x == 10) ≡ b → (length (first_piece 10 (x ∷ xs)) == 0) ≡ false
    go true is =
        let more = some_line (drop_through 10 (x ∷ xs)) in
        let whole : first_piece 10 (x ∷ xs) ∷ lines_of (drop_through 10 (x ∷ xs)) ≡ first_piece 10 (x ∷ xs) ∷ [] = sym (fed x xs is) ∙ alone in
        let none : more.0 ∷ more.1 ≡ [] = sym more.2 ∙ (cc) in
        absurd (cc)
    go false is =
        let longer = ap length (piece_more x xs is) in
        ne_eqb (length (first_piece 10 (x ∷ xs))) 0 (λ empty. omega arith)

read_more : (left : List ℕ) → left ≢ [] → read_lines (lines_of left) ≡ first_piece 10 left ∷ read_lines (lines_of (drop_through 10 left))
read_more left some = go (split left)
  where
    go : IsSplit left → read_lines (lines_of left) ≡ first_piece 10 left ∷ read_lines (lines_of (drop_through 10 left))
    go (More e) =
        let more = some_line (drop_through 10 left) in
        ap read_lines e ∙ read_two (first_piece 10 left) (lines_of (drop_through 10 left)) more.0 more.1 more.2
    go (Last e none) =
        ap read_lines e ∙ ap (λ (b : Bool). if b then [] else first_piece 10 left ∷ []) (last_some left some e)
        ∙ ap (λ (l : List ℕ). first_piece 10 left ∷ read_lines (lines_of l)) (sym none)

-- the sign before the next line, and those behind it

abbrev pub behind : List ℕ → Prompt → ℕ → List (List ℕ) → List ℕ
behind help prompt number [] = []
behind help prompt number (line ∷ lines) = if is_quit line then [] else signs help (response help prompt number line).0 (number + 1) lines

sign_first : (help : List ℕ) (prompt : Prompt) (number : ℕ) (lines : List (List ℕ)) →
    signs help prompt number lines ≡ sign prompt ++ behind help prompt number lines
unfolding signs
sign_first help prompt number [] = sym (append-nil (sign prompt))
sign_first help prompt number (line ∷ lines) = refl

-- the signs that went out are the first of all, and these are to come
pub record SignsTo (whole rest : List ℕ) (old new : Option (List ℕ)) : Type 0 where
  pub told : List ℕ
  pub out : Appends old new told
  pub is : whole ≡ told ++ rest

-- or, where they are shown no longer, none is
abbrev pub SignsCome : Bool → List ℕ → List ℕ → Option (List ℕ) → Option (List ℕ) → Type 0
SignsCome true whole rest old new = SignsTo whole rest old new
SignsCome false whole rest old new = (any : List ℕ) × SignsTo whole any old new

come_more : (whole text rest : List ℕ) (was shown : Bool) (old middle new : Option (List ℕ)) → SignsCome was whole (text ++ rest) old middle →
    ShowsSign was text shown middle new → SignsCome shown whole rest old new
come_more whole text rest true true old middle new come shows = record {
  told = come.told ++ text;
  out = Appends-trans old middle new come.told text come.out shows;
  is = come.is ∙ sym (append_assoc come.told text rest);
}
come_more whole text rest true false old middle new come shows = (
  drop shows.0 text ++ rest,
  record {
    told = come.told ++ take shows.0 text;
    out = Appends-trans old middle new come.told (take shows.0 text) come.out shows.1;
    is =
        come.is ∙ ap (λ (t : List ℕ). come.told ++ (t ++ rest)) (sym (take-append-drop shows.0 text))
        ∙ ap (λ (t : List ℕ). come.told ++ t) (append_assoc (take shows.0 text) (drop shows.0 text) rest)
        ∙ sym (append_assoc come.told (take shows.0 text) (drop shows.0 text ++ rest));
  },
)
come_more whole text rest false true old middle new come shows = absurd (cc)
come_more whole text rest false false old middle new come shows =
    (come.0, record { told = come.1.told; out = Appends-kept old middle new come.1.told come.1.out shows.1; is = come.1.is })

come_told : (help : List ℕ) (limits : Limits) (input rest : List ℕ) (shown : Bool) (old new : Option (List ℕ)) →
    SignsCome shown (signs_of help limits input) rest old new → Shows true help limits (Some input) old new
come_told help limits input rest true old new come =
    (come.told, come.out, subst (λ (l : List ℕ). StartsWith l come.told) (sym come.is) (take-append_seam come.told rest))
come_told help limits input rest false old new come =
    (come.1.told, come.1.out, subst (λ (l : List ℕ). StartsWith l come.1.told) (sym come.1.is) (take-append_seam come.1.told come.0))

-- where there are signs: how far they have come before a sign, and behind it

abbrev pub HasShownSo : Bool → Bool → List ℕ → Limits → Option (List ℕ) → Option (List ℕ) → Prompt → ℕ → Option (List ℕ) → Option (List ℕ) → Type 0
HasShownSo false shown help limits input left prompt number old new = (shown ≡ false) × Keeps old new
HasShownSo true shown help limits None left prompt number old new = Unit {0}
HasShownSo true shown help limits (Some input) None prompt number old new = ⊥
HasShownSo true shown help limits (Some input) (Some left) prompt number old new =
    SignsCome shown (signs_of help limits input) (signs help prompt number (read_lines (lines_of left))) old new

abbrev pub HasSignedSo : Bool → Bool → List ℕ → Limits → Option (List ℕ) → Option (List ℕ) → Prompt → ℕ → Option (List ℕ) → Option (List ℕ) → Type 0
HasSignedSo false shown help limits input left prompt number old new = (shown ≡ false) × Keeps old new
HasSignedSo true shown help limits None left prompt number old new = Unit {0}
HasSignedSo true shown help limits (Some input) None prompt number old new = ⊥
HasSignedSo true shown help limits (Some input) (Some left) prompt number old new =
    SignsCome shown (signs_of help limits input) (behind help prompt number (read_lines (lines_of left))) old new

module _ (help : List ℕ) (limits : Limits) where
  pub begins : (has : Bool) (input old : Option (List ℕ)) → HasShownSo has has help limits input input (new_prompt limits) 1 old old
  begins false input old = (refl, Keeps-refl old)
  begins true None old = tt
  begins true (Some input) old = record { told = []; out = Appends-nil old; is = refl }

  pub signed : (has was shown : Bool) (input left : Option (List ℕ)) (prompt : Prompt) (number : ℕ) (old middle new : Option (List ℕ)) →
      HasShownSo has was help limits input left prompt number old middle → ShowsSign was (sign prompt) shown middle new →
      HasSignedSo has shown help limits input left prompt number old new
  signed false was shown input left prompt number old middle new come shows =
      let hidden = subst (λ (b : Bool). ShowsSign b (sign prompt) shown middle new) come.0 shows in
      (hidden.0, Keeps-trans old middle new come.1 hidden.1)
  signed true was shown None left prompt number old middle new come shows = tt
  signed true was shown (Some input) None prompt number old middle new come shows = absurd come
  signed true was shown (Some input) (Some left) prompt number old middle new come shows =
      let lines = read_lines (lines_of left) in
      come_more (signs_of help limits input) (sign prompt) (behind help prompt number lines) was shown old middle new
      (subst (λ (rest : List ℕ). SignsCome was (signs_of help limits input) rest old middle) (sign_first help prompt number lines) come)
      shows

  -- a line was taken in that doesn't end the prompt
  pub moved_on : (has shown : Bool) (input left rest : Option (List ℕ)) (prompt after : Prompt) (number : ℕ) (old new : Option (List ℕ)) (line : List ℕ) →
      HasSignedSo has shown help limits input left prompt number old new → IsNext LINE_FRONT left rest (Some line) → is_quit line ≡ false →
      after ≡ (response help prompt number line).0 → HasShownSo has shown help limits input rest after (number + 1) old new
  moved_on false shown input left rest prompt after number old new line come next on moved = come
  moved_on true shown None left rest prompt after number old new line come next on moved = tt
  moved_on true shown (Some input) None rest prompt after number old new line come next on moved = absurd come
  moved_on true shown (Some input) (Some left) rest prompt after number old new line come next on moved =
      let first = first_piece 10 left in
      let first_on : is_quit first ≡ false = sym (front_quit first) ∙ ap is_quit (sym next.1) ∙ on in
      let after_is : (response help prompt number first).0 ≡ after =
      sym (moved ∙ ap (λ (l : List ℕ). (response help prompt number l).0) next.1 ∙ ap (λ (a : Prompt × List ℕ). a.0) (front_response help prompt number first)) in
      let to_come : behind help prompt number (read_lines (lines_of left)) ≡ signs help after (number + 1) (read_lines (lines_of (drop_through 10 left))) =
      ap (behind help prompt number) (read_more left next.0)
      ∙ ap (λ (b : Bool). if b then [] else signs help (response help prompt number first).0 (number + 1) (read_lines (lines_of (drop_through 10 left)))) first_on
      ∙ ap (λ (p : Prompt). signs help p (number + 1) (read_lines (lines_of (drop_through 10 left)))) after_is in
      subst (λ (r : Option (List ℕ)). HasShownSo true shown help limits (Some input) r after (number + 1) old new) (sym next.2)
      (subst (λ (to : List ℕ). SignsCome shown (signs_of help limits input) to old new) to_come come)

  pub told : (has shown : Bool) (input left : Option (List ℕ)) (prompt : Prompt) (number : ℕ) (old new : Option (List ℕ)) →
      HasSignedSo has shown help limits input left prompt number old new → Shows has help limits input old new
  told false shown input left prompt number old new come = come.1
  told true shown None left prompt number old new come = tt
  told true shown (Some input) None prompt number old new come = absurd come
  told true shown (Some input) (Some left) prompt number old new come =
      come_told help limits input (behind help prompt number (read_lines (lines_of left))) shown old new come

  pub told_before : (has shown : Bool) (input left : Option (List ℕ)) (prompt : Prompt) (number : ℕ) (old new : Option (List ℕ)) →
      HasShownSo has shown help limits input left prompt number old new → Shows has help limits input old new
  told_before false shown input left prompt number old new come = come.1
  told_before true shown None left prompt number old new come = tt
  told_before true shown (Some input) None prompt number old new come = absurd come
  told_before true shown (Some input) (Some left) prompt number old new come =
      come_told help limits input (signs help prompt number (read_lines (lines_of left))) shown old new come
