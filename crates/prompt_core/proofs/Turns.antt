-- A turn of a prompt: a line is taken in, and its response goes out.
use Rattle.std.proofs.Common.{◌≡◌, ℕ, ◌+◌, ◌-◌, ◌^◌, ◌<◌, ◌≤◌, if◌then◌else◌, Bool, true, false, List, [], ◌∷◌, ◌++◌, length, take, drop, Option, Some, None, Result, Ok, Err, IfOk, ◌≢◌, refl, sym, ap, ap₂, ◌∙◌, subst, append_assoc, append-nil, arith}
use Rattle.std.proofs.KnownBytes.{Appends-nil, Appends-trans}
use Rattle.std.proofs.Math.Seq.{take-append_seam}
use Rattle.std.proofs.lemmas.List.{length-append, take-append-drop}
use Rattle.std.proofs.lemmas.List.Elements.{All-nil, All-take}
use Rattle.std.specs.List.{All, list_any}
use Rattle.std.specs.Io.{StartsWith, StopsAt}
use Rattle.std.specs.Io.BufRead.{drop_through, first_piece, take_through}
use Rattle.std.specs.Io.KnownBytes.{Appends}
use Rattle.bench_core.specs.Limits.{Limits}
use Rattle.grammar_core.specs.Grammar.{script_of}
use Rattle.run_core.specs.Prompts.{Prompt, new_prompt}
use Rattle.run_core.specs.Report.{report_of}
use Rattle.grammar_core.specs.Scripts.{Script}
use Rattle.grammar_core.specs.declared.fault.ScriptFault.{ScriptFault}
use Rattle.grammar_core.specs.Words.{lines_of}
use Rattle.prompt_core.specs.Responses.{response, responses, is_quit}
use Rattle.stream_core.specs.NextLines.{IsEndless, IsNext, TakesLine, TakesPart, line_front}
use Rattle.stream_core.specs.Steps.{FailsAs as InputFailsAs, Steps}
use Rattle.prompt_core.specs.Ends.{Responds, EndsEarly, FailsAs, HasNoQuit, IsCutShort, IsRead, ReportLaw, Reports, of_input, printed, unread}
use Rattle.prompt_core.specs.declared.stepping.TheConstants.{LINE_FRONT}
use Rattle.prompt_core.specs.declared.prompt_fault.PromptFault.{PromptFault}
use Rattle.prompt_core.specs.declared.prompt_fault.PromptFault.TheVariants as prompts
use Rattle.prompt_core.specs.declared.prompt_fault.PromptFault.TheVariants.{ReadFault, WriteFault}
use Rattle.stream_core.specs.declared.stream_fault.InputFault.{InputFault}
use Rattle.stream_core.specs.declared.stream_fault.InputFault.TheVariants as inputs
use Rattle.prompt_core.proofs.Endings.{next_quits, none_quits, quits, unread_ended, unread_none, unread_on}
use Rattle.prompt_core.proofs.LineFronts.{front_response, front_quit}
use Rattle.stream_core.proofs.Pieces.{first_stays, is_line, rest_stays, some_taken, taken_whole}
use Rattle.prompt_core.proofs.Printed.{next_responded, none_left}

appends_as : (old new : Option (List ℕ)) (a b : List ℕ) → a ≡ b → Appends old new a → Appends old new b
appends_as old new a b is first = subst (λ (t : List ℕ). Appends old new t) is first

starts_as : (whole front behind : List ℕ) → whole ≡ front ++ behind → StartsWith whole front
starts_as whole front behind is = subst (λ (l : List ℕ). StartsWith l front) (sym is) (take-append_seam front behind)

-- how far a prompt has come: what it finished of the input, and that it responds to what is left, or the first lines of it, as the
-- whole asks
pub record HasCome (help : List ℕ) (limits : Limits) (input left : List ℕ) (prompt : Prompt) (number : ℕ) (old new : Option (List ℕ)) : Type 0 where
  pub finished : List ℕ
  pub text : List ℕ
  pub taken : input ≡ finished ++ left
  pub out : Appends old new text
  pub counted : number ≤ length finished + 1
  pub goes_on : (more behind : List ℕ) → left ≡ more ++ behind → printed help limits (finished ++ more) ≡ text ++ responses help prompt number (lines_of more)
  pub unended : (more behind : List ℕ) → left ≡ more ++ behind → quits (finished ++ more) ≡ quits more
  pub unread_is : unread input ≡ unread left

-- the same, where the reader's bytes are known
abbrev pub HasComeSo : List ℕ → Limits → Option (List ℕ) → Option (List ℕ) → Prompt → ℕ → Option (List ℕ) → Option (List ℕ) → Type 0
HasComeSo help limits None left prompt number old new = Unit {0}
HasComeSo help limits (Some input) None prompt number old new = ⊥
HasComeSo help limits (Some input) (Some left) prompt number old new = HasCome help limits input left prompt number old new

-- the lines of an input of which no more than these are left
next_first : (help : List ℕ) (prompt : Prompt) (number : ℕ) (left more behind : List ℕ) → drop_through 10 left ≡ more ++ behind →
    is_quit (first_piece 10 left) ≡ false →
    responses help prompt number (lines_of (take_through 10 left ++ more))
    ≡ (response help prompt number (first_piece 10 left)).1 ++ responses help (response help prompt number (first_piece 10 left)).0 (number + 1) (lines_of more)
next_first help prompt number left more behind is on =
    next_responded help prompt number (take_through 10 left ++ more)
    ∙ ap₂ (λ (l m : List ℕ). if is_quit l then [] else (response help prompt number l).1 ++ responses help (response help prompt number l).0 (number + 1) (lines_of m))
    (first_stays left more behind is) (rest_stays left more behind is)
    ∙ ap (λ (b : Bool). if b then []
    else (response help prompt number (first_piece 10 left)).1 ++ responses help (response help prompt number (first_piece 10 left)).0 (number + 1) (lines_of more)) on

module _ (help : List ℕ) (limits : Limits) where
  -- before the first line
  pub begins : (input old : Option (List ℕ)) → HasComeSo help limits input input (new_prompt limits) 1 old old
  begins None old = tt
  begins (Some input) old = record {
    finished = [];
    text = [];
    taken = refl;
    out = Appends-nil old;
    counted = omega arith;
    goes_on = λ more behind is. refl;
    unended = λ more behind is. refl;
    unread_is = refl;
  }

  -- what went out is what is printed of what was finished
  module _ (input left : List ℕ) (prompt : Prompt) (number : ℕ) (old new : Option (List ℕ)) where
    text_is : (come : HasCome help limits input left prompt number old new) → printed help limits come.finished ≡ come.text
    text_is come =
        ap (printed help limits) (sym (append-nil come.finished)) ∙ come.goes_on [] left refl
        ∙ ap (λ (t : List ℕ). come.text ++ t) (none_left help prompt number) ∙ append-nil come.text

    -- and no line of it ends the prompt
    unended_is : (come : HasCome help limits input left prompt number old new) → HasNoQuit come.finished
    unended_is come = ap quits (sym (append-nil come.finished)) ∙ come.unended [] left refl ∙ none_quits

    -- an input that is at its end is finished
    end : HasCome help limits input left prompt number old new → left ≡ [] → Appends old new (printed help limits input)
    end come none =
        let all : input ≡ come.finished = come.taken ∙ ap (λ (l : List ℕ). come.finished ++ l) none ∙ append-nil come.finished in
        appends_as old new come.text (printed help limits input) (sym (ap (printed help limits) all ∙ text_is come)) come.out

    -- one whose next line ends the prompt
    end_by : HasCome help limits input left prompt number old new → is_quit (first_piece 10 left) ≡ true → Appends old new (printed help limits input)
    end_by come ends =
        let none : responses help prompt number (lines_of left) ≡ [] =
        next_responded help prompt number left
        ∙ ap (λ (b : Bool). if b then []
        else (response help prompt number (first_piece 10 left)).1
        ++ responses help (response help prompt number (first_piece 10 left)).0 (number + 1) (lines_of (drop_through 10 left))) ends in
        appends_as old new come.text (printed help limits input)
        (sym (ap (printed help limits) come.taken ∙ come.goes_on left [] (sym (append-nil left)) ∙ ap (λ (t : List ℕ). come.text ++ t) none ∙ append-nil come.text))
        come.out

    -- no more than a line was taken in
    cut : (fault : PromptFault) (last rest : List ℕ) → HasCome help limits input left prompt number old new → left ≡ last ++ rest →
        StopsAt last 10 → (fault ≡ ReadFault → All (λ b. b ≢ 10) last) → IsCutShort help limits fault input rest old new
    cut fault last rest come is stops within =
        let out_is : come.text ≡ printed help limits come.finished ++ [] = sym (append-nil (printed help limits come.finished) ∙ text_is come) in
        record {
          finished = come.finished;
          last = last;
          part = [];
          taken = come.taken ∙ ap (λ (l : List ℕ). come.finished ++ l) is;
          one_line = stops;
          out = appends_as old new come.text (printed help limits come.finished ++ []) out_is come.out;
          beginning =
              starts_as (printed help limits (come.finished ++ last)) (printed help limits come.finished ++ []) (responses help prompt number (lines_of last))
              (come.goes_on last rest is ∙ ap (λ (t : List ℕ). t ++ responses help prompt number (lines_of last)) out_is);
          unwritten = λ other. refl;
          within_line = within;
          unended = unended_is come;
        }

  -- a line was taken in
  module _ (input left : List ℕ) (prompt : Prompt) (number : ℕ) (old middle new : Option (List ℕ)) (text : List ℕ) where
    abbrev here : Prompt × List ℕ
    here = response help prompt number (first_piece 10 left)

    -- and its response went out
    turn : left ≢ [] → is_quit (first_piece 10 left) ≡ false → (after : Prompt) → HasCome help limits input left prompt number old middle →
        text ≡ here.1 → after ≡ here.0 → Appends middle new text → HasCome help limits input (drop_through 10 left) after (number + 1) old new
    turn some on after come text_is_so after_is out =
        record {
          finished = come.finished ++ take_through 10 left;
          text = come.text ++ text;
          taken =
              come.taken ∙ ap (λ (l : List ℕ). come.finished ++ l) (sym (taken_whole left))
              ∙ sym (append_assoc come.finished (take_through 10 left) (drop_through 10 left));
          out = Appends-trans old middle new come.text text come.out out;
          counted =
              let one : 0 < length (take_through 10 left) = some_taken left some in
              omega (arith, length-append come.finished (take_through 10 left), come.counted);
          goes_on = λ more behind is.
              ap (printed help limits) (append_assoc come.finished (take_through 10 left) more)
              ∙ come.goes_on (take_through 10 left ++ more) behind
              (sym (taken_whole left) ∙ ap (λ (l : List ℕ). take_through 10 left ++ l) is ∙ sym (append_assoc (take_through 10 left) more behind))
              ∙ ap (λ (t : List ℕ). come.text ++ t) (next_first help prompt number left more behind is on)
              ∙ ap₂ (λ (t : List ℕ) (p : Prompt). come.text ++ (t ++ responses help p (number + 1) (lines_of more))) (sym text_is_so) (sym after_is)
              ∙ sym (append_assoc come.text text (responses help after (number + 1) (lines_of more)));
          unended = λ more behind is.
              ap quits (append_assoc come.finished (take_through 10 left) more)
              ∙ come.unended (take_through 10 left ++ more) behind
              (sym (taken_whole left) ∙ ap (λ (l : List ℕ). take_through 10 left ++ l) is ∙ sym (append_assoc (take_through 10 left) more behind))
              ∙ next_quits left more behind is on;
          unread_is = come.unread_is ∙ unread_on left on;
        }

    -- and a beginning of its response went out
    cut_part : (count : ℕ) → is_quit (first_piece 10 left) ≡ false → HasCome help limits input left prompt number old middle → text ≡ here.1 → Appends middle new (take count text) →
        IsCutShort help limits WriteFault input (drop_through 10 left) old new
    cut_part count on come text_is_so out =
        let part = take count text in
        let behind = drop count text ++ responses help here.0 (number + 1) (lines_of []) in
        let so_far : come.text ≡ printed help limits come.finished = sym (text_is input left prompt number old middle come) in
        record {
          finished = come.finished;
          last = take_through 10 left;
          part = part;
          taken = come.taken ∙ ap (λ (l : List ℕ). come.finished ++ l) (sym (taken_whole left));
          one_line = is_line left;
          out =
              appends_as old new (come.text ++ part) (printed help limits come.finished ++ part) (ap (λ (t : List ℕ). t ++ part) so_far)
              (Appends-trans old middle new come.text part come.out out);
          beginning =
              starts_as (printed help limits (come.finished ++ take_through 10 left)) (printed help limits come.finished ++ part) behind
              (come.goes_on (take_through 10 left) (drop_through 10 left) (sym (taken_whole left))
              ∙ ap (λ (l : List ℕ). come.text ++ responses help prompt number (lines_of l)) (sym (append-nil (take_through 10 left)))
              ∙ ap (λ (t : List ℕ). come.text ++ t) (next_first help prompt number left [] (drop_through 10 left) refl on)
              ∙ ap (λ (t : List ℕ). come.text ++ (t ++ responses help here.0 (number + 1) (lines_of []))) (sym text_is_so ∙ sym (take-append-drop count text))
              ∙ ap (λ (t : List ℕ). come.text ++ t) (append_assoc part (drop count text) (responses help here.0 (number + 1) (lines_of [])))
              ∙ sym (append_assoc come.text part behind) ∙ ap (λ (t : List ℕ). (t ++ part) ++ behind) so_far);
          unwritten = λ other. absurd (other refl);
          within_line = λ is. cc;
          unended = unended_is input left prompt number old middle come;
        }

  -- the same, where the reader's bytes are known

  response_is : (prompt : Prompt) (number : ℕ) (left line : List ℕ) → line ≡ line_front LINE_FRONT (first_piece 10 left) →
      response help prompt number line ≡ response help prompt number (first_piece 10 left)
  response_is prompt number left line is = ap (response help prompt number) is ∙ front_response help prompt number (first_piece 10 left)

  quits_as : (left line : List ℕ) (b : Bool) → line ≡ line_front LINE_FRONT (first_piece 10 left) → is_quit line ≡ b → is_quit (first_piece 10 left) ≡ b
  quits_as left line b is quits_so = sym (front_quit (first_piece 10 left)) ∙ ap is_quit (sym is) ∙ quits_so

  pub turned : (input left rest : Option (List ℕ)) (prompt after : Prompt) (number : ℕ) (old middle new : Option (List ℕ)) (line text : List ℕ) →
      HasComeSo help limits input left prompt number old middle → IsNext LINE_FRONT left rest (Some line) → is_quit line ≡ false →
      text ≡ (response help prompt number line).1 → after ≡ (response help prompt number line).0 → Appends middle new text → HasComeSo help limits input rest after (number + 1) old new
  turned None left rest prompt after number old middle new line text come next on told moved out = tt
  turned (Some input) None rest prompt after number old middle new line text come next on told moved out = absurd come
  turned (Some input) (Some left) rest prompt after number old middle new line text come next on told moved out =
      subst (λ (r : Option (List ℕ)). HasComeSo help limits (Some input) r after (number + 1) old new) (sym next.2)
      (turn input left prompt number old middle new text next.0 (quits_as left line false next.1 on) after come
      (told ∙ ap (λ (a : Prompt × List ℕ). a.1) (response_is prompt number left line next.1))
      (moved ∙ ap (λ (a : Prompt × List ℕ). a.0) (response_is prompt number left line next.1)) out)

  pub ended : (input left rest : Option (List ℕ)) (prompt : Prompt) (number : ℕ) (old new : Option (List ℕ)) →
      HasComeSo help limits input left prompt number old new → IsNext LINE_FRONT left rest None → Responds help limits input old new
  ended None left rest prompt number old new come next = tt
  ended (Some input) None rest prompt number old new come next = absurd come
  ended (Some input) (Some left) rest prompt number old new come next = end input left prompt number old new come next.0

  -- to its end
  pub end_read : (input left rest : Option (List ℕ)) (prompt : Prompt) (number : ℕ) (old new : Option (List ℕ)) →
      HasComeSo help limits input left prompt number old new → IsNext LINE_FRONT left rest None → IsRead input rest
  end_read None left rest prompt number old new come next = tt
  end_read (Some input) None rest prompt number old new come next = absurd come
  end_read (Some input) (Some left) rest prompt number old new come next =
      subst (λ (r : Option (List ℕ)). IsRead (Some input) r) (sym next.1) (sym (come.unread_is ∙ ap unread next.0 ∙ unread_none))

  -- a line was taken in that ends the prompt

  pub ended_by : (input left rest : Option (List ℕ)) (prompt : Prompt) (number : ℕ) (old new : Option (List ℕ)) (line : List ℕ) →
      HasComeSo help limits input left prompt number old new → IsNext LINE_FRONT left rest (Some line) → is_quit line ≡ true → Responds help limits input old new
  ended_by None left rest prompt number old new line come next ends = tt
  ended_by (Some input) None rest prompt number old new line come next ends = absurd come
  ended_by (Some input) (Some left) rest prompt number old new line come next ends =
      end_by input left prompt number old new come (quits_as left line true next.1 ends)

  pub read_by : (input left rest : Option (List ℕ)) (prompt : Prompt) (number : ℕ) (old new : Option (List ℕ)) (line : List ℕ) →
      HasComeSo help limits input left prompt number old new → IsNext LINE_FRONT left rest (Some line) → is_quit line ≡ true → IsRead input rest
  read_by None left rest prompt number old new line come next ends = tt
  read_by (Some input) None rest prompt number old new line come next ends = absurd come
  read_by (Some input) (Some left) rest prompt number old new line come next ends =
      subst (λ (r : Option (List ℕ)). IsRead (Some input) r) (sym next.2)
      (sym (come.unread_is ∙ unread_ended left (quits_as left line true next.1 ends)))

  pub cut_short : (fault : PromptFault) (input left rest : Option (List ℕ)) (prompt : Prompt) (number : ℕ) (old new : Option (List ℕ)) →
      HasComeSo help limits input left prompt number old new → TakesLine left rest → fault ≢ ReadFault → EndsEarly help limits fault input rest old new
  cut_short fault None left rest prompt number old new come line other = tt
  cut_short fault (Some input) None rest prompt number old new come line other = absurd come
  cut_short fault (Some input) (Some left) None prompt number old new come line other = absurd line.1
  cut_short fault (Some input) (Some left) (Some rest) prompt number old new come line other =
      cut input left prompt number old new fault line.0 rest come line.1 line.2 (λ is. absurd (other is))

  -- a read failed within a line
  cut_part_read : (input left rest : Option (List ℕ)) (prompt : Prompt) (number : ℕ) (old new : Option (List ℕ)) →
      HasComeSo help limits input left prompt number old new → TakesPart left rest → EndsEarly help limits ReadFault input rest old new
  cut_part_read None left rest prompt number old new come part = tt
  cut_part_read (Some input) None rest prompt number old new come part = absurd come
  cut_part_read (Some input) (Some left) None prompt number old new come part = absurd part.1
  cut_part_read (Some input) (Some left) (Some rest) prompt number old new come part =
      cut input left prompt number old new ReadFault part.0 rest come part.1 (All-take (λ b. b ≢ 10) (length part.0 - 1) part.0 part.2) (λ is. part.2)

  -- the next line could not be had
  pub cut_reading : (fault : InputFault) (input left rest : Option (List ℕ)) (prompt : Prompt) (number : ℕ) (old new : Option (List ℕ)) →
      HasComeSo help limits input left prompt number old new → TakesLine left rest → (fault ≡ inputs.ReadFault → TakesPart left rest) →
      EndsEarly help limits (of_input fault) input rest old new
  cut_reading inputs.ReadFault input left rest prompt number old new come line part = cut_part_read input left rest prompt number old new come (part refl)
  cut_reading inputs.TooLong input left rest prompt number old new come line part =
      cut_short prompts.TooLong input left rest prompt number old new come line (λ is. cc)
  cut_reading inputs.OutOfMemory input left rest prompt number old new come line part =
      cut_short prompts.OutOfMemory input left rest prompt number old new come line (λ is. cc)

  -- before a line is taken in
  pub cut_before : (fault : PromptFault) (input left : Option (List ℕ)) (prompt : Prompt) (number : ℕ) (old new : Option (List ℕ)) →
      HasComeSo help limits input left prompt number old new → EndsEarly help limits fault input left old new
  cut_before fault None left prompt number old new come = tt
  cut_before fault (Some input) None prompt number old new come = absurd come
  cut_before fault (Some input) (Some left) prompt number old new come =
      cut input left prompt number old new fault [] left come refl (All-nil (λ b. b ≢ 10)) (λ is. All-nil (λ b. b ≢ 10))

  pub cut_writing : (input left rest : Option (List ℕ)) (prompt : Prompt) (number : ℕ) (old middle new : Option (List ℕ)) (line text : List ℕ) (count : ℕ) →
      HasComeSo help limits input left prompt number old middle → IsNext LINE_FRONT left rest (Some line) → is_quit line ≡ false →
      text ≡ (response help prompt number line).1 → Appends middle new (take count text) → EndsEarly help limits WriteFault input rest old new
  cut_writing None left rest prompt number old middle new line text count come next on told out = tt
  cut_writing (Some input) None rest prompt number old middle new line text count come next on told out = absurd come
  cut_writing (Some input) (Some left) rest prompt number old middle new line text count come next on told out =
      subst (λ (r : Option (List ℕ)). EndsEarly help limits WriteFault (Some input) r old new) (sym next.2)
      (cut_part input left prompt number old middle new text count (quits_as left line false next.1 on) come
      (told ∙ ap (λ (a : Prompt × List ℕ). a.1) (response_is prompt number left line next.1)) out)

  -- there are no numbers left
  pub many : (input left : Option (List ℕ)) (prompt : Prompt) (number : ℕ) (old new : Option (List ℕ)) →
      HasComeSo help limits input left prompt number old new → 2 ^ 64 - 1 ≤ number → IsEndless input
  many None left prompt number old new come last = tt
  many (Some input) None prompt number old new come last = absurd come
  many (Some input) (Some left) prompt number old new come last =
      let whole : length input ≡ length come.finished + length left = ap length come.taken ∙ length-append come.finished left in
      omega (arith, come.counted)

  -- nor numbers for the bytes of a line
  pub long_line : (input left : Option (List ℕ)) (prompt : Prompt) (number : ℕ) (old new : Option (List ℕ)) →
      HasComeSo help limits input left prompt number old new → IsEndless left → IsEndless input
  long_line None left prompt number old new come more = tt
  long_line (Some input) None prompt number old new come more = absurd come
  long_line (Some input) (Some left) prompt number old new come more =
      let whole : length input ≡ length come.finished + length left = ap length come.taken ∙ length-append come.finished left in
      omega arith

-- a read failed, and that is told
pub fails_reading : (fault : InputFault) (first old new : Steps) → old.failed ≡ first.failed → InputFailsAs {X = Unit {0}} (Err fault) old new →
    FailsAs (Err (of_input fault)) first new
fails_reading inputs.ReadFault first old new so fails = fails ∙ ap (λ n. n + 1) so
fails_reading inputs.TooLong first old new so fails = fails ∙ so
fails_reading inputs.OutOfMemory first old new so fails = fails ∙ so

-- what is told as too long is a line without end
pub too_long : (fault : InputFault) → of_input fault ≡ prompts.TooLong → fault ≡ inputs.TooLong
too_long inputs.ReadFault is = absurd (cc)
too_long inputs.TooLong is = refl
too_long inputs.OutOfMemory is = absurd (cc)

-- a script without faults has its report
pub reports : ReportLaw → (help : List ℕ) (limits : Limits) (input old new : Option (List ℕ)) → Responds help limits input old new →
    Reports limits input old new
reports law help limits None old new finished = tt
reports law help limits (Some input) old new finished = go (script_of input) (law help limits input)
  where
    go : (r : Result Script ScriptFault) → ((script : Script) → r ≡ Ok script → printed help limits input ≡ report_of limits script)
        → IfOk r (λ script. Appends old new (report_of limits script))
    go (Err fault) same = tt
    go (Ok script) same = subst (λ (t : List ℕ). Appends old new t) (same script refl) finished
