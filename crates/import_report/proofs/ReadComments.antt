-- The comments of a script are read as nothing.
use Rattle.std.proofs.Common.{◌≡◌, ℕ, zero, suc, ◌+◌, ◌^◌, ◌<◌, ◌≤◌, nat_le, Bool, true, false, if◌then◌else◌, List, [], ◌∷◌, ◌++◌, length, take, get_or}
use Rattle.std.proofs.Common.{refl, sym, ap, ◌∙◌, append-nil, arith, decimal, codes, Ok}
use Rattle.std.specs.Str.{bytes_eq}
use Rattle.std.proofs.lemmas.Bool.Decides.{nat_tests}
use Rattle.std.proofs.lemmas.List.{length-append}
use Rattle.std.proofs.lemmas.Option.{unwrap_or-slice_get}
use Rattle.bench_core.specs.NameText.{is_name}
use Rattle.bench_core.specs.NameList.{Texts}
use Rattle.spelling_core.proofs.Spellings.{mark_short}
use Rattle.grammar_core.specs.Words.{is_text, words_of}
use Rattle.report_core.specs.Rows.{name_at}
use Rattle.run_core.proofs.Visible.{number_fits, name_fits, name_is}
use Rattle.import_core.specs.Tables.{AllTables}
use Rattle.import_report.specs.Ascii.{ascii_text, string_text}
use Rattle.import_report.specs.Names.{AreNames}
use Rattle.import_report.specs.Events.{ended}
use Rattle.import_report.specs.Comments.{shortened, node_line, node_comment, nodes_comments, word_line, words_comments, comments_text}
use Rattle.import_report.proofs.ReadBack.{ReadsAs, ReadsText, nothing_read, line_read, both_read, reading}
use Rattle.import_report.proofs.ReadEvents.{comment_words, words_line}
use Rattle.import_report.proofs.PlainTexts.{plain_ascii, plain_both, plain_string, plain_take, plain_visible}

take_low : (n : ℕ) (xs : List ℕ) → length (take n xs) ≤ n
take_low zero xs = omega arith
take_low (suc n) [] = omega arith
take_low (suc n) (x ∷ xs) = let rest = take_low n xs in omega (arith, rest)

low_if : (m n : ℕ) → nat_le m n ≡ true → m ≤ n
low_if m n e = grind (arith, nat_tests)

cut_low : (n : ℕ) (xs : List ℕ) → length (take n xs ++ codes "..") ≤ n + 2
cut_low n xs = let few = take_low n xs in let sum = length-append (take n xs) (codes "..") in omega (arith, few, sum)

-- what is told of a text fits into a line

record IsTold (text : List ℕ) : Type 0 where
  plain : is_text text ≡ true
  short : length text ≤ 4002

told : (bytes : List ℕ) → is_text bytes ≡ true → IsTold (shortened bytes)
told bytes plain = go (nat_le (length bytes) 4000) refl
  where
    go : (b : Bool) → nat_le (length bytes) 4000 ≡ b → IsTold (if b then bytes else take 4000 bytes ++ codes "..")
    go true low = record { plain = plain; short = let few = low_if (length bytes) 4000 low in omega (arith, few) }
    go false low = record { plain = plain_both (take 4000 bytes) (codes "..") (plain_take 4000 bytes plain) refl; short = cut_low 4000 bytes }

-- a line that begins with `# ` is a comment, whatever its words are

begins_comment : (rest : List ℕ) → words_of (35 ∷ 32 ∷ rest) ≡ codes "#" ∷ words_of rest
begins_comment rest = refl

line_of : (names : Texts) (rest : List ℕ) → is_text rest ≡ true → length rest + 2 ≤ 4096 → ReadsAs names (35 ∷ 32 ∷ rest) []
line_of names rest plain few lines number =
    words_line (reading names lines) number (35 ∷ 32 ∷ rest) (codes "#" ∷ words_of rest) (omega (arith, few)) plain (begins_comment rest)
    ∙ comment_words (reading names lines) number (words_of rest) ∙ ap (λ ls. Ok (reading names ls)) (sym (append-nil lines))

module _ (names : Texts) (are : AreNames names) where
  node_read : (n : ℕ) (node : List ℕ) → n < length names → ReadsAs names (node_line (name_at names n) node) []
  node_read n node low =
      let name = name_at names n in
      let is : name ≡ get_or names n [] = unwrap_or-slice_get names n [] in
      let fits = name_fits name (ap is_name is ∙ name_is names n are.valid low) in
      let told_is = told (string_text node) (plain_string node) in
      let text = shortened (string_text node) in
      let plain : is_text (name ++ codes " is \"" ++ text ++ codes "\"") ≡ true =
      plain_both (name ++ codes " is \"" ++ text) (codes "\"")
      (plain_both (name ++ codes " is \"") text (plain_both name (codes " is \"") (plain_visible name fits.seen) refl) told_is.plain) refl in
      let short = told_is.short in
      let few = fits.short in
      let a = length-append name (codes " is \"") in
      let b = length-append (name ++ codes " is \"") text in
      let c = length-append (name ++ codes " is \"" ++ text) (codes "\"") in
      line_of names (name ++ codes " is \"" ++ text ++ codes "\"") plain (omega (arith, short, few, a, b, c))

  node_text : (n : ℕ) (node : List ℕ) → n < length names → ReadsText names (node_comment (name_at names n) node) []
  node_text n node low = go (bytes_eq (name_at names n) node)
    where
      go : (b : Bool) → ReadsText names (if b then [] else ended (node_line (name_at names n) node)) []
      go true = nothing_read names
      go false = line_read names (node_line (name_at names n) node) [] (node_read n node low)

  nodes_text : (n : ℕ) (nodes : Texts) → n + length nodes ≤ length names → ReadsText names (nodes_comments names n nodes) []
  unfolding nodes_comments
  nodes_text n [] few = nothing_read names
  nodes_text n (node ∷ nodes) few =
      both_read names (node_comment (name_at names n) node) (nodes_comments names (n + 1) nodes) [] []
      (node_text n node (let h = few in omega (arith, h))) (nodes_text (n + 1) nodes (let h = few in omega (arith, h)))

  word_read : (n : ℕ) (text : List ℕ) → n < 2 ^ 64 → ReadsAs names (word_line n text) []
  word_read n text small =
      let told_is = told (ascii_text text) (plain_ascii text) in
      let value = shortened (ascii_text text) in
      let plain : is_text (codes "~" ++ decimal n ++ codes " is " ++ value) ≡ true =
      plain_both (codes "~" ++ decimal n ++ codes " is ") value
      (plain_both (codes "~" ++ decimal n) (codes " is ") (plain_both (codes "~") (decimal n) refl (plain_visible (decimal n) (number_fits n small).seen)) refl) told_is.plain in
      let short = told_is.short in
      let few = mark_short n small in
      let a = length-append (codes "~" ++ decimal n) (codes " is ") in
      let b = length-append (codes "~" ++ decimal n ++ codes " is ") value in
      line_of names (codes "~" ++ decimal n ++ codes " is " ++ value) plain (omega (arith, short, few, a, b))

  words_text : (n : ℕ) (texts : Texts) → n + length texts ≤ 2 ^ 64 → ReadsText names (words_comments n texts) []
  unfolding words_comments
  words_text n [] few = nothing_read names
  words_text n (text ∷ texts) few =
      both_read names (ended (word_line n text)) (words_comments (n + 1) texts) [] []
      (line_read names (word_line n text) [] (word_read n text (let h = few in omega (arith, h)))) (words_text (n + 1) texts (let h = few in omega (arith, h)))

  pub comments_read : (t : AllTables) → length names ≡ length t.nodes → length t.longs < 2 ^ 64 → ReadsText names (comments_text names t) []
  unfolding comments_text
  comments_read t same few =
      both_read names (nodes_comments names 0 t.nodes) (words_comments 0 t.longs) [] []
      (nodes_text 0 t.nodes (let h = same in omega (arith, h))) (words_text 0 t.longs (let h = few in omega (arith, h)))
