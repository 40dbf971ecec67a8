-- What the names of nodes and the marks of cut words stand for, as comments.
use Rattle.std.specs.Prelude.{ℕ, ◌+◌, nat_le, if◌then◌else◌, List, [], ◌∷◌, ◌++◌, length, take, codes, decimal}
use Rattle.std.specs.Str.{bytes_eq}
use Rattle.bench_core.specs.NameList.{Texts}
use Rattle.report_core.specs.Rows.{name_at}
use Rattle.import_core.specs.Tables.{AllTables}
use Rattle.import_report.specs.Ascii.{ascii_text, string_text}
use Rattle.import_report.specs.Events.{ended}

-- a text, or the beginning of one that is too long for a line
abbrev pub shortened : List ℕ → List ℕ
shortened bytes = if nat_le (length bytes) 4000 then bytes else take 4000 bytes ++ codes ".."

-- `# n0 is "app@10.0.0.1"`
abbrev pub node_line : List ℕ → List ℕ → List ℕ
node_line name node = codes "# " ++ name ++ codes " is \"" ++ shortened (string_text node) ++ codes "\""

-- the line about a node's own name; nothing if the node has that name in the script
abbrev pub node_comment : List ℕ → List ℕ → List ℕ
node_comment name node = if bytes_eq name node then [] else ended (node_line name node)

-- the comments of the nodes from number n on
unfoldable pub nodes_comments : Texts → ℕ → Texts → List ℕ
nodes_comments names n [] = []
nodes_comments names n (node ∷ nodes) = node_comment (name_at names n) node ++ nodes_comments names (n + 1) nodes

-- `# ~0 is ..`, the text of the value whose word was cut under this number
abbrev pub word_line : ℕ → List ℕ → List ℕ
word_line number text = codes "# ~" ++ decimal number ++ codes " is " ++ shortened (ascii_text text)

unfoldable pub words_comments : ℕ → Texts → List ℕ
words_comments n [] = []
words_comments n (text ∷ texts) = ended (word_line n text) ++ words_comments (n + 1) texts

unfoldable pub comments_text : Texts → AllTables → List ℕ
comments_text names t = nodes_comments names 0 t.nodes ++ words_comments 0 t.longs
