-- The hash of what is tracked: it is the same if process, topic and key are.
use Rattle.std.specs.Prelude.{ℕ, ◌+◌, ◌*◌, ◌%◌, ◌^◌, List, [], ◌∷◌}

-- the hash with one more number mixed in
abbrev pub mixed : ℕ → ℕ → ℕ
mixed hash number = (hash * 1099511628211 % 2 ^ 64 + number) % 2 ^ 64

-- the hash with these numbers mixed in
abbrev pub mixed_all : ℕ → List ℕ → ℕ
mixed_all hash [] = hash
mixed_all hash (n ∷ ns) = mixed_all (mixed hash n) ns

-- the hash of a process, a topic and a key; a 0, which no word has, ends the topic
abbrev pub hash_of : ℕ → List ℕ → List ℕ → ℕ
hash_of pid topic key = mixed_all (mixed (mixed_all pid topic) 0) key
