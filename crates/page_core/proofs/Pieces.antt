-- Texts that are put one behind the other.
use Rattle.std.proofs.Common.{◌≡◌, ℕ, List, ◌++◌, sym, ap, ◌∙◌, append_assoc}

pub two_more : (now a b one two : List ℕ) → one ≡ now ++ a → two ≡ one ++ b → two ≡ now ++ (a ++ b)
two_more now a b one two first second = second ∙ ap (λ (t : List ℕ). t ++ b) first ∙ append_assoc now a b

pub three_more : (now a b c one two three : List ℕ) → one ≡ now ++ a → two ≡ one ++ b → three ≡ two ++ c → three ≡ now ++ (a ++ b ++ c)
three_more now a b c one two three first second third = two_more now (a ++ b) c two three (two_more now a b one two first second) third

pub five_more : (now a b c d e one two three four five : List ℕ) → one ≡ now ++ a → two ≡ one ++ b → three ≡ two ++ c → four ≡ three ++ d →
    five ≡ four ++ e → five ≡ now ++ (a ++ b ++ c ++ d ++ e)
five_more now a b c d e one two three four five first second third fourth fifth =
    two_more now (a ++ b ++ c ++ d) e four five
    (two_more now (a ++ b ++ c) d three four (three_more now a b c one two three first second third) fourth) fifth
