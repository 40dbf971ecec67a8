-- Texts that are put one behind the other.
use Rattle.std.proofs.Common.{◌≡◌, ℕ, List, ◌++◌, ap, ◌∙◌, append_assoc}

pub two_more : (now a b one two : List ℕ) → one ≡ now ++ a → two ≡ one ++ b → two ≡ now ++ (a ++ b)
two_more now a b one two first second = second ∙ ap (λ (t : List ℕ). t ++ b) first ∙ append_assoc now a b

pub four_more : (now a b c d one two three four : List ℕ) → one ≡ now ++ a → two ≡ one ++ b → three ≡ two ++ c → four ≡ three ++ d →
    four ≡ now ++ (a ++ b ++ c ++ d)
four_more now a b c d one two three four first second third fourth =
    two_more now (a ++ b ++ c) d three four (two_more now (a ++ b) c two three (two_more now a b one two first second) third) fourth
