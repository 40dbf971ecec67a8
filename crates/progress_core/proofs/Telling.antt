-- One line more.
use Rattle.std.proofs.Common.{◌≡◌, ℕ, ◌+◌, Bool, true, false, List, [], ◌∷◌, ◌++◌, length, take, Option, refl, sym, ap, ◌∙◌, subst, append-nil, append_assoc, suc-add, zero-add, true≢false}
use Rattle.std.specs.Io.KnownBytes.{Appends}
use Rattle.std.specs.List.{flat_map}
use Rattle.std.proofs.KnownBytes.{Appends-nil, Appends-trans}
use Rattle.progress_core.specs.Lines.{HasTold, Puts, TellsLines}

take_whole : (xs : List ℕ) → take (length xs) xs ≡ xs
take_whole [] = refl
take_whole (x ∷ xs) = ap (λ l. x ∷ l) (take_whole xs)

take_past : (xs ys : List ℕ) (n : ℕ) → take (length xs + n) (xs ++ ys) ≡ xs ++ take n ys
take_past [] ys n = ap (λ k. take k ys) (zero-add n)
take_past (x ∷ xs) ys n = ap (λ k. take k (x ∷ (xs ++ ys))) (suc-add (length xs) n) ∙ ap (λ l. x ∷ l) (take_past xs ys n)

-- six pieces of a text, put behind one another
pub pieces : (a b c d e f : List ℕ) → a ++ b ++ c ++ d ++ e ++ f ≡ a ++ (b ++ (c ++ (d ++ (e ++ f))))
pieces a b c d e f = append_assoc (a ++ b ++ c ++ d) e f ∙ append_assoc (a ++ b ++ c) d (e ++ f) ∙ append_assoc (a ++ b) c (d ++ (e ++ f)) ∙ append_assoc a b (c ++ (d ++ (e ++ f)))

lines_more : {P : Type 0} (line : P → List ℕ) (works : List P) (work : P) → flat_map line (works ++ work ∷ []) ≡ flat_map line works ++ line work
lines_more line [] work = append-nil (line work)
lines_more line (x ∷ works) work = ap (λ l. line x ++ l) (lines_more line works work) ∙ sym (append_assoc (line x) (flat_map line works) (line work))

-- nothing was told
pub tells_nothing : {P : Type 0} (line : P → List ℕ) (bytes : Option (List ℕ)) → TellsLines line bytes bytes
tells_nothing line bytes = ([], 0, Appends-nil bytes)

-- nor by one that still can
pub told_nothing : {P : Type 0} (line : P → List ℕ) (able : Bool) (bytes : Option (List ℕ)) → HasTold line able bytes bytes
told_nothing line able bytes = record { part = tells_nothing line bytes; whole = λ _. ([], Appends-nil bytes) }

-- a line more, or a beginning of it
pub told_more : {P : Type 0} (line : P → List ℕ) (work : P) (able : Bool) (old mid new : Option (List ℕ)) → HasTold line true old mid → Puts (line work) able mid new → HasTold line able old new
told_more line work true old mid new t puts =
    let w = t.whole refl in
    let all : Appends old new (flat_map line (w.0 ++ work ∷ [])) =
    subst (Appends old new) (sym (lines_more line w.0 work)) (Appends-trans old mid new (flat_map line w.0) (line work) w.1 puts) in
    record {
      part = (w.0 ++ work ∷ [], length (flat_map line (w.0 ++ work ∷ [])), subst (Appends old new) (sym (take_whole (flat_map line (w.0 ++ work ∷ [])))) all);
      whole = λ _. (w.0 ++ work ∷ [], all);
    }
told_more line work false old mid new t puts =
    let w = t.whole refl in
    record {
      part = (
        w.0 ++ work ∷ [],
        length (flat_map line w.0) + puts.0,
        subst (Appends old new) (sym (ap (take (length (flat_map line w.0) + puts.0)) (lines_more line w.0 work) ∙ take_past (flat_map line w.0) (line work) puts.0))
            (Appends-trans old mid new (flat_map line w.0) (take puts.0 (line work)) w.1 puts.1),
      );
      whole = λ h. absurd (true≢false (sym h));
    }
