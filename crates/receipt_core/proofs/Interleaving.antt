-- Receipts that agree with a history are its new events, in an interleaving.
use Rattle.std.proofs.Common.{◌≡◌, ◌⊎◌, ℕ, ◌+◌, ◌-◌, ◌<◌, ◌≤◌, Bool, true, false, cond, eqb, zero, suc, List, [], ◌∷◌, length, drop, refl, ap, sym, ◌∙◌, arith, inl, inr, subst}
use Rattle.std.specs.List.{filter, AllByRecursion}
use Rattle.std.proofs.Math.Seq.{drop-cons}
use Rattle.std.proofs.lemmas.List.{length-drop, drop_all}
use Rattle.std.proofs.lemmas.Option.{get_or_from_slice_get, slice_get_within}
use Rattle.bench_core.specs.Acts.{Action}
use Rattle.bench_core.specs.Machine.{Event}
use Rattle.receipt_core.specs.Receipts.{Receipt, event_of}
use Rattle.receipt_core.specs.Agree.{Line, numbered, lines_of, named, AreReceiptsOf, AreAllReceipts, Agrees}
use Rattle.receipt_core.specs.Interleaving.{told, all_told, part, AreParts, IsInterleaving}
use Rattle.receipt_core.proofs.Counts.{counts, counts-all, counts-le, counts-tell}

-- xs stands in ys, in its order, with others between
abbrev Sub : List Event → List Event → Type 0
Sub [] ys = Unit {0}
Sub (x ∷ xs) [] = ⊥
Sub (x ∷ xs) (y ∷ ys) = ((x ≡ y) × Sub xs ys) ⊎ Sub (x ∷ xs) ys

sub-skip : (xs : List Event) (y : Event) (ys : List Event) → Sub xs ys → Sub xs (y ∷ ys)
sub-skip [] y ys s = tt
sub-skip (x ∷ xs) y ys s = inr s

sub-length : (xs ys : List Event) → Sub xs ys → length xs ≤ length ys
sub-length [] ys s = omega arith
sub-length (x ∷ xs) [] s = absurd s
sub-length (x ∷ xs) (y ∷ ys) (inl s) = let h = sub-length xs ys s.1 in omega arith
sub-length (x ∷ xs) (y ∷ ys) (inr s) = let h = sub-length (x ∷ xs) ys s in omega arith

sub-whole : (xs ys : List Event) → Sub xs ys → length xs ≡ length ys → ys ≡ xs
sub-whole [] [] s e = refl
sub-whole [] (y ∷ ys) s e = absurd (omega arith)
sub-whole (x ∷ xs) [] s e = absurd s
sub-whole (x ∷ xs) (y ∷ ys) (inl s) e = let h = sub-whole xs ys s.1 (omega arith) in rw (s.0, h) refl
sub-whole (x ∷ xs) (y ∷ ys) (inr s) e = let h = sub-length (x ∷ xs) ys s in absurd (omega arith)

sub-cond : (xs : List Event) (b : Bool) (y : Event) (ys : List Event) → Sub xs ys → Sub xs (cond b (y ∷ ys) ys)
sub-cond xs true y ys s = sub-skip xs y ys s
sub-cond xs false y ys s = s

-- a part of what is left is in the part of the whole
sub-drop : (actor : ℕ) (xs : List Event) (n : ℕ) (ys : List Event) → Sub xs (part actor (drop n ys)) → Sub xs (part actor ys)
sub-drop actor xs zero ys s = s
sub-drop actor xs (suc n) [] s = s
sub-drop actor xs (suc n) (y ∷ ys) s = sub-cond xs (eqb y.actor actor) y (part actor ys) (sub-drop actor xs n ys s)

own-part : (actor : ℕ) (y : Event) (ys : List Event) → eqb y.actor actor ≡ true → part actor (y ∷ ys) ≡ y ∷ part actor ys
own-part actor y ys e = rw e refl

drop-more : (ys : List Event) (a d k : ℕ) → k ≡ a + d → drop d (drop a ys) ≡ drop k ys
drop-more ys zero d k e = let same : k ≡ d = omega arith in rw same refl
drop-more [] (suc a) d k e = drop_all d [] (omega arith) ∙ sym (drop_all k [] (omega arith))
drop-more (y ∷ ys) (suc a) d k e =
    let next : k ≡ suc (a + d) = omega arith in
    rw next (drop-more ys a d (a + d) refl)

-- receipts for lines of the actor stand in the actor's part of the events past `last`
sub-receipts : (after : List Event) (actor last : ℕ) (ls : List Line) (rs : List Receipt) → AllByRecursion (λ l. eqb l.actor actor ≡ true) ls → AreReceiptsOf after last ls rs → Sub (told rs) (part actor (drop last after))
sub-receipts after actor last [] [] own a = tt
sub-receipts after actor last [] (r ∷ rs) own a = absurd a
sub-receipts after actor last (l ∷ ls) [] own a = absurd a
sub-receipts after actor last (l ∷ ls) (r ∷ rs) own a =
    let k : ℕ = named r - 1 in
    let e : Event = record { actor = l.actor; act = l.act; reply = r.reply } in
    let past = a.0.past in
    let inside : k < length after = slice_get_within after k e a.0.recorded in
    let next : suc k ≡ named r = omega arith in
    let here : drop k after ≡ e ∷ drop (named r) after = drop-cons after k e inside ∙ rw (get_or_from_slice_get after k e e a.0.recorded, next) refl in
    let same : event_of r ≡ e = rw (a.0.actor, a.0.act) refl in
    let more : Sub (told rs) (part actor (drop (named r) after)) = sub-receipts after actor (named r) ls rs own.1 a.1 in
    let P : List Event → Type 0 = λ w. Sub (told (r ∷ rs)) w in
    let now : Sub (told (r ∷ rs)) (part actor (drop k after)) = subst P (sym (ap (part actor) here ∙ own-part actor e (drop (named r) after) own.0)) (inl (same, more)) in
    sub-drop actor (told (r ∷ rs)) (k - last) (drop last after) (rw (drop-more after last (k - last) k (omega arith)) now)

filter-all_at : {X : Type 0} (t : X → Bool) (b : Bool) (x : X) (xs : List X) → t x ≡ b → AllByRecursion (λ y. t y ≡ true) xs → AllByRecursion (λ y. t y ≡ true) (cond b (x ∷ xs) xs)
filter-all_at t true x xs e all = (e, all)
filter-all_at t false x xs e all = all

filter-all : {X : Type 0} (t : X → Bool) (xs : List X) → AllByRecursion (λ y. t y ≡ true) (filter t xs)
filter-all t [] = tt
filter-all t (x ∷ xs) = filter-all_at t (t x) x (filter t xs) refl (filter-all t xs)

receipts-length : (after : List Event) (last : ℕ) (ls : List Line) (rs : List Receipt) → AreReceiptsOf after last ls rs → length (told rs) ≡ length ls
receipts-length after last [] [] a = refl
receipts-length after last [] (r ∷ rs) a = absurd a
receipts-length after last (l ∷ ls) [] a = absurd a
receipts-length after last (l ∷ ls) (r ∷ rs) a = let h = receipts-length after (named r) ls rs a.1 in omega arith

abbrev total : List (List Event) → ℕ
total [] = 0
total (l ∷ lists) = length l + total lists

-- each list stands in its actor's part
abbrev AllSub : List Event → ℕ → List (List Event) → Type 0
AllSub es actor [] = Unit {0}
AllSub es actor (l ∷ lists) = Sub l (part actor es) × AllSub es (actor + 1) lists

all-sub : (after : List Event) (start : ℕ) (lines : List (ℕ × Action)) (actor : ℕ) (lists : List (List Receipt)) → AreAllReceipts after start lines actor lists → AllSub (drop start after) actor (all_told lists)
all-sub after start lines actor [] a = tt
all-sub after start lines actor (rs ∷ lists) a =
    (sub-receipts after actor start (lines_of actor lines) rs (filter-all (λ l. eqb l.actor actor) (numbered 1 lines)) a.0, all-sub after start lines (actor + 1) lists a.1)

all-length : (after : List Event) (start : ℕ) (lines : List (ℕ × Action)) (actor : ℕ) (lists : List (List Receipt)) → AreAllReceipts after start lines actor lists → total (all_told lists) ≡ counts (λ j. length (lines_of j lines)) actor (all_told lists)
all-length after start lines actor [] a = refl
all-length after start lines actor (rs ∷ lists) a =
    let h = receipts-length after start (lines_of actor lines) rs a.0 in
    let t = all-length after start lines (actor + 1) lists a.1 in
    omega arith

total-le : (es : List Event) (actor : ℕ) (lists : List (List Event)) → AllSub es actor lists → total lists ≤ counts (λ j. length (part j es)) actor lists
total-le es actor [] s = omega arith
total-le es actor (l ∷ lists) s =
    let h = sub-length l (part actor es) s.0 in
    let t = total-le es (actor + 1) lists s.1 in
    omega arith

-- lists that stand in the parts, and are as long in all, are the parts
are-parts : (es : List Event) (actor : ℕ) (lists : List (List Event)) → AllSub es actor lists → total lists ≡ counts (λ j. length (part j es)) actor lists → AreParts es actor lists
are-parts es actor [] s e = tt
are-parts es actor (l ∷ lists) s e =
    let h = sub-length l (part actor es) s.0 in
    let t = total-le es (actor + 1) lists s.1 in
    (sub-whole l (part actor es) s.0 (omega arith), are-parts es (actor + 1) lists s.1 (omega arith))

numbered-length : (n : ℕ) (lines : List (ℕ × Action)) → length (numbered n lines) ≡ length lines
numbered-length n [] = refl
numbered-length n (l ∷ ls) = let h = numbered-length (n + 1) ls in omega arith

numbered-known : (n m : ℕ) (lines : List (ℕ × Action)) → AllByRecursion (λ l. l.0 < m) lines → AllByRecursion (λ l. l.actor < m) (numbered n lines)
numbered-known n m [] a = tt
numbered-known n m (l ∷ ls) a = (a.0, numbered-known (n + 1) m ls a.1)

told-length : (lists : List (List Receipt)) → length (all_told lists) ≡ length lists
told-length [] = refl
told-length (rs ∷ lists) = let h = told-length lists in omega arith

pub agrees_interleave : (before after : List Event) (lines : List (ℕ × Action)) (lists : List (List Receipt)) → Agrees before after lines lists → IsInterleaving (drop (length before) after) (all_told lists)
agrees_interleave before after lines lists a =
    let es : List Event = drop (length before) after in
    let ls : List (List Event) = all_told lists in
    let sub = all-sub after (length before) lines 0 lists a.receipts in
    let asked : total ls ≡ counts (λ j. length (lines_of j lines)) 0 ls = all-length after (length before) lines 0 lists a.receipts in
    let known : AllByRecursion (λ l. l.actor < length ls) (numbered 1 lines) = rw (told-length lists) (numbered-known 1 (length lists) lines a.known) in
    let whole = counts-all (λ (l : Line). l.actor) (numbered 1 lines) ls known in
    let count = numbered-length 1 lines in
    let new : length es ≡ length lines = omega (arith, length-drop (length before) after, a.longer) in
    let le = total-le es 0 ls sub in
    let most = counts-le (λ (e : Event). e.actor) es ls in
    record {
      parts = are-parts es 0 ls sub (omega arith);
      no_other = counts-tell (λ (e : Event). e.actor) es ls (omega arith);
    }
