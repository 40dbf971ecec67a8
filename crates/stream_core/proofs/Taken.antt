-- What has been taken in of a line, byte by byte.
use Rattle.std.proofs.Common.{◌≡◌, ◌≢◌, ℕ, zero, suc, ◌+◌, ◌-◌, ◌^◌, ◌<◌, ◌≤◌, List, [], ◌∷◌, ◌++◌, length, take, Option, Some, None, refl, sym, ap, subst, ◌∙◌, append-nil, arith}
use Rattle.std.proofs.KnownBytes.{Consumes-kept, Consumes-nil, Consumes-trans}
use Rattle.std.proofs.lemmas.List.{length-append, length-take, take-append-le, take_all, take_at}
use Rattle.std.proofs.lemmas.List.Elements.{All-nil, All-push, All-take}
use Rattle.std.specs.List.{All}
use Rattle.std.specs.Io.{StopsAt}
use Rattle.std.specs.Io.BufRead.{drop_through, first_piece}
use Rattle.std.specs.Io.KnownBytes.{Consumes, IsAtEnd, Keeps}
use Rattle.stream_core.specs.NextLines.{IsEndless, IsNext, TakesLine, TakesPart, line_front}
use Rattle.stream_core.proofs.Pieces.{piece_fed, piece_whole, rest_fed, rest_none}

-- these bytes of a line, none of them a line feed, were taken in, and this is their front
pub record IsBegun (most : ℕ) (old now : Option (List ℕ)) (line : List ℕ) (turn : ℕ) : Type 0 where
  pub bytes : List ℕ
  pub taken : Consumes old now bytes
  pub unfed : All (λ b. b ≢ 10) bytes
  pub is_front : line ≡ line_front most bytes
  pub turns : length bytes ≡ turn

take_none : (most : ℕ) → take {A = ℕ} most [] ≡ []
take_none zero = refl
take_none (suc most) = refl

pub begins : (most : ℕ) (old : Option (List ℕ)) → IsBegun most old old [] 0
unfolding line_front
begins most old = record { bytes = []; taken = Consumes-nil old; unfed = All-nil (λ b. b ≢ 10); is_front = sym (take_none most); turns = refl }

-- one more byte is in the front, where there is room
front_more : (most : ℕ) (bytes line : List ℕ) (byte : ℕ) → line ≡ line_front most bytes → length line < most → line ++ byte ∷ [] ≡ line_front most (bytes ++ byte ∷ [])
unfolding line_front
front_more most bytes line byte is room =
    let few : length bytes < most = omega (arith, length-take most bytes, ap length is) in
    ap (λ (l : List ℕ). l ++ byte ∷ []) (is ∙ take_all most bytes (omega arith))
    ∙ sym (take_all most (bytes ++ byte ∷ []) (omega (arith, length-append bytes (byte ∷ []))))

front_full : (most : ℕ) (bytes line : List ℕ) (byte : ℕ) → line ≡ line_front most bytes → most ≤ length line → line ≡ line_front most (bytes ++ byte ∷ [])
unfolding line_front
front_full most bytes line byte is full =
    is ∙ sym (take-append-le most bytes (byte ∷ []) (omega (arith, length-take most bytes, ap length is)))

pub few_in_front : (most : ℕ) (bytes line : List ℕ) → line ≡ line_front most bytes → length line ≤ most
unfolding line_front
few_in_front most bytes line is = omega (arith, length-take most bytes, ap length is)

module _ (most : ℕ) (old now new : Option (List ℕ)) (line : List ℕ) (turn : ℕ) where
  goes_on : (line' : List ℕ) (byte : ℕ) (begun : IsBegun most old now line turn) → Consumes now new (byte ∷ []) → byte ≢ 10 →
      line' ≡ line_front most (begun.bytes ++ byte ∷ []) → IsBegun most old new line' (turn + 1)
  goes_on line' byte begun took other is =
      record {
        bytes = begun.bytes ++ byte ∷ [];
        taken = Consumes-trans old now new begun.bytes (byte ∷ []) begun.taken took;
        unfed = All-push (λ b. b ≢ 10) begun.bytes byte begun.unfed other;
        is_front = is;
        turns = omega (arith, length-append begun.bytes (byte ∷ []), begun.turns);
      }

  -- a byte was taken in, and is in the front
  pub grows : (byte : ℕ) → IsBegun most old now line turn → Consumes now new (byte ∷ []) → byte ≢ 10 → length line < most →
      IsBegun most old new (line ++ byte ∷ []) (turn + 1)
  grows byte begun took other room =
      goes_on (line ++ byte ∷ []) byte begun took other (front_more most begun.bytes line byte begun.is_front room)

  -- and isn't
  pub stays : (byte : ℕ) → IsBegun most old now line turn → Consumes now new (byte ∷ []) → byte ≢ 10 → most ≤ length line → IsBegun most old new line (turn + 1)
  stays byte begun took other full = goes_on line byte begun took other (front_full most begun.bytes line byte begun.is_front full)

  -- no more than a line was taken in

  pub takes : IsBegun most old now line turn → Keeps now new → TakesLine old new
  takes begun same = (
    begun.bytes,
    Consumes-kept old now new begun.bytes begun.taken same,
    All-take (λ b. b ≢ 10) (length begun.bytes - 1) begun.bytes begun.unfed,
  )

  pub takes_part : IsBegun most old now line turn → Keeps now new → TakesPart old new
  takes_part begun same = (begun.bytes, Consumes-kept old now new begun.bytes begun.taken same, begun.unfed)

  stops : (bytes : List ℕ) (byte : ℕ) → All (λ b. b ≢ 10) bytes → StopsAt (bytes ++ byte ∷ []) 10
  stops bytes byte unfed =
      let last : length (bytes ++ byte ∷ []) - 1 ≡ length bytes = omega (arith, length-append bytes (byte ∷ [])) in
      subst (λ (l : List ℕ). All (λ b. b ≢ 10) l)
      (sym (ap (λ n. take n (bytes ++ byte ∷ [])) last ∙ take_at bytes (byte ∷ []) (length bytes) refl)) unfed

  pub takes_more : (byte : ℕ) → IsBegun most old now line turn → Consumes now new (byte ∷ []) → TakesLine old new
  takes_more byte begun took = (
    begun.bytes ++ byte ∷ [],
    Consumes-trans old now new begun.bytes (byte ∷ []) begun.taken took,
    stops begun.bytes byte begun.unfed,
  )

-- as many bytes as turns were taken in
pub endless : (most : ℕ) (old now : Option (List ℕ)) (line : List ℕ) (turn : ℕ) → IsBegun most old now line turn → 2 ^ 64 - 2 ≤ turn → IsEndless old
endless most None now line turn begun many = tt
endless most (Some left) None line turn begun many = absurd begun.taken
endless most (Some left) (Some rest) line turn begun many =
    let whole : length left ≡ length begun.bytes + length rest = ap length begun.taken ∙ length-append begun.bytes rest in
    omega (arith, begun.turns)

-- the line is at its end

not_none : (bytes rest : List ℕ) (byte : ℕ) → bytes ++ byte ∷ rest ≢ []
not_none [] rest byte = λ none. cc
not_none (b ∷ bytes) rest byte = λ none. cc

front_nil : (most : ℕ) (bytes : List ℕ) → bytes ≡ [] → line_front most bytes ≡ []
unfolding line_front
front_nil most bytes none = ap (take most) none ∙ take_none most

module _ (most : ℕ) (line : List ℕ) (turn : ℕ) where
  fed : (left rest : List ℕ) → IsBegun most (Some left) (Some (10 ∷ rest)) line turn → IsNext most (Some left) (Some rest) (Some line)
  fed left rest begun = (
    λ none. not_none begun.bytes rest 10 (sym begun.taken ∙ none),
    begun.is_front ∙ ap (line_front most) (sym (piece_fed begun.bytes rest begun.unfed) ∙ ap (first_piece 10) (sym begun.taken)),
    ap Some (sym (rest_fed begun.bytes rest begun.unfed) ∙ ap (drop_through 10) (sym begun.taken)),
  )

  pub ends_fed : (old now new : Option (List ℕ)) → IsBegun most old now line turn → Consumes now new (10 ∷ []) → IsNext most old new (Some line)
  ends_fed None now new begun took = tt
  ends_fed (Some left) None new begun took = absurd begun.taken
  ends_fed (Some left) (Some rest) None begun took = absurd took
  ends_fed (Some left) (Some rest) (Some after) begun took =
      fed left after (subst (λ (l : List ℕ). IsBegun most (Some left) (Some l) line turn) took begun)

  -- and so is the input

  bytes_are : (left rest : List ℕ) (begun : IsBegun most (Some left) (Some rest) line turn) → rest ≡ [] → left ≡ begun.bytes
  bytes_are left rest begun none = begun.taken ∙ ap (λ (l : List ℕ). begun.bytes ++ l) none ∙ append-nil begun.bytes

  unfed_end : (left rest : List ℕ) → IsBegun most (Some left) (Some rest) line turn → line ≢ [] → rest ≡ [] → IsNext most (Some left) (Some rest) (Some line)
  unfed_end left rest begun some none =
      let is = bytes_are left rest begun none in (
        λ nothing. some (begun.is_front ∙ front_nil most begun.bytes (sym is ∙ nothing)),
        begun.is_front ∙ ap (line_front most) (sym (piece_whole begun.bytes begun.unfed) ∙ ap (first_piece 10) (sym is)),
        ap Some (none ∙ sym (rest_none begun.bytes begun.unfed) ∙ ap (drop_through 10) (sym is)),
      )

  pub ends_unfed : (old now new : Option (List ℕ)) → IsBegun most old now line turn → line ≢ [] → Keeps now new → IsAtEnd new → IsNext most old new (Some line)
  ends_unfed None now new begun some same end = tt
  ends_unfed (Some left) None new begun some same end = absurd begun.taken
  ends_unfed (Some left) (Some rest) None begun some same end = absurd same
  ends_unfed (Some left) (Some rest) (Some after) begun some same end =
      unfed_end left after (subst (λ (l : List ℕ). IsBegun most (Some left) (Some l) line turn) (sym same) begun) some end

front_none : (most : ℕ) (bytes : List ℕ) → 0 < most → [] ≡ line_front most bytes → bytes ≡ []
unfolding line_front
front_none most [] some is = refl
front_none most (b ∷ bytes) some is = absurd (omega (arith, length-take most (b ∷ bytes), ap length is))

none_end : (most : ℕ) (left rest : List ℕ) (turn : ℕ) → 0 < most → IsBegun most (Some left) (Some rest) [] turn → rest ≡ [] → IsNext most (Some left) (Some rest) None
none_end most left rest turn some begun none = (bytes_are most [] turn left rest begun none ∙ front_none most begun.bytes some begun.is_front, ap Some none)

pub ends_before : (most : ℕ) (old now new : Option (List ℕ)) (line : List ℕ) (turn : ℕ) → 0 < most → line ≡ [] → IsBegun most old now line turn → Keeps now new →
    IsAtEnd new → IsNext most old new None
ends_before most None now new line turn some is begun same end = tt
ends_before most (Some left) None new line turn some is begun same end = absurd begun.taken
ends_before most (Some left) (Some rest) None line turn some is begun same end = absurd same
ends_before most (Some left) (Some rest) (Some after) line turn some is begun same end =
    none_end most left after turn some
    (subst (λ (l : List ℕ). IsBegun most (Some left) (Some l) [] turn) (sym same) (subst (λ (l : List ℕ). IsBegun most (Some left) (Some rest) l turn) is begun)) end
