-- What of the deliveries of a message at a node is left.
use Rattle.std.proofs.Common.{◌≡◌, ◌⊎◌, inl, inr, ℕ, ◌+◌, ◌≤◌, ◌&&◌, Bool, true, false, cond, List, [], ◌∷◌, ◌++◌, length, refl, ap, ◌∙◌, arith}
use Rattle.std.proofs.lemmas.Bool.{eq-eqb}
use Rattle.std.specs.List.{AllByRecursion}
use Rattle.node_core.specs.Operations.{Operation, Join, Leave, LeaveAll, Update, Broadcast, Extract, Deliver, Request, Answer, Up, Down, Permdown}
use Rattle.journal_core.specs.Journals.{Kept}
use Rattle.bench_core.specs.Laws.{delivery}
use Rattle.network_core.specs.NetworkRuns.{IsNetworkRun, deliveries, how_many, is_delivery, is_of_kind}
use Rattle.network_core.specs.Settling.{NextDeliveryLaw, QuietLaw}
use Rattle.network_core.proofs.Counts.{count_append}
use Rattle.network_core.proofs.Idle.{count_at, kind_delivered}

no_more : {X : Type 0} (xs : List X) → length xs ≤ 0 → xs ≡ []
no_more [] h = refl
no_more (x ∷ xs) h = absurd (omega (arith, h))

itself : (n sender number : ℕ) → is_of_kind n sender number n (Deliver sender number) ≡ true
itself n sender number = λ i. eq-eqb n n refl i && (eq-eqb sender sender refl i && eq-eqb number number refl i)

-- all deliveries of a kind in a run of the network, and those that were recorded
module _ (j r : List Kept) (lost again n sender number : ℕ) (run : IsNetworkRun j lost again r) where
  abbrev kind : ℕ → Operation → Bool
  kind = is_of_kind n sender number

  pub total : how_many kind r + how_many kind run.missing ≡ how_many kind j + how_many kind run.repeated
  total =
      let one = count_append kind (deliveries r) run.missing in
      let two = count_append kind (deliveries j) run.repeated in
      let here = kind_delivered n sender number r in
      let there = kind_delivered n sender number j in
      let same = run.delivered kind in
      omega (arith, one, two, here, there, same)

  pub repeated_once : how_many kind run.repeated ≤ how_many kind j
  repeated_once =
      let one = count_append kind run.repeated run.once in
      let there = kind_delivered n sender number j in
      let same = run.of_these kind in
      omega (arith, one, there, same)

  pub none_repeated : again ≡ 0 → how_many kind run.repeated ≡ 0
  none_repeated none = ap (how_many kind) (no_more run.repeated (let few = run.few_repeated in omega (arith, few, none)))

quiet_all : (n : ℕ) (rest : List Kept) → ((sender number : ℕ) → how_many (is_of_kind n sender number) rest ≡ 0) → AllByRecursion (λ (x : Kept). x.node ≡ n → is_delivery x.step ≡ false) rest
quiet_all n [] none = tt
quiet_all n (x ∷ xs) none = (first x.step refl, quiet_all n xs (λ sender number. later sender number))
  where
    later : (sender number : ℕ) → how_many (is_of_kind n sender number) xs ≡ 0
    later sender number = let both = count_append (is_of_kind n sender number) (x ∷ []) xs in let all = none sender number in omega (arith, both, all)

    first : (s : Operation) → x.step ≡ s → x.node ≡ n → is_delivery s ≡ false
    first (Deliver sender number) is here =
        let both = count_append (is_of_kind n sender number) (x ∷ []) xs in
        let all = none sender number in
        let one = count_at n sender number (is_of_kind n sender number) x (ap (is_of_kind n sender number x.node) is ∙ ap (λ m. is_of_kind n sender number m (Deliver sender number)) here ∙ itself n sender number) in
        let this = ap {B = ℕ} (λ b. cond b 1 0) (itself n sender number) in
        absurd (omega (arith, both, all, one, this))
    first (Join p) is here = refl
    first (Leave pid topic key) is here = refl
    first (LeaveAll pid) is here = refl
    first (Update p) is here = refl
    first Broadcast is here = refl
    first (Extract names) is here = refl
    first Request is here = refl
    first (Answer sender number) is here = refl
    first (Up name) is here = refl
    first (Down name) is here = refl
    first (Permdown name) is here = refl

pub quiet_holds : QuietLaw
quiet_holds g w n spent rest run = quiet_all n rest none
  where
    none : (sender number : ℕ) → how_many (is_of_kind n sender number) rest ≡ 0
    none sender number =
        let all = total g.recorded (w ++ rest) g.lost g.again n sender number run in
        let both = count_append (is_of_kind n sender number) w rest in
        let few = repeated_once g.recorded (w ++ rest) g.lost g.again n sender number run in
        let no = never (spent sender number).last in
        let enough = (spent sender number).came in
        omega (arith, all, both, no, few, enough)
      where
        never : (g.again ≡ 0) ⊎ (how_many (is_of_kind n sender number) g.recorded ≡ 0) → how_many (is_of_kind n sender number) run.repeated ≡ 0
        never (inl h) = none_repeated g.recorded (w ++ rest) g.lost g.again n sender number run h
        never (inr h) = let few = repeated_once g.recorded (w ++ rest) g.lost g.again n sender number run in omega (arith, few, h)

pub next_delivery_holds : NextDeliveryLaw
next_delivery_holds g w rest i n sender number run =
    let kind = is_of_kind n sender number in
    let r = w ++ delivery i n sender number ∷ rest in
    let all = total g.recorded r g.lost g.again n sender number run in
    let both = count_append kind w (delivery i n sender number ∷ rest) in
    let more = count_append kind (delivery i n sender number ∷ []) rest in
    let one = count_at n sender number kind (delivery i n sender number) (itself n sender number) in
    let this = ap {B = ℕ} (λ b. cond b 1 0) (itself n sender number) in
    let few = repeated_once g.recorded r g.lost g.again n sender number run in
    record {
      recorded = omega (arith, all, both, more, one, this, few);
      twice = omega (arith, all, both, more, one, this, few);
      once = λ never. (let no = none_repeated g.recorded r g.lost g.again n sender number run never in omega (arith, all, both, more, one, this, no));
    }
