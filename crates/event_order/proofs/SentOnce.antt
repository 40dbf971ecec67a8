-- The messages that the events send, one event after another.
use Rattle.std.proofs.Common.{◌≡◌, ◌⊎◌, inl, inr, ℕ, ◌+◌, ◌<◌, Bool, true, false, List, length}
use Rattle.std.proofs.Common.{slice_set, slice_index_or, Some, None, sym, ap, ◌∙◌, arith}
use Rattle.std.proofs.lemmas.Bool.{cases_eq}
use Rattle.std.proofs.lemmas.List.{get_or-set_same, get_or-set_other}
use Rattle.event_order.specs.declared.logged.Logged.{Logged}
use Rattle.event_order.specs.Ordering.{sends_at, SendsAgain}
use Rattle.event_order.specs.Walks.{IsSentUpTo, NoTwiceUpTo}

module _ (events : List Logged) (place : ℕ) (sent : List Bool) (old : IsSentUpTo events place sent) where
  pub one_sent : (message : ℕ) → message < length sent → sends_at events place ≡ Some message →
      IsSentUpTo events (place + 1) (slice_set sent message true)
  one_sent message low is = record { sound = sound; all = all }
    where
      sound : (m : ℕ) → slice_index_or (slice_set sent message true) m false ≡ true → (q : ℕ) × (q < place + 1) × (sends_at events q ≡ Some m)
      sound m h = go (cases_eq m message)
        where
          go : (m ≡ message) ⊎ (m ≡ message → ⊥) → (q : ℕ) × (q < place + 1) × (sends_at events q ≡ Some m)
          go (inl e) = (place, omega arith, is ∙ ap (λ n. Some n) (sym e))
          go (inr apart) = let was = old.sound m (sym (get_or-set_other sent message m true false apart) ∙ h) in
              (was.0, let low = was.1 in omega arith, was.2)

      all : (q m : ℕ) → q < place + 1 → sends_at events q ≡ Some m → slice_index_or (slice_set sent message true) m false ≡ true
      all q m below sends = go (cases_eq m message)
        where
          go : (m ≡ message) ⊎ (m ≡ message → ⊥) → slice_index_or (slice_set sent message true) m false ≡ true
          go (inl e) = ap (λ n. slice_index_or (slice_set sent message true) n false) e ∙ get_or-set_same sent message true false low
          go (inr apart) = get_or-set_other sent message m true false apart ∙ old.all q m (at (cases_eq q place)) sends
            where
              at : (q ≡ place) ⊎ (q ≡ place → ⊥) → q < place
              at (inl e) = absurd (apart (let here : sends_at events place ≡ Some m = ap (sends_at events) (sym e) ∙ sends in cc))
              at (inr other) = omega arith

  pub none_sent : sends_at events place ≡ None → IsSentUpTo events (place + 1) sent
  none_sent is = record {
    sound = λ m h. let was = old.sound m h in (was.0, let low = was.1 in omega arith, was.2);
    all = all;
  }
    where
      all : (q m : ℕ) → q < place + 1 → sends_at events q ≡ Some m → slice_index_or sent m false ≡ true
      all q m below sends = old.all q m (at (cases_eq q place)) sends
        where
          at : (q ≡ place) ⊎ (q ≡ place → ⊥) → q < place
          at (inl e) = absurd (let here : sends_at events place ≡ Some m = ap (sends_at events) (sym e) ∙ sends in (cc))
          at (inr other) = omega arith

  pub again : (message : ℕ) → sends_at events place ≡ Some message → slice_index_or sent message false ≡ true → SendsAgain events place
  again message is h = let was = old.sound message h in (was.0, message, was.1, was.2, is)

  pub once_more : ((m : ℕ) → sends_at events place ≡ Some m → slice_index_or sent m false ≡ true → ⊥) → NoTwiceUpTo events place →
      NoTwiceUpTo events (place + 1)
  once_more new once q below twice = go (cases_eq q place) twice
    where
      go : (q ≡ place) ⊎ (q ≡ place → ⊥) → SendsAgain events q → ⊥
      go (inr other) twice = once q (omega arith) twice
      go (inl e) (earlier, m, before, sends, sends_too) = new m (ap (sends_at events) (sym e) ∙ sends_too)
          (old.all earlier m (omega (arith, before, e)) sends)
