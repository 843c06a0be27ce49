-- What is owed by the functions that look for a byte and for a bracket.
use Rattle.std.specs.Prelude.{◌≡◌, List, ℕ, ◌≤◌, ◌<◌, length, IfSome, IfNone}
use Rattle.phrases.specs.declared.Bracket.{Bracket}
use Rattle.phrases.specs.Phrases.{place, close}

pub record Placed (c : ℕ) (text : List ℕ) (r : ℕ) : Type 0 where
  pub is : r ≡ place c text
  pub within : r ≤ length text

-- where a bracket that opens at i closes
pub record Closed (phrase : List ℕ) (i k : ℕ) : Type 0 where
  pub close_is : k ≡ close phrase
  pub order : i ≤ k
  pub within : k < length phrase

pub record Bracketed (phrase : List ℕ) (r : Bracket) : Type 0 where
  pub open_is : r.opens ≡ place 91 phrase
  pub closed : IfSome r.closes (λ k. Closed phrase r.opens k)
  pub unclosed : IfNone r.closes (close phrase ≡ length phrase)
  pub within : r.opens ≤ length phrase
