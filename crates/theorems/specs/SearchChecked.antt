-- What the search gives with a "no decoder": the checker accepts it, handed over as it is; and it keeps the bounds of document 01, "Looped
-- pair". Over the promises of the two calls.
use Rattle.std.specs.Prelude.{ℕ, ◌+◌, ◌*◌, ◌≤◌, ◌≡◌, true, List, length, take}
use Rattle.mealy.specs.LoopedPair.{letters}
use Rattle.coder.specs.File.{states_of}
use Rattle.values.specs.Pair.{pair_of, looped_pair}
use Rattle.values.specs.declared.Order.{Order}
use Rattle.values.specs.declared.LoopedPair.{LoopedPair}
use Rattle.search.specs.Search.{SearchPromise}
use Rattle.search_host.specs.Laid.{SearchFromHost}
use Rattle.search.specs.declared.Verdict.TheVariants.{NoDecoder}
use Rattle.checker.specs.Check.{CheckPromise}
use Rattle.checker_host.specs.Laid.{CheckFromHost}
use Rattle.layout.specs.Layout.{field_at}
use Rattle.std.specs.Prelude.{Result, Ok}
use Rattle.coder.specs.declared.refusal.Refusal.{Refusal}
use Rattle.std.specs.Prelude.{Bool}

-- The bytes of a pair's letters: the first ones of the buffer.
abbrev pub letters_in : LoopedPair → List ℕ → List ℕ
letters_in q buffer = take (2 * letters (pair_of q buffer)) buffer

-- Back loop plus lead-in has at most N × N letters, and so has lead-out plus forward loop; so there are at most 513 letters, 1,026 bytes.
pub record PairBounds (f : List ℕ) (q : LoopedPair) : Type 0 where
  pub back : q.back_loop + q.lead_in ≤ states_of f * states_of f
  pub forward : q.lead_out + q.forward_loop ≤ states_of f * states_of f
  pub few : q.back_loop + q.lead_in + 1 + q.lead_out + q.forward_loop ≤ 513
  pub bytes : 2 * (q.back_loop + q.lead_in + 1 + q.lead_out + q.forward_loop) ≤ 1026

-- the pair that a host reads from fields 1 to 6 of a search's result
abbrev pub pair_read : List ℕ → LoopedPair
pair_read result =
    looped_pair (field_at result 1) (field_at result 2) (field_at result 3) (field_at result 4) (field_at result 5) (field_at result 6)

pub record SearchChecked : Type 0 where
  -- the check of that pair with the bytes of its letters is not refused and says yes
  pub checked :
      (o : Order) (f : List ℕ) (p : ℕ) (before : List ℕ) (q : LoopedPair) (after : List ℕ) (r : Result Bool Refusal) →
      SearchPromise o f p before (Ok (NoDecoder q)) after → CheckPromise f (pair_of q (letters_in q after)) r → r ≡ Ok true
  pub bounds :
      (o : Order) (f : List ℕ) (p : ℕ) (before : List ℕ) (q : LoopedPair) (after : List ℕ) →
      SearchPromise o f p before (Ok (NoDecoder q)) after → PairBounds f q
  -- from C: the search returned 0 with 1 in field 0; with fields 1 to 6 and the bytes of the letters the check returns 0, with 1 in field 0
  pub checked_from_C :
      (f : List ℕ) (p : ℕ) (before result after given : List ℕ) → SearchFromHost f p before result 0 after given → field_at given 0 ≡ 1 →
      (result₂ : List ℕ) (r : ℕ) (given₂ : List ℕ) → 64 ≤ length result₂ →
      CheckFromHost f (pair_of (pair_read given) (letters_in (pair_read given) after)) result₂ r given₂ → (r ≡ 0) × (field_at given₂ 0 ≡ 1)
  pub bounds_from_C :
      (f : List ℕ) (p : ℕ) (before result after given : List ℕ) → SearchFromHost f p before result 0 after given → field_at given 0 ≡ 1 →
      PairBounds f (pair_read given)
