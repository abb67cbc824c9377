-- Damage does not travel (document 02, 10/13), over the promise of the string decoder, own and from C. Byte k is that of the window whose
-- first letter is at place k; its present letter is at place k + b. Proved by `damage_does_not_travel`, `damaged_come_back` and
-- `damaged_come_back_from_C`.
use Rattle.std.specs.Prelude.{ℕ, ◌+◌, ◌≤◌, ◌<◌, ◌≡◌, List, ◌++◌, length, get_or, take}
use Rattle.coder.specs.File.{outputs_of}
use Rattle.running.specs.Run.{RunPromise}
use Rattle.running_host.specs.Laid.{RunFromHost}
use Rattle.values.specs.Window.{size}
use Rattle.values.specs.declared.Window.{Window}
use Rattle.values.specs.declared.Order.{Order}
use Rattle.search.specs.Search.{SearchPromise}
use Rattle.search.specs.declared.Verdict.TheVariants.{Least}
use Rattle.search_host.specs.Laid.{SearchFromHost}
use Rattle.decoder_refusal.specs.Refusal.{places}
use Rattle.decoder.specs.Places.{StringPromise}
use Rattle.decoder_host.specs.Laid.{StringFromHost}
use Rattle.layout.specs.Layout.{result_bytes, field_at}
use Rattle.theorems.specs.RoundTrip.{Coded, FieldHolds, window_read}
use Rattle.theorems_damage.specs.Change.{Change, sent, received, Keeps, InPlace, NewBelow, Each, KeptAt, AlteredAt, KeptFrom}
use Rattle.std.specs.Prelude.{Result, Ok}
use Rattle.coder.specs.declared.refusal.Refusal.{Refusal}
use Rattle.running.specs.declared.RunEnd.{RunEnd}

-- ---- a call that is not refused

-- The string decoder, given a file, a window with its settle count, and these letters, returned this count and left these bytes.
pub record StringDecoded (f : List ℕ) (w : Window) (letters : List ℕ) (count : ℕ) (after : List ℕ) : Type 0 where
  pub before : List ℕ
  pub call : StringPromise f w letters before (Ok count) after

-- The same from C: it returned 0, and the host reads the count from field 0.
pub record StringDecodedFromC (f : List ℕ) (w : Window) (letters : List ℕ) (count : ℕ) (after : List ℕ) : Type 0 where
  pub before : List ℕ
  pub result : List ℕ
  pub result' : List ℕ
  pub call : StringFromHost f w letters before result 0 after result'
  pub few : FieldHolds (length letters)
  pub read : count ≡ field_at result' 0

-- what a call was given and left: letters, count and bytes
abbrev pub Calls : Type 1
Calls = List ℕ → ℕ → List ℕ → Type 0

-- ---- windows that are not damaged

-- no letter of the window was altered; its first is that of change j
abbrev pub WindowKept : List Change → Window → ℕ → Type 0
WindowKept cs w j = (i : ℕ) → j ≤ i → i < j + size w → KeptAt cs i

-- nor one of as many letters ahead of it as the settle count says, which lie among these changes too
pub record SettledKept (cs : List Change) (w : Window) (j : ℕ) : Type 0 where
  pub inside : w.settle ≤ j
  pub kept : (i : ℕ) → j ≤ i + w.settle → i < j + size w → KeptAt cs i

-- what R says of place j of the changes `rest`, at its index in each string
abbrev pub Shifted : (List Change → ℕ → ℕ → Type 0) → List Change → List Change → ℕ → Type 0
Shifted R front rest j = R (front ++ rest) (length (sent front) + j) (length (received front) + j)

-- ---- decodes as in the undamaged string

-- byte k of the undamaged string and byte k' of the damaged one were both written, and are the same
pub record SameByte (count count' : ℕ) (after after' : List ℕ) (k k' : ℕ) : Type 0 where
  pub written : k < count
  pub written' : k' < count'
  pub same : get_or after' k' 0 ≡ get_or after k 0

-- whatever two calls that are not refused left
abbrev pub AsUndamaged : Calls → List Change → ℕ → ℕ → Type 0
AsUndamaged D cs k k' =
    (count count' : ℕ) (after after' : List ℕ) → D (sent cs) count after → D (received cs) count' after' →
    SameByte count count' after after' k k'

pub record Undamaged (w : Window) (D : Calls) : Type 0 where
  -- Second sentence: letters were altered, and none lost or added. Every place whose window holds none of them decodes as before.
  pub altered : (cs : List Change) → Each InPlace cs → (k : ℕ) → WindowKept cs w k → AsUndamaged D cs k k
  -- Third sentence: the last loss or addition comes before the changes `rest`. Every place whose window, and settle count ahead of it, lie
  -- unaltered in `rest` decodes as before, at its shifted index.
  pub lost_or_added :
      (front rest : List Change) → Each InPlace rest → (j : ℕ) → SettledKept rest w j → Shifted (AsUndamaged D) front rest j
  -- Stronger: the letters ahead of the window do not count,
  pub unsettled : (front rest : List Change) → Each InPlace rest → (j : ℕ) → WindowKept rest w j → Shifted (AsUndamaged D) front rest j
  -- nor do losses and additions behind it: wherever its letters were kept, one after the other.
  pub anywhere : (cs : List Change) (k k' : ℕ) → KeptFrom cs (size w) k k' → AsUndamaged D cs k k'
  -- A splice: the changes `cut`, whatever they are, lie between letters that were kept. Every window that ends ahead of them and every
  -- window that begins behind them decodes as before. The others in the damaged string are as many as `cut` has letters received, and
  -- b + a more.
  pub ahead :
      (front cut rest : List Change) → Each Keeps front → (k : ℕ) → k + size w ≤ length front → AsUndamaged D (front ++ (cut ++ rest)) k k
  pub behind :
      (front cut rest : List Change) → Each Keeps front → Each Keeps rest → (j : ℕ) → j + size w ≤ length rest →
      AsUndamaged D (front ++ (cut ++ rest)) (length front + length (sent cut) + j) (length front + length (received cut) + j)

-- First sentence: for every file and window, the settle count among its three numbers. Of any string, so of a coded one.
pub record DamageDoesNotTravel : Type 0 where
  pub own : (f : List ℕ) (w : Window) → Undamaged w (StringDecoded f w)
  pub from_C : (f : List ℕ) (w : Window) → Undamaged w (StringDecodedFromC f w)
  -- "below O": where the undamaged string is not refused and every letter altered to or added is below O, no call with room for its bytes
  -- refuses the damaged one
  pub accepted :
      (f : List ℕ) (w : Window) (cs : List Change) (count : ℕ) (after : List ℕ) → StringDecoded f w (sent cs) count after →
      Each (NewBelow (outputs_of f)) cs → (before' : List ℕ) (r' : Result ℕ Refusal) (after' : List ℕ) →
      places (length (received cs)) w ≤ length before' → StringPromise f w (received cs) before' r' after' →
      r' ≡ Ok (places (length (received cs)) w)
  pub accepted_from_C :
      (f : List ℕ) (w : Window) (cs : List Change) (count : ℕ) (after : List ℕ) → StringDecodedFromC f w (sent cs) count after →
      Each (NewBelow (outputs_of f)) cs → (before' result result' : List ℕ) (r' : ℕ) (after' : List ℕ) →
      places (length (received cs)) w ≤ length before' → result_bytes ≤ length result →
      StringFromHost f w (received cs) before' result r' after' result' → r' ≡ 0
  -- The sentences leave no place out: of the string sent, every place with a full window in which no letter was altered; and every place
  -- behind the last loss or addition with a full window in which none was altered, nor in as many letters ahead as the settle count says.
  pub every_place :
      (w : Window) (cs : List Change) → Each InPlace cs → (k : ℕ) → k < places (length (sent cs)) w →
      ((i : ℕ) → k ≤ i → i < k + size w → AlteredAt cs i → ⊥) → WindowKept cs w k
  pub every_place_behind :
      (w : Window) (front rest : List Change) → Each InPlace rest → (j : ℕ) → w.settle ≤ j →
      length (sent front) + j < places (length (sent (front ++ rest))) w →
      ((i : ℕ) → j ≤ i + w.settle → i < j + size w → AlteredAt rest i → ⊥) → SettledKept rest w j

-- ---- with the round trip: the letters are those that went in

-- byte k' of the damaged string was written, and is the letter at place k + b of the input xs
abbrev pub WentIn : Calls → Window → List ℕ → List Change → ℕ → ℕ → Type 0
WentIn D w xs cs k k' =
    (count : ℕ) (after : List ℕ) → D (received cs) count after → (k' < count) × (get_or after k' 0 ≡ get_or xs (k + w.before) 0)

-- Of a string coded from xs, at the places named above that have as many letters sent ahead of the window as its settle count says; those
-- letters may be damaged.
pub record DamagedBack (w : Window) (D : Calls) (xs coded : List ℕ) : Type 0 where
  pub altered :
      (cs : List Change) → sent cs ≡ coded → Each InPlace cs → (k : ℕ) → w.settle ≤ k → WindowKept cs w k → WentIn D w xs cs k k
  pub lost_or_added :
      (front rest : List Change) → sent (front ++ rest) ≡ coded → Each InPlace rest → (j : ℕ) → SettledKept rest w j →
      Shifted (WentIn D w xs) front rest j
  pub anywhere :
      (cs : List Change) → sent cs ≡ coded → (k k' : ℕ) → w.settle ≤ k → KeptFrom cs (size w) k k' → WentIn D w xs cs k k'

-- For each outcome that the calls promise: the run has room and writes to after₁, the search, in whatever order and with whatever settle
-- count, reports w.
abbrev pub DamagedComeBack : Type 0
DamagedComeBack =
    (f : List ℕ) (s : ℕ) (xs : List ℕ) → Coded f s xs →
    (before₁ : List ℕ) (r₁ : Result RunEnd Refusal) (after₁ : List ℕ) → length xs ≤ length before₁ → RunPromise f s xs before₁ r₁ after₁ →
    (o : Order) (p : ℕ) (before₂ : List ℕ) (w : Window) (after₂ : List ℕ) → SearchPromise o f p before₂ (Ok (Least w)) after₂ →
    DamagedBack w (StringDecoded f w) xs (take (length xs) after₁)

-- The same from C, with the window and the number of letters sent as the host reads them.
abbrev pub DamagedComeBackFromC : Type 0
DamagedComeBackFromC =
    (f : List ℕ) (s : ℕ) (xs : List ℕ) → Coded f s xs → FieldHolds (length xs) →
    (before₁ result₁ : List ℕ) (r₁ : ℕ) (after₁ result₁' : List ℕ) → length xs ≤ length before₁ → result_bytes ≤ length result₁ →
    RunFromHost f s xs before₁ result₁ r₁ after₁ result₁' →
    (p : ℕ) (before₂ result₂ after₂ result₂' : List ℕ) → SearchFromHost f p before₂ result₂ 0 after₂ result₂' → field_at result₂' 0 ≡ 0 →
    DamagedBack (window_read result₂' p) (StringDecodedFromC f (window_read result₂' p)) xs (take (field_at result₁' 0) after₁)
